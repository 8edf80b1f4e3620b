-- This file proves that bodies are unambiguous, and that a longer body continues where a shorter
-- one ends.
use Rattle.wasm_base.proofs.Words.{◌≡◌, ◌≢◌, ℕ, List, [], ◌∷◌, ◌++◌, length, false, arith, Ok, Option, refl, sym, ap, subst, ◌∙◌, ◌≤◌, append_assoc, append-nil, Count, size, Mode, minimal}
use Rattle.wasm_base.proofs.Words.{padded, u32, size_prefixed, pair, members, vec, Unambiguous, UnambiguousWhole, DecodesBack, longest, size_prefixed_encoding, HasEncodableSize, val_type}
use Rattle.wasm_base.proofs.Words.{val_encoding, mapped_whole, pair_unambiguous, pair_whole, vec_unambiguous, size_prefixed_unambiguous, members_go_on, u32_unambiguous, groups_encoding-last}
use Rattle.wasm_base.proofs.Words.{val_unambiguous, val-encodings, decodes_uniquely, size_prefixed_encodes, u32_encodes, vec_encodes}
use Rattle.std.specs.Iterator.{IsFinite}
use Rattle.std.specs.declared.vec.Vec.{Vec}
use Rattle.wasm_base.specs.Once.{AppendsOnce, GivesVec, YieldsEncodable}
use Rattle.wasm_insn.specs.declared.instruction.Instruction.{Instruction}
use Rattle.wasm_insn.proofs.Words.{Plain, instruction, table, instruction_encoding, IsWellFormedInstruction, unique, any_begins, lists_whole}
use Rattle.wasm_code.specs.{normal_row, Run, run_encoding, locals_encoding, IsRun, Body, body_of, body, IsWellFormedBody, IsPaddedBody, and_then, Grows, GrowsBy, HasLocals, BeginsWithRuns}
use Rattle.wasm_code.specs.{ContinuesWith, HasOffsets, FindsAdded}
use Rattle.wasm_code.proofs.ExpressionLaws.{members_join, members_one, normal_encodes}

-- ---- unambiguous

pub runs_unambiguous : Unambiguous (vec (pair u32 val_type))
runs_unambiguous = vec_unambiguous (pair_unambiguous u32_unambiguous val_unambiguous)

pub body_whole : UnambiguousWhole body
body_whole =
    mapped_whole body_of (λ x y e. ap (λ b. (b.runs, b.code)) e)
    (pair_whole runs_unambiguous lists_whole)

pub size_prefixed_body_unambiguous : Unambiguous (size_prefixed body)
size_prefixed_body_unambiguous = size_prefixed_unambiguous body_whole

-- A raw body that encodes a body decodes to it alone, after its size prefix.
pub body_decodes : (bytes : List ℕ) → HasEncodableSize bytes → DecodesBack (size_prefixed body) (IsWellFormedBody bytes) (size_prefixed_encoding bytes)
body_decodes bytes encodable = record { for_each = λ x h. decodes_uniquely {F = size_prefixed body} size_prefixed_body_unambiguous (size_prefixed_encodes body bytes x encodable h.encodes) }

-- ---- bodies that grow

grown : (mode : Mode) (more old : List ℕ) (x : Body) (is : List Plain) → body mode old x → members (instruction table) mode more is → body mode (old ++ more) (and_then x is)
grown mode more old x is h g =
    let p = h.2 in
    let runs : h.0.0 ≡ x.runs = ap (λ b. b.runs) h.1 in
    let code : h.0.1 ≡ x.code = ap (λ b. b.code) h.1 in (
      (x.runs, x.code ++ is),
      refl,
      record {
        front = p.front;
        back = p.back ++ more;
        joined = ap (λ z. z ++ more) p.joined ∙ append_assoc p.front p.back more;
        first = subst (λ r. vec (pair u32 val_type) mode p.front r) runs p.first;
        second = members_join (instruction table) mode p.back more x.code is (subst (λ c. members (instruction table) mode p.back c) code p.second) g;
      },
    )

pub grows : {A : Type 0} (i : Instruction A) (old new : List ℕ) → new ≡ old ++ instruction_encoding i → Grows i old new
grows i old new e = record {
  encoding = e;
  plain = λ h x held.
      subst (λ z. IsWellFormedBody z (and_then x (normal_row i ∷ []))) (sym e)
      (record { encodes = grown minimal (instruction_encoding i) old x (normal_row i ∷ []) held.encodes (members_one (instruction table) minimal (instruction_encoding i) (normal_row i) (normal_encodes i h)) });
}

pub grows_by : (more old new : List ℕ) → new ≡ old ++ more → GrowsBy more old new
grows_by more old new e = record { bytes = e; plain = λ x is held encodes. subst (λ z. IsWellFormedBody z (and_then x is)) (sym e) (record { encodes = grown minimal more old x is held.encodes encodes }) }

-- A minimal encoding of a body is a possibly padded one.
pub body_included : (bytes : List ℕ) (x : Body) → IsWellFormedBody bytes x → IsPaddedBody bytes x
body_included bytes x plain = record { encodes = body_whole.encodings.included minimal padded tt bytes x plain.encodes }

pub grows_padded : (old more : List ℕ) (x : Body) (is : List Plain) → IsPaddedBody old x → members (instruction table) padded more is → IsPaddedBody (old ++ more) (and_then x is)
grows_padded old more x is h g = record { encodes = grown padded more old x is h.encodes g }

pub grows_by_instruction : {A : Type 0} (i : Instruction A) (old : List ℕ) (x : Body) → IsWellFormedInstruction i → IsPaddedBody old x → IsPaddedBody (old ++ instruction_encoding i) (and_then x (normal_row i ∷ []))
grows_by_instruction i old x plain h =
    grows_padded old (instruction_encoding i) x (normal_row i ∷ []) h
    (members_one (instruction table) padded (instruction_encoding i) (normal_row i) (unique.encodings.included minimal padded tt (instruction_encoding i) (normal_row i) (normal_encodes i plain)))

-- ---- locals

pub run_encodes : (run : Run) → IsRun run → pair u32 val_type minimal (run_encoding run) run
run_encodes run h = record { front = _; back = val_encoding run.1; joined = refl; first = u32_encodes run.0 h.0; second = val-encodings.encodes run.1 h.1 }

pub has_locals : (runs : List Run) (bytes : List ℕ) → bytes ≡ locals_encoding runs → HasLocals runs bytes
has_locals runs bytes e = record {
  encoding = e;
  plain = λ count are. record {
    encodes = (
      (runs, []),
      refl,
      record {
        front = bytes;
        back = [];
        joined = sym (append-nil bytes);
        first = subst (λ z. vec (pair u32 val_type) minimal z runs) (sym e) (vec_encodes (pair u32 val_type) IsRun run_encoding run_encodes runs (record { count = count; members = are }));
        second = refl;
      },
    );
  };
}

-- ---- the next instruction

-- The instructions of a longer body continue where those of the shorter one end.
continues : (front more : List ℕ) (x y : Body) → body minimal front x → body minimal (front ++ more) y → (next : List Plain) × (y ≡ and_then x next) × members (instruction table) minimal more next
continues front more x y h g =
    let a = h.2 in
    let b = g.2 in
    let r = runs_unambiguous.unique minimal a.front b.front (a.back ++ more) b.back h.0.0 g.0.0 a.first b.first (sym (append_assoc a.front a.back more) ∙ ap (λ z. z ++ more) (sym a.joined) ∙ b.joined) in
    let m = members_go_on (λ b. Unit {0}) any_begins unique minimal a.back more h.0.1 g.0.1 a.second (subst (λ z. members (instruction table) minimal z g.0.1) (sym r.2) b.second) in
    let runs : y.runs ≡ x.runs = ap (λ z. z.runs) (sym g.1) ∙ sym r.0 ∙ ap (λ z. z.runs) h.1 in
    let code : y.code ≡ x.code ++ m.0 = ap (λ z. z.code) (sym g.1) ∙ m.1 ∙ ap (λ z. z.code ++ m.0) h.1 in
    (m.0, λ i. record { runs = runs i; code = code i }, m.2)

pub offsets : HasOffsets
offsets = record { begins = λ front more x y h g longer. let on = continues front more x y h g in first more x y longer on.0 on.1 on.2 }
  where
    first : (more : List ℕ) (x y : Body) → more ≢ [] → (next : List Plain) → y ≡ and_then x next → members (instruction table) minimal more next → (i : Plain) × ContinuesWith more x y i
    first more x y longer [] e g = absurd (longer g)
    first more x y longer (i ∷ is) e g = (i, record { others = is; same = e; encodes = g })

pub finds_added : {A : Type 0} (i : Instruction A) → FindsAdded i
finds_added i = record {
  begins = λ front rest x y plain h g. let on = continues front (instruction_encoding i ++ rest) x y h g in first rest x y plain on.0 on.1 on.2;
}
  where
    first : (rest : List ℕ) (x y : Body) → IsWellFormedInstruction i → (next : List Plain) → y ≡ and_then x next → members (instruction table) minimal (instruction_encoding i ++ rest) next → ContinuesWith (instruction_encoding i ++ rest) x y (normal_row i)
    first rest x y plain [] e g =
        let b = any_begins minimal (instruction_encoding i) (normal_row i) (normal_encodes i plain) in
        absurd (cc (ap (λ z. z ++ rest) (sym b.2) ∙ g))
    first rest x y plain (j ∷ js) e g =
        let same = unique.unique minimal (instruction_encoding i) g.0 rest g.1 (normal_row i) j (normal_encodes i plain) g.3 g.2 in
        let is : j ≡ normal_row i = sym same.0 in
        record { others = js; same = subst (λ z. y ≡ and_then x (z ∷ js)) is e; encodes = subst (λ z. members (instruction table) minimal (instruction_encoding i ++ rest) (z ∷ js)) is g }

-- ---- calls

-- The items of an iterator of known length are encoded as the runs.
pub runs_given : {U S A : Type 0} (becomes : U → S → Type 0) (gives : S → Option Run → S → Type 0) (remaining : S → Count) (Encodable : Run → Type 0) (elements : U) (it : S) (count : ℕ) (old new : Vec ℕ A)
    → becomes elements it × IsFinite (remaining it) × (size (remaining it) ≡ count) × (count ≤ longest) → old.items ≡ [] → AppendsOnce (GivesVec gives Encodable run_encoding it) (YieldsEncodable gives Encodable it) old new (Ok (tt {0}))
    → BeginsWithRuns becomes gives remaining elements (Ok new.items)
runs_given becomes gives remaining Encodable elements it count old new begun e h =
    let given = h.ok in
    let runs = given.1 in
    record {
      ok = (it, runs.items, begun.0, runs.drained, runs.encodable.count, has_locals runs.items new.items (given.2 ∙ ap (λ z. z ++ given.0) e ∙ runs.is));
      too_long = λ in_limit is. absurd (cc is);
      too_many = λ many. absurd (omega (arith, many it begun.0, begun.2, begun.3));
    }

pub ruleset offset = (offsets, finds_added)

-- ---- no locals

pub no_locals : (runs : List Run) (bytes : List ℕ) → length runs ≡ 0 → HasLocals runs bytes → bytes ≡ 0x00 ∷ []
no_locals [] bytes l h = h.encoding ∙ ap (λ z. z ++ []) (groups_encoding-last false 0x80 0 (omega arith))
no_locals (run ∷ runs) bytes l h = absurd (omega (arith, l))
