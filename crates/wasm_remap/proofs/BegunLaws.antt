-- This file proves bodies that begin with inserted instructions.
use Rattle.wasm_base.proofs.Words.{◌≡◌, ◌≢◌, ℕ, zero, suc, ◌+◌, ◌<◌, List, [], ◌∷◌, ◌++◌, length, Option, Some, Result, Ok, Err, refl, sym, ap, ap₂, subst, ◌∙◌, arith, append_assoc, append-nil, length-append, AllZip, AreGroups}
use Rattle.wasm_base.proofs.Words.{Format, Decodes, Rejects, RejectsWhole, padded, standard, any_bytes, members, pair, size_prefixed, u32, vec, val_type, decodes_same, u32_unambiguous, size_prefixed_bytes_unambiguous, unsigned_encoding, joined, IsEncodableSection, vec_of_pieces}
use Rattle.std.proofs.lemmas.List.{append_cancel_right}
use Rattle.wasm_base.specs.declared.fault.ReadFault.TheVariants.{Memory}
use Rattle.wasm_code.proofs.Words.{Body, body}
use Rattle.wasm_code.proofs.BodyLaws.{runs_unambiguous}
use Rattle.wasm_code.specs.Bodies.{Run}
use Rattle.wasm_code.proofs.ExpressionLaws.{members_join}
use Rattle.wasm_insn.proofs.Words.{Plain, instruction, table}
use Rattle.wasm_reader.specs.Words.{LocatedBody}
use Rattle.wasm_reader.specs.Iterating.{EndsBodies, GivesBody, NextBody, Visiting}
use Rattle.wasm_reader.specs.declared.read_error.ReadError.{ReadError}
use Rattle.wasm_remap.specs.Begun.{AddsBodies, EncodeBodies, GainsCode, IsBegun, begun_body, each_from}

-- ---- one body

-- The locals, the inserted instructions and the old ones.
pub joined_as : (locals : List ℕ) (code : List Plain) (old : List ℕ) {first between new : List ℕ} → first ≡ locals → GainsCode code first between → new ≡ between ++ old → IsBegun locals code old new
joined_as locals code old a h b = record { added = h.encoding; is = b ∙ ap (λ s. s ++ old) (h.added ∙ ap (λ s. s ++ h.encoding) a) ∙ append_assoc locals h.encoding old; encodes = h.encodes }

-- A body that begins with them.
pub begun_encodes : (bytes locals rest : List ℕ) (runs : List Run) (code : List Plain) (new : List ℕ) (x : Body) → Decodes (vec (pair u32 val_type)) standard bytes runs rest → bytes ≡ locals ++ rest → IsBegun locals code rest new → body standard bytes x → body standard new (begun_body code x)
begun_encodes bytes locals rest runs code new x d e j h =
    let parts = h.2 in
    let same = decodes_same runs_unambiguous d (record { front = parts.front; split = parts.joined; encodes = parts.first }) in
    let front = append_cancel_right locals parts.front rest (sym e ∙ parts.joined ∙ ap (λ s. parts.front ++ s) (sym same.1)) in (
      (h.0.0, code ++ h.0.1),
      ap (begun_body code) h.1,
      record {
        front = parts.front;
        back = j.added ++ parts.back;
        joined = j.is ∙ ap₂ (λ a b. a ++ (j.added ++ b)) front same.1;
        first = parts.first;
        second = members_join (instruction table) standard j.added parts.back code h.0.1 j.encodes parts.second;
      },
    )

-- ---- the bodies of a section

groups_some : (s : List ℕ) → AreGroups s → 0 < length s
groups_some [] h = absurd h
groups_some (b ∷ s) h = omega arith

-- Size-prefixed bytes are not empty.
prefixed_some : {X : Type 0} (F : Format X) (s : List ℕ) (x : X) → size_prefixed F standard s x → 0 < length s
prefixed_some F s x h = omega (arith, ap length h.joined, length-append h.front h.content, groups_some h.front h.size.groups)

-- No bodies are left at the end.
pub none_left : (bodies : List Body) → members (size_prefixed body) standard [] bodies → bodies ≡ []
none_left [] h = refl
none_left (x ∷ bodies) h = absurd (omega (arith, ap length h.2, length-append h.0 h.1, prefixed_some body h.0 x h.3))

-- A result of `next` that is a body.
pub given_body : {old new : Visiting} {r : Result LocatedBody ReadError} {b : LocatedBody} → r ≡ Ok b → NextBody old (Some r) new → GivesBody old b new
given_body {old = old} {new = new} e h = subst (λ z. NextBody old (Some z) new) e h

given_some : {old new : Visiting} {b : LocatedBody} (g : GivesBody old b new) → 0 < length g.decodes.front
given_some {b = b} g = prefixed_some any_bytes g.decodes.front b.bytes (size_prefixed_bytes_unambiguous.encodings.included padded standard tt g.decodes.front b.bytes g.decodes.encodes)

-- Fewer bytes are left after a body.
pub body_shrinks : {old new : Visiting} {b : LocatedBody} → GivesBody old b new → length new.rest < length old.rest
body_shrinks {new = new} g = omega (arith, ap length g.decodes.split, length-append g.decodes.front new.rest, given_some g)

-- The next of the bodies has the bytes that the iterator returns.
pub record HasNext (todo : List Body) (bytes rest : List ℕ) : Type 0 where
  pub x : Body
  pub others : List Body
  pub is : todo ≡ x ∷ others
  pub decodes : body standard bytes x
  pub left : members (size_prefixed body) standard rest others

pub next_body : {old new : Visiting} {b : LocatedBody} (todo : List Body) → GivesBody old b new → members (size_prefixed body) standard old.rest todo → HasNext todo b.bytes new.rest
next_body {old = old} {new = new} {b = b} [] g h = absurd (omega (arith, ap length (sym h ∙ g.decodes.split), length-append g.decodes.front new.rest, given_some g))
next_body {old = old} {new = new} {b = b} (x ∷ others) g h =
    let given = size_prefixed_bytes_unambiguous.encodings.included padded standard tt g.decodes.front b.bytes g.decodes.encodes in
    let sized = h.3 in
    let same = size_prefixed_bytes_unambiguous.unique standard h.0 g.decodes.front h.1 new.rest sized.content b.bytes (record { front = sized.front; content = sized.content; joined = sized.joined; size = sized.size; encodes = refl }) given (sym h.2 ∙ g.decodes.split) in
    record {
      x = x;
      others = others;
      is = refl;
      decodes = subst (λ s. body standard s x) same.0 sized.encodes;
      left = subst (λ s. members (size_prefixed body) standard s others) same.2 h.4;
    }

pub each_push : {X : Type 0} (f : ℕ → X → List X) (xs : List X) (first : ℕ) (x : X) → each_from f first xs ++ f (first + length xs) x ≡ each_from f first (xs ++ x ∷ [])
each_push f [] first x =
    let same : first + 0 ≡ first = omega arith in
    ap (λ n. f n x) same ∙ sym (append-nil (f first x))
each_push f (y ∷ xs) first x =
    let same : first + suc (length xs) ≡ suc first + length xs = omega arith in
    let others = each_from f (suc first) xs in
    append_assoc (f first y) others (f (first + suc (length xs)) x) ∙ ap (λ l. f first y ++ l) (ap (λ n. others ++ f n x) same ∙ each_push f xs (suc first) x)

pub zip_join : {X Y : Type 0} (R : X → Y → Type 0) (xs us : List X) (ys vs : List Y) → AllZip R xs ys → AllZip R us vs → AllZip R (xs ++ us) (ys ++ vs)
zip_join R [] us [] vs h g = g
zip_join R [] us (z ∷ ys) vs h g = absurd h
zip_join R (z ∷ xs) us [] vs h g = absurd h
zip_join R (z ∷ xs) us (w ∷ ys) vs h g = (h.0, zip_join R xs us ys vs h.1 g)

-- The iterator has returned some of the bodies, and the new code section has these.
pub record HasEdited (f : ℕ → Body → List Body) (bodies : List Body) (it : Visiting) (entries : List (List ℕ)) (number : ℕ) : Type 0 where
  pub done : List Body
  pub todo : List Body
  pub all : bodies ≡ done ++ todo
  pub left : it.left ≡ length todo
  pub rest : members (size_prefixed body) standard it.rest todo
  pub encode : EncodeBodies entries (each_from f 0 done)
  pub counted : number ≡ length done

pub edited_none : {payload : List ℕ} {it : Visiting} {entries : List (List ℕ)} (f : ℕ → Body → List Body) (bodies : List Body) → Decodes u32 padded payload it.left it.rest → vec (size_prefixed body) standard payload bodies → entries ≡ [] → HasEdited f bodies it entries 0
edited_none {it = it} f bodies d h e =
    let read = u32_unambiguous.encodings.included padded standard tt d.front it.left d.encodes in
    let same = u32_unambiguous.unique standard d.front h.front it.rest h.back it.left (length bodies) read h.first (sym d.split ∙ h.joined) in
    record {
      done = [];
      todo = bodies;
      all = refl;
      left = same.0;
      rest = subst (λ s. members (size_prefixed body) standard s bodies) (sym same.2) h.second;
      encode = subst (λ es. EncodeBodies es []) (sym e) tt;
      counted = refl;
    }

pub edited_more : {f : ℕ → Body → List Body} {bodies : List Body} {old new : Visiting} {b : LocatedBody} {before after : List (List ℕ)} {number : ℕ} (more : ℕ) → HasEdited f bodies old before number → GivesBody old b new
    → ((x : Body) → body standard b.bytes x → AddsBodies (f number x) before after) → more ≡ number + 1 → HasEdited f bodies new after more
edited_more {f = f} {before = before} {number = number} more h g adds step =
    let n = next_body h.todo g h.rest in
    let added = adds n.x n.decodes in
    let from_none : length h.done ≡ 0 + length h.done = omega arith in
    record {
      done = h.done ++ n.x ∷ [];
      todo = n.others;
      all = h.all ∙ ap (λ l. h.done ++ l) n.is ∙ sym (append_assoc h.done (n.x ∷ []) n.others);
      left = omega (arith, h.left, g.left, ap length n.is);
      rest = n.left;
      encode = subst (λ es. EncodeBodies es (each_from f 0 (h.done ++ n.x ∷ []))) (sym added.is)
          (subst (λ xs. EncodeBodies (before ++ added.entries) xs) (ap (λ i. each_from f 0 h.done ++ f i n.x) (h.counted ∙ from_none) ∙ each_push f h.done 0 n.x)
          (zip_join (size_prefixed body standard) before added.entries (each_from f 0 h.done) (f number n.x) h.encode added.encodes));
      counted = omega (arith, step, h.counted, length-append h.done (n.x ∷ []));
    }

pub edited_all : {f : ℕ → Body → List Body} {bodies : List Body} {it : Visiting} {entries : List (List ℕ)} {number : ℕ} → HasEdited f bodies it entries number → it.rest ≡ [] → EncodeBodies entries (each_from f 0 bodies)
edited_all {f = f} {entries = entries} h e =
    let none = none_left h.todo (subst (λ s. members (size_prefixed body) standard s h.todo) e h.rest) in
    subst (λ bodies. EncodeBodies entries (each_from f 0 bodies)) (sym (h.all ∙ ap (λ l. h.done ++ l) none ∙ append-nil h.done)) h.encode

-- LEB128 that the standard's grammar admits is admitted as padded LEB128.
as_padded : {s : List ℕ} {n : ℕ} → u32 standard s n → u32 padded s n
as_padded h = record { groups = h.groups; total = h.total; range = h.range; size = h.size }

-- The number of bodies decodes.
pub no_number : {payload : List ℕ} (bodies : List Body) → vec (size_prefixed body) standard payload bodies → Rejects u32 padded payload → ⊥
no_number bodies h n = n.none (length bodies) h.back (record { front = h.front; split = h.joined; encodes = as_padded h.first })

-- A result of `next` that is an error.
pub given_error : {old new : Visiting} {r : Result LocatedBody ReadError} {e : ReadError} → r ≡ Err e → NextBody old (Some r) new → EndsBodies old e new
given_error {old = old} {new = new} e h = subst (λ z. NextBody old (Some z) new) e h

-- The iterator fails only if an allocation fails.
pub no_error : {f : ℕ → Body → List Body} {bodies : List Body} {old new : Visiting} {e : ReadError} {entries : List (List ℕ)} {number : ℕ} → HasEdited f bodies old entries number → EndsBodies old e new → e.cause ≢ Memory → ⊥
no_error {old = old} h ends other = go h.todo h.left h.rest
  where
    go : (todo : List Body) → old.left ≡ length todo → members (size_prefixed body) standard old.rest todo → ⊥
    go [] e rest = ends.more e rest
    go (x ∷ others) e rest = (ends.none other (λ z. omega (arith, e, z))).none rest.3.content rest.1 (record {
      front = rest.0;
      split = rest.2;
      encodes = record { front = rest.3.front; content = rest.3.content; joined = rest.3.joined; size = as_padded rest.3.size; encodes = refl };
    })

-- Each body that it returns decodes.
pub no_body : {f : ℕ → Body → List Body} {bodies : List Body} {old new : Visiting} {b : LocatedBody} {entries : List (List ℕ)} {number : ℕ} → HasEdited f bodies old entries number → GivesBody old b new → RejectsWhole body standard b.bytes → ⊥
no_body h g n =
    let next = next_body h.todo g h.rest in
    n.none next.x next.decodes

-- The payload of the new code section.
pub edited_payload : (entries : List (List ℕ)) (bodies : List Body) → IsEncodableSection entries → EncodeBodies entries bodies → vec (size_prefixed body) standard (unsigned_encoding (length entries) ++ joined entries) bodies
edited_payload entries bodies encodable h = vec_of_pieces standard (size_prefixed body) entries bodies encodable.count h
