-- This file proves which index the bytes of `ref.func` encode.
use Rattle.wasm_base.proofs.Words.{◌≡◌, ℕ, ◌<◌, take, drop, slice_index_or, ◌^◌, List, [], ◌∷◌, ◌++◌, length, ◌-◌, ◌≤◌, ◌≢◌, Some, None, append-nil, refl, sym, ap, subst, ◌∙◌, arith, padded}
use Rattle.wasm_base.proofs.Words.{groups_sum, unsigned_encoding, Rejects, u32, fixed, groups, HasGroups, fixed_unambiguous, tagged_at, groups_apart, u32_unambiguous, front_and_rest, u32_in}
use Rattle.std.proofs.Common.{IfSome}
use Rattle.wasm_code.specs.declared.first.First.{First}
use Rattle.wasm_code.specs.{BeginsWithRefFunc, IsRefFunc, first_encoding, index_of}
use Rattle.wasm_code.specs.declared.first.First.TheVariants as firsts

-- The bytes after the opcode begin with the index.
after_op : (bytes rest : List ℕ) (f : ℕ) → bytes ≡ 0xD2 ∷ rest → BeginsWithRefFunc bytes f → (t q : List ℕ) × (rest ≡ t ++ q) × u32 padded t f
after_op bytes rest f e h =
    let r = tagged_at {F = fixed (0xD2 ∷ []) (tt {0})} {G = λ u. u32} (fixed_unambiguous (0xD2 ∷ []) (tt {0})) padded (0xD2 ∷ []) tt (refl, refl) rest h.read.front h.rest f (sym e ∙ h.read.split) h.read.encodes in
    (r.0, h.rest, r.1, r.2)

-- The index is the sum of the groups there.
same_index : (bytes rest after : List ℕ) (n power last f : ℕ) → bytes ≡ 0xD2 ∷ rest → HasGroups 5 rest n power last after → BeginsWithRefFunc bytes f → (f ≡ n) × (f < 2 ^ 32)
same_index bytes rest after n power last f e g h =
    let a = after_op bytes rest f e h in
    let same = groups_apart a.0 g.read.front a.1 after a.3.groups g.read.encodes.1 (sym a.2 ∙ g.read.split) in
    (sym a.3.total ∙ ap groups_sum same.0 ∙ ap groups_sum g.read.encodes.0 ∙ g.total, a.3.range)

index_begins : (bytes rest after : List ℕ) (n power last : ℕ) → bytes ≡ 0xD2 ∷ rest → HasGroups 5 rest n power last after → n < 2 ^ 32 → BeginsWithRefFunc bytes n
index_begins bytes rest after n power last e g low = record {
  rest = after;
  read = record {
    front = 0xD2 ∷ g.read.front;
    split = e ∙ ap (λ z. 0xD2 ∷ z) g.read.split;
    encodes = (
      (tt, n),
      refl,
      record {
        front = 0xD2 ∷ [];
        back = g.read.front;
        joined = refl;
        first = (refl, refl);
        second = record { groups = g.read.encodes.1; total = ap groups_sum g.read.encodes.0 ∙ g.total; range = low; size = g.read.encodes.2 };
      },
    );
  };
}

-- The opcode and the suffix, as a slice pattern splits the bytes.
with_op : (bytes : List ℕ) → 1 ≤ length bytes → slice_index_or bytes 0 0 ≡ 0xD2 → bytes ≡ 0xD2 ∷ take (length bytes - 1) (drop 1 bytes)
with_op bytes l op = front_and_rest bytes l ∙ ap (λ b. b ∷ take (length bytes - 1) (drop 1 bytes)) op

pub index_found : (bytes after : List ℕ) (n power last : ℕ) → 1 ≤ length bytes → slice_index_or bytes 0 0 ≡ 0xD2 → HasGroups 5 (take (length bytes - 1) (drop 1 bytes)) n power last after → n < 2 ^ 32 → IsRefFunc bytes (Some n)
index_found bytes after n power last l op g low =
    let rest = take (length bytes - 1) (drop 1 bytes) in
    let e = with_op bytes l op in
    record {
      exactly = λ f. (
        λ is. let same : n ≡ f = cc is in subst (BeginsWithRefFunc bytes) same (index_begins bytes rest after n power last e g low),
        λ h. ap Some (sym (same_index bytes rest after n power last f e g h).0),
      );
    }

no_index : (bytes : List ℕ) → ((f : ℕ) → BeginsWithRefFunc bytes f → ⊥) → IsRefFunc bytes None
no_index bytes none = record { exactly = λ f. (λ is. absurd (cc is), λ h. absurd (none f h)) }

pub index_large : (bytes after : List ℕ) (n power last : ℕ) → 1 ≤ length bytes → slice_index_or bytes 0 0 ≡ 0xD2 → HasGroups 5 (take (length bytes - 1) (drop 1 bytes)) n power last after → 2 ^ 32 ≤ n → IsRefFunc bytes None
index_large bytes after n power last l op g high =
    no_index bytes (λ f h. let same = same_index bytes (take (length bytes - 1) (drop 1 bytes)) after n power last f (with_op bytes l op) g h in omega (arith, high, same.0, same.1))

pub index_missing : (bytes : List ℕ) → 1 ≤ length bytes → slice_index_or bytes 0 0 ≡ 0xD2 → Rejects (groups 5) padded (take (length bytes - 1) (drop 1 bytes)) → IsRefFunc bytes None
index_missing bytes l op none =
    no_index bytes (λ f h.
    let a = after_op bytes (take (length bytes - 1) (drop 1 bytes)) f (with_op bytes l op) h in
    none.none a.0 a.1 (record { front = a.0; split = a.2; encodes = (refl, a.3.groups, a.3.size) }))

op_there : (bytes : List ℕ) (f : ℕ) → BeginsWithRefFunc bytes f → (rest : List ℕ) × (bytes ≡ 0xD2 ∷ rest)
op_there bytes f h =
    let p = h.read.encodes.2 in
    (p.back ++ h.rest, h.read.split ∙ ap (λ z. z ++ h.rest) (p.joined ∙ ap (λ z. z ++ p.back) p.first.0))

pub other_op : (bytes : List ℕ) → slice_index_or bytes 0 0 ≢ 0xD2 → IsRefFunc bytes None
other_op bytes other = no_index bytes (λ f h. let op = op_there bytes f h in other (ap (λ z. slice_index_or z 0 0) op.1))

pub no_bytes : (bytes : List ℕ) → bytes ≡ [] → IsRefFunc bytes None
no_bytes bytes e = no_index bytes (λ f h. let op = op_there bytes f h in absurd (cc (sym e ∙ op.1)))

-- The opcode, then the encoding of an index.
index_written : (bytes rest : List ℕ) (n : ℕ) → n < 2 ^ 32 → bytes ≡ 0xD2 ∷ (unsigned_encoding n ++ rest) → IsRefFunc bytes (Some n)
index_written bytes rest n low e =
    let begins : BeginsWithRefFunc bytes n = record {
      rest = rest;
      read = record {
        front = 0xD2 ∷ unsigned_encoding n;
        split = e;
        encodes = ((tt, n), refl, record { front = 0xD2 ∷ []; back = unsigned_encoding n; joined = refl; first = (refl, refl); second = u32_in padded n low });
      };
    } in
    record {
      exactly = λ f. (
        λ is. let same : n ≡ f = cc is in subst (BeginsWithRefFunc bytes) same begins,
        λ h.
            let a = after_op bytes (unsigned_encoding n ++ rest) f e h in
            ap Some (u32_unambiguous.unique padded (unsigned_encoding n) a.0 rest a.1 n f (u32_in padded n low) a.3 a.2).0,
      );
    }

-- The first instruction, which is kept as a value, then the bytes after it.
pub first_index : (first : First) (rest : List ℕ) → IfSome (index_of first) (λ index. index < 2 ^ 32) → IsRefFunc (first_encoding first ++ rest) (index_of first)
first_index (firsts.GlobalGet index) rest low = other_op _ (λ e. let same : 0x23 ≡ 0xD2 = e in omega (arith, same))
first_index (firsts.RefNull ty) rest low = other_op _ (λ e. let same : 0xD0 ≡ 0xD2 = e in omega (arith, same))
first_index (firsts.RefFunc index) rest low = index_written _ rest index low (ap (λ z. 0xD2 ∷ (z ++ rest)) (append-nil (unsigned_encoding index)))
first_index (firsts.I32Const value) rest low = other_op _ (λ e. let same : 0x41 ≡ 0xD2 = e in omega (arith, same))
first_index (firsts.I64Const value) rest low = other_op _ (λ e. let same : 0x42 ≡ 0xD2 = e in omega (arith, same))
first_index (firsts.F32Const value) rest low = other_op _ (λ e. let same : 0x43 ≡ 0xD2 = e in omega (arith, same))
first_index (firsts.F64Const value) rest low = other_op _ (λ e. let same : 0x44 ≡ 0xD2 = e in omega (arith, same))

pub ruleset ref_func_steps = (index_found, index_large, index_missing, other_op, no_bytes)
