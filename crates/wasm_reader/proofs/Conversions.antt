-- This file proves that an opcode with immediates of another number or type is no instruction.
use Rattle.wasm_base.proofs.Words.{◌≡◌, ◌≢◌, ℕ, zero, suc, ◌+◌, ◌<◌, ◌≤◌, List, [], ◌∷◌, Some, None, map, get_or, length, length-map, sym, ap, subst, ◌∙◌, arith, true, ltb-true}
use Rattle.std.proofs.Math.Dec.{ltb}
use Rattle.wasm_insn.proofs.Words.{table, shape_of, Argument}
use Rattle.wasm_insn.specs.declared.op.Op.{Op}
use Rattle.wasm_insn.specs.declared.op.Shape.{Shape}
use Rattle.wasm_insn.specs.declared.arguments.Arg.{Arg}
use Rattle.wasm_insn.specs.Arguments.{part_of, flag}
use Rattle.wasm_insn.specs.Parts.{parts_of}
use Rattle.wasm_insn.specs.Views.{argument_view}
use Rattle.wasm_reader.specs.Conversions.{HasSmallFlags, IsNoInstruction}

module _ (op : Op) where
  pub no_shape : (xs : List Argument) → shape_of table op ≡ None → IsNoInstruction op xs
  no_shape xs e = record { none = λ shape has parts small. absurd (cc (e, has)) }

  pub not_of_shape : (s : Shape) (xs : List Argument) → shape_of table op ≡ Some s → shape_of table op ≢ Some s → IsNoInstruction op xs
  not_of_shape s xs e differs = absurd (differs e)

  -- Immediates of other types than the shape's.
  wrong_parts : (s : Shape) (xs : List Argument) → shape_of table op ≡ Some s → (map part_of xs ≡ parts_of s → ⊥) → IsNoInstruction op xs
  wrong_parts s xs e differs = record {
    none = λ shape has parts small.
        let both : Some shape ≡ Some s = sym has ∙ e in
        let same : shape ≡ s = cc both in
        differs (parts ∙ ap parts_of same);
  }

  module _ {A : Type 0} (s : Shape) (items : List (Arg A)) (shaped : shape_of table op ≡ Some s) where
    wrong_count : length items ≢ length (parts_of s) → IsNoInstruction op (map argument_view items)
    wrong_count differs = wrong_parts s (map argument_view items) shaped (λ h. differs (sym (length-map items argument_view) ∙ sym (length-map (map argument_view items) part_of) ∙ ap length h))

    pub too_few : length items < length (parts_of s) → IsNoInstruction op (map argument_view items)
    too_few l = wrong_count (λ h. omega (arith, l, h))

    pub too_many : length (parts_of s) + 1 ≤ length items → IsNoInstruction op (map argument_view items)
    too_many l = wrong_count (λ h. omega (arith, l, h))

    -- An argument of another type than the shape's immediate at its index.
    pub wrong_at : (k : ℕ) (a : Arg A) → a ≡ get_or items k a → ltb k (length (parts_of s)) ≡ true → length (parts_of s) ≤ length items → part_of (argument_view a) ≢ get_or (parts_of s) k (part_of (argument_view a)) → IsNoInstruction op (map argument_view items)
    wrong_at k a is within enough differs = wrong_parts s (map argument_view items) shaped (λ h. differs (at items k (omega (arith, ltb-true k (length (parts_of s)) within, enough)) is ∙ ap (λ ps. get_or ps k (part_of (argument_view a))) h))
      where
        at : (items : List (Arg A)) (k : ℕ) → k < length items → a ≡ get_or items k a → part_of (argument_view a) ≡ get_or (map part_of (map argument_view items)) k (part_of (argument_view a))
        at [] k within is = absurd (omega (arith, within))
        at (x ∷ items) zero within is = ap (λ y. part_of (argument_view y)) is
        at (x ∷ items) (suc k) within is = at items k (omega (arith, within)) is

pub ruleset conversion_steps = (not_of_shape, too_few, too_many, wrong_at)

-- ---- the flags of a cast

pub large_flags : {A : Type 0} (op : Op) (items : List (Arg A)) (a : Arg A) (n : ℕ) → a ≡ get_or items 0 a → 4 ≤ length items → argument_view a ≡ flag n → 4 ≤ n → IsNoInstruction op (map argument_view items)
large_flags op [] a n is enough at large = absurd (omega (arith, enough))
large_flags op (x ∷ items) a n is enough at large = record {
  none = λ shape has parts small.
      let below : n < 4 = subst HasSmallFlags (ap argument_view (sym is) ∙ at) small.0 in
      omega (arith, below, large);
}
