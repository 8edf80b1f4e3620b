-- This file proves how readers decode subtypes and recursion groups.
use Rattle.wasm_base.proofs.Words.{Mode, Grammar, builders, admitted, is_admitted, padded_of, ◌≡◌, ◌≢◌, ℕ, map, List, [], length, Bool, true, false, sym, ap, subst, ◌∙◌, arith, map-id, Format, u32}
use Rattle.wasm_base.proofs.Words.{byte, mapped, such, choice, impossible, vec, Decodes, Rejects, vec_u32_unambiguous, byte_unambiguous, decodes_same, then_decodes, then_rejects_first}
use Rattle.wasm_base.proofs.Words.{then_rejects_second, mapped_decodes, mapped_rejects, such_decodes, such_none, tagged_decodes, tagged_none, tagged_rejects, tagged_after, tagged_after_none}
use Rattle.wasm_base.proofs.Words.{after_decodes, after_rejects, no_bytes, no_choice, not_begun, one_of_left, one_of_rejects, one_of_right}
use Rattle.wasm_types.specs.{Composite, Sub, TypeItem, single, group, after_composite, composite_type, HasFinalPrefix, sub_of, alone_of, supertypes_and, sub_tags, after_alone, sub_type, after_sub}
use Rattle.wasm_types.specs.{group_tags, group_type, type_item}
use Rattle.wasm_types.proofs.TypeLaws.{IsSubByte, after_in, sub_begins}
use Rattle.wasm_types.proofs.DecodeFields.{first_of_both, at_tag, not_tag, at_other, not_other}

-- ---- supertypes, then a composite type

same_list : {m : Mode} {bytes rest : List ℕ} (xs : List ℕ) → Decodes (vec u32) m bytes (map (λ n. n) xs) rest → Decodes (vec u32) m bytes xs rest
same_list {m = m} {bytes = bytes} {rest = rest} xs h = subst (λ ys. Decodes (vec u32) m bytes ys rest) (map-id xs) h

pub supertypes_decodes : {m : Mode} {bytes middle rest : List ℕ} {xs : List ℕ} {x : Composite} → Decodes (vec u32) m bytes (map (λ n. n) xs) middle → Decodes composite_type m middle x rest → Decodes supertypes_and m bytes (xs, x) rest
supertypes_decodes {xs = xs} h g = then_decodes (same_list xs h) g

pub supertypes_none : {m : Mode} {bytes : List ℕ} → Rejects (vec u32) m bytes → Rejects supertypes_and m bytes
supertypes_none none = then_rejects_first none

pub supertypes_none_after : {m : Mode} {bytes middle : List ℕ} {xs : List ℕ} → Decodes (vec u32) m bytes xs middle → Rejects composite_type m middle → Rejects supertypes_and m bytes
supertypes_none_after h none = then_rejects_second vec_u32_unambiguous h none

-- ---- supertypes of a final type

-- There is a supertype, or the grammar is the standard's.
pub prefix_listed : (w : Grammar) (xs : List ℕ) (x : Composite) → length xs ≢ 0 → HasFinalPrefix w (xs, x)
prefix_listed builders xs x p = omega (arith, p)
prefix_listed admitted xs x p = tt

pub prefix_standard : (w : Grammar) (xs : List ℕ) (x : Composite) (r : Bool) → r ≡ is_admitted w → r ≡ true → HasFinalPrefix w (xs, x)
prefix_standard builders xs x r is f = absurd (cc (is, f))
prefix_standard admitted xs x r is f = tt

no_prefix : (w : Grammar) (xs : List ℕ) (x : Composite) (r : Bool) → r ≡ is_admitted w → r ≡ false → length xs ≡ 0 → HasFinalPrefix w (xs, x) → ⊥
no_prefix builders xs x r is f z h = omega (arith, h, z)
no_prefix admitted xs x r is f z h = absurd (cc (is, f))

pub final_list_decodes : (w : Grammar) {bytes middle rest : List ℕ} {xs : List ℕ} {x : Composite} → Decodes (vec u32) (padded_of w) bytes (map (λ n. n) xs) middle → HasFinalPrefix w (xs, x) → Decodes composite_type (padded_of w) middle x rest
    → Decodes (such (HasFinalPrefix w) supertypes_and) (padded_of w) bytes (xs, x) rest
final_list_decodes w h p g = such_decodes (HasFinalPrefix w) (supertypes_decodes h g) p

pub final_list_empty : (w : Grammar) {bytes middle : List ℕ} (xs : List ℕ) (r : Bool) → Decodes (vec u32) (padded_of w) bytes (map (λ n. n) xs) middle → r ≡ is_admitted w → r ≡ false → length xs ≡ 0 → Rejects (such (HasFinalPrefix w) supertypes_and) (padded_of w) bytes
final_list_empty w xs r h is f z = record {
  none = λ p rest g.
      let parts = first_of_both (record { front = g.front; split = g.split; encodes = g.encodes.0 }) in
      let same = decodes_same vec_u32_unambiguous (same_list xs h) parts.1 in
      no_prefix w p.0 p.1 r is f (ap length (sym same.0) ∙ z) g.encodes.1;
}

pub final_list_none : (w : Grammar) {bytes : List ℕ} → Rejects (vec u32) (padded_of w) bytes → Rejects (such (HasFinalPrefix w) supertypes_and) (padded_of w) bytes
final_list_none w none = such_none (HasFinalPrefix w) (supertypes_none none)

pub final_list_none_after : (w : Grammar) {bytes middle : List ℕ} {xs : List ℕ} → Decodes (vec u32) (padded_of w) bytes xs middle → Rejects composite_type (padded_of w) middle → Rejects (such (HasFinalPrefix w) supertypes_and) (padded_of w) bytes
final_list_none_after w h none = such_none (HasFinalPrefix w) (supertypes_none_after h none)

-- ---- subtypes after their first byte

in_sub : (w : Grammar) (b : ℕ) {bytes rest : List ℕ} {x : Sub} → Decodes (after_in w b) (padded_of w) bytes x rest → Decodes (after_sub b) (padded_of w) bytes x rest
in_sub builders b h = let k = tagged_after (λ c. after_in builders c) b h in record { front = k.front; split = k.split; encodes = k.encodes }
in_sub admitted b h = let k = tagged_after (λ c. after_in admitted c) b h in record { front = k.front; split = k.split; encodes = k.encodes }

not_in_sub : (w : Grammar) (b : ℕ) {bytes : List ℕ} → Rejects (after_in w b) (padded_of w) bytes → Rejects (after_sub b) (padded_of w) bytes
not_in_sub builders b none = record { none = λ x rest h. (tagged_after_none (λ c. after_in builders c) b none).none x rest (record { front = h.front; split = h.split; encodes = h.encodes }) }
not_in_sub admitted b none = record { none = λ x rest h. (tagged_after_none (λ c. after_in admitted c) b none).none x rest (record { front = h.front; split = h.split; encodes = h.encodes }) }

pub open_decodes : (w : Grammar) {b : ℕ} {xs : List ℕ} {x : Composite} {bytes rest : List ℕ} → b ≡ 0x50 → Decodes supertypes_and (padded_of w) bytes (xs, x) rest → Decodes (after_sub b) (padded_of w) bytes (sub_of false (xs, x)) rest
open_decodes w {b = b} e h = in_sub w b (at_tag (after_in w) 0x50 e (mapped_decodes (sub_of false) h))

pub open_none : (w : Grammar) {b : ℕ} {bytes : List ℕ} → b ≡ 0x50 → Rejects supertypes_and (padded_of w) bytes → Rejects (after_sub b) (padded_of w) bytes
open_none w {b = b} e none = not_in_sub w b (not_tag (after_in w) 0x50 e (mapped_rejects (sub_of false) none))

pub final_decodes : (w : Grammar) {b : ℕ} {xs : List ℕ} {x : Composite} {bytes rest : List ℕ} → b ≡ 0x4F → Decodes (such (HasFinalPrefix w) supertypes_and) (padded_of w) bytes (xs, x) rest → Decodes (after_sub b) (padded_of w) bytes (sub_of true (xs, x)) rest
final_decodes w {b = b} e h = in_sub w b (at_tag (after_in w) 0x4F e (mapped_decodes (sub_of true) h))

pub final_none : (w : Grammar) {b : ℕ} {bytes : List ℕ} → b ≡ 0x4F → Rejects (such (HasFinalPrefix w) supertypes_and) (padded_of w) bytes → Rejects (after_sub b) (padded_of w) bytes
final_none w {b = b} e none = not_in_sub w b (not_tag (after_in w) 0x4F e (mapped_rejects (sub_of true) none))

pub alone_reads : (w : Grammar) {b : ℕ} {xs : List ℕ} {x : Composite} {bytes rest : List ℕ} → b ≢ 0x50 → b ≢ 0x4F → xs ≡ [] → Decodes (after_composite b) (padded_of w) bytes x rest → Decodes (after_sub b) (padded_of w) bytes (sub_of true (xs, x)) rest
alone_reads w {b = b} {x = x} {bytes = bytes} {rest = rest} p q e h =
    subst (λ ys. Decodes (after_sub b) (padded_of w) bytes (sub_of true (ys, x)) rest) (sym e) (in_sub w b (at_other (sub_tags w) after_alone (p, (q, tt)) (mapped_decodes alone_of h)))

pub alone_none : (w : Grammar) {b : ℕ} {bytes : List ℕ} → b ≢ 0x50 → b ≢ 0x4F → Rejects (after_composite b) (padded_of w) bytes → Rejects (after_sub b) (padded_of w) bytes
alone_none w {b = b} p q none = not_in_sub w b (not_other (sub_tags w) after_alone (p, (q, tt)) (mapped_rejects alone_of none))

pub ruleset sub_steps = (open_decodes, final_decodes, alone_reads)

-- ---- subtypes

pub sub_decodes : {m : Mode} {bytes middle rest : List ℕ} {b : ℕ} {x : Sub} → Decodes byte m bytes b middle → Decodes (after_sub b) m middle x rest → Decodes sub_type m bytes x rest
sub_decodes h g = after_decodes sub_type h g

pub sub_none : {m : Mode} (bytes : List ℕ) → Rejects byte m bytes → Rejects sub_type m bytes
sub_none bytes none = no_bytes IsSubByte sub_type sub_begins none

pub sub_none_after : {m : Mode} {bytes middle : List ℕ} {b : ℕ} → Decodes byte m bytes b middle → Rejects (after_sub b) m middle → Rejects sub_type m bytes
sub_none_after h none = after_rejects IsSubByte sub_type sub_begins h none

-- ---- entries

abbrev after_group : ℕ → Format TypeItem
after_group b = choice group_tags (λ c. impossible) b

pub type_none : {m : Mode} (bytes : List ℕ) → Rejects byte m bytes → Rejects type_item m bytes
type_none bytes none = one_of_rejects (tagged_none byte after_group bytes none) (mapped_rejects single (sub_none bytes none))

pub group_decodes : {m : Mode} {bytes middle rest : List ℕ} {b : ℕ} {xs : List Sub} → Decodes byte m bytes b middle → b ≡ 0x4E → Decodes (vec sub_type) m middle xs rest → Decodes type_item m bytes (group xs) rest
group_decodes h e g = one_of_left (mapped single sub_type) (tagged_decodes {G = after_group} h (at_tag after_group 0x4E e (mapped_decodes group g)))

pub group_none : {m : Mode} {bytes middle : List ℕ} {b : ℕ} → Decodes byte m bytes b middle → b ≡ 0x4E → Rejects (vec sub_type) m middle → Rejects type_item m bytes
group_none h e none = one_of_rejects (tagged_rejects {G = after_group} byte_unambiguous h (not_tag after_group 0x4E e (mapped_rejects group none))) (mapped_rejects single (not_begun IsSubByte sub_type sub_begins h (λ p. p e)))

pub single_decodes : {m : Mode} {bytes middle rest : List ℕ} {b : ℕ} {x : Sub} → Decodes byte m bytes b middle → Decodes (after_sub b) m middle x rest → Decodes type_item m bytes (single x) rest
single_decodes h g = one_of_right group_type (mapped_decodes single (sub_decodes h g))

pub single_none : {m : Mode} {bytes middle : List ℕ} {b : ℕ} → Decodes byte m bytes b middle → b ≢ 0x4E → Rejects (after_sub b) m middle → Rejects type_item m bytes
single_none {middle = middle} {b = b} h p none = one_of_rejects (tagged_rejects {G = after_group} byte_unambiguous h (no_choice group_tags b middle (p, tt))) (mapped_rejects single (sub_none_after h none))
