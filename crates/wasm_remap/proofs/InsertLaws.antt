-- This file proves modules into which a section is inserted.
use Rattle.wasm_base.proofs.Words.{◌≡◌, ◌≢◌, ◌⊎◌, ℕ, ◌+◌, ◌<◌, ◌^◌, List, [], ◌∷◌, ◌++◌, length, map, Bool, true, false, inl, inr, refl, sym, ap, ap₂, subst, take, drop, take-append-drop, ◌∙◌, length-append, arith, Format, members, vec, u32, standard, unsigned_encoding, u32_in, u32_unambiguous, Decodes, DecodesWhole, IsSizePrefixed, Rejects, wasm_module}
use Rattle.wasm_code.proofs.ExpressionLaws.{members_join}
use Rattle.std.proofs.lemmas.List.{take-map, drop-map}
use Rattle.wasm_reader.specs.Iterating.{Located}
use Rattle.wasm_reader.specs.Outlines.{HasSections, Section}
use Rattle.wasm_remap.specs.Errors.{AreTooMany}
use Rattle.wasm_remap.specs.Inserted.{GainsMembers, InsertsSection, IsAdded, IsExtended, IsJoined, IsPayload, between, is_number, joined_lists}
use Rattle.wasm_remap.specs.Places.{IsFound, IsPlace, lacks, rank_of, sections_in}
use Rattle.wasm_remap.specs.declared.insert.Position.{Position}
use Rattle.wasm_remap.specs.declared.insert.Position.TheVariants.{First, Last, Instead}

-- ---- members

-- The count at the front of a vector is that of its members, and the members follow.
counted_members : {X : Type 0} (F : Format X) {bytes rest : List ℕ} {n : ℕ} (xs : List X) → Decodes u32 standard bytes n rest → vec F standard bytes xs → (length xs ≡ n) × members F standard rest xs
counted_members F {rest = rest} {n = n} xs d h =
    let same = u32_unambiguous.unique standard h.front d.front h.back rest (length xs) n h.first d.encodes (sym h.joined ∙ d.split) in
    (same.0, subst (λ s. members F standard s xs) same.2 h.second)

-- The vector of the members of two others.
joined_vectors : {X : Type 0} (F : Format X) {joined : List ℕ} (a b : List ℕ) (n : ℕ) (xs ys : List X) → members F standard a xs → members F standard b ys → n ≡ length xs + length ys → n < 2 ^ 32 → joined ≡ unsigned_encoding n ++ (a ++ b) → vec F standard joined (xs ++ ys)
joined_vectors F a b n xs ys g h e fits is =
    record {
      front = unsigned_encoding n;
      back = a ++ b;
      joined = is;
      first = subst (λ k. u32 standard (unsigned_encoding n) k) (e ∙ sym (length-append xs ys)) (u32_in standard n fits);
      second = members_join F standard a b xs ys g h;
    }

-- A joined list has the members of both lists.
pub joined_members : {X : Type 0} (F : Format X) (p : Position) {new old joined : List ℕ} (xs ys : List X) → p ≢ Instead → IsJoined p new old joined → vec F standard new xs → vec F standard old ys → vec F standard joined (joined_lists p xs ys)
joined_members F First xs ys n h new old =
    let a = counted_members F xs h.new_read new in
    let b = counted_members F ys h.old_read old in
    joined_vectors F h.new_members h.old_members (h.new_count + h.old_count) xs ys a.1 b.1 (omega (arith, a.0, b.0)) h.fits h.is
joined_members F Last xs ys n h new old =
    let a = counted_members F xs h.new_read new in
    let b = counted_members F ys h.old_read old in
    joined_vectors F h.old_members h.new_members (h.new_count + h.old_count) ys xs b.1 a.1 (omega (arith, a.0, b.0)) h.fits h.is
joined_members F Instead xs ys n h new old = absurd (n refl)

no_number : {b : Bool} → b ≡ false → b ≡ true → ⊥
no_number e f = cc (e, f)

-- The payload of a list has the new members.
pub payload_members : {X : Type 0} (F : Format X) (p : Position) (id : ℕ) {new old payload : List ℕ} (xs ys : List X) → is_number id ≡ false → IsPayload p id new old payload → vec F standard new xs → vec F standard old ys → vec F standard payload (joined_lists p xs ys)
payload_members F p id xs ys plain (inl h) new old = joined_members F p xs ys h.0 h.2 new old
payload_members F p id {payload = payload} xs ys plain (inr (inl instead, is)) new old = subst (λ q. vec F standard payload (joined_lists q xs ys)) (sym instead) (subst (λ s. vec F standard s xs) (sym is) new)
payload_members F p id xs ys plain (inr (inr number, is)) new old = absurd (no_number plain number)

-- The bytes behind the size prefix of an encoding are its payload.
pub sized_payload : {encoding payload rest : List ℕ} {n : ℕ} → IsSizePrefixed encoding payload → Decodes u32 standard encoding n rest → rest ≡ payload
sized_payload {payload = payload} {rest = rest} {n = n} h d =
    let size = u32_in standard (length payload) (omega (arith, h.encodable)) in
    let same = u32_unambiguous.unique standard (unsigned_encoding (length payload)) d.front payload rest (length payload) n size d.encodes (sym h.is ∙ d.split) in
    sym same.2

-- An encoding begins with its size prefix.
pub sized_read : {encoding payload : List ℕ} → IsSizePrefixed encoding payload → Rejects u32 standard encoding → ⊥
sized_read {payload = payload} h n = n.none (length payload) payload (record { front = unsigned_encoding (length payload); split = h.is; encodes = u32_in standard (length payload) (omega (arith, h.encodable)) })

-- The counts of new members and old ones do not fit.
pub are_too_many : {encoding payload new old : List ℕ} {size a b : ℕ} (new_members old_members : List ℕ) → IsSizePrefixed encoding new → Decodes u32 standard encoding size payload → Decodes u32 standard payload a new_members → Decodes u32 standard old b old_members → (a + b < 2 ^ 32 → ⊥) → AreTooMany new old
are_too_many {a = a} {b = b} new_members old_members sized d new old unfit = record { new_count = a; new_members = new_members; new_read = subst (λ s. Decodes u32 standard s a new_members) (sized_payload sized d) new; old_count = b; old_members = old_members; old_read = old; unfit = unfit }

-- The payload of a list of new members and old ones.
pub is_joined : (p : Position) {encoding payload new old joined : List ℕ} {size a b count : ℕ} (new_members old_members : List ℕ) → IsSizePrefixed encoding new → Decodes u32 standard encoding size payload → Decodes u32 standard payload a new_members → Decodes u32 standard old b old_members
    → count ≡ a + b → count < 2 ^ 32 → joined ≡ unsigned_encoding count ++ joined_lists p new_members old_members → IsJoined p new old joined
is_joined p {joined = joined} {a = a} {b = b} new_members old_members sized d new old e fits is =
    record {
      new_count = a;
      new_members = new_members;
      new_read = subst (λ s. Decodes u32 standard s a new_members) (sized_payload sized d) new;
      old_count = b;
      old_members = old_members;
      old_read = old;
      fits = subst (λ n. n < 2 ^ 32) e fits;
      is = is ∙ ap (λ n. unsigned_encoding n ++ joined_lists p new_members old_members) e;
    }

-- ---- modules

-- A module into which a list is inserted gains its members.
pub gains_members : {X : Type 0} (F : Format X) (p : Position) (id : ℕ) {new bytes edited : List ℕ} (xs : List X) → is_number id ≡ false → vec F standard new xs → InsertsSection p id new bytes edited → GainsMembers p id F xs bytes edited
gains_members F p id {new = new} {bytes = bytes} {edited = edited} xs plain read h = go h.are
  where
    go : ((rank_of id ≢ 0) × IsExtended p id new h.olds h.news) ⊎ IsAdded id new h.olds h.news → GainsMembers p id F xs bytes edited
    go (inl g) =
        let e = g.1 in
        record {
          olds = h.olds;
          has = h.has;
          before = e.before;
          after = e.after;
          payload = e.payload;
          members = inl (e.section, e.found, λ ys old. payload_members F p id xs ys plain e.has read old);
          decodes = subst (λ z. DecodesWhole wasm_module edited z) e.are h.decodes;
        }
    go (inr g) =
        record {
          olds = h.olds;
          has = h.has;
          before = g.before;
          after = g.after;
          payload = new;
          members = inr (g.split, g.ordered, read);
          decodes = subst (λ z. DecodesWhole wasm_module edited z) g.are h.decodes;
        }

module _ {p : Position} {bytes edited new : List ℕ} (id : ℕ) (xs : List Located) (has : HasSections bytes (sections_in xs)) (ordered : rank_of id ≢ 0) where
  -- A section is inserted between others.
  pub inserts_new : (n : ℕ) (before after : List Located) → lacks id (sections_in xs) → IsPlace id (take n (sections_in xs)) (drop n (sections_in xs)) → before ≡ take n xs → after ≡ drop n xs → DecodesWhole wasm_module edited (between (sections_in before) id new (sections_in after)) → InsertsSection p id new bytes edited
  inserts_new n before after none place front back read =
      let first : sections_in before ≡ take n (sections_in xs) = ap sections_in front ∙ sym (take-map (λ s. s.section) n xs) in
      let second : sections_in after ≡ drop n (sections_in xs) = ap sections_in back ∙ sym (drop-map (λ s. s.section) n xs) in
      record {
        olds = sections_in xs;
        has = has;
        news = between (sections_in before) id new (sections_in after);
        are = inr (record {
          before = take n (sections_in xs);
          after = drop n (sections_in xs);
          split = sym (take-append-drop n (sections_in xs));
          ordered = λ o. (none, place);
          last = λ o. absurd (ordered o);
          are = ap₂ (λ a b. between a id new b) first second;
        });
        decodes = read;
      }

  -- The first section of the id gets another payload.
  pub inserts_at : (payload : List ℕ) (s : Section) (before after : List Located) → IsFound id (sections_in before) s (sections_in after) (sections_in xs) → IsPayload p id new s.payload payload → DecodesWhole wasm_module edited (between (sections_in before) id payload (sections_in after)) → InsertsSection p id new bytes edited
  inserts_at payload s before after found has_payload read =
      record {
        olds = sections_in xs;
        has = has;
        news = between (sections_in before) id payload (sections_in after);
        are = inl (
          ordered,
          record {
            before = sections_in before;
            section = s;
            after = sections_in after;
            found = found;
            payload = payload;
            has = has_payload;
            are = refl;
          },
        );
        decodes = read;
      }
