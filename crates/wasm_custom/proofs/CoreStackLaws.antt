-- This file proves that stacks of core dumps are unambiguous, and how they are decoded and
-- minimized.
use Rattle.wasm_base.proofs.Words.{ℕ, ◌≤◌, List, [], ◌∷◌, ◌++◌, length, map, true, refl, sym, ap, subst, arith, length-append, ◌≡◌, ◌≢◌, ℤ, AllZip, DecodesBack, ItemLaws, ContainsItems, DecodesUniquely, entry_encoding, u32, byte}
use Rattle.wasm_base.proofs.Words.{pair, prefixed, vec, Format, name, just, s32, s64, little_endian, impossible, choice, minimal, unsigned_encoding, signed_encoding, Mode, joined, Unambiguous}
use Rattle.wasm_base.proofs.Words.{Decodes, Rejects, UnambiguousWhole, longest, HasEncodableSize, vec_encoding, little_endian_encoding, size_prefixed_encoding, IsEncodableVec, s32_unambiguous}
use Rattle.wasm_base.proofs.Words.{s64_unambiguous, name_unambiguous, entries_encodes, mapped_unambiguous, pair_unambiguous, pair_whole, vec_unambiguous, prefixed_unambiguous, fixed_unambiguous}
use Rattle.wasm_base.proofs.Words.{byte_unambiguous, choice_of, little_endian_unambiguous, whole_from_unique, size_prefixed_unambiguous, AllValues, values_tagged, u32_unambiguous, decodes_uniquely}
use Rattle.wasm_base.proofs.Words.{tagged_encodes, u32_encodes, s32_encodes, s64_encodes, little_endian_encodes, vec_encodes, ascii, pair_encodes, prefixed_encodes, map-id, RejectsWhole, decodes_same}
use Rattle.wasm_base.proofs.Words.{then_decodes, then_rejects_first, then_rejects_second, mapped_decodes, mapped_rejects, tagged_decodes, tagged_none, tagged_rejects, no_choice, fixed_decodes}
use Rattle.wasm_base.proofs.Words.{after_whole, AppendsMinimal, both_grammars, HasEncoding, left_encoded, right_encoded, mapped_encoded, counted_encodable, little_endian_below, pair_appended, prefixed_appended}
use Rattle.wasm_base.proofs.Words.{mapped_appended, records_appended}
use Rattle.wasm_base.specs.Minimal.{EncodesMinimally}
use Rattle.wasm_base.specs.Stores.{Cut, StoreModel}
use Rattle.wasm_base.proofs.GrammarLaws.{canonical_by, choices_both, fixed_both, mapped_both, s32_both, s64_both, little_endian_both}
use Rattle.wasm_custom.specs.{joined_data, SaysStackIn, marked_encoding, marked_name, StackFrame, frame_entry, IsFrame, CodeLocation, stack_frame_of, stack_frame, stack_name, stack_section, SaysStack, frame_items}
use Rattle.wasm_custom.specs.{stack_payload, value_encoding, IsValue, f32_of, f64_of, value_tags, value, named_encoding, IsEncodableNamed, count_encoding, entries_encoding}
use Rattle.wasm_custom.specs.declared.core_values.CoreDumpValue.{CoreDumpValue}
use Rattle.wasm_custom.specs.declared.core_values.CoreDumpValue.TheVariants.{Missing, I32, I64, F32, F64}
use Rattle.wasm_custom.proofs.CoreDumpLaws.{marked_unambiguous, marked_encodes}
use Rattle.wasm_custom.proofs.CustomLaws.{named_encoded, named_encodes, data_encodable, named_appended}
use Rattle.wasm_custom.proofs.EntriesLaws.{cut_data, listing_encodes}
use Rattle.wasm_immediates.specs.declared.floats.Ieee32.{Ieee32}
use Rattle.wasm_immediates.specs.declared.floats.Ieee64.{Ieee64}
use Rattle.wasm_custom.proofs.DecodeNamed.{named_fills, named_none, named_rejects}
use Rattle.wasm_custom.specs.declared.core_values.CoreDumpValue.TheVariants as values

-- ---- values

abbrev code_of : CoreDumpValue → ℕ
code_of Missing = 0x01
code_of (I32 v) = 0x7F
code_of (I64 v) = 0x7E
code_of (F32 v) = 0x7D
code_of (F64 v) = 0x7C

abbrev bits_of : CoreDumpValue → ℕ
bits_of (F32 v) = v.bits
bits_of (F64 v) = v.bits
bits_of _ = 0

pub value_unambiguous : Unambiguous value
value_unambiguous =
    choice_of byte code_of value_tags byte_unambiguous
    (fixed_unambiguous [] Missing, (mapped_unambiguous I32 (λ x y e. cc) s32_unambiguous, (mapped_unambiguous I64 (λ x y e. cc) s64_unambiguous, (mapped_unambiguous f32_of (λ x y e. ap bits_of e) (little_endian_unambiguous 4), (mapped_unambiguous f64_of (λ x y e. ap bits_of e) (little_endian_unambiguous 8), tt)))))
    (λ mode s x h. sym (ap code_of h.1), (λ mode s x h. ap code_of h.1, (λ mode s x h. ap code_of h.1, (λ mode s x h. ap code_of h.1, (λ mode s x h. ap code_of h.1, tt)))))

pub value_encodes : (x : CoreDumpValue) → IsValue x → value minimal (value_encoding x) x
value_encodes Missing plain = tagged_encodes minimal 0x01 [] Missing (refl, refl)
value_encodes (I32 v) plain = tagged_encodes minimal 0x7F (signed_encoding v) (I32 v) (v, refl, s32_encodes v plain)
value_encodes (I64 v) plain = tagged_encodes minimal 0x7E (signed_encoding v) (I64 v) (v, refl, s64_encodes v plain)
value_encodes (F32 v) plain = tagged_encodes minimal 0x7D (little_endian_encoding 4 v.bits) (F32 v) (v.bits, refl, little_endian_encodes 4 v.bits plain)
value_encodes (F64 v) plain = tagged_encodes minimal 0x7C (little_endian_encoding 8 v.bits) (F64 v) (v.bits, refl, little_endian_encodes 8 v.bits plain)

-- ---- frames

pub stack_frame_unambiguous : Unambiguous stack_frame
stack_frame_unambiguous =
    mapped_unambiguous stack_frame_of (λ x y e. ap (λ f. ((f.instance, (f.function, f.offset)), (f.locals, f.stack))) e)
    (pair_unambiguous (prefixed_unambiguous (0x00 ∷ []) (pair_unambiguous u32_unambiguous (pair_unambiguous u32_unambiguous u32_unambiguous))) (pair_unambiguous (vec_unambiguous value_unambiguous) (vec_unambiguous value_unambiguous)))

frame_encodes : (f : StackFrame) → IsFrame f → stack_frame minimal (frame_entry f) f
frame_encodes f plain =
    let numbers = unsigned_encoding f.function ++ unsigned_encoding f.offset in
    let last = pair_encodes u32 u32 (unsigned_encoding f.function) (unsigned_encoding f.offset) f.function f.offset (u32_encodes f.function plain.function) (u32_encodes f.offset plain.offset) in
    let place : CodeLocation = (f.instance, (f.function, f.offset)) in
    let placed = pair_encodes u32 (pair u32 u32) (unsigned_encoding f.instance) numbers f.instance (f.function, f.offset) (u32_encodes f.instance plain.instance) last in
    let front = prefixed_encodes (0x00 ∷ []) (pair u32 (pair u32 u32)) (unsigned_encoding f.instance ++ numbers) place placed in
    let locals = vec_encoding value_encoding f.locals in
    let stack = vec_encoding value_encoding f.stack in
    let lists = pair_encodes (vec value) (vec value) locals stack f.locals f.stack (vec_encodes value IsValue value_encoding value_encodes f.locals plain.locals) (vec_encodes value IsValue value_encoding value_encodes f.stack plain.stack) in
    ((place, (f.locals, f.stack)), refl, pair_encodes (prefixed (0x00 ∷ []) (pair u32 (pair u32 u32))) (pair (vec value) (vec value)) (0x00 ∷ (unsigned_encoding f.instance ++ numbers)) (locals ++ stack) place (f.locals, f.stack) front lists)

pub stack_frame_laws : ItemLaws frame_items
stack_frame_laws = record { unique = stack_frame_unambiguous; encodes = λ f plain encodable. frame_encodes f plain }

-- ---- stacks

pub stack_whole : UnambiguousWhole stack_payload
stack_whole = after_whole stack_name name_unambiguous (pair_whole marked_unambiguous (whole_from_unique (vec_unambiguous stack_frame_unambiguous)))

pub stack_unambiguous : Unambiguous stack_section
stack_unambiguous = size_prefixed_unambiguous stack_whole

-- The front and the pieces are no longer than the data.
within : (front content : List ℕ) (pieces : List (List ℕ)) → length (front ++ (content ++ joined pieces)) ≤ longest → (length front ≤ longest) × (length (joined pieces) ≤ longest)
within front content pieces encodable =
    let whole = length-append front (content ++ joined pieces) in
    let rest = length-append content (joined pieces) in
    (omega (arith, encodable, whole), omega (arith, encodable, whole, rest))

marked_encodable : (n : List ℕ) → length (marked_encoding n) ≤ longest → HasEncodableSize n
marked_encodable n encodable = omega (arith, encodable, length-append (unsigned_encoding (length n)) n)

stack_unique : (front : List ℕ) (pieces : List (List ℕ)) → length pieces ≤ longest → IsEncodableNamed stack_name (entries_encoding front true pieces)
    → DecodesBack stack_section (SaysStack front pieces) (named_encoding stack_name (entries_encoding front true pieces))
stack_unique front pieces few encodable = record {
  for_each = λ said says.
      let content = count_encoding true (length pieces) ++ joined pieces in
      let short = within front (count_encoding true (length pieces)) pieces (data_encodable stack_name (entries_encoding front true pieces) encodable) in
      let named : marked_name minimal front said.0 =
      subst (λ s. marked_name minimal s said.0) (sym says.1) (marked_encodes said.0 says.0 (marked_encodable said.0 (subst (λ s. length s ≤ longest) says.1 short.0))) in
      let contains = says.2 in
      let held = map (entry_encoding frame_entry) contains.entries in
      let listed : AllZip (stack_frame minimal) pieces said.1 =
      subst (λ ps. AllZip (stack_frame minimal) ps said.1) (sym contains.held)
      (entries_encodes frame_items stack_frame_laws contains.entries said.1 (subst (λ ps. length (joined ps) ≤ longest) contains.held short.1) contains.meant) in
      decodes_uniquely {F = stack_section} stack_unambiguous
      (named_encodes minimal tt stack_name (pair marked_name (vec stack_frame)) (entries_encoding front true pieces) said (ascii {bytes = stack_name} refl) encodable
      (pair_encodes marked_name (vec stack_frame) front content said.0 said.1 named (listing_encodes minimal true stack_frame pieces said.1 few listed)));
}

-- The same for frames in a store, if entries that encode frames can be cut into pieces that encode
-- them.
pub stack_stored : {M : Type 0} (model : StoreModel M) (front : List ℕ) (s : M) → (model.joins s).number ≤ longest → IsEncodableNamed stack_name (joined_data front true (model.joins s))
    → ((items : List StackFrame) → model.holds (λ pieces. ContainsItems frame_items pieces items) s → Cut (λ pieces. ContainsItems frame_items pieces items) (model.joins s))
    → DecodesBack stack_section (SaysStackIn model front s) (named_encoding stack_name (joined_data front true (model.joins s)))
stack_stored model front s few encodable cuts = record {
  for_each = λ said says.
      let cut = cuts said.1 says.2 in
      let same = cut_data front true _ cut in
      subst (λ b. DecodesUniquely stack_section (named_encoding stack_name b) said) same
      ((stack_unique front cut.pieces (subst (λ k. k ≤ longest) (sym cut.number) few) (subst (IsEncodableNamed stack_name) (sym same) encodable)).for_each said (says.0, says.1, cut.are));
}

-- ---- decoding stacks of core dumps

-- ---- values

abbrev after_tag : ℕ → Format CoreDumpValue
after_tag b = choice value_tags (λ c. impossible) b

tag_is : {m : Mode} (c : ℕ) {bytes rest last : List ℕ} {b : ℕ} {x : CoreDumpValue} → Decodes byte m bytes b rest → b ≡ c → Decodes (after_tag c) m rest x last → Decodes value m bytes x last
tag_is {m = m} c {rest = rest} {last = last} {x = x} h e g = tagged_decodes {G = after_tag} h (subst (λ z. Decodes (after_tag z) m rest x last) (sym e) g)

tag_is_not : {m : Mode} (c : ℕ) {bytes rest : List ℕ} {b : ℕ} → Decodes byte m bytes b rest → b ≡ c → Rejects (after_tag c) m rest → Rejects value m bytes
tag_is_not {m = m} c {rest = rest} h e n = tagged_rejects {G = after_tag} byte_unambiguous h (subst (λ z. Rejects (after_tag z) m rest) (sym e) n)

pub value_none : {m : Mode} (bytes : List ℕ) → Rejects byte m bytes → Rejects value m bytes
value_none bytes n = tagged_none byte after_tag bytes n

pub missing_decodes : {m : Mode} (bytes rest : List ℕ) (b : ℕ) → Decodes byte m bytes b rest → b ≡ 0x01 → Decodes value m bytes values.Missing rest
missing_decodes bytes rest b h e = tag_is 0x01 h e (fixed_decodes rest values.Missing)

pub i32_decodes : {m : Mode} (bytes rest last : List ℕ) (b : ℕ) (v : ℤ) → Decodes byte m bytes b rest → b ≡ 0x7F → Decodes s32 m rest v last → Decodes value m bytes (values.I32 v) last
i32_decodes bytes rest last b v h e g = tag_is 0x7F h e (mapped_decodes values.I32 g)

pub i32_none : {m : Mode} (bytes rest : List ℕ) (b : ℕ) → Decodes byte m bytes b rest → b ≡ 0x7F → Rejects s32 m rest → Rejects value m bytes
i32_none bytes rest b h e n = tag_is_not 0x7F h e (mapped_rejects values.I32 n)

pub i64_decodes : {m : Mode} (bytes rest last : List ℕ) (b : ℕ) (v : ℤ) → Decodes byte m bytes b rest → b ≡ 0x7E → Decodes s64 m rest v last → Decodes value m bytes (values.I64 v) last
i64_decodes bytes rest last b v h e g = tag_is 0x7E h e (mapped_decodes values.I64 g)

pub i64_none : {m : Mode} (bytes rest : List ℕ) (b : ℕ) → Decodes byte m bytes b rest → b ≡ 0x7E → Rejects s64 m rest → Rejects value m bytes
i64_none bytes rest b h e n = tag_is_not 0x7E h e (mapped_rejects values.I64 n)

pub f32_decodes : {m : Mode} (bytes rest last : List ℕ) (b : ℕ) (v : Ieee32) → Decodes byte m bytes b rest → b ≡ 0x7D → Decodes (little_endian 4) m rest v.bits last → Decodes value m bytes (values.F32 v) last
f32_decodes bytes rest last b v h e g = tag_is 0x7D h e (mapped_decodes f32_of g)

pub f32_none : {m : Mode} (bytes rest : List ℕ) (b : ℕ) → Decodes byte m bytes b rest → b ≡ 0x7D → Rejects (little_endian 4) m rest → Rejects value m bytes
f32_none bytes rest b h e n = tag_is_not 0x7D h e (mapped_rejects f32_of n)

pub f64_decodes : {m : Mode} (bytes rest last : List ℕ) (b : ℕ) (v : Ieee64) → Decodes byte m bytes b rest → b ≡ 0x7C → Decodes (little_endian 8) m rest v.bits last → Decodes value m bytes (values.F64 v) last
f64_decodes bytes rest last b v h e g = tag_is 0x7C h e (mapped_decodes f64_of g)

pub f64_none : {m : Mode} (bytes rest : List ℕ) (b : ℕ) → Decodes byte m bytes b rest → b ≡ 0x7C → Rejects (little_endian 8) m rest → Rejects value m bytes
f64_none bytes rest b h e n = tag_is_not 0x7C h e (mapped_rejects f64_of n)

pub value_unknown : {m : Mode} (bytes rest : List ℕ) (b : ℕ) → Decodes byte m bytes b rest → b ≢ 0x01 → b ≢ 0x7F → b ≢ 0x7E → b ≢ 0x7D → b ≢ 0x7C → Rejects value m bytes
value_unknown bytes rest b h p q r s t = tagged_rejects {G = after_tag} byte_unambiguous h (no_choice value_tags b rest (p, (q, (r, (s, (t, tt))))))

pub ruleset value_steps = (missing_decodes, value_unknown)

-- ---- frames

abbrev place : Format CodeLocation
place = prefixed (0x00 ∷ []) (pair u32 (pair u32 u32))

location_unambiguous : Unambiguous place
location_unambiguous = prefixed_unambiguous (0x00 ∷ []) (pair_unambiguous u32_unambiguous (pair_unambiguous u32_unambiguous u32_unambiguous))

pub frame_decodes : {m : Mode} (bytes rest next last : List ℕ) (p : CodeLocation) (ls ss : List CoreDumpValue) → Decodes place m bytes p rest → Decodes (vec value) m rest (map (λ v. v) ls) next → Decodes (vec value) m next (map (λ v. v) ss) last
    → Decodes stack_frame m bytes (record { instance = p.0; function = p.1.0; offset = p.1.1; locals = ls; stack = ss }) last
frame_decodes {m = m} bytes rest next last p ls ss h g k =
    mapped_decodes stack_frame_of (then_decodes h (then_decodes (subst (λ z. Decodes (vec value) m rest z next) (map-id ls) g) (subst (λ z. Decodes (vec value) m next z last) (map-id ss) k)))

pub frame_no_location : {m : Mode} (bytes : List ℕ) → Rejects place m bytes → Rejects stack_frame m bytes
frame_no_location bytes n = mapped_rejects stack_frame_of (then_rejects_first n)

pub frame_no_locals : {m : Mode} (bytes rest : List ℕ) (p : CodeLocation) → Decodes place m bytes p rest → Rejects (vec value) m rest → Rejects stack_frame m bytes
frame_no_locals bytes rest p h n = mapped_rejects stack_frame_of (then_rejects_second location_unambiguous h (then_rejects_first n))

pub frame_no_stack : {m : Mode} (bytes rest next : List ℕ) (p : CodeLocation) (ls : List CoreDumpValue) → Decodes place m bytes p rest → Decodes (vec value) m rest ls next → Rejects (vec value) m next → Rejects stack_frame m bytes
frame_no_stack bytes rest next p ls h g n = mapped_rejects stack_frame_of (then_rejects_second location_unambiguous h (then_rejects_second (vec_unambiguous value_unambiguous) g n))

pub frame_no_lists : {m : Mode} (bytes rest : List ℕ) (p : CodeLocation) → Decodes place m bytes p rest → Rejects (pair (vec value) (vec value)) m rest → Rejects stack_frame m bytes
frame_no_lists bytes rest p h n = mapped_rejects stack_frame_of (then_rejects_second location_unambiguous h n)

pub ruleset frame_steps = (frame_decodes, frame_no_location, frame_no_locals, frame_no_stack)

-- ---- sections

abbrev threaded : Format (List ℕ × List StackFrame)
threaded = pair marked_name (vec stack_frame)

pub stack_fills : {m : Mode} (bytes rest last thread : List ℕ) (frames : List StackFrame) → Decodes (just stack_name name) m bytes tt rest → Decodes marked_name m rest thread last → vec stack_frame m last frames → stack_payload m bytes (thread, frames)
stack_fills bytes rest last thread frames h g k = named_fills stack_name threaded bytes rest (thread, frames) h (record { front = g.front; back = last; joined = g.split; first = g.encodes; second = k })

pub stack_none : {m : Mode} (bytes : List ℕ) → Rejects (just stack_name name) m bytes → RejectsWhole stack_payload m bytes
stack_none bytes n = named_none stack_name threaded bytes n

pub stack_no_thread : {m : Mode} (bytes rest : List ℕ) → Decodes (just stack_name name) m bytes tt rest → Rejects marked_name m rest → RejectsWhole stack_payload m bytes
stack_no_thread bytes rest h n =
    named_rejects stack_name threaded bytes rest h (record { none = λ x s. n.none x.0 s.back (record { front = s.front; split = s.joined; encodes = s.first }) })

pub stack_no_frames : {m : Mode} (bytes rest last thread : List ℕ) → Decodes (just stack_name name) m bytes tt rest → Decodes marked_name m rest thread last → RejectsWhole (vec stack_frame) m last → RejectsWhole stack_payload m bytes
stack_no_frames {m = m} bytes rest last thread h g n = named_rejects stack_name threaded bytes rest h (record {
  none = λ x s.
      let same = decodes_same marked_unambiguous g (record { front = s.front; split = s.joined; encodes = s.first }) in
      n.none x.1 (subst (λ z. vec stack_frame m z x.1) (sym same.1) s.second);
})

pub stack_rejects : {m : Mode} (bytes rest : List ℕ) → Decodes (just stack_name name) m bytes tt rest → RejectsWhole threaded m rest → RejectsWhole stack_payload m bytes
stack_rejects bytes rest h n = named_rejects stack_name threaded bytes rest h n

pub ruleset stack_steps = (stack_fills, stack_none, stack_no_thread, stack_no_frames)

-- ---- the one minimal encoding of decoded stacks

pub value_is : AllValues IsValue value
value_is =
    values_tagged IsValue value_tags (
      λ mode s x h. subst IsValue (sym h.1) tt,
      (
        λ mode s x h. subst IsValue h.1 (h.2.above, h.2.below),
        (λ mode s x h. subst IsValue h.1 (h.2.above, h.2.below), (λ mode s x h. subst IsValue h.1 (little_endian_below 4 mode s h.0 h.2), (λ mode s x h. subst IsValue h.1 (little_endian_below 8 mode s h.0 h.2), tt))),
      ),
    )

pub value_canonical : EncodesMinimally value (λ v. v) value_encoding
value_canonical = canonical_by (λ v. v) value_encoding IsValue value_is value_encodes (choices_both value_tags (fixed_both [] Missing, (mapped_both I32 s32_both, (mapped_both I64 s64_both, (mapped_both f32_of (little_endian_both 4), (mapped_both f64_of (little_endian_both 8), tt))))))

values_appended : (vs : List CoreDumpValue) (old new : List ℕ) → IsEncodableVec (λ v. Unit {0}) vs → new ≡ old ++ vec_encoding value_encoding vs → AppendsMinimal both_grammars (vec value) vs old new
values_appended vs old new encodable e =
    subst (λ z. AppendsMinimal both_grammars (vec value) z old new) (map-id vs) (records_appended value (λ v. v) value_encoding (λ v. Unit {0}) vs old new (λ v f w q s k. value_canonical.minimal_in w s v k) encodable e)

pub frame_appended : (n m o : ℕ) (ls ss : List CoreDumpValue) (old front first second third fourth new : List ℕ) → front ≡ old ++ 0x00 ∷ [] → AppendsMinimal both_grammars u32 n front first → AppendsMinimal both_grammars u32 m first second → AppendsMinimal both_grammars u32 o second third
    → IsEncodableVec (λ v. Unit {0}) ls → fourth ≡ third ++ vec_encoding value_encoding ls → IsEncodableVec (λ v. Unit {0}) ss → new ≡ fourth ++ vec_encoding value_encoding ss
    → AppendsMinimal both_grammars stack_frame (record { instance = n; function = m; offset = o; locals = ls; stack = ss }) old new
frame_appended n m o ls ss old front first second third fourth new e a b c lf le sf se =
    let numbers = pair_appended u32 (pair u32 u32) a (pair_appended u32 u32 b c) in
    let place : CodeLocation = (n, (m, o)) in
    let placed = prefixed_appended (0x00 ∷ []) (pair u32 (pair u32 u32)) place old front third e numbers in
    let lists = pair_appended (vec value) (vec value) (values_appended ls third fourth lf le) (values_appended ss fourth new sf se) in
    mapped_appended stack_frame_of (pair (prefixed (0x00 ∷ []) (pair u32 (pair u32 u32))) (pair (vec value) (vec value))) (place, (ls, ss)) old new (λ z k. ap (λ f. ((f.instance, (f.function, f.offset)), (f.locals, f.stack))) k)
    (pair_appended (prefixed (0x00 ∷ []) (pair u32 (pair u32 u32))) (pair (vec value) (vec value)) placed lists)

pub stack_appended : (thread : List ℕ) (frames : List StackFrame) (old front middle new : List ℕ) → front ≡ old ++ size_prefixed_encoding stack_name → AppendsMinimal both_grammars marked_name thread front middle → AppendsMinimal both_grammars (vec stack_frame) frames middle new
    → AppendsMinimal both_grammars stack_payload (thread, frames) old new
stack_appended thread frames old front middle new e a b = named_appended stack_name (pair marked_name (vec stack_frame)) (thread, frames) e (pair_appended marked_name (vec stack_frame) a b)

-- ---- fields of a frame that has an encoding

values_encodable : (vs : List CoreDumpValue) → HasEncoding both_grammars (vec value) vs → IsEncodableVec (λ v. Unit {0}) vs
values_encodable vs h = record { count = counted_encodable value vs h; members = λ k d l. tt }

lists_encoded : (n m o : ℕ) (ls ss : List CoreDumpValue) → HasEncoding both_grammars stack_frame (record { instance = n; function = m; offset = o; locals = ls; stack = ss }) → HasEncoding both_grammars (pair (vec value) (vec value)) (ls, ss)
lists_encoded n m o ls ss h =
    let place : CodeLocation = (n, (m, o)) in
    right_encoded (prefixed (0x00 ∷ []) (pair u32 (pair u32 u32))) (pair (vec value) (vec value)) place (ls, ss)
    (mapped_encoded stack_frame_of (pair (prefixed (0x00 ∷ []) (pair u32 (pair u32 u32))) (pair (vec value) (vec value))) (place, (ls, ss)) (λ z k. ap (λ f. ((f.instance, (f.function, f.offset)), (f.locals, f.stack))) k) h)

pub locals_encodable : (n m o : ℕ) (ls ss : List CoreDumpValue) → HasEncoding both_grammars stack_frame (record { instance = n; function = m; offset = o; locals = ls; stack = ss }) → IsEncodableVec (λ v. Unit {0}) ls
locals_encodable n m o ls ss h = values_encodable ls (left_encoded (vec value) (vec value) ls ss (lists_encoded n m o ls ss h))

pub stack_encodable : (n m o : ℕ) (ls ss : List CoreDumpValue) → HasEncoding both_grammars stack_frame (record { instance = n; function = m; offset = o; locals = ls; stack = ss }) → IsEncodableVec (λ v. Unit {0}) ss
stack_encodable n m o ls ss h = values_encodable ss (right_encoded (vec value) (vec value) ls ss (lists_encoded n m o ls ss h))

pub thread_encoded : (thread : List ℕ) (frames : List StackFrame) → HasEncoding both_grammars stack_payload (thread, frames) → HasEncoding both_grammars marked_name thread
thread_encoded thread frames h = left_encoded marked_name (vec stack_frame) thread frames (named_encoded stack_name (pair marked_name (vec stack_frame)) (thread, frames) h)

pub frames_encoded : (thread : List ℕ) (frames : List StackFrame) → HasEncoding both_grammars stack_payload (thread, frames) → HasEncoding both_grammars (vec stack_frame) frames
frames_encoded thread frames h = right_encoded marked_name (vec stack_frame) thread frames (named_encoded stack_name (pair marked_name (vec stack_frame)) (thread, frames) h)
