-- This file proves that a minimized module is minimized to itself.
use Rattle.wasm_reader.specs.{kind_named, Contents, content, Section, IsSection, IsNameOf, HasSections, bytes_of, kind_at, section_kind_of, section, ShortensIn, contains_offsets, AllStay, IsWritten}
use Rattle.wasm_reader.specs.{Rewrite, IsRewrite, written, written_as, ShortensModule, LosesOffsets, Explains, IsMemory, IsIdempotent}
use Rattle.wasm_reader.specs.declared.kinds.SectionKind.{SectionKind}
use Rattle.wasm_reader.specs.declared.whole.Offsets.{Offsets}
use Rattle.wasm_reader.proofs.KindLaws.{keeps_name}
use Rattle.wasm_base.proofs.Words.{◌≡◌, ◌≢◌, ℕ, ◌+◌, List, [], ◌∷◌, ◌++◌, length, drop, false, Option, Some, None, refl, sym, ap, subst, ◌∙◌, append-nil, arith, AllByRecursion, flat_map}
use Rattle.wasm_base.proofs.Words.{append_cancel_left, admitted, padded, standard, standard_minimal, IsIncludedIn, any_bytes, size_prefixed, header, name, wasm_module, Decodes, Rejects, size_prefixed_bytes_unambiguous}
use Rattle.wasm_base.proofs.Words.{name_unambiguous, decodes_same}
use Rattle.wasm_base.specs.declared.fault.ReadFault.{ReadFault}
use Rattle.wasm_base.specs.declared.fault.ReadFault.TheVariants.{Memory}
use Rattle.wasm_reader.specs.declared.whole.How.{How}
use Rattle.wasm_reader.specs.declared.whole.How.TheVariants.{Minimal, Kept, LeftOut}
use Rattle.wasm_reader.specs.declared.whole.ModuleFault.{ModuleFault}
use Rattle.wasm_reader.specs.declared.whole.Offsets.TheVariants.{Refuse, LeaveOut}
use Rattle.wasm_reader.specs.declared.whole.Target.{Target}
use Rattle.wasm_reader.proofs.MinimalModules.{sections_of, bytes_joined}
use Rattle.wasm_reader.proofs.MinimalSections.{section_unambiguous, standard_size, minimal_size}
use Rattle.wasm_reader.specs.declared.kinds.SectionKind.TheVariants as kinds
use Rattle.wasm_reader.specs.declared.whole.ModuleFault.TheVariants as faults

-- ---- names

one_name : (id : ℕ) (payload : List ℕ) (a b : Option (List ℕ)) → IsNameOf id payload a → IsNameOf id payload b → a ≡ b
one_name id payload None None h g = refl
one_name id payload (Some n) (Some m) h g = ap Some (decodes_same name_unambiguous h.2 g.2).0
one_name id payload (Some n) None h g = absurd ((g h.0).none n h.1 h.2)
one_name id payload None (Some m) h g = absurd ((h g.0).none m g.1 g.2)

-- A name of the standard's grammar is one of the builders', and the other way around.
built_name : IsIncludedIn (name standard) (name padded)
built_name s n h = (record { front = h.0.front; content = h.0.content; joined = h.0.joined; size = standard_size h.0.front (length h.0.content) h.0.size; encodes = h.0.encodes }, h.1)

built_decodes : {bytes n rest : List ℕ} → Decodes name standard bytes n rest → Decodes name padded bytes n rest
built_decodes {n = n} h = record { front = h.front; split = h.split; encodes = built_name h.front n h.encodes }

admitted_name : {bytes n rest : List ℕ} → Decodes name padded bytes n rest → Decodes name standard bytes n rest
admitted_name {n = n} h = record { front = h.front; split = h.split; encodes = name_unambiguous.encodings.included padded standard tt h.front n h.encodes }

-- ---- size-prefixed bytes

-- Size-prefixed bytes have one payload.
one_payload : (s p q : List ℕ) → size_prefixed any_bytes padded s p → size_prefixed any_bytes padded s q → p ≡ q
one_payload s p q h g = (size_prefixed_bytes_unambiguous.unique padded s s [] [] p q h g refl).0

-- The payload of a section decodes to `x` by this kind, and so do its size-prefixed bytes.
record DecodingOf (kind : SectionKind) (s : Section) (x : Contents) : Type 0 where
  contains : content kind standard s.payload x
  whole : section kind standard s.sized x

decoding_of : (kind : SectionKind) (s : Section) (encoding : List ℕ) → IsSection s → (h : ShortensIn admitted kind s.sized (length s.sized) [] encoding) → DecodingOf kind s h.value
decoding_of kind s encoding i h =
    let r = h.takes.decodes in
    let f = r.encodes in
    let any : size_prefixed any_bytes padded r.front f.content = record { front = f.front; content = f.content; joined = f.joined; size = standard_size f.front (length f.content) f.size; encodes = refl } in
    let read : Decodes (size_prefixed any_bytes) padded s.sized f.content (drop (length s.sized) s.sized) = record { front = r.front; split = r.split; encodes = any } in
    let all : Decodes (size_prefixed any_bytes) padded s.sized s.payload [] = record { front = s.sized; split = sym (append-nil s.sized); encodes = i.contains } in
    let same = decodes_same size_prefixed_bytes_unambiguous all read in
    let front : s.sized ≡ r.front = r.split ∙ ap (λ z. r.front ++ z) (sym same.1) ∙ append-nil r.front in
    record { contains = subst (λ z. content kind standard z h.value) (sym same.0) f.encodes; whole = subst (λ z. section kind standard z h.value) (sym front) f }

-- ---- one section

-- The output for `w` is the section `v`.
record IsOutputOf (w v : Rewrite) : Type 0 where
  id : w.section.id ≡ v.section.id
  encoding : w.encoding ≡ v.section.sized

module _ (offsets : Offsets) (w v : Rewrite) (i : IsSection w.section) (j : IsSection v.section) (s : IsOutputOf w v) where
  custom_has_name : (x : Contents) → w.section.id ≡ 0 → content (kind_at w.section.id None) standard w.section.payload x → (Rejects name padded w.section.payload) → ⊥
  custom_has_name x e h n = let g : content kinds.Custom standard w.section.payload x = subst (λ z. content (kind_at z None) standard w.section.payload x) e h in
      let a = g.2 in
      n.none g.0.0 a.back (record { front = a.front; split = a.joined; encodes = built_name a.front g.0.0 a.first })

  name_after : (n : Option (List ℕ)) → w.section.name ≡ n → (h : ShortensIn admitted (kind_at w.section.id n) w.section.sized (length w.section.sized) [] w.encoding) → IsNameOf w.section.id w.section.payload n → v.section.name ≡ n
  name_after (Some n) e h g =
      let read = decoding_of (kind_named n) w.section w.encoding i h in
      let f = h.encodes in
      let any : size_prefixed any_bytes padded h.encoding f.content = record { front = f.front; content = f.content; joined = f.joined; size = minimal_size f.front (length f.content) f.size; encodes = refl } in
      let same : f.content ≡ v.section.payload = one_payload v.section.sized f.content v.section.payload (subst (λ z. size_prefixed any_bytes padded z f.content) (sym h.appended ∙ s.encoding) any) j.contains in
      let kept = keeps_name n w.section.payload f.content g.1 h.value read.contains f.encodes (admitted_name g.2) in
      one_name v.section.id v.section.payload v.section.name (Some n) j.named (sym s.id ∙ g.0, kept.0, subst (λ z. Decodes name padded z n kept.0) same (built_decodes kept.1))
  name_after None e h g = none v.section.name j.named
    where
      none : (m : Option (List ℕ)) → IsNameOf v.section.id v.section.payload m → m ≡ None
      none None k = refl
      none (Some m) k = let custom = s.id ∙ k.0 in absurd (custom_has_name h.value custom (decoding_of (kind_at w.section.id None) w.section w.encoding i h).contains (g custom))

  same_payload : w.encoding ≡ w.section.sized → v.section.payload ≡ w.section.payload
  same_payload e = one_payload w.section.sized v.section.payload w.section.payload (subst (λ z. size_prefixed any_bytes padded z v.section.payload) (sym s.encoding ∙ e) j.contains) i.contains

  -- The name of the section does not change.
  same_name : (how : How) → IsWritten offsets how w.section w.encoding → how ≢ LeftOut → v.section.name ≡ w.section.name
  same_name Minimal h n = name_after w.section.name refl h.0 i.named
  same_name Kept h n = one_name w.section.id w.section.payload v.section.name w.section.name (subst (λ z. IsNameOf z w.section.payload v.section.name) (sym s.id) (subst (λ z. IsNameOf v.section.id z v.section.name) (same_payload h.0.0) j.named)) i.named
  same_name LeftOut h n = absurd (n refl)

  same_kind : (how : How) → IsWritten offsets how w.section w.encoding → how ≢ LeftOut → section_kind_of v.section ≡ section_kind_of w.section
  same_kind how h n = ap (λ z. kind_at v.section.id z) (same_name how h n) ∙ ap (λ z. kind_at z w.section.name) (sym s.id)

  minimal_again : (how : How) → IsWritten offsets how w.section w.encoding → how ≢ LeftOut → ShortensIn admitted (section_kind_of v.section) v.section.sized (length v.section.sized) [] v.encoding → v.encoding ≡ v.section.sized
  minimal_again Minimal h n g =
      let kind = section_kind_of w.section in
      let k : ShortensIn admitted kind v.section.sized (length v.section.sized) [] v.encoding = subst (λ z. ShortensIn admitted z v.section.sized (length v.section.sized) [] v.encoding) (same_kind Minimal h n) g in
      let unique = section_unambiguous kind in
      let first : section kind standard_minimal v.section.sized h.0.value = subst (λ z. section kind standard_minimal z h.0.value) (sym h.0.appended ∙ s.encoding) h.0.encodes in
      let read = decoding_of kind v.section v.encoding j k in
      let same : h.0.value ≡ k.value = (unique.unique standard v.section.sized v.section.sized [] [] h.0.value k.value (unique.encodings.included standard_minimal standard tt v.section.sized h.0.value first) read.whole refl).0 in
      k.appended ∙ unique.encodings.one admitted k.encoding v.section.sized k.value k.encodes (subst (λ z. section kind standard_minimal v.section.sized z) same first)
  minimal_again Kept h n g =
      let kind = section_kind_of w.section in
      let k : ShortensIn admitted kind v.section.sized (length v.section.sized) [] v.encoding = subst (λ z. ShortensIn admitted z v.section.sized (length v.section.sized) [] v.encoding) (same_kind Kept h n) g in
      let none : Rejects (section kind) standard v.section.sized = subst (λ z. Rejects (section kind) standard z) (sym h.0.0 ∙ s.encoding) h.0.1 in
      absurd (none.none k.value (drop (length v.section.sized) v.section.sized) k.takes.decodes)
  minimal_again LeftOut h n g = absurd (n refl)

  not_held : (how : How) → IsWritten offsets how w.section w.encoding → how ≢ LeftOut → offsets ≡ LeaveOut → contains_offsets w.section.name ≡ false
  not_held Minimal h n e = h.1 e
  not_held Kept h n e = h.1 e
  not_held LeftOut h n e = absurd (n refl)

  stays : (how : How) → IsWritten offsets how w.section w.encoding → how ≢ LeftOut → (again : How) → IsWritten offsets again v.section v.encoding → written_as again v.section.id v.encoding ≡ bytes_of v.section
  stays how h n Minimal g = ap (λ z. v.section.id ∷ z) (minimal_again how h n g.0)
  stays how h n Kept g = ap (λ z. v.section.id ∷ z) g.0.0
  stays how h n LeftOut g = let held = sym (not_held how h n g.1) ∙ ap contains_offsets (sym (same_name how h n)) ∙ g.2 in absurd (cc held)

-- ---- all sections

-- The bytes after an id are size-prefixed.
record IsSized (encoding : List ℕ) : Type 0 where
  payload : List ℕ
  sized : size_prefixed any_bytes padded encoding payload

encoding_sized : (offsets : Offsets) (w : Rewrite) (how : How) → IsSection w.section → IsWritten offsets how w.section w.encoding → how ≢ LeftOut → IsSized w.encoding
encoding_sized offsets w Minimal i h n =
    let t = h.0 in
    let f = t.encodes in
    let any : size_prefixed any_bytes padded t.encoding f.content = record { front = f.front; content = f.content; joined = f.joined; size = minimal_size f.front (length f.content) f.size; encodes = refl } in
    record { payload = f.content; sized = subst (λ z. size_prefixed any_bytes padded z f.content) (sym t.appended) any }
encoding_sized offsets w Kept i h n = record { payload = w.section.payload; sized = subst (λ z. size_prefixed any_bytes padded z w.section.payload) (sym h.0.0) i.contains }
encoding_sized offsets w LeftOut i h n = absurd (n refl)

-- The output for the section is the section unchanged.
abbrev IsAgain : Rewrite → Type 0
IsAgain v = written v ≡ bytes_of v.section

module _ (offsets : Offsets) where
  -- The next section of the output is the next section of the minimized module.
  next : (w : Rewrite) (rest : List ℕ) (how : How) → IsSection w.section → IsWritten offsets how w.section w.encoding → how ≢ LeftOut → (v : Rewrite) (behind : List ℕ) → IsSection v.section → (w.section.id ∷ w.encoding) ++ rest ≡ bytes_of v.section ++ behind → IsOutputOf w v × (rest ≡ behind)
  next w rest how i h n v behind j e =
      let f = encoding_sized offsets w how i h n in
      let tails : w.encoding ++ rest ≡ v.section.sized ++ behind = cc e in
      let same = size_prefixed_bytes_unambiguous.unique padded w.encoding v.section.sized rest behind f.payload v.section.payload f.sized j.contains tails in
      (record { id = cc e; encoding = same.1 }, same.2)

  -- The step of the induction: one section of the output, then the output for the others.
  one_again : (w : Rewrite) (rest : List ℕ) (how : How) → IsSection w.section → IsWritten offsets how w.section w.encoding → how ≢ LeftOut → (vs : List Rewrite) → AllByRecursion (λ v. IsSection v.section) vs → AllByRecursion (IsRewrite offsets) vs
      → (w.section.id ∷ w.encoding) ++ rest ≡ flat_map (λ v. bytes_of v.section) vs
      → ((us : List Rewrite) → AllByRecursion (λ v. IsSection v.section) us → AllByRecursion (IsRewrite offsets) us → rest ≡ flat_map (λ v. bytes_of v.section) us → AllByRecursion IsAgain us) → AllByRecursion IsAgain vs
  one_again w rest how i h n [] j g e others = tt
  one_again w rest how i h n (v ∷ vs) j g e others =
      let a = next w rest how i h n v (flat_map (λ u. bytes_of u.section) vs) j.0 e in
      (stays offsets w v i j.0 a.0 how h n v.how g.0, others vs j.1 g.1 a.1)

  none_again : (vs : List Rewrite) → [] ≡ flat_map (λ v. bytes_of v.section) vs → AllByRecursion IsAgain vs
  none_again [] e = tt
  none_again (v ∷ vs) e = absurd (cc e)

  first_again : (w : Rewrite) (rest : List ℕ) (how : How) → IsSection w.section → IsWritten offsets how w.section w.encoding → (vs : List Rewrite) → AllByRecursion (λ v. IsSection v.section) vs → AllByRecursion (IsRewrite offsets) vs
      → written_as how w.section.id w.encoding ++ rest ≡ flat_map (λ v. bytes_of v.section) vs
      → ((us : List Rewrite) → AllByRecursion (λ v. IsSection v.section) us → AllByRecursion (IsRewrite offsets) us → rest ≡ flat_map (λ v. bytes_of v.section) us → AllByRecursion IsAgain us) → AllByRecursion IsAgain vs
  first_again w rest Minimal i h vs j g e others = one_again w rest Minimal i h (λ z. cc z) vs j g e others
  first_again w rest Kept i h vs j g e others = one_again w rest Kept i h (λ z. cc z) vs j g e others
  first_again w rest LeftOut i h vs j g e others = others vs j g e

  all_again : (ws vs : List Rewrite) → AllByRecursion (λ w. IsSection w.section) ws → AllByRecursion (IsRewrite offsets) ws → AllByRecursion (λ v. IsSection v.section) vs → AllByRecursion (IsRewrite offsets) vs → flat_map written ws ≡ flat_map (λ v. bytes_of v.section) vs → AllByRecursion IsAgain vs
  all_again [] vs i h j g e = none_again vs e
  all_again (w ∷ ws) vs i h j g e = first_again w (flat_map written ws) w.how i.0 h.0 vs j g e (λ us k f d. all_again ws us i.1 h.1 k f d)

joined_again : (vs : List Rewrite) → AllByRecursion IsAgain vs → flat_map written vs ≡ flat_map (λ v. bytes_of v.section) vs
joined_again [] h = refl
joined_again (v ∷ vs) h = ap (λ z. z ++ flat_map written vs) h.0 ∙ ap (λ z. bytes_of v.section ++ z) (joined_again vs h.1)

-- ---- offsets

unchanged : (v : Rewrite) (how : How) → IsWritten Refuse how v.section v.encoding → written_as how v.section.id v.encoding ≡ bytes_of v.section → v.encoding ≡ v.section.sized
unchanged v Minimal h e = cc e
unchanged v Kept h e = h.0.0
unchanged v LeftOut h e = absurd (cc e)

-- If the output for each section is the section unchanged, all sections stay.
all_stay : (target : Target) (from to : ℕ) (vs : List Rewrite) → from ≡ to → AllByRecursion (IsRewrite Refuse) vs → AllByRecursion IsAgain vs → AllStay target from to vs
all_stay target from to [] e g h = tt
all_stay target from to (v ∷ vs) e g h = (
  ((λ l. unchanged v v.how g.0 h.0), (λ l. e)),
  all_stay target (from + length (bytes_of v.section)) (to + length (written v)) vs (omega (arith, e, ap length h.0)) g.1 h.1,
)

-- ---- modules

all_sections : (ws : List Rewrite) → AllByRecursion IsSection (sections_of ws) → AllByRecursion (λ w. IsSection w.section) ws
all_sections [] h = tt
all_sections (w ∷ ws) h = (h.0, all_sections ws h.1)

-- Each section of a minimized module is unchanged if it is minimized again.
module_again : (offsets : Offsets) (bytes old encoding : List ℕ) (kept : ℕ) (vs : List Rewrite) → ShortensModule offsets bytes kept old (old ++ encoding) → HasSections encoding (sections_of vs) → AllByRecursion (IsRewrite offsets) vs → AllByRecursion IsAgain vs
module_again offsets bytes old encoding kept vs first has each =
    let is : encoding ≡ first.encoding = append_cancel_left old encoding first.encoding first.appended in
    let behind : flat_map written first.rewrites ≡ flat_map bytes_of (sections_of vs) = append_cancel_left header (flat_map written first.rewrites) (flat_map bytes_of (sections_of vs)) (sym first.is ∙ sym is ∙ has.joined) in
    all_again offsets first.rewrites vs (all_sections first.rewrites first.has.each) first.each (all_sections vs has.each) each (behind ∙ sym (bytes_joined vs))

-- A minimized module loses no offsets if it is minimized again.
none_lost : (bytes old encoding : List ℕ) (kept number : ℕ) → ShortensModule Refuse bytes kept old (old ++ encoding) → LosesOffsets encoding number → ⊥
none_lost bytes old encoding kept number first l =
    let vs = l.before ++ l.holder ∷ l.after in
    l.lost.2 (all_stay l.lost.0 (length header) (length header) vs refl l.each (module_again Refuse bytes old encoding kept vs first l.has l.each))

only_memory : (fault : ReadFault) → (fault ≢ Memory → ⊥) → fault ≡ Memory
only_memory Memory h = refl
only_memory fault h = absurd (h (λ e. cc e))

refused_again : (offsets : Offsets) (bytes old encoding : List ℕ) (kept : ℕ) (fault : ModuleFault) → ShortensModule offsets bytes kept old (old ++ encoding) → Explains offsets encoding fault → IsMemory fault
refused_again offsets bytes old encoding kept (faults.Section number fault) first why =
    let is : encoding ≡ first.encoding = append_cancel_left old encoding first.encoding first.appended in
    only_memory fault λ n. (why n).1.none first.sections (subst (λ z. wasm_module padded z first.sections) (sym is) first.read)
refused_again offsets bytes old encoding kept (faults.Offsets number) first why =
    none_lost bytes old encoding kept number (subst (λ z. ShortensModule z bytes kept old (old ++ encoding)) why.0 first) why.1

pub settled : IsIdempotent
settled = record {
  again = λ offsets bytes old other encoding next kept more first second.
      let comes : next ≡ second.encoding = append_cancel_left other next second.encoding second.appended in
      let same = joined_again second.rewrites (module_again offsets bytes old encoding kept second.rewrites first second.has second.each) in
      comes ∙ second.is ∙ ap (λ z. header ++ z) (same ∙ bytes_joined second.rewrites) ∙ sym second.has.joined;
  accepted = refused_again;
}
