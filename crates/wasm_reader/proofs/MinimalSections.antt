-- This file proves that the minimizer appends the one minimal encoding of decoded sections.
use Rattle.wasm_reader.specs.{Contents}
use Rattle.wasm_reader.specs.{section, TakesIn, ShortensIn, HaveOneEncoding}
use Rattle.wasm_reader.specs.declared.kinds.SectionKind.{SectionKind}
use Rattle.wasm_reader.proofs.KindLaws.{content_whole}
use Rattle.wasm_base.proofs.Words.{◌≡◌, ◌↔◌, ℕ, ◌+◌, List, [], ◌++◌, length, sym, ap, subst, ◌∙◌, arith, append_cancel_left, padded, standard_minimal, standard, Grammar, builders, minimal_of}
use Rattle.wasm_base.proofs.Words.{u32, Unambiguous, IsIncludedIn, size_prefixed_unambiguous, decodes_same, u32_unambiguous}
use Rattle.wasm_base.specs.Minimal.{Minimizes}
use Rattle.std.proofs.lemmas.List.{length-append}
use Rattle.wasm_reader.proofs.DecodeSections.{taken}

-- ---- sections

pub section_unambiguous : (kind : SectionKind) → Unambiguous (section kind)
section_unambiguous kind = size_prefixed_unambiguous (content_whole kind)

pub shortened : (w : Grammar) (kind : SectionKind) (bytes rest old new : List ℕ) (n : ℕ) → Minimizes w (section kind) bytes rest old new → n + length rest ≡ length bytes → ShortensIn w kind bytes n old new
shortened w kind bytes rest old new n h l =
    let read = h.decoded in
    let unique = section_unambiguous kind in
    let less = unique.encodings.shorter w read.front h.value read.encodes in
    let same = unique.encodings.one w less.0 h.encoding h.value less.1 h.encodes in
    record {
      value = h.value;
      takes = record { within = omega (arith, l); decodes = taken bytes rest h.value n read l };
      encoding = h.encoding;
      encodes = h.encodes;
      shorter = omega (arith, less.2, ap length same, ap length read.split, length-append read.front rest, l);
      appended = h.appended;
    }

-- A size prefix of the standard's grammar is one of the builders'.
pub standard_size : IsIncludedIn (u32 standard) (u32 padded)
standard_size s n h = record { groups = h.groups; total = h.total; range = h.range; size = h.size }

pub minimal_size : IsIncludedIn (u32 standard_minimal) (u32 padded)
minimal_size s n h = standard_size s n (u32_unambiguous.encodings.included standard_minimal standard tt s n h)

-- ---- one encoding

module _ (w : Grammar) where
  decodes_as : (kind : SectionKind) (bytes old new : List ℕ) (n : ℕ) (x : Contents) → (s : ShortensIn w kind bytes n old new) → TakesIn w kind bytes x n → section kind (minimal_of w) s.encoding x
  decodes_as kind bytes old new n x s t = subst (λ z. section kind (minimal_of w) s.encoding z) (decodes_same (section_unambiguous kind) s.takes.decodes t.decodes).0 s.encodes

  one_in : (kind : SectionKind) (a b old other s t : List ℕ) (n m : ℕ) (x y : Contents) → ShortensIn w kind a n old (old ++ s) → ShortensIn w kind b m other (other ++ t) → TakesIn w kind a x n → TakesIn w kind b y m → (s ≡ t) ↔ (x ≡ y)
  one_in kind a b old other s t n m x y p q h g =
      let unique = section_unambiguous kind in
      let first = decodes_as kind a old (old ++ s) n x p h in
      let second = decodes_as kind b other (other ++ t) m y q g in
      let s_is : s ≡ p.encoding = append_cancel_left old s p.encoding p.appended in
      let t_is : t ≡ q.encoding = append_cancel_left other t q.encoding q.appended in (
        λ e. (unique.unique (minimal_of w) p.encoding q.encoding [] [] x y first second (ap (λ z. z ++ []) (sym s_is ∙ e ∙ t_is))).0,
        λ e. s_is ∙ unique.encodings.one w p.encoding q.encoding y (subst (λ z. section kind (minimal_of w) p.encoding z) e first) second ∙ sym t_is,
      )

pub one_encoding : HaveOneEncoding
one_encoding = record { same = one_in builders; same_in = one_in }
