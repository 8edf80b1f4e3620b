-- This file defines sections of each kind, and the promises of their reader and their minimizer.
use Rattle.std.specs.Prelude.{◌≡◌, ◌↔◌, ℕ, ◌≤◌, ◌<◌, ◌^◌, List, ◌++◌, length, drop}
use Rattle.wasm_base.specs.Words.{Grammar, builders, minimal_of, padded_of, Format, size_prefixed, Decodes}
use Rattle.wasm_base.specs.Numbers.{admitted}
use Rattle.wasm_reader.specs.Kinds.{Contents, content, kind_in}
use Rattle.wasm_reader.specs.declared.kinds.SectionKind.{SectionKind}
use Rattle.wasm_reader.specs.declared.kinds.SectionKind.TheVariants as kinds

-- A section of this kind without its id: its size-prefixed content.
abbrev pub section : SectionKind → Format Contents
section kind = size_prefixed (content kind)

-- The first `n` bytes are a section of this kind in this grammar, possibly padded, with this
-- content.
pub record TakesIn (w : Grammar) (kind : SectionKind) (bytes : List ℕ) (x : Contents) (n : ℕ) : Type 0 where
  pub within : n ≤ length bytes
  pub decodes : Decodes (section kind) (padded_of w) bytes x (drop n bytes)

-- The same in the builders' grammar.
abbrev pub Takes : SectionKind → List ℕ → Contents → ℕ → Type 0
Takes kind bytes x n = TakesIn builders kind bytes x n

-- The first `n` bytes are a section of this kind in this grammar. The buffer gains its minimal
-- encoding in the grammar, which has at most `n` bytes.
pub record ShortensIn (w : Grammar) (kind : SectionKind) (bytes : List ℕ) (n : ℕ) (old new : List ℕ) : Type 0 where
  pub value : Contents
  pub takes : TakesIn w kind bytes value n
  pub encoding : List ℕ
  pub encodes : section kind (minimal_of w) encoding value
  pub shorter : length encoding ≤ n
  pub appended : new ≡ old ++ encoding

-- The same in the builders' grammar.
abbrev pub Shortens : SectionKind → List ℕ → ℕ → List ℕ → List ℕ → Type 0
Shortens kind bytes n old new = ShortensIn builders kind bytes n old new

-- The first grammar has all encodings of the second.
abbrev pub Extends : Grammar → Grammar → Type 0
Extends admitted v = Unit {0}
Extends builders builders = Unit {0}
Extends builders admitted = ⊥

-- A code section in the standard's grammar has fewer than 2^31 bytes. Builders may need twice as
-- many for it, and they write no body of 2^32 bytes or more.
abbrev pub HasShortBodies : Grammar → SectionKind → List ℕ → Type 0
HasShortBodies admitted kinds.Bodies bytes = length bytes < 2 ^ 31
HasShortBodies w kind bytes = Unit {0}

-- Some bytes decode to this content in a grammar that the grammar `w` extends.
pub record HasContentIn (w : Grammar) (x : Contents) : Type 0 where
  pub grammar : Grammar
  pub extended : Extends w grammar
  pub bytes : List ℕ
  pub decoded : content (kind_in x) (padded_of grammar) bytes x
  pub short : HasShortBodies grammar (kind_in x) bytes

-- The buffer gains the minimal encoding of this content in the grammar `w`, if some bytes decode to
-- it.
pub record AppendsContentIn (w : Grammar) (x : Contents) (old new : List ℕ) : Type 0 where
  pub encoding : List ℕ
  pub appended : new ≡ old ++ encoding
  pub encodes : HasContentIn w x → content (kind_in x) (minimal_of w) encoding x

-- Two sections of a kind have the same minimal encoding in a grammar exactly if they decode to the
-- same items.
pub record HaveOneEncoding : Type 0 where
  pub same : (kind : SectionKind) (a b old other s t : List ℕ) (n m : ℕ) (x y : Contents) → Shortens kind a n old (old ++ s) → Shortens kind b m other (other ++ t) → Takes kind a x n → Takes kind b y m → (s ≡ t) ↔ (x ≡ y)
  pub same_in : (w : Grammar) (kind : SectionKind) (a b old other s t : List ℕ) (n m : ℕ) (x y : Contents) → ShortensIn w kind a n old (old ++ s) → ShortensIn w kind b m other (other ++ t) → TakesIn w kind a x n → TakesIn w kind b y m → (s ≡ t) ↔ (x ≡ y)
