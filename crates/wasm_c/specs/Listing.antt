-- This file defines the result of `dz_list`.
use Rattle.std.specs.Prelude.{◌≡◌, ◌≢◌, ℕ, List, map, Option, Some, None, ◌⊎◌}
use Rattle.wasm_base.specs.declared.fault.ReadFault.{ReadFault}
use Rattle.wasm_base.specs.declared.fault.ReadFault.TheVariants.{Ended, NotShortest, TooLarge, UnknownTag, UnknownOpcode, NotUtf8, SizeMismatch, Memory}
use Rattle.wasm_reader.specs.Words.{HasLines, StopsAt, ExplainsHeader}
use Rattle.wasm_reader.specs.declared.modules.Listed.{Listed}
use Rattle.wasm_c.specs.Assembled.{Gives}
use Rattle.wasm_c.specs.declared.TheConstants.{NO_ANSWER}
use Rattle.wasm_c.specs.declared.listing.DzSection.{DzSection}

-- The number of an error.
abbrev pub fault_number : ReadFault → ℕ
fault_number Ended = 1
fault_number NotShortest = 2
fault_number TooLarge = 3
fault_number UnknownTag = 4
fault_number UnknownOpcode = 5
fault_number NotUtf8 = 6
fault_number SizeMismatch = 7
fault_number Memory = 8

-- The number of items, or `NO_ANSWER` if they are not counted.
abbrev pub count_of : Option ℕ → ℕ
count_of None = NO_ANSWER
count_of (Some n) = n

-- The section of a line.
abbrev pub section_of : Listed → DzSection
section_of l = record { items = count_of l.items; size = l.size; id = l.id }

-- The bytes are a module, and the call returns its sections.
pub record Lists (module_bytes : List ℕ) (old new : List DzSection) (place cause n : ℕ) : Type 0 where
  pub lines : List Listed
  pub has : HasLines module_bytes lines
  pub gives : Gives (map section_of lines) old new n
  pub no_place : place ≡ 0
  pub no_cause : cause ≡ 0

-- The call returns no list, and writes nothing. The section of this number is the first that does
-- not decode, or an allocation failed. At 0 it is the header, and the error says why.
pub record Refuses (module_bytes : List ℕ) (old new : List DzSection) (place cause n : ℕ) : Type 0 where
  pub answer : n ≡ NO_ANSWER
  pub kept : new ≡ old
  pub fault : ReadFault
  pub numbered : cause ≡ fault_number fault
  pub stops : fault ≢ Memory → StopsAt module_bytes place
  pub header : ExplainsHeader module_bytes place fault

-- The result of a call with a module: an error or a list.
abbrev pub Outcome : List ℕ → List DzSection → List DzSection → ℕ → ℕ → ℕ → Type 0
Outcome module_bytes old new place cause n = Refuses module_bytes old new place cause n ⊎ Lists module_bytes old new place cause n
