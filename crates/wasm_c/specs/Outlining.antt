-- This file defines the result of `dz_outline`.
use Rattle.std.specs.Prelude.{◌≡◌, ◌≢◌, ℕ, ◌+◌, List, [], ◌∷◌, length, drop, map, suc, Option, Some, None, option_map, ◌⊎◌, IfSome, if◌then◌else◌, nat_lt, All}
use Rattle.wasm_base.specs.Words.{name, wasm_module, RejectsWhole, padded, Decodes}
use Rattle.wasm_base.specs.declared.fault.ReadFault.{ReadFault}
use Rattle.wasm_base.specs.declared.fault.ReadFault.TheVariants.{Memory}
use Rattle.wasm_reader.specs.Words.{HasOutline, EndsAt, ExplainsHeader}
use Rattle.wasm_reader.specs.declared.outlines.Outlined.{Outlined}
use Rattle.wasm_c.specs.Assembled.{Gives}
use Rattle.wasm_c.specs.Listing.{count_of, fault_number}
use Rattle.wasm_c.specs.declared.TheConstants.{NO_ANSWER}
use Rattle.wasm_c.specs.declared.outlining.DzOutlined.{DzOutlined}

-- The number of bytes at the front with bit 7 set.
abbrev pub continued : List ℕ → ℕ
continued [] = 0
continued (b ∷ bs) = if nat_lt b 0x80 then 0 else suc (continued bs)

-- The offset after the LEB128 number at this offset.
abbrev pub behind_number : List ℕ → ℕ → ℕ
behind_number module_bytes place = place + suc (continued (drop place module_bytes))

-- The name of a section, if it has one.
abbrev pub name_of : Outlined → Option (List ℕ)
name_of l = option_map (λ n. n.now) l.name

-- The offset of a name whose length is at this offset, if there is a name.
abbrev pub name_place : List ℕ → ℕ → Option (List ℕ) → ℕ
name_place module_bytes place None = NO_ANSWER
name_place module_bytes place (Some n) = behind_number module_bytes place

-- The number of bytes of a name, if there is one.
abbrev pub name_size : Option (List ℕ) → ℕ
name_size None = NO_ANSWER
name_size (Some n) = length n

-- The section of a line.
abbrev pub section_of : List ℕ → Outlined → DzOutlined
section_of module_bytes l = record {
  items = count_of l.items;
  offset = l.offset;
  name_offset = name_place module_bytes l.offset (name_of l);
  name_size = name_size (name_of l);
  size = l.size;
  id = l.id;
}

-- The name of a line decodes at the offset of its payload. The bytes of the name begin at the
-- offset that the call reports.
abbrev pub IsNamed : List ℕ → Outlined → Type 0
IsNamed module_bytes l = IfSome (name_of l) (λ n. (rest : List ℕ) × Decodes name padded (drop l.offset module_bytes) n rest × (behind_number module_bytes l.offset + length n + length rest ≡ length module_bytes))

-- The bytes are a module of sections that the lines describe, and the call returns these.
pub record Outlines (module_bytes : List ℕ) (old new : List DzOutlined) (place cause n : ℕ) : Type 0 where
  pub lines : List Outlined
  pub has : HasOutline module_bytes lines
  pub named : All (IsNamed module_bytes) lines
  pub gives : Gives (map (section_of module_bytes) lines) old new n
  pub no_place : place ≡ 0
  pub no_cause : cause ≡ 0

-- The call returns no outline, and writes nothing. The section of this number is the first that is
-- malformed, whatever its payload, or an allocation failed. At 0 it is the header, and the error
-- says why.
pub record Refuses (module_bytes : List ℕ) (old new : List DzOutlined) (place cause n : ℕ) : Type 0 where
  pub answer : n ≡ NO_ANSWER
  pub kept : new ≡ old
  pub fault : ReadFault
  pub numbered : cause ≡ fault_number fault
  pub ends : fault ≢ Memory → EndsAt module_bytes place
  pub no_module : fault ≢ Memory → RejectsWhole wasm_module padded module_bytes
  pub header : ExplainsHeader module_bytes place fault

-- The result of a call with a module: an error or an outline.
abbrev pub Outcome : List ℕ → List DzOutlined → List DzOutlined → ℕ → ℕ → ℕ → Type 0
Outcome module_bytes old new place cause n = Refuses module_bytes old new place cause n ⊎ Outlines module_bytes old new place cause n
