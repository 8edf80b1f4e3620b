-- This file defines the result of `dz_shorten_module`.
use Rattle.std.specs.Prelude.{◌≡◌, ℕ, List, [], ◌⊎◌, cond, ◌==◌}
use Rattle.wasm_base.specs.declared.fault.ReadFault.{ReadFault}
use Rattle.wasm_reader.specs.Words.{ShortensModule, Explains, ExplainsHeader}
use Rattle.wasm_reader.specs.declared.whole.Offsets.{Offsets}
use Rattle.wasm_reader.specs.declared.whole.Offsets.TheVariants.{Refuse, LeaveOut}
use Rattle.wasm_c.specs.Assembled.{Gives}
use Rattle.wasm_c.specs.Listing.{fault_number}
use Rattle.wasm_c.specs.declared.TheConstants.{NO_ANSWER}
use Rattle.wasm_reader.specs.declared.whole.ModuleFault.TheVariants as faults

-- The treatment of sections that hold offsets: 0 rejects a module that would lose them, any other
-- number leaves them out.
abbrev pub offsets_numbered : ℕ → Offsets
offsets_numbered n = cond (n == 0) Refuse LeaveOut

-- The call returns the module with its sections minimized, and the number of those that are kept
-- unchanged.
pub record Shortened (module_bytes : List ℕ) (drop_offsets : ℕ) (old new : List ℕ) (kept place cause n : ℕ) : Type 0 where
  pub text : List ℕ
  pub shortens : ShortensModule (offsets_numbered drop_offsets) module_bytes kept [] text
  pub gives : Gives text old new n
  pub no_place : place ≡ 0
  pub no_cause : cause ≡ 0

-- The section of this number would lose its offsets; or it is the first that is malformed, whatever
-- its payload, or an allocation failed. At 0 it is the header, and the error says why.
abbrev pub IsWhy : List ℕ → ℕ → ℕ → ℕ → Type 0
IsWhy module_bytes drop_offsets place cause =
    ((cause ≡ 10) × Explains (offsets_numbered drop_offsets) module_bytes (faults.Offsets place))
    ⊎ ((fault : ReadFault) × (cause ≡ fault_number fault) × Explains (offsets_numbered drop_offsets) module_bytes (faults.Section place fault) × ExplainsHeader module_bytes place fault)

-- The call returns no module, and writes nothing.
pub record Refuses (module_bytes : List ℕ) (drop_offsets : ℕ) (old new : List ℕ) (kept place cause n : ℕ) : Type 0 where
  pub answer : n ≡ NO_ANSWER
  pub as_was : new ≡ old
  pub none_kept : kept ≡ 0
  pub why : IsWhy module_bytes drop_offsets place cause

-- The result of a call with a module: an error or its minimal form.
abbrev pub Outcome : List ℕ → ℕ → List ℕ → List ℕ → ℕ → ℕ → ℕ → ℕ → Type 0
Outcome module_bytes drop_offsets old new kept place cause n = Refuses module_bytes drop_offsets old new kept place cause n ⊎ Shortened module_bytes drop_offsets old new kept place cause n
