-- This file defines the contents of slices and strings that are borrowed or owned.
use Rattle.std.specs.Prelude.{ℕ, List, string_bytes}
use Rattle.wasm_base.specs.declared.cow.CowSlice.{CowSlice}
use Rattle.wasm_base.specs.declared.cow.CowStr.{CowStr}
use Rattle.wasm_base.specs.declared.cow.CowSlice.TheVariants as slices
use Rattle.wasm_base.specs.declared.cow.CowStr.TheVariants as strings

-- The items of a slice, borrowed or owned.
abbrev pub items_of : {T A : Type 0} → CowSlice T A → List T
items_of (slices.Borrowed items) = items.now
items_of (slices.Owned items) = items.items

-- The UTF-8 bytes of a string, borrowed or owned.
abbrev pub utf8_of : {A : Type 0} → CowStr A → List ℕ
utf8_of (strings.Borrowed text) = text.now
utf8_of (strings.Owned text) = string_bytes text
