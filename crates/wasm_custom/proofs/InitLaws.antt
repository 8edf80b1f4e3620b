-- This file proves that init functions are unambiguous, and how they are decoded and minimized.
use Rattle.wasm_base.proofs.Words.{ℕ, List, ap, refl, minimal, unsigned_encoding, pair_encodes, u32_encodes, u32, pair, Mode, Unambiguous, Decodes, Rejects, AppendsMinimal, both_grammars, mapped_unambiguous}
use Rattle.wasm_base.proofs.Words.{pair_unambiguous, u32_unambiguous, mapped_decodes, mapped_rejects, mapped_appended, pair_appended}
use Rattle.wasm_custom.specs.InitFunctions.{init_encoding, IsInit, init_of, init_function}
use Rattle.wasm_custom.specs.declared.init_functions.InitFunction.{InitFunction}

abbrev parts_of : InitFunction → ℕ × ℕ
parts_of f = (f.priority, f.symbol)

pub init_unambiguous : Unambiguous init_function
init_unambiguous = mapped_unambiguous init_of (λ x y e. ap parts_of e) (pair_unambiguous u32_unambiguous u32_unambiguous)

pub init_encodes : (f : InitFunction) → IsInit f → init_function minimal (init_encoding f) f
init_encodes f plain = (parts_of f, refl, pair_encodes u32 u32 (unsigned_encoding f.priority) (unsigned_encoding f.symbol) f.priority f.symbol (u32_encodes f.priority plain.priority) (u32_encodes f.symbol plain.symbol))

-- ---- decoding

pub init_decodes : {m : Mode} (bytes last : List ℕ) (priority symbol : ℕ) → Decodes (pair u32 u32) m bytes (priority, symbol) last → Decodes init_function m bytes (record { priority = priority; symbol = symbol }) last
init_decodes bytes last priority symbol h = mapped_decodes init_of h

pub init_none : {m : Mode} (bytes : List ℕ) → Rejects (pair u32 u32) m bytes → Rejects init_function m bytes
init_none bytes n = mapped_rejects init_of n

pub ruleset init_steps = (init_decodes, init_none)

-- ---- the one minimal encoding of decoded init functions

pub init_appended : (f : InitFunction) (old middle new : List ℕ) → AppendsMinimal both_grammars u32 f.priority old middle → AppendsMinimal both_grammars u32 f.symbol middle new → AppendsMinimal both_grammars init_function f old new
init_appended f old middle new a b = mapped_appended init_of (pair u32 u32) (f.priority, f.symbol) old new (λ z k. ap parts_of k) (pair_appended u32 u32 a b)
