-- This file defines constant expressions and the calls that build them. Core specification, Binary
-- Format, Instructions, Expressions.
use Rattle.std.specs.Prelude.{◌≡◌, ◌≢◌, ◌↔◌, ℕ, List, [], ◌∷◌, ◌++◌, Result, Err, IfOk, Option, None, Some, OnOk, map, false}
use Rattle.std.specs.Iterator.{Drains, Yields}
use Rattle.std.specs.List.{All, flat_map}
use Rattle.std.specs.declared.alloc.Global.{Global}
use Rattle.wasm_base.specs.Words.{Mode, minimal, padded, Format, u32, such, members, ended, prefixed, Decodes}
use Rattle.wasm_base.specs.declared.refused.Refused.{Refused}
use Rattle.wasm_base.specs.declared.refused.Refused.TheVariants.{TooLong}
use Rattle.wasm_code.specs.declared.first.First.{First}
use Rattle.wasm_insn.specs.declared.instruction.Instruction.{Instruction}
use Rattle.wasm_insn.specs.Words.{Plain, instruction, normal, same_op, table, row_of, instruction_encoding, IsEncodableInstruction, IsWellFormedInstruction}
use Rattle.wasm_insn.specs.declared.op.Op.TheVariants.{Byte}
use Rattle.wasm_code.specs.declared.first.First.TheVariants as firsts
use Rattle.wasm_insn.specs.declared.instruction.Instruction.TheVariants as instructions

-- ---- format and encoding

-- The instruction is not `end`.
abbrev pub IsNoEnd : Plain → Type 0
IsNoEnd i = same_op i.op (Byte 0x0B) ≡ false

-- An expression: instructions other than `end`, then `end`. The first `end` ends it, even that of a
-- nested block.
abbrev pub expression : Format (List Plain)
expression = ended 0x0B (such IsNoEnd (instruction table))

-- The encoding of an expression: the stored bytes, then `end`.
abbrev pub expression_encoding : List ℕ → List ℕ
expression_encoding bytes = bytes ++ 0x0B ∷ []

-- ---- well-formed expressions

-- The stored bytes encode these instructions in this mode, and none of them is `end`.
abbrev pub StoresIn : Mode → List ℕ → List Plain → Type 0
StoresIn mode bytes is = members (such IsNoEnd (instruction table)) mode bytes is

-- The stored bytes minimally encode these instructions, and none of them is `end`.
abbrev pub StoresInstructions : List ℕ → List Plain → Type 0
StoresInstructions bytes is = StoresIn minimal bytes is

-- The stored bytes encode these instructions, possibly padded, and none of them is `end`.
abbrev pub StoresPadded : List ℕ → List Plain → Type 0
StoresPadded bytes is = StoresIn padded bytes is

-- The normal form of an instruction.
abbrev pub normal_row : {A : Type 0} → Instruction A → Plain
normal_row i = normal (row_of i)

-- A well-formed instruction other than `end`, which a constant expression can store.
pub record IsWellFormedInside {A : Type 0} (i : Instruction A) : Type 0 where
  pub plain : IsWellFormedInstruction i
  pub no_end : IsNoEnd (row_of i)

-- The bytes gain the encoding of `i`. If `i` is well-formed and the old bytes minimally encode
-- instructions, the new bytes encode these and the normal form of `i`.
pub record Stores (i : Instruction Global) (old new : List ℕ) : Type 0 where
  pub encoding : new ≡ old ++ instruction_encoding i
  pub plain : IsWellFormedInstruction i → (is : List Plain) → StoresInstructions old is → StoresInstructions new (is ++ normal_row i ∷ [])

-- If the instructions are well-formed and none is `end`, the bytes minimally encode their normal
-- forms.
pub record StoresAll {A : Type 0} (is : List (Instruction A)) (bytes : List ℕ) : Type 0 where
  pub plain : All IsWellFormedInside is → StoresInstructions bytes (map normal_row is)

-- ---- an expression of one instruction, which is kept as a value

-- The instruction that is kept as a value.
abbrev pub instruction_of : First → Instruction Global
instruction_of (firsts.GlobalGet index) = instructions.GlobalGet index
instruction_of (firsts.RefNull ty) = instructions.RefNull ty
instruction_of (firsts.RefFunc index) = instructions.RefFunc index
instruction_of (firsts.I32Const value) = instructions.I32Const value
instruction_of (firsts.I64Const value) = instructions.I64Const value
instruction_of (firsts.F32Const value) = instructions.F32Const value
instruction_of (firsts.F64Const value) = instructions.F64Const value

-- The encoding of that instruction.
abbrev pub first_encoding : First → List ℕ
first_encoding first = instruction_encoding (instruction_of first)

-- The function index of `ref.func`, and nothing for other instructions.
abbrev pub index_of : First → Option ℕ
index_of (firsts.RefFunc index) = Some index
index_of first = None

-- ---- calls

-- If the call succeeds, the buffer gains the encodings of the items that the iterator yields. If
-- all items fit, the call never returns `TooLong`.
pub record AppendsEach {U S T : Type 0} (becomes : U → S → Type 0) (gives : S → Option T → S → Type 0) (Encodable : T → Type 0) (encoding : T → List ℕ)
    (elements : U) (old new : List ℕ) (result : Result (Unit {0}) Refused) : Type 0 where
  pub ok : OnOk result ((it : S) × (xs : List T) × becomes elements it × Drains gives it xs × All Encodable xs × (new ≡ old ++ flat_map encoding xs))
  pub too_long : ((it left : S) (xs : List T) → becomes elements it → Yields gives it xs left → All Encodable xs) → result ≢ Err TooLong

-- The expression stores the encodings of the instructions that the iterator yields. If all of them
-- fit, the call never returns `TooLong`.
pub record StoresGiven {U S : Type 0} (becomes : U → S → Type 0) (gives : S → Option (Instruction Global) → S → Type 0) (elements : U) (result : Result (List ℕ) Refused) : Type 0 where
  pub ok : IfOk result (λ bytes. (it : S) × (is : List (Instruction Global)) × becomes elements it × Drains gives it is × All IsEncodableInstruction is × (bytes ≡ flat_map instruction_encoding is) × StoresAll is bytes)
  pub too_long : ((it left : S) (is : List (Instruction Global)) → becomes elements it → Yields gives it is left → All IsEncodableInstruction is) → result ≢ Err TooLong

-- ---- the index of `ref.func`

-- The instruction `ref.func` with its index.
abbrev pub ref_func : Format ℕ
ref_func = prefixed (0xD2 ∷ []) u32

-- The bytes begin with `ref.func f`, possibly padded.
pub record BeginsWithRefFunc (bytes : List ℕ) (f : ℕ) : Type 0 where
  pub rest : List ℕ
  pub read : Decodes ref_func padded bytes f rest

-- `answer` is `Some f` exactly if the bytes begin with `ref.func f`.
pub record IsRefFunc (bytes : List ℕ) (answer : Option ℕ) : Type 0 where
  pub exactly : (f : ℕ) → (answer ≡ Some f) ↔ BeginsWithRefFunc bytes f
