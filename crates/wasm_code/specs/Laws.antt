-- This file defines the laws of bodies, expressions and code sections: offsets, encodings that fit,
-- and the bodies of a code section call by call.
use Rattle.std.specs.Prelude.{◌≡◌, ◌≢◌, ℕ, ◌^◌, ◌<◌, List, [], ◌∷◌, ◌++◌, map}
use Rattle.std.specs.List.{All, AllZip, flat_map}
use Rattle.wasm_base.specs.Words.{minimal, padded, Format, members, Rejects, vec_encoding, IsEncodableVec, size_prefixed_encoding, HasEncodableSize}
use Rattle.wasm_insn.specs.declared.instruction.Instruction.{Instruction}
use Rattle.wasm_insn.specs.Words.{labels, unsigned, br_table_encoding, Plain, IsWellFormed, normal, instruction, plain_encoding, table, instruction_encoding, IsWellFormedInstruction}
use Rattle.wasm_insn.specs.declared.op.Op.TheVariants.{Byte}
use Rattle.wasm_code.specs.Expressions.{normal_row, IsNoEnd, expression, expression_encoding, StoresInstructions, StoresPadded}
use Rattle.wasm_code.specs.Bodies.{Body, body, and_then, IsWellFormedBody, IsPaddedBody, Grows, Run, expand, IsRun, IsRuns, locals_encoding}
use Rattle.wasm_code.specs.Code.{EncodesBodies, EncodesBodiesPadded}

-- With minimal LEB128 no value decodes from the front of the bytes, whatever follows them.
pub record RejectsAllAfter {X : Type 0} (F : Format X) (encoding : List ℕ) : Type 0 where
  pub none : (after : List ℕ) → Rejects F minimal (encoding ++ after)

-- The body `y` has the runs and instructions of `x`, then `next` and other instructions, which
-- `more` minimally encodes.
pub record ContinuesWith (more : List ℕ) (x y : Body) (next : Plain) : Type 0 where
  pub others : List Plain
  pub same : y ≡ and_then x (next ∷ others)
  pub encodes : members (instruction table) minimal more (next ∷ others)

-- The length of a raw body is the offset of the next instruction. If more bytes follow and the
-- whole encodes a body, an instruction begins at that offset.
pub record HasOffsets : Type 0 where
  pub begins : (front more : List ℕ) (x y : Body) → body minimal front x → body minimal (front ++ more) y → more ≢ [] → (next : Plain) × ContinuesWith more x y next

-- If a well-formed instruction is appended to a raw body, it is the instruction that begins at the
-- raw body's length.
pub record FindsAdded {A : Type 0} (i : Instruction A) : Type 0 where
  pub begins : (front rest : List ℕ) (x y : Body) → IsWellFormedInstruction i → body minimal front x → body minimal (front ++ (instruction_encoding i ++ rest)) y → ContinuesWith (instruction_encoding i ++ rest) x y (normal_row i)

-- Two canonical lists of runs with the same types are the same.
pub record HaveOneExpansion (xs ys : List Run) : Type 0 where
  pub same : IsRuns xs → IsRuns ys → expand xs ≡ expand ys → xs ≡ ys

-- ---- encodings

-- The instruction is well-formed and in normal form.
pub record IsNormal (i : Plain) : Type 0 where
  pub plain : IsWellFormed table i
  pub same : normal i ≡ i

-- A normal instruction that a constant expression can hold: one other than `end`.
abbrev pub IsNormalInside : Plain → Type 0
IsNormalInside i = IsNormal i × IsNoEnd i

-- The encodings of the instructions, one after another.
abbrev pub code_encoding : List Plain → List ℕ
code_encoding is = flat_map plain_encoding is

-- The encoding of an expression: its instructions, then `end`.
abbrev pub plain_expression_encoding : List Plain → List ℕ
plain_expression_encoding is = expression_encoding (code_encoding is)

-- Each instruction is well-formed, in normal form, and not `end`.
abbrev pub IsEncodablePlainExpression : List Plain → Type 0
IsEncodablePlainExpression = All IsNormalInside

-- The encoding of a body: the vector of its runs, then its instructions.
abbrev pub body_encoding : Body → List ℕ
body_encoding x = locals_encoding x.runs ++ code_encoding x.code

-- The runs are in range and fit their count, and the instructions are well-formed and in normal
-- form.
pub record IsEncodableBody (x : Body) : Type 0 where
  pub runs : IsEncodableVec IsRun x.runs
  pub code : All IsNormal x.code

-- The encoding of an entry of the code section: a body with its size prefix.
abbrev pub body_size_prefixed_encoding : Body → List ℕ
body_size_prefixed_encoding x = size_prefixed_encoding (body_encoding x)

-- The body fits, and so does its size.
pub record IsEncodableSizedBody (x : Body) : Type 0 where
  pub body : IsEncodableBody x
  pub size : HasEncodableSize (body_encoding x)

-- The encoding of a code section with raw bodies.
abbrev pub raw_code_encoding : List (List ℕ) → List ℕ
raw_code_encoding raw = size_prefixed_encoding (vec_encoding size_prefixed_encoding raw)

-- The sizes and the count of the raw bodies, and the size of the section, are at most 2^32 - 1.
pub record IsEncodableRawCode (raw : List (List ℕ)) : Type 0 where
  pub members : IsEncodableVec HasEncodableSize raw
  pub size : HasEncodableSize (vec_encoding size_prefixed_encoding raw)

-- The encoding of a code section with bodies.
abbrev pub code_section_encoding : List Body → List ℕ
code_section_encoding bodies = size_prefixed_encoding (vec_encoding body_size_prefixed_encoding bodies)

-- The bodies fit, and their count and the size of the section are at most 2^32 - 1.
pub record IsEncodableCodeSection (bodies : List Body) : Type 0 where
  pub members : IsEncodableVec IsEncodableSizedBody bodies
  pub size : HasEncodableSize (vec_encoding body_size_prefixed_encoding bodies)

-- ---- calls

-- A code section without entries holds no bodies. An entry with a raw body adds the body that it
-- minimally encodes. `add_all` adds its entries as if one by one.
pub record ContainsMoreBodies : Type 0 where
  pub none : EncodesBodies [] []
  pub given : (entries : List (List ℕ)) (bodies : List Body) (raw : List ℕ) (x : Body) → EncodesBodies entries bodies → IsWellFormedBody raw x
      → EncodesBodies (entries ++ size_prefixed_encoding raw ∷ []) (bodies ++ x ∷ [])
  pub all : (entries : List (List ℕ)) (bodies : List Body) (raw : List (List ℕ)) (xs : List Body) → EncodesBodies entries bodies → AllZip IsWellFormedBody raw xs
      → EncodesBodies (entries ++ map size_prefixed_encoding raw) (bodies ++ xs)

-- A body that gains the encoding of a well-formed instruction gains the instruction.
pub record GrowsByEncoding {A : Type 0} (i : Instruction A) : Type 0 where
  pub grows : (old : List ℕ) → Grows i old (old ++ instruction_encoding i)

-- The instruction `br_table` as opcode and immediates.
abbrev pub br_table_row : List ℕ → ℕ → Plain
br_table_row ls default = record { op = Byte 0x0E; arguments = labels ls ∷ unsigned default ∷ [] }

-- A body that gains the encoding of `br_table`, with labels in range that fit their count and a
-- default label in range, gains the instruction.
pub record GrowsByLabels : Type 0 where
  pub grows : (ls : List ℕ) (default : ℕ) (old : List ℕ) (x : Body) → IsEncodableVec (λ n. n < 2 ^ 32) ls → default < 2 ^ 32 → IsWellFormedBody old x
      → IsWellFormedBody (old ++ br_table_encoding ls default) (and_then x (br_table_row ls default ∷ []))

-- ---- calls, for padded LEB128

-- A code section holds, padded, all that it holds in minimal encodings. An entry with a raw body
-- adds the body that it encodes, possibly padded. `add_all` adds its entries as if one by one.
pub record ContainsMoreBodiesPadded : Type 0 where
  pub none : EncodesBodiesPadded [] []
  pub held : (entries : List (List ℕ)) (bodies : List Body) → EncodesBodies entries bodies → EncodesBodiesPadded entries bodies
  pub given : (entries : List (List ℕ)) (bodies : List Body) (raw : List ℕ) (x : Body) → EncodesBodiesPadded entries bodies → IsPaddedBody raw x
      → EncodesBodiesPadded (entries ++ size_prefixed_encoding raw ∷ []) (bodies ++ x ∷ [])
  pub all : (entries : List (List ℕ)) (bodies : List Body) (raw : List (List ℕ)) (xs : List Body) → EncodesBodiesPadded entries bodies → AllZip IsPaddedBody raw xs
      → EncodesBodiesPadded (entries ++ map size_prefixed_encoding raw) (bodies ++ xs)

-- A minimal encoding of a body is a possibly padded one, and gains the instructions that raw bytes
-- encode, possibly padded.
pub record GrowsPadded : Type 0 where
  pub plain : (bytes : List ℕ) (x : Body) → IsWellFormedBody bytes x → IsPaddedBody bytes x
  pub raw : (old more : List ℕ) (x : Body) (is : List Plain) → IsPaddedBody old x → members (instruction table) padded more is → IsPaddedBody (old ++ more) (and_then x is)

-- A possibly padded body that gains the encoding of a well-formed instruction gains the
-- instruction.
pub record GrowsByEncodingPadded {A : Type 0} (i : Instruction A) : Type 0 where
  pub grows : (old : List ℕ) (x : Body) → IsWellFormedInstruction i → IsPaddedBody old x → IsPaddedBody (old ++ instruction_encoding i) (and_then x (normal_row i ∷ []))

-- A minimal expression is a possibly padded one. Two stored expressions, one after another, store
-- the instructions of both. With `end` they are an expression.
pub record StoresMorePadded : Type 0 where
  pub plain : (bytes : List ℕ) (is : List Plain) → StoresInstructions bytes is → StoresPadded bytes is
  pub more : (old more : List ℕ) (is others : List Plain) → StoresPadded old is → StoresPadded more others → StoresPadded (old ++ more) (is ++ others)
  pub encodes : (bytes : List ℕ) (is : List Plain) → StoresPadded bytes is → expression padded (expression_encoding bytes) is
