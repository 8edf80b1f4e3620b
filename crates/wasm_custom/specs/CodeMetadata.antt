-- This file defines code metadata: for each function, hints at offsets in its body. Branch hinting
-- and compilation hints, sections `metadata.code.*`.
use Rattle.std.specs.Prelude.{ℕ, ◌^◌, ◌<◌, List, [], ◌∷◌, ◌++◌, All, map, IsUtf8, Option, Some, None, codes}
use Rattle.std.specs.List.{flat_map}
use Rattle.std.specs.declared.vec.Vec.{Vec}
use Rattle.wasm_base.specs.Decoding.{UnambiguousWhole}
use Rattle.wasm_base.specs.Encodings.{optional_encoding}
use Rattle.wasm_base.specs.Minimal.{EncodesMinimally}
use Rattle.wasm_base.specs.Words.{Kind, ContainsItems, Format, u32, byte, pair, members, size_prefixed, vec, minimal, unsigned_encoding, size_prefixed_encoding, HasEncodableSize, vec_encoding, IsEncodableVec, SectionDecoding}
use Rattle.wasm_custom.specs.Customs.{decoding_as}
use Rattle.wasm_custom.specs.Entries.{counted_payload}
use Rattle.wasm_custom.specs.declared.code_metadata.CodeHint.{CodeHint}
use Rattle.wasm_custom.specs.declared.instruction_frequencies.InstructionFrequency.{InstructionFrequency}
use Rattle.wasm_custom.specs.declared.compilation_orders.CompilationOrder.{CompilationOrder}
use Rattle.wasm_custom.specs.declared.call_targets.CallTarget.{CallTarget}

-- ---- the hints of a function

-- A function index, and the hints of the function.
abbrev pub HintsIn : Type 0 → Type 0
HintsIn Hint = ℕ × List Hint

-- The encoding of a function's hints: its index, and their vector.
abbrev pub hints_in_encoding : {Hint : Type 0} → (Hint → List ℕ) → HintsIn Hint → List ℕ
hints_in_encoding encoding h = unsigned_encoding h.0 ++ vec_encoding encoding h.1

-- The function's hints are well-formed: its index is below 2^32, and its hints are well-formed and
-- their number is at most 2^32 - 1.
abbrev pub AreHintsIn : {Hint : Type 0} → (Hint → Type 0) → HintsIn Hint → Type 0
AreHintsIn Is h = (h.0 < 2 ^ 32) × IsEncodableVec Is h.1

-- A function's hints: its index, and a vector of hints of the format.
abbrev pub hints_in : {Hint : Type 0} → Format Hint → Format (HintsIn Hint)
hints_in F = pair u32 (vec F)

-- The kind of functions with their hints.
abbrev pub hints_in_items : {Hint : Type 0} → Format Hint → (Hint → Type 0) → (Hint → List ℕ) → Kind (HintsIn Hint) (HintsIn Hint)
hints_in_items F Is encoding = record { encoding = hints_in_encoding encoding; IsWellFormed = AreHintsIn Is; IsWellFormedPadded = AreHintsIn Is; normal_form = λ hints. hints; format = hints_in F }

-- ---- hints with a size-prefixed value

-- The encoding of a hint: the offset, and the size-prefixed encoding of the value.
abbrev pub hinted_encoding : {X : Type 0} → (X → List ℕ) → ℕ × X → List ℕ
hinted_encoding encoding h = unsigned_encoding h.0 ++ size_prefixed_encoding (encoding h.1)

-- The hint is well-formed: its offset is below 2^32, and its value is well-formed and has at most
-- 2^32 - 1 bytes.
pub record IsHinted {X : Type 0} (Is : X → Type 0) (encoding : X → List ℕ) (h : ℕ × X) : Type 0 where
  pub offset : h.0 < 2 ^ 32
  pub value : Is h.1
  pub fits : HasEncodableSize (encoding h.1)

-- A hint: an offset in the raw body of the function, and a value that occupies its size-prefixed
-- payload.
abbrev pub hinted : {X : Type 0} → Format X → Format (ℕ × X)
hinted F = pair u32 (size_prefixed F)

-- The kind of functions with hints of such a value.
abbrev pub hinted_items : {X : Type 0} → Format X → (X → Type 0) → (X → List ℕ) → Kind (HintsIn (ℕ × X)) (HintsIn (ℕ × X))
hinted_items F Is encoding = hints_in_items (hinted F) (IsHinted Is encoding) (hinted_encoding encoding)

-- The laws of a value of hints in the sections of this name. The name is UTF-8, and the format is
-- unambiguous as a whole. The encoding of a value is minimal, and a well-formed value has it.
pub record PayloadLaws {X : Type 0} (n : List ℕ) (F : Format X) (Is : X → Type 0) (encoding : X → List ℕ) : Type 0 where
  pub name_utf8 : IsUtf8 n
  pub unique : UnambiguousWhole F
  pub encodes : (x : X) → Is x → F minimal (encoding x) x
  pub shortest : EncodesMinimally F (λ x. x) encoding

-- The view of a hint, by that of its value.
abbrev pub hint_as : {T X : Type 0} → (T → X) → CodeHint T → ℕ × X
hint_as view h = (h.offset, view h.value)

-- The view of a function's decoded hints, by that of their values.
abbrev pub hints_as : {T X A : Type 0} → (T → X) → ℕ × Vec (CodeHint T) A → HintsIn (ℕ × X)
hints_as view h = (h.0, map (hint_as view) h.1.items)

-- ---- instruction frequencies

-- The section name `metadata.code.instr_freq`.
abbrev pub frequencies_name : List ℕ
frequencies_name = codes "metadata.code.instr_freq"

-- A function index, and the frequencies of instructions at these offsets.
abbrev pub Frequencies : Type 0
Frequencies = HintsIn (ℕ × ℕ)

-- The encoding of a frequency: one byte.
abbrev pub frequency_encoding : ℕ → List ℕ
frequency_encoding b = b ∷ []

-- Any byte is a frequency.
abbrev pub IsFrequency : ℕ → Type 0
IsFrequency b = Unit {0}

-- The kind of functions with the frequencies of their instructions.
abbrev pub frequency_items : Kind Frequencies Frequencies
frequency_items = hinted_items byte IsFrequency frequency_encoding

-- The pieces encode these functions with the frequencies of their instructions.
abbrev pub ContainsFrequencies : List (List ℕ) → List Frequencies → Type 0
ContainsFrequencies = ContainsItems frequency_items

-- The payload of the section: its name, and a vector of functions with frequencies.
abbrev pub frequencies_payload : Format (List Frequencies)
frequencies_payload = counted_payload frequencies_name (hints_in (hinted byte))

-- The section that decodes to the frequencies of these functions.
abbrev pub frequencies_decoding : List Frequencies → SectionDecoding
frequencies_decoding functions = decoding_as frequencies_payload functions

-- The view of a decoded frequency.
abbrev pub frequency_view : InstructionFrequency → ℕ
frequency_view f = f.0

-- The view of a function's decoded frequencies.
abbrev pub frequencies_view : {A : Type 0} → ℕ × Vec (CodeHint InstructionFrequency) A → Frequencies
frequencies_view h = hints_as frequency_view h

-- ---- compilation orders

-- The section name `metadata.code.compilation_order`.
abbrev pub orders_name : List ℕ
orders_name = codes "metadata.code.compilation_order"

-- A function index, and the compilation orders at these offsets.
abbrev pub Orders : Type 0
Orders = HintsIn (ℕ × CompilationOrder)

-- The hotness as a list of at most one number.
abbrev pub hotness_numbers : Option ℕ → List ℕ
hotness_numbers None = []
hotness_numbers (Some n) = n ∷ []

-- The numbers of a compilation order: the order, and the hotness if there is one.
abbrev pub order_numbers : CompilationOrder → List ℕ
order_numbers o = o.order ∷ hotness_numbers o.hotness

-- The encoding of a compilation order: the order, and the hotness if there is one.
abbrev pub order_encoding : CompilationOrder → List ℕ
order_encoding o = unsigned_encoding o.order ++ optional_encoding unsigned_encoding o.hotness

-- The compilation order is well-formed: its numbers are below 2^32.
abbrev pub IsOrder : CompilationOrder → Type 0
IsOrder o = All (λ n. n < 2 ^ 32) (order_numbers o)

-- A compilation order: its numbers, one or two, up to the last byte.
abbrev pub order : Format CompilationOrder
order mode s o = members u32 mode s (order_numbers o)

-- The kind of functions with their compilation orders.
abbrev pub order_items : Kind Orders Orders
order_items = hinted_items order IsOrder order_encoding

-- The pieces encode these functions with their compilation orders.
abbrev pub ContainsOrders : List (List ℕ) → List Orders → Type 0
ContainsOrders = ContainsItems order_items

-- The payload of the section: its name, and a vector of functions with compilation orders.
abbrev pub orders_payload : Format (List Orders)
orders_payload = counted_payload orders_name (hints_in (hinted order))

-- The section that decodes to the compilation orders of these functions.
abbrev pub orders_decoding : List Orders → SectionDecoding
orders_decoding functions = decoding_as orders_payload functions

-- The view of a function's decoded compilation orders.
abbrev pub orders_view : {A : Type 0} → ℕ × Vec (CodeHint CompilationOrder) A → Orders
orders_view h = hints_as (λ o. o) h

-- ---- call targets

-- The section name `metadata.code.call_targets`.
abbrev pub call_targets_name : List ℕ
call_targets_name = codes "metadata.code.call_targets"

-- A call target: a function index, and the share of calls in percent.
abbrev pub TargetItem : Type 0
TargetItem = ℕ × ℕ

-- A function index, and the targets of the calls at these offsets.
abbrev pub HintedTargets : Type 0
HintedTargets = HintsIn (ℕ × List TargetItem)

-- The encoding of a call target: the function index, and the share.
abbrev pub target_encoding : TargetItem → List ℕ
target_encoding t = unsigned_encoding t.0 ++ unsigned_encoding t.1

-- The encoding of call targets, one after another.
abbrev pub targets_encoding : List TargetItem → List ℕ
targets_encoding ts = flat_map target_encoding ts

-- The call target is well-formed: its numbers are below 2^32.
abbrev pub IsTarget : TargetItem → Type 0
IsTarget t = (t.0 < 2 ^ 32) × (t.1 < 2 ^ 32)

-- Call targets, one after another up to the last byte.
abbrev pub targets : Format (List TargetItem)
targets = members (pair u32 u32)

-- The kind of functions with the targets of their calls.
abbrev pub call_target_items : Kind HintedTargets HintedTargets
call_target_items = hinted_items targets (All IsTarget) targets_encoding

-- The pieces encode these functions with the targets of their calls.
abbrev pub ContainsCallTargets : List (List ℕ) → List HintedTargets → Type 0
ContainsCallTargets = ContainsItems call_target_items

-- The payload of the section: its name, and a vector of functions with call targets.
abbrev pub call_targets_payload : Format (List HintedTargets)
call_targets_payload = counted_payload call_targets_name (hints_in (hinted targets))

-- The section that decodes to the call targets of these functions.
abbrev pub call_targets_decoding : List HintedTargets → SectionDecoding
call_targets_decoding functions = decoding_as call_targets_payload functions

-- The view of a decoded call target.
abbrev pub target_view : CallTarget → TargetItem
target_view t = (t.function_index, t.percent)

-- The view of decoded call targets.
abbrev pub targets_view : {A : Type 0} → Vec CallTarget A → List TargetItem
targets_view ts = map target_view ts.items

-- The view of the decoded call targets of a function.
abbrev pub call_targets_view : {A B : Type 0} → ℕ × Vec (CodeHint (Vec CallTarget A)) B → HintedTargets
call_targets_view h = hints_as targets_view h
