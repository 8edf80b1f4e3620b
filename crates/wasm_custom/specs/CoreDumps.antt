-- This file defines the process, modules and instances of a core dump, their encodings and their
-- formats. Tool conventions, Coredump.
use Rattle.std.specs.Prelude.{◌≡◌, ℕ, ◌^◌, ◌<◌, List, [], ◌∷◌, ◌++◌, IsUtf8, codes}
use Rattle.std.specs.declared.vec.Vec.{Vec}
use Rattle.wasm_base.specs.Words.{Kind, ContainsItems, Format, u32, name, mapped, pair, prefixed, vec, IsUnsignedInRange, IsEncodableName, unsigned_encoding, size_prefixed_encoding, vec_encoding}
use Rattle.wasm_base.specs.Words.{IsEncodableVec, SectionDecoding}
use Rattle.wasm_custom.specs.Customs.{named_section, named_payload, decoding_as}
use Rattle.wasm_custom.specs.Entries.{counted_payload}

-- ---- names of processes, modules and threads

-- The encoding of such a name: the byte 00, then the name.
abbrev pub marked_encoding : List ℕ → List ℕ
marked_encoding n = 0x00 ∷ size_prefixed_encoding n

-- The name of a process, a module or a thread: the byte 00, then a name.
abbrev pub marked_name : Format (List ℕ)
marked_name = prefixed (0x00 ∷ []) name

-- The section name `core`.
abbrev pub core_name : List ℕ
core_name = codes "core"

-- The section of the process, which is its name.
abbrev pub core_section : Format (List ℕ)
core_section = named_section core_name marked_name

-- The payload is the byte 00 and this name of the process, which is UTF-8.
abbrev pub SaysProcess : List ℕ → List ℕ → Type 0
SaysProcess content n = IsUtf8 n × (content ≡ marked_encoding n)

-- The name is well-formed: UTF-8 of at most 2^32 - 1 bytes.
abbrev pub IsModule : List ℕ → Type 0
IsModule = IsEncodableName

-- The kind of modules of a core dump.
abbrev pub module_items : Kind (List ℕ) (List ℕ)
module_items = record { encoding = marked_encoding; IsWellFormed = IsModule; IsWellFormedPadded = IsModule; normal_form = λ n. n; format = marked_name }

-- The section name `coremodules`.
abbrev pub modules_name : List ℕ
modules_name = codes "coremodules"

-- ---- instances

-- An instance: the index of its module, its memories and its globals.
pub record Instance : Type 0 where
  pub module_index : ℕ
  pub memories : List ℕ
  pub globals : List ℕ

-- The encoding of an instance: the byte 00, the index of its module, and the vectors of its
-- memories and globals.
abbrev pub instance_encoding : Instance → List ℕ
instance_encoding i = (0x00 ∷ unsigned_encoding i.module_index) ++ (vec_encoding unsigned_encoding i.memories ++ vec_encoding unsigned_encoding i.globals)

-- The instance is well-formed: its numbers are in range, and its lists have at most 2^32 - 1
-- members.
pub record IsInstance (i : Instance) : Type 0 where
  pub module_index : i.module_index < 2 ^ 32
  pub memories : IsEncodableVec (IsUnsignedInRange 32) i.memories
  pub globals : IsEncodableVec (IsUnsignedInRange 32) i.globals

-- The instance of this module, these memories and these globals.
abbrev pub instance_of : ℕ × (List ℕ × List ℕ) → Instance
instance_of parts = record { module_index = parts.0; memories = parts.1.0; globals = parts.1.1 }

-- An instance: the byte 00, the index of its module, a vector of memories, and a vector of globals.
abbrev pub instance : Format Instance
instance = mapped instance_of (prefixed (0x00 ∷ []) (pair u32 (pair (vec u32) (vec u32))))

-- The kind of instances of a core dump.
abbrev pub instance_items : Kind Instance Instance
instance_items = record { encoding = instance_encoding; IsWellFormed = IsInstance; IsWellFormedPadded = IsInstance; normal_form = λ instance. instance; format = instance }

-- The section name `coreinstances`.
abbrev pub instances_name : List ℕ
instances_name = codes "coreinstances"

-- ---- sections of a core dump

-- The pieces encode these module names.
abbrev pub ContainsModules : List (List ℕ) → List (List ℕ) → Type 0
ContainsModules = ContainsItems module_items

-- The pieces encode these instances.
abbrev pub ContainsInstances : List (List ℕ) → List Instance → Type 0
ContainsInstances = ContainsItems instance_items

-- The payload of the section of the process: the section name, the byte 00 and the name of the
-- process.
abbrev pub core_payload : Format (List ℕ)
core_payload = named_payload core_name marked_name

-- The payload of the section of modules: the section name, and a vector of names, each after the
-- byte 00.
abbrev pub modules_payload : Format (List (List ℕ))
modules_payload = counted_payload modules_name marked_name

-- The payload of the section of instances: the section name, and a vector of instances.
abbrev pub instances_payload : Format (List Instance)
instances_payload = counted_payload instances_name instance

-- The section that decodes to the process of this name.
abbrev pub core_decoding : List ℕ → SectionDecoding
core_decoding n = decoding_as core_payload n

-- The section that decodes to the modules of these names.
abbrev pub modules_decoding : List (List ℕ) → SectionDecoding
modules_decoding names = decoding_as modules_payload names

-- The section that decodes to these instances.
abbrev pub instances_decoding : List Instance → SectionDecoding
instances_decoding instances = decoding_as instances_payload instances

-- ---- decoded instances

-- The view of a decoded instance.
abbrev pub instance_view : {A : Type 0} → ℕ × Vec ℕ A × Vec ℕ A → Instance
instance_view i = record { module_index = i.0; memories = i.1.items; globals = i.2.items }
