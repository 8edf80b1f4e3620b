-- This file proves what the encoder of a kind's items appends, by the value that they are.
use Rattle.wasm_base.proofs.Words.{◌≡◌, ◌≢◌, ℕ, List, refl, AppendsMinimal, HasEncoding, Result, Err, u32, vec, size_prefixed, both_grammars, builders_alone}
use Rattle.wasm_code.proofs.Words.{body}
use Rattle.wasm_sections.proofs.Words.{data_item, element, global_item, import_format, table_item}
use Rattle.wasm_types.proofs.Words.{type_item}
use Rattle.wasm_base.specs.declared.refused.Refused.{Refused}
use Rattle.wasm_base.specs.declared.refused.Refused.TheVariants.{TooLong}
-- begin: written by tools/kinds
use Rattle.wasm_custom.proofs.Words.{name_payload, linking_payload, producers_payload, hints_payload, core_payload, modules_payload, instances_payload, stack_payload, features_payload}
use Rattle.wasm_custom.proofs.Words.{source_map_payload, debug_file_payload, build_id_payload, dylink_payload, relocations_payload, frequencies_payload, orders_payload, call_targets_payload}
use Rattle.wasm_reader.specs.{Bodies, Segments, DataCount, Elements, Exports, Functions, Globals, Imports, Memories, Start, Tables, Tags, Names, Linking, Producers, Hints, Core, CoreModules}
use Rattle.wasm_reader.specs.{CoreInstances, CoreStack, Custom, Raw, Types, TargetFeatures, SourceMappingUrl, ExternalDebugInfo, BuildId, Dylink, Relocations, InstructionFrequencies, CompilationOrders}
use Rattle.wasm_reader.specs.{CallTargets}
-- end: written by tools/kinds
use Rattle.wasm_reader.specs.{Contents, Bodies, Segments, DataCount, Elements, Exports, Functions, Globals, Imports, Memories, Start, Tables, Tags, Types, Names, Linking, Producers, Hints, Core}
use Rattle.wasm_reader.specs.{Contents, content, grammars_of, kind_in}
use Rattle.wasm_reader.proofs.KindLaws.{row, items_appended, items_fit}

-- The value of the format of its kind that the content is.
abbrev pub value_in : (c : Contents) → (row (kind_in c)).X
-- begin: written by tools/kinds
value_in (Bodies x) = x
value_in (Segments x) = x
value_in (DataCount x) = x
value_in (Elements x) = x
value_in (Exports x) = x
value_in (Functions x) = x
value_in (Globals x) = x
value_in (Imports x) = x
value_in (Memories x) = x
value_in (Start x) = x
value_in (Tables x) = x
value_in (Tags x) = x
value_in (Names x) = x
value_in (Linking x) = x
value_in (Producers x) = x
value_in (Hints x) = x
value_in (Core x) = x
value_in (CoreModules x) = x
value_in (CoreInstances x) = x
value_in (CoreStack x) = x
value_in (Custom x) = x
value_in (Raw x) = x
value_in (Types x) = x
value_in (TargetFeatures x) = x
value_in (SourceMappingUrl x) = x
value_in (ExternalDebugInfo x) = x
value_in (BuildId x) = x
value_in (Dylink x) = x
value_in (Relocations x) = x
value_in (InstructionFrequencies x) = x
value_in (CompilationOrders x) = x
value_in (CallTargets x) = x

-- end: written by tools/kinds

made : (c : Contents) → c ≡ (row (kind_in c)).make (value_in c)
made (Bodies x) = refl
made c = refl

-- The buffer gains the minimal encoding of this value. Other kinds have lemmas of their own.
abbrev pub AppendsValue : Contents → List ℕ → List ℕ → Type 0
-- begin: written by tools/kinds
AppendsValue (Bodies x) old new = AppendsMinimal builders_alone (vec (size_prefixed body)) x old new
AppendsValue (Segments x) old new = AppendsMinimal builders_alone (vec data_item) x old new
AppendsValue (DataCount x) old new = AppendsMinimal both_grammars u32 x old new
AppendsValue (Elements x) old new = AppendsMinimal builders_alone (vec element) x old new
AppendsValue (Globals x) old new = AppendsMinimal builders_alone (vec global_item) x old new
AppendsValue (Imports x) old new = AppendsMinimal builders_alone (vec import_format) x old new
AppendsValue (Start x) old new = AppendsMinimal both_grammars u32 x old new
AppendsValue (Tables x) old new = AppendsMinimal builders_alone (vec table_item) x old new
AppendsValue (Names x) old new = AppendsMinimal both_grammars name_payload x old new
AppendsValue (Linking x) old new = AppendsMinimal both_grammars linking_payload x old new
AppendsValue (Producers x) old new = AppendsMinimal both_grammars producers_payload x old new
AppendsValue (Hints x) old new = AppendsMinimal both_grammars hints_payload x old new
AppendsValue (Core x) old new = AppendsMinimal both_grammars core_payload x old new
AppendsValue (CoreModules x) old new = AppendsMinimal both_grammars modules_payload x old new
AppendsValue (CoreInstances x) old new = AppendsMinimal both_grammars instances_payload x old new
AppendsValue (CoreStack x) old new = AppendsMinimal both_grammars stack_payload x old new
AppendsValue (Types x) old new = AppendsMinimal builders_alone (vec type_item) x old new
AppendsValue (TargetFeatures x) old new = AppendsMinimal both_grammars features_payload x old new
AppendsValue (SourceMappingUrl x) old new = AppendsMinimal both_grammars source_map_payload x old new
AppendsValue (ExternalDebugInfo x) old new = AppendsMinimal both_grammars debug_file_payload x old new
AppendsValue (BuildId x) old new = AppendsMinimal both_grammars build_id_payload x old new
AppendsValue (Dylink x) old new = AppendsMinimal both_grammars dylink_payload x old new
AppendsValue (Relocations x) old new = AppendsMinimal both_grammars relocations_payload x old new
AppendsValue (InstructionFrequencies x) old new = AppendsMinimal both_grammars frequencies_payload x old new
AppendsValue (CompilationOrders x) old new = AppendsMinimal both_grammars orders_payload x old new
AppendsValue (CallTargets x) old new = AppendsMinimal both_grammars call_targets_payload x old new
AppendsValue x old new = ⊥

-- end: written by tools/kinds

pub value_appended : (c : Contents) (old new : List ℕ) → AppendsValue c old new → AppendsMinimal (grammars_of (kind_in c)) (content (kind_in c)) c old new
-- begin: written by tools/kinds
value_appended (Exports x) old new a = absurd a
value_appended (Functions x) old new a = absurd a
value_appended (Memories x) old new a = absurd a
value_appended (Tags x) old new a = absurd a
value_appended (Custom x) old new a = absurd a
value_appended (Raw x) old new a = absurd a
value_appended c old new a = items_appended c (value_in c) old new (made c) a

-- end: written by tools/kinds

-- The call does not return `TooLong` if some bytes encode this value.
abbrev pub FitsValue : Contents → Result (Unit {0}) Refused → Type 0
-- begin: written by tools/kinds
FitsValue (Bodies x) r = HasEncoding builders_alone (vec (size_prefixed body)) x → r ≢ Err TooLong
FitsValue (Segments x) r = HasEncoding builders_alone (vec data_item) x → r ≢ Err TooLong
FitsValue (DataCount x) r = HasEncoding both_grammars u32 x → r ≢ Err TooLong
FitsValue (Elements x) r = HasEncoding builders_alone (vec element) x → r ≢ Err TooLong
FitsValue (Globals x) r = HasEncoding builders_alone (vec global_item) x → r ≢ Err TooLong
FitsValue (Imports x) r = HasEncoding builders_alone (vec import_format) x → r ≢ Err TooLong
FitsValue (Start x) r = HasEncoding both_grammars u32 x → r ≢ Err TooLong
FitsValue (Tables x) r = HasEncoding builders_alone (vec table_item) x → r ≢ Err TooLong
FitsValue (Names x) r = HasEncoding both_grammars name_payload x → r ≢ Err TooLong
FitsValue (Linking x) r = HasEncoding both_grammars linking_payload x → r ≢ Err TooLong
FitsValue (Producers x) r = HasEncoding both_grammars producers_payload x → r ≢ Err TooLong
FitsValue (Hints x) r = HasEncoding both_grammars hints_payload x → r ≢ Err TooLong
FitsValue (Core x) r = HasEncoding both_grammars core_payload x → r ≢ Err TooLong
FitsValue (CoreModules x) r = HasEncoding both_grammars modules_payload x → r ≢ Err TooLong
FitsValue (CoreInstances x) r = HasEncoding both_grammars instances_payload x → r ≢ Err TooLong
FitsValue (CoreStack x) r = HasEncoding both_grammars stack_payload x → r ≢ Err TooLong
FitsValue (Types x) r = HasEncoding builders_alone (vec type_item) x → r ≢ Err TooLong
FitsValue (TargetFeatures x) r = HasEncoding both_grammars features_payload x → r ≢ Err TooLong
FitsValue (SourceMappingUrl x) r = HasEncoding both_grammars source_map_payload x → r ≢ Err TooLong
FitsValue (ExternalDebugInfo x) r = HasEncoding both_grammars debug_file_payload x → r ≢ Err TooLong
FitsValue (BuildId x) r = HasEncoding both_grammars build_id_payload x → r ≢ Err TooLong
FitsValue (Dylink x) r = HasEncoding both_grammars dylink_payload x → r ≢ Err TooLong
FitsValue (Relocations x) r = HasEncoding both_grammars relocations_payload x → r ≢ Err TooLong
FitsValue (InstructionFrequencies x) r = HasEncoding both_grammars frequencies_payload x → r ≢ Err TooLong
FitsValue (CompilationOrders x) r = HasEncoding both_grammars orders_payload x → r ≢ Err TooLong
FitsValue (CallTargets x) r = HasEncoding both_grammars call_targets_payload x → r ≢ Err TooLong
FitsValue x r = ⊥

-- end: written by tools/kinds

pub value_fits : (c : Contents) (r : Result (Unit {0}) Refused) → FitsValue c r → HasEncoding (grammars_of (kind_in c)) (content (kind_in c)) c → r ≢ Err TooLong
-- begin: written by tools/kinds
value_fits (Exports x) r fits h = absurd fits
value_fits (Functions x) r fits h = absurd fits
value_fits (Memories x) r fits h = absurd fits
value_fits (Tags x) r fits h = absurd fits
value_fits (Custom x) r fits h = absurd fits
value_fits (Raw x) r fits h = absurd fits
value_fits c r fits h = items_fit c (value_in c) r (made c) fits h

-- end: written by tools/kinds

pub ruleset value_steps = (value_appended, value_fits)
