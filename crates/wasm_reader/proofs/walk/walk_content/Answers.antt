use Rattle.wasm_reader.proofs.WalkSections.{kind_rejects, kind_walks}
use Rattle.wasm_reader.specs.declared.kinds.SectionKind.TheVariants as kinds
use Rattle.wasm_reader.proofs.walk.walk_content.Goals as goal

-- begin: written by tools/kinds
pub returns-in-Bodies-clause-found : goal.returns-in-Bodies-clause-found
returns-in-Bodies-clause-found g c = kind_walks _ _ kinds.Bodies c.args.kind c.args.bytes.now _ _ c.walk_whole.result c.in-Bodies.is c.walk_whole.ensures.found

pub returns-in-Segments-clause-found : goal.returns-in-Segments-clause-found
returns-in-Segments-clause-found g c = kind_walks _ _ kinds.Segments c.args.kind c.args.bytes.now _ _ c.walk_whole-in-Segments.result c.in-Segments.is c.walk_whole-in-Segments.ensures.found

pub returns-in-DataCount-clause-found : goal.returns-in-DataCount-clause-found
returns-in-DataCount-clause-found g c = kind_walks _ _ kinds.DataCount c.args.kind c.args.bytes.now _ _ c.walk_whole-in-DataCount.result c.in-DataCount.is c.walk_whole-in-DataCount.ensures.found

pub returns-in-Elements-clause-found : goal.returns-in-Elements-clause-found
returns-in-Elements-clause-found g c = kind_walks _ _ kinds.Elements c.args.kind c.args.bytes.now _ _ c.walk_whole-in-Elements.result c.in-Elements.is c.walk_whole-in-Elements.ensures.found

pub returns-in-Exports-clause-found : goal.returns-in-Exports-clause-found
returns-in-Exports-clause-found g c = kind_walks _ _ kinds.Exports c.args.kind c.args.bytes.now _ _ c.walk_whole-in-Exports.result c.in-Exports.is c.walk_whole-in-Exports.ensures.found

pub returns-in-Functions-clause-found : goal.returns-in-Functions-clause-found
returns-in-Functions-clause-found g c = kind_walks _ _ kinds.Functions c.args.kind c.args.bytes.now _ _ c.walk_whole-in-Functions.result c.in-Functions.is c.walk_whole-in-Functions.ensures.found

pub returns-in-Functions-clause-none : goal.returns-in-Functions-clause-none
returns-in-Functions-clause-none g c = kind_rejects kinds.Functions c.args.kind _ c.args.bytes.now c.walk_whole-in-Functions.result c.in-Functions.is c.walk_whole-in-Functions.ensures.none

pub returns-in-Globals-clause-found : goal.returns-in-Globals-clause-found
returns-in-Globals-clause-found g c = kind_walks _ _ kinds.Globals c.args.kind c.args.bytes.now _ _ c.walk_whole-in-Globals.result c.in-Globals.is c.walk_whole-in-Globals.ensures.found

pub returns-in-Imports-clause-found : goal.returns-in-Imports-clause-found
returns-in-Imports-clause-found g c = kind_walks _ _ kinds.Imports c.args.kind c.args.bytes.now _ _ c.walk_whole-in-Imports.result c.in-Imports.is c.walk_whole-in-Imports.ensures.found

pub returns-in-Memories-clause-found : goal.returns-in-Memories-clause-found
returns-in-Memories-clause-found g c = kind_walks _ _ kinds.Memories c.args.kind c.args.bytes.now _ _ c.walk_whole-in-Memories.result c.in-Memories.is c.walk_whole-in-Memories.ensures.found

pub returns-in-Start-clause-found : goal.returns-in-Start-clause-found
returns-in-Start-clause-found g c = kind_walks _ _ kinds.Start c.args.kind c.args.bytes.now _ _ c.walk_whole-in-Start.result c.in-Start.is c.walk_whole-in-Start.ensures.found

pub returns-in-Tables-clause-found : goal.returns-in-Tables-clause-found
returns-in-Tables-clause-found g c = kind_walks _ _ kinds.Tables c.args.kind c.args.bytes.now _ _ c.walk_whole-in-Tables.result c.in-Tables.is c.walk_whole-in-Tables.ensures.found

pub returns-in-Tags-clause-found : goal.returns-in-Tags-clause-found
returns-in-Tags-clause-found g c = kind_walks _ _ kinds.Tags c.args.kind c.args.bytes.now _ _ c.walk_whole-in-Tags.result c.in-Tags.is c.walk_whole-in-Tags.ensures.found

pub returns-in-Names-clause-found : goal.returns-in-Names-clause-found
returns-in-Names-clause-found g c = kind_walks _ _ kinds.Names c.args.kind c.args.bytes.now _ _ c.walk_names.result c.in-Names.is c.walk_names.ensures.found

pub returns-in-Names-clause-none : goal.returns-in-Names-clause-none
returns-in-Names-clause-none g c = kind_rejects kinds.Names c.args.kind _ c.args.bytes.now c.walk_names.result c.in-Names.is c.walk_names.ensures.none

pub returns-in-Linking-clause-found : goal.returns-in-Linking-clause-found
returns-in-Linking-clause-found g c = kind_walks _ _ kinds.Linking c.args.kind c.args.bytes.now _ _ c.walk_links.result c.in-Linking.is c.walk_links.ensures.found

pub returns-in-Linking-clause-none : goal.returns-in-Linking-clause-none
returns-in-Linking-clause-none g c = kind_rejects kinds.Linking c.args.kind _ c.args.bytes.now c.walk_links.result c.in-Linking.is c.walk_links.ensures.none

pub returns-in-Producers-clause-found : goal.returns-in-Producers-clause-found
returns-in-Producers-clause-found g c = kind_walks _ _ kinds.Producers c.args.kind c.args.bytes.now _ _ c.walk_producers.result c.in-Producers.is c.walk_producers.ensures.found

pub returns-in-Producers-clause-none : goal.returns-in-Producers-clause-none
returns-in-Producers-clause-none g c = kind_rejects kinds.Producers c.args.kind _ c.args.bytes.now c.walk_producers.result c.in-Producers.is c.walk_producers.ensures.none

pub returns-in-Hints-clause-found : goal.returns-in-Hints-clause-found
returns-in-Hints-clause-found g c = kind_walks _ _ kinds.Hints c.args.kind c.args.bytes.now _ _ c.walk_hints.result c.in-Hints.is c.walk_hints.ensures.found

pub returns-in-Hints-clause-none : goal.returns-in-Hints-clause-none
returns-in-Hints-clause-none g c = kind_rejects kinds.Hints c.args.kind _ c.args.bytes.now c.walk_hints.result c.in-Hints.is c.walk_hints.ensures.none

pub returns-in-Core-clause-found : goal.returns-in-Core-clause-found
returns-in-Core-clause-found g c = kind_walks _ _ kinds.Core c.args.kind c.args.bytes.now _ _ c.walk_process.result c.in-Core.is c.walk_process.ensures.found

pub returns-in-Core-clause-none : goal.returns-in-Core-clause-none
returns-in-Core-clause-none g c = kind_rejects kinds.Core c.args.kind _ c.args.bytes.now c.walk_process.result c.in-Core.is c.walk_process.ensures.none

pub returns-in-CoreModules-clause-found : goal.returns-in-CoreModules-clause-found
returns-in-CoreModules-clause-found g c = kind_walks _ _ kinds.CoreModules c.args.kind c.args.bytes.now _ _ c.walk_modules.result c.in-CoreModules.is c.walk_modules.ensures.found

pub returns-in-CoreModules-clause-none : goal.returns-in-CoreModules-clause-none
returns-in-CoreModules-clause-none g c = kind_rejects kinds.CoreModules c.args.kind _ c.args.bytes.now c.walk_modules.result c.in-CoreModules.is c.walk_modules.ensures.none

pub returns-in-CoreInstances-clause-found : goal.returns-in-CoreInstances-clause-found
returns-in-CoreInstances-clause-found g c = kind_walks _ _ kinds.CoreInstances c.args.kind c.args.bytes.now _ _ c.walk_instances.result c.in-CoreInstances.is c.walk_instances.ensures.found

pub returns-in-CoreInstances-clause-none : goal.returns-in-CoreInstances-clause-none
returns-in-CoreInstances-clause-none g c = kind_rejects kinds.CoreInstances c.args.kind _ c.args.bytes.now c.walk_instances.result c.in-CoreInstances.is c.walk_instances.ensures.none

pub returns-in-CoreStack-clause-found : goal.returns-in-CoreStack-clause-found
returns-in-CoreStack-clause-found g c = kind_walks _ _ kinds.CoreStack c.args.kind c.args.bytes.now _ _ c.walk_stack.result c.in-CoreStack.is c.walk_stack.ensures.found

pub returns-in-CoreStack-clause-none : goal.returns-in-CoreStack-clause-none
returns-in-CoreStack-clause-none g c = kind_rejects kinds.CoreStack c.args.kind _ c.args.bytes.now c.walk_stack.result c.in-CoreStack.is c.walk_stack.ensures.none

pub returns-in-Types-clause-found : goal.returns-in-Types-clause-found
returns-in-Types-clause-found g c = kind_walks _ _ kinds.Types c.args.kind c.args.bytes.now _ _ c.walk_whole-in-Types.result c.in-Types.is c.walk_whole-in-Types.ensures.found

pub returns-in-TargetFeatures-clause-found : goal.returns-in-TargetFeatures-clause-found
returns-in-TargetFeatures-clause-found g c = kind_walks _ _ kinds.TargetFeatures c.args.kind c.args.bytes.now _ _ c.walk_features.result c.in-TargetFeatures.is c.walk_features.ensures.found

pub returns-in-TargetFeatures-clause-none : goal.returns-in-TargetFeatures-clause-none
returns-in-TargetFeatures-clause-none g c = kind_rejects kinds.TargetFeatures c.args.kind _ c.args.bytes.now c.walk_features.result c.in-TargetFeatures.is c.walk_features.ensures.none

pub returns-in-SourceMappingUrl-clause-found : goal.returns-in-SourceMappingUrl-clause-found
returns-in-SourceMappingUrl-clause-found g c = kind_walks _ _ kinds.SourceMappingUrl c.args.kind c.args.bytes.now _ _ c.walk_source_map.result c.in-SourceMappingUrl.is c.walk_source_map.ensures.found

pub returns-in-SourceMappingUrl-clause-none : goal.returns-in-SourceMappingUrl-clause-none
returns-in-SourceMappingUrl-clause-none g c = kind_rejects kinds.SourceMappingUrl c.args.kind _ c.args.bytes.now c.walk_source_map.result c.in-SourceMappingUrl.is c.walk_source_map.ensures.none

pub returns-in-ExternalDebugInfo-clause-found : goal.returns-in-ExternalDebugInfo-clause-found
returns-in-ExternalDebugInfo-clause-found g c = kind_walks _ _ kinds.ExternalDebugInfo c.args.kind c.args.bytes.now _ _ c.walk_debug_file.result c.in-ExternalDebugInfo.is c.walk_debug_file.ensures.found

pub returns-in-ExternalDebugInfo-clause-none : goal.returns-in-ExternalDebugInfo-clause-none
returns-in-ExternalDebugInfo-clause-none g c = kind_rejects kinds.ExternalDebugInfo c.args.kind _ c.args.bytes.now c.walk_debug_file.result c.in-ExternalDebugInfo.is c.walk_debug_file.ensures.none

pub returns-in-BuildId-clause-found : goal.returns-in-BuildId-clause-found
returns-in-BuildId-clause-found g c = kind_walks _ _ kinds.BuildId c.args.kind c.args.bytes.now _ _ c.walk_build_id.result c.in-BuildId.is c.walk_build_id.ensures.found

pub returns-in-BuildId-clause-none : goal.returns-in-BuildId-clause-none
returns-in-BuildId-clause-none g c = kind_rejects kinds.BuildId c.args.kind _ c.args.bytes.now c.walk_build_id.result c.in-BuildId.is c.walk_build_id.ensures.none

pub returns-in-Dylink-clause-found : goal.returns-in-Dylink-clause-found
returns-in-Dylink-clause-found g c = kind_walks _ _ kinds.Dylink c.args.kind c.args.bytes.now _ _ c.walk_dylink.result c.in-Dylink.is c.walk_dylink.ensures.found

pub returns-in-Dylink-clause-none : goal.returns-in-Dylink-clause-none
returns-in-Dylink-clause-none g c = kind_rejects kinds.Dylink c.args.kind _ c.args.bytes.now c.walk_dylink.result c.in-Dylink.is c.walk_dylink.ensures.none

pub returns-in-Relocations-clause-found : goal.returns-in-Relocations-clause-found
returns-in-Relocations-clause-found g c = kind_walks _ _ kinds.Relocations c.args.kind c.args.bytes.now _ _ c.walk_relocations.result c.in-Relocations.is c.walk_relocations.ensures.found

pub returns-in-Relocations-clause-none : goal.returns-in-Relocations-clause-none
returns-in-Relocations-clause-none g c = kind_rejects kinds.Relocations c.args.kind _ c.args.bytes.now c.walk_relocations.result c.in-Relocations.is c.walk_relocations.ensures.none

pub returns-in-InstructionFrequencies-clause-found : goal.returns-in-InstructionFrequencies-clause-found
returns-in-InstructionFrequencies-clause-found g c = kind_walks _ _ kinds.InstructionFrequencies c.args.kind c.args.bytes.now _ _ c.walk_frequencies.result c.in-InstructionFrequencies.is c.walk_frequencies.ensures.found

pub returns-in-InstructionFrequencies-clause-none : goal.returns-in-InstructionFrequencies-clause-none
returns-in-InstructionFrequencies-clause-none g c = kind_rejects kinds.InstructionFrequencies c.args.kind _ c.args.bytes.now c.walk_frequencies.result c.in-InstructionFrequencies.is c.walk_frequencies.ensures.none

pub returns-in-CompilationOrders-clause-found : goal.returns-in-CompilationOrders-clause-found
returns-in-CompilationOrders-clause-found g c = kind_walks _ _ kinds.CompilationOrders c.args.kind c.args.bytes.now _ _ c.walk_orders.result c.in-CompilationOrders.is c.walk_orders.ensures.found

pub returns-in-CompilationOrders-clause-none : goal.returns-in-CompilationOrders-clause-none
returns-in-CompilationOrders-clause-none g c = kind_rejects kinds.CompilationOrders c.args.kind _ c.args.bytes.now c.walk_orders.result c.in-CompilationOrders.is c.walk_orders.ensures.none

pub returns-in-CallTargets-clause-found : goal.returns-in-CallTargets-clause-found
returns-in-CallTargets-clause-found g c = kind_walks _ _ kinds.CallTargets c.args.kind c.args.bytes.now _ _ c.walk_call_targets.result c.in-CallTargets.is c.walk_call_targets.ensures.found

pub returns-in-CallTargets-clause-none : goal.returns-in-CallTargets-clause-none
returns-in-CallTargets-clause-none g c = kind_rejects kinds.CallTargets c.args.kind _ c.args.bytes.now c.walk_call_targets.result c.in-CallTargets.is c.walk_call_targets.ensures.none

-- end: written by tools/kinds
