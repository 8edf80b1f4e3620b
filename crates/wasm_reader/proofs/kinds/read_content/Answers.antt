use Rattle.wasm_base.proofs.Words.{fault_stays}
use Rattle.wasm_reader.specs.declared.kinds.SectionKind.TheVariants as kinds
use Rattle.wasm_reader.proofs.KindLaws.{rejects}
use Rattle.wasm_reader.proofs.kinds.read_content.Goals as goal

-- begin: written by tools/kinds
pub returns-in_err-read_whole-in-Functions-clause-none : goal.returns-in_err-read_whole-in-Functions-clause-none
returns-in_err-read_whole-in-Functions-clause-none g c = fault_stays c.from_residual-in_err-read_whole-in-Functions.result _ c.from_residual-in_err-read_whole-in-Functions.ensures.1 λ n. rejects c.args.kind kinds.Functions _ c.args.bytes.now c.in-Functions.is (c.in_err-read_whole-in-Functions.ensures.none n)

pub returns-in_err-read_names-in-Names-clause-none : goal.returns-in_err-read_names-in-Names-clause-none
returns-in_err-read_names-in-Names-clause-none g c = fault_stays c.from_residual-in_err-read_names-in-Names.result _ c.from_residual-in_err-read_names-in-Names.ensures.1 λ n. rejects c.args.kind kinds.Names _ c.args.bytes.now c.in-Names.is (c.in_err-read_names-in-Names.ensures.none n)

pub returns-in_err-read_links-in-Linking-clause-none : goal.returns-in_err-read_links-in-Linking-clause-none
returns-in_err-read_links-in-Linking-clause-none g c = fault_stays c.from_residual-in_err-read_links-in-Linking.result _ c.from_residual-in_err-read_links-in-Linking.ensures.1 λ n. rejects c.args.kind kinds.Linking _ c.args.bytes.now c.in-Linking.is (c.in_err-read_links-in-Linking.ensures.none n)

pub returns-in_err-read_producers-in-Producers-clause-none : goal.returns-in_err-read_producers-in-Producers-clause-none
returns-in_err-read_producers-in-Producers-clause-none g c = fault_stays c.from_residual-in_err-read_producers-in-Producers.result _ c.from_residual-in_err-read_producers-in-Producers.ensures.1 λ n. rejects c.args.kind kinds.Producers _ c.args.bytes.now c.in-Producers.is (c.in_err-read_producers-in-Producers.ensures.none n)

pub returns-in_err-read_hints-in-Hints-clause-none : goal.returns-in_err-read_hints-in-Hints-clause-none
returns-in_err-read_hints-in-Hints-clause-none g c = fault_stays c.from_residual-in_err-read_hints-in-Hints.result _ c.from_residual-in_err-read_hints-in-Hints.ensures.1 λ n. rejects c.args.kind kinds.Hints _ c.args.bytes.now c.in-Hints.is (c.in_err-read_hints-in-Hints.ensures.none n)

pub returns-in_err-read_process-in-Core-clause-none : goal.returns-in_err-read_process-in-Core-clause-none
returns-in_err-read_process-in-Core-clause-none g c = fault_stays c.from_residual-in_err-read_process-in-Core.result _ c.from_residual-in_err-read_process-in-Core.ensures.1 λ n. rejects c.args.kind kinds.Core _ c.args.bytes.now c.in-Core.is (c.in_err-read_process-in-Core.ensures.none n)

pub returns-in_err-read_modules-in-CoreModules-clause-none : goal.returns-in_err-read_modules-in-CoreModules-clause-none
returns-in_err-read_modules-in-CoreModules-clause-none g c = fault_stays c.from_residual-in_err-read_modules-in-CoreModules.result _ c.from_residual-in_err-read_modules-in-CoreModules.ensures.1 λ n. rejects c.args.kind kinds.CoreModules _ c.args.bytes.now c.in-CoreModules.is (c.in_err-read_modules-in-CoreModules.ensures.none n)

pub returns-in_err-read_instances-in-CoreInstances-clause-none : goal.returns-in_err-read_instances-in-CoreInstances-clause-none
returns-in_err-read_instances-in-CoreInstances-clause-none g c = fault_stays c.from_residual-in_err-read_instances-in-CoreInstances.result _ c.from_residual-in_err-read_instances-in-CoreInstances.ensures.1 λ n. rejects c.args.kind kinds.CoreInstances _ c.args.bytes.now c.in-CoreInstances.is (c.in_err-read_instances-in-CoreInstances.ensures.none n)

pub returns-in_err-thread-in-CoreStack-clause-none : goal.returns-in_err-thread-in-CoreStack-clause-none
returns-in_err-thread-in-CoreStack-clause-none g c = fault_stays c.from_residual-in_err-thread-in-CoreStack.result _ c.from_residual-in_err-thread-in-CoreStack.ensures.1 λ n. rejects c.args.kind kinds.CoreStack _ c.args.bytes.now c.in-CoreStack.is (c.in_err-thread-in-CoreStack.ensures.none n)

pub returns-in_err-read_features-in-TargetFeatures-clause-none : goal.returns-in_err-read_features-in-TargetFeatures-clause-none
returns-in_err-read_features-in-TargetFeatures-clause-none g c = fault_stays c.from_residual-in_err-read_features-in-TargetFeatures.result _ c.from_residual-in_err-read_features-in-TargetFeatures.ensures.1 λ n. rejects c.args.kind kinds.TargetFeatures _ c.args.bytes.now c.in-TargetFeatures.is (c.in_err-read_features-in-TargetFeatures.ensures.none n)

pub returns-in_err-read_source_map-in-SourceMappingUrl-clause-none : goal.returns-in_err-read_source_map-in-SourceMappingUrl-clause-none
returns-in_err-read_source_map-in-SourceMappingUrl-clause-none g c = fault_stays c.from_residual-in_err-read_source_map-in-SourceMappingUrl.result _ c.from_residual-in_err-read_source_map-in-SourceMappingUrl.ensures.1 λ n. rejects c.args.kind kinds.SourceMappingUrl _ c.args.bytes.now c.in-SourceMappingUrl.is (c.in_err-read_source_map-in-SourceMappingUrl.ensures.none n)

pub returns-in_err-read_debug_file-in-ExternalDebugInfo-clause-none : goal.returns-in_err-read_debug_file-in-ExternalDebugInfo-clause-none
returns-in_err-read_debug_file-in-ExternalDebugInfo-clause-none g c = fault_stays c.from_residual-in_err-read_debug_file-in-ExternalDebugInfo.result _ c.from_residual-in_err-read_debug_file-in-ExternalDebugInfo.ensures.1 λ n. rejects c.args.kind kinds.ExternalDebugInfo _ c.args.bytes.now c.in-ExternalDebugInfo.is (c.in_err-read_debug_file-in-ExternalDebugInfo.ensures.none n)

pub returns-in_err-read_build_id-in-BuildId-clause-none : goal.returns-in_err-read_build_id-in-BuildId-clause-none
returns-in_err-read_build_id-in-BuildId-clause-none g c = fault_stays c.from_residual-in_err-read_build_id-in-BuildId.result _ c.from_residual-in_err-read_build_id-in-BuildId.ensures.1 λ n. rejects c.args.kind kinds.BuildId _ c.args.bytes.now c.in-BuildId.is (c.in_err-read_build_id-in-BuildId.ensures.none n)

pub returns-in_err-read_dylink-in-Dylink-clause-none : goal.returns-in_err-read_dylink-in-Dylink-clause-none
returns-in_err-read_dylink-in-Dylink-clause-none g c = fault_stays c.from_residual-in_err-read_dylink-in-Dylink.result _ c.from_residual-in_err-read_dylink-in-Dylink.ensures.1 λ n. rejects c.args.kind kinds.Dylink _ c.args.bytes.now c.in-Dylink.is (c.in_err-read_dylink-in-Dylink.ensures.none n)

pub returns-in_err-name-in-Relocations-clause-none : goal.returns-in_err-name-in-Relocations-clause-none
returns-in_err-name-in-Relocations-clause-none g c = fault_stays c.from_residual-in_err-name-in-Relocations.result _ c.from_residual-in_err-name-in-Relocations.ensures.1 λ n. rejects c.args.kind kinds.Relocations _ c.args.bytes.now c.in-Relocations.is (c.in_err-name-in-Relocations.ensures.none n)

pub returns-in_err-read_frequencies-in-InstructionFrequencies-clause-none : goal.returns-in_err-read_frequencies-in-InstructionFrequencies-clause-none
returns-in_err-read_frequencies-in-InstructionFrequencies-clause-none g c = fault_stays c.from_residual-in_err-read_frequencies-in-InstructionFrequencies.result _ c.from_residual-in_err-read_frequencies-in-InstructionFrequencies.ensures.1 λ n. rejects c.args.kind kinds.InstructionFrequencies _ c.args.bytes.now c.in-InstructionFrequencies.is (c.in_err-read_frequencies-in-InstructionFrequencies.ensures.none n)

pub returns-in_err-read_orders-in-CompilationOrders-clause-none : goal.returns-in_err-read_orders-in-CompilationOrders-clause-none
returns-in_err-read_orders-in-CompilationOrders-clause-none g c = fault_stays c.from_residual-in_err-read_orders-in-CompilationOrders.result _ c.from_residual-in_err-read_orders-in-CompilationOrders.ensures.1 λ n. rejects c.args.kind kinds.CompilationOrders _ c.args.bytes.now c.in-CompilationOrders.is (c.in_err-read_orders-in-CompilationOrders.ensures.none n)

pub returns-in_err-read_call_targets-in-CallTargets-clause-none : goal.returns-in_err-read_call_targets-in-CallTargets-clause-none
returns-in_err-read_call_targets-in-CallTargets-clause-none g c = fault_stays c.from_residual-in_err-read_call_targets-in-CallTargets.result _ c.from_residual-in_err-read_call_targets-in-CallTargets.ensures.1 λ n. rejects c.args.kind kinds.CallTargets _ c.args.bytes.now c.in-CallTargets.is (c.in_err-read_call_targets-in-CallTargets.ensures.none n)

-- end: written by tools/kinds
