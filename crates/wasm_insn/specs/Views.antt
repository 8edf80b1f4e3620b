-- This file defines the views of decoded instructions: their values without locations in memory.
use Rattle.std.specs.Prelude.{map}
use Rattle.wasm_insn.specs.Arguments.{Argument, unsigned, signed32, signed64, float32, float64, vector, memory, lane, lanes, block, heap, ordering, labels, catches, types, handles, flag}
use Rattle.wasm_insn.specs.Plain.{Plain as PlainInstruction}
use Rattle.wasm_insn.specs.declared.arguments.Arg.{Arg}
use Rattle.wasm_insn.specs.declared.plain.Plain.{Plain}
use Rattle.wasm_insn.specs.declared.arguments.Arg.TheVariants as args

-- The view of an immediate.
abbrev pub argument_view : {A : Type 0} → Arg A → Argument
argument_view (args.U32 n) = unsigned n
argument_view (args.S32 v) = signed32 v
argument_view (args.S64 v) = signed64 v
argument_view (args.F32 float) = float32 float
argument_view (args.F64 float) = float64 float
argument_view (args.V128 v) = vector v
argument_view (args.Mem m) = memory m
argument_view (args.Lane n) = lane n
argument_view (args.Lanes ns) = lanes ns
argument_view (args.Block type) = block type
argument_view (args.Heap type) = heap type
argument_view (args.Order o) = ordering o
argument_view (args.Labels ns) = labels ns.items
argument_view (args.Catches cs) = catches cs.items
argument_view (args.Types ts) = types ts.items
argument_view (args.Handles hs) = handles hs.items
argument_view (args.Flag n) = flag n

-- The view of an instruction.
abbrev pub plain_view : {A : Type 0} → Plain A → PlainInstruction
plain_view i = record { op = i.op; arguments = map argument_view i.args.items }
