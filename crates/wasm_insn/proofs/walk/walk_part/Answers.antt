use Rattle.wasm_base.proofs.Words.{◌≢◌, inl, inr, if_ok_more, if_err_more, mapped_rejects}
use Rattle.wasm_insn.specs.Parts.{IsList}
use Rattle.wasm_insn.specs.declared.part.Part.{Part}
use Rattle.wasm_base.proofs.WalkLaws.{mapped_walks}
use Rattle.wasm_insn.specs.Arguments.{unsigned, block, labels, catches, types, handles}
use Rattle.wasm_insn.proofs.Common.{part_none}
use Rattle.wasm_insn.proofs.WalkInstructions.{part_walks}
use Rattle.wasm_insn.specs.declared.part.Part.TheVariants as parts
use Rattle.wasm_insn.proofs.walk.walk_part.Goals as goal

pub returns-in-Unsigned-clause-found : goal.returns-in-Unsigned-clause-found
returns-in-Unsigned-clause-found g c = if_ok_more c.walk.result (λ rest h. part_walks g.G.Grammar.grammar parts.Unsigned c.args.bytes.now rest.now _ _ c.in-Unsigned.is (mapped_walks unsigned h)) c.walk.ensures.found

pub returns-in-Unsigned-clause-none : goal.returns-in-Unsigned-clause-none
returns-in-Unsigned-clause-none g c = if_err_more c.walk.result (λ e none n. part_none parts.Unsigned c.in-Unsigned.is c.args.bytes.now (mapped_rejects unsigned (none n))) c.walk.ensures.none

pub returns-in-Block-clause-found : goal.returns-in-Block-clause-found
returns-in-Block-clause-found g c = if_ok_more c.walk-in-Block.result (λ rest h. part_walks g.G.Grammar.grammar parts.Block c.args.bytes.now rest.now _ _ c.in-Block.is (mapped_walks block h)) c.walk-in-Block.ensures.found

pub returns-in-Block-clause-none : goal.returns-in-Block-clause-none
returns-in-Block-clause-none g c = if_err_more c.walk-in-Block.result (λ e none n. part_none parts.Block c.in-Block.is c.args.bytes.now (mapped_rejects block (none n))) c.walk-in-Block.ensures.none

pub returns-in-Labels-clause-found : goal.returns-in-Labels-clause-found
returns-in-Labels-clause-found g c = if_ok_more c.walk-in-Labels.result (λ rest h. part_walks g.G.Grammar.grammar parts.Labels c.args.bytes.now rest.now _ _ c.in-Labels.is (mapped_walks labels h)) c.walk-in-Labels.ensures.found

pub returns-in-Labels-clause-none : goal.returns-in-Labels-clause-none
returns-in-Labels-clause-none g c = if_err_more c.walk-in-Labels.result (λ e none n. part_none parts.Labels c.in-Labels.is c.args.bytes.now (mapped_rejects labels (none n))) c.walk-in-Labels.ensures.none

pub returns-in-Catches-clause-found : goal.returns-in-Catches-clause-found
returns-in-Catches-clause-found g c = if_ok_more c.walk-in-Catches.result (λ rest h. part_walks g.G.Grammar.grammar parts.Catches c.args.bytes.now rest.now _ _ c.in-Catches.is (mapped_walks catches h)) c.walk-in-Catches.ensures.found

pub returns-in-Catches-clause-none : goal.returns-in-Catches-clause-none
returns-in-Catches-clause-none g c = if_err_more c.walk-in-Catches.result (λ e none n. part_none parts.Catches c.in-Catches.is c.args.bytes.now (mapped_rejects catches (none n))) c.walk-in-Catches.ensures.none

pub returns-in-Types-clause-found : goal.returns-in-Types-clause-found
returns-in-Types-clause-found g c = if_ok_more c.walk-in-Types.result (λ rest h. part_walks g.G.Grammar.grammar parts.Types c.args.bytes.now rest.now _ _ c.in-Types.is (mapped_walks types h)) c.walk-in-Types.ensures.found

pub returns-in-Types-clause-none : goal.returns-in-Types-clause-none
returns-in-Types-clause-none g c = if_err_more c.walk-in-Types.result (λ e none n. part_none parts.Types c.in-Types.is c.args.bytes.now (mapped_rejects types (none n))) c.walk-in-Types.ensures.none

pub returns-in-Handles-clause-found : goal.returns-in-Handles-clause-found
returns-in-Handles-clause-found g c = if_ok_more c.walk-in-Handles.result (λ rest h. part_walks g.G.Grammar.grammar parts.Handles c.args.bytes.now rest.now _ _ c.in-Handles.is (mapped_walks handles h)) c.walk-in-Handles.ensures.found

pub returns-in-Handles-clause-none : goal.returns-in-Handles-clause-none
returns-in-Handles-clause-none g c = if_err_more c.walk-in-Handles.result (λ e none n. part_none parts.Handles c.in-Handles.is c.args.bytes.now (mapped_rejects handles (none n))) c.walk-in-Handles.ensures.none

no_list : (p : Part) → p ≢ parts.Labels → p ≢ parts.Catches → p ≢ parts.Types → p ≢ parts.Handles → IsList p → ⊥
no_list p a b c d (inl e) = a e
no_list p a b c d (inr (inl e)) = b e
no_list p a b c d (inr (inr (inl e))) = c e
no_list p a b c d (inr (inr (inr e))) = d e

pub walk_rare-requires : goal.walk_rare-requires
walk_rare-requires g c =
    let other = c.in_default in
    record { no_block = other.not-Block; no_list = no_list c.args.wanted other.not-Labels other.not-Catches other.not-Types other.not-Handles }
