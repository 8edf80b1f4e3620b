use Rattle.read_back.proofs.Common.{[], ◌∷◌, pos, arith, ap, ◌∙◌, ints, copied_source, iter_rest, new_stack, adds_frame, adds_frame_of, copied_gives, array_gives, first_frame, other_frame}
use Rattle.wasm_custom.specs.declared.core_values.CoreDumpValue.TheVariants.{I32}
use Rattle.read_back.proofs.dumps.stack.Goals as goal

pub returns : goal.returns
returns g c =
    let none = new_stack c.in_ok-section.ensures.is c.utf8.name in
    let first = adds_frame none first_frame c.in_ok-frame.ensures.adds c.frame.ensures.same_thread (omega arith) (omega arith) (omega arith) (tt, tt) ((omega (arith, ints), omega (arith, ints)), tt) in
    let locals = copied_gives (I32 (pos 5) ∷ []) (λ it b. ap (λ s. iter_rest (copied_source s)) b ∙ ap iter_rest c.copied.ensures.source ∙ c.iter.ensures.rest) in
    adds_frame_of first (other_frame c.args.offset) c.in_ok-frame-2.ensures.adds c.frame-2.ensures.same_thread locals (array_gives []) (omega arith) (omega arith) (omega (arith, c.ranges.offset.fits)) ((omega (arith, ints), omega (arith, ints)), tt) tt
