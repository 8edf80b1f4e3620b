use Rattle.wasm_base.proofs.Words.{◌≡◌, ◌≤◌, ◌+◌, ◌^◌, length, take, Some, arith, rules, slice_get, joined}
use Rattle.wasm_bench.proofs.PieceLengths.{joined_take_more, joined_take_le}
use Rattle.wasm_bench.proofs.answers.TypeSectionEntries.entries_len.Goals as goal

pub returns-in_err-bytes : goal.returns-in_err-bytes
returns-in_err-bytes c =
    let ps = c.args.self.now in
    let i = c.loop-index.index in
    let at : slice_get ps i ≡ Some c.in_ok-piece.piece.now = search rules in
    let so_far : c.loop-index.bytes ≡ length (joined (take i ps)) = c.loop-index.invariant in
    let too_many : 2 ^ 64 ≤ length (joined ps) = omega (arith, joined_take_more ps i c.in_ok-piece.piece.now at, joined_take_le ps (i + 1), c.in_err-bytes.ensures) in
    rw c.from_residual-in_err-bytes.ensures too_many
