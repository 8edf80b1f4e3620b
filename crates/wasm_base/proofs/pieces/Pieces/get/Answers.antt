use Rattle.wasm_base.proofs.Std.{◌≡◌, ◌≤◌, ◌∷◌, length, sym, ap, arith, rules, get_or, slice_get_past, get_or_read}
use Rattle.wasm_base.proofs.Cut.{piece_of, length_cut}
use Rattle.wasm_base.proofs.pieces.Pieces.get.Goals as goal

pub returns-then-index-len : goal.returns-then-index-len
returns-then-index-len g c =
    sym (slice_get_past c.args.self.now c.args.index (omega (arith, length_cut 0 c.self.inside.ends.items c.self.inside.bytes.items, ap length c.self.view_is)))

pub slice_bounds-result-count : goal.slice_bounds-result-count
slice_bounds-result-count g c =
    let p = piece_of c.self.inside.bytes.items c.self.inside.ends.items c.args.index c.self.invariant.0 (omega arith) in
    let e : c.index-end.result.now ≡ get_or c.self.inside.ends.items c.args.index 0 = get_or_read c.self.inside.ends.items _ _ (omega arith) c.index-end.ensures 0 in
    let s : c.start_of-start.result ≡ get_or (0 ∷ c.self.inside.ends.items) c.args.index 0 = search rules in
    omega (arith, p.forward)

pub slice_bounds-result-start : goal.slice_bounds-result-start
slice_bounds-result-start g c =
    let p = piece_of c.self.inside.bytes.items c.self.inside.ends.items c.args.index c.self.invariant.0 (omega arith) in
    let e : c.index-end.result.now ≡ get_or c.self.inside.ends.items c.args.index 0 = get_or_read c.self.inside.ends.items _ _ (omega arith) c.index-end.ensures 0 in
    let s : c.start_of-start.result ≡ get_or (0 ∷ c.self.inside.ends.items) c.args.index 0 = search rules in
    let forward : c.start_of-start.result ≤ c.index-end.result.now = omega (arith, p.forward) in
    let inside : c.index-end.result.now ≤ length c.deref-2.result.now = omega (arith, p.inside) in
    search rules

pub slice_bounds-result-end : goal.slice_bounds-result-end
slice_bounds-result-end g c =
    let p = piece_of c.self.inside.bytes.items c.self.inside.ends.items c.args.index c.self.invariant.0 (omega arith) in
    let e : c.index-end.result.now ≡ get_or c.self.inside.ends.items c.args.index 0 = get_or_read c.self.inside.ends.items _ _ (omega arith) c.index-end.ensures 0 in
    let s : c.start_of-start.result ≡ get_or (0 ∷ c.self.inside.ends.items) c.args.index 0 = search rules in
    let forward : c.start_of-start.result ≤ c.index-end.result.now = omega (arith, p.forward) in
    let inside : c.index-end.result.now ≤ length c.deref-2.result.now = omega (arith, p.inside) in
    search rules

pub returns : goal.returns
returns g c =
    let p = piece_of c.self.inside.bytes.items c.self.inside.ends.items c.args.index c.self.invariant.0 (omega arith) in
    let e : c.index-end.result.now ≡ get_or c.self.inside.ends.items c.args.index 0 = get_or_read c.self.inside.ends.items _ _ (omega arith) c.index-end.ensures 0 in
    let s : c.start_of-start.result ≡ get_or (0 ∷ c.self.inside.ends.items) c.args.index 0 = search rules in
    let piece = p.piece in
    cc
