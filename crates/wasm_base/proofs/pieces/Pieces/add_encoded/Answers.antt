use Rattle.wasm_base.proofs.Std.{◌≡◌, ◌+◌, ◌++◌, ◌∷◌, [], length, ap, arith, rules, length-append}
use Rattle.std.proofs.lemmas.Bool.Decides.{not_from_Decides}
use Rattle.wasm_base.proofs.Cut.{cut_push, IsCut_push, length_cut}
use Rattle.wasm_base.proofs.pieces.Pieces.add_encoded.Goals as goal

pub returns-then-is_full : goal.returns-then-is_full
returns-then-is_full g c = record {
  ok = search rules;
  err = search rules;
  was_encodable = search rules;
  counted = search rules;
  too_long = λ _ more _. omega (arith, more, length_cut 0 c.self.inside.ends.items c.self.inside.bytes.items, ap length c.self.view_is);
  full = search rules;
}

pub invariant_of-self-2 : goal.invariant_of-self-2
invariant_of-self-2 g c =
    let bytes : c.encode.new.sink.items ≡ c.self.inside.bytes.items ++ g.T.Encode.encoding c.args.item.now = search rules in
    let ends : c.push_reserved.new.self.items ≡ c.self.inside.ends.items ++ c.len-end.result ∷ [] = search rules in
    let end : c.len-end.result ≡ length c.self.inside.bytes.items + length (g.T.Encode.encoding c.args.item.now) = omega (arith, simp length-append at (ap length bytes)) in
    rw (bytes, ends) (IsCut_push _ _ _ _ c.self.invariant.0 end, simp length-append (omega (arith, not_from_Decides _ c.is_full.ensures c.if-is_full.false, length_cut 0 c.self.inside.ends.items c.self.inside.bytes.items, ap length c.self.view_is)))

pub returns : goal.returns
returns g c =
    let bytes : c.encode.new.sink.items ≡ c.self.inside.bytes.items ++ g.T.Encode.encoding c.args.item.now = search rules in
    let ends : c.push_reserved.new.self.items ≡ c.self.inside.ends.items ++ c.len-end.result ∷ [] = search rules in
    let end : c.len-end.result ≡ length c.self.inside.bytes.items + length (g.T.Encode.encoding c.args.item.now) = omega (arith, simp length-append at (ap length bytes)) in
    record {
      ok = rw (bytes, ends, ← c.self.view_is) (cut_push _ _ _ _ c.self.invariant.0 end);
      err = search rules;
      was_encodable = search rules;
      counted = omega (arith, not_from_Decides _ c.is_full.ensures c.if-is_full.false, length_cut 0 c.self.inside.ends.items c.self.inside.bytes.items, ap length c.self.view_is);
      too_long = search rules;
      full = λ e. absurd (omega (arith, e, not_from_Decides _ c.is_full.ensures c.if-is_full.false, length_cut 0 c.self.inside.ends.items c.self.inside.bytes.items, ap length c.self.view_is));
    }
