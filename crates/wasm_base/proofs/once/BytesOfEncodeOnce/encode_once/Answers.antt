use Rattle.wasm_base.proofs.Std.{◌≡◌, ◌≤◌, ◌++◌, ◌∙◌, length, false, ap, refl, sym, subst, append_assoc, lit<, arith, rules, common_steps, Drains}
use Rattle.wasm_base.specs.{unsigned_encoding, size_prefixed_encoding}
use Rattle.wasm_base.proofs.NumberEncodings.{length-groups_encoding-le}
use Rattle.wasm_base.proofs.Yielded.{Drains-append}
use Rattle.wasm_base.proofs.once.BytesOfEncodeOnce.encode_once.Goals as goal

pub append_blocks-requires-clause-spare : goal.append_blocks-requires-clause-spare
append_blocks-requires-clause-spare g c =
    let n = c.args.self.count in
    let short : length (unsigned_encoding n) ≤ 5 = length-groups_encoding-le false 0x80 4 n (lit< tt) (omega (arith, c.requires.counted)) in
    let front : c.encode.new.sink.items ≡ c.args.sink.now.items ++ unsigned_encoding n = search rules in
    grind (arith, common_steps, short, front)

pub returns : goal.returns
returns g c =
    let ran = c.in-Ok.ensures.ran in
    let front = c.append_blocks.ensures.appends in
    let gives = g.I.Iterator.next_gives in
    let rest = subst (λ it. Drains gives it ran.1) ran.2 ran.4 in
    let bytes = front.0 ++ ran.1 in
    let drained = Drains-append gives c.args.self.items front.0 c.append_blocks.new.items ran.1 front.1 rest in
    let count = c.requires.reported bytes drained in
    let before : c.encode.new.sink.items ≡ c.args.sink.now.items ++ unsigned_encoding c.args.self.count = search rules in
    let added : c.extend.new.self.items ≡ c.append_blocks.new.sink.items ++ ran.1 = ran.3.0 in
    record {
      ok = (
        size_prefixed_encoding bytes,
        record { bytes = bytes; drained = drained; encodable = omega (arith, count, c.requires.counted); is = refl },
        added ∙ ap (λ t. t ++ ran.1) front.2 ∙ append_assoc c.encode.new.sink.items front.0 ran.1 ∙ ap (λ t. t ++ bytes) before
            ∙ append_assoc c.args.sink.now.items (unsigned_encoding c.args.self.count) bytes ∙ ap (λ n. c.args.sink.now.items ++ (unsigned_encoding n ++ bytes)) (sym count),
      );
      err = search rules;
      too_long = search rules;
      capacity = omega (arith, ran.3.2, c.append_blocks.ensures.capacity);
    }
