-- Written by tools/answers.
use Rattle.read_back.proofs.Common.{new_code, adds_body, encodes_code}
use Rattle.read_back.proofs.stored.write_bodies.Goals as goal

pub returns : goal.returns
returns g c =
    let s1 = adds_body (new_code c.new-section.ensures) c.in_ok-function.ensures.ok c.in_ok-of_locals.ensures in
    let s2 = adds_body s1 c.in_ok-function-2.ensures.ok c.in_ok-of_nothing.ensures in
    encodes_code c.encode.ensures.appends c.encode.ensures.read s2
