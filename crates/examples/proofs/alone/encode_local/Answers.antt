-- Written by tools/answers.
use Rattle.examples.proofs.Common.{new_code, adds_body, encodes_code}
use Rattle.examples.proofs.alone.encode_local.Goals as goal

pub returns : goal.returns
returns g c =
    let s1 = adds_body (new_code c.new-code.ensures) c.in_ok-function.ensures.ok c.in_ok-local_function.ensures in
    encodes_code c.encode.ensures.appends c.encode.ensures.read s1
