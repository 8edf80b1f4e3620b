use Rattle.wasm_base.proofs.Words.{◌≡◌, ℕ, suc, ◌+◌, ◌<◌, List, [], ◌∷◌, ◌++◌, length, map, take, get_or, sym, ap, subst, ◌∙◌, append-nil, append_assoc, arith, take-suc, map-append, take_all}
use Rattle.wasm_code.proofs.Words.{IsWellFormedBody, and_then, normal_row, adds_instruction}
use Rattle.wasm_insn.proofs.Words.{HasSmallAlignments, IsWellFormedWhereAligned}
use Rattle.examples.proofs.grown.grow_by_each.Goals as goal

-- The next member after those before it.
next_of : {X Y : Type 0} (f : X → Y) (front : List Y) (xs : List X) (i : ℕ) (x : X) → i < length xs → x ≡ get_or xs i x → (front ++ map f (take i xs)) ++ f x ∷ [] ≡ front ++ map f (take (i + 1) xs)
next_of f front xs i x there e =
    let step : suc i ≡ i + 1 = omega arith in
    append_assoc front (map f (take i xs)) (f x ∷ [])
    ∙ ap (λ ys. front ++ ys) (ap (λ y. map f (take i xs) ++ f y ∷ []) e ∙ sym (map-append f (take i xs) (get_or xs i x ∷ [])) ∙ ap (map f) (sym (take-suc xs i x there) ∙ ap (λ n. take n xs) step))

pub loop-instruction-init : goal.loop-instruction-init
loop-instruction-init g c small x body = subst (λ is. IsWellFormedBody c.args.function.now (record { runs = x.runs; code = is })) (sym (append-nil x.code)) body

pub loop-instruction-preserved : goal.loop-instruction-preserved
loop-instruction-preserved g c small x body =
    let is = c.args.instructions.now in
    let i = c.loop-instruction.instruction-index in
    let item = c.instruction-item.result in
    let range = subst IsWellFormedWhereAligned (sym c.instruction-item.is) (c.plain_instructions.ensures i item c.loop-instruction-test.true) in
    let aligned = subst HasSmallAlignments (sym c.instruction-item.is) (small i item c.loop-instruction-test.true) in
    let grown = adds_instruction (c.loop-instruction.invariant small x body) c.in_ok-instruction.ensures.ok (range.plain aligned c.in_ok-instruction.ensures.was_encodable) in
    subst (λ code. IsWellFormedBody c.instruction.new.self (record { runs = x.runs; code = code })) (next_of normal_row x.code is i item c.loop-instruction-test.true c.instruction-item.is) grown

pub returns : goal.returns
returns g c small x body =
    subst (λ is. IsWellFormedBody c.loop-instruction.function (and_then x (map normal_row is))) (take_all c.loop-instruction.instruction-index c.args.instructions.now c.loop-instruction-test.false) (c.loop-instruction.invariant small x body)
