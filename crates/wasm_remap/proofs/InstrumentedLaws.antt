-- This file proves bodies with instructions before and after their own.
use Rattle.wasm_base.proofs.Words.{◌≡◌, ◌≢◌, ℕ, zero, suc, ◌+◌, ◌<◌, ◌==◌, List, [], ◌∷◌, ◌++◌, length, Bool, true, false, cond, refl, sym, ap, ap₂, subst, ◌∙◌, arith, append_assoc, append-nil, length-append, length-drop, eqb-true, eqb-false, take, drop, drop-drop, take-append-drop, ◌-◌, ◌≤◌, Result, Option, Ok, Err, Some, None}
use Rattle.wasm_base.proofs.Words.{Decodes, Rejects, standard, members, pair, u32, vec, val_type, decodes_same}
use Rattle.std.proofs.lemmas.List.{append_cancel_right}
use Rattle.wasm_base.proofs.DecodeWhole.{member_shorter}
use Rattle.wasm_code.proofs.Words.{Body, body}
use Rattle.wasm_code.proofs.BodyLaws.{runs_unambiguous}
use Rattle.wasm_code.proofs.ExpressionLaws.{members_join}
use Rattle.wasm_base.specs.Faults.{Failure}
use Rattle.wasm_code.specs.Bodies.{Run}
use Rattle.wasm_code.specs.Words.{GivesInstruction, NextInstruction, Walking, ahead}
use Rattle.wasm_code.specs.Walks.{GivesFailure}
use Rattle.wasm_code.specs.declared.walk.Decoded.{Decoded}
use Rattle.wasm_insn.proofs.InstructionLaws.{any_begins, unique}
use Rattle.wasm_insn.proofs.Words.{Plain, instruction, table}
use Rattle.wasm_insn.specs.Arguments.{Argument}
use Rattle.wasm_insn.specs.Operands.{AreOperands, DecodesOperation}
use Rattle.wasm_insn.specs.declared.op.Op.{Op}
use Rattle.wasm_insn.specs.declared.operands.Operands.{Operands}
use Rattle.wasm_remap.specs.Begun.{GainsCode}
use Rattle.wasm_remap.specs.Instrumented.{Around, instrumented_body, unless_last, woven_before}

-- ---- lists of instructions

-- One instruction, with those before and after it, which number `n` has.
abbrev pub around : Around → Around → ℕ → Plain → List Plain → List Plain
around before after n i others = before n i ++ (i ∷ unless_last others (after n i))

woven_more : (before after : Around) (n : ℕ) (done : List Plain) (i : Plain) (todo : List Plain) → woven_before before after n done (i ∷ todo) ++ around before after (n + length done) i todo ≡ woven_before before after n (done ++ i ∷ []) todo
woven_more before after n [] i todo =
    let same : n + 0 ≡ n = omega arith in
    ap (λ k. around before after k i todo) same ∙ ap (λ z. before n i ++ (i ∷ z)) (sym (append-nil (unless_last todo (after n i))))
woven_more before after n (j ∷ done) i todo =
    let same : n + suc (length done) ≡ suc n + length done = omega arith in
    let behind = unless_last (done ++ i ∷ todo) (after n j) in
    let rest = woven_before before after (suc n) done (i ∷ todo) in
    let last = around before after (n + suc (length done)) i todo in
    let moved = ap (λ k. rest ++ around before after k i todo) same ∙ woven_more before after (suc n) done i todo in
    let regrouped = ap (λ l. unless_last l (after n j) ++ woven_before before after (suc n) (done ++ i ∷ []) todo) (sym (append_assoc done (i ∷ []) todo)) in
    append_assoc (before n j) (j ∷ (behind ++ rest)) last ∙ ap (λ z. before n j ++ (j ∷ z)) (append_assoc behind rest last ∙ ap (λ z. behind ++ z) moved ∙ regrouped)

-- Each instruction takes a byte or more.
shorter : (s : List ℕ) (i : Plain) (is : List Plain) (h : members (instruction table) standard s (i ∷ is)) → length h.1 < length s
shorter s i is h = member_shorter (instruction table) s h.1 i any_begins (record { front = h.0; split = h.2; encodes = h.3 })

no_more : (is : List Plain) → members (instruction table) standard [] is → is ≡ []
no_more [] h = refl
no_more (i ∷ is) h = absurd (omega (arith, shorter [] i is h))

no_true : false ≡ true → ⊥
no_true e = cc e

-- The last instruction is the one behind which no bytes remain.
last_is : (others : List Plain) (rest : List ℕ) (is_last : Bool) (code : List Plain) → members (instruction table) standard rest others → is_last ≡ (length rest == 0) → cond is_last [] code ≡ unless_last others code
last_is [] rest true code h e = refl
last_is [] rest false code h e = absurd (no_true (e ∙ ap (λ s. length s == 0) h))
last_is (i ∷ others) rest false code h e = refl
last_is (i ∷ others) rest true code h e = absurd (omega (arith, shorter rest i others h, eqb-true (length rest) 0 (sym e)))

-- ---- one instruction

gains_own : (i : Plain) (front : List Plain) (old middle new bytes : List ℕ) → GainsCode front old middle → new ≡ middle ++ bytes → instruction table standard bytes i → GainsCode (front ++ i ∷ []) old new
gains_own i front old middle new bytes h e d = record {
  encoding = h.encoding ++ bytes;
  added = e ∙ ap (λ z. z ++ bytes) h.added ∙ append_assoc old h.encoding bytes;
  encodes = members_join (instruction table) standard h.encoding bytes front (i ∷ []) h.encodes (bytes, [], sym (append-nil bytes), d, refl);
}

-- The last one.
pub around_last : {i : Plain} {front : List Plain} (is_last : Bool) (behind : List Plain) (old middle new bytes : List ℕ) → is_last ≡ true → GainsCode front old middle → new ≡ middle ++ bytes → instruction table standard bytes i → GainsCode (front ++ (i ∷ cond is_last [] behind)) old new
around_last {i = i} {front = front} is_last behind old middle new bytes last h e d = subst (λ b. GainsCode (front ++ (i ∷ cond b [] behind)) old new) (sym last) (gains_own i front old middle new bytes h e d)

-- Another one.
pub around_others : {i : Plain} {front behind : List Plain} (is_last : Bool) (old middle own new bytes : List ℕ) → is_last ≡ false → GainsCode front old middle → own ≡ middle ++ bytes → instruction table standard bytes i → GainsCode behind own new → GainsCode (front ++ (i ∷ cond is_last [] behind)) old new
around_others {i = i} {front = front} {behind = behind} is_last old middle own new bytes others h e d g =
    let first = gains_own i front old middle own bytes h e d in
    subst (λ b. GainsCode (front ++ (i ∷ cond b [] behind)) old new) (sym others) (record {
      encoding = first.encoding ++ g.encoding;
      added = g.added ∙ ap (λ z. z ++ g.encoding) first.added ∙ append_assoc old first.encoding g.encoding;
      encodes = subst (members (instruction table) standard (first.encoding ++ g.encoding)) (append_assoc front (i ∷ []) behind) (members_join (instruction table) standard first.encoding g.encoding (front ++ i ∷ []) behind first.encodes g.encodes);
    })

-- ---- a body

-- Some instructions of the body have been appended, after the locals, with those before and after
-- each. The others decode from `rest`.
pub record HasWoven (before after : Around) (x : Body) (locals rest : List ℕ) (count : ℕ) (new : List ℕ) : Type 0 where
  pub runs : vec (pair u32 val_type) standard locals x.runs
  pub done : List Plain
  pub todo : List Plain
  pub all : x.code ≡ done ++ todo
  pub left : members (instruction table) standard rest todo
  pub counted : count ≡ length done
  pub encoding : List ℕ
  pub is : new ≡ locals ++ encoding
  pub encodes : members (instruction table) standard encoding (woven_before before after 0 done todo)

pub woven_start : (before after : Around) (x : Body) (bytes locals rest new : List ℕ) (runs : List Run) → body standard bytes x → Decodes (vec (pair u32 val_type)) standard bytes runs rest → bytes ≡ locals ++ rest → new ≡ locals → HasWoven before after x locals rest 0 new
woven_start before after x bytes locals rest new runs h d e is =
    let parts = h.2 in
    let same = decodes_same runs_unambiguous d (record { front = parts.front; split = parts.joined; encodes = parts.first }) in
    let front = append_cancel_right locals parts.front rest (sym e ∙ parts.joined ∙ ap (λ s. parts.front ++ s) (sym same.1)) in
    record {
      runs = subst (λ s. vec (pair u32 val_type) standard s x.runs) (sym front) (subst (λ z. vec (pair u32 val_type) standard parts.front z) (ap (λ z. z.runs) h.1) parts.first);
      done = [];
      todo = x.code;
      all = refl;
      left = subst (λ s. members (instruction table) standard s x.code) (sym same.1) (subst (λ z. members (instruction table) standard parts.back z) (ap (λ z. z.code) h.1) parts.second);
      counted = refl;
      encoding = [];
      is = is ∙ sym (append-nil locals);
      encodes = refl;
    }

-- One more instruction.
pub woven_step : {before after : Around} {x : Body} {locals old rest : List ℕ} {count : ℕ} {middle new : List ℕ} (op : Op) (given : Operands) (own : List ℕ) (is_last : Bool) (more : ℕ)
    → HasWoven before after x locals old count middle → DecodesOperation (instruction table) standard old op given rest → old ≡ own ++ rest → is_last ≡ (length rest == 0) → more ≡ count + 1
    → ((xs : List Argument) → AreOperands given xs → instruction table standard own (record { op = op; arguments = xs }) → GainsCode (before count (record { op = op; arguments = xs }) ++ (record { op = op; arguments = xs } ∷ cond is_last [] (after count (record { op = op; arguments = xs })))) middle new)
    → HasWoven before after x locals rest more new
woven_step {before = before} {after = after} {x = x} {locals = locals} {old = old} {rest = rest} {count = count} {middle = middle} {new = new} op given own is_last more h d split last e gains = step h.todo refl
  where
    i : Plain
    i = record { op = op; arguments = d.immediates }

    own_is : own ≡ d.decodes.front
    own_is = append_cancel_right own d.decodes.front rest (sym split ∙ d.decodes.split)

    gained : GainsCode (before count i ++ (i ∷ cond is_last [] (after count i))) middle new
    gained = gains d.immediates d.operands (subst (λ s. instruction table standard s i) (sym own_is) d.decodes.encodes)

    step : (todo : List Plain) → h.todo ≡ todo → HasWoven before after x locals rest more new
    step [] is =
        let none : old ≡ [] = subst (members (instruction table) standard old) is h.left in
        absurd (omega (arith, member_shorter (instruction table) old rest i any_begins d.decodes, ap length none))
    step (j ∷ others) is =
        let left = subst (members (instruction table) standard old) is h.left in
        let same = decodes_same unique d.decodes (record { front = left.0; split = left.2; encodes = left.3 }) in
        let others_left : members (instruction table) standard rest others = subst (λ s. members (instruction table) standard s others) (sym same.1) left.4 in
        let from_none : length h.done ≡ 0 + length h.done = omega arith in
        let one : before count i ++ (i ∷ cond is_last [] (after count i)) ≡ around before after (0 + length h.done) j others =
        ap (λ z. before count i ++ (i ∷ z)) (last_is others rest is_last (after count i) others_left last) ∙ ap₂ (λ n k. around before after n k others) (h.counted ∙ from_none) same.0 in
        let front = subst (λ todo. members (instruction table) standard h.encoding (woven_before before after 0 h.done todo)) is h.encodes in
        record {
          runs = h.runs;
          done = h.done ++ j ∷ [];
          todo = others;
          all = h.all ∙ ap (λ z. h.done ++ z) is ∙ sym (append_assoc h.done (j ∷ []) others);
          left = others_left;
          counted = omega (arith, e, h.counted, length-append h.done (j ∷ []));
          encoding = h.encoding ++ gained.encoding;
          is = gained.added ∙ ap (λ z. z ++ gained.encoding) h.is ∙ append_assoc locals h.encoding gained.encoding;
          encodes = subst (members (instruction table) standard (h.encoding ++ gained.encoding)) (ap (λ z. woven_before before after 0 h.done (j ∷ others) ++ z) one ∙ woven_more before after 0 h.done j others)
              (members_join (instruction table) standard h.encoding gained.encoding (woven_before before after 0 h.done (j ∷ others)) (before count i ++ (i ∷ cond is_last [] (after count i))) front gained.encodes);
        }

-- At the end of the body.
pub woven_done : {before after : Around} {x : Body} {locals rest : List ℕ} {count : ℕ} {new : List ℕ} → HasWoven before after x locals rest count new → rest ≡ [] → body standard new (instrumented_body before after x)
woven_done {before = before} {after = after} {x = x} {locals = locals} {new = new} h e =
    let none : h.todo ≡ [] = no_more h.todo (subst (λ s. members (instruction table) standard s h.todo) e h.left) in
    let all : h.done ≡ x.code = sym (h.all ∙ ap (λ z. h.done ++ z) none ∙ append-nil h.done) in
    let code = subst (λ z. members (instruction table) standard h.encoding (woven_before before after 0 z [])) all (subst (λ z. members (instruction table) standard h.encoding (woven_before before after 0 h.done z)) none h.encodes) in
    let y = instrumented_body before after x in
    ((y.runs, y.code), refl, record { front = locals; back = h.encoding; joined = h.is; first = h.runs; second = code })

-- ---- the visitor

pub given : {before after : Walking} {r : Result (Option Decoded) Failure} {it : Decoded} → r ≡ Ok (Some it) → NextInstruction standard before r after → GivesInstruction (instruction table) standard before it after
given {before = before} {after = after} e h = subst (λ z. NextInstruction standard before z after) e h

pub ended : (before after : Walking) {r : Result (Option Decoded) Failure} → r ≡ Ok None → NextInstruction standard before r after → ahead before ≡ []
ended before after e h = (subst (λ z. NextInstruction standard before z after) e h).0

pub failed : (before after : Walking) {r : Result (Option Decoded) Failure} {e : Failure} → r ≡ Err e → NextInstruction standard before r after → GivesFailure (instruction table) standard before e after × (ahead before ≢ [])
failed before after e h = subst (λ z. NextInstruction standard before z after) e h

-- The next instruction of a body decodes.
pub woven_decodes : {before after : Around} {x : Body} {locals rest : List ℕ} {count : ℕ} {new : List ℕ} → HasWoven before after x locals rest count new → rest ≢ [] → Rejects (instruction table) standard rest → ⊥
woven_decodes {rest = rest} h more none = go h.todo h.left
  where
    go : (todo : List Plain) → members (instruction table) standard rest todo → ⊥
    go [] left = more left
    go (i ∷ todo) left = none.none i left.1 (record { front = left.0; split = left.2; encodes = left.3 })

same_test : (a b c d : ℕ) → (a ≡ b → c ≡ d) → (c ≡ d → a ≡ b) → (a == b) ≡ (c == d)
same_test a b c d f g = go (a == b) (c == d) refl refl
  where
    go : (p q : Bool) → (a == b) ≡ p → (c == d) ≡ q → p ≡ q
    go true true e h = refl
    go false false e h = refl
    go true false e h = absurd (eqb-false c d h (f (eqb-true a b e)))
    go false true e h = absurd (eqb-false a b e (g (eqb-true c d h)))

-- The offset is the end exactly if nothing is behind it.
pub last_at : (offset : ℕ) (bytes : List ℕ) → offset ≤ length bytes → (offset == length bytes) ≡ (length (drop offset bytes) == 0)
last_at offset bytes within = same_test offset (length bytes) (length (drop offset bytes)) 0 (λ e. omega (arith, e, length-drop offset bytes)) (λ e. omega (arith, e, within, length-drop offset bytes))

-- The bytes of an instruction are between its offset and the next one.
pub own_split : {before after : Walking} {it : Decoded} (own bytes : List ℕ) (stop : ℕ) → GivesInstruction (instruction table) standard before it after → before.bytes ≡ own → bytes ≡ own → stop ≡ after.offset → ahead before ≡ take (stop - it.offset) (drop it.offset bytes) ++ ahead after
own_split {before = before} {after = after} {it = it} own bytes stop g b e h =
    let o = before.offset in
    let bs = before.bytes in
    let k = stop - it.offset in
    let plus : o + k ≡ after.offset = omega (arith, h, g.offset, g.further) in
    let same : bs ≡ bytes = b ∙ sym e in
    let back : drop k (drop o bs) ≡ drop after.offset after.bytes = drop-drop k o bs ∙ ap₂ drop plus (sym g.same) in
    sym (take-append-drop k (drop o bs)) ∙ ap₂ (λ x y. x ++ y) (ap (take k) (ap₂ drop (sym g.offset) same)) back
