-- This file proves how the reader advances, and how its steps decode the whole.
use Rattle.wasm_base.proofs.Words.{Mode, ◌≡◌, ◌≢◌, ℕ, ◌+◌, ◌-◌, ◌<◌, ◌≤◌, List, [], ◌∷◌, length, map, take, drop, refl, sym, ap, subst, ◌∙◌, arith, length-drop, drop_at, drop-drop, map-id, take_all}
use Rattle.wasm_base.proofs.Words.{Format, u32, pair, such, vec, Decodes, Rejects, val_type, begins_such, such_none}
use Rattle.wasm_base.specs.declared.types.ValType.{ValType}
use Rattle.std.proofs.lemmas.List.{length-append}
use Rattle.std.specs.Prelude.{Result, Ok, Err, IfErr, IsErrAnd, Option}
use Rattle.wasm_base.specs.Faults.{Failure}
use Rattle.wasm_insn.proofs.Words.{Plain, instruction, table, any_begins}
use Rattle.wasm_insn.specs.Operands.{FollowOpcode}
use Rattle.wasm_insn.specs.declared.op.Op.{Op}
use Rattle.wasm_insn.specs.declared.operands.Operands.{Operands}
use Rattle.wasm_code.specs.{IsNoEnd, expression, Walking, ahead, GivesFailure, NextInstruction, NextBeforeEnd}
use Rattle.wasm_code.specs.declared.walk.Decoded.{Decoded}
use Rattle.wasm_code.proofs.DecodeLists.{body_no_runs, ended_start, ended_fail, ended_short}

-- ---- offsets

-- Equal bytes decode equally.
pub decodes_there : {m : Mode} {X : Type 0} {F : Format X} {bytes other rest : List ℕ} {x : X} → bytes ≡ other → Decodes F m bytes x rest → Decodes F m other x rest
decodes_there {m = m} {F = F} {rest = rest} {x = x} e h = subst (λ z. Decodes F m z x rest) e h

-- The bytes from the offset on, as a range index selects them.
pub from_offset : (bytes : List ℕ) (offset : ℕ) → take (length bytes - offset) (drop offset bytes) ≡ drop offset bytes
from_offset bytes offset = take_all (length bytes - offset) (drop offset bytes) (omega (arith, length-drop offset bytes))

-- The suffix after a value begins at the offset that follows from the suffix's length.
pub follows : {m : Mode} {X : Type 0} (F : Format X) (bytes rest : List ℕ) (offset : ℕ) (x : X) → offset ≤ length bytes → Decodes F m (drop offset bytes) x rest → drop (length bytes - length rest) bytes ≡ rest
follows F bytes rest offset x l h =
    let long : length (drop offset bytes) ≡ length h.front + length rest = ap length h.split ∙ length-append h.front rest in
    let at : length bytes - length rest ≡ offset + length h.front = omega (arith, l, long, length-drop offset bytes) in
    ap (λ n. drop n bytes) at ∙ sym (drop-drop (length h.front) offset bytes) ∙ ap (drop (length h.front)) h.split ∙ drop_at h.front rest (length h.front) refl

pub step_decodes : {m : Mode} (bytes rest : List ℕ) (offset : ℕ) (i : Plain) → offset ≤ length bytes → Decodes (instruction table) m (drop offset bytes) i rest → Decodes (instruction table) m (drop offset bytes) i (drop (length bytes - length rest) bytes)
step_decodes {m = m} bytes rest offset i l h = subst (λ z. Decodes (instruction table) m (drop offset bytes) i z) (sym (follows (instruction table) bytes rest offset i l h)) h

-- A step advances the offset, since an instruction has at least one byte.
pub step_further : {m : Mode} (bytes rest : List ℕ) (offset : ℕ) (i : Plain) → offset ≤ length bytes → Decodes (instruction table) m (drop offset bytes) i rest → offset < length bytes - length rest
step_further {m = m} bytes rest offset i l h =
    let b = any_begins m h.front i h.encodes in
    omega (arith, l, length-drop offset bytes, ap length h.split, length-append h.front rest, ap length b.2)

pub some_ahead : (bytes : List ℕ) (offset : ℕ) → offset ≤ length bytes → offset ≢ length bytes → drop offset bytes ≢ []
some_ahead bytes offset l p e = p (omega (arith, l, length-drop offset bytes, ap length e))

pub runs_read : {m : Mode} (bytes rest : List ℕ) (runs : List (ℕ × ValType)) → Decodes (vec (pair u32 val_type)) m bytes (map (λ r. (r.0, r.1)) runs) rest → Decodes (vec (pair u32 val_type)) m bytes runs (drop (length bytes - length rest) bytes)
runs_read {m = m} bytes rest runs h =
    let same = subst (λ z. Decodes (vec (pair u32 val_type)) m bytes z rest) (map-id runs) h in
    subst (λ z. Decodes (vec (pair u32 val_type)) m bytes runs z) (sym (follows (vec (pair u32 val_type)) bytes rest 0 runs (omega arith) same)) same

pub ruleset body_steps = (runs_read, body_no_runs)

-- ---- what a step returns

-- The opcode and the operands in other bytes, which are equal.
pub follow_there : {m : Mode} {bytes other rest last : List ℕ} {op : Op} {given : Operands} → bytes ≡ other → rest ≡ last → FollowOpcode m bytes op given rest → FollowOpcode m other op given last
follow_there {m = m} {other = other} {rest = rest} {op = op} {given = given} e f h = subst (λ z. FollowOpcode m other op given z) f (subst (λ z. FollowOpcode m z op given rest) e h)

-- `?` returns the error.
pub failure_stays : {T X : Type 0} {F : Format X} {m : Mode} {before after : Walking} (r : Result T Failure) (f : Failure) → IsErrAnd r (λ y. y ≡ f) → GivesFailure F m before f after → IfErr r (λ e. GivesFailure F m before e after)
failure_stays (Ok x) f h p = elim h [ ]
failure_stays {F = F} {m = m} {before = before} {after = after} (Err e) f h p = subst (λ z. GivesFailure F m before z after) (sym h) p

pub next_fails : (m : Mode) (before after : Walking) (r : Result (Option Decoded) Failure) (f : Failure) → IsErrAnd r (λ y. y ≡ f) → GivesFailure (instruction table) m before f after → ahead before ≢ [] → NextInstruction m before r after
next_fails m before after (Ok x) f h p some = elim h [ ]
next_fails m before after (Err e) f h p some = (subst (λ z. GivesFailure (instruction table) m before z after) (sym h) p, some)

pub before_end_fails : (m : Mode) (before after : Walking) (r : Result (Option Decoded) Failure) (f : Failure) → IsErrAnd r (λ y. y ≡ f) → GivesFailure expression m before f after → NextBeforeEnd m before r after
before_end_fails m before after (Ok x) f h p = elim h [ ]
before_end_fails m before after (Err e) f h p = subst (λ z. GivesFailure expression m before z after) (sym h) p

-- ---- the instruction `end`

same_plain : Plain → Plain
same_plain i = i

pub end_fails : {m : Mode} (bytes tail : List ℕ) (b : ℕ) → bytes ≡ b ∷ tail → b ≢ 0x0B → Rejects (instruction table) m bytes → Rejects expression m bytes
end_fails bytes tail b e other n =
    let F = such IsNoEnd (instruction table) in
    ended_fail 0x0B F same_plain bytes b bytes tail [] (ended_start 0x0B F same_plain bytes) e other (such_none IsNoEnd n)

pub end_ended : {m : Mode} (bytes : List ℕ) → bytes ≡ [] → Rejects expression m bytes
end_ended bytes e =
    let F = such IsNoEnd (instruction table) in
    ended_short 0x0B F same_plain bytes (begins_such (λ b. Unit {0}) IsNoEnd any_begins) bytes [] (ended_start 0x0B F same_plain bytes) e
