-- This file proves a call of `Gate::refuses`: it takes a `&` to the gate, and returns a `bool`. It
-- assumes `Logic`.
use Rattle.std.proofs.Common.{◌≡◌, ℕ, List, [], ◌∷◌, refl, ap}
use Rattle.test_support.proofs.Parts.{gate_seen}
use seplogic.Ra.Ura.{Ura}
use mathlib.Core.Bool.{Bool}
use mir.Val.{Val, vbool, vptr}
use base.Logic.{SProp, ent, sep, ex, guard, id⊢}
use base.Fml.{Lft, Share, ftrue, fsep, flft}
use prog.Memory.{Memory}
use prog.Routine.{Routine}
use types.Logic.{Logic, sem}
use types.Kit.{‵, raw, ◌⊛◌, some, later, ◌$◌, ◌∵◌, !, qed, move, keep, use1, split, join, pick, fjoin, feq_i, feq_l, check, show, await, updating, now as at_once, done}
use contract.Monad.{Fun}
use denote.Builtin.{bool}
use denote.Steps.{nothing, only}
use denote.Triple.Spec.{triple_of}
use denote.Triple.Statement.{Contract}
use Rattle.test_support.specs.contracts.memory.Gate as gate
use Rattle.test_support.specs.contracts.memory.Gate.refuses as refuses

module _ {M : Type 1} {𝓤 : Ura M} (𝓛 : Logic 𝓤) (mem : Memory → SProp 𝓤) (runs : Routine → Fun 𝓤) where
  abbrev pub Verdict : Contract 𝓤
  Verdict = triple_of 𝓛 refuses.signature (refuses.spec 𝓛 mem runs)

  module _ (κ : Lft) (q : Share) (at : ℕ × ℕ) (x : gate.the_row.Denot) where
    abbrev pub asked : Verdict.Ghost
    asked = (((κ, tt), (q, tt), tt, (record { ref_ptr = at; now = x }, tt), (vptr at.0 at.1 ∷ [], tt)), tt)

    -- The call takes the `&` and the token of its lifetime.
    pub asks : ent 𝓤 (sep 𝓤 (sem 𝓛 (gate_seen κ at x)) (sem 𝓛 (flft κ q))) (Verdict.pre asked)
    asks =
        qed 𝓛 (‵ (gate_seen κ at x) ∷ ‵ (flft κ q) ∷ []) ∵ feq_i ! (List Val) (vptr at.0 at.1 ∷ []) _ refl $ fjoin ! $
        nothing ! $ move ! (1 ∷ []) $ fjoin ! $ nothing ! $ move ! (2 ∷ []) $ join ! $ join ! $ nothing ! $ move ! (1 ∷ []) $ done !

    abbrev pub Told : Val → Bool → SProp 𝓤
    Told v refused = guard 𝓤 (v ≡ vbool refused) (sem 𝓛 (flft κ q))

    -- The call returns a `bool` and the token.
    pub tells : (v : Val) → ent 𝓤 (Verdict.post asked v) (𝓛.H.⇛ (ex 𝓤 (Told v)))
    tells v =
        qed 𝓛 (raw (Verdict.post asked v) ∷ []) ∵ updating ! $
        use1 𝓛 (later (some (λ (refused : Bool). ((‵ (flft κ q) ⊛ ‵ ftrue) ⊛ ‵ (bool.own_val refused (v ∷ []))) ⊛
        some (λ (last : Unit {0} × Unit {0}). ‵ (fsep ftrue ftrue) ⊛ ‵ ftrue)))) (id⊢ 𝓤 _) $
        await ! tt $ pick ! (λ refused. split ! $ split ! $ move ! (1 ∷ []) $
        feq_l ! (λ is. split ! $ at_once ! $ show ! (Told v) refused $ check ! (ap only is) $ keep ! (0 ∷ []) $ done !))
