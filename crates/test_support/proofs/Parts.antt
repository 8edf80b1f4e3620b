-- This file proves that a `&` to a `Refusing` is one to its allocator and one to its gate. It
-- assumes `Logic`.
use Rattle.std.proofs.Common.{ℕ, ◌+◌, [], ◌∷◌}
use Rattle.std.proofs.alloc.Calls.{Al, α, seen}
use seplogic.Ra.Ura.{Ura}
use base.Logic.{ent, sep, id⊢}
use base.Fml.{Lft, Fml}
use prog.Memory.{size, align, up}
use types.Logic.{Logic, sem}
use types.Kit.{‵, ◌$◌, ◌∵◌, !, qed, move, keep, use1, join, fsplit, done}
use denote.RattleType.{RattleType}
use denote.Memory.{hidden_shr}
use denote.Opens.{unhide}
use denote.Param.{param}
use Rattle.test_support.specs.contracts.memory.Gate as gate
use Rattle.test_support.specs.contracts.memory.Refusing as refusing

module _ (B : Al) where
  abbrev pub Whole : RattleType
  Whole = refusing.the_row (param 0 B.row)

  -- The locations of the allocator and of the gate in a `Refusing` at this location.
  abbrev pub inner_at : ℕ × ℕ → ℕ × ℕ
  inner_at at = (at.0, at.1 + up (align (α B)) 0)

  abbrev pub gate_at : ℕ × ℕ → ℕ × ℕ
  gate_at at = (at.0, at.1 + up 8 (up (align (α B)) 0 + size (α B)))

-- A `&` to a gate.
abbrev pub gate_seen : Lft → ℕ × ℕ → gate.the_row.Denot → Fml
gate_seen κ at x = hidden_shr gate.the_row κ x at.0 at.1

pub parts : {M : Type 1} {𝓤 : Ura M} (𝓛 : Logic 𝓤) (B : Al) (κ : Lft) (at : ℕ × ℕ) (x : (Whole B).Denot)
    → ent 𝓤 (sem 𝓛 (hidden_shr (Whole B) κ x at.0 at.1)) (sep 𝓤 (sem 𝓛 (seen B κ (inner_at B at) x.inner)) (sem 𝓛 (gate_seen κ (gate_at B at) x.gate)))
parts {𝓤 = 𝓤} 𝓛 B κ at x =
    qed 𝓛 (‵ (hidden_shr (Whole B) κ x at.0 at.1) ∷ []) ∵ unhide ! $ fsplit ! $ fsplit ! $
    use1 𝓛 (‵ (seen B κ (inner_at B at) x.inner)) (id⊢ 𝓤 _) $ move ! (1 ∷ []) $ fsplit ! $ keep ! (2 ∷ 0 ∷ []) $ join ! $ done !
