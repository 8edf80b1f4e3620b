-- This file proves `allocate`: a refused request returns an error, and any other one the result of
-- the inner allocator. It assumes `Logic`.
use Rattle.std.proofs.Common.{◌≡◌, ℕ, ◌^◌, ◌<◌, true, false, List, [], ◌∷◌, Ok, Err, refl, w64, Bor}
use Rattle.std.proofs.alloc.Calls.{Al, seen, token, got, Answer, answer_val, Answer-typed, Answer-Ok, Answer-err, takes_key, Takes, at_takes, Answered, Takes-goes, Takes-gives, answers}
use Rattle.std.proofs.alloc.Shapes.{after}
use Rattle.test_support.proofs.Parts.{Whole, inner_at, gate_at, gate_seen, parts}
use Rattle.test_support.proofs.Verdict.{Verdict, asked, asks, tells}
use Rattle.test_support.proofs.memory.RefusingAllocator.allocate.Statement.{statement}
use seplogic.Ra.Ura.{Ura}
use mathlib.Core.Bool.{Bool}
use mir.MapTy.{inst_fn}
use mir.Syntax.{Ty, Args, Fn, a_type, dnil, dcons}
use mir.Val.{Val, vbool, vint, vptr}
use base.Fml.{Lft, Share, ftrue, flft}
use base.Logic.{SProp, ent, sep}
use prog.Memory.{Memory, size, align, capped}
use prog.Routine.{Routine}
use prog.Wp.{WpFn, Tables}
use contract.BorrowLft.{◌⊑◌, ⊑_trans}
use contract.Monad.{Fun, fact}
use contract.Running.{tables, tables_of}
use sound.WpLaws.{fm_of, WpFn-mono}
use types.ByLocal.{env, alloc_all, pass_all, free_all, look_at, get, through, sets, lands_as}
use types.Kit.{‵, raw, ◌⊛◌, some, later, given, pick, at_ret, learn, ◌$◌, ◌∵◌, !, qed, move, keep, use0, use1, use2, split, join, fsplit, fjoin, suffices, await, done}
use types.Logic.{Logic, sem}
use types.Part.{agg}
use types.Run.{stop, fld, addr, lit, no_more, and_then, first, branches, skips, exec, returns, returns_within, enter}
use denote.Builtin.{usize, RefOf}
use denote.Exit.{yes}
use denote.Param.{bounded}
use denote.Plain.{uint_vals, uint_Tells}
use denote.RattleType.{owns}
use denote.RawPtr.{block_ptr}
use denote.Ref.{shr_vals}
use denote.Signature.{Slot, plain, types_at}
use denote.Steps.{heard, nothing}
use denote.Triple.Call.{calls_at}
use denote.Triple.Clauses.{Ended, Clauses}
use denote.Triple.Spec.{triple_of}
use denote.Triple.Statement.{Triple}
use denote.Triple.Table.{entered, cited}
use denote.Triple.Walked.{Stays, stay_dropped, walk_of, ends_at, walked, Goes-dropped, walk_Meets}
use Rattle.test_support.proofs.memory.Gate.refuses.Met as refuses_met
use Rattle.test_support.proofs.memory.Gate.refuses.Symbol as refuses
use Rattle.test_support.proofs.memory.RefusingAllocator.allocate.Code as code
use Rattle.test_support.specs.contracts.memory.RefusingAllocator.allocate as f

module _ (B : Al) where
  abbrev args : Args
  args = bounded (a_type ∷ []) (B.row, tt) (dcons B.d (dcons B.drops dnil))

  abbrev here : Fn
  here = inst_fn args code.function

  abbrev whole : Slot 2
  whole = RefOf (0 ∷ []) tt (plain (λ _. Whole B)) (λ _. tt)

  abbrev word : Slot 2
  word = plain (λ _. usize)

  abbrev ended : Ended
  ended = f.ended B.row B.g B.d B.drops

  abbrev stayed : Stays ended.signature.params ended.kept
  stayed = (stay_dropped whole yes, (stay_dropped word yes, (stay_dropped word yes, tt)))

module _ (B : Al) {M : Type 1} {𝓤 : Ura M} (𝓛 : Logic 𝓤) (mem : Memory → SProp 𝓤) (runs : Routine → Fun 𝓤) where
  open 𝓛 use {H, A}

  abbrev clauses : Clauses 𝓤 (ended B)
  clauses = f.clauses B.row B.g B.d B.drops 𝓛 mem runs

  module _ (κ ι : Lft) (q s : Share) (inside : κ ⊑ ι) (r : Bor (Whole B).Denot) (n a : ℕ) (τ : Ty) where
    abbrev bound : (walk_of 𝓛 (ended B) (stayed B) clauses).Ghost
    bound = (((κ, (ι, tt)), (q, (s, tt)), (inside, tt), (r, (n, (a, tt))), (shr_vals r, (vint w64 n ∷ [], (vint w64 a ∷ [], tt)))), τ)

    abbrev Post : Val → SProp 𝓤
    Post = (walk_of 𝓛 (ended B) (stayed B) clauses).post bound

    -- The contract holds with the block, if there is one, and the tokens of both lifetimes.
    meets : (ok : Bool) (b o : ℕ)
        → ent 𝓤 (sep 𝓤 (sem 𝓛 (got (token B r.now.inner) τ ok b o)) (sep 𝓤 (A.lft κ q) (sep 𝓤 (A.lft ι s) (sem 𝓛 ftrue)))) (Post (answer_val ok b o))
    meets true b o =
        qed 𝓛 (‵ (got (token B r.now.inner) τ true b o) ∷ ‵ (flft κ q) ∷ (‵ (flft ι s) ⊛ ‵ ftrue) ∷ []) ∵
        suffices ! _ (ends_at 𝓛 (ended B) (stayed B) clauses bound (answer_val true b o) (Ok (block_ptr b o)) (tt, (tt, (tt, tt))) (tt, (tt, (tt, tt)))) $
        use0 𝓛 (‵ (Answer.own_val (Ok (block_ptr b o)) (answer_val true b o ∷ []))) (Answer-Ok 𝓛 b o) $
        nothing ! $ nothing ! $ fjoin ! $ nothing ! $ fjoin ! $ nothing ! $ fjoin ! $ join ! $ move ! (2 ∷ 3 ∷ []) $ join ! $ join ! $ done !
    meets false b o =
        qed 𝓛 (‵ ftrue ∷ ‵ (flft κ q) ∷ (‵ (flft ι s) ⊛ ‵ ftrue) ∷ []) ∵
        suffices ! _ (ends_at 𝓛 (ended B) (stayed B) clauses bound (answer_val false b o) (Err (record {})) (tt, (tt, (tt, tt))) (tt, (tt, (tt, tt)))) $
        use0 𝓛 (‵ (Answer.own_val (Err (record {})) (answer_val false b o ∷ []))) (Answer-err 𝓛) $
        nothing ! $ nothing ! $ fjoin ! $ nothing ! $ fjoin ! $ nothing ! $ fjoin ! $ join ! $ move ! (2 ∷ 3 ∷ []) $ join ! $ join ! $ done !

module _ (B : Al) {M : Type 1} {𝓤 : Ura M} (𝓛 : Logic 𝓤) (mem : Memory → SProp 𝓤) (runs : Routine → Fun 𝓤) (𝓣 : Tables 𝓤 𝓛.H) where
  open 𝓛 use {H}

  module _ (inner : Triple 𝓤 (𝓣.C (takes_key B)) (Takes B 𝓛 mem runs)) (verdict : Triple 𝓤 (𝓣.C refuses.name) (Verdict 𝓛 mem runs))
      (κ ι : Lft) (q s : Share) (inside : κ ⊑ ι) (r : Bor (Whole B).Denot) (n a : ℕ) (τ : Ty) where
    abbrev vals : List Val
    vals = vptr r.ref_ptr.0 r.ref_ptr.1 ∷ vint w64 n ∷ vint w64 a ∷ []

    walk : n < 2 ^ 64 → a < 2 ^ 64
        → ent 𝓤 ((walk_of 𝓛 (ended B) (stayed B) (clauses B 𝓛 mem runs)).pre (bound B 𝓛 mem runs κ ι q s inside r n a τ))
        (WpFn 𝓤 H 𝓣.C 𝓣.Λ (here B) vals (Post B 𝓛 mem runs κ ι q s inside r n a τ))
    walk n_fits a_fits =
        let y = bound B 𝓛 mem runs κ ι q s inside r n a τ in
        let End : Val → SProp 𝓤 = Post B 𝓛 mem runs κ ι q s inside r n a τ in
        let Fits : Type 0 = (capped (size τ) ≡ n) × (capped (align τ) ≡ a) in
        let h : B.row.Denot = r.now.inner in
        let p : ℕ × ℕ = inner_at B r.ref_ptr in
        let g : ℕ × ℕ = gate_at B r.ref_ptr in
        let z : (Takes B 𝓛 mem runs).Ghost = at_takes B 𝓛 mem runs κ q p h n a τ in
        let frame = fm_of 𝓤 H 𝓛.laws 𝓣 in
        qed 𝓛 (((‵ (flft κ q) ⊛ ‵ (flft ι s) ⊛ ‵ ftrue) ⊛ ‵ (owns (types_at (ended B).signature.params y.0.0) y.0.3 y.0.4)) ∷ (raw (fact 𝓤 (ι ⊑ B.row.lives)) ⊛ raw (fact 𝓤 Fits)) ∷ []) ∵
        move ! (1 ∷ []) $ split ! $ heard ! (ι ⊑ B.row.lives) (λ lives. heard ! Fits (λ fits.
        -- [the inner allocator; the gate; the tokens of κ and ι]
        split ! $ split ! $ move ! (2 ∷ []) $ fsplit ! $ fsplit ! $ move ! (1 ∷ []) $
        use1 𝓛 (‵ (seen B κ p h) ⊛ ‵ (gate_seen κ g r.now.gate)) (parts 𝓛 B κ r.ref_ptr r.now) $ split ! $ keep ! (0 ∷ 1 ∷ 4 ∷ 5 ∷ []) $
        enter ! 𝓣.C 𝓣.Λ (here B) vals _ $ alloc_all ! (λ l. pass_all ! refl ((tt, tt), ((tt, record { fits = n_fits }), ((tt, record { fits = a_fits }), tt))) $
        -- The call asks the gate.
        sets ! (addr ! (through ! refl (fld ! refl (stop !)))) refl (tt, tt) $ move ! (1 ∷ 2 ∷ []) $
        use2 𝓛 (raw ((Verdict 𝓛 mem runs).pre (asked 𝓛 mem runs κ q g r.now.gate))) (asks 𝓛 mem runs κ q g r.now.gate) $
        calls_at ! frame (Verdict 𝓛 mem runs) verdict (asked 𝓛 mem runs κ q g r.now.gate) (and_then ! (get ! refl) (no_more !)) (λ v.
        use1 𝓛 (later (some (λ (refused : Bool). given (v ≡ vbool refused) (‵ (flft κ q))))) (tells 𝓛 mem runs κ q g r.now.gate v) $
        await ! tt $ pick ! (λ refused. learn ! (λ is. lands_as ! is refl (tt, tt) $ first ! $ branches ! (get ! refl)
        -- The gate refuses.
        (λ t. sets ! (agg ! (no_more !)) refl (tt, tt) $
        sets ! (agg ! (and_then ! (lit ! tt) (and_then ! (get ! refl) (no_more !)))) refl (Answer-typed false 0 0) $
        returns_within ! End refl (look_at ! 0 refl) $ free_all ! refl $ keep ! (0 ∷ 2 ∷ []) $ nothing ! $
        suffices ! _ (meets B 𝓛 mem runs κ ι q s inside r n a τ false 0 0) $ done !)
        -- The request is passed on.
        (λ t. skips ! $ exec ! 𝓣.C 𝓣.Λ (env (here B).locals l) (after 3 (here B).body) (at_ret (env (here B).locals l) End) $
        sets ! (addr ! (through ! refl (fld ! refl (stop !)))) refl (tt, tt) $ move ! (1 ∷ 0 ∷ []) $
        use2 𝓛 (raw ((Takes B 𝓛 mem runs).pre z)) (Takes-goes B 𝓛 mem runs κ q p h (⊑_trans κ ι B.row.lives inside lives) n a τ fits.0 fits.1 n_fits a_fits) $
        calls_at ! frame (Takes B 𝓛 mem runs) inner z (and_then ! (get ! refl) (and_then ! (get ! refl) (and_then ! (get ! refl) (no_more !)))) (λ v'.
        use1 𝓛 (later (raw (Answered B 𝓛 mem runs h τ v') ⊛ ‵ (flft κ q))) (Takes-gives B 𝓛 mem runs κ q p h n a τ v') $ await ! tt $ split ! $
        answers B ! mem runs h τ v'
        (λ b o is'. fjoin ! $ lands_as ! is' refl (Answer-typed true b o) $ returns ! (look_at ! 0 refl) $ free_all ! refl $
        suffices ! _ (meets B 𝓛 mem runs κ ι q s inside r n a τ true b o) $ done !)
        (λ is'. lands_as ! is' refl (Answer-typed false 0 0) $ returns ! (look_at ! 0 refl) $ free_all ! refl $ nothing ! $
        suffices ! _ (meets B 𝓛 mem runs κ ι q s inside r n a τ false 0 0) $ done !)))))))))

pub allocate_spec : {M : Type 1} → statement M
unfolding tables_of
allocate_spec 𝓤 𝓛 𝓜 𝓡 wired row laws ghosts dict drops met _ =
    let B : Al = record { row = row; laws = laws; g = ghosts; d = dict; drops = drops } in
    let 𝓣 : Tables 𝓤 𝓛.H = tables_of 𝓤 𝓛.H 𝓜 (tables 𝓤 𝓛.H 𝓜 𝓡 𝓡.env) in
    let c = clauses B 𝓛 𝓜.mem 𝓡.returns in
    let Walk = WpFn 𝓤 𝓛.H 𝓣.C 𝓣.Λ (here B) in
    let verdict = cited 𝓤 𝓛.H _ 𝓜 𝓡 𝓡.env refuses.name (𝓡.env refuses.name) refl (refuses_met.met 𝓤 𝓛 𝓜 𝓡 (code.calls-test_support::memory::Gate::refuses 𝓡.env wired)) in
    let whole_goes = Goes-dropped 𝓛 2 (whole B) yes (λ κs x last. refl) in
    let word_goes = Goes-dropped 𝓛 2 (word B) yes (λ κs x last. refl) in
    entered 𝓤 𝓛.H (triple_of 𝓛 (f.signature row) (f.spec row ghosts dict drops 𝓛 𝓜.mem 𝓡.returns)) 𝓣.C 𝓣.Λ (f.Key.name (args B)) (here B) (code.unfolded 𝓤 𝓛.H 𝓜 𝓡 wired (row, tt) dict drops)
    (walk_Meets 𝓛 (ended B) (stayed B) (whole_goes, (word_goes, (word_goes, tt))) c Walk (WpFn-mono 𝓤 𝓛.H 𝓛.laws 𝓣 (here B))
    (walked 𝓛 (ended B) (stayed B) c Walk (λ κs. (shr_vals, (uint_vals w64, (uint_vals w64, tt)))) (λ κs. ((λ r vals is. is.0), (uint_Tells w64, (uint_Tells w64, tt))))
    (λ κs qs inside x τ are. walk B 𝓛 𝓜.mem 𝓡.returns 𝓣 (met.allocate drops) verdict κs.0 κs.1.0 qs.0 qs.1.0 inside.0 x.0 x.1.0 x.1.1.0 τ are.1.0.1 are.1.1.0.1)))
