-- This file proves `deallocate`: the block returns to the inner allocator, and nothing is counted.
-- It assumes `Logic`.
use Rattle.std.proofs.Common.{◌≡◌, ℕ, ◌^◌, ◌<◌, List, [], ◌∷◌, refl, w64, Bor}
use Rattle.std.proofs.alloc.Calls.{Al, seen, token, gives_key, Gives, at_gives, Gives-goes, Gives-Gives}
use Rattle.test_support.proofs.Parts.{Whole, inner_at, gate_at, gate_seen, parts}
use Rattle.test_support.proofs.memory.RefusingAllocator.deallocate.Statement.{statement}
use seplogic.Ra.Ura.{Ura}
use mir.MapTy.{inst_fn}
use mir.Syntax.{Ty, Args, Fn, a_type, dnil, dcons}
use mir.Val.{Val, vunit, vint, vptr}
use base.Fml.{Lft, Share, ftrue, ffalse, fsep, froom, flft}
use base.Logic.{SProp, ent, sep, never_e}
use prog.Memory.{Memory, size, align, capped}
use prog.Routine.{Routine}
use prog.Wp.{WpFn, Tables}
use contract.BorrowLft.{◌⊑◌, ⊑_trans}
use contract.Monad.{Fun, fact}
use contract.Running.{tables, tables_of}
use sound.WpLaws.{fm_of, WpFn-mono}
use types.ByLocal.{alloc_all, pass_all, free_all, look_at, get, through, sets, lands_as}
use types.Kit.{‵, raw, ◌⊛◌, later, given, ◌$◌, ◌∵◌, !, qed, by, move, keep, use1, split, split3, join, learn, fsplit, fjoin, feq_i, suffices, await, done}
use types.Logic.{Logic, sem}
use types.Run.{stop, fld, addr, no_more, and_then, of_opd, unit_lit, returns, enter}
use denote.Builtin.{usize, RawPtr, RefOf}
use denote.Exit.{yes}
use denote.Param.{bounded}
use denote.Plain.{uint_vals, uint_Tells}
use denote.RattleType.{owns}
use denote.RawPtr.{Ptr, block_ptr, null_ptr, ptr_val, rawptr_vals, rawptr_Tells}
use denote.Ref.{shr_vals}
use denote.Signature.{Slot, plain, types_at}
use denote.Steps.{heard, nothing}
use denote.Triple.Call.{calls_at}
use denote.Triple.Clauses.{Ended, Clauses}
use denote.Triple.Spec.{triple_of}
use denote.Triple.Statement.{Triple}
use denote.Triple.Table.{entered}
use denote.Triple.Walked.{Stays, stay_dropped, walk_of, ends_at, walked, Goes-dropped, walk_Meets}
use Rattle.test_support.proofs.memory.RefusingAllocator.deallocate.Code as code
use Rattle.test_support.specs.contracts.memory.RefusingAllocator.deallocate as f

module _ (B : Al) where
  abbrev args : Args
  args = bounded (a_type ∷ []) (B.row, tt) (dcons B.d (dcons B.drops dnil))

  abbrev here : Fn
  here = inst_fn args code.function

  abbrev whole : Slot 2
  whole = RefOf (0 ∷ []) tt (plain (λ _. Whole B)) (λ _. tt)

  abbrev pointer : Slot 2
  pointer = plain (λ _. RawPtr)

  abbrev word : Slot 2
  word = plain (λ _. usize)

  abbrev ended : Ended
  ended = f.ended B.row B.g B.d B.drops

  abbrev stayed : Stays ended.signature.params ended.kept
  stayed = (stay_dropped whole yes, (stay_dropped pointer yes, (stay_dropped word yes, (stay_dropped word yes, tt))))

module _ (B : Al) {M : Type 1} {𝓤 : Ura M} (𝓛 : Logic 𝓤) (mem : Memory → SProp 𝓤) (runs : Routine → Fun 𝓤) where
  open 𝓛 use {H, A}

  abbrev clauses : Clauses 𝓤 (ended B)
  clauses = f.clauses B.row B.g B.d B.drops 𝓛 mem runs

  module _ (κ ι : Lft) (q s : Share) (inside : κ ⊑ ι) (r : Bor (Whole B).Denot) (n a : ℕ) (τ : Ty) where
    abbrev bound : Ptr → (walk_of 𝓛 (ended B) (stayed B) clauses).Ghost
    bound x = (((κ, (ι, tt)), (q, (s, tt)), (inside, tt), (r, (x, (n, (a, tt)))), (shr_vals r, (rawptr_vals x, (vint w64 n ∷ [], (vint w64 a ∷ [], tt))))), τ)

    abbrev Post : Ptr → Val → SProp 𝓤
    Post x = (walk_of 𝓛 (ended B) (stayed B) clauses).post (bound x)

    -- The contract holds with the tokens of both lifetimes.
    meets : (x : Ptr) → ent 𝓤 (sep 𝓤 (A.lft κ q) (sep 𝓤 (A.lft ι s) (sem 𝓛 ftrue))) (Post x vunit)
    meets x =
        qed 𝓛 (‵ (flft κ q) ∷ (‵ (flft ι s) ⊛ ‵ ftrue) ∷ []) ∵
        suffices ! _ (ends_at 𝓛 (ended B) (stayed B) clauses (bound x) vunit tt (tt, (tt, (tt, (tt, tt)))) (tt, (tt, (tt, (tt, tt))))) $
        nothing ! $ feq_i ! (List Val) (vunit ∷ []) (vunit ∷ []) refl $ nothing ! $ nothing ! $
        fjoin ! $ nothing ! $ fjoin ! $ nothing ! $ fjoin ! $ nothing ! $ fjoin ! $ join ! $ move ! (2 ∷ 3 ∷ []) $ join ! $ join ! $ done !

module _ (B : Al) {M : Type 1} {𝓤 : Ura M} (𝓛 : Logic 𝓤) (mem : Memory → SProp 𝓤) (runs : Routine → Fun 𝓤) (𝓣 : Tables 𝓤 𝓛.H) where
  open 𝓛 use {H}

  module _ (inner : Triple 𝓤 (𝓣.C (gives_key B)) (Gives B 𝓛 mem runs))
      (κ ι : Lft) (q s : Share) (inside : κ ⊑ ι) (r : Bor (Whole B).Denot) (n a : ℕ) (τ : Ty) where
    abbrev vals : Ptr → List Val
    vals x = vptr r.ref_ptr.0 r.ref_ptr.1 ∷ ptr_val x ∷ vint w64 n ∷ vint w64 a ∷ []

    abbrev Fits : Type 0
    Fits = (capped (size τ) ≡ n) × (capped (align τ) ≡ a)

    abbrev Goal : Ptr → Type 1
    Goal x = ent 𝓤 ((walk_of 𝓛 (ended B) (stayed B) (clauses B 𝓛 mem runs)).pre (bound B 𝓛 mem runs κ ι q s inside r n a τ x))
        (WpFn 𝓤 H 𝓣.C 𝓣.Λ (here B) (vals x) (Post B 𝓛 mem runs κ ι q s inside r n a τ x))

    abbrev started : Ptr → (walk_of 𝓛 (ended B) (stayed B) (clauses B 𝓛 mem runs)).Ghost
    started = bound B 𝓛 mem runs κ ι q s inside r n a τ

    -- There is no block at null.
    at_null : Goal null_ptr
    at_null =
        let y = started null_ptr in
        qed 𝓛 (((‵ (flft κ q) ⊛ ‵ (flft ι s) ⊛ ‵ ftrue) ⊛ ‵ (owns (types_at (ended B).signature.params y.0.0) y.0.3 y.0.4)) ∷
        (raw (fact 𝓤 (ι ⊑ B.row.lives)) ⊛ raw (fact 𝓤 Fits) ⊛ ‵ (fsep ffalse (token B r.now.inner τ null_ptr))) ∷ []) ∵
        move ! (1 ∷ []) $ split3 ! $ move ! (2 ∷ []) $ fsplit ! $ keep ! (0 ∷ []) $ by ! (never_e 𝓤 _)

    at_block : n < 2 ^ 64 → a < 2 ^ 64 → (b o : ℕ) → Goal (block_ptr b o)
    at_block n_fits a_fits b o =
        let x : Ptr = block_ptr b o in
        let y = started x in
        let h : B.row.Denot = r.now.inner in
        let p : ℕ × ℕ = inner_at B r.ref_ptr in
        let z : (Gives B 𝓛 mem runs).Ghost = at_gives B 𝓛 mem runs κ q p h b o n a τ in
        qed 𝓛 (((‵ (flft κ q) ⊛ ‵ (flft ι s) ⊛ ‵ ftrue) ⊛ ‵ (owns (types_at (ended B).signature.params y.0.0) y.0.3 y.0.4)) ∷
        (raw (fact 𝓤 (ι ⊑ B.row.lives)) ⊛ raw (fact 𝓤 Fits) ⊛ ‵ (fsep (froom τ b o) (token B h τ x))) ∷ []) ∵
        move ! (1 ∷ []) $ split3 ! $ heard ! (ι ⊑ B.row.lives) (λ lives. heard ! Fits (λ fits.
        fsplit ! $ move ! (2 ∷ []) $ split ! $ split ! $ move ! (2 ∷ []) $ fsplit ! $ fsplit ! $ move ! (1 ∷ []) $
        use1 𝓛 (‵ (seen B κ p h) ⊛ ‵ (gate_seen κ (gate_at B r.ref_ptr) r.now.gate)) (parts 𝓛 B κ r.ref_ptr r.now) $ split ! $
        -- [the arguments of the call: the bytes of the block, the right to free it, the inner
        -- allocator, the token of κ; the token of ι]
        keep ! (0 ∷ 4 ∷ 7 ∷ 6 ∷ 5 ∷ []) $ join ! $ move ! (1 ∷ 0 ∷ []) $ join ! $ move ! (1 ∷ 0 ∷ []) $ join ! $
        enter ! 𝓣.C 𝓣.Λ (here B) (vals x) _ $ alloc_all ! (λ l. pass_all ! refl ((tt, tt), ((tt, tt), ((tt, record { fits = n_fits }), ((tt, record { fits = a_fits }), tt)))) $
        sets ! (addr ! (through ! refl (fld ! refl (stop !)))) refl (tt, tt) $
        use1 𝓛 (raw ((Gives B 𝓛 mem runs).pre z)) (Gives-goes B 𝓛 mem runs κ q p h (⊑_trans κ ι B.row.lives inside lives) b o n a τ fits.0 fits.1 n_fits a_fits) $
        calls_at ! (fm_of 𝓤 H 𝓛.laws 𝓣) (Gives B 𝓛 mem runs) inner z
        (and_then ! (get ! refl) (and_then ! (get ! refl) (and_then ! (get ! refl) (and_then ! (get ! refl) (no_more !))))) (λ v.
        use1 𝓛 (later (given (v ≡ vunit) (‵ (flft κ q)))) (Gives-Gives B 𝓛 mem runs κ q p h b o n a τ v) $ await ! tt $
        learn ! (λ is. lands_as ! is refl (tt, tt) $ sets ! (of_opd ! (unit_lit !)) refl (tt, tt) $ returns ! (look_at ! 0 refl) $ free_all ! refl $
        suffices ! _ (meets B 𝓛 mem runs κ ι q s inside r n a τ x) $ done !)))))

    walk : n < 2 ^ 64 → a < 2 ^ 64 → (x : Ptr) → Goal x
    walk n_fits a_fits null_ptr = at_null
    walk n_fits a_fits (block_ptr b o) = at_block n_fits a_fits b o

pub deallocate_spec : {M : Type 1} → statement M
unfolding tables_of
deallocate_spec 𝓤 𝓛 𝓜 𝓡 wired row laws ghosts dict drops met _ =
    let B : Al = record { row = row; laws = laws; g = ghosts; d = dict; drops = drops } in
    let 𝓣 : Tables 𝓤 𝓛.H = tables_of 𝓤 𝓛.H 𝓜 (tables 𝓤 𝓛.H 𝓜 𝓡 𝓡.env) in
    let c = clauses B 𝓛 𝓜.mem 𝓡.returns in
    let Walk = WpFn 𝓤 𝓛.H 𝓣.C 𝓣.Λ (here B) in
    let whole_goes = Goes-dropped 𝓛 2 (whole B) yes (λ κs x last. refl) in
    let pointer_goes = Goes-dropped 𝓛 2 (pointer B) yes (λ κs x last. refl) in
    let word_goes = Goes-dropped 𝓛 2 (word B) yes (λ κs x last. refl) in
    entered 𝓤 𝓛.H (triple_of 𝓛 (f.signature row) (f.spec row ghosts dict drops 𝓛 𝓜.mem 𝓡.returns)) 𝓣.C 𝓣.Λ (f.Key.name (args B)) (here B) (code.unfolded 𝓤 𝓛.H 𝓜 𝓡 wired (row, tt) dict drops)
    (walk_Meets 𝓛 (ended B) (stayed B) (whole_goes, (pointer_goes, (word_goes, (word_goes, tt)))) c Walk (WpFn-mono 𝓤 𝓛.H 𝓛.laws 𝓣 (here B))
    (walked 𝓛 (ended B) (stayed B) c Walk (λ κs. (shr_vals, (rawptr_vals, (uint_vals w64, (uint_vals w64, tt))))) (λ κs. ((λ r vals is. is.0), (rawptr_Tells, (uint_Tells w64, (uint_Tells w64, tt)))))
    (λ κs qs inside x τ are. walk B 𝓛 𝓜.mem 𝓡.returns 𝓣 (met.deallocate drops) κs.0 κs.1.0 qs.0 qs.1.0 inside.0 x.0 x.1.1.0 x.1.1.1.0 τ are.1.1.0.1 are.1.1.1.0.1 x.1.0)))
