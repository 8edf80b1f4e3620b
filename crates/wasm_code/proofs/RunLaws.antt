-- This file proves that a list of types has one canonical list of runs.
use Rattle.wasm_base.proofs.Words.{◌≡◌, ◌≢◌, ℕ, zero, suc, ◌+◌, ◌-◌, ◌<◌, ◌≤◌, ◌⊎◌, List, [], ◌∷◌, ◌++◌, refl, sym, ap, ap₂, subst, ◌∙◌, arith, inl, inr, Ok, Err, Option, Result, length, replicate}
use Rattle.wasm_base.proofs.Words.{append_assoc, append-nil, cases_lt, append_cancel_left, replicate_more, Count, Drains, size, same_pair, All-last}
use Rattle.std.specs.declared.vec.Vec.{Vec}
use Rattle.wasm_base.specs.declared.refused.Refused.{Refused}
use Rattle.wasm_base.specs.declared.types.ValType.{ValType}
use Rattle.wasm_base.specs.declared.refused.Refused.TheVariants.{TooLong}
use Rattle.wasm_code.specs.{Run, expand, IsRuns, IsCounted, AreEncodableRuns, AreRunsOf, MoreRuns, IsFull, HasLocals, GathersRuns, BeginsWithRuns, BeginsWithTypes, HaveOneExpansion}

count_low : (p : Run) (xs : List Run) → IsRuns (p ∷ xs) → 1 ≤ p.0
count_low p [] h = h
count_low p (q ∷ xs) h = h.0

runs_tail : (p : Run) (xs : List Run) → IsRuns (p ∷ xs) → IsRuns xs
runs_tail p [] h = tt
runs_tail p (q ∷ xs) h = h.2

begins : (n : ℕ) (t : ValType) (rest : List ValType) → 1 ≤ n → replicate n t ++ rest ≡ t ∷ (replicate (n - 1) t ++ rest)
begins zero t rest h = absurd (omega arith)
begins (suc k) t rest h = ap (λ z. t ∷ (replicate z t ++ rest)) (omega arith)

-- The types after a run do not begin with its type.
clash : (p : Run) (xs : List Run) (d : ℕ) (rest : List ValType) → IsRuns (p ∷ xs) → 1 ≤ d → expand xs ≡ replicate d p.1 ++ rest → ⊥
clash p [] d rest h l e = let same : [] ≡ p.1 ∷ (replicate (d - 1) p.1 ++ rest) = e ∙ begins d p.1 rest l in absurd (cc same)
clash p (q ∷ xs) d rest h l e =
    let same : q.1 ∷ (replicate (q.0 - 1) q.1 ++ expand xs) ≡ p.1 ∷ (replicate (d - 1) p.1 ++ rest) = sym (begins q.0 q.1 (expand xs) (count_low q xs h.2)) ∙ e ∙ begins d p.1 rest l in
    let type : p.1 ≡ q.1 = cc same in
    h.1 type

longer : (n m : ℕ) (t : ValType) (a b : List ValType) → n < m → replicate n t ++ a ≡ replicate m t ++ b → a ≡ replicate (m - n) t ++ b
longer zero m t a b l e = e ∙ ap (λ z. replicate z t ++ b) (omega arith)
longer (suc k) zero t a b l e = absurd (omega arith)
longer (suc k) (suc j) t a b l e = longer k j t a b (omega arith) (cc e) ∙ ap (λ z. replicate z t ++ b) (omega arith)

same_count : (p q : Run) (xs ys : List Run) → IsRuns (p ∷ xs) → IsRuns (q ∷ ys) → p.1 ≡ q.1 → expand (p ∷ xs) ≡ expand (q ∷ ys) → p.0 < q.0 → ⊥
same_count p q xs ys h g t e l =
    let joined : replicate p.0 p.1 ++ expand xs ≡ replicate q.0 p.1 ++ expand ys = subst (λ z. replicate p.0 p.1 ++ expand xs ≡ replicate q.0 z ++ expand ys) (sym t) e in
    clash p xs (q.0 - p.0) (expand ys) h (omega (arith, l)) (longer p.0 q.0 p.1 (expand xs) (expand ys) l joined)

pub unambiguous : (xs ys : List Run) → IsRuns xs → IsRuns ys → expand xs ≡ expand ys → xs ≡ ys
unambiguous [] [] h g e = refl
unambiguous [] (q ∷ ys) h g e = let same : [] ≡ q.1 ∷ (replicate (q.0 - 1) q.1 ++ expand ys) = e ∙ begins q.0 q.1 (expand ys) (count_low q ys g) in absurd (cc same)
unambiguous (p ∷ xs) [] h g e = let same : [] ≡ p.1 ∷ (replicate (p.0 - 1) p.1 ++ expand xs) = sym e ∙ begins p.0 p.1 (expand xs) (count_low p xs h) in absurd (cc same)
unambiguous (p ∷ xs) (q ∷ ys) h g e =
    let heads : p.1 ∷ (replicate (p.0 - 1) p.1 ++ expand xs) ≡ q.1 ∷ (replicate (q.0 - 1) q.1 ++ expand ys) = sym (begins p.0 p.1 (expand xs) (count_low p xs h)) ∙ e ∙ begins q.0 q.1 (expand ys) (count_low q ys g) in
    let type : p.1 ≡ q.1 = cc heads in
    let count : p.0 ≡ q.0 = go type (cases_lt p.0 q.0) (cases_lt q.0 p.0) in
    let tails : expand xs ≡ expand ys = append_cancel_left (replicate p.0 p.1) (expand xs) (expand ys) (e ∙ ap₂ (λ n t. replicate n t ++ expand ys) (sym count) (sym type)) in
    ap₂ ◌∷◌ (same_pair p q count type) (unambiguous xs ys (runs_tail p xs h) (runs_tail q ys g) tails)
  where
    go : p.1 ≡ q.1 → (p.0 < q.0) ⊎ (q.0 ≤ p.0) → (q.0 < p.0) ⊎ (p.0 ≤ q.0) → p.0 ≡ q.0
    go t (inl l) m = absurd (same_count p q xs ys h g t e l)
    go t (inr l) (inl m) = absurd (same_count q p ys xs g h (sym t) (sym e) m)
    go t (inr l) (inr m) = omega (arith, l, m)

pub one_expansion : (xs ys : List Run) → HaveOneExpansion xs ys
one_expansion xs ys = record { same = unambiguous xs ys }

-- ---- one more local

expand_join : (xs ys : List Run) → expand (xs ++ ys) ≡ expand xs ++ expand ys
expand_join [] ys = refl
expand_join (p ∷ xs) ys = ap (λ z. replicate p.0 p.1 ++ z) (expand_join xs ys) ∙ sym (append_assoc (replicate p.0 p.1) (expand xs) (expand ys))

counted : (rest : List Run) (n m : ℕ) (t : ValType) → 1 ≤ m → IsRuns (rest ++ (n, t) ∷ []) → IsRuns (rest ++ (m, t) ∷ [])
counted [] n m t l h = l
counted (p ∷ []) n m t l h = (h.0, h.1, l)
counted (p ∷ q ∷ rest) n m t l h = (h.0, h.1, counted (q ∷ rest) n m t l h.2)

followed : (rest : List Run) (n : ℕ) (t u : ValType) → (t ≡ u → ⊥) → IsRuns (rest ++ (n, t) ∷ []) → IsRuns ((rest ++ (n, t) ∷ []) ++ (1, u) ∷ [])
followed [] n t u other h = (h, other, omega arith)
followed (p ∷ []) n t u other h = (h.0, h.1, (h.2, other, omega arith))
followed (p ∷ q ∷ rest) n t u other h = (h.0, h.1, followed (q ∷ rest) n t u other h.2)

expand_last : (rest : List Run) (n : ℕ) (t : ValType) → expand (rest ++ (n, t) ∷ []) ≡ expand rest ++ replicate n t
expand_last rest n t = expand_join rest ((n, t) ∷ []) ∙ ap (λ z. expand rest ++ z) (append-nil (replicate n t))

-- The count of the last run grows by one.
pub longer_run : (rest : List Run) (n m : ℕ) (t : ValType) (old new : List Run) → old ≡ rest ++ (n, t) ∷ [] → m ≡ n + 1 → new ≡ rest ++ (m, t) ∷ [] → MoreRuns t old new
longer_run rest n m t old new before more after = record {
  runs = λ h. subst IsRuns (sym after) (counted rest n m t (omega (arith, more)) (subst IsRuns before h));
  expanded =
      ap expand after ∙ expand_last rest m t ∙ ap (λ k. expand rest ++ replicate k t) more ∙ ap (λ z. expand rest ++ z) (sym (replicate_more n t)) ∙ sym (append_assoc (expand rest) (replicate n t) (t ∷ []))
      ∙ ap (λ z. z ++ t ∷ []) (sym (ap expand before ∙ expand_last rest n t));
}

one_more_run : (old new : List Run) (t : ValType) → new ≡ old ++ (1, t) ∷ [] → expand new ≡ expand old ++ t ∷ []
one_more_run old new t e = ap expand e ∙ expand_join old ((1, t) ∷ [])

-- A new run, after one of another type.
pub next_run : (rest : List Run) (n : ℕ) (t u : ValType) (old new : List Run) → old ≡ rest ++ (n, t) ∷ [] → (t ≡ u → ⊥) → new ≡ (rest ++ (n, t) ∷ []) ++ (1, u) ∷ [] → MoreRuns u old new
next_run rest n t u old new before other after = record {
  runs = λ h. subst IsRuns (sym after) (followed rest n t u other (subst IsRuns before h));
  expanded = one_more_run old new u (after ∙ ap (λ z. z ++ (1, u) ∷ []) (sym before));
}

-- The first run.
pub first_run : (u : ValType) (old new : List Run) → old ≡ [] → new ≡ old ++ (1, u) ∷ [] → MoreRuns u old new
first_run u old new before after = record {
  runs = λ h. subst IsRuns (sym (after ∙ ap (λ z. z ++ (1, u) ∷ []) before)) (omega arith);
  expanded = one_more_run old new u after;
}

-- ---- all locals

pub are_runs_of : (types : List ValType) (runs : List Run) → IsRuns runs → expand runs ≡ types → AreRunsOf types runs
are_runs_of types runs are e = record { are_runs = are; expanded = e; only = λ others h g. unambiguous others runs h are (g ∙ sym e) }

-- If the last run is full, no runs of the types and one more of its type fit.
overfull : (t : ValType) (old : List Run) (types : List ValType) → IsRuns old → expand old ≡ types → ((runs : List Run) → AreRunsOf (types ++ t ∷ []) runs → AreEncodableRuns runs) → IsFull t old → ⊥
overfull t old types are e encodable full =
    let new : List Run = full.others ++ (full.count + 1, t) ∷ [] in
    let more = longer_run full.others full.count (full.count + 1) t old new full.last refl refl in
    let all = encodable new (are_runs_of (types ++ t ∷ []) new (more.runs are) (more.expanded ∙ ap (λ z. z ++ t ∷ []) e)) in
    omega (arith, full.full, All-last IsCounted full.others (full.count + 1, t) all.counts)

-- If the runs of all types fit, a call that adds a local never returns `TooLong`.
pub not_full : (result : Result (Unit {0}) Refused) (t : ValType) (old : List Run) (types : List ValType) → IsRuns old → expand old ≡ types → ((runs : List Run) → AreRunsOf (types ++ t ∷ []) runs → AreEncodableRuns runs)
    → (result ≡ Err TooLong → IsFull t old) → result ≢ Err TooLong
not_full result t old types are e encodable full is = overfull t old types are e encodable (full is)

-- ---- calls

-- A call that passes the runs of its types to `new` encodes these runs.
pub types_given : {U S V W A : Type 0} (becomes : U → S → Type 0) (gives : S → Option ValType → S → Type 0) (vec_becomes : V → W → Type 0) (vec_gives : W → Option Run → W → Type 0) (remaining : W → Count)
    (elements : U) (given : V) (runs : Vec Run A) (result : Result (List ℕ) Refused)
    → ((it : W) (xs : List Run) → vec_becomes given it → Drains vec_gives it xs → xs ≡ runs.items) → ((it : W) → vec_becomes given it → size (remaining it) ≡ length runs.items)
    → GathersRuns becomes gives elements (Ok runs) → BeginsWithRuns vec_becomes vec_gives remaining given result → BeginsWithTypes becomes gives elements result
types_given becomes gives vec_becomes vec_gives remaining elements given runs (Err e) items in_limit h g =
    let all = h.ok in
    let left = all.3.1 in
    record {
      ok = tt;
      too_long = λ encodable.
          let fit = encodable all.0 left.0 all.1 runs.items all.2 left.1 all.4 in
          g.too_long (λ it b. omega (arith, in_limit it b, fit.count));
    }
types_given becomes gives vec_becomes vec_gives remaining elements given runs (Ok bytes) items in_limit h g =
    let all = h.ok in
    let begun = g.ok in
    let same : begun.1 ≡ runs.items = items begun.0 begun.1 begun.2 begun.3 in
    record {
      ok = (
        all.0,
        all.1,
        all.2,
        all.3,
        runs.items,
        all.4,
        record { count = omega (arith, begun.4, ap length same); counts = all.5 },
        subst (λ rs. HasLocals rs bytes) same begun.5,
      );
      too_long = λ encodable is. absurd (cc is);
    }
