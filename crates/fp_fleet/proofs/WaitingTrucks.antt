-- Trucks that wait at the end of a line when one of them runs another, or one begins.
use Rattle.std.proofs.Common.{◌≡◌, ℕ, zero, suc, List, [], ◌∷◌, ◌++◌, length, get_or, set, refl, sym, ap, ◌∙◌, arith, get_or-set_other, get_or-set_same, length-set}
use Rattle.std.specs.Prelude.{◌≢◌, All, AllPairs}
use Rattle.std.proofs.Math.ListN.{get_or-append}
use Rattle.std.proofs.lemmas.List.{get_or_push, length-append}
use Rattle.std.proofs.lemmas.List.Elements.{All-push, All-tail}
use Rattle.std.proofs.lemmas.List.Quantifiers.{all_pairs_push}
use Rattle.fp_fleet.specs.declared.days.Run.{Run}
use Rattle.fp_fleet.specs.Queues.{EndsWith, day_at}
use Rattle.fp_fleet.specs.TruckDays.{last_line}
use Rattle.fp_fleet.proofs.RunLists.{last_line-push}

-- a truck waits on where another one's day changes
EndsWith-kept : (days : List (List Run)) (k l i : ℕ) (day : List Run) → EndsWith days l i → i ≢ k → EndsWith (set days k day) l i
EndsWith-kept days k l i day ends apart = record {
  exists = omega (arith, ends.exists, length-set days k day);
  last = ap last_line (get_or-set_other days k i day [] apart) ∙ ends.last;
}

-- those of a line that is not the one that the truck leaves
pub wait-others : (days : List (List Run)) (k l m : ℕ) (day : List Run) (waiting : List ℕ) → m ≢ l → EndsWith days l k →
    All (EndsWith days m) waiting → All (EndsWith (set days k day) m) waiting
wait-others days k l m day waiting apart ends all = λ i d lt.
    let here : EndsWith days m (get_or waiting i d) = all i d lt in
    EndsWith-kept days k m (get_or waiting i d) day here
    (λ e. apart (sym here.last ∙ ap (λ (j : ℕ). last_line (day_at days j)) e ∙ ends.last))

-- those behind the truck at the line that it leaves
pub wait-behind : (days : List (List Run)) (k l : ℕ) (day : List Run) (waiting : List ℕ) → All (EndsWith days l) (k ∷ waiting) → AllPairs (λ i j. i ≢ j) (k ∷ waiting) →
    All (EndsWith (set days k day) l) waiting
wait-behind days k l day waiting all once = λ i d lt.
    EndsWith-kept days k l (get_or waiting i d) day (All-tail (EndsWith days l) k waiting all i d lt)
    (λ e. once zero (suc i) d (omega arith) (omega (arith, lt)) (sym e))

pub once-behind : (k : ℕ) (waiting : List ℕ) → AllPairs (λ i j. i ≢ j) (k ∷ waiting) → AllPairs (λ i j. i ≢ j) waiting
once-behind k waiting once = λ i j d less lt. once (suc i) (suc j) d (omega (arith, less)) (omega (arith, lt))

-- the truck itself, behind those that wait at the line that it runs next
pub wait-joined : (days : List (List Run)) (k l m : ℕ) (r : Run) (waiting : List ℕ) → m ≢ l → r.line ≡ m → EndsWith days l k → All (EndsWith days m) waiting →
    All (EndsWith (set days k (day_at days k ++ r ∷ [])) m) (waiting ++ k ∷ [])
wait-joined days k l m r waiting apart is ends all =
    let day : List Run = day_at days k ++ r ∷ [] in
    All-push (EndsWith (set days k day) m) waiting k (wait-others days k l m day waiting apart ends all) (record {
      exists = omega (arith, ends.exists, length-set days k day);
      last = ap last_line (get_or-set_same days k day [] ends.exists) ∙ last_line-push (day_at days k) r ∙ is;
    })

pub once-joined : (days : List (List Run)) (k l m : ℕ) (waiting : List ℕ) → m ≢ l → EndsWith days l k → All (EndsWith days m) waiting →
    AllPairs (λ i j. i ≢ j) waiting → AllPairs (λ i j. i ≢ j) (waiting ++ k ∷ [])
once-joined days k l m waiting apart ends all once =
    all_pairs_push (λ i j. i ≢ j) waiting k once
    (λ i d lt e. apart (sym (all i d lt).last ∙ ap (λ (j : ℕ). last_line (day_at days j)) e ∙ ends.last))

-- all that wait, when one more truck begins
pub wait-before : (days : List (List Run)) (m : ℕ) (day : List Run) (waiting : List ℕ) → All (EndsWith days m) waiting → All (EndsWith (days ++ day ∷ []) m) waiting
wait-before days m day waiting all = λ i d lt.
    let here : EndsWith days m (get_or waiting i d) = all i d lt in
    record {
      exists = omega (arith, here.exists, length-append days (day ∷ []));
      last = ap last_line (get_or-append days (day ∷ []) [] (get_or waiting i d) here.exists) ∙ here.last;
    }

-- and the truck itself behind them
pub wait-begun : (days : List (List Run)) (m : ℕ) (r : Run) (waiting : List ℕ) → r.line ≡ m → All (EndsWith days m) waiting →
    All (EndsWith (days ++ (r ∷ []) ∷ []) m) (waiting ++ length days ∷ [])
wait-begun days m r waiting is all =
    let long : length ((r ∷ []) ∷ []) ≡ 1 = refl in
    All-push (EndsWith (days ++ (r ∷ []) ∷ []) m) waiting (length days) (wait-before days m (r ∷ []) waiting all) (record {
      exists = omega (arith, length-append days ((r ∷ []) ∷ []), long);
      last = ap last_line (get_or_push days (r ∷ []) [] (length days) refl) ∙ is;
    })

pub once-begun : (days : List (List Run)) (m : ℕ) (waiting : List ℕ) → All (EndsWith days m) waiting → AllPairs (λ i j. i ≢ j) waiting →
    AllPairs (λ i j. i ≢ j) (waiting ++ length days ∷ [])
once-begun days m waiting all once =
    all_pairs_push (λ i j. i ≢ j) waiting (length days) once (λ i d lt e. omega (arith, (all i d lt).exists, e))
