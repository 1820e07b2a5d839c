-- Points listed in ascending order, each as the next one after the last.
use Rattle.std.proofs.Common.{◌≡◌, ℕ, zero, suc, ◌<◌, ◌≤◌, Bool, true, ◌||◌, List, [], ◌∷◌, ◌++◌, length, get_or, ⊎_elim, refl, sym, ap, ◌∙◌, subst, arith}
use Rattle.std.specs.Prelude.{nat_eq, All, Some, None}
use Rattle.std.specs.List.{AllPairs}
use Rattle.std.proofs.lemmas.Bool.{cases_lt, cases_eq, eq-eqb, ne_eqb, false_from_ne_true, or_right, or_left}
use Rattle.std.proofs.lemmas.List.{length_push, get_or_push, get_or_append_left}
use Rattle.std.proofs.lemmas.List.Folds.{list_any-append}
use Rattle.std.proofs.Math.Bool.{or-false}
use Rattle.fp_timenodes.specs.declared.places.TheConstants.{LATEST}
use Rattle.fp_timenodes.specs.Floor.{IsNextPoint, HaveSamePoints}
use Rattle.fp_base_lists.specs.Membership.{list_has}
use Rattle.fp_longestarcs.specs.Ascending.{ArePoints}
use Rattle.fp_base_lists.proofs.Membership.{list_has-get_or, StandsAt-from_list_has}

-- the times are the points up to the last one
pub record AreUntil (qs times : List ℕ) (last : ℕ) : Type 0 where
  pub are : ArePoints times
  pub until : (q : ℕ) → list_has times q ≡ true → q ≤ last
  pub same : (q : ℕ) → q ≤ last → list_has times q ≡ list_has qs q

-- 0 alone
pub AreUntil-zero : (qs : List ℕ) → list_has qs 0 ≡ true → AreUntil qs (0 ∷ []) 0
AreUntil-zero qs start = record {
  are = record { ascending = λ i j d less h. absurd (omega arith); zero = refl; in_time = early };
  until = λ q there. let w = StandsAt-from_list_has (0 ∷ []) q there in omega (arith, first w.place (omega (arith, w.within)), w.is 0);
  same = λ q le. let e : q ≡ 0 = omega arith in subst (λ (n : ℕ). list_has (0 ∷ []) n ≡ list_has qs n) (sym e) (sym start);
}
  where
    first : (k : ℕ) → k < 1 → get_or {A = ℕ} (0 ∷ []) k 0 ≡ 0
    first zero h = refl
    first (suc k) h = absurd (omega arith)

    early : All {X = ℕ} (λ q. q ≤ LATEST) (0 ∷ [])
    early zero d h = omega arith
    early (suc k) d h = absurd (omega arith)

-- what a pushed time adds
has-push : (times : List ℕ) (next q : ℕ) → list_has (times ++ next ∷ []) q ≡ (list_has times q || nat_eq next q)
has-push times next q = list_any-append (λ r. nat_eq r q) times (next ∷ []) ∙ ap (λ (b : Bool). list_has times q || b) (or-false (nat_eq next q))

-- and the next one
pub AreUntil-push : (qs times : List ℕ) (last next : ℕ) → AreUntil qs times last → IsNextPoint qs last (Some next) → next ≤ LATEST → AreUntil qs (times ++ next ∷ []) next
AreUntil-push qs times last next old is in_time = record {
  are = record {
    ascending = up;
    zero = has-push times next 0 ∙ or_left (list_has times 0) (nat_eq next 0) old.are.zero;
    in_time = early;
  };
  until = λ q there.
      let w = StandsAt-from_list_has (times ++ next ∷ []) q there in
      ⊎_elim
      (λ (less : w.place < length times). omega (arith, before w.place 0 less, w.is 0, is.1))
      (λ (more : length times ≤ w.place). omega (arith, at-end w.place 0 (omega (arith, w.within, length_push times next)), w.is 0))
      (cases_lt w.place (length times));
  same = λ q le. has-push times next q ∙ with q le;
}
  where
    before : (k d : ℕ) → k < length times → get_or (times ++ next ∷ []) k d ≤ last
    before k d h = omega (arith, get_or_append_left times (next ∷ []) d k h, old.until (get_or times k d) (list_has-get_or times k d h))

    at-end : (k d : ℕ) → k ≡ length times → get_or (times ++ next ∷ []) k d ≡ next
    at-end k d e = get_or_push times next d k (sym e)

    up : AllPairs (λ a b. a < b) (times ++ next ∷ [])
    up i j d less h =
        let first : i < length times = omega (arith, length_push times next) in
        ⊎_elim
        (λ (second : j < length times). omega (arith, get_or_append_left times (next ∷ []) d i first, get_or_append_left times (next ∷ []) d j second, old.are.ascending i j d less second))
        (λ (end : length times ≤ j). omega (arith, before i d first, at-end j d (omega (arith, length_push times next)), is.1))
        (cases_lt j (length times))

    early : All (λ q. q ≤ LATEST) (times ++ next ∷ [])
    early k d h =
        ⊎_elim
        (λ (first : k < length times). omega (arith, get_or_append_left times (next ∷ []) d k first, old.are.in_time k d first))
        (λ (end : length times ≤ k). omega (arith, at-end k d (omega (arith, length_push times next))))
        (cases_lt k (length times))

    with : (q : ℕ) → q ≤ next → (list_has times q || nat_eq next q) ≡ list_has qs q
    with q le =
        ⊎_elim
        (λ (same : next ≡ q). or_right (list_has times q) (nat_eq next q) (eq-eqb next q same) ∙ sym (subst (λ (n : ℕ). list_has qs n ≡ true) same is.0))
        (λ (other : next ≡ q → ⊥).
        ap (λ (b : Bool). list_has times q || b) (ne_eqb next q other) ∙ or-false (list_has times q) ∙
        ⊎_elim
        (λ (late : last < q).
        false_from_ne_true (list_has times q) (λ there. absurd (omega (arith, old.until q there))) ∙
        sym (false_from_ne_true (list_has qs q) (λ there. absurd (omega (arith, is.2 q there late)))))
        (λ (early_one : q ≤ last). old.same q early_one)
        (cases_lt last q))
        (cases_eq next q)

-- where no point follows, all are listed
pub HaveSamePoints-listed : (qs times : List ℕ) (last : ℕ) → AreUntil qs times last → IsNextPoint qs last None → HaveSamePoints times qs
HaveSamePoints-listed qs times last old none q =
    ⊎_elim
    (λ (late : last < q).
    false_from_ne_true (list_has times q) (λ there. absurd (omega (arith, old.until q there))) ∙
    sym (false_from_ne_true (list_has qs q) (λ there. absurd (omega (arith, none q there)))))
    (λ (early : q ≤ last). old.same q early)
    (cases_lt last q)
