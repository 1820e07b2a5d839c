-- The timelines at the start.
use Rattle.std.proofs.Common.{◌≡◌, ℕ, ◌+◌, ◌<◌, ◌≢◌, Bool, true, false, ◌||◌, ◌&&◌, List, [], ◌∷◌, length, get_or, set, take, All, ⊎_elim, refl, sym, ap, ◌∙◌, arith}
use Rattle.std.specs.Prelude.{nat_le, nat_eq}
use Rattle.std.specs.List.{list_any}
use Rattle.std.specs.List.Sorted.{IsPermutation}
use Rattle.std.proofs.Math.Bool.{or-false}
use Rattle.std.proofs.lemmas.Bool.{cases_Bool, cases_eq, eq-eqb, ne_eqb, le-leb}
use Rattle.std.proofs.lemmas.List.{take_more, get_or-set_same, get_or-set_other, length-set}
use Rattle.std.proofs.lemmas.List.Elements.{All-set}
use Rattle.std.proofs.lemmas.List.Sorted.{list_any-IsPermutation}
use Rattle.fp_timenodes.specs.declared.places.Place.{Place}
use Rattle.fp_timenodes.specs.declared.timelines.Stamp.{Stamp}
use Rattle.fp_base_lists.specs.Membership.{list_has}
use Rattle.fp_timenodes.specs.Points.{IsPlace, times_at}
use Rattle.fp_timenodes.specs.Stamps.{AreUpTo, IncludesPoint, points_of}
use Rattle.fp_timenodes.specs.Timelines.{Show, StartAt}
use Rattle.fp_base_lists.proofs.Truth.{or_right_comm}
use Rattle.fp_base_lists.proofs.Membership.{list_has-filter_push, list_has-append}
use Rattle.fp_timenodes.proofs.TimelinePoints.{seen_as}

-- one more place
times-more : (places : List Place) (k terminal at : ℕ) (d : Place) → k < length places →
    list_has (times_at (take (k + 1) places) terminal) at ≡ (list_has (times_at (take k places) terminal) at || (nat_eq (get_or places k d).terminal terminal && nat_eq (get_or places k d).at at))
times-more places k terminal at d h =
    ap (λ (l : List Place). list_has (times_at l terminal) at) (take_more places k d h) ∙
    list_has-filter_push (λ (p : Place). nat_eq p.terminal terminal) (λ (p : Place). p.at) (take k places) (get_or places k d) at

-- and its timeline includes it
pub StartAt-one_more : (terminals : ℕ) (places : List Place) (k : ℕ) (d : Place) (timelines : List (List Stamp)) (stamps : List Stamp) → k < length places → (get_or places k d).terminal < terminals →
    StartAt terminals (take k places) timelines → IncludesPoint (get_or timelines (get_or places k d).terminal []) stamps (get_or places k d).at 0 → AreUpTo 0 stamps →
    StartAt terminals (take (k + 1) places) (set timelines (get_or places k d).terminal stamps)
StartAt-one_more terminals places k d timelines stamps h within old includes up = record {
  count = length-set timelines next.terminal stamps ∙ old.count;
  points = λ terminal round t at.
      grown terminal round t at ∙ or_right_comm (list_has (times_at (take k places) terminal) at) (list_has (0 ∷ []) at) (nat_eq next.terminal terminal && nat_eq next.at at) ∙
      ap (λ (b : Bool). b || list_has (0 ∷ []) at) (sym (times-more places k terminal at d h)) ∙ sym (list_has-append (times_at (take (k + 1) places) terminal) (0 ∷ []) at);
  rounds = All-set (AreUpTo 0) timelines next.terminal stamps up old.rounds;
}
  where
    next : Place
    next = get_or places k d

    before : (terminal round : ℕ) → terminal < terminals → (at : ℕ) →
        list_has (points_of (get_or timelines terminal []) round) at ≡ (list_has (times_at (take k places) terminal) at || list_has (0 ∷ []) at)
    before terminal round t at = old.points terminal round t at ∙ list_has-append (times_at (take k places) terminal) (0 ∷ []) at

    grown : (terminal round : ℕ) → terminal < terminals → (at : ℕ) →
        list_has (points_of (get_or (set timelines next.terminal stamps) terminal []) round) at ≡
        ((list_has (times_at (take k places) terminal) at || list_has (0 ∷ []) at) || (nat_eq next.terminal terminal && nat_eq next.at at))
    grown terminal round t at =
        ⊎_elim
        (λ (same : next.terminal ≡ terminal).
        let room : next.terminal < length timelines = omega (arith, old.count, within) in
        let is : get_or (set timelines next.terminal stamps) terminal [] ≡ stamps = ap (λ (n : ℕ). get_or (set timelines next.terminal stamps) n []) (sym same) ∙ get_or-set_same timelines next.terminal stamps [] room in
        let at-old = ap (λ (n : ℕ). list_has (points_of (get_or timelines n []) round) at) same ∙ before terminal round t at in
        ap (λ (l : List Stamp). list_has (points_of l round) at) is ∙ includes round at ∙ ap (λ (b : Bool). b || (nat_le 0 round && nat_eq next.at at)) at-old ∙
        rw (le-leb 0 round (omega arith), eq-eqb next.terminal terminal same) refl)
        (λ (other : next.terminal ≢ terminal).
        let apart : terminal ≢ next.terminal = λ e. other (sym e) in
        ap (λ (l : List Stamp). list_has (points_of l round) at) (get_or-set_other timelines next.terminal terminal stamps [] apart) ∙ before terminal round t at ∙
        rw (ne_eqb next.terminal terminal other) (sym (or-false (list_has (times_at (take k places) terminal) at || list_has (0 ∷ []) at))))
        (cases_eq next.terminal terminal)

-- the order of the places does not matter
times-permuted : (ps qs : List Place) (terminal at : ℕ) → IsPermutation ps qs → list_has (times_at ps terminal) at ≡ list_has (times_at qs terminal) at
times-permuted ps qs terminal at same = any ps ∙ list_any-IsPermutation here ps qs same ∙ sym (any qs)
  where
    here : Place → Bool
    here p = nat_eq p.terminal terminal && nat_eq p.at at

    any : (places : List Place) → list_has (times_at places terminal) at ≡ list_any here places
    any [] = refl
    any (p ∷ places) =
        ⊎_elim
        (λ (e : nat_eq p.terminal terminal ≡ true). rw e (ap (λ (b : Bool). nat_eq p.at at || b) (any places)))
        (λ (e : nat_eq p.terminal terminal ≡ false). rw e (any places))
        (cases_Bool (nat_eq p.terminal terminal))

-- they show the points of the start
pub Show-start : (first ascending : List Place) (terminals : ℕ) (timelines : List (List Stamp)) → IsPermutation first ascending → All (IsPlace terminals) first → StartAt terminals ascending timelines →
    Show (seen_as first [] timelines) timelines
Show-start first ascending terminals timelines same places start = record {
  valid = record {
    first = rw start.count places;
    added = λ k d h. absurd (omega arith);
    rounds = λ i j d le h. absurd (omega arith);
  };
  points = λ terminal round h at.
      start.points terminal round (rw (sym start.count) h) at ∙ list_has-append (times_at ascending terminal) (0 ∷ []) at ∙
      ap (λ (b : Bool). b || list_has (0 ∷ []) at) (sym (times-permuted first ascending terminal at same)) ∙ sym (list_has-append (times_at first terminal) (0 ∷ []) at);
  rounds = start.rounds;
}
