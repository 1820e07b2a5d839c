-- One more added point.
use Rattle.std.proofs.Common.{◌≡◌, ℕ, ◌-◌, ◌<◌, ◌≤◌, ◌≢◌, Bool, ◌||◌, ◌&&◌, List, [], ◌∷◌, ◌++◌, length, get_or, set, ⊎_elim, refl, sym, ap, ◌∙◌, arith}
use Rattle.std.specs.Prelude.{nat_le, nat_eq}
use Rattle.std.proofs.Math.Bool.{or-false, or_assoc}
use Rattle.std.proofs.lemmas.Bool.{cases_eq, eq-eqb, ne_eqb}
use Rattle.std.proofs.lemmas.List.{get_or-set_same, get_or-set_other, length-set}
use Rattle.std.proofs.lemmas.List.Elements.{All-set, All-push, All-weaker}
use Rattle.std.proofs.lemmas.List.Sorted.{IsNonDecreasingBy-push}
use Rattle.fp_timenodes.specs.declared.places.Place.{Place}
use Rattle.fp_timenodes.specs.declared.places.AddedPoint.{AddedPoint}
use Rattle.fp_timenodes.specs.declared.timelines.Stamp.{Stamp}
use Rattle.fp_base_lists.specs.Membership.{list_has}
use Rattle.fp_timenodes.specs.Points.{IsAddedPoint, times_at, added_at, points_at, greatest_round}
use Rattle.fp_timenodes.specs.Stamps.{AreUpTo, IncludesPoint, points_of}
use Rattle.fp_timenodes.specs.Timelines.{Show}
use Rattle.fp_base_lists.proofs.Truth.{or_right_comm}
use Rattle.fp_base_lists.proofs.Membership.{list_has-filter_push, list_has-append}
use Rattle.fp_timenodes.proofs.TimelinePoints.{seen_as}
use Rattle.fp_timenodes.proofs.Rounds.{greatest_round_bound, greatest_round_push}

-- the points of a terminal as of a round, by their kinds
by-kinds : (first : List Place) (added : List AddedPoint) (timelines : List (List Stamp)) (t r q : ℕ) →
    list_has (points_at (seen_as first added timelines) t r) q ≡ (list_has (times_at first t) q || (list_has (added_at added t r) q || list_has (0 ∷ []) q))
by-kinds first added timelines t r q =
    list_has-append (times_at first t) (added_at added t r ++ 0 ∷ []) q ∙ ap (λ (b : Bool). list_has (times_at first t) q || b) (list_has-append (added_at added t r) (0 ∷ []) q)

-- the timelines with the new point show it among the added ones
pub Show-one_added : (first : List Place) (added : List AddedPoint) (timelines : List (List Stamp)) (p : AddedPoint) (stamps : List Stamp) →
    Show (seen_as first added timelines) timelines → IsAddedPoint (length timelines) p → greatest_round added ≤ p.round →
    IncludesPoint (get_or timelines p.terminal []) stamps p.at p.round → AreUpTo p.round stamps →
    Show (seen_as first (added ++ p ∷ []) (set timelines p.terminal stamps)) (set timelines p.terminal stamps)
Show-one_added first added timelines p stamps shows valid order includes up = record {
  valid = record {
    first = rw long shows.valid.first;
    added = rw long (All-push (IsAddedPoint (length timelines)) added p shows.valid.added valid);
    rounds = IsNonDecreasingBy-push (λ (q : AddedPoint). q.round) added p shows.valid.rounds
        (λ d some. omega (arith, greatest_round_bound added d (length added - 1) (omega arith)));
  };
  points = λ t r h q.
      grown t r (rw (sym long) h) q ∙
      or_assoc (list_has (times_at first t) q) (list_has (added_at added t r) q || list_has (0 ∷ []) q) ((nat_eq p.terminal t && nat_le p.round r) && nat_eq p.at q) ∙
      ap (λ (b : Bool). list_has (times_at first t) q || b)
      (or_right_comm (list_has (added_at added t r) q) (list_has (0 ∷ []) q) ((nat_eq p.terminal t && nat_le p.round r) && nat_eq p.at q) ∙
      ap (λ (b : Bool). b || list_has (0 ∷ []) q)
      (sym (list_has-filter_push (λ (s : AddedPoint). nat_eq s.terminal t && nat_le s.round r) (λ (s : AddedPoint). s.at) added p q))) ∙
      sym (by-kinds first (added ++ p ∷ []) (set timelines p.terminal stamps) t r q);
  rounds = All-set (AreUpTo (greatest_round (added ++ p ∷ []))) timelines p.terminal stamps (later p.round stamps up (omega (arith, greatest_round_push added p)))
      (All-weaker (AreUpTo (greatest_round added)) (AreUpTo (greatest_round (added ++ p ∷ []))) (λ l h. later (greatest_round added) l h (omega (arith, greatest_round_push added p))) timelines shows.rounds);
}
  where
    long : length (set timelines p.terminal stamps) ≡ length timelines
    long = length-set timelines p.terminal stamps

    later : (n : ℕ) (l : List Stamp) → AreUpTo n l → n ≤ greatest_round (added ++ p ∷ []) → AreUpTo (greatest_round (added ++ p ∷ [])) l
    later n l h le k d within = omega (arith, h k d within)

    before : (t r q : ℕ) → t < length timelines →
        list_has (points_of (get_or timelines t []) r) q ≡ (list_has (times_at first t) q || (list_has (added_at added t r) q || list_has (0 ∷ []) q))
    before t r q h = shows.points t r h q ∙ by-kinds first added timelines t r q

    grown : (t r : ℕ) → t < length timelines → (q : ℕ) →
        list_has (points_of (get_or (set timelines p.terminal stamps) t []) r) q ≡
        ((list_has (times_at first t) q || (list_has (added_at added t r) q || list_has (0 ∷ []) q)) || ((nat_eq p.terminal t && nat_le p.round r) && nat_eq p.at q))
    grown t r h q =
        ⊎_elim
        (λ (same : p.terminal ≡ t).
        let is : get_or (set timelines p.terminal stamps) t [] ≡ stamps = ap (λ (n : ℕ). get_or (set timelines p.terminal stamps) n []) (sym same) ∙ get_or-set_same timelines p.terminal stamps [] valid.0 in
        let at-old = ap (λ (n : ℕ). list_has (points_of (get_or timelines n []) r) q) same ∙ before t r q h in
        ap (λ (l : List Stamp). list_has (points_of l r) q) is ∙ includes r q ∙ ap (λ (b : Bool). b || (nat_le p.round r && nat_eq p.at q)) at-old ∙ rw (eq-eqb p.terminal t same) refl)
        (λ (other : p.terminal ≢ t).
        let apart : t ≢ p.terminal = λ e. other (sym e) in
        ap (λ (l : List Stamp). list_has (points_of l r) q) (get_or-set_other timelines p.terminal t stamps [] apart) ∙ before t r q h ∙
        rw (ne_eqb p.terminal t other) (sym (or-false (list_has (times_at first t) q || (list_has (added_at added t r) q || list_has (0 ∷ []) q)))))
        (cases_eq p.terminal t)
