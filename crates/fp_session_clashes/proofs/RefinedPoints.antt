-- A round's places become points one by one, of the network too.
use Rattle.std.proofs.Common.{◌≡◌, ◌≢◌, ℕ, ◌+◌, ◌<◌, ◌≤◌, Bool, false, ◌||◌, ◌&&◌, List, [], ◌∷◌, ◌++◌, length, get_or, take, refl, sym, ap, ap₂, ◌∙◌, subst, arith, append_assoc, eqb-true}
use Rattle.std.specs.Prelude.{◌==◌, nat_le}
use Rattle.std.proofs.lemmas.Bool.{and_parts, false_from_ne_true}
use Rattle.std.proofs.lemmas.List.{get_or_default, map-append, take_more}
use Rattle.fp_base_lists.specs.Distinct.{AreDistinct}
use Rattle.fp_base_lists.specs.Membership.{list_has}
use Rattle.fp_model.specs.Problem.{Problem}
use Rattle.fp_timenodes.specs.declared.places.AddedPoint.{AddedPoint}
use Rattle.fp_timenodes.specs.declared.places.Place.{Place}
use Rattle.fp_timenodes.specs.Points.{TimePoints, greatest_round, with_added}
use Rattle.fp_timenodes.proofs.Rounds.{list_has-with_added}
use Rattle.fp_longestarcs.specs.Changes.{refined, restored}
use Rattle.fp_longestarcs.specs.Networks.{TimedNetwork, points_in}
use Rattle.fp_longestarcs.specs.Whole.{IsNetworkOf}
use Rattle.fp_longestarcs.proofs.NetworkRounds.{IsNetworkOf-with_added}
use Rattle.fp_longestarcs.proofs.NewPoints.{lengthened-whole}
use Rattle.fp_session_history.specs.Notes.{points_added}
use Rattle.fp_session_clashes.specs.Refining.{CanAdd}

-- a place as a point of a round
abbrev pub point_of : ℕ → Place → AddedPoint
point_of round q = record { terminal = q.terminal; at = q.at; round = round }

-- the points with one more place of a round
pub with_added_more : (v : TimePoints) (round : ℕ) (places : List Place) (i : ℕ) (d : Place) → i < length places →
    with_added (with_added v (points_added round (take i places))) (point_of round (get_or places i d) ∷ []) ≡ with_added v (points_added round (take (i + 1) places))
with_added_more v round places i d lt =
    ap (λ (qs : List AddedPoint). let w : TimePoints = record v { added = qs } in w)
    (append_assoc v.added (points_added round (take i places)) (point_of round (get_or places i d) ∷ [])
    ∙ ap (λ (qs : List AddedPoint). v.added ++ qs) (sym (map-append (point_of round) (take i places) (get_or places i d ∷ [])) ∙ ap (points_added round) (sym (take_more places i d lt))))

-- the greatest round stays at most this one
pub greatest_round-with_added : (v : TimePoints) (round : ℕ) (places : List Place) → greatest_round v.added ≤ round → greatest_round (v.added ++ points_added round places) ≤ round
greatest_round-with_added v round places le = from v.added places le
  where
    from : (added : List AddedPoint) (qs : List Place) → greatest_round added ≤ round → greatest_round (added ++ points_added round qs) ≤ round
    from [] [] most = omega arith
    from [] (q ∷ qs) most = omega (arith, from [] qs most)
    from (p ∷ added) qs most = omega (arith, most, from added qs (omega (arith, most)))

module _ (p : Problem) (v : TimePoints) (round : ℕ) (q : Place) (can : CanAdd p v round q) where
  -- a place that can be added is no point of the network
  pub not-in_network : (net : TimedNetwork) → IsNetworkOf p v round net → list_has (points_in net q.terminal) q.at ≡ false
  not-in_network net is = is.points q.terminal can.terminal q.at ∙ can.new

  -- the network with it
  pub IsNetworkOf-more : (net : TimedNetwork) → IsNetworkOf p v round net → IsNetworkOf p (with_added v (point_of round q ∷ [])) round (restored p (refined p net q.terminal q.at) q.terminal q.at)
  IsNetworkOf-more net is =
      IsNetworkOf-with_added p v (point_of round q) round net (restored p (refined p net q.terminal q.at) q.terminal q.at) (omega arith) can.terminal is
      (lengthened-whole p net q.terminal q.at is.whole (omega (arith, can.terminal, is.whole.arcs.terminals)) (not-in_network net is) can.time) refl

  -- another place can still be added
  pub CanAdd-more : (r : Place) → q ≢ r → CanAdd p v round r → CanAdd p (with_added v (point_of round q ∷ [])) round r
  CanAdd-more r differs other = record {
    terminal = other.terminal;
    time = other.time;
    new = list_has-with_added v (point_of round q) r.terminal round r.at
        ∙ ap₂ (λ (a b : Bool). a || b) other.new
        (false_from_ne_true ((q.terminal == r.terminal && nat_le round round) && q.at == r.at)
        (λ same.
        let parts = and_parts (q.terminal == r.terminal && nat_le round round) (q.at == r.at) same in
        let terminal = eqb-true q.terminal r.terminal (and_parts (q.terminal == r.terminal) (nat_le round round) parts.0).0 in
        differs (ap₂ (λ (t a : ℕ). let place : Place = record { terminal = t; at = a } in place) terminal (eqb-true q.at r.at parts.1))));
  }

-- places can be added after one of them was, where they are distinct
pub CanAdd-later : (p : Problem) (v : TimePoints) (round : ℕ) (places : List Place) (i : ℕ) → AreDistinct places → i < length places →
    ((k : ℕ) (d : Place) → i ≤ k → k < length places → CanAdd p v round (get_or places k d)) → (q : Place) → q ≡ get_or places i q →
    (k : ℕ) (d : Place) → i + 1 ≤ k → k < length places → CanAdd p (with_added v (point_of round q ∷ [])) round (get_or places k d)
CanAdd-later p v round places i distinct lt can q is k d le less =
    CanAdd-more p v round q (subst (CanAdd p v round) (sym is) (can i q (omega arith) lt)) (get_or places k d)
    (λ same. distinct i k d (omega (arith, le)) less (get_or_default places i d q lt ∙ sym is ∙ same)) (can k d (omega (arith, le)) less)
