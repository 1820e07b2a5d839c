-- One more round is earned by a relaxed plan that calls for it.
use Rattle.std.proofs.Common.{◌≡◌, ℕ, ◌+◌, ◌≤◌, inl, inr, Bool, true, false, List, length, refl, sym, ap, ◌∙◌, subst, arith}
use Rattle.std.specs.Prelude.{All, ◌⊎◌, Option, None, Some, is_some}
use Rattle.std.proofs.lemmas.Bool.{false≢true, or_left}
use Rattle.std.proofs.lemmas.List.Elements.{All-contains, All-weaker}
use Rattle.fp_base_lists.specs.Distinct.{AreDistinct}
use Rattle.fp_base_lists.specs.Membership.{list_has}
use Rattle.fp_base_lists.proofs.Membership.{list_has-append}
use Rattle.fp_model.specs.declared.parts.Leg.{Leg}
use Rattle.fp_model.specs.Problem.{Problem}
use Rattle.fp_timenodes.specs.declared.places.Place.{Place}
use Rattle.fp_timenodes.specs.Points.{added_at, greatest_round}
use Rattle.fp_timenodes.proofs.Rounds.{points_at_from_greatest}
use Rattle.fp_flatnet.specs.Initial.{initial_points}
use Rattle.fp_flatnet.specs.Tables.{windows_in}
use Rattle.fp_longestarcs.specs.Networks.{points_in}
use Rattle.fp_longestarcs.specs.Whole.{IsNetworkOf}
use Rattle.fp_longestarcs.proofs.NetworkRounds.{IsNetworkOf_from_greatest}
use Rattle.fp_allowed.specs.InitialPoints.{HasInitialPoints}
use Rattle.fp_allowed.specs.SamePoints.{AgreeOnPoints}
use Rattle.fp_allowed.proofs.InitialPoints.{HasInitialPoints_same}
use Rattle.fp_allowed.proofs.SamePoints.{AgreeOnPoints_sym}
use Rattle.fp_certificate_rules.specs.declared.limits.TheConstants.{MOST_IN_ROUND}
use Rattle.fp_relaxmodel.specs.Relaxed.{IsRelaxedPlan}
use Rattle.fp_relaxmodel.proofs.PlansCoarsen.{HasRoutes-relaxed}
use Rattle.fp_relaxmodel.proofs.RelaxedWalks.{IsRelaxedPlan_same}
use Rattle.fp_duals_leaves.specs.Prices.{PriceLists}
use Rattle.fp_shortarcs.specs.declared.shorts.Short.{Short}
use Rattle.fp_shortarcs.specs.TooShort.{AreTooShort, CanBePoint, IsShort}
use Rattle.fp_shortarcs.proofs.SamePoints.{AreTooShort_same}
use Rattle.fp_session_history.specs.Clashes.{ClashesBelow, IsShortPlace}
use Rattle.fp_session_history.specs.Notes.{Refinement, added_of, last_round}
use Rattle.fp_session_history.specs.Traces.{IsEarnedRound, IsPlaceInTime, IsRoundPlace}
use Rattle.fp_session_history.proofs.HistoryPoints.{AgreeOnPoints-history, greatest_round-history, horizon-in_time}
use Rattle.fp_session.specs.declared.searches.Search.{Search}
use Rattle.fp_session.specs.Moves.{points_now}
use Rattle.fp_session_clashes.specs.Places.{ArePlacesFound, ArePlacesOf, IsFreePlace, IsPlaceAmong}
use Rattle.fp_session_clashes.specs.Refining.{CanAdd}
use Rattle.fp_session.specs.Searches.{IsSearch, history}

-- a round may add a point at a place of a too short leg
short-place : (p : Problem) (unit : Option ℕ) (points : ℕ → List ℕ) (walks : List (List Leg)) (q : Place) → IsShortPlace p points walks q → IsRoundPlace p unit points walks q
short-place p None points walks q place = place
short-place p (Some unit) points walks q place = inl place

-- and, in a search with a unit, at any in time
in_time-place : (p : Problem) (unit : Option ℕ) (points : ℕ → List ℕ) (walks : List (List Leg)) (q : Place) → is_some unit ≡ true → IsPlaceInTime p q → IsRoundPlace p unit points walks q
in_time-place p None points walks q has place = absurd (false≢true has)
in_time-place p (Some unit) points walks q has place = inr place

module _ (s : Search) (prices : PriceLists) (is : IsSearch s prices) where
  -- the network has the points as of the last round
  pub agree-now : AgreeOnPoints s.instance (points_in s.network) (points_now s)
  agree-now =
      AgreeOnPoints-history (history s prices) s.started s.cost is.belongs is.trace (omega (arith, is.rounds, is.budget.rounds)) s.points (last_round (history s prices)) s.network is.points is.added is.network

  -- among them the initial ones
  pub initial-now : HasInitialPoints s.instance s.windows.anchors (points_in s.network)
  initial-now =
      HasInitialPoints_same s.instance s.windows.anchors (points_now s) (points_in s.network) (AgreeOnPoints_sym s.instance (points_in s.network) (points_now s) agree-now)
      (λ terminal at lt has.
      list_has-append (initial_points s.instance s.windows.anchors terminal) (added_at (added_of s.trace.items) terminal (last_round (history s prices))) at
      ∙ or_left (list_has (initial_points s.instance s.windows.anchors terminal) at) (list_has (added_at (added_of s.trace.items) terminal (last_round (history s prices))) at) has)

  -- a relaxed plan as of the last round is one of the network
  pub relaxed-now : (walks : List (List Leg)) → IsRelaxedPlan s.instance (windows_in s.windows) (points_now s) walks → IsRelaxedPlan s.instance (windows_in s.windows) (points_in s.network) walks
  relaxed-now walks relaxed =
      IsRelaxedPlan_same s.instance is.belongs.valid (windows_in s.windows) (points_now s) (points_in s.network) (AgreeOnPoints_sym s.instance (points_in s.network) (points_now s) agree-now) walks relaxed

  -- no point is of a round after the last one
  pub greatest-now : greatest_round s.points.added ≤ last_round (history s prices)
  greatest-now = omega (arith, ap greatest_round is.added, greatest_round-history (history s prices) s.started s.cost is.trace)

  -- so the network is that of the next round too, before its points are added
  pub network-next : (round : ℕ) → round ≡ last_round (history s prices) + 1 → IsNetworkOf s.instance s.points round s.network
  network-next round next = IsNetworkOf_from_greatest s.instance s.points (last_round (history s prices)) round s.network greatest-now (omega (arith, next)) is.network

  module _ (walks : List (List Leg)) (shorts : List Short) (places : List Place) (short : AreTooShort s.instance (points_in s.network) walks shorts) (can : All (CanBePoint s.instance (points_in s.network)) shorts)
      (any : Bool) (told : any ≡ true → is_some prices.unit ≡ true) (are : ArePlacesFound s.instance s.network any shorts places) where
    -- a place is that of a too short leg; or it is free, in a search with a unit
    abbrev IsFound : Place → Type 0
    IsFound q = IsPlaceAmong shorts q ⊎ (IsFreePlace s.instance s.network q × (is_some prices.unit ≡ true))

    -- distinct such places, at most as many as a round may add
    record AreFound : Type 0 where
      each : All IsFound places
      distinct : AreDistinct places
      few : length places ≤ MOST_IN_ROUND

    found : AreFound
    found = by_any any told are
      where
        of_shorts : ArePlacesOf shorts places → AreFound
        of_shorts own = record { each = All-weaker (IsPlaceAmong shorts) IsFound (λ q among. inl among) places own.each; distinct = own.distinct; few = own.few }

        by_any : (sought : Bool) → (sought ≡ true → is_some prices.unit ≡ true) → ArePlacesFound s.instance s.network sought shorts places → AreFound
        by_any false has own = of_shorts own
        by_any true has (inl own) = of_shorts own
        by_any true has (inr own) = record { each = All-weaker (IsFreePlace s.instance s.network) IsFound (λ q free. inr (free, has refl)) places own.each; distinct = own.distinct; few = own.few }

    -- the place of a too short leg is free
    of_short : (q : Place) → IsPlaceAmong shorts q → IsFreePlace s.instance s.network q
    of_short q among =
        let own : CanBePoint s.instance (points_in s.network) among.short = All-contains (CanBePoint s.instance (points_in s.network)) shorts among.short can among.among in
        subst (IsFreePlace s.instance s.network) (sym among.is) (record { in_time = (own.terminal, own.after, own.before); new = own.new })

    -- so each is
    is_free : (q : Place) → IsFound q → IsFreePlace s.instance s.network q
    is_free q (inl among) = of_short q among
    is_free q (inr free) = free.0

    -- the places can be added
    pub places-can : (round : ℕ) → round ≡ last_round (history s prices) + 1 → All (CanAdd s.instance s.points round) places
    places-can round next = All-weaker IsFound (CanAdd s.instance s.points round) (λ q own. one q (is_free q own)) places found.each
      where
        one : (q : Place) → IsFreePlace s.instance s.network q → CanAdd s.instance s.points round q
        one q free = record {
          terminal = free.in_time.0;
          time = omega (arith, free.in_time.2, horizon-in_time s.instance.shipments (λ k d lt. (is.belongs.valid.parts.shipments k d lt).within.due));
          new = ap (λ (qs : List ℕ). list_has qs q.at) (points_at_from_greatest s.points q.terminal (last_round (history s prices)) round greatest-now (omega (arith, next)))
              ∙ sym (is.network.points q.terminal free.in_time.0 q.at) ∙ free.new;
        }

    -- a round that adds them is earned
    pub round-earned : (n : Refinement) → n.relaxed ≡ walks → n.added ≡ places → ClashesBelow s.instance s.windows (points_now s) n.incumbent walks → 1 ≤ length places →
        IsEarnedRound s.instance s.windows prices.unit (points_now s) n
    round-earned n relaxed added clashes some = record {
      clashes = subst (ClashesBelow s.instance s.windows (points_now s) n.incumbent) (sym relaxed) clashes;
      some = subst (λ (qs : List Place). 1 ≤ length qs) (sym added) some;
      few = subst (λ (qs : List Place). length qs ≤ 8) (sym added) found.few;
      distinct = subst (λ (qs : List Place). AreDistinct qs) (sym added) found.distinct;
      places = subst (λ (ws : List (List Leg)). All (IsRoundPlace s.instance prices.unit (points_now s) ws) n.added) (sym relaxed)
          (subst (λ (qs : List Place). All (IsRoundPlace s.instance prices.unit (points_now s) walks) qs) (sym added) (All-weaker IsFound (IsRoundPlace s.instance prices.unit (points_now s) walks) place places found.each));
      new = subst (λ (qs : List Place). All (λ (q : Place). list_has (points_now s q.terminal) q.at ≡ false) qs) (sym added)
          (All-weaker IsFound (λ (q : Place). list_has (points_now s q.terminal) q.at ≡ false) (λ q own. new q (is_free q own)) places found.each);
    }
      where
        over : AreTooShort s.instance (points_now s) walks shorts
        over = AreTooShort_same s.instance walks is.belongs.valid (HasRoutes-relaxed s.instance (windows_in s.windows) (points_now s) walks clashes.is) (points_in s.network) (points_now s) agree-now shorts short

        place : (q : Place) → IsFound q → IsRoundPlace s.instance prices.unit (points_now s) walks q
        place q (inl among) =
            short-place s.instance prices.unit (points_now s) walks q
            (record { short = among.short; is = All-contains (IsShort s.instance (points_now s) walks) shorts among.short over.each among.among; at = among.is })
        place q (inr free) = in_time-place s.instance prices.unit (points_now s) walks q free.1 free.0.in_time

        new : (q : Place) → IsFreePlace s.instance s.network q → list_has (points_now s q.terminal) q.at ≡ false
        new q free = sym (agree-now q.terminal free.in_time.0 q.at) ∙ free.new
