-- The legs of a walk as its stops are kept, one after the other.
use Rattle.std.proofs.Common.{◌≡◌, ◌∙◌, ℕ, ◌+◌, ◌-◌, ◌<◌, ◌≤◌, List, [], ◌∷◌, ◌++◌, length, get_or, sym, ap, subst, arith}
use Rattle.std.specs.Prelude.{All, None, Some}
use Rattle.std.proofs.Math.ListN.{length-map}
use Rattle.std.proofs.lemmas.List.{get_or-map, get_or_default}
use Rattle.fp_model.specs.declared.parts.Leg.{Leg}
use Rattle.fp_model.specs.declared.parts.Member.{Member}
use Rattle.fp_model.specs.Members.{IsMemberOf, member_leg}
use Rattle.fp_model.specs.Numbered.{no_leg, route_at}
use Rattle.fp_model.specs.Problem.{Problem}
use Rattle.fp_timenodes.specs.declared.places.Place.{Place}
use Rattle.fp_longestarcs.specs.Classes.{head_of}
use Rattle.fp_longestarcs.specs.Networks.{IsClass, TimedNetwork}
use Rattle.fp_longestarcs.specs.declared.stops.Stop.{Stop}
use Rattle.fp_longestarcs.specs.Stops.{leg_of, legs_of}
use Rattle.fp_dispatch.specs.Times.{next}
use Rattle.fp_shortarcs.specs.declared.shorts.Short.{Short}
use Rattle.fp_shortarcs.specs.Listing.{AreTooShortBefore, IsMissed}
use Rattle.fp_shortarcs.specs.TooShort.{reach_of}
use Rattle.fp_shortarcs.proofs.ListedSoFar.{before-next, before-push, before-skip}

-- the walk of a shipment, as it is read
pub walk-read : (walks : List (List Leg)) (k : ℕ) (stops : List Stop) (walk : List Leg) → legs_of stops ≡ walk → walk ≡ get_or walks k walk → k < length walks →
    legs_of stops ≡ route_at walks k
walk-read walks k stops walk view is lt = view ∙ is ∙ get_or_default walks k walk [] lt

-- a stop that is not the last of the walk of a shipment
module _ (walks : List (List Leg)) (k i : ℕ) (stops : List Stop) (stop : Stop) (exists : k < length walks) (walk : legs_of stops ≡ route_at walks k) (lt : i < length stops - 1)
    (is : stop ≡ get_or stops i stop) where
  -- is the leg that its shipment and its number name
  leg-read : leg_of stop ≡ member_leg walks (record { shipment = k; leg = i })
  leg-read =
      ap leg_of is ∙ sym (get_or-map leg_of stops i stop no_leg (omega (arith, lt)))
      ∙ ap (λ (legs : List Leg). get_or legs i no_leg) walk

  -- there is a next one
  onward-read : IsMemberOf walks (next (record { shipment = k; leg = i }))
  onward-read = record {
    shipment = exists;
    leg = omega (arith, lt, length-map stops leg_of, ap (λ (legs : List Leg). length legs) walk);
  }

  -- its class is one of the network
  pub class-read : (net : TimedNetwork) → All (All (IsClass net)) walks → IsClass net (leg_of stop)
  class-read net classes =
      subst (IsClass net) (sym leg-read) (classes k [] exists i no_leg (let e : i < length (route_at walks k) = omega (arith, onward-read.leg) in e))

  -- where it does not reach a place, it joins the too short legs
  pub missed-push : (p : Problem) (points : ℕ → List ℕ) (shorts new : List Short) (place : Place) → AreTooShortBefore p points walks (record { shipment = k; leg = i }) shorts →
      IsMissed p points (leg_of stop) (Some place) → new ≡ shorts ++ (record { shipment = k; leg = i; terminal = place.terminal; at = place.at } ∷ []) →
      AreTooShortBefore p points walks (record { shipment = k; leg = i + 1 }) new
  missed-push p points shorts new place are missed pushed =
      let m : Member = record { shipment = k; leg = i } in
      let short : head_of p points (member_leg walks m) < reach_of p (member_leg walks m) = subst (λ (c : Leg). head_of p points c < reach_of p c) leg-read missed.0 in
      let reads : IsMissed p points (member_leg walks m) (Some place) = subst (λ (c : Leg). IsMissed p points c (Some place)) leg-read missed in
      subst (λ (ss : List Short). AreTooShortBefore p points walks (record { shipment = k; leg = i + 1 }) ss) (sym pushed)
      (before-push p points walks k i shorts (record { shipment = k; leg = i; terminal = place.terminal; at = place.at }) are (record { onward = onward-read; short = short })
      (ap (λ (q : Place). record { shipment = k; leg = i; terminal = q.terminal; at = q.at }) reads.1))

  -- where it misses none, they stay
  pub missed-skip : (p : Problem) (points : ℕ → List ℕ) (shorts : List Short) → AreTooShortBefore p points walks (record { shipment = k; leg = i }) shorts →
      IsMissed p points (leg_of stop) None → AreTooShortBefore p points walks (record { shipment = k; leg = i + 1 }) shorts
  missed-skip p points shorts are missed =
      before-skip p points walks k i shorts are (λ short. subst (λ (c : Leg). IsMissed p points c None) leg-read missed short.short)

-- after the last leg of the walk that is followed by another
pub walk-end : (p : Problem) (points : ℕ → List ℕ) (walks : List (List Leg)) (k i : ℕ) (stops : List Stop) (shorts : List Short) → legs_of stops ≡ route_at walks k →
    length stops - 1 ≤ i → AreTooShortBefore p points walks (record { shipment = k; leg = i }) shorts → AreTooShortBefore p points walks (record { shipment = k + 1; leg = 0 }) shorts
walk-end p points walks k i stops shorts walk last are =
    before-next p points walks k i shorts are (omega (arith, last, length-map stops leg_of, ap (λ (legs : List Leg). length legs) walk))
