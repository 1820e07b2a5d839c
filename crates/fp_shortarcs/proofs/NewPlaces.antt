-- The place that a too short leg does not reach can be made a point.
use Rattle.std.proofs.Common.{◌≡◌, ◌≢◌, ◌∙◌, ℕ, zero, suc, ◌+◌, ◌<◌, ◌≤◌, true, List, [], ◌∷◌, length, sym, subst, arith}
use Rattle.std.specs.Prelude.{All}
use Rattle.std.proofs.lemmas.Bool.{false_from_ne_true}
use Rattle.std.proofs.lemmas.List.Elements.{All-weaker}
use Rattle.fp_base_lists.specs.Membership.{list_has}
use Rattle.fp_base_lists.proofs.Membership.{StandsAt, StandsAt-from_list_has}
use Rattle.fp_model.specs.declared.parts.Leg.{Leg}
use Rattle.fp_model.specs.declared.parts.Member.{Member}
use Rattle.fp_model.specs.Members.{IsMemberOf, member_leg}
use Rattle.fp_model.specs.Numbered.{leg_at, route_at, shipment_at}
use Rattle.fp_model.specs.Problem.{IsArc, Problem, arc_at, horizon}
use Rattle.fp_model.specs.Routes.{Leads, arcs_of}
use Rattle.fp_model.proofs.Validity.{IsArc-valid}
use Rattle.fp_timenodes.specs.declared.places.TheConstants.{LATEST}
use Rattle.fp_timenodes.proofs.Floors.{floor_greatest}
use Rattle.fp_flatnet.specs.Belonging.{BelongsTo}
use Rattle.fp_flatnet.specs.Tables.{WindowTable, windows_in}
use Rattle.fp_flatnet.proofs.WindowTimes.{BelongsTo_horizon, BelongsTo_leaves}
use Rattle.fp_longestarcs.specs.Ascending.{ArePoints}
use Rattle.fp_longestarcs.specs.Networks.{IsClass, TimedNetwork, points_in, tail_in}
use Rattle.fp_longestarcs.specs.Whole.{IsWholeNetwork}
use Rattle.fp_longestarcs.proofs.ClassNumbers.{tail-points}
use Rattle.fp_allowed.specs.Allowed.{is_allowed}
use Rattle.fp_allowed.proofs.ClassTimes.{HasWindow, allowed_exists, allowed_hi, allowed_window}
use Rattle.fp_relaxmodel.specs.Relaxed.{IsRelaxedPlan}
use Rattle.fp_dispatch.specs.Times.{next}
use Rattle.fp_shortarcs.specs.declared.shorts.Short.{Short}
use Rattle.fp_shortarcs.specs.TooShort.{CanBePoint, IsShort, IsTooShort, member_of, reach_of, short_of}
use Rattle.fp_shortarcs.proofs.RelaxedClasses.{leg-allowed, walk-relaxed}

-- each next arc of a walk leaves where the one before ends
Leads-next : (p : Problem) (here there : ℕ) (walk : List Leg) (j : ℕ) → Leads p here (arcs_of walk) there → j + 1 < length walk →
    (arc_at p (leg_at walk (j + 1)).arc).from ≡ (arc_at p (leg_at walk j).arc).to
Leads-next p here there [] j leads lt = absurd (omega (arith, lt))
Leads-next p here there (c ∷ []) j leads lt = absurd (omega (arith, lt))
Leads-next p here there (c ∷ n ∷ walk) zero leads lt = leads.2.1
Leads-next p here there (c ∷ n ∷ walk) (suc j) leads lt =
    let at : suc (j + 1) ≡ suc j + 1 = omega arith in
    subst (λ (i : ℕ). (arc_at p (leg_at (c ∷ n ∷ walk) i).arc).from ≡ (arc_at p (leg_at (n ∷ walk) j).arc).to) at
    (Leads-next p (arc_at p c.arc).to there (n ∷ walk) j leads.2 (omega (arith, lt)))

-- a class of a network can be gone on from at a time that fits its type
pub class-in_time : (p : Problem) (net : TimedNetwork) (c : Leg) → IsWholeNetwork p net → IsClass net c → c.depart ≤ LATEST
class-in_time p net c whole is =
    let are : ArePoints (points_in net (tail_in net c.arc)) = tail-points net c.arc whole.valid is.0 in
    let at : StandsAt (points_in net (tail_in net c.arc)) c.depart = StandsAt-from_list_has (points_in net (tail_in net c.arc)) c.depart is.1 in
    omega (arith, at.is 0, are.in_time at.place 0 at.within)

module _ (p : Problem) (table : WindowTable) (points : ℕ → List ℕ) (walks : List (List Leg)) (belongs : BelongsTo p table) (relaxed : IsRelaxedPlan p (windows_in table) points walks) where
  -- where a leg is too short the shipment can go on by the horizon
  in_time : (m : Member) → IsMemberOf walks (next m) → reach_of p (member_leg walks m) ≤ horizon p.shipments
  in_time m on =
      omega (
        arith,
        allowed_hi p (windows_in table) points [] m.shipment c allowed has.window has.is,
        BelongsTo_horizon p table m.shipment c.arc has.window belongs has.is away,
      )
    where
      c : Leg
      c = member_leg walks m

      is : IsMemberOf walks m
      is = record { shipment = on.shipment; leg = omega (arith, on.leg) }

      allowed : is_allowed p (windows_in table) points [] m.shipment c ≡ true
      allowed = leg-allowed p (windows_in table) points walks relaxed m is

      has : HasWindow (windows_in table) m.shipment c
      has = allowed_window p (windows_in table) points [] m.shipment c allowed

      n : Leg
      n = member_leg walks (next m)

      has_next : HasWindow (windows_in table) m.shipment n
      has_next = allowed_window p (windows_in table) points [] m.shipment n (leg-allowed p (windows_in table) points walks relaxed (next m) on)

      -- the next leg does not leave the destination
      away : (arc_at p c.arc).to ≢ (shipment_at p m.shipment).to
      away into =
          BelongsTo_leaves p table m.shipment n.arc has_next.window belongs has_next.is
          (Leads-next p (shipment_at p m.shipment).from (shipment_at p m.shipment).to (route_at walks m.shipment) m.leg
          (walk-relaxed p (windows_in table) points walks relaxed m.shipment on.shipment).timed.leads on.leg ∙ into)

  can_be-leg : (m : Member) → IsTooShort p points walks m → CanBePoint p points (short_of p walks m)
  can_be-leg m is = record {
    terminal = arc.to;
    new = false_from_ne_true (list_has (points (arc_at p c.arc).to) (reach_of p c))
        (λ there. absurd (omega (arith, is.short, floor_greatest (points (arc_at p c.arc).to) 1 (reach_of p c) (reach_of p c) there (omega arith))));
    after = omega (arith, arc.within.time.0);
    before = in_time m is.onward;
  }
    where
      c : Leg
      c = member_leg walks m

      arc : IsArc (length p.terminals) (arc_at p c.arc)
      arc = IsArc-valid p c.arc belongs.valid
          (allowed_exists p (windows_in table) points [] m.shipment c
          (leg-allowed p (windows_in table) points walks relaxed m (record { shipment = is.onward.shipment; leg = omega (arith, is.onward.leg) })))

  -- the places of too short legs can be made points
  pub CanBePoint-IsShort : (shorts : List Short) → All (IsShort p points walks) shorts → All (CanBePoint p points) shorts
  CanBePoint-IsShort shorts each =
      All-weaker (IsShort p points walks) (CanBePoint p points) (λ s is. subst (λ (t : Short). CanBePoint p points t) (sym is.place) (can_be-leg (member_of s) is.leg)) shorts each
