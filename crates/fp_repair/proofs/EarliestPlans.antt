-- What plans with the least times cost, and that walks which are routes have routes.
use Rattle.std.proofs.Common.{◌≡◌, ◌∙◌, ℕ, ◌≤◌, Option, Some, None, List, [], ◌∷◌, get_or, sym, ap, subst, arith}
use Rattle.std.specs.Prelude.{IfSome, MatchOption}
use Rattle.std.specs.List.{AllZip}
use Rattle.std.proofs.lemmas.List.Elements.{All-weaker, Contains-get_or}
use Rattle.fp_model.specs.declared.parts.Leg.{Leg}
use Rattle.fp_model.specs.declared.parts.Member.{Member}
use Rattle.fp_model.specs.declared.parts.Shipment.{Shipment}
use Rattle.fp_model.specs.Costs.{cost}
use Rattle.fp_model.specs.Members.{IsMemberOf, LeaveAsOne, arc_lists}
use Rattle.fp_model.specs.Problem.{Problem}
use Rattle.fp_model.specs.Routes.{IsRoute, arcs_of}
use Rattle.fp_model.proofs.Members.{IsMemberOf-arc_lists}
use Rattle.fp_model.proofs.SharedDepartures.{cost_together}
use Rattle.fp_flatnet.specs.declared.window_tables.Window.{Window}
use Rattle.fp_dispatch.specs.Answers.{IsEarliest}
use Rattle.fp_dispatch.specs.Times.{HaveOneTime, HaveTimes, departure}
use Rattle.fp_dispatch.proofs.LeastTimes.{AreLeastTimes-unique}
use Rattle.fp_relaxmodel.specs.Groups.{AreGroups}
use Rattle.fp_relaxmodel.specs.Relaxed.{HasRoutes}
use Rattle.fp_repair.specs.KeptGroups.{AreKeptGroups, IsKeptPlan}
use Rattle.fp_repair.proofs.KeptGroups.{AreKeptGroups-unique, AreKeptGroups-whole}
use Rattle.fp_repair.proofs.StricterGroups.{AreStricter-none, HaveTimes-IsEarliest, HaveTimes-stricter}
use Rattle.fp_relaxmodel.proofs.GroupsOfRoutes.{LeaveTogether-groups}

-- walks whose arcs are routes have lists of arcs that are routes
pub IsRoute-HasRoutes : (p : Problem) (walks : List (List Leg)) → HasRoutes p walks → AllZip (IsRoute p) p.shipments (arc_lists walks)
IsRoute-HasRoutes p walks routes = each p.shipments walks routes
  where
    each : (ss : List Shipment) (ws : List (List Leg)) → AllZip (λ s walk. IsRoute p s (arcs_of walk)) ss ws → AllZip (IsRoute p) ss (arc_lists ws)
    each [] [] all = tt
    each [] (w ∷ ws) all = absurd all
    each (s ∷ ss) [] all = absurd all
    each (s ∷ ss) (w ∷ ws) all = (all.0, each ss ws all.1)

-- legs of a group that have one time leave as one
LeaveAsOne-HaveOneTime : (legs : List (List Leg)) (group : List Member) → HaveOneTime (departure legs) group → LeaveAsOne legs group
LeaveAsOne-HaveOneTime legs group one i j d less lt =
    one (get_or group i d) (get_or group j d) (Contains-get_or group i d (omega (arith, less, lt))) (Contains-get_or group j d lt)

module _ (p : Problem) (windows : ℕ → ℕ → Option Window) where
  -- the plan with the least times with all groups of walks costs no more than the walks
  pub cost-IsEarliest-groups : (walks legs : List (List Leg)) (groups : List (List Member)) → AreGroups walks groups →
      IsEarliest p windows (arc_lists walks) groups legs → cost p legs ≤ cost p walks
  cost-IsEarliest-groups walks legs groups are is =
      cost_together p walks legs is.arcs
      (LeaveTogether-groups walks legs groups are
      (All-weaker (HaveOneTime (departure legs)) (LeaveAsOne legs) (LeaveAsOne-HaveOneTime legs) groups is.least.are.lower.together))

  -- two plans with the least times cost the same
  pub cost-IsEarliest-le : (routes : List (List ℕ)) (groups : List (List Member)) (legs others : List (List Leg)) →
      IsEarliest p windows routes groups legs → IsEarliest p windows routes groups others → cost p legs ≤ cost p others
  cost-IsEarliest-le routes groups legs others first second =
      cost_together p others legs (first.arcs ∙ sym second.arcs)
      (λ m n is_m is_n same. at m is_m ∙ ap (λ (l : Leg). l.depart) same ∙ sym (at n is_n))
    where
      at : (m : Member) → IsMemberOf others m → departure legs m ≡ departure others m
      at m is =
          AreLeastTimes-unique p windows routes groups (departure legs) (departure others) first.least second.least m
          (subst (λ (rs : List (List ℕ)). IsMemberOf rs m) second.arcs (IsMemberOf-arc_lists others m is))

  -- what costs no more than a plan with the least times, where there is one, costs no more than any
  pub cost-le-earliest : (routes : List (List ℕ)) (groups : List (List Member)) (o : Option (List (List Leg))) (n : ℕ) →
      MatchOption o (HaveTimes p windows routes groups → ⊥) (IsEarliest p windows routes groups) → IfSome o (λ found. n ≤ cost p found) →
      (legs : List (List Leg)) → IsEarliest p windows routes groups legs → n ≤ cost p legs
  cost-le-earliest routes groups None n none le legs is = absurd (none (HaveTimes-IsEarliest p windows routes groups legs is))
  cost-le-earliest routes groups (Some found) n some le legs is = omega (arith, le, cost-IsEarliest-le routes groups found legs some is)

  module _ (routes : List (List ℕ)) (groups : List (List Member)) where
    -- the same of the kept groups
    pub cost-le-kept : (o : Option (List (List Leg))) (n : ℕ) → MatchOption o (HaveTimes p windows routes [] → ⊥) (IsKeptPlan p windows routes groups) → IfSome o (λ found. n ≤ cost p found) →
        (kept : List (List Member)) (legs : List (List Leg)) → AreKeptGroups p windows routes groups kept → IsEarliest p windows routes kept legs → n ≤ cost p legs
    cost-le-kept None n none le kept legs are is =
        absurd (none (HaveTimes-stricter p windows routes kept [] (AreStricter-none kept) (HaveTimes-IsEarliest p windows routes kept legs is)))
    cost-le-kept (Some found) n some le kept legs are is =
        let first : IsEarliest p windows routes kept found =
        subst (λ (gs : List (List Member)). IsEarliest p windows routes gs found) (AreKeptGroups-unique p windows routes groups some.kept some.are kept are) some.earliest in
        omega (arith, le, cost-IsEarliest-le routes kept found legs first is)

  -- and where the routes have times with all groups of walks, it costs no more than the walks
  pub cost-le-walks : (walks : List (List Leg)) (groups : List (List Member)) (o : Option (List (List Leg))) (n : ℕ) → AreGroups walks groups →
      MatchOption o (HaveTimes p windows (arc_lists walks) [] → ⊥) (IsKeptPlan p windows (arc_lists walks) groups) → IfSome o (λ found. n ≤ cost p found) →
      HaveTimes p windows (arc_lists walks) groups → n ≤ cost p walks
  cost-le-walks walks groups None n are none le have = absurd (none (HaveTimes-stricter p windows (arc_lists walks) groups [] (AreStricter-none groups) have))
  cost-le-walks walks groups (Some found) n are some le have =
      let whole : IsEarliest p windows (arc_lists walks) groups found =
      subst (λ (gs : List (List Member)). IsEarliest p windows (arc_lists walks) gs found)
      (AreKeptGroups-whole p windows (arc_lists walks) groups some.kept some.are have) some.earliest in
      omega (arith, le, cost-IsEarliest-groups walks found groups are whole)
