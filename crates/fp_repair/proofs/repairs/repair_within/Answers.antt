use Rattle.std.proofs.Common.{◌≡◌, ◌↔◌, ◌∙◌, ℕ, List, [], sym, ap, subst, arith}
use Rattle.std.specs.Prelude.{IsTrue, MatchOption}
use Rattle.std.specs.List.{AllZip}
use Rattle.std.specs.declared.alloc.Global.{Global}
use Rattle.std.specs.declared.vec.Vec.{Vec}
use Rattle.fp_base_lists.specs.Vectors.{lists_of}
use Rattle.fp_model.specs.declared.parts.Member.{Member}
use Rattle.fp_model.specs.Members.{AreGroupsOf, arc_lists}
use Rattle.fp_model.specs.Routes.{IsRoute}
use Rattle.fp_flatnet.specs.Tables.{windows_in}
use Rattle.fp_dispatch.specs.Answers.{IsEarliest}
use Rattle.fp_dispatch.specs.Times.{HaveTimes}
use Rattle.fp_relaxmodel.proofs.GroupsOfRoutes.{AreGroupsOf-walks}
use Rattle.fp_relaxmodel.proofs.RouteLengths.{HasRoutes-few_legs, HasRoutes-few_walks}
use Rattle.fp_repair.specs.KeptGroups.{AreKeptGroups, IsKeptPlan}
use Rattle.fp_repair.proofs.EarliestPlans.{IsRoute-HasRoutes, cost-le-earliest, cost-le-kept, cost-le-walks}
use Rattle.fp_repair.proofs.repairs.repair_within.Goals as goal

pub groups-requires-clause-few_walks : goal.groups-requires-clause-few_walks
groups-requires-clause-few_walks g c = HasRoutes-few_walks c.args.instance.now c.args.relaxed.now c.requires.belongs.valid c.requires.relaxed

pub groups-requires-clause-few_legs : goal.groups-requires-clause-few_legs
groups-requires-clause-few_legs g c = HasRoutes-few_legs c.args.instance.now c.args.relaxed.now c.requires.belongs.valid c.requires.relaxed

-- the routes are the walks' lists of arcs
pub least_times-requires-clause-routes : goal.least_times-requires-clause-routes
least_times-requires-clause-routes g c =
    let routes : lists_of c.deref-3.result.now ≡ arc_lists c.args.relaxed.now = ap (λ (rs : List (Vec ℕ Global)). lists_of rs) c.deref-3.ensures.value ∙ c.in_ok-routes.ensures in
    subst (AllZip (IsRoute c.args.instance.now) c.args.instance.now.shipments) (sym routes) (IsRoute-HasRoutes c.args.instance.now c.args.relaxed.now c.requires.relaxed)

pub least_times-requires-clause-groups : goal.least_times-requires-clause-groups
least_times-requires-clause-groups g c =
    let routes : lists_of c.deref-3.result.now ≡ arc_lists c.args.relaxed.now = ap (λ (rs : List (Vec ℕ Global)). lists_of rs) c.deref-3.ensures.value ∙ c.in_ok-routes.ensures in
    subst (λ (rs : List (List ℕ)). AreGroupsOf rs (lists_of c.in_ok-groups.groups.items)) (sym routes)
    (AreGroupsOf-walks c.args.relaxed.now (lists_of c.in_ok-groups.groups.items) c.in_ok-groups.ensures.groups)

pub returns-clause-timed : goal.returns-clause-timed
returns-clause-timed g c groups are =
    let p = c.args.instance.now in
    let w = windows_in c.args.windows.now in
    let routes : lists_of c.deref-3.result.now ≡ arc_lists c.args.relaxed.now = ap (λ (rs : List (Vec ℕ Global)). lists_of rs) c.deref-3.ensures.value ∙ c.in_ok-routes.ensures in
    let same : lists_of c.in_ok-groups.groups.items ≡ groups = c.in_ok-groups.ensures.only groups are in
    subst (λ (gs : List (List Member)). IsTrue c.in_ok-timings.timings.timed ↔ HaveTimes p w (arc_lists c.args.relaxed.now) gs) same
    (subst (λ (rs : List (List ℕ)). IsTrue c.in_ok-timings.timings.timed ↔ HaveTimes p w rs (lists_of c.in_ok-groups.groups.items)) routes c.in_ok-timings.ensures.timed)

pub returns-clause-together : goal.returns-clause-together
returns-clause-together g c timed =
    let p = c.args.instance.now in
    let w = windows_in c.args.windows.now in
    let groups : List (List Member) = lists_of c.in_ok-groups.groups.items in
    let routes : lists_of c.deref-3.result.now ≡ arc_lists c.args.relaxed.now = ap (λ (rs : List (Vec ℕ Global)). lists_of rs) c.deref-3.ensures.value ∙ c.in_ok-routes.ensures in
    let have : HaveTimes p w (arc_lists c.args.relaxed.now) groups =
    subst (λ (rs : List (List ℕ)). HaveTimes p w rs groups) routes (c.in_ok-timings.ensures.timed.0 timed) in
    let found : MatchOption c.in_ok-timings.timings.grouped (HaveTimes p w (arc_lists c.args.relaxed.now) [] → ⊥) (IsKeptPlan p w (arc_lists c.args.relaxed.now) groups) =
    subst (λ (rs : List (List ℕ)). MatchOption c.in_ok-timings.timings.grouped (HaveTimes p w rs [] → ⊥) (IsKeptPlan p w rs groups)) routes c.in_ok-timings.ensures.grouped in
    omega (
      arith,
      c.in_ok-best.ensures.candidate.cost,
      c.in_ok-best.ensures.cheaper,
      cost-le-walks p w c.args.relaxed.now groups c.in_ok-timings.timings.grouped c.in_ok-starts.starts.cheapest.cost c.in_ok-groups.ensures.groups found c.in_ok-starts.ensures.grouped have,
    )

pub returns-clause-apart : goal.returns-clause-apart
returns-clause-apart g c legs is =
    let p = c.args.instance.now in
    let w = windows_in c.args.windows.now in
    let routes : lists_of c.deref-3.result.now ≡ arc_lists c.args.relaxed.now = ap (λ (rs : List (Vec ℕ Global)). lists_of rs) c.deref-3.ensures.value ∙ c.in_ok-routes.ensures in
    let found : MatchOption c.in_ok-timings.timings.apart (HaveTimes p w (arc_lists c.args.relaxed.now) [] → ⊥) (IsEarliest p w (arc_lists c.args.relaxed.now) []) =
    subst (λ (rs : List (List ℕ)). MatchOption c.in_ok-timings.timings.apart (HaveTimes p w rs [] → ⊥) (IsEarliest p w rs [])) routes c.in_ok-timings.ensures.apart in
    omega (
      arith,
      c.in_ok-best.ensures.candidate.cost,
      c.in_ok-best.ensures.cheaper,
      cost-le-earliest p w (arc_lists c.args.relaxed.now) [] c.in_ok-timings.timings.apart c.in_ok-starts.starts.cheapest.cost found c.in_ok-starts.ensures.apart legs is,
    )

pub returns-clause-kept : goal.returns-clause-kept
returns-clause-kept g c others kept legs of are is =
    let p = c.args.instance.now in
    let w = windows_in c.args.windows.now in
    let groups : List (List Member) = lists_of c.in_ok-groups.groups.items in
    let routes : lists_of c.deref-3.result.now ≡ arc_lists c.args.relaxed.now = ap (λ (rs : List (Vec ℕ Global)). lists_of rs) c.deref-3.ensures.value ∙ c.in_ok-routes.ensures in
    let same : groups ≡ others = c.in_ok-groups.ensures.only others of in
    let found : MatchOption c.in_ok-timings.timings.grouped (HaveTimes p w (arc_lists c.args.relaxed.now) [] → ⊥) (IsKeptPlan p w (arc_lists c.args.relaxed.now) groups) =
    subst (λ (rs : List (List ℕ)). MatchOption c.in_ok-timings.timings.grouped (HaveTimes p w rs [] → ⊥) (IsKeptPlan p w rs groups)) routes c.in_ok-timings.ensures.grouped in
    let these : AreKeptGroups p w (arc_lists c.args.relaxed.now) groups kept =
    subst (λ (gs : List (List Member)). AreKeptGroups p w (arc_lists c.args.relaxed.now) gs kept) (sym same) are in
    omega (
      arith,
      c.in_ok-best.ensures.candidate.cost,
      c.in_ok-best.ensures.cheaper,
      cost-le-kept p w (arc_lists c.args.relaxed.now) groups c.in_ok-timings.timings.grouped c.in_ok-starts.starts.cheapest.cost found c.in_ok-starts.ensures.grouped kept legs these is,
    )
