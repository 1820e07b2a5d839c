use Rattle.std.proofs.Common.{◌≡◌, ◌∙◌, ℕ, ◌*◌, Option, None, List, [], length, ◌++◌, take, drop, sym, ap, ap₂, subst, arith}
use Rattle.std.specs.Prelude.{IsSomeAnd, MatchOption, option_map}
use Rattle.std.specs.List.{AllZip}
use Rattle.std.proofs.Math.ListN.{length-map}
use Rattle.fp_base_lists.specs.Vectors.{lists_of}
use Rattle.fp_model.specs.declared.parts.Member.{Member}
use Rattle.fp_model.specs.Members.{IsMemberOf, arc_lists}
use Rattle.fp_flatnet.specs.declared.window_tables.Window.{Window}
use Rattle.fp_flatnet.specs.Tables.{windows_in}
use Rattle.fp_dispatch.specs.Rising.{AreGroupNumbers, AreLower, AreRising, IsLate, state_of, value_at}
use Rattle.fp_dispatch.specs.declared.rising.Late.{Late}
use Rattle.fp_dispatch.specs.Answers.{HasPlan}
use Rattle.fp_model.specs.Routes.{IsRoute, arcs_of}
use Rattle.fp_dispatch.specs.Times.{AreLeastTimes, AreTimes, departure, window_of}
use Rattle.fp_dispatch.proofs.FixedRoutes.{AreLower-start, HaveWindows-start, routes-exist, routes-long, routes-short, rows-long, tables-small}
use Rattle.fp_dispatch.proofs.LeastTimes.{AreLeastTimes-same, AreLeastTimes-settled, IsClash-IsLate, no_times-IsClash}
use Rattle.fp_dispatch.proofs.FittingTables.{IsTask-tables}
use Rattle.fp_dispatch.proofs.TimesOfPlans.{IsPlan-AreTimes, PlanLiesWithin-AreTimes}
use Rattle.fp_dispatch.proofs.VectorItems.{length-lists_of, written_back}
use Rattle.fp_dispatch.proofs.dispatches.earliest.Goals as goal

pub longest-width-requires : goal.longest-width-requires
longest-width-requires c = routes-short c.args.instance.now c.args.windows.now (lists_of c.args.routes.now) c.requires.belongs c.requires.routes

pub overflow_mul-count : goal.overflow_mul-count
overflow_mul-count c =
    let rows : length (lists_of c.args.routes.now) * c.longest-width.result ≡ length c.args.routes.now * c.longest-width.result =
    ap (λ (n : ℕ). n * c.longest-width.result) (length-lists_of c.args.routes.now) in
    omega (arith, rows, tables-small c.args.instance.now c.args.windows.now (lists_of c.args.routes.now) c.requires.belongs c.requires.routes c.longest-width.result c.longest-width.ensures.short)

pub start-requires-clause-rows : goal.start-requires-clause-rows
start-requires-clause-rows c =
    omega (arith, rows-long c.args.instance.now c.args.windows.now (lists_of c.args.routes.now) c.requires.belongs c.requires.routes, length-lists_of c.args.routes.now)

pub start-requires-clause-arcs : goal.start-requires-clause-arcs
start-requires-clause-arcs c = routes-exist c.args.instance.now c.args.windows.now (lists_of c.args.routes.now) c.requires.belongs c.requires.routes

pub start-requires-clause-few : goal.start-requires-clause-few
start-requires-clause-few c =
    let rows : length (lists_of c.args.routes.now) * c.longest-width.result ≡ length c.args.routes.now * c.longest-width.result =
    ap (λ (n : ℕ). n * c.longest-width.result) (length-lists_of c.args.routes.now) in
    omega (
      arith,
      rows,
      ap (λ (ns : List ℕ). length ns) c.deref_mut.ensures.value,
      c.in_ok-values.ensures.len,
      tables-small c.args.instance.now c.args.windows.now (lists_of c.args.routes.now) c.requires.belongs c.requires.routes c.longest-width.result c.longest-width.ensures.short,
    )

pub start-requires-clause-many : goal.start-requires-clause-many
start-requires-clause-many c =
    omega (
      arith,
      routes-long c.args.instance.now c.args.instance.now.shipments (lists_of c.args.routes.now) c.requires.routes,
      length-lists_of c.args.routes.now,
      c.requires.belongs.valid.parts.few_shipments,
    )

pub invariant_of-task : goal.invariant_of-task
invariant_of-task c =
    let p = c.args.instance.now in
    let table = c.args.windows.now in
    let routes : List (List ℕ) = lists_of c.args.routes.now in
    let groups : List (List Member) = lists_of c.args.groups.now in
    let width : ℕ = c.longest-width.result in
    let starts : (m : Member) → IsMemberOf routes m → IsSomeAnd (window_of (windows_in table) routes m) (λ w. value_at width c.start.new.values m ≡ w.lo) =
    subst (λ (o : Option Member). MatchOption o
    ((m : Member) → IsMemberOf routes m → IsSomeAnd (window_of (windows_in table) routes m) (λ w. value_at width c.start.new.values m ≡ w.lo))
    (λ m. IsMemberOf routes m × (window_of (windows_in table) routes m ≡ None))) c.in_default.is c.start.ensures in
    let rows : length routes * width ≡ length c.args.routes.now * width = ap (λ (n : ℕ). n * width) (length-lists_of c.args.routes.now) in
    IsTask-tables p table routes groups c.in_ok-numbers.numbers width c.requires.belongs c.requires.routes c.requires.groups c.longest-width.ensures.wide c.longest-width.ensures.short
    (HaveWindows-start p table routes c.requires.belongs c.requires.routes groups width c.start.new.values starts) c.in_ok-numbers.ensures.width
    (subst (λ (n : ℕ). AreGroupNumbers routes groups width n c.in_ok-numbers.numbers.table.items) (sym (length-lists_of c.args.groups.now)) c.in_ok-numbers.ensures.numbers)
    (omega (arith, c.in_ok-numbers.ensures.long, rows))

pub invariant_of-task-2 : goal.invariant_of-task-2
invariant_of-task-2 c =
    let p = c.args.instance.now in
    let table = c.args.windows.now in
    let routes : List (List ℕ) = lists_of c.args.routes.now in
    let groups : List (List Member) = lists_of c.args.groups.now in
    let width : ℕ = c.longest-width.result in
    let starts : (m : Member) → IsMemberOf routes m → IsSomeAnd (window_of (windows_in table) routes m) (λ w. value_at width c.start.new.values m ≡ w.lo) =
    subst (λ (o : Option Member). MatchOption o
    ((m : Member) → IsMemberOf routes m → IsSomeAnd (window_of (windows_in table) routes m) (λ w. value_at width c.start.new.values m ≡ w.lo))
    (λ m. IsMemberOf routes m × (window_of (windows_in table) routes m ≡ None))) c.in_default.is c.start.ensures in
    let rows : length routes * width ≡ length c.args.routes.now * width = ap (λ (n : ℕ). n * width) (length-lists_of c.args.routes.now) in
    IsTask-tables p table routes groups c.in_ok-numbers.numbers width c.requires.belongs c.requires.routes c.requires.groups c.longest-width.ensures.wide c.longest-width.ensures.short
    (HaveWindows-start p table routes c.requires.belongs c.requires.routes groups width c.start.new.values starts) c.in_ok-numbers.ensures.width
    (subst (λ (n : ℕ). AreGroupNumbers routes groups width n c.in_ok-numbers.numbers.table.items) (sym (length-lists_of c.args.groups.now)) c.in_ok-numbers.ensures.numbers)
    (omega (arith, c.in_ok-numbers.ensures.long, rows))

pub gather-requires-clause-lower : goal.gather-requires-clause-lower
gather-requires-clause-lower c =
    let p = c.args.instance.now in
    let table = c.args.windows.now in
    let routes : List (List ℕ) = lists_of c.args.routes.now in
    let groups : List (List Member) = lists_of c.args.groups.now in
    let width : ℕ = c.longest-width.result in
    let starts : (m : Member) → IsMemberOf routes m → IsSomeAnd (window_of (windows_in table) routes m) (λ w. value_at width c.start.new.values m ≡ w.lo) =
    subst (λ (o : Option Member). MatchOption o
    ((m : Member) → IsMemberOf routes m → IsSomeAnd (window_of (windows_in table) routes m) (λ w. value_at width c.start.new.values m ≡ w.lo))
    (λ m. IsMemberOf routes m × (window_of (windows_in table) routes m ≡ None))) c.in_default.is c.start.ensures in
    let rows : length routes * width ≡ length c.args.routes.now * width = ap (λ (n : ℕ). n * width) (length-lists_of c.args.routes.now) in
    let old : List ℕ = c.in_ok-values.values.items in
    let long : length c.start.new.values ≡ length old = omega (arith, c.start.auto.values, ap (λ (ns : List ℕ). length ns) c.deref_mut.ensures.value) in
    let values : List ℕ = take c.in_ok-values.values.len (c.start.new.values ++ drop (length c.start.new.values) old) in
    subst (λ (w : ℕ). AreLower p (windows_in table) routes groups w
    (record { values = values; waits = c.in_ok-vec.field-0.items; waiting = c.in_ok-all_legs.field-0.items })) (sym c.in_ok-numbers.ensures.width)
    (AreLower-start p table routes c.requires.belongs c.requires.routes groups width c.start.new.values starts
    (record { values = values; waits = c.in_ok-vec.field-0.items; waiting = c.in_ok-all_legs.field-0.items })
    (written_back c.start.new.values old c.in_ok-values.values.len (omega arith) long)
    (omega (arith, rows, long, c.in_ok-values.ensures.len)) (omega (arith, rows, c.in_ok-vec.ensures.len)) c.in_ok-all_legs.ensures.every c.in_ok-all_legs.ensures.members)

pub returns-in-Some-2-clause-exact : goal.returns-in-Some-2-clause-exact
returns-in-Some-2-clause-exact c =
    let p = c.args.instance.now in
    let table = c.args.windows.now in
    let routes : List (List ℕ) = lists_of c.args.routes.now in
    let groups : List (List Member) = lists_of c.args.groups.now in
    let late : IsLate p (windows_in table) routes groups c.in-Some-2.late =
    subst (λ (o : Option Late). MatchOption o (AreRising p (windows_in table) routes groups c.in_ok-numbers.numbers.width (λ (m : Member). ⊥) (state_of c.gather.new.self)) (IsLate p (windows_in table) routes groups)) c.in-Some-2.is c.in_ok-late.ensures in (
      (λ has. absurd (subst HasPlan c.clash-in-Some-2.ensures has)),
      (λ have. absurd (no_times-IsClash p (windows_in table) routes groups (record { shipment = c.in-Some-2.late.leg.shipment; leg = c.in-Some-2.late.leg.leg }) c.in-Some-2.late.value
          (option_map (λ (w : Window). w.hi) (window_of (windows_in table) routes c.in-Some-2.late.leg)) (IsClash-IsLate p (windows_in table) routes groups c.in-Some-2.late late) have)),
    )

pub returns-in-Some-3-clause-exact : goal.returns-in-Some-3-clause-exact
returns-in-Some-3-clause-exact c =
    let p = c.args.instance.now in
    let table = c.args.windows.now in
    let routes : List (List ℕ) = lists_of c.args.routes.now in
    let groups : List (List Member) = lists_of c.args.groups.now in
    let late : IsLate p (windows_in table) routes groups c.in-Some-3.late =
    subst (λ (o : Option Late). MatchOption o (AreRising p (windows_in table) routes groups c.in_ok-numbers.numbers.width (λ (m : Member). ⊥) (state_of c.settle.new.self) × (c.settle.new.self.waiting.items ≡ [])) (IsLate p (windows_in table) routes groups)) c.in-Some-3.is c.in_ok-late-2.ensures in (
      (λ has. absurd (subst HasPlan c.clash-in-Some-3.ensures has)),
      (λ have. absurd (no_times-IsClash p (windows_in table) routes groups (record { shipment = c.in-Some-3.late.leg.shipment; leg = c.in-Some-3.late.leg.leg }) c.in-Some-3.late.value
          (option_map (λ (w : Window). w.hi) (window_of (windows_in table) routes c.in-Some-3.late.leg)) (IsClash-IsLate p (windows_in table) routes groups c.in-Some-3.late late) have)),
    )

pub returns-clause-times : goal.returns-clause-times
returns-clause-times c =
    let p = c.args.instance.now in
    let table = c.args.windows.now in
    let routes : List (List ℕ) = lists_of c.args.routes.now in
    let groups : List (List Member) = lists_of c.args.groups.now in
    let width : ℕ = c.longest-width.result in
    let settled : AreRising p (windows_in table) routes groups c.in_ok-numbers.numbers.width (λ (m : Member). ⊥) (state_of c.settle.new.self) × (c.settle.new.self.waiting.items ≡ []) =
    subst (λ (o : Option Late). MatchOption o (AreRising p (windows_in table) routes groups c.in_ok-numbers.numbers.width (λ (m : Member). ⊥) (state_of c.settle.new.self) × (c.settle.new.self.waiting.items ≡ [])) (IsLate p (windows_in table) routes groups)) c.in_default-3.is c.in_ok-late-2.ensures in
    let least : AreLeastTimes p (windows_in table) routes groups (departure c.in_ok-plan.plan) =
    AreLeastTimes-same p (windows_in table) routes groups (value_at c.in_ok-numbers.numbers.width c.settle.new.self.values.items) (departure c.in_ok-plan.plan)
    (λ m is. c.in_ok-plan.ensures.times m is ∙ ap₂ (λ (w : ℕ) (vs : List ℕ). value_at w vs m) (sym c.in_ok-numbers.ensures.width) c.deref.ensures.value) c.requires.groups.members
    (AreLeastTimes-settled p (windows_in table) routes groups c.in_ok-numbers.numbers.width (state_of c.settle.new.self) settled.0 settled.1) in
    let arcs : arc_lists c.in_ok-plan.plan ≡ routes = c.in_ok-plan.ensures.arcs in
    let own_routes : AllZip (IsRoute p) p.shipments (arc_lists c.in_ok-plan.plan) = subst (AllZip (IsRoute p) p.shipments) (sym arcs) c.requires.routes in
    let own : AreTimes p (windows_in table) (arc_lists c.in_ok-plan.plan) groups 1 (departure c.in_ok-plan.plan) =
    subst (λ (rs : List (List ℕ)). AreTimes p (windows_in table) rs groups 1 (departure c.in_ok-plan.plan)) (sym arcs) least.are in
    let long : length c.in_ok-plan.plan ≡ length p.shipments =
    omega (arith, routes-long p p.shipments routes c.requires.routes, ap (λ (rs : List (List ℕ)). length rs) arcs, length-map c.in_ok-plan.plan arcs_of) in
    record {
      arcs = arcs;
      least = least;
      plan = IsPlan-AreTimes p table groups 1 c.in_ok-plan.plan c.requires.belongs own_routes own long;
      within = PlanLiesWithin-AreTimes p table groups 1 c.in_ok-plan.plan c.requires.belongs own_routes own;
    }

pub returns-clause-exact : goal.returns-clause-exact
returns-clause-exact c =
    let p = c.args.instance.now in
    let table = c.args.windows.now in
    let routes : List (List ℕ) = lists_of c.args.routes.now in
    let groups : List (List Member) = lists_of c.args.groups.now in
    let width : ℕ = c.longest-width.result in
    let settled : AreRising p (windows_in table) routes groups c.in_ok-numbers.numbers.width (λ (m : Member). ⊥) (state_of c.settle.new.self) × (c.settle.new.self.waiting.items ≡ []) =
    subst (λ (o : Option Late). MatchOption o (AreRising p (windows_in table) routes groups c.in_ok-numbers.numbers.width (λ (m : Member). ⊥) (state_of c.settle.new.self) × (c.settle.new.self.waiting.items ≡ [])) (IsLate p (windows_in table) routes groups)) c.in_default-3.is c.in_ok-late-2.ensures in
    let least : AreLeastTimes p (windows_in table) routes groups (departure c.in_ok-plan.plan) =
    AreLeastTimes-same p (windows_in table) routes groups (value_at c.in_ok-numbers.numbers.width c.settle.new.self.values.items) (departure c.in_ok-plan.plan)
    (λ m is. c.in_ok-plan.ensures.times m is ∙ ap₂ (λ (w : ℕ) (vs : List ℕ). value_at w vs m) (sym c.in_ok-numbers.ensures.width) c.deref.ensures.value) c.requires.groups.members
    (AreLeastTimes-settled p (windows_in table) routes groups c.in_ok-numbers.numbers.width (state_of c.settle.new.self) settled.0 settled.1) in
    ((λ has. (1, departure c.in_ok-plan.plan, omega arith, least.are)), (λ have. tt))

pub clash-requires-clause-shipment : goal.clash-requires-clause-shipment
clash-requires-clause-shipment c =
    let p = c.args.instance.now in
    let table = c.args.windows.now in
    let routes : List (List ℕ) = lists_of c.args.routes.now in
    let groups : List (List Member) = lists_of c.args.groups.now in
    let width : ℕ = c.longest-width.result in
    let bad : IsMemberOf routes c.in-Some.leg × (window_of (windows_in table) routes c.in-Some.leg ≡ None) =
    subst (λ (o : Option Member). MatchOption o
    ((m : Member) → IsMemberOf routes m → IsSomeAnd (window_of (windows_in table) routes m) (λ w. value_at width c.start.new.values m ≡ w.lo))
    (λ m. IsMemberOf routes m × (window_of (windows_in table) routes m ≡ None))) c.in-Some.is c.start.ensures in
    omega (arith, bad.0.shipment, rows-long p table routes c.requires.belongs c.requires.routes)

pub clash-requires-clause-arc : goal.clash-requires-clause-arc
clash-requires-clause-arc c =
    let p = c.args.instance.now in
    let table = c.args.windows.now in
    let routes : List (List ℕ) = lists_of c.args.routes.now in
    let groups : List (List Member) = lists_of c.args.groups.now in
    let width : ℕ = c.longest-width.result in
    let bad : IsMemberOf routes c.in-Some.leg × (window_of (windows_in table) routes c.in-Some.leg ≡ None) =
    subst (λ (o : Option Member). MatchOption o
    ((m : Member) → IsMemberOf routes m → IsSomeAnd (window_of (windows_in table) routes m) (λ w. value_at width c.start.new.values m ≡ w.lo))
    (λ m. IsMemberOf routes m × (window_of (windows_in table) routes m ≡ None))) c.in-Some.is c.start.ensures in
    routes-exist p table routes c.requires.belongs c.requires.routes c.in-Some.leg.shipment [] bad.0.shipment c.in-Some.leg.leg 0 bad.0.leg

pub group_numbers-requires-clause-few : goal.group_numbers-requires-clause-few
group_numbers-requires-clause-few c =
    let rows : length (lists_of c.args.routes.now) * c.longest-width.result ≡ length c.args.routes.now * c.longest-width.result =
    ap (λ (n : ℕ). n * c.longest-width.result) (length-lists_of c.args.routes.now) in
    omega (arith, rows, tables-small c.args.instance.now c.args.windows.now (lists_of c.args.routes.now) c.requires.belongs c.requires.routes c.longest-width.result c.longest-width.ensures.short)

pub all_legs-requires-clause-few : goal.all_legs-requires-clause-few
all_legs-requires-clause-few c =
    omega (
      arith,
      routes-long c.args.instance.now c.args.instance.now.shipments (lists_of c.args.routes.now) c.requires.routes,
      length-lists_of c.args.routes.now,
      c.requires.belongs.valid.parts.few_shipments,
    )

pub clash-requires-in-Some-2-clause-arc : goal.clash-requires-in-Some-2-clause-arc
clash-requires-in-Some-2-clause-arc c =
    let p = c.args.instance.now in
    let table = c.args.windows.now in
    let routes : List (List ℕ) = lists_of c.args.routes.now in
    let groups : List (List Member) = lists_of c.args.groups.now in
    let late : IsLate p (windows_in table) routes groups c.in-Some-2.late =
    subst (λ (o : Option Late). MatchOption o (AreRising p (windows_in table) routes groups c.in_ok-numbers.numbers.width (λ (m : Member). ⊥) (state_of c.gather.new.self)) (IsLate p (windows_in table) routes groups)) c.in-Some-2.is c.in_ok-late.ensures in
    routes-exist p table routes c.requires.belongs c.requires.routes c.in-Some-2.late.leg.shipment [] late.member.shipment c.in-Some-2.late.leg.leg 0 late.member.leg

pub timed_plan-requires-clause-few : goal.timed_plan-requires-clause-few
timed_plan-requires-clause-few c =
    let p = c.args.instance.now in
    let table = c.args.windows.now in
    let routes : List (List ℕ) = lists_of c.args.routes.now in
    let groups : List (List Member) = lists_of c.args.groups.now in
    let width : ℕ = c.longest-width.result in
    let settled : AreRising p (windows_in table) routes groups c.in_ok-numbers.numbers.width (λ (m : Member). ⊥) (state_of c.settle.new.self) × (c.settle.new.self.waiting.items ≡ []) =
    subst (λ (o : Option Late). MatchOption o (AreRising p (windows_in table) routes groups c.in_ok-numbers.numbers.width (λ (m : Member). ⊥) (state_of c.settle.new.self) × (c.settle.new.self.waiting.items ≡ [])) (IsLate p (windows_in table) routes groups)) c.in_default-3.is c.in_ok-late-2.ensures in
    let rows : length routes * c.in_ok-numbers.numbers.width ≡ length routes * width = ap (λ (w : ℕ). length routes * w) c.in_ok-numbers.ensures.width in
    omega (
      arith,
      settled.0.are.values,
      rows,
      ap (λ (ns : List ℕ). length ns) c.deref.ensures.value,
      tables-small p table routes c.requires.belongs c.requires.routes width c.longest-width.ensures.short,
    )
