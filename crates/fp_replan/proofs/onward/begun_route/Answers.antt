use Rattle.std.proofs.Common.{◌≡◌, ◌∙◌, ◌<◌, ◌≤◌, ◌+◌, ◌++◌, ℕ, List, length, sym, ap, subst, arith}
use Rattle.std.specs.Prelude.{Option, Some, None, All, IsSomeAnd}
use Rattle.std.proofs.lemmas.Bool.{false≢true}
use Rattle.fp_labels.specs.Graphs.{Shape}
use Rattle.fp_labels.specs.Labels.{AreLabels, IsSmallFor, cost_to}
use Rattle.fp_model.specs.declared.parts.Leg.{Leg}
use Rattle.fp_model.specs.Problem.{hold_at}
use Rattle.fp_model.proofs.Validity.{hold_at-le}
use Rattle.fp_flatnet.specs.ArcGraphs.{backward_shape}
use Rattle.fp_replan.specs.KeptLegs.{place_after, places_seen}
use Rattle.fp_replan.specs.Starts.{GoesOnPast, open_costs, ready_after}
use Rattle.fp_replan.proofs.KeptBeginnings.{arcs-exist}
use Rattle.fp_replan.proofs.BegunRoutes.{carries-onward, none-far, none-late, none-unready}
use Rattle.fp_replan.proofs.OnwardWalks.{label-past, open-small, place-inside}
use Rattle.fp_replan.proofs.onward.begun_route.Goals as goal

pub ready_after-requires : goal.ready_after-requires
ready_after-requires c = arcs-exist c.args.instance.now c.args.shipment.now c.args.front.now c.requires.begins

pub place_after-here-requires : goal.place_after-here-requires
place_after-here-requires c = arcs-exist c.args.instance.now c.args.shipment.now c.args.front.now c.requires.begins

pub arrives_by-requires : goal.arrives_by-requires
arrives_by-requires c = arcs-exist c.args.instance.now c.args.shipment.now c.args.front.now c.requires.begins

pub terminals_with-requires : goal.terminals_with-requires
terminals_with-requires c = arcs-exist c.args.instance.now c.args.shipment.now c.args.front.now c.requires.begins

pub returns-in_default : goal.returns-in_default
returns-in_default c = none-unready c.args.instance.now c.args.terminals.now c.args.shipment.now c.args.front.now c.in_default.ensures.ready

pub returns-then-here-shipment : goal.returns-then-here-shipment
returns-then-here-shipment c =
    none-late c.args.instance.now c.args.terminals.now c.args.shipment.now c.args.front.now (sym c.place_after-here.ensures ∙ c.if-here-shipment.true)
    (λ arrives. false≢true (sym c.if-arrives_by.false ∙ c.arrives_by.ensures.1 arrives))

pub distances-requires-clause-costs_small : goal.distances-requires-clause-costs_small
distances-requires-clause-costs_small c =
    let p = c.args.instance.now in
    let nodes = c.args.graph.now.nodes in
    subst (λ (costs : List (Option ℕ)). All (IsSmallFor nodes) costs) (sym (c.deref-2.ensures.value ∙ c.in_ok-costs.ensures))
    (open-small p c.deref.result.now nodes c.arcs-known.ensures.valid (ap (λ (g : Shape). g.nodes) c.requires.graph))

pub is_in_time-requires-clause-here : goal.is_in_time-requires-clause-here
is_in_time-requires-clause-here c =
    let p = c.args.instance.now in
    let s = c.args.shipment.now in
    let inside = place-inside p s.from c.args.front.now (place_after p s.from c.args.front.now) c.arcs-known.ensures.valid c.requires.shipment.from c.requires.begins.leads in
    omega (arith, inside, c.place_after-here.ensures, c.in_ok-labels.ensures.costs_len, ap (λ (g : Shape). g.nodes) c.requires.graph)

pub returns-then-not-is_in_time : goal.returns-then-not-is_in_time
returns-then-not-is_in_time c =
    let p = c.args.instance.now in
    let s = c.args.shipment.now in
    let front : List Leg = c.args.front.now in
    let before : List ℕ = c.args.terminals.now in
    let gone : List ℕ = before ++ places_seen p s.from front in
    let place : ℕ = place_after p s.from front in
    let labels = c.in_ok-labels.labels in
    let most : ℕ = s.due + hold_at p s.to in
    let inside : place < length p.terminals = place-inside p s.from front place c.arcs-known.ensures.valid c.requires.shipment.from c.requires.begins.leads in
    let costs : c.deref-2.result.now ≡ open_costs p gone =
    c.deref-2.ensures.value ∙ c.in_ok-costs.ensures ∙ ap (open_costs p) (c.deref.ensures.value ∙ c.in_ok-gone.ensures) in
    let are : AreLabels (backward_shape p) (open_costs p gone) s.to labels =
    subst (λ (g : Shape). AreLabels g (open_costs p gone) s.to labels) c.requires.graph
    (subst (λ (xs : List (Option ℕ)). AreLabels c.args.graph.now xs s.to labels) costs c.in_ok-labels.ensures) in
    none-far p before s front (cost_to labels place) (λ e. c.if-here-shipment.false (c.place_after-here.ensures ∙ e)) (label-past p gone s.to labels are place inside)
    (λ in_time.
    let told : IsSomeAnd (cost_to labels c.place_after-here.result) (λ n. c.in-Some.ready + n ≤ most) =
    subst (λ h. IsSomeAnd (cost_to labels h) (λ n. c.in-Some.ready + n ≤ most)) (sym c.place_after-here.ensures)
    (subst (λ r. IsSomeAnd (cost_to labels place) (λ n. r + n ≤ most)) (sym c.in-Some.ensures.ready.1) in_time) in
    false≢true (sym c.if-not-is_in_time.true ∙ c.is_in_time.ensures.1 told))

-- what has room beside a number has room
room-beside : (o : Option ℕ) (r most : ℕ) → IsSomeAnd o (λ n. r + n ≤ most) → r ≤ most
room-beside None r most room = absurd room
room-beside (Some n) r most room = omega (arith, room)

pub overflow_cast-ready : goal.overflow_cast-ready
overflow_cast-ready c =
    let room = room-beside (cost_to c.in_ok-labels.labels c.place_after-here.result) c.in-Some.ready (c.args.shipment.now.due + hold_at c.args.instance.now c.args.shipment.now.to)
    (c.is_in_time.ensures.0 c.if-not-is_in_time.false) in
    omega (arith, room, c.requires.shipment.within.due, hold_at-le c.args.instance.now c.args.shipment.now.to c.arcs-known.ensures.valid)

pub returns : goal.returns
returns c =
    let p = c.args.instance.now in
    let s = c.args.shipment.now in
    let front : List Leg = c.args.front.now in
    let before : List ℕ = c.args.terminals.now in
    let gone : List ℕ = before ++ places_seen p s.from front in
    let place : ℕ = place_after p s.from front in
    let labels = c.in_ok-labels.labels in
    let most : ℕ = s.due + hold_at p s.to in
    let inside : place < length p.terminals = place-inside p s.from front place c.arcs-known.ensures.valid c.requires.shipment.from c.requires.begins.leads in
    let costs : c.deref-2.result.now ≡ open_costs p gone =
    c.deref-2.ensures.value ∙ c.in_ok-costs.ensures ∙ ap (open_costs p) (c.deref.ensures.value ∙ c.in_ok-gone.ensures) in
    let are : AreLabels (backward_shape p) (open_costs p gone) s.to labels =
    subst (λ (g : Shape). AreLabels g (open_costs p gone) s.to labels) c.requires.graph
    (subst (λ (xs : List (Option ℕ)). AreLabels c.args.graph.now xs s.to labels) costs c.in_ok-labels.ensures) in
    let in_time : IsSomeAnd (cost_to labels place) (λ n. ready_after p s.release front + n ≤ most) =
    subst (λ r. IsSomeAnd (cost_to labels place) (λ n. r + n ≤ most)) c.in-Some.ensures.ready.1
    (subst (λ h. IsSomeAnd (cost_to labels h) (λ n. c.in-Some.ready + n ≤ most)) c.place_after-here.ensures (c.is_in_time.ensures.0 c.if-not-is_in_time.false)) in
    let goes : GoesOnPast p gone s front c.in_ok-legs.legs.items =
    subst (λ (ls : List Leg). GoesOnPast p gone s ls c.in_ok-legs.legs.items) c.in_ok-begun.ensures
    (subst (λ (ts : List ℕ). GoesOnPast p ts s c.in_ok-begun.begun.items c.in_ok-legs.legs.items) (c.deref-3.ensures.value ∙ c.in_ok-gone.ensures) c.in_ok-legs.ensures) in (
      carries-onward p before s front c.in_ok-legs.legs.items (cost_to labels place) c.arcs-known.ensures.valid c.requires.shipment.ends c.requires.begins c.in-Some.ensures.ready.0
          (λ e. c.if-here-shipment.false (c.place_after-here.ensures ∙ e)) (label-past p gone s.to labels are place inside) in_time goes,
      goes,
    )
