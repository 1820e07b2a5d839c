use Rattle.std.proofs.Common.{◌≡◌, ◌≢◌, ℕ, Bool, false, List, sym, ap, ◌∙◌, refl}
use Rattle.std.specs.Prelude.{◌&&◌, nat_eq}
use Rattle.std.proofs.lemmas.Bool.{eq-eqb, ne_eqb}
use Rattle.std.proofs.lemmas.List.{drop_all, drop_more}
use Rattle.std.proofs.lemmas.List.Elements.{All-from_recursion}
use Rattle.fp_model.specs.declared.parts.Shipment.{Shipment}
use Rattle.fp_model.specs.Numbered.{shipment_at}
use Rattle.fp_longestarcs.specs.declared.stops.Stop.{Stop}
use Rattle.fp_longestarcs.specs.Networks.{IsClass}
use Rattle.fp_longestarcs.specs.Stops.{legs_of}
use Rattle.fp_prices.proofs.TimedWalks.{at_origin, goes-classes, goes-none, goes-some, goes-walk, goes_on}
use Rattle.fp_prices.proofs.graphs.timed_walks.is_timed_walk.Goals as goal

-- whether it stands at the end, and whether nothing is left, one after the other
ends-there : (t there rest : ℕ) → t ≡ there → nat_eq rest 0 ≡ (nat_eq t there && nat_eq rest 0)
ends-there t there rest same = sym (ap (λ (b : Bool). b && nat_eq rest 0) (eq-eqb t there same))

ends-elsewhere : (t there rest : ℕ) → t ≢ there → nat_eq t there ≡ (nat_eq t there && nat_eq rest 0)
ends-elsewhere t there rest other = ne_eqb t there other ∙ sym (ap (λ (b : Bool). b && nat_eq rest 0) (ne_eqb t there other))

pub loop-class-init : goal.loop-class-init
loop-class-init c =
    ap (λ (s : Shipment). goes_on c.args.instance.now c.args.network.now c.args.costs.now (shipment_at c.args.instance.now c.args.shipment).to (legs_of c.args.walk.now) (at_origin s c.args.cost)) (sym c.shipment-ends.ensures.same)

pub loop-class-preserved : goal.loop-class-preserved
loop-class-preserved c =
    let p = c.args.instance.now in
    let net = c.args.network.now in
    let to : ℕ = (shipment_at p c.args.shipment).to in
    c.loop-class.invariant
    ∙ ap (λ (w : List Stop). goes_on p net c.args.costs.now to (legs_of w) c.loop-class.progress) (drop_more c.args.walk.now c.loop-class.class-index (record { arc = 0; point = 0 }) c.loop-class-test.true)
    ∙ goes-some p net c.args.costs.now to _ _ c.loop-class.progress c.in-Some.next (sym c.after_class.ensures ∙ c.in-Some.is)

pub returns-in-None-clause-exact : goal.returns-in-None-clause-exact
returns-in-None-clause-exact c = λ allowed price classes holds.
    let p = c.args.instance.now in
    let net = c.args.network.now in
    let s : Shipment = shipment_at p c.args.shipment in
    let fails =
    c.loop-class.invariant
    ∙ ap (λ (w : List Stop). goes_on p net c.args.costs.now s.to (legs_of w) c.loop-class.progress) (drop_more c.args.walk.now c.loop-class.class-index (record { arc = 0; point = 0 }) c.loop-class-test.true)
    ∙ goes-none p net c.args.costs.now s.to _ _ c.loop-class.progress (sym c.after_class.ensures ∙ c.in-None.is) in
    goes-walk p net c.args.costs.now s.to allowed price s.size c.requires.whole classes holds s refl refl (legs_of c.args.walk.now) c.args.cost false (sym fails)

pub returns-then-progress-ends-clause-exact : goal.returns-then-progress-ends-clause-exact
returns-then-progress-ends-clause-exact c = λ allowed price classes holds.
    let p = c.args.instance.now in
    let net = c.args.network.now in
    let s : Shipment = shipment_at p c.args.shipment in
    let over = c.loop-class.invariant ∙ ap (λ (w : List Stop). goes_on p net c.args.costs.now s.to (legs_of w) c.loop-class.progress) (drop_all c.loop-class.class-index c.args.walk.now c.loop-class-test.false) in
    goes-walk p net c.args.costs.now s.to allowed price s.size c.requires.whole classes holds s refl refl (legs_of c.args.walk.now) c.args.cost (nat_eq c.loop-class.progress.rest 0)
    (ends-there c.loop-class.progress.terminal s.to c.loop-class.progress.rest (c.if-progress-ends.true ∙ ap (λ (t : Shipment). t.to) c.shipment-ends.ensures.same) ∙ sym over)

pub returns-then-progress-ends-clause-classes : goal.returns-then-progress-ends-clause-classes
returns-then-progress-ends-clause-classes c = λ told.
    let p = c.args.instance.now in
    let net = c.args.network.now in
    let s : Shipment = shipment_at p c.args.shipment in
    let over = c.loop-class.invariant ∙ ap (λ (w : List Stop). goes_on p net c.args.costs.now s.to (legs_of w) c.loop-class.progress) (drop_all c.loop-class.class-index c.args.walk.now c.loop-class-test.false) in
    All-from_recursion (IsClass net) (legs_of c.args.walk.now)
    (goes-classes p net c.args.costs.now s.to (legs_of c.args.walk.now) (at_origin s c.args.cost)
    (over ∙ sym (ends-there c.loop-class.progress.terminal s.to c.loop-class.progress.rest (c.if-progress-ends.true ∙ ap (λ (t : Shipment). t.to) c.shipment-ends.ensures.same)) ∙ told))

pub returns-else-progress-ends-clause-exact : goal.returns-else-progress-ends-clause-exact
returns-else-progress-ends-clause-exact c = λ allowed price classes holds.
    let p = c.args.instance.now in
    let net = c.args.network.now in
    let s : Shipment = shipment_at p c.args.shipment in
    let to : c.shipment-ends.result.now.to ≡ s.to = ap (λ (t : Shipment). t.to) c.shipment-ends.ensures.same in
    let over = c.loop-class.invariant ∙ ap (λ (w : List Stop). goes_on p net c.args.costs.now s.to (legs_of w) c.loop-class.progress) (drop_all c.loop-class.class-index c.args.walk.now c.loop-class-test.false) in
    goes-walk p net c.args.costs.now s.to allowed price s.size c.requires.whole classes holds s refl refl (legs_of c.args.walk.now) c.args.cost (nat_eq c.loop-class.progress.terminal c.shipment-ends.result.now.to)
    (ap (λ (t : ℕ). nat_eq c.loop-class.progress.terminal t) to ∙ ends-elsewhere c.loop-class.progress.terminal s.to c.loop-class.progress.rest (λ same. c.if-progress-ends.false (same ∙ sym to)) ∙ sym over)
