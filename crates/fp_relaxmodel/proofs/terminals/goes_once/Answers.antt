use Rattle.std.proofs.Common.{◌≡◌, ◌<◌, ℕ, List, ◌∷◌, ap, arith, length, rules, subst, sym}
use Rattle.std.specs.Prelude.{IsTrue, Some, slice_get, ◌↔◌}
use Rattle.fp_base_lists.specs.Distinct.{AreDistinct}
use Rattle.fp_model.specs.declared.parts.Arc.{Arc}
use Rattle.fp_model.specs.Problem.{arc_at}
use Rattle.fp_relaxmodel.proofs.MetTerminals.{arc-within, entered_by, on-first}
use Rattle.fp_relaxmodel.proofs.WrittenStops.{first-exists}
use Rattle.fp_relaxmodel.proofs.terminals.goes_once.Goals as goal

pub arc-requires : goal.arc-requires
arc-requires c =
    let is : slice_get c.args.stops.now 0 ≡ Some c.in-Some.first.now = search rules in
    first-exists c.args.instance.now c.args.stops.now c.in-Some.first.now c.requires is

pub are_apart-requires-clause-tail : goal.are_apart-requires-clause-tail
are_apart-requires-clause-tail c =
    let is : slice_get c.args.stops.now 0 ≡ Some c.in-Some.first.now = search rules in
    let exists : c.in-Some.first.now.arc < length c.args.instance.now.arcs = first-exists c.args.instance.now c.args.stops.now c.in-Some.first.now c.requires is in
    let from : c.arc.result.from ≡ (arc_at c.args.instance.now c.in-Some.first.now.arc).from = ap (λ (a : Arc). a.from) c.arc.ensures.same in
    omega (arith, from, (arc-within c.args.instance.now c.in-Some.first.now.arc c.arc.ensures.valid exists).0)

-- the terminals on the walk are the tail of its first arc and those that its arcs enter
pub returns-in-Some : goal.returns-in-Some
returns-in-Some c =
    let is : slice_get c.args.stops.now 0 ≡ Some c.in-Some.first.now = search rules in
    let from : c.arc.result.from ≡ (arc_at c.args.instance.now c.in-Some.first.now.arc).from = ap (λ (a : Arc). a.from) c.arc.ensures.same in
    subst (λ (terminals : List ℕ). IsTrue c.are_apart.result ↔ AreDistinct terminals) (sym (on-first c.args.instance.now c.args.stops.now c.in-Some.first.now is))
    (subst (λ (tail : ℕ). IsTrue c.are_apart.result ↔ AreDistinct (tail ∷ entered_by c.args.instance.now c.args.stops.now)) from c.are_apart.ensures)
