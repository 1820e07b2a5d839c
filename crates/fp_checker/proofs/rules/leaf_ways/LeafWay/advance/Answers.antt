use Rattle.std.proofs.Common.{◌≡◌, Bool, true, false, List, ◌∷◌, refl, sym, ap, ◌∙◌}
use Rattle.std.specs.Prelude.{not}
use Rattle.std.proofs.lemmas.Bool.{false≢true}
use Rattle.fp_tree.specs.declared.ways.Step.{Step}
use Rattle.fp_tree.specs.Ways.{pending_on, way_sides}
use Rattle.fp_checker.specs.LeafWays.{steps_of}
use Rattle.fp_checker.proofs.LeafWays.{pending-passed, pending-turned}
use Rattle.fp_checker.proofs.rules.leaf_ways.LeafWay.advance.Goals as goal

off : (b : Bool) → not b ≡ true → b ≡ false
off true h = absurd (false≢true h)
off false h = refl

on : (b : Bool) → not b ≡ false → b ≡ true
on true h = refl
on false h = absurd (false≢true (sym h))

pub returns-then-not-step-clause-pending : goal.returns-then-not-step-clause-pending
returns-then-not-step-clause-pending c =
    sym c.loop-step.invariant.pending ∙ ap pending_on c.in-Some.ensures.some ∙ pending-turned (steps_of c.pop.new.self) c.in-Some.step (off c.in-Some.step.later c.if-not-step.true)
    ∙ ap (λ (way : List Step). way_sides way ∷ pending_on way) (sym c.in_ok-turned.ensures.steps)

pub loop-step-preserved : goal.loop-step-preserved
loop-step-preserved c = record {
  kept = c.in-Some.ensures.kept;
  pending = sym (ap pending_on c.in-Some.ensures.some ∙ pending-passed (steps_of c.pop.new.self) c.in-Some.step (on c.in-Some.step.later c.if-not-step.false)) ∙ c.loop-step.invariant.pending;
}
