use Rattle.std.proofs.Common.{◌≡◌, ◌∙◌, ℕ, false, set, sym, ap, subst}
use Rattle.fp_model.specs.declared.parts.Member.{Member}
use Rattle.fp_flatnet.specs.Tables.{windows_in}
use Rattle.fp_dispatch.specs.Rising.{place_of, state_of}
use Rattle.fp_dispatch.specs.Tasks.{AreRisingFor, CanBeFound, TaskModel}
use Rattle.fp_dispatch.proofs.RisingMoments.{AreRising-taken}
use Rattle.fp_dispatch.proofs.rising.Moments.settle.Goals as goal

pub raise_next-requires-clause-rising : goal.raise_next-requires-clause-rising
raise_next-requires-clause-rising c =
    let t : TaskModel = c.args.task.now in
    let task : CanBeFound t = subst CanBeFound c.task.view_is c.task.invariant in
    let place : c.place.result ≡ place_of t.numbers.width c.in-Some.leg = c.place.ensures ∙ ap (λ (m : TaskModel). place_of m.numbers.width c.in-Some.leg) c.task.view_is in
    subst (λ (k : ℕ). AreRisingFor t (λ (m : Member). m ≡ c.in-Some.leg)
    (record { values = c.loop-leg.self.values.items; waits = set c.loop-leg.self.waits.items k false; waiting = c.pop.new.self.items })) (sym place)
    (AreRising-taken t.problem (windows_in t.table) t.routes t.groups t.numbers.width task.wide
    (state_of c.loop-leg.self) c.pop.new.self.items c.in-Some.leg c.in-Some.ensures.items c.loop-leg.invariant)
