-- A whole network stays whole.
use Rattle.std.proofs.Common.{◌≡◌, ℕ, ◌+◌, ap, ◌∙◌}
use Rattle.fp_model.specs.declared.parts.Arc.{Arc}
use Rattle.fp_model.specs.Problem.{Problem, arc_at}
use Rattle.fp_model.specs.Routes.{step}
use Rattle.fp_longestarcs.specs.Networks.{TimedNetwork, point_count}
use Rattle.fp_longestarcs.specs.Changes.{refined, restored}
use Rattle.fp_longestarcs.proofs.PointCounts.{count-with}
use Rattle.fp_longestarcs.proofs.EqualNetworks.{lengthened-equal}
use Rattle.fp_longestarcs.proofs.ShortCopies.{head-within, lengthened-arc}
use Rattle.fp_longestarcs.proofs.ShortCopies.{reach_is_new}
use Rattle.fp_longestarcs.proofs.networks.Network.lengthen.Goals as goal

-- what refining and restoring leave
lengthened : (p : Problem) (old finer net : TimedNetwork) (arc point step_length : ℕ) (taken : Arc) → taken ≡ arc_at p arc → step_length ≡ step p arc → finer ≡ refined p old taken.to (point + step_length) → net ≡ restored p finer taken.to (point + step_length) →
    net ≡ restored p (refined p old (arc_at p arc).to (point + step p arc)) (arc_at p arc).to (point + step p arc)
lengthened p old finer net arc point step_length taken is long first then =
    then ∙ ap (λ (n : TimedNetwork). restored p n taken.to (point + step_length)) first ∙
    ap (λ (a : Arc). restored p (refined p old a.to (point + step_length)) a.to (point + step_length)) is ∙
    ap (λ (n : ℕ). restored p (refined p old (arc_at p arc).to (point + n)) (arc_at p arc).to (point + n)) long

pub refine-requires-clause-new : goal.refine-requires-clause-new
refine-requires-clause-new c =
    rw (c.arc-terminal.ensures.same, c.step.ensures.same) (reach_is_new c.args.instance.now c.args.self.now c.args.arc c.args.point c.requires.whole c.requires.class c.requires.short)

pub returns-clause-whole : goal.returns-clause-whole
returns-clause-whole c =
    rw (lengthened c.args.instance.now c.args.self.now c.refine.new.self c.restore.new.self c.args.arc c.args.point c.step.result c.arc-terminal.result c.arc-terminal.ensures.same c.step.ensures.same c.in_ok-refine.ensures.ok c.restore.ensures)
    (lengthened-arc c.args.instance.now c.args.self.now c.args.arc c.args.point c.arc-terminal.ensures.valid c.requires.whole c.requires.class c.requires.short c.requires.in_time)

pub returns-clause-equal : goal.returns-clause-equal
returns-clause-equal c v round net made also =
    let p : Problem = c.args.instance.now in
    let old : TimedNetwork = c.args.self.now in
    lengthened p old c.refine.new.self c.restore.new.self c.args.arc c.args.point c.step.result c.arc-terminal.result c.arc-terminal.ensures.same c.step.ensures.same c.in_ok-refine.ensures.ok c.restore.ensures ∙
    lengthened-equal p old net (arc_at p c.args.arc).to (c.args.point + step p c.args.arc) round v (head-within p old c.args.arc c.arc-terminal.ensures.valid c.requires.whole c.requires.class.0) c.requires.whole.arcs
    (lengthened-arc p old c.args.arc c.args.point c.arc-terminal.ensures.valid c.requires.whole c.requires.class c.requires.short c.requires.in_time) made also

pub returns-clause-count : goal.returns-clause-count
returns-clause-count c =
    let p : Problem = c.args.instance.now in
    let old : TimedNetwork = c.args.self.now in
    ap (λ (n : TimedNetwork). point_count n)
    (lengthened p old c.refine.new.self c.restore.new.self c.args.arc c.args.point c.step.result c.arc-terminal.result c.arc-terminal.ensures.same c.step.ensures.same c.in_ok-refine.ensures.ok c.restore.ensures) ∙
    count-with old (arc_at p c.args.arc).to (c.args.point + step p c.args.arc) c.requires.whole.valid (head-within p old c.args.arc c.arc-terminal.ensures.valid c.requires.whole c.requires.class.0)
