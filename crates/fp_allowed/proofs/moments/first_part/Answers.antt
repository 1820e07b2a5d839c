use Rattle.std.proofs.Common.{◌+◌, Bool, ◌&&◌, List, drop, sym, ap, ◌∙◌, arith}
use Rattle.std.proofs.Math.Bool.{and-true}
use Rattle.std.proofs.lemmas.List.{drop_all}
use Rattle.fp_tree.specs.declared.sides.Side.{Side}
use Rattle.fp_allowed.specs.Moments.{all_let}
use Rattle.fp_allowed.proofs.OpenMoments.{part_step}
use Rattle.fp_allowed.proofs.moments.first_part.Goals as goal

pub loop-side-preserved : goal.loop-side-preserved
loop-side-preserved c = (
  c.alike_until-hi.ensures.first,
  omega (arith, c.alike_until-hi.ensures.last, c.loop-side.invariant.1),
  λ m late early.
      ap (λ (b : Bool). c.loop-side.free && b && all_let c.args.arc m (drop (c.loop-side.side-index + 1) c.args.sides.now)) c.lets_leave-free.ensures
      ∙ part_step c.args.arc c.args.window.lo m c.args.sides.now c.loop-side.side-index _ c.loop-side.free c.loop-side-test.true (c.alike_until-hi.ensures.alike m late early)
      (c.loop-side.invariant.2 m late (omega (arith, early, c.alike_until-hi.ensures.last))),
)

pub returns-clause-alike : goal.returns-clause-alike
returns-clause-alike c = λ m late early.
    sym (c.loop-side.invariant.2 m late early)
    ∙ ap (λ (l : List Side). c.loop-side.free && all_let c.args.arc m l) (drop_all c.loop-side.side-index c.args.sides.now c.loop-side-test.false) ∙ and-true c.loop-side.free
