use Rattle.std.proofs.Common.{◌≡◌, ◌≤◌, ◌+◌, ℕ, None, List, length, sym, ap, subst, arith}
use Rattle.std.specs.Prelude.{Option, slice_index_or, slice_set}
use Rattle.fp_model.specs.declared.parts.Arc.{Arc}
use Rattle.fp_model.specs.Problem.{arc_at}
use Rattle.fp_flatnet.specs.Directs.{IsFirstBelow}
use Rattle.fp_flatnet.proofs.FirstArcs.{first-set, first-whole}
use Rattle.fp_flatnet.proofs.direct_routes.onward_arcs.Goals as goal

pub loop-number-preserved : goal.loop-number-preserved
loop-number-preserved c =
    let p = c.args.instance.now in
    let n = c.loop-number.number in
    let onward : List (Option ℕ) = c.loop-number.onward.items in
    let long : length p.terminals ≤ length onward = omega (arith, c.loop-number.onward.ok, c.loop-number.invariant.0) in
    let tail : (arc_at p n).from ≡ c.arc-arc.result.from = ap (λ (a : Arc). a.from) (sym c.arc-arc.ensures.same) in (
      c.loop-number.invariant.0,
      λ here lt.
          subst (λ (t : ℕ). IsFirstBelow p c.args.there (n + 1) here (slice_index_or (slice_set onward t c.first_onward.result) here None)) tail
          (first-set p c.args.there n onward c.first_onward.result (length p.terminals) long c.loop-number.invariant.1 c.first_onward.ensures here lt),
    )

pub returns : goal.returns
returns c =
    let p = c.args.instance.now in
    let all : length p.arcs ≤ c.loop-number.number = rw (← c.arcs-number-end.ensures.same) c.loop-number-test.false in record {
      one_each = omega (arith, c.loop-number.onward.ok, c.loop-number.invariant.0);
      exact = λ here lt. first-whole p c.args.there c.loop-number.number here (slice_index_or c.loop-number.onward.items here None) all (c.loop-number.invariant.1 here lt);
    }
