-- The slice that was searched is the timeline.
use Rattle.std.proofs.Common.{◌≡◌, ◌<◌, ◌-◌, get_or, sym, subst, arith}
use Rattle.std.specs.Prelude.{ℕ}
use Rattle.std.proofs.lemmas.Bool.{ne_eqb, eq-eqb}
use Rattle.fp_timenodes.specs.Stamps.{IsStampCut}
use Rattle.fp_timenodes.proofs.StampSearch.{no_stamp, has-at-cut, none-at-cut}
use Rattle.fp_timenodes.proofs.timelines.Timeline.has.Goals as goal

pub returns-then-end-eq0 : goal.returns-then-end-eq0
returns-then-end-eq0 c =
    let searched : c.as_slice-stamps.result.now ≡ c.args.self.now = cc in
    rw (← searched)
    (sym (none-at-cut c.as_slice-stamps.result.now c.args.at c.args.round (subst (λ (k : ℕ). IsStampCut c.as_slice-stamps.result.now c.args.at k) c.if-end-eq0.true c.count_until-end.ensures)))

-- what the last stamp before the cut says, for either result of the first test
pub returns-then-last-at : goal.returns-then-last-at
returns-then-last-at c =
    let searched : c.as_slice-stamps.result.now ≡ c.args.self.now = cc in
    let some : 0 < c.count_until-end.result = omega arith in
    let shows = has-at-cut c.as_slice-stamps.result.now c.args.at c.args.round c.count_until-end.result c.count_until-end.ensures some in
    let same = eq-eqb (get_or c.as_slice-stamps.result.now (c.count_until-end.result - 1) no_stamp).at c.args.at c.if-last-at.true in
    rw (← searched) (sym (rw same at shows))

pub returns-else-last-at : goal.returns-else-last-at
returns-else-last-at c =
    let searched : c.as_slice-stamps.result.now ≡ c.args.self.now = cc in
    let some : 0 < c.count_until-end.result = omega arith in
    let shows = has-at-cut c.as_slice-stamps.result.now c.args.at c.args.round c.count_until-end.result c.count_until-end.ensures some in
    let other = ne_eqb (get_or c.as_slice-stamps.result.now (c.count_until-end.result - 1) no_stamp).at c.args.at c.if-last-at.false in
    rw (← searched, other) (sym (rw other at shows))
