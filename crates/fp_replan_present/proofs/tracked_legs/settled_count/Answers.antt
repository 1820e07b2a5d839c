use Rattle.std.proofs.Common.{◌≡◌, false, drop, subst, sym, ◌∙◌, arith}
use Rattle.std.specs.List.{list_any}
use Rattle.fp_replan_present.specs.Days.{is_fixed}
use Rattle.fp_replan_present.proofs.SettledLegs.{IsCut, passes-at, settled-cut}
use Rattle.fp_replan_present.proofs.tracked_legs.settled_count.Goals as goal

pub returns-then-is_fixed : goal.returns-then-is_fixed
returns-then-is_fixed c =
    let now = c.args.now in
    let legs = c.args.legs.now in
    let n = c.loop-count.count in
    let cut : IsCut now legs n = record {
      within = c.loop-count.invariant.within;
      none = c.loop-count.invariant.none;
      last = λ i d e. passes-at (is_fixed now) legs i n d _ e c.loop-count.invariant.within (sym c.is_fixed.ensures ∙ c.if-is_fixed.true);
    } in
    let parts = settled-cut now legs n cut in
    record { within = c.loop-count.invariant.within; settled = parts.0; promised = parts.1 }

pub returns : goal.returns
returns c =
    let now = c.args.now in
    let legs = c.args.legs.now in
    let none : c.loop-count.count ≡ 0 = omega (arith, c.loop-count-test.false) in
    let cut : IsCut now legs 0 = record {
      within = omega arith;
      none = subst (λ n. list_any (is_fixed now) (drop n legs) ≡ false) none c.loop-count.invariant.none;
      last = λ i d e. absurd (omega (arith, e));
    } in
    let parts = settled-cut now legs 0 cut in
    record { within = omega arith; settled = parts.0; promised = parts.1 }
