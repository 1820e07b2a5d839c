use Rattle.std.proofs.Common.{ℕ, ◌+◌, ◌-◌, ◌/◌, ◌<◌, arith}
use Rattle.fp_allowed.proofs.MiddleClasses.{IsLastSet, IsLater, later_or, middle_at, none_at_most, one_at_most, parted_at}
use Rattle.fp_allowed.proofs.choices.middle_point.Goals as goal

pub returns-in_err-first-clause-parted : goal.returns-in_err-first-clause-parted
returns-in_err-first-clause-parted c =
    rw c.from_residual.ensures
    (none_at_most c.args.network.now c.args.row.now c.args.arc c.class_range-start.result.0 c.class_range-start.result.1 c.requires.valid c.requires.arc c.class_range-start.ensures.range c.in_err-first.ensures)

pub returns-in_err-second-clause-parted : goal.returns-in_err-second-clause-parted
returns-in_err-second-clause-parted c =
    rw c.from_residual-in_err-second.ensures
    (one_at_most c.args.network.now c.args.row.now c.args.arc c.class_range-start.result.0 c.class_range-start.result.1 c.requires.valid c.requires.arc c.class_range-start.ensures.range
    c.in_ok-first.first c.in_ok-first.ensures c.in_err-second.ensures)

pub returns-clause-parted : goal.returns-clause-parted
returns-clause-parted c =
    let first : ℕ = c.in_ok-first.first in
    let second : ℕ = c.in_ok-second.second in
    let later : IsLater c.args.row.now first c.class_range-start.result.1 second = record { after = omega (arith, c.in_ok-second.ensures.0); before = c.in_ok-second.ensures.1; set = c.in_ok-second.ensures.2 } in
    let after : first < first + (c.last_set-last.result - first + 1) / 2 = omega (arith, c.in_ok-second.ensures.0, c.last_set-last.ensures.from) in
    let middle = later_or c.args.row.now first c.class_range-start.result.1 (first + (c.last_set-last.result - first + 1) / 2) second c.first_set-3.result later after c.first_set-3.ensures in
    rw (c.points.ensures.same, c.unwrap_or-middle.ensures)
    (parted_at c.args.network.now c.args.row.now c.args.arc c.class_range-start.result.0 c.class_range-start.result.1 c.requires.valid c.requires.arc c.class_range-start.ensures.range
    first _ c.args.tail c.in_ok-first.ensures middle c.requires.tail)

pub returns-clause-middle : goal.returns-clause-middle
returns-clause-middle c =
    let first : ℕ = c.in_ok-first.first in
    let last : ℕ = c.last_set-last.result in
    let ends : IsLastSet c.args.row.now first c.class_range-start.result.1 last = record {
      from = omega (arith, c.in_ok-second.ensures.0, c.last_set-last.ensures.from);
      before = c.last_set-last.ensures.to;
      set = c.last_set-last.ensures.set;
      none = c.last_set-last.ensures.none;
    } in
    rw (c.points.ensures.same, c.unwrap_or-middle.ensures)
    (middle_at c.args.network.now c.args.row.now c.args.arc c.class_range-start.result.0 c.class_range-start.result.1 c.requires.valid c.requires.arc c.class_range-start.ensures.range
    first last c.in_ok-second.second c.args.tail c.first_set-3.result c.in_ok-first.ensures ends c.first_set-3.ensures c.requires.tail)
