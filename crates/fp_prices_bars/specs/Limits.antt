-- From which value on a class is barred.
use Rattle.std.specs.Prelude.{ℕ, ◌+◌, ◌-◌, ◌≤◌}
use Rattle.std.specs.Int.{div_ceil}
use Rattle.fp_prices_bars.specs.declared.limits.BarLimit.{BarLimit}

-- a value by spans, with what is given added and what is taken off, and at least 0, is worth the money of a limit in whole units of money,
-- rounded up
abbrev pub ReachesLimit : BarLimit → (scale value : ℕ) → Type 0
ReachesLimit limit scale value = limit.money ≤ div_ceil (value + limit.more - limit.less) scale
