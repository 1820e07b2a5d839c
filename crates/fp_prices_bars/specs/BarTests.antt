-- Which classes of a shipment are barred, by the least costs of its walks that have them.
use Rattle.std.specs.Prelude.{ℕ, ◌+◌, ◌-◌, Bool, true, ◌&&◌, nat_le, List, Option, None, Some}
use Rattle.std.specs.Int.{div_ceil}
use Rattle.fp_labels.specs.Walks.{cost_of}
use Rattle.fp_allowed.specs.Bits.{bit_of}
use Rattle.fp_prices_bars.specs.declared.bar_tests.BarTest.{BarTest}

-- whether a class is barred for a shipment, where this is the least cost of its walks that have the class, or nothing where there are none
abbrev pub bars_by : BarTest → Option ℕ → Bool
bars_by test None = true
bars_by test (Some cost) = nat_le test.limit.money (div_ceil (test.rest + cost - test.charges + test.limit.more - test.limit.less) test.scale)

-- whether the class with a number is barred for a shipment: it is allowed, and barred by the least cost through it
abbrev pub is_barred_by : BarTest → (row : List Bool) → (through : List (Option ℕ)) → ℕ → Bool
is_barred_by test row through n = bit_of row n && bars_by test (cost_of through n)
