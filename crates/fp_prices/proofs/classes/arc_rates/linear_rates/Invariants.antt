use Rattle.std.proofs.Common.{◌≡◌, map, take}
use Rattle.fp_prices.specs.Rates.{rate_of}
use Rattle.fp_prices.proofs.classes.arc_rates.linear_rates.Given as goal

-- the rates of the arcs so far
abbrev pub invariant-loop-arc : goal.invariant-loop-arc
invariant-loop-arc l = l.rates.items ≡ map (rate_of l.instance.scale) (take l.arc-index l.arc-items)
