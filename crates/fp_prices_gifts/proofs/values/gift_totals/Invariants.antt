use Rattle.std.proofs.Common.{drop}
use Rattle.fp_longestarcs.specs.Networks.{points_in}
use Rattle.fp_prices_gifts.proofs.GivenSums.{IsGivenFrom}
use Rattle.fp_prices_gifts.proofs.values.gift_totals.Given as goal

-- what the gifts from a place on give
abbrev pub invariant-loop-place : goal.invariant-loop-place
invariant-loop-place l = IsGivenFrom l.instance (points_in l.network) l.sides (drop l.place l.gifts) l.least l.most
