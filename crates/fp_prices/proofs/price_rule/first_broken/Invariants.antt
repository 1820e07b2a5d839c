use Rattle.std.proofs.Common.{take}
use Rattle.std.specs.Prelude.{All}
use Rattle.fp_model.specs.Problem.{arc_at}
use Rattle.fp_prices.specs.Prices.{KeepsRule}
use Rattle.fp_prices.specs.Shares.{ClassShare}
use Rattle.fp_prices.proofs.price_rule.first_broken.Given as goal

-- the shares so far keep the rule
abbrev pub invariant-loop-number : goal.invariant-loop-number
invariant-loop-number l = All (λ (s : ClassShare). KeepsRule l.instance.scale (arc_at l.instance s.arc) s) (take l.number l.shares)
