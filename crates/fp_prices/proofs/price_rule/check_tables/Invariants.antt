use Rattle.std.proofs.Common.{List, take}
use Rattle.std.specs.Prelude.{All}
use Rattle.std.specs.List.{AllByRecursion}
use Rattle.fp_model.specs.Problem.{arc_at}
use Rattle.fp_prices.specs.Prices.{KeepsRule}
use Rattle.fp_prices.specs.Shares.{ClassShare}
use Rattle.fp_prices.proofs.price_rule.check_tables.Given as goal

-- the tables so far keep the rule
abbrev pub invariant-loop-place : goal.invariant-loop-place
invariant-loop-place l =
    All (λ (table : List ClassShare). AllByRecursion (λ (s : ClassShare). KeepsRule l.instance.scale (arc_at l.instance s.arc) s) table) (take l.place l.tables)
