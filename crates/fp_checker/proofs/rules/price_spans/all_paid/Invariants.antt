use Rattle.std.proofs.Common.{◌<◌, ℕ, [], false}
use Rattle.std.specs.Prelude.{slice_index_or}
use Rattle.fp_flatnet.specs.Tables.{windows_in}
use Rattle.fp_prices_spans.specs.MomentRuns.{first_points}
use Rattle.fp_certificate_rules.specs.Prices.{ArePricesBeside}
use Rattle.fp_checker.proofs.rules.price_spans.all_paid.Given as goal

-- the spans and the gifts that were passed are paid, or only listed
abbrev pub invariant-loop-place : goal.invariant-loop-place
invariant-loop-place l =
    (k : ℕ) → k < l.place → ArePricesBeside (slice_index_or l.moments k false) l.instance (windows_in l.windows) (first_points l.points) (slice_index_or l.spans k []) (slice_index_or l.gifts k [])
