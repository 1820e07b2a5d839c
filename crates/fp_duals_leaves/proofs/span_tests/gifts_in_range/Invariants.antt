use Rattle.std.proofs.Common.{take}
use Rattle.std.specs.Prelude.{All}
use Rattle.fp_certificate_lines.specs.Ranges.{IsGiftInRange}
use Rattle.fp_duals_leaves.proofs.span_tests.gifts_in_range.Given as goal

-- the gifts that were passed are so
abbrev pub invariant-loop-gift : goal.invariant-loop-gift
invariant-loop-gift l = All (IsGiftInRange l.instance) (take l.gift-index l.gifts)
