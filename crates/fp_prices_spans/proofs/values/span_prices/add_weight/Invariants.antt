use Rattle.std.proofs.Common.{◌≡◌, ℕ, ◌+◌, ◌<◌, ◌≤◌, get_or, length}
use Rattle.std.specs.Prelude.{if◌then◌else◌}
use Rattle.fp_prices_spans.proofs.Between.{between}
use Rattle.fp_prices_spans.proofs.values.span_prices.add_weight.Given as goal

-- the weight was added to the sums of the classes so far
abbrev pub invariant-loop-class : goal.invariant-loop-class
invariant-loop-class l = record {
  from : l.fn.range.first ≤ l.class;
  until : l.class ≤ l.fn.range.end;
  long : length l.sums ≡ length l.fn.sums;
  added : (n : ℕ) → n < length l.fn.sums → get_or l.sums n 0 ≡ get_or l.fn.sums n 0 + (if between l.fn.range.first l.class n then l.weight else 0);
}
