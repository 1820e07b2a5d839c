use Rattle.std.proofs.Common.{ℕ, ◌≡◌, [], length}
use Rattle.fp_base_lists.specs.Vectors.{lists_of}
use Rattle.fp_yard.specs.Freight.{freight_at}
use Rattle.fp_yard.proofs.freight.empty_lists.Given as goal

-- so many lists so far, each of them empty
abbrev pub invariant-loop : goal.invariant-loop
invariant-loop l = record {
  count : length l.freight.items ≡ l.counter;
  none : (line : ℕ) → freight_at (lists_of l.freight.items) line ≡ [];
}
