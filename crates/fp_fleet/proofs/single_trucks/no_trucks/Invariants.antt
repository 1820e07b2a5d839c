use Rattle.std.proofs.Common.{ℕ, ◌≡◌, [], length}
use Rattle.fp_base_lists.specs.Vectors.{lists_of}
use Rattle.fp_fleet.specs.Queues.{queue_at}
use Rattle.fp_fleet.proofs.single_trucks.no_trucks.Given as goal

-- so many queues so far, each of them empty
abbrev pub invariant-loop : goal.invariant-loop
invariant-loop l = record {
  count : length l.queues.items ≡ l.counter;
  none : (line : ℕ) → queue_at (lists_of l.queues.items) line ≡ [];
}
