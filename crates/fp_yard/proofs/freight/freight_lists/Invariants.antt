use Rattle.std.proofs.Common.{ℕ, ◌≡◌, ◌++◌, drop, length}
use Rattle.fp_base_lists.specs.Vectors.{lists_of}
use Rattle.fp_yard.specs.Freight.{freight_at, members_by}
use Rattle.fp_yard.proofs.freight.freight_lists.Given as goal

-- the legs so far and those of the journeys that are left make all legs
abbrev pub invariant-loop-shipment : goal.invariant-loop-shipment
invariant-loop-shipment l = record {
  count : length l.freight.items ≡ l.lines;
  rest : (line : ℕ) → freight_at (lists_of l.freight.items) line ++ members_by line l.shipment (lists_of (drop l.shipment l.journeys))
      ≡ members_by line 0 (lists_of l.journeys);
}
