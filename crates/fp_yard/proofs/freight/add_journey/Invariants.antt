use Rattle.std.proofs.Common.{ℕ, ◌≡◌, ◌++◌, drop, length}
use Rattle.fp_base_lists.specs.Vectors.{lists_of}
use Rattle.fp_yard.specs.Freight.{freight_at, legs_by}
use Rattle.fp_yard.proofs.freight.add_journey.Given as goal

-- the legs so far and those that are left make all legs of the journey
abbrev pub invariant-loop-leg : goal.invariant-loop-leg
invariant-loop-leg l = record {
  count : length l.freight.items ≡ length l.initial.freight.items;
  rest : (line : ℕ) → freight_at (lists_of l.freight.items) line ++ legs_by line l.shipment l.leg (drop l.leg l.journey)
      ≡ freight_at (lists_of l.initial.freight.items) line ++ legs_by line l.shipment 0 l.journey;
}
