use Rattle.std.proofs.Common.{◌≡◌, take}
use Rattle.fp_tree.specs.Sides.{ways_of}
use Rattle.fp_tree.proofs.sides.ways_of.Given as goal

-- those of the sides so far
abbrev pub invariant-loop-side : goal.invariant-loop-side
invariant-loop-side l = l.ways.items ≡ ways_of l.shipment (take l.side-index l.sides)
