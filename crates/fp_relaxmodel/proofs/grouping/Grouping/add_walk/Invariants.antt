use Rattle.std.proofs.Common.{◌≡◌, drop, length}
use Rattle.fp_relaxmodel.specs.Grouping.{after, groups_so_far}
use Rattle.fp_model.specs.Members.{named_on}
use Rattle.fp_longestarcs.specs.Stops.{legs_of}
use Rattle.fp_relaxmodel.proofs.grouping.Grouping.add_walk.Given as goal

-- the groups so far and the legs that are left make the groups after all legs
abbrev pub invariant-loop-leg : goal.invariant-loop-leg
invariant-loop-leg l = record {
  matched : length l.self.classes.keys ≡ length l.self.groups.items;
  rest : after (named_on l.shipment l.leg (legs_of (drop l.leg l.stops))) (groups_so_far l.self.classes.keys l.self.groups.items)
      ≡ after (named_on l.shipment 0 (legs_of l.stops)) (groups_so_far l.initial.self.classes.keys l.initial.self.groups.items);
}
