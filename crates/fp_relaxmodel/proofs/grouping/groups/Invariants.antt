use Rattle.std.proofs.Common.{◌≡◌, [], drop, length}
use Rattle.fp_relaxmodel.specs.Grouping.{after, groups_so_far}
use Rattle.fp_model.specs.Members.{named_from}
use Rattle.fp_relaxmodel.proofs.grouping.groups.Given as goal

-- the groups so far and the walks that are left make the groups after all walks
abbrev pub invariant-loop-shipment : goal.invariant-loop-shipment
invariant-loop-shipment l = record {
  matched : length l.grouping.classes.keys ≡ length l.grouping.groups.items;
  rest : after (named_from l.shipment (drop l.shipment l.relaxed)) (groups_so_far l.grouping.classes.keys l.grouping.groups.items)
      ≡ after (named_from 0 l.relaxed) [];
}
