use Rattle.fp_dispatch.specs.Rising.{AreEqualUntil, state_of}
use Rattle.fp_dispatch.specs.Tasks.{AllWaitFor, AreLowerFor}
use Rattle.fp_dispatch.proofs.rising.Moments.gather.Given as goal

-- all legs wait, and the groups so far have one moment each
abbrev pub invariant-loop-group : goal.invariant-loop-group
invariant-loop-group l = record {
  lower : AreLowerFor l.task (state_of l.self);
  waits : AllWaitFor l.task (state_of l.self);
  equal : AreEqualUntil l.task.groups l.task.numbers.width l.group-index l.self.values.items;
}
