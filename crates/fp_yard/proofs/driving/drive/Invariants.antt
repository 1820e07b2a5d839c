use Rattle.std.proofs.Common.{◌≡◌, ◌-◌, ◌*◌, ◌<◌, ◌≤◌, ◌^◌, length}
use Rattle.fp_yard.specs.Choices.{IsChosen, number_after}
use Rattle.fp_yard.specs.Events.{AreEnabled, IsLegal}
use Rattle.fp_yard.proofs.driving.drive.Given as goal

-- what has happened was chosen, with one draw for each event, and the events are those that are
-- allowed now
abbrev pub invariant-turns : goal.invariant-turns
invariant-turns l = record {
  schedule : l.yard.schedule ≡ l.fn.yard.schedule;
  chosen : IsChosen l.yard.schedule l.seed l.yard.history;
  number : l.draws ≡ number_after l.seed (length l.yard.history);
  within : length l.yard.history ≤ 2 * length l.yard.schedule.tails;
  legal : IsLegal l.yard.schedule l.yard.history;
  few : length l.events.items < 2 ^ 32;
  enabled : AreEnabled l.yard.schedule l.yard.history l.events.items;
}

abbrev pub decreases-turns : goal.decreases-turns
decreases-turns l = 2 * length l.yard.schedule.tails - length l.yard.history
