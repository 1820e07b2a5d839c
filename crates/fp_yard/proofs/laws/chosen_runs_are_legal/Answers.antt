use Rattle.fp_yard.proofs.AllowedEvents.{IsLegal-chosen}
use Rattle.fp_yard.proofs.laws.chosen_runs_are_legal.Goals as goal

pub returns : goal.returns
returns c = IsLegal-chosen
