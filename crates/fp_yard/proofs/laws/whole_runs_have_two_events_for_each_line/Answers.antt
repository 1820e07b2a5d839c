use Rattle.fp_yard.proofs.WholeRuns.{all-done, all-exist, two-events}
use Rattle.fp_yard.proofs.laws.whole_runs_have_two_events_for_each_line.Goals as goal

pub returns-clause-done : goal.returns-clause-done
returns-clause-done c = λ s h line sound ended lt. all-done s h line sound ended lt

pub returns-clause-two : goal.returns-clause-two
returns-clause-two c = λ s h line sound legal ended lt. two-events s h line sound legal ended lt

pub returns-clause-others : goal.returns-clause-others
returns-clause-others c = λ s h legal. all-exist s h legal
