use Rattle.fp_yard.proofs.Progress.{all-ended, some-allowed}
use Rattle.fp_yard.proofs.laws.runs_end_at_destinations.Goals as goal

pub returns-clause-goes_on : goal.returns-clause-goes_on
returns-clause-goes_on c = λ s h line sound lt left. some-allowed s h line sound lt left

pub returns-clause-ends : goal.returns-clause-ends
returns-clause-ends c = λ s h k sound lt done. all-ended s h k sound lt done
