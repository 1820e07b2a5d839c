use Rattle.std.proofs.Common.{arith}
use Rattle.fp_tests_plan.proofs.tests.session.session_of.Goals as goal

pub new-requires-clause-within : goal.new-requires-clause-within
new-requires-clause-within c = c.in_ok-windows.ensures.covers 1 c.in_ok-start.start (omega arith) c.in_ok-start.ensures.plan
