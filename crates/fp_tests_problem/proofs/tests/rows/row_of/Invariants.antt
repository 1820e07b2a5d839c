-- The row keeps its length.
use Rattle.std.proofs.Common.{◌≡◌, length}
use Rattle.fp_tests_problem.proofs.tests.rows.row_of.Given as goal

abbrev pub invariant-loop-place : goal.invariant-loop-place
invariant-loop-place l = length l.row ≡ length l.bits
