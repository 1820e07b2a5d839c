-- So many bits as places.
use Rattle.std.proofs.Common.{◌≡◌, vec_len}
use Rattle.fp_tests_problem.proofs.tests.rows.plain_ranged.Given as goal

abbrev pub invariant-loop-place : goal.invariant-loop-place
invariant-loop-place l = vec_len l.ranged ≡ l.place
