-- So many words as were drawn.
use Rattle.std.proofs.Common.{◌≡◌, vec_len}
use Rattle.fp_tests_problem.proofs.tests.rows.drawn_words.Given as goal

abbrev pub invariant-loop-word : goal.invariant-loop-word
invariant-loop-word l = vec_len l.words ≡ l._word
