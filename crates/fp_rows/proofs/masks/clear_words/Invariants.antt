-- The words of the range so far are done.
use Rattle.std.specs.Prelude.{◌&&◌, not}
use Rattle.fp_rows.proofs.RangeMasks.{Changes}
use Rattle.fp_rows.proofs.masks.clear_words.Given as goal

abbrev pub invariant-loop-word : goal.invariant-loop-word
invariant-loop-word l = Changes (λ b t. b && not t) l.from l.to l.initial.words l.words l.word
