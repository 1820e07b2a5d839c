-- Words of 0 have no bit that is set.
use Rattle.std.proofs.Common.{ap, ◌∙◌}
use Rattle.std.specs.Prelude.{ℕ, List}
use Rattle.fp_rows.specs.Words.{bits}
use Rattle.fp_rows.proofs.BitChanges.{zero-bits}
use Rattle.fp_rows.proofs.rows.Row.new.Goals as goal

pub returns : goal.returns
returns c = ap (λ (ws : List ℕ). bits ws c.args.length) (c.in_ok-vec.ensures.items_if_clones_equal (λ y e. e)) ∙ zero-bits c.div_ceil.result c.args.length
