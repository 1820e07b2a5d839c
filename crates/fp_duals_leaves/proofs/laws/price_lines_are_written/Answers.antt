use Rattle.fp_duals_leaves.proofs.WrittenLines.{PriceLinesAreWritten_hold}
use Rattle.fp_duals_leaves.proofs.laws.price_lines_are_written.Goals as goal

pub returns : goal.returns
returns c = PriceLinesAreWritten_hold
