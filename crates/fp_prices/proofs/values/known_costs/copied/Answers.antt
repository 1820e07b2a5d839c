use Rattle.std.proofs.Common.{List, ap, ◌∙◌}
use Rattle.std.specs.Prelude.{Bool, true}
use Rattle.fp_rows.specs.Bits.{and_bits, with_range}
use Rattle.fp_prices.proofs.KnownCosts.{copy-is}
use Rattle.fp_prices.proofs.values.known_costs.copied.Goals as goal

pub returns : goal.returns
returns c =
    c.and_with.ensures.bits ∙ ap (λ (l : List Bool). and_bits l c.args.row.now) (c.fill_range.ensures.bits ∙ ap (λ (l : List Bool). with_range l 0 c.args.bits true) c.in_ok-copy.ensures)
    ∙ copy-is c.args.bits c.args.row.now c.requires
