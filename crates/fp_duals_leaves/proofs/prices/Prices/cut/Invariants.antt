use Rattle.std.proofs.Common.{◌≡◌, ◌+◌, ◌≤◌, length, take}
use Rattle.std.specs.Prelude.{sum_by}
use Rattle.fp_duals_leaves.specs.PriceLines.{AreFewLines, gift_lines, span_lines}
use Rattle.fp_duals_leaves.proofs.prices.Prices.cut.Given as goal

-- the tables are cut, and the fronts of the lists of spans and gifts that there were are left, with the number of their lines
abbrev pub invariant-loop-self : goal.invariant-loop-self
invariant-loop-self l = record {
  tables : l.self-inside.tables ≡ take l.count l.fn.self.tables;
  front : l.self-inside.spans.items ≡ take (length l.self-inside.spans.items) l.fn.self.spans;
  given : l.self-inside.gifts.items ≡ take (length l.self-inside.gifts.items) l.fn.self.gifts;
  same : length l.self-inside.gifts.items ≡ length l.self-inside.spans.items;
  kept : l.count ≤ length l.self-inside.spans.items;
  counted : l.self-inside.beside_lines ≡ sum_by span_lines l.self-inside.spans.items + sum_by gift_lines l.self-inside.gifts.items;
  few : AreFewLines l.self-inside.tables l.self-inside.spans.items l.self-inside.gifts.items;
  unit : l.self-inside.unit ≡ l.fn.self.unit;
}

abbrev pub decreases-loop-self : goal.decreases-loop-self
decreases-loop-self l = length l.self-inside.spans.items
