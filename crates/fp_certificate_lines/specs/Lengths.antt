-- How many bytes the text of a certificate has at most, by how many lines of each kind it has.
use Rattle.std.specs.Prelude.{ℕ, ◌+◌, ◌*◌, ◌≤◌, List, length, sum_by}
use Rattle.fp_model.specs.Problem.{Problem}
use Rattle.fp_prices.specs.Tables.{AreCountable}
use Rattle.fp_records.specs.Text.{lines_of}
use Rattle.fp_certificate_lines.specs.declared.certificates.Node.{Node}
use Rattle.fp_certificate_lines.specs.declared.certificates.Node.TheVariants.{Branch, Leaf, Narrow}
use Rattle.fp_certificate_lines.specs.Ranges.{IsInRange}
use Rattle.fp_certificate_lines.specs.Rows.{rows_of, tables_rows}
use Rattle.fp_certificate_lines.specs.Statements.{Statement}

-- the most bytes of the line of a split, of that of a leaf, and of that of a narrowing
abbrev pub node_bytes : Node → ℕ
node_bytes (Branch split) = 109
node_bytes (Leaf valuation) = 35
node_bytes (Narrow narrowing) = 70

-- the lines of tables, of their shares, of the spans beside them, of the weights of both, of the groups
-- of spans, and of the gifts beside tables
abbrev pub price_rows : Problem → Statement → List (List (List ℕ))
price_rows p c = tables_rows p c.spans c.gifts c.moments 1 c.tables

-- the most bytes of a certificate: of its answer, its scale, its unit and its end together 173, of a
-- leg 117, of a departure 159, of a point 51, of a price line 165, and of each node
abbrev pub most_bytes : Problem → Statement → ℕ
most_bytes p c =
    173 + 117 * length c.legs + 159 * length c.trucks + 51 * length c.points + 165 * length (price_rows p c) + sum_by node_bytes c.tree

-- the text of each certificate in range, whose tables can be counted in 32 bits, has at most so many
abbrev pub TextsAreShort : Problem → Type 0
TextsAreShort p = (c : Statement) → IsInRange p c → AreCountable p c.tables → length (lines_of (rows_of p c)) ≤ most_bytes p c
