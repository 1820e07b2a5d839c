-- The text of a certificate's lines, part by part.
use Rattle.std.proofs.Common.{◌≡◌, ◌∙◌, ℕ, List, [], ◌∷◌, ◌++◌, map, sym, ap, append_assoc}
use Rattle.std.proofs.lemmas.Grind.{flat_map-append}
use Rattle.std.proofs.lemmas.List.{append-nil}
use Rattle.fp_model.specs.Problem.{Problem}
use Rattle.fp_records.specs.Text.{line_of, lines_of}
use Rattle.fp_certificate_lines.specs.Rows.{answer_fields, end_fields, leg_fields, node_fields, point_fields, rows_of, scale_rows, tables_rows, truck_fields, unit_rows}
use Rattle.fp_certificate_lines.specs.Statements.{Statement}

-- the text of more lines
lines_of-append : (rows more : List (List (List ℕ))) → lines_of (rows ++ more) ≡ lines_of rows ++ lines_of more
lines_of-append rows more = flat_map-append line_of rows more

-- the text up to some lines, and the text of these
part : (text : List ℕ) (rows more : List (List (List ℕ))) → text ++ lines_of (rows ++ more) ≡ (text ++ lines_of rows) ++ lines_of more
part text rows more = ap (λ (t : List ℕ). text ++ t) (lines_of-append rows more) ∙ sym (append_assoc text (lines_of rows) (lines_of more))

-- the text of all lines
pub rows-text : (p : Problem) (c : Statement) → lines_of (rows_of p c) ≡
    ((((((((line_of (answer_fields p c.answer) ++ lines_of (scale_rows c.scale)) ++ lines_of (unit_rows c.unit)) ++ lines_of (map (leg_fields p) c.legs))
    ++ lines_of (map (truck_fields p) c.trucks)) ++ lines_of (map (point_fields p) c.points)) ++ lines_of (tables_rows p c.spans c.gifts c.moments 1 c.tables))
    ++ lines_of (map (node_fields p) c.tree)) ++ line_of end_fields)
rows-text p c =
    let answer = line_of (answer_fields p c.answer) in
    let scale = scale_rows c.scale in
    let unit = unit_rows c.unit in
    let legs = map (leg_fields p) c.legs in
    let trucks = map (truck_fields p) c.trucks in
    let points = map (point_fields p) c.points in
    let tables = tables_rows p c.spans c.gifts c.moments 1 c.tables in
    let tree = map (node_fields p) c.tree in
    let last = end_fields ∷ [] in
    part answer scale (unit ++ (legs ++ (trucks ++ (points ++ (tables ++ (tree ++ last))))))
    ∙ part (answer ++ lines_of scale) unit (legs ++ (trucks ++ (points ++ (tables ++ (tree ++ last)))))
    ∙ part ((answer ++ lines_of scale) ++ lines_of unit) legs (trucks ++ (points ++ (tables ++ (tree ++ last))))
    ∙ part (((answer ++ lines_of scale) ++ lines_of unit) ++ lines_of legs) trucks (points ++ (tables ++ (tree ++ last)))
    ∙ part ((((answer ++ lines_of scale) ++ lines_of unit) ++ lines_of legs) ++ lines_of trucks) points (tables ++ (tree ++ last))
    ∙ part (((((answer ++ lines_of scale) ++ lines_of unit) ++ lines_of legs) ++ lines_of trucks) ++ lines_of points) tables (tree ++ last)
    ∙ part ((((((answer ++ lines_of scale) ++ lines_of unit) ++ lines_of legs) ++ lines_of trucks) ++ lines_of points) ++ lines_of tables) tree last
    ∙ ap (λ (t : List ℕ). (((((((answer ++ lines_of scale) ++ lines_of unit) ++ lines_of legs) ++ lines_of trucks) ++ lines_of points) ++ lines_of tables) ++ lines_of tree) ++ t) (append-nil (line_of end_fields))
