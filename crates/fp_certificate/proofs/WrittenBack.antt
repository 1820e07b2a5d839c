-- The records of a written certificate give it back.
use Rattle.std.proofs.Common.{◌≡◌, ◌∙◌, ℕ, ◌+◌, ◌^◌, ◌-◌, ◌<◌, ◌≤◌, false, List, [], ◌∷◌, ◌++◌, length, map, refl, sym, ap, subst, arith, lit≤, inl, inr}
use Rattle.std.specs.Prelude.{◌⊎◌, Option, Some, None, Ok, IfSome}
use Rattle.fp_model.specs.Problem.{IsValid, Problem}
use Rattle.csv.specs.Reading.{strip_bom}
use Rattle.fp_records.specs.Text.{lines_of}
use Rattle.fp_records.proofs.RoundTrip.{records_of-lines_of}
use Rattle.fp_certificate_lines.specs.declared.certificates.Answer.{Answer}
use Rattle.fp_certificate_lines.specs.declared.certificates.Answer.TheVariants as answer
use Rattle.fp_certificate.specs.declared.lines.sections.Section.{Section}
use Rattle.fp_certificate.specs.declared.lines.sections.Section.TheVariants as section
use Rattle.fp_certificate.specs.Sections.{is_forbidden, place_of}
use Rattle.fp_certificate_lines.specs.Ranges.{HaveNames, IsInRange, IsScaleInRange, IsUnitInRange}
use Rattle.fp_certificate.specs.Readable.{Allows, IsReadable, WrittenReadsBack}
use Rattle.fp_certificate.specs.Reading.{certificate_of, nothing_read}
use Rattle.fp_certificate_lines.specs.Rows.{answer_fields, end_fields, leg_fields, node_fields, point_fields, rows_of, scale_fields, scale_rows, tables_rows, truck_fields, unit_fields, unit_rows}
use Rattle.fp_certificate_lines.specs.Statements.{Statement}
use Rattle.fp_certificate.proofs.AnswersBack.{answer-step}
use Rattle.fp_certificate.proofs.LinesBack.{IsStep, end-step, scale-step, unit-step}
use Rattle.fp_certificate.proofs.ListsBack.{Free, legs-back, points-back, tree-back, trucks-back}
use Rattle.fp_certificate.proofs.PlainRows.{rows-plain}
use Rattle.fp_certificate.proofs.SegmentsBack.{ReadsTo, at, has_ended_at-before_end, is_misplaced_after-later}
use Rattle.fp_certificate.proofs.TablesBack.{tables-back}

-- what the answer forbids isn't there
record IsFree (c : Statement) : Type 0 where
  scale : (is_forbidden c.answer section.Scale ≡ false) ⊎ (c.scale ≡ None)
  unit : (is_forbidden c.answer section.Unit ≡ false) ⊎ (c.unit ≡ None)
  legs : Free (is_forbidden c.answer section.Legs) c.legs
  trucks : Free (is_forbidden c.answer section.Trucks) c.trucks
  points : Free (is_forbidden c.answer section.Points) c.points
  tables : (is_forbidden c.answer section.Tables ≡ false) ⊎ ((c.tables ≡ []) × (c.spans ≡ []) × (c.gifts ≡ []) × (c.moments ≡ []))
  tree : Free (is_forbidden c.answer section.Tree) c.tree

free-answer : (a : Answer) (c : Statement) → c.answer ≡ a → Allows a c → IsFree c
free-answer (answer.Direct cost) c is h = record {
  scale = inr h.scale;
  unit = inr h.unit;
  legs = inl (rw is refl);
  trucks = inl (rw is refl);
  points = inr h.points;
  tables = inr (h.tables, h.spans, h.gifts, h.moments);
  tree = inr h.tree;
}
free-answer (answer.Optimal cost) c is h = record {
  scale = inl (rw is refl);
  unit = inl (rw is refl);
  legs = inl (rw is refl);
  trucks = inl (rw is refl);
  points = inl (rw is refl);
  tables = inl (rw is refl);
  tree = inl (rw is refl);
}
free-answer (answer.Unfinished cost bound s) c is h = record {
  scale = inl (rw is refl);
  unit = inl (rw is refl);
  legs = inl (rw is refl);
  trucks = inl (rw is refl);
  points = inl (rw is refl);
  tables = inl (rw is refl);
  tree = inl (rw is refl);
}
free-answer (answer.Infeasible shipment time) c is h = record {
  scale = inr h.rest.scale;
  unit = inr h.rest.unit;
  legs = inr h.legs;
  trucks = inr h.trucks;
  points = inr h.rest.points;
  tables = inr (h.rest.tables, h.rest.spans, h.rest.gifts, h.rest.moments);
  tree = inr h.rest.tree;
}

-- the end can stand under each answer
end-free : (a : Answer) → is_forbidden a section.End ≡ false
end-free (answer.Direct cost) = refl
end-free (answer.Optimal cost) = refl
end-free (answer.Unfinished cost bound s) = refl
end-free (answer.Infeasible shipment time) = refl

-- a later part may come after fewer sections
sooner : (p : Problem) (k m : ℕ) (rest : List (List (List ℕ))) (s c : Statement) → k ≤ m → ReadsTo p m rest s c → ReadsTo p k rest s c
sooner p k m rest s c le after g ordinal small = after g ordinal (omega arith)

-- one line, after which lines of later sections stand
one-line-then : (p : Problem) (k m : ℕ) (h : Section) (fields : List (List ℕ)) (s t c : Statement) (rest : List (List (List ℕ))) → place_of h ≤ m
    → ((g : Section) → place_of g ≤ k → IsStep p (at s g) fields (at t h)) → ReadsTo p m rest t c → ReadsTo p k (fields ∷ rest) s c
one-line-then p k m h fields s t c rest small step after g ordinal le =
    let now = step g le in
    rw (now.clean, now.gives) (after h (ordinal + 1) small)

-- the end gives what there is
end-back : (p : Problem) (c : Statement) → ReadsTo p 7 (end_fields ∷ []) c c
end-back p c g ordinal le =
    let step = end-step p (at c g) (has_ended_at-before_end g le) (is_misplaced_after-later g section.End c.answer refl (omega arith) (end-free c.answer)) in
    rw step.clean refl

-- a scale, where there is one
scale-back : (p : Problem) (s c : Statement) (rest : List (List (List ℕ))) (scale : Option ℕ) → s.scale ≡ None → IfSome scale (IsScaleInRange p)
    → (is_forbidden s.answer section.Scale ≡ false) ⊎ (scale ≡ None) → ReadsTo p 1 rest (record s { scale = scale }) c → ReadsTo p 0 (scale_rows scale ++ rest) s c
scale-back p s c rest None none range free after =
    sooner p 0 1 rest s c (lit≤ tt) (subst (λ (o : Option ℕ). ReadsTo p 1 rest (record s { scale = o }) c) (sym none) after)
scale-back p s c rest (Some n) none range (inl free) after =
    one-line-then p 0 1 section.Scale (scale_fields n) s (record s { scale = Some n }) c rest (lit≤ tt)
    (λ g le. scale-step p (at s g) n range (has_ended_at-before_end g (omega arith)) (is_misplaced_after-later g section.Scale s.answer refl (omega arith) free) (rw none refl)) after
scale-back p s c rest (Some n) none range (inr missing) after = cc missing

-- a unit, where there is one
unit-back : (p : Problem) (s c : Statement) (rest : List (List (List ℕ))) (unit : Option ℕ) → s.unit ≡ None → IfSome unit IsUnitInRange
    → (is_forbidden s.answer section.Unit ≡ false) ⊎ (unit ≡ None) → ReadsTo p 2 rest (record s { unit = unit }) c → ReadsTo p 1 (unit_rows unit ++ rest) s c
unit-back p s c rest None none range free after =
    sooner p 1 2 rest s c (lit≤ tt) (subst (λ (o : Option ℕ). ReadsTo p 2 rest (record s { unit = o }) c) (sym none) after)
unit-back p s c rest (Some n) none range (inl free) after =
    one-line-then p 1 2 section.Unit (unit_fields n) s (record s { unit = Some n }) c rest (lit≤ tt)
    (λ g le. unit-step p (at s g) n range (has_ended_at-before_end g (omega arith)) (is_misplaced_after-later g section.Unit s.answer refl (omega arith) free) (rw none refl)) after
unit-back p s c rest (Some n) none range (inr missing) after = cc missing

-- after the answer, the lines of all other parts
parts-back : (p : Problem) (c : Statement) → IsValid p → IsInRange p c → length c.tables < 2 ^ 32 - 1 → IsFree c
    → ReadsTo p 0
    (scale_rows c.scale
    ++ (unit_rows c.unit
    ++ (map (leg_fields p) c.legs
    ++ (map (truck_fields p) c.trucks
    ++ (map (point_fields p) c.points
    ++ (tables_rows p c.spans c.gifts c.moments 1 c.tables
    ++ (map (node_fields p) c.tree
    ++ (end_fields ∷ [])))))))) (record nothing_read.certificate { answer = c.answer }) c
parts-back p c v r few free =
    let s : Statement = record nothing_read.certificate { answer = c.answer } in
    let with-scale : Statement = record s { scale = c.scale } in
    let with-unit : Statement = record with-scale { unit = c.unit } in
    let with-legs : Statement = record with-unit { legs = c.legs } in
    let with-trucks : Statement = record with-legs { trucks = c.trucks } in
    let with-points : Statement = record with-trucks { points = c.points } in
    let with-tables : Statement = record with-points { tables = c.tables; spans = c.spans; gifts = c.gifts; moments = c.moments } in
    let last = end_fields ∷ [] in
    let tree = map (node_fields p) c.tree ++ last in
    let tables = tables_rows p c.spans c.gifts c.moments 1 c.tables ++ tree in
    let points = map (point_fields p) c.points ++ tables in
    let trucks = map (truck_fields p) c.trucks ++ points in
    let legs = map (leg_fields p) c.legs ++ trucks in
    let seven : ReadsTo p 7 tree with-tables c = tree-back p with-tables c c.tree last v (omega arith) r.tree free.tree (end-back p c) in
    let six : ReadsTo p 6 tables with-points c =
    tables-back p with-points c c.tables c.spans c.gifts c.moments tree v (refl, refl, refl, refl) (r.beside, r.given, r.timed) few (r.tables, r.spans, r.gifts) free.tables
    (sooner p 6 7 tree with-tables c (lit≤ tt) seven) in
    let five : ReadsTo p 5 points with-trucks c = points-back p with-trucks c c.points tables v r.points free.points (sooner p 5 6 tables with-points c (lit≤ tt) six) in
    let four : ReadsTo p 4 trucks with-legs c = trucks-back p with-legs c c.trucks points v r.trucks free.trucks (sooner p 4 5 points with-trucks c (lit≤ tt) five) in
    let three : ReadsTo p 3 legs with-unit c = legs-back p with-unit c c.legs trucks v r.legs free.legs (sooner p 3 4 trucks with-legs c (lit≤ tt) four) in
    let one : ReadsTo p 1 (unit_rows c.unit ++ legs) with-scale c = unit-back p with-scale c legs c.unit refl r.unit free.unit (sooner p 2 3 legs with-unit c (lit≤ tt) three) in
    scale-back p s c (unit_rows c.unit ++ legs) c.scale refl r.scale free.scale one

-- the lines of a certificate give it
rows-back : (p : Problem) (c : Statement) (ordinal : ℕ) → IsValid p → IsInRange p c → length c.tables < 2 ^ 32 - 1 → IsReadable c
    → certificate_of p ordinal (rows_of p c) ≡ Ok c
rows-back p c ordinal v r few readable =
    let step = answer-step p c.answer v r.answer in
    rw (step.clean, step.gives) (parts-back p c v r few (free-answer c.answer c refl readable) section.Answer (ordinal + 1) (lit≤ tt))

-- the text of a certificate begins with no byte order mark
unmarked : (p : Problem) (a : Answer) (rest : List (List (List ℕ))) → strip_bom (lines_of (answer_fields p a ∷ rest)) ≡ lines_of (answer_fields p a ∷ rest)
unfolding strip_bom
unmarked p (answer.Direct cost) rest = refl
unmarked p (answer.Optimal cost) rest = refl
unmarked p (answer.Unfinished cost bound s) rest = refl
unmarked p (answer.Infeasible shipment time) rest = refl

-- the records of a written certificate give it back
pub written-back : (p : Problem) → IsValid p → HaveNames p → WrittenReadsBack p
written-back p v named c r countable readable ordinal =
    let text = records_of-lines_of (rows_of p c) (rows-plain p c v named r countable.few_tables) (unmarked p c.answer _) in
    ap (certificate_of p ordinal) text ∙ rows-back p c ordinal v r countable.few_tables readable
