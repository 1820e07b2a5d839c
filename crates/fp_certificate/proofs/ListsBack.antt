-- The legs, trucks, points and nodes of a certificate are read back from their lines.
use Rattle.std.proofs.Common.{◌≡◌, ◌∙◌, ℕ, ◌^◌, ◌<◌, Bool, false, List, [], ◌∷◌, ◌++◌, length, map, refl, sym, ap, subst, append_assoc, arith, lit≤, inl, inr}
use Rattle.std.specs.Prelude.{◌⊎◌, All}
use Rattle.std.specs.List.{AllByRecursion, fold}
use Rattle.std.proofs.lemmas.List.{append-nil}
use Rattle.std.proofs.lemmas.List.Elements.{recursion_from_All}
use Rattle.fp_model.specs.Problem.{IsValid, Problem}
use Rattle.fp_timenodes.specs.declared.places.AddedPoint.{AddedPoint}
use Rattle.fp_timetable.specs.declared.lines.LegLine.{LegLine}
use Rattle.fp_timetable.specs.declared.lines.TruckLine.{TruckLine}
use Rattle.fp_certificate_lines.specs.declared.certificates.Node.{Node}
use Rattle.fp_certificate.specs.declared.lines.sections.Section.TheVariants as section
use Rattle.fp_certificate.specs.Sections.{is_forbidden}
use Rattle.fp_certificate_lines.specs.Ranges.{IsLegInRange, IsNodeInRange, IsPointInRange, IsTruckInRange}
use Rattle.fp_certificate_lines.specs.Rows.{leg_fields, node_fields, point_fields, truck_fields}
use Rattle.fp_certificate_lines.specs.Statements.{Statement}
use Rattle.fp_certificate.proofs.LinesBack.{leg-step, node-step, point-step, truck-step}
use Rattle.fp_certificate.proofs.SegmentsBack.{ReadsTo, at, segment, has_ended_at-before_end, is_misplaced_after-later}

-- a test fails, or there is nothing to be tested
abbrev pub Free : {X : Type 0} → Bool → List X → Type 0
Free forbidden xs = (forbidden ≡ false) ⊎ (xs ≡ [])

-- a fact of each element, where a test fails
both : {X : Type 0} (P : X → Type 0) (b : Bool) (xs : List X) → b ≡ false → AllByRecursion P xs → AllByRecursion (λ x. P x × (b ≡ false)) xs
both P b [] free all = tt
both P b (x ∷ xs) free all = ((all.0, free), both P b xs free all.1)

-- a fact of each element, where a test fails or there is none
each : {X : Type 0} (P : X → Type 0) (b : Bool) (xs : List X) → Free b xs → All P xs → AllByRecursion (λ x. P x × (b ≡ false)) xs
each P b xs (inl free) all = both P b xs free (recursion_from_All P xs all)
each {X} P b xs (inr none) all = subst (λ (ys : List X). AllByRecursion (λ x. P x × (b ≡ false)) ys) (sym none) tt

abbrev add-leg : Statement → LegLine → Statement
add-leg s l = record s { legs = s.legs ++ (l ∷ []) }

legs-added : (legs : List LegLine) (s : Statement) → fold add-leg s legs ≡ record s { legs = s.legs ++ legs }
legs-added [] s = ap (λ (ls : List LegLine). record s { legs = ls }) (sym (append-nil s.legs))
legs-added (l ∷ legs) s = legs-added legs (add-leg s l) ∙ ap (λ (ls : List LegLine). record s { legs = ls }) (append_assoc s.legs (l ∷ []) legs)

pub legs-back : (p : Problem) (s c : Statement) (legs : List LegLine) (rest : List (List (List ℕ))) → IsValid p → All (IsLegInRange p) legs
    → Free (is_forbidden s.answer section.Legs) legs → ReadsTo p 3 rest (record s { legs = s.legs ++ legs }) c → ReadsTo p 3 (map (leg_fields p) legs ++ rest) s c
legs-back p s c legs rest v all free after =
    segment p 3 section.Legs (leg_fields p) add-leg (λ (t : Statement) (l : LegLine). IsLegInRange p l × (is_forbidden t.answer section.Legs ≡ false)) (lit≤ tt)
    (λ t g l le fits. leg-step p (at t g) l v fits.0 (has_ended_at-before_end g (omega arith)) (is_misplaced_after-later g section.Legs t.answer refl le fits.1))
    (λ t x y one other. other) rest c legs s (each (IsLegInRange p) (is_forbidden s.answer section.Legs) legs free all)
    (subst (λ (t : Statement). ReadsTo p 3 rest t c) (sym (legs-added legs s)) after)

abbrev add-truck : Statement → TruckLine → Statement
add-truck s t = record s { trucks = s.trucks ++ (t ∷ []) }

trucks-added : (trucks : List TruckLine) (s : Statement) → fold add-truck s trucks ≡ record s { trucks = s.trucks ++ trucks }
trucks-added [] s = ap (λ (ts : List TruckLine). record s { trucks = ts }) (sym (append-nil s.trucks))
trucks-added (t ∷ trucks) s = trucks-added trucks (add-truck s t) ∙ ap (λ (ts : List TruckLine). record s { trucks = ts }) (append_assoc s.trucks (t ∷ []) trucks)

pub trucks-back : (p : Problem) (s c : Statement) (trucks : List TruckLine) (rest : List (List (List ℕ))) → IsValid p → All (IsTruckInRange p) trucks
    → Free (is_forbidden s.answer section.Trucks) trucks → ReadsTo p 4 rest (record s { trucks = s.trucks ++ trucks }) c
    → ReadsTo p 4 (map (truck_fields p) trucks ++ rest) s c
trucks-back p s c trucks rest v all free after =
    segment p 4 section.Trucks (truck_fields p) add-truck (λ (t : Statement) (l : TruckLine). IsTruckInRange p l × (is_forbidden t.answer section.Trucks ≡ false)) (lit≤ tt)
    (λ t g l le fits. truck-step p (at t g) l v fits.0 (has_ended_at-before_end g (omega arith)) (is_misplaced_after-later g section.Trucks t.answer refl le fits.1))
    (λ t x y one other. other) rest c trucks s (each (IsTruckInRange p) (is_forbidden s.answer section.Trucks) trucks free all)
    (subst (λ (t : Statement). ReadsTo p 4 rest t c) (sym (trucks-added trucks s)) after)

abbrev add-point : Statement → AddedPoint → Statement
add-point s x = record s { points = s.points ++ (x ∷ []) }

points-added : (points : List AddedPoint) (s : Statement) → fold add-point s points ≡ record s { points = s.points ++ points }
points-added [] s = ap (λ (xs : List AddedPoint). record s { points = xs }) (sym (append-nil s.points))
points-added (x ∷ points) s = points-added points (add-point s x) ∙ ap (λ (xs : List AddedPoint). record s { points = xs }) (append_assoc s.points (x ∷ []) points)

pub points-back : (p : Problem) (s c : Statement) (points : List AddedPoint) (rest : List (List (List ℕ))) → IsValid p → All (IsPointInRange p) points
    → Free (is_forbidden s.answer section.Points) points → ReadsTo p 5 rest (record s { points = s.points ++ points }) c
    → ReadsTo p 5 (map (point_fields p) points ++ rest) s c
points-back p s c points rest v all free after =
    segment p 5 section.Points (point_fields p) add-point (λ (t : Statement) (x : AddedPoint). IsPointInRange p x × (is_forbidden t.answer section.Points ≡ false)) (lit≤ tt)
    (λ t g x le fits. point-step p (at t g) x v fits.0 (has_ended_at-before_end g (omega arith)) (is_misplaced_after-later g section.Points t.answer refl le fits.1))
    (λ t x y one other. other) rest c points s (each (IsPointInRange p) (is_forbidden s.answer section.Points) points free all)
    (subst (λ (t : Statement). ReadsTo p 5 rest t c) (sym (points-added points s)) after)

abbrev add-node : Statement → Node → Statement
add-node s n = record s { tree = s.tree ++ (n ∷ []) }

nodes-added : (tree : List Node) (s : Statement) → fold add-node s tree ≡ record s { tree = s.tree ++ tree }
nodes-added [] s = ap (λ (ns : List Node). record s { tree = ns }) (sym (append-nil s.tree))
nodes-added (n ∷ tree) s = nodes-added tree (add-node s n) ∙ ap (λ (ns : List Node). record s { tree = ns }) (append_assoc s.tree (n ∷ []) tree)

-- a node that can be read beside the tables of a statement
record IsNodeFit (p : Problem) (s : Statement) (n : Node) : Type 0 where
  range : IsNodeInRange p s.tables n
  few : length s.tables < 10 ^ 64

pub tree-back : (p : Problem) (s c : Statement) (tree : List Node) (rest : List (List (List ℕ))) → IsValid p → length s.tables < 10 ^ 64
    → All (IsNodeInRange p s.tables) tree → Free (is_forbidden s.answer section.Tree) tree → ReadsTo p 7 rest (record s { tree = s.tree ++ tree }) c
    → ReadsTo p 7 (map (node_fields p) tree ++ rest) s c
tree-back p s c tree rest v few all free after =
    segment p 7 section.Tree (node_fields p) add-node (λ (t : Statement) (n : Node). IsNodeFit p t n × (is_forbidden t.answer section.Tree ≡ false)) (lit≤ tt)
    (λ t g n le fits. node-step p (at t g) n v fits.0.few fits.0.range (has_ended_at-before_end g le) (is_misplaced_after-later g section.Tree t.answer refl le fits.1))
    (λ t x y one other. (record { range = other.0.range; few = other.0.few }, other.1)) rest c tree s
    (each (IsNodeFit p s) (is_forbidden s.answer section.Tree) tree free (λ k d lt. record { range = all k d lt; few = few }))
    (subst (λ (t : Statement). ReadsTo p 7 rest t c) (sym (nodes-added tree s)) after)
