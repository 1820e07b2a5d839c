-- The classes of a network as one list: by arc, and then by point.
use Rattle.std.specs.Prelude.{ℕ, ◌+◌, List, [], ◌∷◌, ◌++◌, map, slice_index_or}
use Rattle.fp_model.specs.declared.parts.Leg.{Leg}
use Rattle.fp_model.specs.Numbered.{no_leg}
use Rattle.fp_longestarcs.specs.Networks.{TimedNetwork}

-- the classes of arcs with these tails, where the first of the arcs has the number a
abbrev pub classes_from : List (List ℕ) → ℕ → List ℕ → List Leg
classes_from points a [] = []
classes_from points a (tail ∷ tails) =
    map (λ q. record { arc = a; depart = q }) (slice_index_or points tail []) ++ classes_from points (a + 1) tails

-- all classes of a network in order
abbrev pub all_classes : TimedNetwork → List Leg
all_classes net = classes_from net.points 0 net.tails

-- the class with a number, which is its place in that list
abbrev pub class_at : TimedNetwork → ℕ → Leg
class_at net n = slice_index_or (all_classes net) n no_leg

-- the classes with these numbers
abbrev pub classes_at : TimedNetwork → List ℕ → List Leg
classes_at net numbers = map (class_at net) numbers
