-- Heads of classes for one shipment: where its window for the class's arc begins after the class's point, it never leaves at the point.
use Rattle.std.specs.Prelude.{ℕ, List, Option, Some, None, max}
use Rattle.fp_model.specs.declared.parts.Leg.{Leg}
use Rattle.fp_model.specs.Problem.{Problem}
use Rattle.fp_flatnet.specs.declared.window_tables.Window.{Window}
use Rattle.fp_longestarcs.specs.Classes.{head_of}

-- a class as it is left no sooner than a window begins
abbrev pub not_before : Window → Leg → Leg
not_before w c = record { arc = c.arc; depart = max c.depart w.lo }

-- the head of a class for a shipment that has this window for the class's arc, if it has one: the greatest point of the arc's head
-- that is not after the later one of the class's point and the window's first time, and the arc's step
abbrev pub head_within : Problem → (ℕ → List ℕ) → Option Window → Leg → ℕ
head_within p points None c = head_of p points c
head_within p points (Some w) c = head_of p points (not_before w c)

-- the heads of the classes for the shipment with the number k
abbrev pub heads_within : Problem → (ℕ → ℕ → Option Window) → (ℕ → List ℕ) → ℕ → Leg → ℕ
heads_within p windows points k c = head_within p points (windows k c.arc) c
