-- Lists in which no element stands twice.
use Rattle.std.specs.Prelude.{List, ◌≢◌, AllPairs}

-- no element stands twice
abbrev pub AreDistinct : {X : Type 0} → List X → Type 0
AreDistinct xs = AllPairs (λ x y. x ≢ y) xs
