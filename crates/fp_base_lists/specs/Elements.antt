-- What holds of some element of a list, element by element.
use Rattle.std.specs.Prelude.{List, [], ◌∷◌, ◌⊎◌}

-- P holds of some element
abbrev pub AnyByRecursion : {X : Type 0} → (X → Type 0) → List X → Type 0
AnyByRecursion P [] = ⊥
AnyByRecursion P (x ∷ xs) = P x ⊎ AnyByRecursion P xs
