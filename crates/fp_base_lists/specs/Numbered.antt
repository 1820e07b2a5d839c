-- Lists whose elements are numbered.
use Rattle.std.specs.Prelude.{ℕ, ◌+◌, List, [], ◌∷◌}

-- P holds of each element and its number, where the first element has the number i
abbrev pub AllFrom : {X : Type 0} → (ℕ → X → Type 0) → ℕ → List X → Type 0
AllFrom P i [] = Unit {0}
AllFrom P i (x ∷ xs) = P i x × AllFrom P (i + 1) xs

-- two lists are equally long, and Q holds of the elements at each place and its number
abbrev pub AllZipFrom : {X Y : Type 0} → (ℕ → X → Y → Type 0) → ℕ → List X → List Y → Type 0
AllZipFrom Q i [] [] = Unit {0}
AllZipFrom Q i [] (y ∷ ys) = ⊥
AllZipFrom Q i (x ∷ xs) [] = ⊥
AllZipFrom Q i (x ∷ xs) (y ∷ ys) = Q i x y × AllZipFrom Q (i + 1) xs ys
