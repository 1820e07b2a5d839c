-- What holds of each element of a list and each later one.
use Rattle.std.proofs.Common.{ℕ, zero, suc, ◌<◌, List, [], ◌∷◌, length, get_or, arith}
use Rattle.std.specs.Prelude.{AllPairs}
use Rattle.std.specs.List.{AllByRecursion}
use Rattle.fp_base_lists.proofs.Elements.{AllByRecursion-from_get_or}

-- R of each element and each later one
abbrev pub EachPair : {X : Type 0} → (X → X → Type 0) → List X → Type 0
EachPair R [] = Unit {0}
EachPair R (x ∷ xs) = AllByRecursion (R x) xs × EachPair R xs

pub EachPair-AllPairs : {X : Type 0} (R : X → X → Type 0) (xs : List X) (d : X) → AllPairs R xs → EachPair R xs
EachPair-AllPairs R [] d pairs = tt
EachPair-AllPairs R (x ∷ xs) d pairs = (
  AllByRecursion-from_get_or (R x) xs d (λ i lt. pairs 0 (suc i) d (omega arith) (omega (arith, lt))),
  EachPair-AllPairs R xs d (λ i j e less lt. pairs (suc i) (suc j) e (omega (arith, less)) (omega (arith, lt))),
)
