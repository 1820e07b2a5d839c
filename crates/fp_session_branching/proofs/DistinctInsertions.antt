-- Lists in which no element stands twice, with one more element, and cut.
use Rattle.std.proofs.Common.{◌≡◌, ◌≢◌, ℕ, zero, suc, List, [], ◌∷◌, length, get_or, min, take, sym, ◌∙◌, arith, get_or-take}
use Rattle.std.specs.Prelude.{insert}
use Rattle.std.specs.List.{AllByRecursion}
use Rattle.std.proofs.lemmas.List.{length-take}
use Rattle.std.proofs.lemmas.List.Elements.{All-from_recursion, recursion_from_All}
use Rattle.std.proofs.lemmas.List.Sorted.{All-permutation, IsPermutation-insert}
use Rattle.fp_base_lists.specs.Distinct.{AreDistinct}
use Rattle.fp_base_lists.proofs.Distinct.{AreDistinct-cons, AreDistinct-head, AreDistinct-tail}

-- one more element that differs from all others, at whatever place
pub AreDistinct-insert : {X : Type 0} (xs : List X) (i : ℕ) (y : X) → AllByRecursion (λ x. x ≢ y) xs → AreDistinct xs → AreDistinct (insert xs i y)
AreDistinct-insert xs zero y others distinct = AreDistinct-cons y xs others distinct
AreDistinct-insert [] (suc i) y others distinct = AreDistinct-cons y [] tt distinct
AreDistinct-insert {X} (x ∷ xs) (suc i) y others distinct =
    let own : AllByRecursion (λ z. z ≢ x) (y ∷ xs) = (λ same. others.0 (sym same), AreDistinct-head x xs distinct) in
    AreDistinct-cons x (insert xs i y)
    (recursion_from_All (λ (z : X). z ≢ x) (insert xs i y) (All-permutation (λ (z : X). z ≢ x) (y ∷ xs) (insert xs i y) (IsPermutation-insert xs i y) (All-from_recursion (λ (z : X). z ≢ x) (y ∷ xs) own)))
    (AreDistinct-insert xs i y others.1 (AreDistinct-tail x xs distinct))

-- the first ones of a list
pub AreDistinct-take : {X : Type 0} (n : ℕ) (xs : List X) → AreDistinct xs → AreDistinct (take n xs)
AreDistinct-take {X} n xs distinct = λ i j d less lt same.
    let long : length (take n xs) ≡ min n (length xs) = length-take n xs in
    let first : get_or (take n xs) i d ≡ get_or xs i d = get_or-take n xs i d (omega (arith, less, lt, long)) in
    let second : get_or (take n xs) j d ≡ get_or xs j d = get_or-take n xs j d (omega (arith, lt, long)) in
    distinct i j d less (omega (arith, lt, long)) (sym first ∙ same ∙ second)
