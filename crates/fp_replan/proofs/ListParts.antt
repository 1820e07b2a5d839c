-- What holds of each element of a list, in its parts.
use Rattle.std.proofs.Common.{◌≡◌, true, false, Bool, List, [], ◌∷◌, ◌++◌, refl}
use Rattle.std.specs.List.{AllByRecursion, list_any}
use Rattle.std.proofs.lemmas.Bool.{or_left, or_right}
use Rattle.fp_base_lists.proofs.Elements.{AllByRecursion-weaker}

-- of the first of two lists, and of the second
pub AllByRecursion-left : {X : Type 0} (P : X → Type 0) (xs ys : List X) → AllByRecursion P (xs ++ ys) → AllByRecursion P xs
AllByRecursion-left P [] ys all = tt
AllByRecursion-left P (x ∷ xs) ys all = (all.0, AllByRecursion-left P xs ys all.1)

pub AllByRecursion-right : {X : Type 0} (P : X → Type 0) (xs ys : List X) → AllByRecursion P (xs ++ ys) → AllByRecursion P ys
AllByRecursion-right P [] ys all = all
AllByRecursion-right P (x ∷ xs) ys all = AllByRecursion-right P xs ys all.1

-- where one passes, some of all pass
pub list_any-each : {X : Type 0} (test : X → Bool) (xs : List X) → AllByRecursion (λ x. test x ≡ true → list_any test xs ≡ true) xs
list_any-each test [] = tt
list_any-each {X} test (x ∷ xs) = (
  (λ passes. or_left (test x) (list_any test xs) passes),
  AllByRecursion-weaker (λ (y : X). test y ≡ true → list_any test xs ≡ true) (λ (y : X). test y ≡ true → list_any test (x ∷ xs) ≡ true)
      (λ y some passes. or_right (test x) (list_any test xs) (some passes)) xs (list_any-each test xs),
)

-- where none passes, some of all do not
pub list_any-none : {X : Type 0} (test : X → Bool) (xs : List X) → AllByRecursion (λ x. test x ≡ false) xs → list_any test xs ≡ false
list_any-none test [] none = refl
list_any-none test (x ∷ xs) none = rw (none.0, list_any-none test xs none.1) refl
