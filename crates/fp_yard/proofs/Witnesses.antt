-- Elements that pass a test.
use Rattle.std.proofs.Common.{◌≡◌, ◌∙◌, ℕ, suc, ◌<◌, Bool, true, List, [], ◌∷◌, length, take, drop, get_or, ⊎_elim, subst, arith}
use Rattle.std.specs.List.{list_any}
use Rattle.std.proofs.lemmas.Bool.{false≢true, or_cases, or_left}
use Rattle.std.proofs.lemmas.List.{take-append-drop}
use Rattle.std.proofs.lemmas.List.Folds.{list_any-append}

-- a test that some of the first elements pass, some element passes
pub list_any-taken : {X : Type 0} (test : X → Bool) (xs : List X) (i : ℕ) → list_any test (take i xs) ≡ true → list_any test xs ≡ true
list_any-taken {X} test xs i some =
    subst (λ (ys : List X). list_any test ys ≡ true) (take-append-drop i xs)
    (list_any-append test (take i xs) (drop i xs) ∙ or_left (list_any test (take i xs)) (list_any test (drop i xs)) some)

-- an element that passes a test, with its place
pub witness : {X : Type 0} (test : X → Bool) (xs : List X) (d : X) → list_any test xs ≡ true → (i : ℕ) × (i < length xs) × (test (get_or xs i d) ≡ true)
witness test [] d some = absurd (false≢true some)
witness {X} test (x ∷ xs) d some =
    ⊎_elim
    (λ (here : test x ≡ true). (0, omega arith, here))
    (λ (later : list_any test xs ≡ true). let at = witness test xs d later in (suc at.0, omega (arith, at.1), at.2))
    (or_cases (test x) (list_any test xs) some)
