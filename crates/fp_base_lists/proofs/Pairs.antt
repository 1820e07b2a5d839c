-- What holds of each element of a list and each later one.
use Rattle.std.proofs.Common.{◌≡◌, ℕ, zero, suc, ◌+◌, ◌-◌, ◌<◌, ◌≤◌, List, [], ◌∷◌, ◌++◌, length, get_or, ⊎_elim, refl, sym, ap₂, ◌∙◌, subst, arith}
use Rattle.std.specs.Prelude.{All, AllPairs, Contains}
use Rattle.std.specs.List.{AllAdjacentBelow}
use Rattle.std.proofs.lemmas.List.Elements.{All-append, All-contains, All-head, All-tail}
use Rattle.std.proofs.lemmas.List.Kept.{AllPairs-cons}
use Rattle.fp_base_lists.proofs.Membership.{Contains-cons_cases}

-- no pair stands in the empty list
pub AllPairs-nil : {X : Type 0} (R : X → X → Type 0) → AllPairs R []
AllPairs-nil R i j d before lt = absurd (omega (arith, lt))

-- R of the first element and each later one
pub AllPairs-head : {X : Type 0} (R : X → X → Type 0) (x : X) (xs : List X) → AllPairs R (x ∷ xs) → All (R x) xs
AllPairs-head R x xs pairs k d lt = pairs 0 (suc k) d (omega arith) (omega (arith, lt))

-- and of the others
pub AllPairs-tail : {X : Type 0} (R : X → X → Type 0) (x : X) (xs : List X) → AllPairs R (x ∷ xs) → AllPairs R xs
AllPairs-tail R x xs pairs i j d before lt = pairs (suc i) (suc j) d (omega (arith, before)) (omega (arith, lt))

-- two lists one after the other, where R holds of each element of the first and each of the second
pub AllPairs-append : {X : Type 0} (R : X → X → Type 0) (xs ys : List X) → AllPairs R xs → AllPairs R ys →
    All (λ x. All (R x) ys) xs → AllPairs R (xs ++ ys)
AllPairs-append R [] ys first last cross = last
AllPairs-append {X} R (x ∷ xs) ys first last cross =
    AllPairs-cons R x (xs ++ ys) (All-append (R x) xs ys (AllPairs-head R x xs first) (All-head (λ (z : X). All (R z) ys) x xs cross))
    (AllPairs-append R xs ys (AllPairs-tail R x xs first) last (All-tail (λ (z : X). All (R z) ys) x xs cross))

-- a relation that goes from element to element holds over any distance where it holds of neighbours
over_distance : {X : Type 0} (R : X → X → Type 0) → ((x y z : X) → R x y → R y z → R x z) → (xs : List X) (i n : ℕ) (d : X) →
    AllAdjacentBelow R xs (length xs) → i + n + 1 < length xs → R (get_or xs i d) (get_or xs (i + n + 1) d)
over_distance {X} R goes xs i zero d near lt =
    let on : i + 1 ≡ i + 0 + 1 = omega arith in
    subst (λ (k : ℕ). R (get_or xs i d) (get_or xs k d)) on (near i d (omega (arith, lt)))
over_distance {X} R goes xs i (suc n) d near lt =
    let on : i + n + 1 + 1 ≡ i + suc n + 1 = omega arith in
    subst (λ (k : ℕ). R (get_or xs i d) (get_or xs k d)) on
    (goes (get_or xs i d) (get_or xs (i + n + 1) d) (get_or xs (i + n + 1 + 1) d) (over_distance R goes xs i n d near (omega (arith, lt)))
    (near (i + n + 1) d (omega (arith, lt))))

-- so it holds of each element and each later one
pub AllPairs-from_adjacent : {X : Type 0} (R : X → X → Type 0) → ((x y z : X) → R x y → R y z → R x z) → (xs : List X) (n : ℕ) →
    AllAdjacentBelow R xs n → length xs ≤ n → AllPairs R xs
AllPairs-from_adjacent {X} R goes xs n near long i j d less lt =
    let on : i + (j - i - 1) + 1 ≡ j = omega (arith, less) in
    subst (λ (k : ℕ). R (get_or xs i d) (get_or xs k d)) on
    (over_distance R goes xs i (j - i - 1) d (λ k e h. near k e (omega (arith, h, long))) (omega (arith, on, lt)))

-- lists in one order, which no two elements are both ways, are equal where they have the same elements
pub AllPairs-unique : {X : Type 0} (R : X → X → Type 0) → ((x y : X) → R x y → R y x → ⊥) → (xs ys : List X) →
    AllPairs R xs → AllPairs R ys → All (Contains ys) xs → All (Contains xs) ys → xs ≡ ys
AllPairs-unique R apart [] [] first second in_ys in_xs = refl
AllPairs-unique R apart [] (y ∷ ys) first second in_ys in_xs =
    let there : Contains [] y = All-head (Contains []) y ys in_xs in absurd (omega (arith, there.1))
AllPairs-unique R apart (x ∷ xs) [] first second in_ys in_xs =
    let there : Contains [] x = All-head (Contains []) x xs in_ys in absurd (omega (arith, there.1))
AllPairs-unique {X} R apart (x ∷ xs) (y ∷ ys) first second in_ys in_xs =
    let after_x : All (R x) xs = AllPairs-head R x xs first in
    let after_y : All (R y) ys = AllPairs-head R y ys second in
    let same : x ≡ y =
    ⊎_elim
    (λ (e : y ≡ x). sym e)
    (λ (later : Contains ys x).
    ⊎_elim
    (λ (e : x ≡ y). e)
    (λ (before : Contains xs y). absurd (apart x y (All-contains (R x) xs y after_x before) (All-contains (R y) ys x after_y later)))
    (Contains-cons_cases x xs y (All-head (Contains (x ∷ xs)) y ys in_xs)))
    (Contains-cons_cases y ys x (All-head (Contains (y ∷ ys)) x xs in_ys)) in
    let never : (z : X) → R z z → ⊥ = λ z r. apart z z r r in
    let xs_in : All (Contains ys) xs = λ k d lt.
    ⊎_elim
    (λ e. absurd (never x (subst (R x) (sym e ∙ sym same) (after_x k d lt))))
    (λ there. there)
    (Contains-cons_cases y ys _ (All-tail (Contains (y ∷ ys)) x xs in_ys k d lt)) in
    let ys_in : All (Contains xs) ys = λ k d lt.
    ⊎_elim
    (λ e. absurd (never y (subst (R y) (sym e ∙ same) (after_y k d lt))))
    (λ there. there)
    (Contains-cons_cases x xs _ (All-tail (Contains (x ∷ xs)) y ys in_xs k d lt)) in
    ap₂ (λ (z : X) (zs : List X). z ∷ zs) same
    (AllPairs-unique R apart xs ys (AllPairs-tail R x xs first) (AllPairs-tail R y ys second) xs_in ys_in)
