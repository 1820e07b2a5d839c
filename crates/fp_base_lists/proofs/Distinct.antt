-- Lists in which no element stands twice.
use Rattle.std.proofs.Common.{◌≡◌, ◌≢◌, ℕ, ◌<◌, true, false, List, [], ◌∷◌, ◌++◌, length, get_or, map, take, refl, sym, ap, ◌∙◌, ⊎_elim, arith, get_or-take, length-take-le}
use Rattle.std.specs.List.{AllByRecursion}
use Rattle.std.proofs.Math.Dec.{eqb}
use Rattle.std.proofs.lemmas.Bool.{eqb-true, false_from_ne_true, false≢true, or_cases}
use Rattle.std.proofs.lemmas.List.{get_or-map, length-map}
use Rattle.std.proofs.lemmas.List.Elements.{All-from_recursion, recursion_from_All}
use Rattle.std.proofs.lemmas.List.Kept.{AllPairs-cons}
use Rattle.std.proofs.lemmas.List.Quantifiers.{all_pairs_push}
use Rattle.fp_base_lists.specs.Distinct.{AreDistinct}
use Rattle.fp_base_lists.specs.Membership.{list_has}
use Rattle.fp_base_lists.proofs.Elements.{AllByRecursion-from_get_or, AllByRecursion-get_or, AllByRecursion-weaker}
use Rattle.fp_base_lists.proofs.Pairs.{AllPairs-head, AllPairs-nil, AllPairs-tail}

-- the empty list has none twice
pub AreDistinct-nil : {X : Type 0} → AreDistinct {X = X} []
AreDistinct-nil {X} = AllPairs-nil (λ (x y : X). x ≢ y)

-- the first element differs from the others
pub AreDistinct-head : {X : Type 0} (x : X) (xs : List X) → AreDistinct (x ∷ xs) → AllByRecursion (λ y. y ≢ x) xs
AreDistinct-head {X} x xs distinct =
    AllByRecursion-weaker (λ (y : X). x ≢ y) (λ y. y ≢ x) (λ y other e. other (sym e)) xs
    (recursion_from_All (λ (y : X). x ≢ y) xs (AllPairs-head (λ (a b : X). a ≢ b) x xs distinct))

-- and these are distinct
pub AreDistinct-tail : {X : Type 0} (x : X) (xs : List X) → AreDistinct (x ∷ xs) → AreDistinct xs
AreDistinct-tail {X} x xs distinct = AllPairs-tail (λ (a b : X). a ≢ b) x xs distinct

-- distinct elements and one that differs from them
pub AreDistinct-cons : {X : Type 0} (x : X) (xs : List X) → AllByRecursion (λ y. y ≢ x) xs → AreDistinct xs → AreDistinct (x ∷ xs)
AreDistinct-cons {X} x xs others distinct =
    AllPairs-cons (λ (a b : X). a ≢ b) x xs
    (All-from_recursion (λ (y : X). x ≢ y) xs (AllByRecursion-weaker (λ (y : X). y ≢ x) (λ y. x ≢ y) (λ y other e. other (sym e)) xs others)) distinct

-- at the end too
pub AreDistinct-push : {X : Type 0} (xs : List X) (x : X) → AreDistinct xs → AllByRecursion (λ y. y ≢ x) xs → AreDistinct (xs ++ x ∷ [])
AreDistinct-push {X} xs x distinct others =
    all_pairs_push (λ (a b : X). a ≢ b) xs x distinct (λ k d lt. AllByRecursion-get_or (λ (y : X). y ≢ x) xs k d others lt)

-- elements with distinct values are distinct
pub AreDistinct-from_map : {X Y : Type 0} (f : X → Y) (xs : List X) → AreDistinct (map f xs) → AreDistinct xs
AreDistinct-from_map {X} {Y} f xs distinct i j d less lt same =
    let long : length (map f xs) ≡ length xs = length-map xs f in
    let first : get_or (map f xs) i (f d) ≡ f (get_or xs i d) = get_or-map f xs i d (f d) (omega (arith, less, lt)) in
    let second : get_or (map f xs) j (f d) ≡ f (get_or xs j d) = get_or-map f xs j d (f d) lt in
    distinct i j (f d) less (omega (arith, lt, long)) (first ∙ ap f same ∙ sym second)

-- a number that differs from each of a list isn't in it
pub list_has-others : (numbers : List ℕ) (n : ℕ) → AllByRecursion (λ m. m ≢ n) numbers → list_has numbers n ≡ false
list_has-others [] n others = refl
list_has-others (m ∷ numbers) n others =
    false_from_ne_true (list_has (m ∷ numbers) n) (λ has.
    ⊎_elim
    (λ (here : eqb m n ≡ true). others.0 (eqb-true m n here))
    (λ (later : list_has numbers n ≡ true). false≢true (sym (list_has-others numbers n others.1) ∙ later))
    (or_cases (eqb m n) (list_has numbers n) has))

-- among distinct numbers none stands before itself
pub list_has-take_distinct : (numbers : List ℕ) (i : ℕ) → AreDistinct numbers → i < length numbers → list_has (take i numbers) (get_or numbers i 0) ≡ false
list_has-take_distinct numbers i distinct lt =
    list_has-others (take i numbers) (get_or numbers i 0)
    (AllByRecursion-from_get_or (λ m. m ≢ get_or numbers i 0) (take i numbers) 0 (λ k below same.
    let before : k < i = omega (arith, below, length-take-le i numbers (omega (arith, lt))) in
    distinct k i 0 before lt (sym (get_or-take i numbers k 0 before) ∙ same)))
