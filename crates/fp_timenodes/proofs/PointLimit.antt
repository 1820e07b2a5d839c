-- How many distinct points can be added at all.
use Rattle.std.proofs.Common.{◌≡◌, ℕ, ◌+◌, ◌-◌, ◌*◌, ◌<◌, ◌≤◌, ◌≢◌, true, List, [], ◌∷◌, length, get_or, map, All, ⊎_elim, arith}
use Rattle.std.specs.Prelude.{AllPairs}
use Rattle.std.specs.List.{list_any}
use Rattle.std.proofs.Math.Dec.{eqb}
use Rattle.std.proofs.lemmas.Bool.{eqb-true, false≢true, or_cases}
use Rattle.std.proofs.lemmas.Bool.Decides.{Decides-eqb}
use Rattle.std.proofs.lemmas.List.{get_or-map, length-map}
use Rattle.std.proofs.lemmas.List.Elements.{All-head, All-tail, All-weaker}
use Rattle.std.proofs.lemmas.Map.Made.{IsDistinct-from_AllPairs}
use Rattle.std.proofs.lemmas.Map.Steps.{length-le_from_distinct_below}
use Rattle.std.proofs.lemmas.Nat.{mul-add-lt, same_from_place}
use Rattle.fp_timenodes.specs.declared.places.AddedPoint.{AddedPoint}
use Rattle.fp_timenodes.specs.Points.{HaveDistinctPlaces}

-- elements of which no two have the same number, all below n, are at most n
length_le_numbers : {X : Type 0} (number : X → ℕ) (n : ℕ) (xs : List X) → AllPairs (λ x y. number x ≢ number y) xs → All (λ x. number x < n) xs → length xs ≤ n
length_le_numbers number n [] apart below = omega arith
length_le_numbers {X} number n (x ∷ xs) apart below =
    omega (arith, length-map (x ∷ xs) number, length-le_from_distinct_below numbers n (IsDistinct-from_AllPairs Decides-eqb numbers pairs) (within (x ∷ xs) below))
  where
    numbers : List ℕ
    numbers = map number (x ∷ xs)

    pairs : AllPairs (λ (a b : ℕ). a ≢ b) numbers
    pairs i j d less lt =
        let long : j < length (x ∷ xs) = omega (arith, lt, length-map (x ∷ xs) number) in
        rw (get_or-map number (x ∷ xs) i x d (omega (arith, less, long)), get_or-map number (x ∷ xs) j x d long) (apart i j x less long)

    within : (ys : List X) → All (λ y. number y < n) ys → (q : ℕ) → list_any (eqb q) (map number ys) ≡ true → q < n
    within [] all q h = absurd (false≢true h)
    within (y ∷ ys) all q h =
        ⊎_elim
        (λ (e : eqb q (number y) ≡ true). omega (arith, eqb-true q (number y) e, All-head (λ (z : X). number z < n) y ys all))
        (λ (r : list_any (eqb q) (map number ys) ≡ true). within ys (All-tail (λ (z : X). number z < n) y ys all) q r)
        (or_cases (eqb q (number y)) (list_any (eqb q) (map number ys)) h)

-- points at distinct places, each at one of the terminals and at one of `count` times from `start`
-- on, are at most that many for each terminal
pub length_distinct_places : (terminals start count : ℕ) (added : List AddedPoint) → HaveDistinctPlaces added →
    All (λ (p : AddedPoint). (p.terminal < terminals) × (start ≤ p.at) × (p.at < start + count)) added → length added ≤ terminals * count
length_distinct_places terminals start count added distinct within =
    omega (arith, length_le_numbers number (count * terminals) added numbers (All-weaker (λ (p : AddedPoint). (p.terminal < terminals) × (start ≤ p.at) × (p.at < start + count)) (λ (p : AddedPoint). number p < count * terminals) below added within))
  where
    number : AddedPoint → ℕ
    number p = p.terminal * count + (p.at - start)

    below : (p : AddedPoint) → (p.terminal < terminals) × (start ≤ p.at) × (p.at < start + count) → number p < count * terminals
    below p h = mul-add-lt p.terminal count (p.at - start) terminals h.0 (omega (arith, h.1, h.2))

    numbers : AllPairs (λ (p q : AddedPoint). number p ≢ number q) added
    numbers i j d less lt same =
        let one = within i d (omega (arith, less, lt)) in
        let two = within j d lt in
        let places = same_from_place (get_or added i d).terminal ((get_or added i d).at - start) (get_or added j d).terminal ((get_or added j d).at - start) count (omega (arith, one.1, one.2)) (omega (arith, two.1, two.2)) same in
        distinct i j d less lt places.0 (omega (arith, places.1, one.1, two.1))

-- since 0 is always a point, those that were none before are at most `last` for each terminal
pub length_distinct_new : (terminals last : ℕ) (added : List AddedPoint) → HaveDistinctPlaces added → All (λ (p : AddedPoint). (p.terminal < terminals) × (1 ≤ p.at) × (p.at ≤ last)) added →
    length added ≤ terminals * last
length_distinct_new terminals last added distinct within =
    length_distinct_places terminals 1 last added distinct
    (All-weaker (λ (p : AddedPoint). (p.terminal < terminals) × (1 ≤ p.at) × (p.at ≤ last)) (λ (p : AddedPoint). (p.terminal < terminals) × (1 ≤ p.at) × (p.at < 1 + last))
    (λ p h. (h.0, h.1, omega (arith, h.2))) added within)
