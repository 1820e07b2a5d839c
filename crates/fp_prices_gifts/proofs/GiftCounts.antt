-- The number for which a gift is given bounds the trucks of each plan of the leaf.
use Rattle.std.proofs.Common.{◌≡◌, ℕ, ◌+◌, ◌≤◌, Bool, true, false, ◌&&◌, List, [], ◌∷◌, refl, ap, ◌∙◌, arith}
use Rattle.std.specs.Prelude.{nat_eq, not, Option, Some, None, if◌then◌else◌}
use Rattle.std.proofs.lemmas.Bool.{and_parts, eqb-true, false≢true}
use Rattle.fp_tree.specs.declared.sides.Side.{Side}
use Rattle.fp_tree.specs.declared.sides.Side.TheVariants.{Without, Only, Before, From, AtMost, MoreThan, Through, Outside}
use Rattle.fp_tree.specs.Sides.{Counts, HasCount, HasCounts}
use Rattle.fp_prices_gifts.specs.declared.gifts.Gift.{Gift}
use Rattle.fp_prices_gifts.specs.GiftNumbers.{better, gift_number, is_of, number_by}

-- the number, if there is one, is at most so many trucks, or at least
abbrev pub Bounds : Bool → ℕ → Option ℕ → Type 0
Bounds least count None = Unit {0}
Bounds true count (Some n) = n ≤ count
Bounds false count (Some n) = count ≤ n

better-bounds : (least : Bool) (count : ℕ) (o q : Option ℕ) → Bounds least count o → Bounds least count q → Bounds least count (better least o q)
better-bounds least count None q first second = second
better-bounds least count (Some a) None first second = first
better-bounds true count (Some a) (Some b) first second = omega (arith, first, second)
better-bounds false count (Some a) (Some b) first second = omega (arith, first, second)

by_test : (least test : Bool) (count n : ℕ) → (test ≡ true → Bounds least count (Some n)) → Bounds least count (if test then Some n else None)
by_test least true count n h = h refl
by_test least false count n h = tt

at_least : (least : Bool) (count n : ℕ) → least ≡ true → n ≤ count → Bounds least count (Some n)
at_least true count n is le = le
at_least false count n is le = absurd (false≢true is)

at_most : (least : Bool) (count n : ℕ) → not least ≡ true → count ≤ n → Bounds least count (Some n)
at_most true count n is le = absurd (false≢true is)
at_most false count n is le = le

-- trucks are counted alike for a gift and for the arc and the times that it is of
count-same : (counts : Counts) (gift : Gift) (arc point until : ℕ) → is_of gift arc point until ≡ true → counts gift.arc gift.point gift.until ≡ counts arc point until
count-same counts gift arc point until is =
    let parts = and_parts (nat_eq gift.arc arc && nat_eq gift.point point) (nat_eq gift.until until) is in
    let first = and_parts (nat_eq gift.arc arc) (nat_eq gift.point point) parts.0 in
    ap (λ (n : ℕ). counts n gift.point gift.until) (eqb-true gift.arc arc first.0) ∙ ap (λ (n : ℕ). counts arc n gift.until) (eqb-true gift.point point first.1)
    ∙ ap (λ (n : ℕ). counts arc point n) (eqb-true gift.until until parts.1)

-- the number that a side tells bounds the trucks where there are as many as it asks
number-bounds : (counts : Counts) (gift : Gift) (side : Side) → HasCount counts side → Bounds gift.least (counts gift.arc gift.point gift.until) (number_by gift side)
number-bounds counts gift (Without shipment arc) has = tt
number-bounds counts gift (Only shipment arc tail) has = tt
number-bounds counts gift (Before shipment terminal at) has = tt
number-bounds counts gift (From shipment terminal at) has = tt
number-bounds counts gift (AtMost arc point until trucks) has =
    by_test gift.least (not gift.least && is_of gift arc point until) (counts gift.arc gift.point gift.until) trucks
    (λ yes.
    let parts = and_parts (not gift.least) (is_of gift arc point until) yes in
    at_most gift.least (counts gift.arc gift.point gift.until) trucks parts.0 (omega (arith, count-same counts gift arc point until parts.1, has)))
number-bounds counts gift (MoreThan arc point until trucks) has =
    by_test gift.least (gift.least && is_of gift arc point until) (counts gift.arc gift.point gift.until) (trucks + 1)
    (λ yes.
    let parts = and_parts gift.least (is_of gift arc point until) yes in
    at_least gift.least (counts gift.arc gift.point gift.until) (trucks + 1) parts.0 (omega (arith, count-same counts gift arc point until parts.1, has)))
number-bounds counts gift (Through shipment arc) has = tt
number-bounds counts gift (Outside shipment arc point until) has = tt

-- so does the best one
pub gift_number-bounds : (counts : Counts) (sides : List Side) (gift : Gift) → HasCounts counts sides → Bounds gift.least (counts gift.arc gift.point gift.until) (gift_number sides gift)
gift_number-bounds counts [] gift has = tt
gift_number-bounds counts (side ∷ sides) gift has =
    better-bounds gift.least (counts gift.arc gift.point gift.until) (number_by gift side) (gift_number sides gift) (number-bounds counts gift side has.0) (gift_number-bounds counts sides gift has.1)
