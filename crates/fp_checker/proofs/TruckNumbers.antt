-- What number of trucks some sides tell a gift: the best of those that each of them tells.
use Rattle.std.proofs.Common.{◌≡◌, ◌∙◌, ℕ, zero, suc, ◌<◌, Bool, true, false, List, [], ◌∷◌, ◌++◌, length, get_or, set, refl, sym, ap, arith}
use Rattle.std.specs.Prelude.{None, Option, Some}
use Rattle.fp_tree.specs.declared.sides.Side.{Side}
use Rattle.fp_prices_gifts.specs.declared.gifts.Gift.{Gift}
use Rattle.fp_prices_gifts.specs.GiftNumbers.{better, gift_number, number_by}

-- nothing is no better
pub better-none : (least : Bool) (o : Option ℕ) → better least o None ≡ o
better-none least None = refl
better-none least (Some a) = refl

-- the best of three numbers
pub better-last : (least : Bool) (o q r : Option ℕ) → better least o (better least q r) ≡ better least (better least o q) r
better-last least None q r = refl
better-last least (Some a) None r = refl
better-last true (Some a) (Some b) None = refl
better-last false (Some a) (Some b) None = refl
better-last true (Some a) (Some b) (Some c) = ap (λ (n : ℕ). Some n) (omega arith)
better-last false (Some a) (Some b) (Some c) = ap (λ (n : ℕ). Some n) (omega arith)

-- in whichever order
pub better-turned : (least : Bool) (o q : Option ℕ) → better least o q ≡ better least q o
better-turned least None q = sym (better-none least q)
better-turned least (Some a) None = refl
better-turned true (Some a) (Some b) = ap (λ (n : ℕ). Some n) (omega arith)
better-turned false (Some a) (Some b) = ap (λ (n : ℕ). Some n) (omega arith)

-- a number is no better than itself
pub better-same : (least : Bool) (o : Option ℕ) → better least o o ≡ o
better-same least None = refl
better-same true (Some a) = ap (λ (n : ℕ). Some n) (omega arith)
better-same false (Some a) = ap (λ (n : ℕ). Some n) (omega arith)

-- one side more
pub number-more : (sides : List Side) (side : Side) (gift : Gift) → gift_number (sides ++ side ∷ []) gift ≡ better gift.least (gift_number sides gift) (number_by gift side)
number-more [] side gift = better-none gift.least (number_by gift side)
number-more (x ∷ sides) side gift =
    ap (better gift.least (number_by gift x)) (number-more sides side gift)
    ∙ better-last gift.least (number_by gift x) (gift_number sides gift) (number_by gift side)

-- a number that no other is better than stands for both
set-here : (least : Bool) (y x l : Option ℕ) → better least y x ≡ y → better least y l ≡ better least (better least x l) y
set-here least y x l no_better =
    ap (λ (o : Option ℕ). better least o l) (sym no_better)
    ∙ sym (better-last least y x l)
    ∙ better-turned least y (better least x l)

-- a side that tells no better number than another of them
number-here : (least : Bool) (x l y : Option ℕ) → better least x y ≡ x → better least x l ≡ better least (better least x l) y
number-here least x l y no_better =
    ap (λ (o : Option ℕ). better least o l) (sym no_better)
    ∙ sym (better-last least x y l)
    ∙ ap (better least x) (better-turned least y l)
    ∙ better-last least x l y

pub number-implied : (sides : List Side) (i : ℕ) (side d : Side) (gift : Gift) → i < length sides → better gift.least (number_by gift (get_or sides i d)) (number_by gift side) ≡ number_by gift (get_or sides i d) →
    gift_number sides gift ≡ better gift.least (gift_number sides gift) (number_by gift side)
number-implied [] i side d gift lt no_better = absurd (omega (arith, lt))
number-implied (x ∷ sides) zero side d gift lt no_better = number-here gift.least (number_by gift x) (gift_number sides gift) (number_by gift side) no_better
number-implied (x ∷ sides) (suc i) side d gift lt no_better =
    ap (better gift.least (number_by gift x)) (number-implied sides i side d gift (omega (arith, lt)) no_better)
    ∙ better-last gift.least (number_by gift x) (gift_number sides gift) (number_by gift side)

-- a side in the place of another, which tells no better number
pub number-set : (sides : List Side) (i : ℕ) (side d : Side) (gift : Gift) → i < length sides → better gift.least (number_by gift side) (number_by gift (get_or sides i d)) ≡ number_by gift side →
    gift_number (set sides i side) gift ≡ better gift.least (gift_number sides gift) (number_by gift side)
number-set [] i side d gift lt no_better = absurd (omega (arith, lt))
number-set (x ∷ sides) zero side d gift lt no_better = set-here gift.least (number_by gift side) (number_by gift x) (gift_number sides gift) no_better
number-set (x ∷ sides) (suc i) side d gift lt no_better =
    ap (better gift.least (number_by gift x)) (number-set sides i side d gift (omega (arith, lt)) no_better)
    ∙ better-last gift.least (number_by gift x) (gift_number sides gift) (number_by gift side)

-- sides behind others
pub number-append : (sides more : List Side) (gift : Gift) → gift_number (sides ++ more) gift ≡ better gift.least (gift_number sides gift) (gift_number more gift)
number-append [] more gift = refl
number-append (x ∷ sides) more gift =
    ap (better gift.least (number_by gift x)) (number-append sides more gift) ∙ better-last gift.least (number_by gift x) (gift_number sides gift) (gift_number more gift)
