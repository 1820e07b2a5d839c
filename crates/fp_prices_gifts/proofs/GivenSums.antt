-- What gifts give at a leaf, gift by gift from the last one on.
use Rattle.std.proofs.Common.{◌≡◌, ℕ, suc, ◌+◌, ◌-◌, ◌*◌, ◌^◌, ◌<◌, ◌≤◌, Bool, true, false, List, [], ◌∷◌, length, get_or, drop, refl, sym, ap, ◌∙◌, subst, arith}
use Rattle.std.specs.Prelude.{None, Some, if◌then◌else◌}
use Rattle.std.specs.List.{AllZip}
use Rattle.std.proofs.Math.Nat.{mul-le-mul_left}
use Rattle.std.proofs.Math.Seq.{drop-cons}
use Rattle.std.proofs.lemmas.Bool.{false≢true}
use Rattle.std.proofs.lemmas.List.Sums.{sum_by-cons, sum_by-take-drop}
use Rattle.std.proofs.lemmas.Option.{none-some}
use Rattle.fp_base_lists.proofs.Elements.{AllByRecursion-get_or}
use Rattle.fp_base_lists.proofs.Numbered.{AllZip-get_or}
use Rattle.fp_model.specs.Problem.{Problem}
use Rattle.fp_tree.specs.declared.sides.Side.{Side}
use Rattle.fp_prices_gifts.specs.declared.gifts.Gift.{Gift}
use Rattle.fp_prices_gifts.specs.Gifts.{gift_total}
use Rattle.fp_prices_gifts.specs.GiftLeaves.{AreGiftTotals, EndsAtPoints, IsGiven, least_total, most_total}
use Rattle.fp_prices_gifts.specs.GiftNumbers.{gift_number}

-- the gifts give these totals, which are small
pub record IsGivenFrom (p : Problem) (points : ℕ → List ℕ) (sides : List Side) (gifts : List Gift) (least most : ℕ) : Type 0 where
  pub totals : AreGiftTotals p points sides gifts least most
  pub small : least + most ≤ gift_total gifts * 2 ^ 32

-- one of two numbers, by a test
taken : (b : Bool) (x y : ℕ) → b ≡ true → (if b then x else y) ≡ x
taken true x y is = refl
taken false x y is = absurd (false≢true is)

left : (b : Bool) (x y : ℕ) → b ≡ false → (if b then x else y) ≡ y
left true x y is = absurd (false≢true (sym is))
left false x y is = refl

module _ (p : Problem) (points : ℕ → List ℕ) (sides : List Side) where
  pub given-none : IsGivenFrom p points sides [] 0 0
  given-none = record { totals = record { numbers = []; ends = tt; are_numbers = tt; least_is = omega arith; most_is = omega arith }; small = omega arith }

  -- one gift more
  pub given-more : (gift : Gift) (gifts : List Gift) (least most n : ℕ) → EndsAtPoints p points gift → gift_number sides gift ≡ Some n → n ≤ 2 ^ 32 → IsGivenFrom p points sides gifts least most →
      IsGivenFrom p points sides (gift ∷ gifts) ((if gift.least then gift.amount * n else 0) + least) ((if gift.least then 0 else gift.amount * n) + most)
  given-more gift gifts least most n ends told few given = record {
    totals = record {
      numbers = n ∷ given.totals.numbers;
      ends = (ends, given.totals.ends);
      are_numbers = (told, given.totals.are_numbers);
      least_is = ap (λ (m : ℕ). (if gift.least then gift.amount * n else 0) + m) given.totals.least_is;
      most_is = ap (λ (m : ℕ). (if gift.least then 0 else gift.amount * n) + m) given.totals.most_is;
    };
    small = omega (arith, given.small, one gift.least (gift.amount * n), mul-le-mul_left gift.amount few, sum_by-cons (λ (g : Gift). g.amount) gift gifts);
  }
    where
      one : (b : Bool) (m : ℕ) → (if b then m else 0) + (if b then 0 else m) ≡ m
      one true m = omega arith
      one false m = omega arith

  -- the same sums, told otherwise
  given-same : (gifts : List Gift) (least most one other : ℕ) → one ≡ least → other ≡ most → IsGivenFrom p points sides gifts least most → IsGivenFrom p points sides gifts one other
  given-same gifts least most one other same too given = record {
    totals = record {
      numbers = given.totals.numbers;
      ends = given.totals.ends;
      are_numbers = given.totals.are_numbers;
      least_is = same ∙ given.totals.least_is;
      most_is = too ∙ given.totals.most_is;
    };
    small = omega (arith, given.small, same, too);
  }

  -- the gift before those from a place on
  module _ (gifts : List Gift) (place : ℕ) (d : Gift) (first : 0 < place) (inside : place ≤ length gifts) where
    abbrev next : Gift
    next = get_or gifts (place - 1) d

    drop-step : drop (place - 1) gifts ≡ next ∷ drop place gifts
    drop-step =
        let after : suc (place - 1) ≡ place = omega arith in
        subst (λ (m : ℕ). drop (place - 1) gifts ≡ next ∷ drop m gifts) after (drop-cons gifts (place - 1) d (omega arith))

    module _ (least most n m : ℕ) (ends : EndsAtPoints p points next) (told : gift_number sides next ≡ Some n) (few : n ≤ 2 ^ 32) (same : m ≡ n) (given : IsGivenFrom p points sides (drop place gifts) least most) where
      given-step : IsGivenFrom p points sides (drop (place - 1) gifts) ((if next.least then next.amount * n else 0) + least) ((if next.least then 0 else next.amount * n) + most)
      given-step =
          subst (λ (some : List Gift). IsGivenFrom p points sides some ((if next.least then next.amount * n else 0) + least) ((if next.least then 0 else next.amount * n) + most)) (sym drop-step)
          (given-more next (drop place gifts) least most n ends told few given)

      -- where it is for at least so many trucks
      pub given-least : next.least ≡ true → IsGivenFrom p points sides (drop (place - 1) gifts) (least + next.amount * m) most
      given-least is =
          let here : (if next.least then next.amount * n else 0) ≡ next.amount * n = taken next.least (next.amount * n) 0 is in
          let there : (if next.least then 0 else next.amount * n) ≡ 0 = taken next.least 0 (next.amount * n) is in
          given-same (drop (place - 1) gifts) ((if next.least then next.amount * n else 0) + least) ((if next.least then 0 else next.amount * n) + most) (least + next.amount * m) most
          (omega (arith, here, ap (λ (k : ℕ). next.amount * k) same)) (omega (arith, there)) given-step

      -- and where it is for at most so many
      pub given-most : next.least ≡ false → IsGivenFrom p points sides (drop (place - 1) gifts) least (most + next.amount * m)
      given-most is =
          let here : (if next.least then next.amount * n else 0) ≡ 0 = left next.least (next.amount * n) 0 is in
          let there : (if next.least then 0 else next.amount * n) ≡ next.amount * n = left next.least 0 (next.amount * n) is in
          given-same (drop (place - 1) gifts) ((if next.least then next.amount * n else 0) + least) ((if next.least then 0 else next.amount * n) + most) least (most + next.amount * m)
          (omega (arith, here)) (omega (arith, there, ap (λ (k : ℕ). next.amount * k) same)) given-step

    -- the amounts from there on are within those of all
    pub total-within : gift_total (drop (place - 1) gifts) ≤ gift_total gifts
    total-within = omega (arith, sum_by-take-drop (λ (g : Gift). g.amount) gifts (place - 1))

  -- what they give of a value
  pub given-all : (gifts : List Gift) (least most before value : ℕ) → value ≡ before + least - most → AreGiftTotals p points sides gifts least most → IsGiven p points sides gifts before value
  given-all gifts least most before value is totals = record {
    numbers = totals.numbers;
    ends = totals.ends;
    are_numbers = totals.are_numbers;
    value_is = omega (arith, is, totals.least_is, totals.most_is);
  }

  -- and the totals of what is given
  pub totals-of : (gifts : List Gift) (before value : ℕ) (given : IsGiven p points sides gifts before value) → AreGiftTotals p points sides gifts (least_total gifts given.numbers) (most_total gifts given.numbers)
  totals-of gifts before value given = record {
    numbers = given.numbers;
    ends = given.ends;
    are_numbers = given.are_numbers;
    least_is = refl;
    most_is = refl;
  }

  -- where one gift does not end at points, or has no number, there are no totals
  pub ends-all : (gifts : List Gift) (least most i : ℕ) (d : Gift) → i < length gifts → AreGiftTotals p points sides gifts least most → EndsAtPoints p points (get_or gifts i d)
  ends-all gifts least most i d inside totals = AllByRecursion-get_or (EndsAtPoints p points) gifts i d totals.ends inside

  pub number-all : (gifts : List Gift) (least most i : ℕ) (d : Gift) → i < length gifts → AreGiftTotals p points sides gifts least most → gift_number sides (get_or gifts i d) ≡ None → ⊥
  number-all gifts least most i d inside totals none =
      none-some (get_or totals.numbers i 0) (sym none ∙ AllZip-get_or (λ gift n. gift_number sides gift ≡ Some n) gifts totals.numbers i d 0 totals.are_numbers inside)
