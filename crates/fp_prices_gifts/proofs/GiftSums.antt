-- What is given for the trucks of a plan, gift by gift.
use Rattle.std.proofs.Common.{◌≡◌, ℕ, ◌+◌, ◌*◌, ◌<◌, ◌≤◌, Bool, true, false, ◌&&◌, List, [], ◌∷◌, refl, ap, ◌∙◌, subst, arith}
use Rattle.std.specs.Prelude.{Option, Some, not, sum_by, if◌then◌else◌}
use Rattle.std.specs.List.{AllByRecursion, AllZip}
use Rattle.std.proofs.Math.Nat.{mul-le-mul_left}
use Rattle.std.proofs.lemmas.List.Sums.{sum_by-cons}
use Rattle.fp_base_lists.proofs.Sums.{sum_by-both, sum_by-const, sum_by-same, sum_by-scaled}
use Rattle.fp_model.specs.declared.parts.Leg.{Leg}
use Rattle.fp_model.specs.Costs.{all_legs, distinct, trucks}
use Rattle.fp_model.specs.Plans.{IsPlan}
use Rattle.fp_model.specs.Problem.{Problem}
use Rattle.fp_model.specs.TruckCounts.{leaves_between, trucks_between}
use Rattle.fp_model.proofs.Distinct.{distinct_sum, distinct_sum_same}
use Rattle.fp_longestarcs.specs.Classes.{class_of}
use Rattle.fp_tree.specs.declared.sides.Side.{Side}
use Rattle.fp_tree.specs.Sides.{HasCounts}
use Rattle.fp_prices_gifts.specs.declared.gifts.Gift.{Gift}
use Rattle.fp_prices_gifts.specs.Gifts.{gives_at, least_at, most_at}
use Rattle.fp_prices_gifts.specs.GiftLeaves.{EndsAtPoints, least_total, most_total}
use Rattle.fp_prices_gifts.specs.GiftNumbers.{gift_number}
use Rattle.fp_prices_gifts.proofs.GiftCounts.{Bounds, gift_number-bounds}
use Rattle.fp_prices_gifts.proofs.GiftRuns.{run-same}

-- so much for each truck that passes a test
counted-term : (given gives leaves : Bool) (amount n : ℕ) → gives ≡ leaves → (if given && gives then amount else 0) * n ≡ (if given then amount else 0) * (if leaves then n else 0)
counted-term given gives true amount n same = rw same (both given)
  where
    both : (b : Bool) → (if b && true then amount else 0) * n ≡ (if b then amount else 0) * n
    both true = refl
    both false = refl
counted-term given gives false amount n same = rw same (none given)
  where
    none : (b : Bool) → (if b && false then amount else 0) * n ≡ (if b then amount else 0) * 0
    none true = omega arith
    none false = omega arith

module _ (p : Problem) (points : ℕ → List ℕ) (d : ℕ) (plan : List (List Leg)) (positive : 0 < d) (is : IsPlan p d plan) where
  abbrev legs : List Leg
  legs = all_legs plan

  -- the trucks that leave in the run of a gift
  abbrev count : Gift → ℕ
  count gift = trucks_between p d plan gift.arc gift.point gift.until

  -- what a gift gives for all trucks
  one-gift : (gift : Gift) (given : Bool) → EndsAtPoints p points gift →
      distinct_sum (λ l. (if given && gives_at gift (class_of p points d l) then gift.amount else 0) * trucks p plan l) legs ≡ (if given then gift.amount else 0) * count gift
  one-gift gift given ends =
      let leaves : Leg → Bool = leaves_between d gift.arc gift.point gift.until in
      let amount : ℕ = if given then gift.amount else 0 in
      distinct_sum_same (λ l. (if given && gives_at gift (class_of p points d l) then gift.amount else 0) * trucks p plan l) (λ l. amount * (if leaves l then trucks p plan l else 0)) legs
      (λ l had. counted-term given (gives_at gift (class_of p points d l)) (leaves l) gift.amount (trucks p plan l) (run-same p points d plan positive is gift ends l had))
      ∙ sum_by-scaled amount (λ l. if leaves l then trucks p plan l else 0) (distinct legs)

  -- one gift more
  more-given : (f : Gift → Leg → ℕ) (gift : Gift) (gifts : List Gift) →
      distinct_sum (λ l. sum_by (λ g. f g (class_of p points d l)) (gift ∷ gifts) * trucks p plan l) legs
      ≡ distinct_sum (λ l. f gift (class_of p points d l) * trucks p plan l) legs + distinct_sum (λ l. sum_by (λ g. f g (class_of p points d l)) gifts * trucks p plan l) legs
  more-given f gift gifts =
      sum_by-same (λ l. sum_by (λ g. f g (class_of p points d l)) (gift ∷ gifts) * trucks p plan l)
      (λ l. f gift (class_of p points d l) * trucks p plan l + sum_by (λ g. f g (class_of p points d l)) gifts * trucks p plan l)
      (λ l.
      let c : Leg = class_of p points d l in
      let parts : sum_by (λ g. f g c) (gift ∷ gifts) ≡ f gift c + sum_by (λ g. f g c) gifts = sum_by-cons (λ g. f g c) gift gifts in
      omega (arith, ap (λ (n : ℕ). n * trucks p plan l) parts)) (distinct legs)
      ∙ sum_by-both (λ l. f gift (class_of p points d l) * trucks p plan l) (λ l. sum_by (λ g. f g (class_of p points d l)) gifts * trucks p plan l) (distinct legs)

  none-given : distinct_sum (λ l. 0 * trucks p plan l) legs ≡ 0
  none-given = sum_by-same (λ l. 0 * trucks p plan l) (λ (l : Leg). 0) (λ l. omega arith) (distinct legs) ∙ (let e : sum_by (λ (l : Leg). 0) (distinct legs) ≡ 0 = omega (arith, sum_by-const {X = Leg} 0 (distinct legs)) in e)

  module _ (sides : List Side) (counts : HasCounts (trucks_between p d plan) sides) where
    -- what the number of a gift says
    number-told : (gift : Gift) (n : ℕ) → gift_number sides gift ≡ Some n → Bounds gift.least (count gift) (Some n)
    number-told gift n told = subst (λ (o : Option ℕ). Bounds gift.least (count gift) o) told (gift_number-bounds (trucks_between p d plan) sides gift counts)

    -- what is given because at least so many trucks leave is no more than is given for all of them
    pub least-given : (gifts : List Gift) (numbers : List ℕ) → AllByRecursion (EndsAtPoints p points) gifts → AllZip (λ gift n. gift_number sides gift ≡ Some n) gifts numbers →
        least_total gifts numbers ≤ distinct_sum (λ l. least_at gifts (class_of p points d l) * trucks p plan l) legs
    least-given [] [] ends told = omega (arith, none-given)
    least-given [] (n ∷ numbers) ends told = absurd told
    least-given (gift ∷ gifts) [] ends told = absurd told
    least-given (gift ∷ gifts) (n ∷ numbers) ends told =
        omega (
          arith,
          more-given (λ g c. if g.least && gives_at g c then g.amount else 0) gift gifts,
          one-gift gift gift.least ends.0,
          here gift.least gift.amount n (count gift) (number-told gift n told.0),
          least-given gifts numbers ends.1 told.1,
        )
      where
        here : (least : Bool) (amount m times : ℕ) → Bounds least times (Some m) → (if least then amount * m else 0) ≤ (if least then amount else 0) * times
        here true amount m times le = mul-le-mul_left amount le
        here false amount m times le = omega arith

    -- and because at most so many leave no less
    pub most-given : (gifts : List Gift) (numbers : List ℕ) → AllByRecursion (EndsAtPoints p points) gifts → AllZip (λ gift n. gift_number sides gift ≡ Some n) gifts numbers →
        distinct_sum (λ l. most_at gifts (class_of p points d l) * trucks p plan l) legs ≤ most_total gifts numbers
    most-given [] [] ends told = omega (arith, none-given)
    most-given [] (n ∷ numbers) ends told = absurd told
    most-given (gift ∷ gifts) [] ends told = absurd told
    most-given (gift ∷ gifts) (n ∷ numbers) ends told =
        omega (
          arith,
          more-given (λ g c. if not g.least && gives_at g c then g.amount else 0) gift gifts,
          one-gift gift (not gift.least) ends.0,
          here gift.least gift.amount n (count gift) (number-told gift n told.0),
          most-given gifts numbers ends.1 told.1,
        )
      where
        here : (least : Bool) (amount m times : ℕ) → Bounds least times (Some m) → (if not least then amount else 0) * times ≤ (if least then 0 else amount * m)
        here true amount m times le = omega arith
        here false amount m times le = mul-le-mul_left amount le
