-- A leaf has one value with gifts, and none where it is empty by its heads; without gifts it is that by spans.
use Rattle.std.proofs.Common.{◌≡◌, ℕ, ◌+◌, ◌-◌, Bool, List, [], ◌∷◌, inl, refl, sym, ap, ap₂, subst, arith}
use Rattle.std.specs.Prelude.{MatchOption, None, Option, Some}
use Rattle.std.specs.List.{AllZip}
use Rattle.fp_model.specs.Problem.{Problem}
use Rattle.fp_flatnet.specs.declared.window_tables.Window.{Window}
use Rattle.fp_tree.specs.declared.sides.Side.{Side}
use Rattle.fp_prices.specs.declared.leaf_prices.Kind.{Kind}
use Rattle.fp_prices.specs.declared.values.bounds.LeafBound.{LeafBound}
use Rattle.fp_prices.specs.declared.values.bounds.LeafBound.TheVariants.{Empty, Value}
use Rattle.fp_prices.specs.Shares.{ClassShare}
use Rattle.fp_prices_spans.specs.Spans.{ClassSpan}
use Rattle.fp_prices_spans.specs.SpanLeaves.{IsSpanLeafValue}
use Rattle.fp_prices_spans.proofs.OneSpanValue.{span_leaves-have-one-value}
use Rattle.fp_prices_gifts.specs.declared.gifts.Gift.{Gift}
use Rattle.fp_prices_gifts.specs.GiftLeaves.{GiftLeavesHaveOneValue, IsGiftBoundOf, IsGiftLeafValue, IsGiven, IsPlain, ValuesWithoutGifts, least_total, most_total}
use Rattle.fp_prices_gifts.specs.GiftNumbers.{gift_number}
use Rattle.fp_prices_gifts.proofs.GivenSums.{given-all, given-none}

-- what is there is one thing
some-same : (o : Option ℕ) (m n : ℕ) → o ≡ Some m → o ≡ Some n → m ≡ n
some-same o m n is also = cc

-- the sides tell one number for each gift
numbers-unique : (sides : List Side) (gifts : List Gift) (A B : List ℕ) → AllZip (λ gift n. gift_number sides gift ≡ Some n) gifts A → AllZip (λ gift n. gift_number sides gift ≡ Some n) gifts B → A ≡ B
numbers-unique sides [] [] [] is_a is_b = refl
numbers-unique sides [] [] (b ∷ B) is_a is_b = absurd is_b
numbers-unique sides [] (a ∷ A) B is_a is_b = absurd is_a
numbers-unique sides (gift ∷ gifts) [] B is_a is_b = absurd is_a
numbers-unique sides (gift ∷ gifts) (a ∷ A) [] is_a is_b = absurd is_b
numbers-unique sides (gift ∷ gifts) (a ∷ A) (b ∷ B) is_a is_b =
    ap₂ (λ (n : ℕ) (ns : List ℕ). n ∷ ns) (some-same (gift_number sides gift) a b is_a.0 is_b.0) (numbers-unique sides gifts A B is_a.1 is_b.1)

-- so the gifts make one value of one
pub given-unique : (p : Problem) (points : ℕ → List ℕ) (sides : List Side) (gifts : List Gift) (before also v w : ℕ) → before ≡ also → IsGiven p points sides gifts before v → IsGiven p points sides gifts also w → v ≡ w
given-unique p points sides gifts before also v w same is_v is_w =
    let numbers : is_v.numbers ≡ is_w.numbers = numbers-unique sides gifts is_v.numbers is_w.numbers is_v.are_numbers is_w.are_numbers in
    omega (arith, same, is_v.value_is, is_w.value_is, ap (least_total gifts) numbers, ap (most_total gifts) numbers)

module _ (p : Problem) (windows : ℕ → ℕ → Option Window) (points : ℕ → List ℕ) (sides : List Side) (tables : List (List ClassShare)) (spans : List ClassSpan) where
  -- a leaf with a value by spans of which the gifts make none has no bound with gifts
  pub no-bound : (gifts : List Gift) (kind : Kind) (forced : Bool) (value : ℕ) → IsSpanLeafValue p windows points sides tables spans kind forced value →
      ((v : ℕ) → IsPlain gifts forced → IsGiven p points sides gifts value v → ⊥) → (b : LeafBound) → IsGiftBoundOf p windows points sides tables spans gifts kind forced b → ⊥
  no-bound gifts kind forced value is none (Empty shipment) empty =
      span_leaves-have-one-value.some p windows points sides tables spans kind forced value is (record { shipment = shipment; exists = empty.exists; none = empty.none })
  no-bound gifts kind forced value is none (Value v) gifted =
      let same : gifted.before ≡ value = span_leaves-have-one-value.one p windows points sides tables spans kind forced gifted.before value gifted.by_spans is in
      none v gifted.plain (subst (λ (n : ℕ). IsGiven p points sides gifts n v) same gifted.given)

  -- without gifts
  without : (kind : Kind) (forced : Bool) (v : ℕ) → IsGiftLeafValue p windows points sides tables spans [] kind forced v → IsSpanLeafValue p windows points sides tables spans kind forced v
  without kind forced v is = subst (IsSpanLeafValue p windows points sides tables spans kind forced) (sym (nothing is.given.numbers is.given.are_numbers is.given.value_is)) is.by_spans
    where
      nothing : (numbers : List ℕ) → AllZip (λ gift n. gift_number sides gift ≡ Some n) [] numbers → v ≡ is.before + least_total [] numbers - most_total [] numbers → v ≡ is.before
      nothing [] are same = omega (arith, same)
      nothing (n ∷ numbers) are same = absurd are

  with_none : (kind : Kind) (forced : Bool) (v : ℕ) → IsSpanLeafValue p windows points sides tables spans kind forced v → IsGiftLeafValue p windows points sides tables spans [] kind forced v
  with_none kind forced v is = record {
    before = v;
    plain = inl refl;
    by_spans = is;
    given = given-all p points sides [] 0 0 v v (omega arith) (given-none p points sides).totals;
  }

-- what is known of a value is known of it beside gifts that may stand there
pub with-plain : (p : Problem) (points : ℕ → List ℕ) (sides : List Side) (gifts : List Gift) (forced : Bool) (value : ℕ) (r : Option ℕ) → IsPlain gifts forced →
    MatchOption r ((v : ℕ) → IsGiven p points sides gifts value v → ⊥) (IsGiven p points sides gifts value) →
    MatchOption r ((v : ℕ) → IsPlain gifts forced → IsGiven p points sides gifts value v → ⊥) (λ v. IsPlain gifts forced × IsGiven p points sides gifts value v)
with-plain p points sides gifts forced value None plain none = λ v also given. none v given
with-plain p points sides gifts forced value (Some v) plain given = (plain, given)

pub gift_leaves-have-one-value : GiftLeavesHaveOneValue
gift_leaves-have-one-value = record {
  one = λ p windows points sides tables spans gifts kind forced v w is_v is_w.
      given-unique p points sides gifts is_v.before is_w.before v w
      (span_leaves-have-one-value.one p windows points sides tables spans kind forced is_v.before is_w.before is_v.by_spans is_w.by_spans) is_v.given is_w.given;
  some = λ p windows points sides tables spans gifts kind forced v is empty. span_leaves-have-one-value.some p windows points sides tables spans kind forced is.before is.by_spans empty;
}

pub values-without-gifts : ValuesWithoutGifts
values-without-gifts p windows points sides tables spans kind forced v = (without p windows points sides tables spans kind forced v, with_none p windows points sides tables spans kind forced v)
