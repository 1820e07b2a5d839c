-- The costs of classes, put in one after the other.
use Rattle.std.proofs.Common.{◌≡◌, ℕ, ◌+◌, ◌*◌, ◌<◌, ◌≤◌, Bool, true, false, List, length, get_or, set, refl, ap, ◌∙◌, arith}
use Rattle.std.specs.Prelude.{Option, Some, None, if◌then◌else◌}
use Rattle.std.proofs.lemmas.List.{get_or-set_other, length-set}
use Rattle.fp_model.specs.declared.parts.Leg.{Leg}
use Rattle.fp_model.specs.Problem.{arc_at}
use Rattle.fp_longestarcs.specs.Networks.{TimedNetwork, class_count, class_number}
use Rattle.fp_longestarcs.proofs.ClassNumbers.{number-within}
use Rattle.fp_allowed.specs.Bits.{bit_of}
use Rattle.fp_allowed.specs.Listing.{class_at}
use Rattle.fp_allowed.proofs.ListedClasses.{class_at-number}
use Rattle.fp_prices.specs.declared.classes.class_prices.ClassPricing.{ClassPricing}
use Rattle.fp_prices.specs.declared.leaf_prices.Kind.{Kind}
use Rattle.fp_prices.specs.ClassCosts.{HoldsClassCosts}
use Rattle.fp_prices.specs.Leaves.{leaf_price}
use Rattle.fp_prices.specs.Pricings.{IsPricing, RowAllows}
use Rattle.fp_prices.specs.Shares.{ClassShare}
use Rattle.fp_prices.proofs.SetBits.{AreRewritten, IsNextSet, rewritten_all, rewritten_more, rewritten_none}

-- what the class with a number costs the shipment with the number k and a size
abbrev pub cost_at : ClassPricing → List (List ClassShare) → (ℕ → Leg → Bool) → Kind → List (List Leg) → (k size n : ℕ) → ℕ
cost_at pricing tables allowed kind chains k size n =
    leaf_price pricing.instance.now tables allowed kind chains k size (class_at pricing.network.now n)
    + pricing.instance.now.scale * (arc_at pricing.instance.now (class_at pricing.network.now n).arc).freight * size

-- the entries below a place are costs where the row's bit is set, and the others are as they were
pub record AreFilled (pricing : ClassPricing) (k size : ℕ) (row : List Bool) (old now : List (Option ℕ)) (next : ℕ) : Type 0 where
  pub within : next ≤ length row
  pub long : length now ≡ length old
  pub costs : (tables : List (List ClassShare)) (allowed : ℕ → Leg → Bool) (kind : Kind) (chains : List (List Leg)) → IsPricing tables allowed kind chains pricing → RowAllows pricing.network.now (allowed k) row →
      AreRewritten (λ n _. Some (cost_at pricing tables allowed kind chains k size n)) None row old now next
  pub others : (n : ℕ) → length row ≤ n → get_or now n None ≡ get_or old n None

pub filled_none : (pricing : ClassPricing) (k size : ℕ) (row : List Bool) (old : List (Option ℕ)) → AreFilled pricing k size row old old 0
filled_none pricing k size row old = record {
  within = omega arith;
  long = refl;
  costs = λ tables allowed kind chains is allows. rewritten_none (λ n _. Some (cost_at pricing tables allowed kind chains k size n)) None row old;
  others = λ n h. refl;
}

-- one more cost
pub filled_more : (pricing : ClassPricing) (k size : ℕ) (row : List Bool) (old now : List (Option ℕ)) (next place cost : ℕ) → AreFilled pricing k size row old now next → IsNextSet row next place → length row ≤ length old →
    ((tables : List (List ClassShare)) (allowed : ℕ → Leg → Bool) (kind : Kind) (chains : List (List Leg)) → IsPricing tables allowed kind chains pricing → allowed k (class_at pricing.network.now place) ≡ true →
    cost ≡ cost_at pricing tables allowed kind chains k size place) →
    ((allowed : ℕ → Leg → Bool) → RowAllows pricing.network.now (allowed k) row → allowed k (class_at pricing.network.now place) ≡ true) →
    AreFilled pricing k size row old (set now place (Some cost)) (place + 1)
filled_more pricing k size row old now next place cost so_far at room is told = record {
  within = omega (arith, at.within);
  long = length-set now place (Some cost) ∙ so_far.long;
  costs = λ tables allowed kind chains pricing_is allows.
      rewritten_more (λ n _. Some (cost_at pricing tables allowed kind chains k size n)) None row old now next place (Some cost) (so_far.costs tables allowed kind chains pricing_is allows) at room
      (ap {B = Option ℕ} Some (is tables allowed kind chains pricing_is (told allowed allows)));
  others = λ n h. let other : n ≡ place → ⊥ = λ e. absurd (omega (arith, at.within)) in get_or-set_other now place n (Some cost) None other ∙ so_far.others n h;
}

-- all costs
pub filled_all : (pricing : ClassPricing) (k size : ℕ) (row : List Bool) (old now : List (Option ℕ)) (next : ℕ) → AreFilled pricing k size row old now next → ((n : ℕ) → next ≤ n → bit_of row n ≡ false) →
    ((n : ℕ) → n < class_count pricing.network.now → get_or old n None ≡ None) →
    (tables : List (List ClassShare)) (allowed : ℕ → Leg → Bool) (kind : Kind) (chains : List (List Leg)) → IsPricing tables allowed kind chains pricing → RowAllows pricing.network.now (allowed k) row →
    HoldsClassCosts pricing.instance.now pricing.network.now (allowed k) (leaf_price pricing.instance.now tables allowed kind chains k size) size now
filled_all pricing k size row old now next so_far none cleared tables allowed kind chains is allows c class =
    let net : TimedNetwork = pricing.network.now in
    let cost : Leg → Option ℕ = λ e. Some (leaf_price pricing.instance.now tables allowed kind chains k size e + pricing.instance.now.scale * (arc_at pricing.instance.now e.arc).freight * size) in
    let n : ℕ = class_number net c in
    let told = rewritten_all (λ n _. Some (cost_at pricing tables allowed kind chains k size n)) None row old now next (so_far.costs tables allowed kind chains is allows) none n in
    told ∙ ap (λ (b : Bool). if b then cost (class_at net n) else get_or old n None) (allows c class)
    ∙ ap (λ (e : Leg). if allowed k c then cost e else get_or old n None) (class_at-number net c is.whole.valid class)
    ∙ ap (λ (o : Option ℕ). if allowed k c then cost c else o) (cleared n (number-within net c is.whole.valid class))
