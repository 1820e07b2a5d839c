-- Costs that are known from an earlier leaf hold at all plain leaves over a network by the same kind.
use Rattle.std.proofs.Common.{◌≡◌, ℕ, ◌<◌, Bool, true, false, cond, List, [], length, get_or, replicate, refl, sym, ap, ◌∙◌, subst, arith}
use Rattle.std.specs.Prelude.{Err, IfOk, Ok, Result, Some, ◌&&◌, map}
use Rattle.std.proofs.lemmas.Bool.{le-leb, lt-ltb}
use Rattle.std.proofs.lemmas.List.{ext_get_or, length-replicate}
use Rattle.std.proofs.lemmas.Simd.{get_or-zip2, length-zip2}
use Rattle.fp_rows.specs.Bits.{and_bits, with_range}
use Rattle.fp_model.specs.declared.parts.Leg.{Leg}
use Rattle.fp_model.specs.Costs.{all_legs, has_leg}
use Rattle.fp_model.specs.Numbered.{shipment_at}
use Rattle.fp_model.specs.Problem.{IsValid, Problem}
use Rattle.fp_longestarcs.specs.Networks.{TimedNetwork, class_count, points_in}
use Rattle.fp_longestarcs.specs.Whole.{IsWholeNetwork}
use Rattle.fp_allowed.specs.Bits.{bit_of}
use Rattle.fp_allowed.specs.Moments.{in_range}
use Rattle.fp_allowed.proofs.RowBits.{bit_of-with_range, length-with_range}
use Rattle.fp_prices.specs.declared.classes.class_prices.ClassPricing.{ClassPricing}
use Rattle.fp_prices.specs.declared.classes.class_prices.Rule.{Rule}
use Rattle.fp_prices.specs.declared.classes.class_prices.Rule.TheVariants.{BySize, InParts, ByShares}
use Rattle.fp_prices.specs.declared.values.known_costs.KnownCost.{KnownCost}
use Rattle.fp_prices.specs.declared.leaf_prices.Kind.{Kind}
use Rattle.fp_prices.specs.declared.leaf_prices.Kind.TheVariants.{Linear, Even, Table}
use Rattle.fp_prices.specs.ClassCosts.{AllowsClasses, IsLeastOver}
use Rattle.fp_prices.specs.Found.{IsSmallCost, leaf_prices}
use Rattle.fp_prices.specs.KnownCosts.{IsKnownUnder, IsPlainPricing, IsSharedKind, IsSharedRule}
use Rattle.fp_prices.specs.Prices.{AllKeepRule, table_at}
use Rattle.fp_prices.specs.Pricings.{IsPricing, IsRuleOf, RowAllows, TellsForced}
use Rattle.fp_prices.specs.Rates.{rate_of}
use Rattle.fp_prices.specs.Shares.{ClassShare}
use Rattle.fp_prices.specs.Tables.{IsAscendingTable}

-- a row of true bits that keeps the bits of another row is that row
pub copy-is : (n : ℕ) (row : List Bool) → length row ≡ n → and_bits (with_range (replicate n false) 0 n true) row ≡ row
copy-is n row long =
    let whole : List Bool = with_range (replicate n false) 0 n true in
    let count : length whole ≡ n = length-with_range (replicate n false) 0 n true (omega arith) (omega (arith, length-replicate n false)) ∙ length-replicate n false in
    let bit : (i : ℕ) → i < n → get_or whole i false ≡ true =
    λ i lt.
    bit_of-with_range (replicate n false) 0 n true (omega arith) (omega (arith, length-replicate n false)) i ∙
    (let e : cond (in_range 0 n i) true (bit_of (replicate n false) i) ≡ true = rw (le-leb 0 i (omega arith), lt-ltb i n lt) refl in e) in
    let same : length (and_bits whole row) ≡ length whole = length-zip2 (λ (a b : Bool). a && b) whole row (count ∙ sym long) in
    ext_get_or false (and_bits whole row) row (same ∙ count ∙ sym long)
    (λ i lt.
    let inside : i < n = omega (arith, lt, same, count) in
    get_or-zip2 (λ (a b : Bool). a && b) whole row i false false false (omega (arith, inside, count)) (omega (arith, inside, long))
    ∙ ap (λ (b : Bool). b && get_or row i false) (bit i inside))

-- what follows for the value of an answer
pub ok-gives : {X E : Type 0} {A B : X → Type 0} → ((x : X) → A x → B x) → (r : Result X E) → IfOk r A → IfOk r B
ok-gives on (Ok x) h = on x h
ok-gives on (Err e) h = tt

shared-rule : (p : Problem) (net : TimedNetwork) (tables : List (List ClassShare)) (allowed : ℕ → Leg → Bool) (kind : Kind) (rule : Rule) → IsSharedKind kind → IsRuleOf p net tables allowed kind rule → IsSharedRule tables kind rule
shared-rule p net tables allowed Linear BySize shared is = tt
shared-rule p net tables allowed Linear (InParts users) shared is = absurd is
shared-rule p net tables allowed Linear (ByShares shares) shared is = absurd is
shared-rule p net tables allowed Even rule shared is = absurd shared
shared-rule p net tables allowed (Table id) BySize shared is = absurd is
shared-rule p net tables allowed (Table id) (InParts users) shared is = absurd is
shared-rule p net tables allowed (Table id) (ByShares shares) shared is = is.0

-- the pricing of a plain leaf by such a kind
pub plain-pricing : (p : Problem) (net : TimedNetwork) (tables : List (List ClassShare)) (kind : Kind) (pricing : ClassPricing) (allowed : ℕ → Leg → Bool) (chains : List (List Leg)) → pricing.instance.now ≡ p → pricing.network.now ≡ net →
    IsSharedKind kind → IsPricing tables allowed kind chains pricing → all_legs chains ≡ [] → IsPlainPricing p net tables kind pricing
plain-pricing p net tables kind pricing allowed chains same same_net shared is none = record {
  instance = same;
  network = same_net;
  rates = is.rates ∙ ap (λ (q : Problem). map (rate_of q.scale) q.arcs) same;
  rule = shared-rule pricing.instance.now pricing.network.now tables allowed kind pricing.rule shared is.rule;
  forced = subst (λ (n : TimedNetwork). TellsForced n [] pricing.forced.row) same_net
      (record { long = is.forced.long; exact = λ c class. is.forced.exact c class ∙ ap (λ (legs : List Leg). has_leg c legs) none });
}

-- two rules of the same kind and tables are rules of the same kinds and tables
rule-same : (p : Problem) (net : TimedNetwork) (others : List (List ClassShare)) (allowed : ℕ → Leg → Bool) (kind : Kind) (tables : List (List ClassShare)) (shared : Kind) (rule other : Rule) →
    IsSharedRule tables shared rule → IsSharedRule tables shared other → IsRuleOf p net others allowed kind other → IsRuleOf p net others allowed kind rule
rule-same p net others allowed kind tables Linear BySize BySize one two is = is
rule-same p net others allowed kind tables Linear BySize (InParts users) one two is = absurd two
rule-same p net others allowed kind tables Linear BySize (ByShares shares) one two is = absurd two
rule-same p net others allowed kind tables Linear (InParts users) other one two is = absurd one
rule-same p net others allowed kind tables Linear (ByShares shares) other one two is = absurd one
rule-same p net others allowed kind tables Even rule other one two is = absurd one
rule-same p net others allowed kind tables (Table id) BySize other one two is = absurd one
rule-same p net others allowed kind tables (Table id) (InParts users) other one two is = absurd one
rule-same p net others allowed kind tables (Table id) (ByShares shares) BySize one two is = absurd two
rule-same p net others allowed kind tables (Table id) (ByShares shares) (InParts users) one two is = absurd two
rule-same p net others allowed Linear tables (Table id) (ByShares shares) (ByShares more) one two is = absurd is
rule-same p net others allowed Even tables (Table id) (ByShares shares) (ByShares more) one two is = absurd is
rule-same p net others allowed (Table n) tables (Table id) (ByShares shares) (ByShares more) one two is =
    subst (λ (l : List ClassShare). (l ≡ table_at others n) × IsAscendingTable l) (two ∙ sym one) is

forced-same : (net : TimedNetwork) (chains : List (List Leg)) (row other : List Bool) → TellsForced net [] row → TellsForced net [] other → TellsForced net chains other → TellsForced net chains row
forced-same net chains row other one two is = record { long = one.long; exact = λ c class. one.exact c class ∙ sym (two.exact c class) ∙ is.exact c class }

module _ (p : Problem) (net : TimedNetwork) (tables : List (List ClassShare)) (kind : Kind) (pricing other : ClassPricing) (one : IsPlainPricing p net tables kind pricing) (two : IsPlainPricing p net tables kind other) where
  same : other.instance.now ≡ pricing.instance.now
  same = two.instance ∙ sym one.instance

  same_net : other.network.now ≡ pricing.network.now
  same_net = two.network ∙ sym one.network

  pricing-same : (others : List (List ClassShare)) (allowed : ℕ → Leg → Bool) (any : Kind) (chains : List (List Leg)) → IsPricing others allowed any chains other → IsPricing others allowed any chains pricing
  pricing-same others allowed any chains is = record {
    valid = subst IsValid same is.valid;
    whole = subst (λ (q : Problem). IsWholeNetwork q pricing.network.now) same (subst (IsWholeNetwork other.instance.now) same_net is.whole);
    keep = subst (λ (q : Problem). AllKeepRule q others) same is.keep;
    rates = one.rates ∙ ap (λ (q : Problem). map (rate_of q.scale) q.arcs) (sym one.instance);
    rule =
        rule-same pricing.instance.now pricing.network.now others allowed any tables kind pricing.rule other.rule one.rule two.rule
        (subst (λ (q : Problem). IsRuleOf q pricing.network.now others allowed any other.rule) same
        (subst (λ (n : TimedNetwork). IsRuleOf other.instance.now n others allowed any other.rule) same_net is.rule));
    forced =
        subst (λ (n : TimedNetwork). TellsForced n chains pricing.forced.row) (sym one.network)
        (forced-same net chains pricing.forced.row other.forced.row one.forced two.forced (subst (λ (n : TimedNetwork). TellsForced n chains other.forced.row) two.network is.forced));
  }

  -- what is known under one pricing is known under the other
  pub known-same : (k : ℕ) (known : KnownCost) → IsKnownUnder pricing k known → IsKnownUnder other k known
  known-same k known is = record {
    long = is.long ∙ ap class_count (sym same_net);
    small = subst (λ (q : Problem). IsSmallCost q k (Some known.cost)) (sym same) is.small;
    least = λ others allowed any chains priced row classes.
        subst (λ (q : Problem). IsLeastOver q (points_in other.network.now) (allowed k) (shipment_at q k) (leaf_prices q others allowed any chains k) (Some known.cost)) (sym same)
        (subst (λ (n : TimedNetwork). IsLeastOver pricing.instance.now (points_in n) (allowed k) (shipment_at pricing.instance.now k) (leaf_prices pricing.instance.now others allowed any chains k) (Some known.cost)) (sym same_net)
        (is.least others allowed any chains (pricing-same others allowed any chains priced) (subst (λ (n : TimedNetwork). RowAllows n (allowed k) known.row) same_net row)
        (subst (λ (n : TimedNetwork). AllowsClasses n (allowed k)) same_net classes)));
  }
