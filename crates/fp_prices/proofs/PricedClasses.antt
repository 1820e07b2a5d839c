-- What a pricing tells of a class, and that it fits.
use Rattle.std.proofs.Common.{◌≡◌, ℕ, zero, suc, ◌+◌, ◌*◌, ◌^◌, ◌<◌, ◌≤◌, Bool, true, false, List, [], ◌∷◌, length, map, ⊎_elim, get_or, refl, sym, ap, ◌∙◌, subst, arith, le_trans}
use Rattle.std.specs.Prelude.{All, Option, Some, slice_get, slice_index}
use Rattle.std.specs.Borrow.{Bor}
use Rattle.std.proofs.Math.Nat.{mul-le-mul_left}
use Rattle.std.proofs.lemmas.Bool.{cases_Bool, cond-true, cond-false}
use Rattle.std.proofs.lemmas.List.{get_or-map}
use Rattle.std.proofs.lemmas.List.Elements.{All-head, All-tail}
use Rattle.fp_model.specs.declared.parts.Leg.{Leg}
use Rattle.fp_model.specs.Costs.{all_legs, has_leg}
use Rattle.fp_model.specs.Numbered.{shipment_at}
use Rattle.fp_model.specs.Problem.{IsValid, Problem, alone_total, arc_at, no_arc}
use Rattle.fp_longestarcs.specs.Networks.{IsClass, TimedNetwork, class_count, class_number}
use Rattle.fp_longestarcs.specs.Whole.{IsWholeNetwork}
use Rattle.fp_longestarcs.proofs.HeadLists.{arc-count}
use Rattle.fp_allowed.specs.Bits.{bit_of}
use Rattle.fp_allowed.specs.Listing.{class_at}
use Rattle.fp_prices.specs.declared.classes.class_prices.ClassPricing.{ClassPricing}
use Rattle.fp_prices.specs.declared.classes.class_prices.Rule.TheVariants.{InParts, ByShares}
use Rattle.fp_prices.specs.declared.classes.class_users.Users.{Users}
use Rattle.fp_prices.specs.declared.leaf_prices.Kind.{Kind}
use Rattle.fp_prices.specs.declared.leaf_prices.Kind.TheVariants.{Linear, Even, Table}
use Rattle.fp_prices.specs.declared.tables.Share.{Share}
use Rattle.fp_prices.specs.Leaves.{leaf_price}
use Rattle.fp_prices.specs.Prices.{AllKeepRule, allowed_count, even_price, share_for, share_price, table_at, table_price, truck_price}
use Rattle.fp_prices.specs.Pricings.{IsPricedClass, IsRuleOf}
use Rattle.fp_prices.specs.Rates.{rate_of}
use Rattle.fp_prices.specs.Rows.{AreUsers}
use Rattle.fp_prices.specs.Searches.{is_share}
use Rattle.fp_prices.specs.Shares.{ClassShare}
use Rattle.fp_prices.specs.Tables.{IsAscendingTable}
use Rattle.fp_prices.proofs.NumberedClasses.{number-class}
use Rattle.fp_prices.proofs.SmallPrices.{allowed_count-some, arc-alone, price-small, priced-alone, shipment-alone}

-- what all shipments cost over every arc alone fits, scaled
pub alone-fits : (p : Problem) → IsValid p → p.scale * alone_total p.arcs p.shipments < 2 ^ 127
alone-fits p valid = omega (arith, valid.fits)

-- a class of a whole network goes by an arc that exists
pub class-exists : (p : Problem) (net : TimedNetwork) (c : Leg) → IsWholeNetwork p net → IsClass net c → c.arc < length p.arcs
class-exists p net c whole is = omega (arith, is.0, arc-count p net whole.arcs)

-- the truck price of an allowed class and the flow are together at most what all shipments cost over every arc alone
class-small : (p : Problem) (tables : List (List ClassShare)) (allowed : ℕ → Leg → Bool) (kind : Kind) (c : Leg) (k : ℕ) → IsValid p → AllKeepRule p tables → k < length p.shipments →
    c.arc < length p.arcs → allowed k c ≡ true →
    truck_price p tables allowed kind c k (shipment_at p k).size + p.scale * (arc_at p c.arc).freight * (shipment_at p k).size ≤ p.scale * alone_total p.arcs p.shipments
class-small p tables allowed kind c k valid keep exists arc_exists is =
    let size : ℕ = (shipment_at p k).size in
    le_trans (priced-alone p (arc_at p c.arc) (truck_price p tables allowed kind c k size) size (price-small p tables allowed kind c k valid keep exists arc_exists is))
    (mul-le-mul_left p.scale (le_trans (arc-alone p size c.arc arc_exists) (shipment-alone p k exists)))

-- so it fits, by whatever kind
pub priced-fits : (pricing : ClassPricing) (k class : ℕ) (c : Leg) (kind : Kind) → k < length pricing.instance.now.shipments → (priced : IsPricedClass pricing k class) →
    class_at pricing.network.now class ≡ c → c.arc < length pricing.instance.now.arcs →
    truck_price pricing.instance.now priced.tables priced.allowed kind c k (shipment_at pricing.instance.now k).size
    + pricing.instance.now.scale * (arc_at pricing.instance.now c.arc).freight * (shipment_at pricing.instance.now k).size < 2 ^ 127
priced-fits pricing k class c kind exists priced is arc_exists =
    let p : Problem = pricing.instance.now in
    let allows : priced.allowed k c ≡ true = subst (λ (e : Leg). priced.allowed k e ≡ true) is priced.allows in
    let small = class-small p priced.tables priced.allowed kind c k priced.is.valid priced.is.keep exists arc_exists allows in
    omega (arith, small, alone-fits p priced.is.valid)

-- and so does what it costs where some classes are forced
pub leaf-fits : (pricing : ClassPricing) (k class : ℕ) → k < length pricing.instance.now.shipments → class < class_count pricing.network.now → (priced : IsPricedClass pricing k class) →
    leaf_price pricing.instance.now priced.tables priced.allowed priced.kind priced.chains k (shipment_at pricing.instance.now k).size (class_at pricing.network.now class)
    + pricing.instance.now.scale * (arc_at pricing.instance.now (class_at pricing.network.now class).arc).freight * (shipment_at pricing.instance.now k).size < 2 ^ 127
leaf-fits pricing k class exists within priced =
    let p : Problem = pricing.instance.now in
    let c : Leg = class_at pricing.network.now class in
    let number = number-class pricing.network.now class priced.is.whole.valid within in
    let fits = priced-fits pricing k class c priced.kind exists priced refl (class-exists p pricing.network.now c priced.is.whole number.0) in
    let price : ℕ = truck_price p priced.tables priced.allowed priced.kind c k (shipment_at p k).size in
    ⊎_elim
    (λ (yes : has_leg c (all_legs priced.chains) ≡ true). omega (arith, fits, cond-true (has_leg c (all_legs priced.chains)) 0 price yes))
    (λ (no : has_leg c (all_legs priced.chains) ≡ false). omega (arith, fits, cond-false (has_leg c (all_legs priced.chains)) 0 price no))
    (cases_Bool (has_leg c (all_legs priced.chains)))

-- the users by which a rule prices in parts
pub rule-users : (p : Problem) (net : TimedNetwork) (tables : List (List ClassShare)) (allowed : ℕ → Leg → Bool) (kind : Kind) (users : Users) → IsRuleOf p net tables allowed kind (InParts users) →
    AreUsers p net allowed (class_count net) users
rule-users p net tables allowed Linear users is = absurd is
rule-users p net tables allowed Even users is = is
rule-users p net tables allowed (Table id) users is = absurd is

-- an allowed class has a user
pub users-some : (p : Problem) (net : TimedNetwork) (allowed : ℕ → Leg → Bool) (classes k : ℕ) (users : Users) (c : Leg) → AreUsers p net allowed classes users → IsClass net c → k < length p.shipments →
    allowed k c ≡ true → 0 < slice_index users.counts.items (class_number net c)
users-some p net allowed classes k users c are is exists allows =
    let number : k ≡ 0 + k = omega arith in
    let some : 1 ≤ allowed_count (λ j. allowed j c) 0 p.shipments = allowed_count-some (λ j. allowed j c) 0 k p.shipments exists (subst (λ (n : ℕ). allowed n c ≡ true) number allows) in
    omega (arith, some, are.counts c is)

-- the price in parts is the even price
pub price-in_parts : (p : Problem) (net : TimedNetwork) (tables : List (List ClassShare)) (allowed : ℕ → Leg → Bool) (kind : Kind) (users : Users) (c : Leg) (k size count all price : ℕ) →
    IsRuleOf p net tables allowed kind (InParts users) → IsClass net c → count ≡ slice_index users.counts.items (class_number net c) → all ≡ slice_index users.sizes.items (class_number net c) →
    price ≡ even_price p.scale (arc_at p c.arc) count all size → price ≡ truck_price p tables allowed kind c k size
price-in_parts p net tables allowed Linear users c k size count all price rule is count_is all_is price_is = absurd rule
price-in_parts p net tables allowed Even users c k size count all price rule is count_is all_is price_is =
    price_is ∙ ap (λ (n : ℕ). even_price p.scale (arc_at p c.arc) n all size) (count_is ∙ rule.counts c is)
    ∙ ap (λ (n : ℕ). even_price p.scale (arc_at p c.arc) (allowed_count (λ j. allowed j c) 0 p.shipments) n size) (all_is ∙ rule.sizes c is)
price-in_parts p net tables allowed (Table id) users c k size count all price rule is count_is all_is price_is = absurd rule

-- the rate of an arc
pub rate-at : (p : Problem) (rates : List ℕ) (a : ℕ) → rates ≡ map (rate_of p.scale) p.arcs → a < length p.arcs → get_or rates a 0 ≡ rate_of p.scale (arc_at p a)
rate-at p rates a are exists = ap (λ (l : List ℕ). get_or l a 0) are ∙ get_or-map (rate_of p.scale) p.arcs a no_arc 0 exists

-- the shares by which a rule prices are those of a table in order
pub rule-shares : (p : Problem) (net : TimedNetwork) (tables : List (List ClassShare)) (allowed : ℕ → Leg → Bool) (kind : Kind) (shares : Bor (List Share)) (c : Leg) (k size : ℕ) (share : ClassShare) →
    IsRuleOf p net tables allowed kind (ByShares shares) → share_for shares.now c ≡ Some share → share_price share k size ≡ truck_price p tables allowed kind c k size
rule-shares p net tables allowed Linear shares c k size share rule found = absurd rule
rule-shares p net tables allowed Even shares c k size share rule found = absurd rule
rule-shares p net tables allowed (Table id) shares c k size share rule found =
    let own : share_for (table_at tables id) c ≡ Some share = ap (λ (t : List ClassShare). share_for t c) (sym rule.0) ∙ found in
    ap (λ (o : Option ClassShare). table_price p.scale (arc_at p c.arc) o k size) (sym own)

pub rule-ascending : (p : Problem) (net : TimedNetwork) (tables : List (List ClassShare)) (allowed : ℕ → Leg → Bool) (kind : Kind) (shares : Bor (List Share)) →
    IsRuleOf p net tables allowed kind (ByShares shares) → IsAscendingTable shares.now
rule-ascending p net tables allowed Linear shares rule = absurd rule
rule-ascending p net tables allowed Even shares rule = absurd rule
rule-ascending p net tables allowed (Table id) shares rule = rule.1

-- what is found among shares is one of them
pub found-among : (P : ClassShare → Type 0) (table : List ClassShare) (c : Leg) (share : ClassShare) → All P table → share_for table c ≡ Some share → P share
found-among P [] c share all found = cc
found-among P (s ∷ table) c share all found =
    ⊎_elim
    (λ (here : is_share c s ≡ true).
    let same : Some s ≡ Some share = sym (cond-true (is_share c s) (Some s) (share_for table c) here) ∙ found in
    let e : s ≡ share = cc in subst P e (All-head P s table all))
    (λ (other : is_share c s ≡ false). found-among P table c share (All-tail P s table all) (sym (cond-false (is_share c s) (Some s) (share_for table c) other) ∙ found))
    (cases_Bool (is_share c s))

-- a forced bit is read
pub bit-read : (row : List Bool) (n : ℕ) (b : Bool) → slice_get row n ≡ Some b → bit_of row n ≡ b
bit-read [] n b h = cc
bit-read (x ∷ row) zero b h = cc
bit-read (x ∷ row) (suc n) b h = bit-read row n b h
