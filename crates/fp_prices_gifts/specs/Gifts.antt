-- Gifts to leaves with sides by trucks, and what is asked of them. They are this project's own.
use Rattle.std.specs.Prelude.{ℕ, ◌+◌, ◌*◌, ◌≤◌, ◌<◌, List, [], All, Bool, ◌&&◌, length, not, nat_eq, nat_le, nat_lt, sum_by, if◌then◌else◌}
use Rattle.fp_model.specs.declared.parts.Leg.{Leg}
use Rattle.fp_model.specs.Problem.{Problem, arc_at}
use Rattle.fp_prices_spans.specs.Spans.{ClassSpan}
use Rattle.fp_prices_spans.specs.SpanPrices.{most_paid}
use Rattle.fp_prices_gifts.specs.declared.gifts.Gift.{Gift}
use Rattle.fp_prices_gifts.specs.declared.gifts.TheConstants.{MOST_GIFTS}
use Rattle.fp_prices_gifts.specs.declared.money_rule.GiftFault.{GiftFault}
use Rattle.fp_prices_gifts.specs.declared.money_rule.GiftFault.TheVariants.{Amounts, Money}

-- whether the run of a gift has a class: the class is of the gift's arc, and its point lies from `point` up to and without `until`
abbrev pub gives_at : Gift → Leg → Bool
gives_at gift c = nat_eq gift.arc c.arc && (nat_le gift.point c.depart && nat_lt c.depart gift.until)

-- what is given for a truck of a class because at least so many leave
abbrev pub least_at : List Gift → Leg → ℕ
least_at gifts c = sum_by (λ (gift : Gift). if gift.least && gives_at gift c then gift.amount else 0) gifts

-- what is given for a truck of a class because at most so many leave
abbrev pub most_at : List Gift → Leg → ℕ
most_at gifts c = sum_by (λ (gift : Gift). if not gift.least && gives_at gift c then gift.amount else 0) gifts

-- the money rule with gifts at a class, without forced chains: for a truck of it, the most that shipments pay and what is given because
-- at least so many leave are together at most what the truck costs and what is given because at most so many leave
abbrev pub KeepsAt : Problem → List ClassSpan → List Gift → Leg → Type 0
KeepsAt p spans gifts c = most_paid p spans [] c + least_at gifts c ≤ p.scale * (arc_at p c.arc).truck + most_at gifts c

-- spans and gifts keep it at every class
abbrev pub KeepMoneyRule : Problem → List ClassSpan → List Gift → Type 0
KeepMoneyRule p spans gifts = (c : Leg) → KeepsAt p spans gifts c

-- they keep it at the class of an arc from 0 on, and where a run of the arc begins and ends
abbrev pub KeepsAtEnds : Problem → List ClassSpan → List Gift → (arc point until : ℕ) → Type 0
KeepsAtEnds p spans gifts arc point until =
    KeepsAt p spans gifts (record { arc = arc; depart = 0 }) × KeepsAt p spans gifts (record { arc = arc; depart = point }) × KeepsAt p spans gifts (record { arc = arc; depart = until })

-- the amounts of all gifts together
abbrev pub gift_total : List Gift → ℕ
gift_total gifts = sum_by (λ (gift : Gift). gift.amount) gifts

-- gifts by which leaves can be priced: of arcs that exist, and light
pub record AreGifts (p : Problem) (gifts : List Gift) : Type 0 where
  pub exist : All (λ (gift : Gift). gift.arc < length p.arcs) gifts
  pub light : gift_total gifts < MOST_GIFTS

-- gifts that are light, and keep the money rule with the spans
pub record IsGiftList (p : Problem) (spans : List ClassSpan) (gifts : List Gift) : Type 0 where
  pub light : gift_total gifts < MOST_GIFTS
  pub money : KeepMoneyRule p spans gifts

-- the first rule that gifts break: they are too much together, or are light and don't keep the money rule with the spans
abbrev pub IsGiftFault : Problem → List ClassSpan → List Gift → GiftFault → Type 0
IsGiftFault p spans gifts Amounts = MOST_GIFTS ≤ gift_total gifts
IsGiftFault p spans gifts Money = (gift_total gifts < MOST_GIFTS) × (KeepMoneyRule p spans gifts → ⊥)
