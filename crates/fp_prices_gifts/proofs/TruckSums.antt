-- What gifts give for a truck of a class is at most their amounts together.
use Rattle.std.proofs.Common.{ℕ, ◌+◌, ◌<◌, ◌≤◌, Bool, true, false, ◌&&◌, List, length, get_or, take, arith}
use Rattle.std.specs.Prelude.{not, if◌then◌else◌}
use Rattle.std.proofs.lemmas.List.Sums.{sum_by-le-sum_by, sum_by-take-le, sum_by_more_le_part}
use Rattle.fp_model.specs.declared.parts.Leg.{Leg}
use Rattle.fp_prices_gifts.specs.declared.gifts.Gift.{Gift}
use Rattle.fp_prices_gifts.specs.Gifts.{gift_total, gives_at, least_at, most_at}

part : (b : Bool) (amount : ℕ) → (if b then amount else 0) ≤ amount
part true amount = omega arith
part false amount = omega arith

module _ (gifts : List Gift) (class : Leg) (i : ℕ) where
  -- what the first gifts give, and the amount of the next one
  pub least-more : (d : Gift) → i < length gifts → least_at (take i gifts) class + (get_or gifts i d).amount ≤ gift_total gifts
  least-more d inside =
      sum_by_more_le_part (λ (g : Gift). if g.least && gives_at g class then g.amount else 0) (λ (g : Gift). g.amount) gifts i d inside (λ g. part (g.least && gives_at g class) g.amount)

  pub most-more : (d : Gift) → i < length gifts → most_at (take i gifts) class + (get_or gifts i d).amount ≤ gift_total gifts
  most-more d inside =
      sum_by_more_le_part (λ (g : Gift). if not g.least && gives_at g class then g.amount else 0) (λ (g : Gift). g.amount) gifts i d inside (λ g. part (not g.least && gives_at g class) g.amount)

  -- what the first gifts give
  pub least-within : least_at (take i gifts) class ≤ gift_total gifts
  least-within =
      omega (
        arith,
        sum_by-take-le (λ (g : Gift). if g.least && gives_at g class then g.amount else 0) gifts i,
        sum_by-le-sum_by (λ (g : Gift). if g.least && gives_at g class then g.amount else 0) (λ (g : Gift). g.amount) gifts (λ g. part (g.least && gives_at g class) g.amount),
      )

  pub most-within : most_at (take i gifts) class ≤ gift_total gifts
  most-within =
      omega (
        arith,
        sum_by-take-le (λ (g : Gift). if not g.least && gives_at g class then g.amount else 0) gifts i,
        sum_by-le-sum_by (λ (g : Gift). if not g.least && gives_at g class then g.amount else 0) (λ (g : Gift). g.amount) gifts (λ g. part (not g.least && gives_at g class) g.amount),
      )

-- what a gift gives is at most its amount
pub least-part : (gift : Gift) (class : Leg) → (if gift.least && gives_at gift class then gift.amount else 0) ≤ gift.amount
least-part gift class = part (gift.least && gives_at gift class) gift.amount

pub most-part : (gift : Gift) (class : Leg) → (if not gift.least && gives_at gift class then gift.amount else 0) ≤ gift.amount
most-part gift class = part (not gift.least && gives_at gift class) gift.amount
