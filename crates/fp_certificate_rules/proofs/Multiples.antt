-- Amounts that are rounded up to multiples.
use Rattle.std.proofs.Common.{ℕ, ◌+◌, ◌-◌, ◌*◌, ◌/◌, ◌<◌, ◌≤◌, ⊎_elim, arith}
use Rattle.std.specs.Prelude.{◌↔◌, Option, Some, None, IfSome}
use Rattle.std.specs.Int.{div_ceil}
use Rattle.std.proofs.Math.Nat.{div-mul-le_self, le-div_iff_mul-le, mul-le-mul_right}
use Rattle.std.proofs.lemmas.Bool.{cases_lt}
use Rattle.fp_base_lists.proofs.Ceilings.{div_ceil-holds, div_ceil-least}
use Rattle.fp_certificate_rules.specs.Units.{rounded_up}

-- a claim takes no more units than an amount exactly where it is at most the amount rounded up
pub multiple-reaches : (claim amount unit : ℕ) → 0 < unit → (div_ceil claim unit ≤ div_ceil amount unit ↔ claim ≤ div_ceil amount unit * unit)
multiple-reaches claim amount unit some = (
  λ le.
      let product : div_ceil claim unit * unit ≤ div_ceil amount unit * unit = mul-le-mul_right {m = div_ceil claim unit} {n = div_ceil amount unit} unit le in
      omega (arith, product, div_ceil-holds claim unit some),
  λ le. div_ceil-least claim unit (div_ceil amount unit) some le,
)

-- one more than the greatest multiple below a claim is the least amount that, rounded up, is at least the claim
pub multiple-least : (claim unit amount : ℕ) → 0 < unit → 0 < claim → ((claim - 1) / unit * unit + 1 ≤ amount ↔ claim ≤ div_ceil amount unit * unit)
multiple-least claim unit amount some any =
    let times : ℕ = (claim - 1) / unit in
    let up : ℕ = div_ceil amount unit in
    let down : times * unit ≤ claim - 1 = div-mul-le_self (claim - 1) unit in
    let next : claim - 1 < (times + 1) * unit =
    ⊎_elim
    (λ (less : claim - 1 < (times + 1) * unit). less)
    (λ (le : (times + 1) * unit ≤ claim - 1). let more : times + 1 ≤ times = (le-div_iff_mul-le {k = unit} {x = times + 1} {y = claim - 1} some).1 le in absurd (omega (arith, more)))
    (cases_lt (claim - 1) ((times + 1) * unit)) in (
      λ le.
          ⊎_elim
          (λ (few : up < times + 1).
          let product : up * unit ≤ times * unit = mul-le-mul_right {m = up} {n = times} unit (omega (arith, few)) in
          absurd (omega (arith, le, product, div_ceil-holds amount unit some)))
          (λ (many : times + 1 ≤ up).
          let product : (times + 1) * unit ≤ up * unit = mul-le-mul_right {m = times + 1} {n = up} unit many in
          omega (arith, next, product))
          (cases_lt up (times + 1)),
      λ le.
          ⊎_elim
          (λ (small : amount < times * unit + 1).
          let few : up ≤ times = div_ceil-least amount unit times some (omega (arith, small)) in
          let product : up * unit ≤ times * unit = mul-le-mul_right {m = up} {n = times} unit few in
          absurd (omega (arith, le, product, down, any)))
          (λ (reached : times * unit + 1 ≤ amount). reached)
          (cases_lt amount (times * unit + 1)),
    )

-- an amount is at most what it is rounded up to
pub rounded_up-more : (unit : Option ℕ) (amount : ℕ) → IfSome unit (λ u. 1 ≤ u) → amount ≤ rounded_up unit amount
rounded_up-more None amount some = omega arith
rounded_up-more (Some unit) amount some = div_ceil-holds amount unit (omega (arith, some))
