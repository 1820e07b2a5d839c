use Rattle.std.proofs.Common.{◌≡◌, ◌≤◌, ◌^◌, drop}
use Rattle.std.specs.Prelude.{IfSome}
use Rattle.fp_prices_gifts.specs.GiftNumbers.{gift_number}
use Rattle.fp_prices_gifts.proofs.numbers.gift_number.Given as goal

-- the number that the sides from a place on tell
abbrev pub invariant-loop-place : goal.invariant-loop-place
invariant-loop-place l = (l.number ≡ gift_number (drop l.place l.sides) l.gift) × IfSome l.number (λ n. n ≤ 2 ^ 32)
