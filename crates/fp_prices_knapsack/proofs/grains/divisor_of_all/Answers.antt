use Rattle.std.proofs.Common.{◌≡◌, ℕ, ◌+◌, ◌<◌, ◌++◌, ◌∷◌, [], List, take, sym, ap, ◌∙◌, subst, arith}
use Rattle.std.specs.Int.{IsGcd}
use Prim.Native.Nat.{◌∣◌}
use Rattle.std.proofs.lemmas.List.Elements.{All-nil}
use Rattle.std.proofs.lemmas.Nat.Gcd.{dvd_refl}
use Rattle.std.proofs.lemmas.List.{take_more, take_all, map_push}
use Rattle.fp_prices_knapsack.specs.declared.items.Item.{Item}
use Rattle.fp_prices_knapsack.specs.Sets.{no_item, item_at, sizes_of}
use Rattle.fp_prices_knapsack.proofs.Divisors.{IsGreatestDivisor, IsGreatestDivisor-push, common_divisor-is}
use Rattle.fp_prices_knapsack.proofs.grains.divisor_of_all.Goals as goal

-- without items it is the number itself
at_first : (number : ℕ) → 0 < number → IsGreatestDivisor number [] number
at_first number some = record { some = some; first = dvd_refl number; rest = All-nil (λ n. number ∣ n); greatest = λ other divides _. divides }

pub loop-item-init : goal.loop-item-init
loop-item-init c = subst (λ (d : ℕ). IsGreatestDivisor c.args.number [] d) (sym c.from-divisor.ensures) (at_first c.args.number c.requires)

pub loop-item-preserved : goal.loop-item-preserved
loop-item-preserved c =
    let items : List Item = c.args.items.now in
    let i : ℕ = c.loop-item.item-index in
    let next : ℕ = c.greatest_common_divisor-divisor.result in
    let gcd : IsGcd c.loop-item.divisor (item_at items i).size next =
    subst (λ (size : ℕ). IsGcd c.loop-item.divisor size next) c.from.ensures c.greatest_common_divisor-divisor.ensures in
    let more : sizes_of (take (i + 1) items) ≡ sizes_of (take i items) ++ (item_at items i).size ∷ [] =
    ap (λ (xs : List Item). sizes_of xs) (take_more items i no_item c.loop-item-test.true) ∙ map_push (λ (item : Item). item.size) (take i items) (item_at items i) in
    subst (λ (ns : List ℕ). IsGreatestDivisor c.args.number ns next) (sym more)
    (IsGreatestDivisor-push c.args.number (sizes_of (take i items)) c.loop-item.divisor (item_at items i).size next c.loop-item.invariant gcd)

pub returns-clause-same : goal.returns-clause-same
returns-clause-same c =
    let items : List Item = c.args.items.now in
    let all : take c.loop-item.item-index items ≡ items = take_all c.loop-item.item-index items (omega arith) in
    sym (common_divisor-is c.args.number (sizes_of items) c.loop-item.divisor c.requires
    (subst (λ (xs : List Item). IsGreatestDivisor c.args.number (sizes_of xs) c.loop-item.divisor) all c.loop-item.invariant))
