use Rattle.std.proofs.Common.{◌≡◌, ⊎_elim, inl, refl, arith}
use Rattle.fp_prices.specs.declared.leaf_prices.Kind.TheVariants.{Linear, Even}
use Rattle.fp_duals.proofs.StartingPrices.{best-start, best-start_told}
use Rattle.fp_duals.proofs.starts.Start.best.Goals as goal

pub returns-in-Table : goal.returns-in-Table
returns-in-Table c =
    best-start_told c.args.tabled.now c.args.inherited c.args.self c.in_ok-linear.linear c.in_ok-even.even c.or_kind-in-Table.result
    (record { is = c.requires.start; linear = c.requires.linear; forced = c.requires.forced }) c.in_ok-linear.ensures.next c.in_ok-linear.ensures.best c.in_ok-even.ensures.next c.in_ok-even.ensures.best c.or_kind-in-Table.ensures.next c.or_kind-in-Table.ensures.best

pub returns-in-Linear : goal.returns-in-Linear
returns-in-Linear c =
    best-start c.args.tabled.now c.args.inherited c.args.self c.in_ok-linear.linear c.in_ok-even.even c.in_ok-even.even
    (record { is = c.requires.start; linear = c.requires.linear; forced = c.requires.forced }) c.in_ok-linear.ensures.next c.in_ok-linear.ensures.best c.in_ok-even.ensures.next c.in_ok-even.ensures.best
    (record { is = c.in_ok-even.ensures.next.is; one = inl refl; no_less = omega arith })
    (λ id is. absurd (⊎_elim (λ (linear : c.args.inherited ≡ Linear). let none : ⊥ = cc in none) (λ (even : c.args.inherited ≡ Even). let none : ⊥ = cc in none) c.in-Linear.is))
