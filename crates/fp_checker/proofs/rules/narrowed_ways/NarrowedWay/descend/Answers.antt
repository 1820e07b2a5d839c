use Rattle.std.proofs.Common.{◌∙◌, ◌++◌, ◌∷◌, [], ◌≡◌, ℕ, length, refl, ap, arith}
use Rattle.fp_checker.specs.declared.rules.narrowed_ways.NarrowedWay.{NarrowedWay}
use Rattle.fp_checker.proofs.NarrowedWays.{stands-split}
use Rattle.fp_checker.proofs.rules.narrowed_ways.NarrowedWay.descend.Goals as goal

pub returns-clause-stands : goal.returns-clause-stands
returns-clause-stands c = λ t tree pending stands.
    let long : c.len.result ≡ length c.args.self.bars.items = omega (arith, c.args.self.bars.ok.0, c.len.ensures) in
    let new : NarrowedWay = record { way = c.in_ok-way.way; bars = c.args.self.bars; counts = c.push.new.self } in
    stands-split t c.args.self new tree pending stands (record { split = c.args.split; tail = c.args.tail }) c.in_ok-way.ensures.steps refl
    (c.in_ok-push.ensures.items ∙ ap (λ (n : ℕ). c.args.self.counts.items ++ n ∷ []) long)
