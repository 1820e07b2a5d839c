use Rattle.std.proofs.Common.{refl}
use Rattle.fp_checker.specs.declared.rules.narrowed_ways.NarrowedWay.{NarrowedWay}
use Rattle.fp_checker.proofs.NarrowedWays.{stands-narrowed}
use Rattle.fp_checker.proofs.rules.narrowed_ways.NarrowedWay.narrow.Goals as goal

pub returns-clause-stands : goal.returns-clause-stands
returns-clause-stands c = λ t tree pending n stands are.
    let new : NarrowedWay = record { way = c.args.self.way; bars = c.extend_from_slice.new.self; counts = c.args.self.counts } in
    stands-narrowed t c.args.self new tree pending stands n c.args.own.now refl refl c.in_ok-extend_from_slice.ensures.items are
