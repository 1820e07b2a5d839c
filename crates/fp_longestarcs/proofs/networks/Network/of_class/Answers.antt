-- The class that stands there has the number.
use Rattle.std.proofs.Common.{ℕ, ap, ◌∙◌}
use Rattle.fp_longestarcs.specs.Networks.{points_in}
use Rattle.fp_longestarcs.proofs.ClassNumbers.{number-of}
use Rattle.fp_longestarcs.proofs.networks.Network.of_class.Goals as goal

pub returns-clause-number : goal.returns-clause-number
returns-clause-number c =
    let listed = c.points.ensures.same ∙ ap (λ (t : ℕ). points_in c.args.self.now t) c.tail.ensures.tail in
    rw (listed, c.offset.ensures) (number-of c.args.self.now c.args.class c.arc_of_class-arc.result c.arc_of_class-arc.ensures.valid c.arc_of_class-arc.ensures.arc)
