-- The class that stands there has the number.
use Rattle.std.proofs.Common.{◌≡◌, ℕ, ◌<◌, length, List, ap, ◌∙◌, subst, arith}
use Rattle.fp_longestarcs.specs.Networks.{IsArcOfClass, TimedNetwork, points_in, tail_in}
use Rattle.fp_longestarcs.proofs.ClassNumbers.{number-of}
use Rattle.fp_longestarcs.proofs.networks.Network.of_class_near.Goals as goal

pub returns-then-class-first-clause-number : goal.returns-then-class-first-clause-number
returns-then-class-first-clause-number c =
    let net = c.args.self.now in
    let listed : c.points-points.result.now ≡ points_in net (tail_in net c.args.near) = c.points-points.ensures.same ∙ ap (λ (t : ℕ). points_in net t) c.tail.ensures.tail in
    let is : IsArcOfClass net c.args.class c.args.near = record {
      exists = subst (λ (n : TimedNetwork). c.args.near < length n.tails) c.self.view_is (omega (arith, c.if-near-len.true, c.len.ensures));
      from = omega (arith, c.if-first-class.true, c.offset-first.ensures);
      before = omega (arith, c.if-first-class.true, c.if-class-first.true, c.offset-first.ensures, ap (λ (qs : List ℕ). length qs) listed);
    } in
    rw (listed, c.offset-first.ensures) (number-of net c.args.class c.args.near c.points-points.ensures.valid is)
