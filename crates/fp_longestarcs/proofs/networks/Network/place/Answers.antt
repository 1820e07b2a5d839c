-- A point stands at its place.
use Rattle.std.proofs.Common.{ℕ, List, ap, ◌∙◌, arith}
use Rattle.fp_model.specs.declared.parts.Leg.{Leg}
use Rattle.fp_base_lists.specs.Ascending.{place_in}
use Rattle.fp_longestarcs.specs.Networks.{points_in}
use Rattle.fp_longestarcs.proofs.ClassNumbers.{class-place}
use Rattle.fp_longestarcs.proofs.networks.Network.place.Goals as goal

pub returns-clause-within : goal.returns-clause-within
returns-clause-within c =
    let leg : Leg = record { arc = c.args.arc; depart = c.args.point } in
    let listed = c.points.ensures.same ∙ ap (λ (t : ℕ). points_in c.args.self.now t) c.tail.ensures.tail in
    omega (arith, c.place_among.ensures.place, ap (λ (l : List ℕ). place_in l c.args.point) listed, (class-place c.args.self.now leg c.points.ensures.valid c.requires).0)
