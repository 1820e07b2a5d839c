-- In a whole network the head that is kept is the greatest.
use Rattle.std.proofs.Common.{◌≡◌, ℕ, List, get_or, ap, ◌∙◌}
use Rattle.fp_model.specs.declared.parts.Leg.{Leg}
use Rattle.fp_longestarcs.specs.Networks.{heads_in}
use Rattle.fp_longestarcs.proofs.ClassNumbers.{kept-greatest}
use Rattle.fp_longestarcs.proofs.networks.Network.head.Goals as goal

pub returns-clause-greatest : goal.returns-clause-greatest
returns-clause-greatest c p whole =
    let leg : Leg = record { arc = c.args.arc; depart = c.args.point } in
    let heads : c.list_at.result.now ≡ heads_in c.args.self.now c.args.arc = cc in
    ap (λ (l : List ℕ). get_or l c.place.result 0) heads ∙ ap (λ (n : ℕ). get_or (heads_in c.args.self.now c.args.arc) n 0) c.place.ensures.place ∙ kept-greatest p c.args.self.now leg whole c.requires
