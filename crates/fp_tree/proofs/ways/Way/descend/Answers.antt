use Rattle.std.proofs.Common.{[], ◌∷◌, ◌++◌, false, List, refl, ap, ◌∙◌}
use Rattle.fp_tree.specs.declared.ways.Step.{Step}
use Rattle.fp_tree.specs.Ways.{pending_on}
use Rattle.fp_tree.proofs.Steps.{pending-by_first}
use Rattle.fp_tree.proofs.ways.Way.descend.Goals as goal

pub returns-clause-pending : goal.returns-clause-pending
returns-clause-pending c =
    let step : Step = record { split = c.args.split; tail = c.args.tail; later = false } in
    ap pending_on c.in_ok-push.ensures.items ∙ ap (λ (way : List Step). pending_on (way ++ step ∷ [])) c.self.view_is ∙ pending-by_first c.args.self.now step [] refl tt
