-- Tracked legs by arcs of an instance.
use Rattle.std.specs.Prelude.{◌<◌, List, length, All}
use Rattle.fp_model.specs.Problem.{Problem}
use Rattle.fp_replan_present.specs.declared.presents.Tracked.{Tracked}

-- each leg is by an arc of the instance
abbrev pub AllExist : Problem → List Tracked → Type 0
AllExist p legs = All (λ (x : Tracked). x.kept.arc < length p.arcs) legs
