use Rattle.std.proofs.Common.{◌≡◌, ◌∙◌, ℕ, ◌<◌, List, length, sym, ap, subst}
use Rattle.std.specs.Prelude.{Option, IfOk}
use Rattle.std.proofs.lemmas.List.{length-map}
use Rattle.fp_labels.specs.declared.walks.Label.{Label}
use Rattle.fp_labels.specs.Labels.{Distances, traced, walk_to}
use Rattle.fp_labels.proofs.WalksBack.{walk_told}
use Rattle.fp_labels.proofs.walks.Labels.walk.Goals as goal

pub returns : goal.returns
returns c =
    let labels = c.self.inside.labels.items in
    let node : ℕ = c.args.node in
    let below : node < length labels = simp length-map at (rw (← c.self.view_is) at c.requires.inside) in
    let told : walk_to c.args.self.now node ≡ traced c.deref.result.now (length c.deref.result.now) node =
    ap (λ (d : Distances). walk_to d node) (sym c.self.view_is) ∙ walk_told labels node below
    ∙ ap (λ (xs : List (Option Label)). traced xs (length xs) node) (sym c.deref.ensures.value) in
    subst (λ (w : List ℕ). IfOk c.trace.result (λ walk. walk.items ≡ w)) (sym told) c.trace.ensures
