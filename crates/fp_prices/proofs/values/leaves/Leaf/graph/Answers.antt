use Rattle.std.proofs.Common.{◌≡◌, ◌<◌, length, sym, ap, ◌∙◌, subst}
use Rattle.std.specs.Prelude.{IfOk}
use Rattle.fp_labels.specs.Graphs.{Shape}
use Rattle.fp_model.specs.Problem.{Problem}
use Rattle.fp_flatnet.specs.Tables.{windows_in}
use Rattle.fp_longestarcs.specs.Networks.{TimedNetwork, points_in}
use Rattle.fp_allowed.specs.Heads.{heads_within}
use Rattle.fp_allowed.specs.Settings.{Setting}
use Rattle.fp_prices.specs.Points.{shape_by}
use Rattle.fp_prices.specs.Rounds.{LeafModel}
use Rattle.fp_prices.proofs.values.leaves.Leaf.graph.Goals as goal

pub graph_within-requires-clause-instance : goal.graph_within-requires-clause-instance
graph_within-requires-clause-instance c =
    c.instance.ensures.same ∙ ap (λ (l : LeafModel). l.setting.problem) c.self.view_is ∙ ap (λ (s : Setting). s.problem) (sym c.allowed.ensures)

pub graph_within-requires-clause-network : goal.graph_within-requires-clause-network
graph_within-requires-clause-network c =
    c.network.ensures.same ∙ ap (λ (l : LeafModel). l.setting.network) c.self.view_is ∙ ap (λ (s : Setting). s.network) (sym c.allowed.ensures)

pub graph_within-requires-clause-shipment : goal.graph_within-requires-clause-shipment
graph_within-requires-clause-shipment c =
    subst (λ (q : Problem). c.args.shipment < length q.shipments) (sym (c.instance.ensures.same ∙ ap (λ (l : LeafModel). l.setting.problem) c.self.view_is)) c.requires

pub returns : goal.returns
returns c =
    let shape : Problem → TimedNetwork → Setting → Shape = λ q n s. shape_by q n (heads_within q (windows_in s.windows) (points_in n) c.args.shipment) in
    let problem : c.instance.result.now ≡ c.args.self.now.setting.problem = c.instance.ensures.same ∙ ap (λ (l : LeafModel). l.setting.problem) c.self.view_is in
    let network : c.network.result.now ≡ c.args.self.now.setting.network = c.network.ensures.same ∙ ap (λ (l : LeafModel). l.setting.network) c.self.view_is in
    subst (λ (g : Shape). IfOk c.graph_within.result (λ graph. graph ≡ g))
    (ap (λ (q : Problem). shape q c.network.result.now c.allowed.result) problem ∙ ap (λ (n : TimedNetwork). shape c.args.self.now.setting.problem n c.allowed.result) network ∙
    ap (shape c.args.self.now.setting.problem c.args.self.now.setting.network) c.allowed.ensures) c.graph_within.ensures
