use Rattle.std.proofs.Common.{◌≡◌, ℕ, ◌<◌, List, [], ◌∷◌, length, false, sym, ap, ◌∙◌, subst, arith}
use Rattle.std.specs.Prelude.{IfOk, ◌==◌}
use Rattle.std.proofs.lemmas.Bool.{false≢true}
use Rattle.fp_labels.specs.Graphs.{Shape}
use Rattle.fp_labels.specs.Labels.{AreLabels}
use Rattle.fp_model.specs.declared.parts.Leg.{Leg}
use Rattle.fp_model.specs.Numbered.{shipment_at}
use Rattle.fp_model.specs.Problem.{Problem}
use Rattle.fp_flatnet.specs.Tables.{windows_in}
use Rattle.fp_longestarcs.specs.Networks.{TimedNetwork, points_in}
use Rattle.fp_allowed.specs.Heads.{heads_within}
use Rattle.fp_prices.specs.Points.{first_node, shape_by}
use Rattle.fp_prices.specs.Rounds.{LeafModel}
use Rattle.fp_prices_spans.specs.SpanCosts.{heads_at}
use Rattle.fp_prices_spans.specs.Spans.{ClassSpan}
use Rattle.fp_prices_spans.proofs.LeafHeads.{heads-with}
use Rattle.fp_prices_spans.proofs.values.span_costs.labels.Goals as goal

-- where a list isn't empty it has something
some-in : (spans : List ClassSpan) → (length spans == 0) ≡ false → 0 < length spans
some-in [] is = absurd (false≢true (sym is))
some-in (span ∷ spans) is = omega arith

pub returns : goal.returns
returns c =
    let leaf : LeafModel = c.args.by_spans.now.pricing.now.leaf in
    let p : Problem = leaf.setting.problem in
    let net : TimedNetwork = leaf.setting.network in
    let k : ℕ = c.args.shipment in
    let spans : List ClassSpan = c.args.by_spans.now.spans.now in
    let within : LeafModel → Leg → ℕ = λ l. heads_within l.setting.problem (windows_in l.setting.windows) (points_in l.setting.network) k in
    let some : 0 < length spans = some-in spans (sym c.is_empty.ensures ∙ c.if-is_empty.false) in
    let graph : c.in_ok-graph.graph ≡ shape_by p net (heads_at leaf spans k) =
    c.in_ok-graph.ensures ∙ ap (λ (l : LeafModel). shape_by l.setting.problem l.setting.network (within l)) c.leaf-leaf.ensures
    ∙ ap (λ (heads : Leg → ℕ). shape_by p net heads) (sym (heads-with p (windows_in leaf.setting.windows) (points_in net) spans k some)) in
    let problem : c.round-round.result.now.problem ≡ p = c.round-round.ensures.problem ∙ ap (λ (l : LeafModel). l.setting.problem) c.leaf-leaf.ensures in
    let network : c.round-round.result.now.network ≡ net = c.round-round.ensures.network ∙ ap (λ (l : LeafModel). l.setting.network) c.leaf-leaf.ensures in
    let start : c.start-start.result ≡ first_node net (shipment_at p k).from =
    c.start-start.ensures.node ∙ ap (λ (n : TimedNetwork). first_node n (shipment_at c.round-round.result.now.problem k).from) network ∙ ap (λ (q : Problem). first_node net (shipment_at q k).from) problem in
    subst (λ (n : ℕ). IfOk c.distances-2.result (λ labels. AreLabels (shape_by p net (heads_at leaf spans k)) c.args.costs.now n labels)) start
    (subst (λ (s : Shape). IfOk c.distances-2.result (λ labels. AreLabels s c.args.costs.now c.start-start.result labels)) graph c.distances-2.ensures)
