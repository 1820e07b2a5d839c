-- Labels that no open edge can lower are the least costs.
use Rattle.std.proofs.Common.{◌≡◌, ℕ, ◌+◌, ◌<◌, ◌≤◌, Bool, true, false, List, [], ◌∷◌, Option, None, Some, ⊎_elim, length, refl, sym, ap, ◌∙◌, subst, arith}
use Rattle.std.specs.Prelude.{IsSome, IfSome, unwrap_or}
use Rattle.std.specs.Option.{option_and_then, option_map}
use Rattle.std.proofs.lemmas.Bool.{cases_lt, false≢true}
use Rattle.std.proofs.lemmas.Option.{same_Some, none-some}
use Rattle.std.proofs.lemmas.List.{get_or_past, length-map}
use Rattle.std.proofs.lemmas.List.FromFn.{length-map-range_with_len}
use Rattle.std.proofs.lemmas.List.Elements.{All-from_get_or}
use Rattle.std.proofs.lemmas.List.Sums.{sum_by-cons}
use Rattle.fp_labels.specs.declared.graphs.Edge.{Edge}
use Rattle.fp_labels.specs.declared.walks.Label.{Label}
use Rattle.fp_labels.specs.declared.walks.Step.{Step}
use Rattle.fp_labels.specs.Graphs.{Shape, edge_at}
use Rattle.fp_labels.specs.Walks.{Leads, IsOpen, cost_of, walk_cost, IsDistance}
use Rattle.fp_labels.specs.Labels.{label_at, step_to, traced, distances_of, walk_to, AreLabels, AreSound, IsSound, IsSimpleWalk}
use Rattle.fp_labels.specs.Searches.{Entry, is_settled, settled_count, IsWithin, IsRelaxed, AreSettled, IsSearch, AreFound}
use Rattle.fp_labels.proofs.WalksBack.{cost_told, walk_told}
use Rattle.fp_labels.proofs.EdgeRelaxation.{within_weaker}
use Rattle.fp_labels.proofs.NextNode.{settled_count-le, small_cost}

-- where each edge is relaxed, no walk over open edges leads below a label
reached_along : (edges : List Edge) (costs : List (Option ℕ)) (labels : List (Option Label)) →
    ((e : ℕ) (l : Label) → e < length edges → label_at labels (edge_at edges e).from ≡ Some l → IsRelaxed edges costs labels e) →
    (walk : List ℕ) (here there cost : ℕ) → IsWithin labels here cost → Leads edges here walk there → IsOpen costs walk → IsWithin labels there (cost + walk_cost costs walk)
reached_along edges costs labels relaxed [] here there cost within leads is_open =
    subst (λ (n : ℕ). IsWithin labels n (cost + walk_cost costs [])) leads (within_weaker labels here cost (cost + walk_cost costs []) (omega arith) within)
reached_along edges costs labels relaxed (e ∷ walk) here there cost within leads is_open =
    by_cost (λ cost within. reached_along edges costs labels relaxed walk (edge_at edges e).to there cost within leads.2 is_open.1) (cost_of costs e) refl is_open.0
  where
    by_cost : ((cost : ℕ) → IsWithin labels (edge_at edges e).to cost → IsWithin labels there (cost + walk_cost costs walk)) →
        (o : Option ℕ) → cost_of costs e ≡ o → IsSome o → IsWithin labels there (cost + walk_cost costs (e ∷ walk))
    by_cost later None is some = absurd (false≢true some)
    by_cost later (Some c) is some =
        let at : label_at labels (edge_at edges e).from ≡ Some within.0 = ap (λ (n : ℕ). label_at labels n) leads.1 ∙ within.1 in
        let next = relaxed e within.0 leads.0 at c within.0 is at in
        let near : within.0.cost ≤ cost = within.2 in
        let after = later (cost + c) (within_weaker labels (edge_at edges e).to (within.0.cost + c) (cost + c) (omega arith) next) in
        let c_is : unwrap_or (cost_of costs e) 0 ≡ c = ap (λ (o : Option ℕ). unwrap_or o 0) is in
        let whole = sum_by-cons (λ n. unwrap_or (cost_of costs n) 0) e walk in
        within_weaker labels there (cost + c + walk_cost costs walk) (cost + walk_cost costs (e ∷ walk)) (omega arith) after

-- a search that is done
module _ (graph : Shape) (costs : List (Option ℕ)) (start : ℕ) (labels : List (Option Label)) (settled : List Bool) (queue : List Entry)
    (searched : IsSearch graph costs start labels settled queue (λ _. ⊥)) (done : AreSettled labels settled) where
  all_relaxed : (e : ℕ) (l : Label) → e < length graph.edges → label_at labels (edge_at graph.edges e).from ≡ Some l → IsRelaxed graph.edges costs labels e
  all_relaxed e l inside at =
      ⊎_elim
      (λ (relaxed : IsRelaxed graph.edges costs labels e). relaxed)
      (λ (left : ⊥). absurd left)
      (searched.relaxed e inside (done (edge_at graph.edges e).from l at))

  within_walk : (walk : List ℕ) (node : ℕ) → Leads graph.edges start walk node → IsOpen costs walk → IsWithin labels node (0 + walk_cost costs walk)
  within_walk walk node leads is_open = reached_along graph.edges costs labels all_relaxed walk start node 0 searched.walked.started leads is_open

  exact : (node : ℕ) (o : Option Label) → label_at labels node ≡ o → IsDistance graph.edges costs start node (option_map (λ (l : Label). l.cost) o)
  exact node None at = λ walk leads is_open.
      (let found = within_walk walk node leads is_open in
      none-some found.0 (sym at ∙ found.1))
  exact node (Some l) at =
      let walk = searched.walked.walks node l at in
      record {
        attained = (walk.0, walk.1.simple.goes);
        least = λ walk leads is_open.
            (let within = within_walk walk node leads is_open in
            let same : within.0.cost ≡ l.cost = ap (λ (k : Label). k.cost) (same_Some within.0 l (sym within.1 ∙ at)) in
            let below = within.2 in
            omega arith);
      }

  walked : (node : ℕ) → node < length labels → (o : Option Label) → label_at labels node ≡ o → IfSome (option_map (λ (l : Label). l.cost) o) (IsSimpleWalk graph.edges costs start node (traced labels (length labels) node))
  walked node below None at = tt
  walked node below (Some l) at =
      let walk = searched.walked.walks node l at in
      let told : traced labels (length labels) node ≡ walk.0 =
      walk.1.told (length labels) (omega (arith, walk.1.short, settled_count-le settled, searched.walked.labels_len, searched.walked.settled_len)) in
      subst (λ (w : List ℕ). IsSimpleWalk graph.edges costs start node w l.cost) (sym told) walk.1.simple

  exact_labels : AreLabels graph costs start (distances_of labels)
  exact_labels = record {
    costs_len = length-map labels (λ o. option_map (λ (l : Label). l.cost) o) ∙ searched.walked.labels_len;
    walks_len = length-map-range_with_len (λ n. traced labels (length labels) n) 0 (length labels) ∙ searched.walked.labels_len;
    exact = λ node inside.
        (let below : node < length labels = omega (arith, searched.walked.labels_len) in
        subst (λ (o : Option ℕ). IsDistance graph.edges costs start node o) (sym (cost_told labels node below)) (exact node (label_at labels node) refl));
    walked = λ node inside.
        (let below : node < length labels = omega (arith, searched.walked.labels_len) in
        subst (λ (o : Option ℕ). IfSome o (IsSimpleWalk graph.edges costs start node (walk_to (distances_of labels) node))) (sym (cost_told labels node below))
        (subst (λ (walk : List ℕ). IfSome (option_map (λ (l : Label). l.cost) (label_at labels node)) (IsSimpleWalk graph.edges costs start node walk)) (sym (walk_told labels node below))
        (walked node below (label_at labels node) refl)));
  }

  -- a settled node is a node
  settled_inside : (n : ℕ) → is_settled settled n ≡ true → n < length labels
  settled_inside n is =
      ⊎_elim
      (λ (below : n < length settled). omega (arith, searched.walked.labels_len, searched.walked.settled_len))
      (λ (past : length settled ≤ n). absurd (false≢true (sym (get_or_past settled n false past) ∙ is)))
      (cases_lt n (length settled))

  sound_labels : 0 < graph.nodes → AreSound labels
  sound_labels some = All-from_get_or (IsSound (length labels)) labels None (λ node below. by_label node (label_at labels node) refl)
    where
      by_step : (node : ℕ) (o : Option Step) → step_to labels node ≡ o → IfSome o (λ (s : Step). s.from < length labels)
      by_step node None is = tt
      by_step node (Some s) is = settled_inside s.from (searched.walked.steps node s is)

      by_label : (node : ℕ) (o : Option Label) → label_at labels node ≡ o → IsSound (length labels) o
      by_label node None at = tt
      by_label node (Some l) at = (
        small_cost graph.nodes (settled_count settled) l.cost (searched.walked.small node l at) (omega (arith, settled_count-le settled, searched.walked.settled_len)) some,
        by_step node l.step (ap (λ (o : Option Label). option_and_then (λ (k : Label). k.step) o) at),
      )

  pub found : 0 < graph.nodes → AreFound graph costs start labels
  found some = record { exact = exact_labels; sound = sound_labels some }
