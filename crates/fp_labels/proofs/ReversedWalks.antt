-- A walk over edges that are turned round, read back, is a walk over the edges.
use Rattle.std.proofs.Common.{◌≡◌, ℕ, ◌<◌, ◌≤◌, List, [], ◌∷◌, ◌++◌, length, map, reverse, sym, ap, ◌∙◌, subst, arith}
use Rattle.std.specs.Prelude.{Option, None, Some, IsSome, unwrap_or}
use Rattle.std.proofs.lemmas.List.{get_or-map, length-map, reverse-append}
use Rattle.std.proofs.lemmas.List.Elements.{All-map, All-weaker}
use Rattle.std.proofs.lemmas.List.Sums.{sum_by-cons, sum_by_push}
use Rattle.fp_base_lists.proofs.Elements.{AllByRecursion-push}
use Rattle.fp_labels.specs.declared.graphs.Edge.{Edge}
use Rattle.fp_labels.specs.Graphs.{HasEnds, edge_at, no_edge, reversed_edge}
use Rattle.fp_labels.specs.Walks.{IsDistance, IsOpen, Leads, cost_of, walk_cost}
use Rattle.fp_labels.proofs.LongerWalks.{leads_push}

-- as many edges, each turned round
pub record AreReversed (edges back : List Edge) : Type 0 where
  pub len : length back ≡ length edges
  pub from : (e : ℕ) → e < length edges → (edge_at back e).from ≡ (edge_at edges e).to
  pub to : (e : ℕ) → e < length edges → (edge_at back e).to ≡ (edge_at edges e).from

pub reversed-edges : (edges : List Edge) → AreReversed edges (map reversed_edge edges)
reversed-edges edges = record {
  len = length-map edges reversed_edge;
  from = λ e below. ap (λ (x : Edge). x.from) (get_or-map reversed_edge edges e no_edge no_edge below);
  to = λ e below. ap (λ (x : Edge). x.to) (get_or-map reversed_edge edges e no_edge no_edge below);
}

-- turned round again they are the edges
reversed-again : (edges back : List Edge) → AreReversed edges back → AreReversed back edges
reversed-again edges back are = record {
  len = sym are.len;
  from = λ e below. sym (are.to e (omega (arith, are.len, below)));
  to = λ e below. sym (are.from e (omega (arith, are.len, below)));
}

-- their ends are the same
pub reversed-ends : (nodes : ℕ) (edges : List Edge) → HasEnds nodes edges → HasEnds nodes (map reversed_edge edges)
reversed-ends nodes edges ends =
    All-map (λ (e : Edge). (e.from < nodes) × (e.to < nodes)) reversed_edge edges
    (All-weaker (λ (e : Edge). (e.from < nodes) × (e.to < nodes)) (λ (e : Edge). (e.to < nodes) × (e.from < nodes)) (λ e both. (both.1, both.0)) edges ends)

-- where a walk over them leads, read back
leads-back : (edges back : List Edge) → AreReversed edges back → (walk : List ℕ) (here there : ℕ) → Leads back here walk there → Leads edges there (reverse walk) here
leads-back edges back are [] here there leads = sym leads
leads-back edges back are (e ∷ walk) here there leads =
    let below : e < length edges = omega (arith, leads.0, are.len) in
    let before : Leads edges there (reverse walk) (edge_at back e).to = leads-back edges back are walk (edge_at back e).to there leads.2 in
    let pushed : Leads edges there (reverse walk ++ (e ∷ [])) (edge_at edges e).to = leads_push edges there (reverse walk) (edge_at back e).to e before below (sym (are.to e below)) in
    let ends : (edge_at edges e).to ≡ here = sym (are.from e below) ∙ leads.1 in
    subst (λ (xs : List ℕ). Leads edges there xs here) (sym (reverse-append (e ∷ []) walk)) (subst (λ (n : ℕ). Leads edges there (reverse walk ++ (e ∷ [])) n) ends pushed)

-- it is open still
open-back : (costs : List (Option ℕ)) (walk : List ℕ) → IsOpen costs walk → IsOpen costs (reverse walk)
open-back costs [] is_open = tt
open-back costs (e ∷ walk) is_open =
    subst (λ (xs : List ℕ). IsOpen costs xs) (sym (reverse-append (e ∷ []) walk))
    (AllByRecursion-push (λ n. IsSome (cost_of costs n)) (reverse walk) e (open-back costs walk is_open.1) is_open.0)

-- and costs the same
cost-back : (costs : List (Option ℕ)) (walk : List ℕ) → walk_cost costs (reverse walk) ≡ walk_cost costs walk
cost-back costs [] = omega arith
cost-back costs (e ∷ walk) =
    ap (λ (xs : List ℕ). walk_cost costs xs) (reverse-append (e ∷ []) walk)
    ∙ omega (
      arith,
      sum_by_push (λ n. unwrap_or (cost_of costs n) 0) (reverse walk) e,
      sum_by-cons (λ n. unwrap_or (cost_of costs n) 0) e walk,
      cost-back costs walk,
    )

-- so the distance to a node from another over them is the distance from that node to the other
pub distance-back : (edges back : List Edge) (costs : List (Option ℕ)) → AreReversed edges back → (here there : ℕ) (o : Option ℕ) → IsDistance back costs there here o → IsDistance edges costs here there o
distance-back edges back costs are here there None none = λ walk leads is_open.
    none (reverse walk) (leads-back back edges (reversed-again edges back are) walk here there leads) (open-back costs walk is_open)
distance-back edges back costs are here there (Some n) is = record {
  attained = (
    reverse is.attained.0,
    record {
      leads = leads-back edges back are is.attained.0 there here is.attained.1.leads;
      open_edges = open-back costs is.attained.0 is.attained.1.open_edges;
      costs_so = cost-back costs is.attained.0 ∙ is.attained.1.costs_so;
    },
  );
  least = λ walk leads is_open.
      (let below = is.least (reverse walk) (leads-back back edges (reversed-again edges back are) walk here there leads) (open-back costs walk is_open) in
      subst (λ (m : ℕ). n ≤ m) (cost-back costs walk) below);
}
