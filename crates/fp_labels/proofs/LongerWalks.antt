-- Walks with one more edge at their end, or with another walk after them.
use Rattle.std.proofs.Common.{◌≡◌, ℕ, ◌+◌, ◌<◌, List, [], ◌∷◌, ◌++◌, Option, Some, length, refl, sym, ap, ◌∙◌, subst, arith}
use Rattle.std.specs.Prelude.{IsSome, unwrap_or}
use Rattle.std.proofs.lemmas.List.{map_push}
use Rattle.std.proofs.lemmas.List.Sums.{sum_by_push}
use Rattle.fp_base_lists.proofs.Elements.{AllByRecursion-push}
use Rattle.fp_labels.specs.declared.graphs.Edge.{Edge}
use Rattle.fp_labels.specs.Graphs.{edge_at}
use Rattle.fp_labels.specs.Walks.{Leads, cost_of, nodes_on, IsWalk}

-- the nodes on a walk with one more edge
pub nodes_push : (edges : List Edge) (here : ℕ) (walk : List ℕ) (e : ℕ) → nodes_on edges here (walk ++ (e ∷ [])) ≡ nodes_on edges here walk ++ ((edge_at edges e).to ∷ [])
nodes_push edges here walk e = ap (λ (xs : List ℕ). here ∷ xs) (map_push (λ n. (edge_at edges n).to) walk e)

-- a walk with one more edge leads to its head
pub leads_push : (edges : List Edge) (here : ℕ) (walk : List ℕ) (there e : ℕ) → Leads edges here walk there → e < length edges → (edge_at edges e).from ≡ there → Leads edges here (walk ++ (e ∷ [])) (edge_at edges e).to
leads_push edges here [] there e leads inside from_is = (inside, from_is ∙ sym leads, refl)
leads_push edges here (a ∷ walk) there e leads inside from_is = (leads.0, leads.1, leads_push edges (edge_at edges a).to walk there e leads.2 inside from_is)

-- a walk with one more open edge
pub walk_push : (edges : List Edge) (costs : List (Option ℕ)) (here there : ℕ) (walk : List ℕ) (cost e more : ℕ) → IsWalk edges costs here there walk cost →
    e < length edges → (edge_at edges e).from ≡ there → cost_of costs e ≡ Some more → IsWalk edges costs here (edge_at edges e).to (walk ++ (e ∷ [])) (cost + more)
walk_push edges costs here there walk cost e more is inside from_is unbarred = record {
  leads = leads_push edges here walk there e is.leads inside from_is;
  open_edges = AllByRecursion-push (λ n. IsSome (cost_of costs n)) walk e is.open_edges (subst (λ (o : Option ℕ). IsSome o) (sym unbarred) refl);
  costs_so =
      (let pushed = sum_by_push (λ n. unwrap_or (cost_of costs n) 0) walk e in
      let here_is : unwrap_or (cost_of costs e) 0 ≡ more = ap (λ (o : Option ℕ). unwrap_or o 0) unbarred in
      let before = is.costs_so in
      omega arith);
}

-- two walks, one after the other
pub leads-append : (edges : List Edge) (here : ℕ) (walk : List ℕ) (middle : ℕ) (more : List ℕ) (there : ℕ) → Leads edges here walk middle → Leads edges middle more there → Leads edges here (walk ++ more) there
leads-append edges here [] middle more there leads later = subst (λ (n : ℕ). Leads edges n more there) (sym leads) later
leads-append edges here (e ∷ walk) middle more there leads later =
    (leads.0, leads.1, leads-append edges (edge_at edges e).to walk middle more there leads.2 later)
