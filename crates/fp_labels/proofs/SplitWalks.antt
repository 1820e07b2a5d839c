-- A walk that has an edge is a walk to its tail, the edge, and a walk on from its head.
use Rattle.std.proofs.Common.{◌≡◌, ℕ, ◌+◌, ◌<◌, List, [], ◌∷◌, ◌++◌, length, ⊎_elim, refl, sym, ap, subst, arith}
use Rattle.std.specs.Prelude.{Contains, Option, None, Some, IsSome, unwrap_or}
use Rattle.std.proofs.lemmas.Bool.{false≢true}
use Rattle.std.proofs.lemmas.List.Elements.{Contains-append_right}
use Rattle.std.proofs.lemmas.List.Sums.{sum_by-append, sum_by-cons}
use Rattle.fp_base_lists.proofs.Elements.{AllByRecursion-append}
use Rattle.fp_base_lists.proofs.Membership.{Contains-cons_cases, Contains-first}
use Rattle.fp_labels.specs.declared.graphs.Edge.{Edge}
use Rattle.fp_labels.specs.Graphs.{edge_at}
use Rattle.fp_labels.specs.Walks.{IsDistance, IsOpen, Leads, cost_of, walk_cost}
use Rattle.fp_labels.specs.ThroughWalks.{IsLeastThrough, sum_of_costs}
use Rattle.fp_labels.proofs.LongerWalks.{leads-append}

module _ (edges : List Edge) (costs : List (Option ℕ)) (there edge : ℕ) where
  -- the two walks beside the edge
  record IsSplit (here : ℕ) (walk : List ℕ) : Type 0 where
    before : List ℕ
    after : List ℕ
    arrives : Leads edges here before (edge_at edges edge).from
    goes_on : Leads edges (edge_at edges edge).to after there
    open_before : IsOpen costs before
    open_edge : IsSome (cost_of costs edge)
    open_after : IsOpen costs after
    costs_so : walk_cost costs walk ≡ walk_cost costs before + unwrap_or (cost_of costs edge) 0 + walk_cost costs after

  split : (walk : List ℕ) (here : ℕ) → Leads edges here walk there → IsOpen costs walk → Contains walk edge → IsSplit here walk
  split [] here leads is_open has = absurd (omega (arith, has.1))
  split (e ∷ walk) here leads is_open has =
      ⊎_elim
      (λ (same : e ≡ edge). here_at same)
      (λ (later : Contains walk edge).
      let rest = split walk (edge_at edges e).to leads.2 is_open.1 later in record {
        before = e ∷ rest.before;
        after = rest.after;
        arrives = (leads.0, leads.1, rest.arrives);
        goes_on = rest.goes_on;
        open_before = (is_open.0, rest.open_before);
        open_edge = rest.open_edge;
        open_after = rest.open_after;
        costs_so =
            omega (
              arith,
              sum_by-cons (λ n. unwrap_or (cost_of costs n) 0) e walk,
              sum_by-cons (λ n. unwrap_or (cost_of costs n) 0) e rest.before,
              rest.costs_so,
            );
      })
      (Contains-cons_cases e walk edge has)
    where
      here_at : e ≡ edge → IsSplit here (e ∷ walk)
      here_at same = record {
        before = [];
        after = walk;
        arrives = subst (λ (n : ℕ). here ≡ (edge_at edges n).from) same (sym leads.1);
        goes_on = subst (λ (n : ℕ). Leads edges (edge_at edges n).to walk there) same leads.2;
        open_before = tt;
        open_edge = subst (λ (n : ℕ). IsSome (cost_of costs n)) same is_open.0;
        open_after = is_open.1;
        costs_so =
            omega (
              arith,
              ap (λ (n : ℕ). unwrap_or (cost_of costs n) 0) same,
              sum_by-cons (λ n. unwrap_or (cost_of costs n) 0) e walk,
            );
      }

  -- so the least cost of a walk that has the edge is the least cost to its tail, its own cost and the least cost on from its head
  pub through-exact : (here : ℕ) → edge < length edges → (to_tail own from_head : Option ℕ) → cost_of costs edge ≡ own → IsDistance edges costs here (edge_at edges edge).from to_tail →
      IsDistance edges costs (edge_at edges edge).to there from_head → IsLeastThrough edges costs here there edge (sum_of_costs to_tail own from_head)
  through-exact here inside None own from_head is near far = λ walk leads is_open has.
      let parts = split walk here leads is_open has in
      near parts.before parts.arrives parts.open_before
  through-exact here inside (Some a) None from_head is near far = λ walk leads is_open has.
      let parts = split walk here leads is_open has in
      absurd (false≢true (subst (λ (o : Option ℕ). IsSome o) is parts.open_edge))
  through-exact here inside (Some a) (Some b) None is near far = λ walk leads is_open has.
      let parts = split walk here leads is_open has in
      far parts.after parts.goes_on parts.open_after
  through-exact here inside (Some a) (Some b) (Some c) is near far =
      let before : List ℕ = near.attained.0 in
      let after : List ℕ = far.attained.0 in
      let own_is : unwrap_or (cost_of costs edge) 0 ≡ b = ap (λ (o : Option ℕ). unwrap_or o 0) is in
      let some : IsSome (cost_of costs edge) = subst (λ (o : Option ℕ). IsSome o) (sym is) refl in record {
        walk = before ++ (edge ∷ after);
        goes = record {
          leads = leads-append edges here before (edge_at edges edge).from (edge ∷ after) there near.attained.1.leads (inside, refl, far.attained.1.leads);
          open_edges = AllByRecursion-append (λ n. IsSome (cost_of costs n)) before (edge ∷ after) near.attained.1.open_edges (some, far.attained.1.open_edges);
          costs_so =
              omega (
                arith,
                sum_by-append (λ n. unwrap_or (cost_of costs n) 0) before (edge ∷ after),
                sum_by-cons (λ n. unwrap_or (cost_of costs n) 0) edge after,
                near.attained.1.costs_so,
                far.attained.1.costs_so,
                own_is,
              );
        };
        through = Contains-append_right before (edge ∷ after) edge (Contains-first edge after);
        least = λ other leads is_open has.
            (let parts = split other here leads is_open has in
            omega (
              arith,
              near.least parts.before parts.arrives parts.open_before,
              far.least parts.after parts.goes_on parts.open_after,
              parts.costs_so,
              own_is,
            ));
      }
