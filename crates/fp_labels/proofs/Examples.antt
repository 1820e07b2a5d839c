-- The definitions at small graphs.
use Rattle.std.proofs.Common.{◌≡◌, ℕ, zero, suc, ◌<◌, ◌≤◌, true, false, List, [], ◌∷◌, Option, None, Some, ⊎_elim, inl, inr, refl, subst, arith}
use Rattle.std.specs.Prelude.{Contains, unwrap_or}
use Rattle.std.proofs.lemmas.Bool.{false≢true}
use Rattle.std.proofs.lemmas.Option.{same_Some}
use Rattle.std.proofs.lemmas.List.Sums.{sum_by-cons}
use Rattle.fp_base_lists.proofs.Membership.{Contains-cons_cases}
use Rattle.fp_labels.specs.declared.graphs.Edge.{Edge}
use Rattle.fp_labels.specs.declared.walks.Label.{Label}
use Rattle.fp_labels.specs.Walks.{IsDistance, Leads, IsOpen, cost_of, walk_cost, nodes_on}
use Rattle.fp_labels.specs.TaggedWalks.{HasTag, HasTags}
use Rattle.fp_labels.specs.Layers.{lower_edge, upper_edge}
use Rattle.fp_labels.specs.Labels.{distances_of, cost_to, walk_to}
use Rattle.fp_labels.specs.Rows.{leaving, row_start}
use Rattle.fp_labels.specs.Graphs.{edge_at, reversed_edge}
use Rattle.fp_labels.specs.ThroughWalks.{IsLeastThrough}
use Rattle.fp_labels.proofs.SplitWalks.{through-exact}

-- an edge from the first node to the second and one from there to the third
abbrev two_edges : List Edge
two_edges = (record { from = 0; to = 1 }) ∷ (record { from = 1; to = 2 }) ∷ []

-- both edges lead from the first node to the third, over three nodes
both_lead : Leads two_edges 0 (0 ∷ 1 ∷ []) 2
both_lead = (omega arith, refl, (omega arith, refl, refl))

both_meet : nodes_on two_edges 0 (0 ∷ 1 ∷ []) ≡ 0 ∷ 1 ∷ 2 ∷ []
both_meet = refl

-- their costs add up
both_cost : walk_cost (Some 4 ∷ Some 5 ∷ []) (0 ∷ 1 ∷ []) ≡ 9
both_cost = refl

-- a barred edge closes the walk
barred : IsOpen (None ∷ Some 5 ∷ []) (0 ∷ 1 ∷ []) → ⊥
barred is_open = false≢true is_open.0

-- the empty walk leads from a node to itself at no cost
stays : Leads two_edges 2 [] 2
stays = refl

-- no edge leaves the third node, and one leaves each of the others
leave_each : leaving two_edges 1 ≡ 1
leave_each = refl

begins_last : row_start two_edges 2 ≡ 2
begins_last = refl

-- labels tell costs and walks
abbrev three_labels : List (Option Label)
three_labels =
    Some (record { cost = 0; step = None })
    ∷ Some (record { cost = 4; step = Some (record { edge = 0; from = 0 }) })
    ∷ Some (record { cost = 9; step = Some (record { edge = 1; from = 1 }) })
    ∷ None ∷ []

tell_cost : cost_to (distances_of three_labels) 2 ≡ Some 9
tell_cost = refl

tell_walk : walk_to (distances_of three_labels) 2 ≡ 0 ∷ 1 ∷ []
tell_walk = refl

tell_none : cost_to (distances_of three_labels) 3 ≡ None
tell_none = refl

-- the walk over both edges has the tag of the second, asked for twice
has_tag : HasTags (Some 3 ∷ Some 7 ∷ []) (7 ∷ 7 ∷ []) (0 ∷ 1 ∷ [])
has_tag = (inr (inl refl), (inr (inl refl), tt))

-- the walk over the first edge lacks it
lacks_tag : HasTags (Some 3 ∷ Some 7 ∷ []) (7 ∷ []) (0 ∷ []) → ⊥
lacks_tag tagged =
    ⊎_elim (λ (here : HasTag (Some 3 ∷ Some 7 ∷ []) 7 0). let same : 3 ≡ 7 = same_Some 3 7 here in omega (arith, same)) (λ (later : ⊥). later) tagged.0

-- over three nodes, the lower copy of an edge with the tag leads up, and the upper copies stay above
leads_up : lower_edge 3 true (record { from = 1; to = 2 }) ≡ record { from = 1; to = 5 }
leads_up = refl

stays_low : lower_edge 3 false (record { from = 1; to = 2 }) ≡ record { from = 1; to = 2 }
stays_low = refl

stays_high : upper_edge 3 (record { from = 1; to = 2 }) ≡ record { from = 4; to = 5 }
stays_high = refl

-- an edge turned round
turns_round : reversed_edge (record { from = 1; to = 2 }) ≡ record { from = 2; to = 1 }
turns_round = refl

-- over four nodes, two edges from the first to the last by way of the second, a direct edge, and an edge from the last to the third
abbrev four_edges : List Edge
four_edges = (record { from = 0; to = 1 }) ∷ (record { from = 1; to = 3 }) ∷ (record { from = 0; to = 3 }) ∷ (record { from = 3; to = 2 }) ∷ []

abbrev four_costs : List (Option ℕ)
four_costs = Some 1 ∷ Some 2 ∷ Some 5 ∷ Some 4 ∷ []

-- each costs something
cost_each : (e : ℕ) → e < 4 → 1 ≤ unwrap_or (cost_of four_costs e) 0
cost_each zero below = omega arith
cost_each (suc zero) below = omega arith
cost_each (suc (suc zero)) below = omega arith
cost_each (suc (suc (suc zero))) below = omega arith
cost_each (suc (suc (suc (suc e)))) below = absurd (omega (arith, below))

-- so the second node is at the first edge's cost from the first, and each node is at no cost from itself
to_second : IsDistance four_edges four_costs 0 1 (Some 1)
to_second = record { attained = (0 ∷ [], record { leads = (omega arith, refl, refl); open_edges = (refl, tt); costs_so = refl }); least = least_to_second }
  where
    least_to_second : (walk : List ℕ) → Leads four_edges 0 walk 1 → IsOpen four_costs walk → 1 ≤ walk_cost four_costs walk
    least_to_second [] leads is_open = let same : 0 ≡ 1 = leads in absurd (omega (arith, same))
    least_to_second (e ∷ walk) leads is_open = omega (arith, cost_each e leads.0, sum_by-cons (λ n. unwrap_or (cost_of four_costs n) 0) e walk)

to_itself : (node : ℕ) → IsDistance four_edges four_costs node node (Some 0)
to_itself node = record { attained = ([], record { leads = refl; open_edges = tt; costs_so = refl }); least = λ walk leads is_open. omega arith }

-- of the walks from the first node to the last, the cheapest with the second edge costs 3, and the cheapest with the direct edge 5
through_second : IsLeastThrough four_edges four_costs 0 3 1 (Some 3)
through_second = through-exact four_edges four_costs 3 1 0 (omega arith) (Some 1) (Some 2) (Some 0) refl to_second (to_itself 3)

through_direct : IsLeastThrough four_edges four_costs 0 3 2 (Some 5)
through_direct = through-exact four_edges four_costs 3 2 0 (omega arith) (Some 0) (Some 5) (Some 0) refl (to_itself 0) (to_itself 3)

-- no edge leaves the third node
leaves_none : (e : ℕ) → e < 4 → (edge_at four_edges e).from ≡ 2 → ⊥
leaves_none zero below is = let same : 0 ≡ 2 = is in omega (arith, same)
leaves_none (suc zero) below is = let same : 1 ≡ 2 = is in omega (arith, same)
leaves_none (suc (suc zero)) below is = let same : 0 ≡ 2 = is in omega (arith, same)
leaves_none (suc (suc (suc zero))) below is = let same : 3 ≡ 2 = is in omega (arith, same)
leaves_none (suc (suc (suc (suc e)))) below is = omega (arith, below)

stuck : (walk : List ℕ) → Leads four_edges 2 walk 3 → ⊥
stuck [] leads = let same : 2 ≡ 3 = leads in omega (arith, same)
stuck (e ∷ walk) leads = leaves_none e leads.0 leads.1

never : (walk : List ℕ) (here : ℕ) → Leads four_edges here walk 3 → Contains walk 3 → ⊥
never [] here leads has = omega (arith, has.1)
never (e ∷ walk) here leads has =
    ⊎_elim
    (λ (same : e ≡ 3). stuck walk (subst (λ (n : ℕ). Leads four_edges (edge_at four_edges n).to walk 3) same leads.2))
    (λ (later : Contains walk 3). never walk (edge_at four_edges e).to leads.2 later)
    (Contains-cons_cases e walk 3 has)

-- so no such walk has the edge to it
through_none : IsLeastThrough four_edges four_costs 0 3 3 None
through_none = λ walk leads is_open has. never walk 0 leads has
