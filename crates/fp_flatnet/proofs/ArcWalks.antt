-- Walks along arcs are walks in the graphs of the arcs, and least costs there are least steps.
use Rattle.std.proofs.Common.{◌≡◌, ◌≢◌, ℕ, ◌-◌, ◌<◌, ◌≤◌, Some, None, Option, List, [], ◌∷◌, ◌++◌, length, map, reverse, refl, sym, ap, ◌∙◌, subst, arith}
use Rattle.std.specs.Prelude.{unwrap_or, IfSome, IsSome, MatchOption}
use Rattle.std.specs.List.{AllByRecursion}
use Rattle.std.specs.Option.{option_map}
use Rattle.std.proofs.lemmas.List.{get_or-map, length-map, reverse-append}
use Rattle.std.proofs.lemmas.List.Sums.{sum_by-cons}
use Rattle.fp_labels.specs.declared.graphs.Edge.{Edge}
use Rattle.fp_labels.specs.Graphs.{edge_at, no_edge}
use Rattle.fp_labels.specs.Walks.{Leads as EdgesLead, IsOpen, walk_cost, cost_of, IsDistance as IsCostDistance}
use Rattle.fp_flatnet.specs.declared.least_times.TheConstants.{LONGEST_LEAST_TIME}
use Rattle.fp_model.specs.declared.parts.Arc.{Arc}
use Rattle.fp_model.specs.Problem.{Problem, IsValid, no_arc, arc_at, hold_at}
use Rattle.fp_model.specs.Routes.{Leads, step, walk_time}
use Rattle.fp_model.specs.Times.{IsLeastTime, IsDistance}
use Rattle.fp_model.proofs.Bounds.{Leads-exist}
use Rattle.fp_flatnet.specs.ArcGraphs.{forward_edge, backward_edge, forward_shape, backward_shape, arc_step, step_costs}
use Rattle.fp_flatnet.proofs.LeastWalks.{steps, steps-append, steps-small, time-steps, Leads-append, IsLeastWalk, IsLeastTime-from_walk}

-- a walk with one more arc in front, turned round
pub reverse-cons : (a : ℕ) (walk : List ℕ) → reverse (a ∷ walk) ≡ reverse walk ++ (a ∷ [])
reverse-cons a walk = reverse-append (a ∷ []) walk

-- the edges and the cost of an arc
forward-at : (p : Problem) (a : ℕ) → a < length p.arcs → edge_at (map forward_edge p.arcs) a ≡ forward_edge (arc_at p a)
forward-at p a lt = get_or-map forward_edge p.arcs a no_arc no_edge lt

-- and those of an arc turned round
pub backward-at : (p : Problem) (a : ℕ) → a < length p.arcs → edge_at (map backward_edge p.arcs) a ≡ backward_edge (arc_at p a)
backward-at p a lt = get_or-map backward_edge p.arcs a no_arc no_edge lt

pub cost-at : (p : Problem) (a : ℕ) → a < length p.arcs → cost_of (step_costs p) a ≡ Some (step p a)
cost-at p a lt = get_or-map (λ (x : Arc). Some (arc_step p x)) p.arcs a no_arc None lt

-- arcs that exist are open, and cost their steps
open-steps : (p : Problem) (arcs : List ℕ) → AllByRecursion (λ a. a < length p.arcs) arcs → IsOpen (step_costs p) arcs
open-steps p [] exist = tt
open-steps p (a ∷ arcs) exist = (subst (λ (o : Option ℕ). IsSome o) (sym (cost-at p a exist.0)) refl, open-steps p arcs exist.1)

cost-steps : (p : Problem) (arcs : List ℕ) → AllByRecursion (λ a. a < length p.arcs) arcs → walk_cost (step_costs p) arcs ≡ steps p arcs
cost-steps p [] exist = refl
cost-steps p (a ∷ arcs) exist =
    let one : unwrap_or (cost_of (step_costs p) a) 0 ≡ step p a = ap (λ (o : Option ℕ). unwrap_or o 0) (cost-at p a exist.0) in
    omega (arith, one, cost-steps p arcs exist.1, sum_by-cons (λ e. unwrap_or (cost_of (step_costs p) e) 0) a arcs)

-- walks along arcs and along their edges
forward-leads : (p : Problem) (here there : ℕ) (walk : List ℕ) → EdgesLead (map forward_edge p.arcs) here walk there → Leads p here walk there
forward-leads p here there [] leads = leads
forward-leads p here there (a ∷ walk) leads =
    let lt : a < length p.arcs = omega (arith, leads.0, length-map p.arcs forward_edge) in
    let edge : edge_at (map forward_edge p.arcs) a ≡ forward_edge (arc_at p a) = forward-at p a lt in
    let P : Edge → Type 0 = λ x. (x.from ≡ here) × EdgesLead (map forward_edge p.arcs) x.to walk there in
    let there_on : P (forward_edge (arc_at p a)) = subst P edge (leads.1, leads.2) in
    (lt, there_on.0, forward-leads p (arc_at p a).to there walk there_on.1)

leads-forward : (p : Problem) (here there : ℕ) (walk : List ℕ) → Leads p here walk there → EdgesLead (map forward_edge p.arcs) here walk there
leads-forward p here there [] leads = leads
leads-forward p here there (a ∷ walk) leads =
    let edge : edge_at (map forward_edge p.arcs) a ≡ forward_edge (arc_at p a) = forward-at p a leads.0 in
    let P : Edge → Type 0 = λ x. (x.from ≡ here) × EdgesLead (map forward_edge p.arcs) x.to walk there in
    let there_on : P (edge_at (map forward_edge p.arcs) a) = subst P (sym edge) (leads.1, leads-forward p (arc_at p a).to there walk leads.2) in
    (omega (arith, leads.0, length-map p.arcs forward_edge), there_on.0, there_on.1)

-- the arcs of a walk along arcs turned round exist
backward-exist : (p : Problem) (there here : ℕ) (walk : List ℕ) → EdgesLead (map backward_edge p.arcs) there walk here → AllByRecursion (λ a. a < length p.arcs) walk
backward-exist p there here [] leads = tt
backward-exist p there here (a ∷ walk) leads = (
  omega (arith, leads.0, length-map p.arcs backward_edge),
  backward-exist p (edge_at (map backward_edge p.arcs) a).to here walk leads.2,
)

-- a walk along arcs turned round, seen the other way round
backward-leads : (p : Problem) (there here : ℕ) (walk : List ℕ) → EdgesLead (map backward_edge p.arcs) there walk here → Leads p here (reverse walk) there
backward-leads p there here [] leads = sym leads
backward-leads p there here (a ∷ walk) leads =
    let lt : a < length p.arcs = omega (arith, leads.0, length-map p.arcs backward_edge) in
    let edge : edge_at (map backward_edge p.arcs) a ≡ backward_edge (arc_at p a) = backward-at p a lt in
    let P : Edge → Type 0 = λ x. (x.from ≡ there) × EdgesLead (map backward_edge p.arcs) x.to walk here in
    let there_on : P (backward_edge (arc_at p a)) = subst P edge (leads.1, leads.2) in
    let before : Leads p here (reverse walk) (arc_at p a).from = backward-leads p (arc_at p a).from here walk there_on.1 in
    rw reverse-cons (Leads-append p here (arc_at p a).from there (reverse walk) (a ∷ []) before (lt, refl, there_on.0))

-- a walk that goes on with another
pub edges-append : (edges : List Edge) (here mid there : ℕ) (xs ys : List ℕ) → EdgesLead edges here xs mid → EdgesLead edges mid ys there → EdgesLead edges here (xs ++ ys) there
edges-append edges here mid there [] ys first later = subst (λ (n : ℕ). EdgesLead edges n ys there) (sym first) later
edges-append edges here mid there (e ∷ xs) ys first later = (first.0, first.1, edges-append edges (edge_at edges e).to mid there xs ys first.2 later)

leads-backward : (p : Problem) (here there : ℕ) (walk : List ℕ) → Leads p here walk there → EdgesLead (map backward_edge p.arcs) there (reverse walk) here
leads-backward p here there [] leads = sym leads
leads-backward p here there (a ∷ walk) leads =
    let edge : edge_at (map backward_edge p.arcs) a ≡ backward_edge (arc_at p a) = backward-at p a leads.0 in
    let edges : List Edge = map backward_edge p.arcs in
    let before : EdgesLead edges there (reverse walk) (arc_at p a).to = leads-backward p (arc_at p a).to there walk leads.2 in
    let P : Edge → Type 0 = λ x. (x.from ≡ (arc_at p a).to) × (x.to ≡ here) in
    let last : P (edge_at edges a) = subst P (sym edge) (refl, leads.1) in
    rw reverse-cons (edges-append edges there (arc_at p a).to here (reverse walk) (a ∷ []) before (omega (arith, leads.0, length-map p.arcs backward_edge), last.0, last.1))

steps-reverse : (p : Problem) (walk : List ℕ) → steps p (reverse walk) ≡ steps p walk
steps-reverse p [] = refl
steps-reverse p (a ∷ walk) = rw reverse-cons (omega (arith, steps-append p (reverse walk) (a ∷ []), steps-reverse p walk))

-- the least steps of a walk from here to there, or that there is no walk
abbrev pub IsStepDistance : Problem → ℕ → ℕ → Option ℕ → Type 0
IsStepDistance p here there o =
    MatchOption o ((arcs : List ℕ) → Leads p here arcs there → ⊥) (λ n. (arcs : List ℕ) × IsLeastWalk p here there arcs × (steps p arcs ≡ n))

-- the least cost in the graph of the arcs is the least steps
pub forward-distance : (p : Problem) (here there : ℕ) (o : Option ℕ) → IsCostDistance (forward_shape p).edges (step_costs p) here there o → IsStepDistance p here there o
forward-distance p here there None none =
    λ arcs leads. none arcs (leads-forward p here there arcs leads) (open-steps p arcs (Leads-exist p here arcs there leads))
forward-distance p here there (Some n) is =
    let walk : List ℕ = is.attained.0 in
    let along : Leads p here walk there = forward-leads p here there walk is.attained.1.leads in
    let same : steps p walk ≡ n = sym (cost-steps p walk (Leads-exist p here walk there along)) ∙ is.attained.1.costs_so in (
      walk,
      record {
        leads = along;
        least = λ others leads.
            let exist : AllByRecursion (λ a. a < length p.arcs) others = Leads-exist p here others there leads in
            omega (arith, same, is.least others (leads-forward p here there others leads) (open-steps p others exist), cost-steps p others exist);
      },
      same,
    )

-- so it is in the graph of the arcs turned round, from there to here
pub backward-distance : (p : Problem) (here there : ℕ) (o : Option ℕ) → IsCostDistance (backward_shape p).edges (step_costs p) there here o → IsStepDistance p here there o
backward-distance p here there None none =
    λ arcs leads.
    let round : EdgesLead (map backward_edge p.arcs) there (reverse arcs) here = leads-backward p here there arcs leads in
    none (reverse arcs) round (open-steps p (reverse arcs) (backward-exist p there here (reverse arcs) round))
backward-distance p here there (Some n) is =
    let walk : List ℕ = is.attained.0 in
    let cost : walk_cost (step_costs p) walk ≡ steps p walk = cost-steps p walk (backward-exist p there here walk is.attained.1.leads) in
    let same : steps p (reverse walk) ≡ n = steps-reverse p walk ∙ sym cost ∙ is.attained.1.costs_so in (
      reverse walk,
      record {
        leads = backward-leads p there here walk is.attained.1.leads;
        least = λ others leads.
            let round : EdgesLead (map backward_edge p.arcs) there (reverse others) here = leads-backward p here there others leads in
            let exist : AllByRecursion (λ a. a < length p.arcs) (reverse others) = backward-exist p there here (reverse others) round in
            omega (arith, same, is.least (reverse others) round (open-steps p (reverse others) exist), cost-steps p (reverse others) exist, steps-reverse p others);
      },
      same,
    )

-- what a label tells fits
pub step_distance-bounds : (p : Problem) (here there : ℕ) (o : Option ℕ) → IsValid p → here ≢ there → IsStepDistance p here there o →
    IfSome o (λ n. (hold_at p there ≤ n) × (n ≤ LONGEST_LEAST_TIME))
step_distance-bounds p here there None valid away is = tt
step_distance-bounds p here there (Some n) valid away is =
    (omega (arith, is.2, time-steps p here there is.0 away is.1.leads), omega (arith, is.2, steps-small p here there is.0 valid is.1))

-- between two terminals the least time is the least steps without the last hold
pub step_distance-time : (p : Problem) (here there : ℕ) (o : Option ℕ) → IsValid p → here ≢ there → IsStepDistance p here there o →
    IsDistance p here there (option_map (λ n. n - hold_at p there) o)
step_distance-time p here there None valid away is = is
step_distance-time p here there (Some n) valid away is =
    let least : IsLeastTime p here there (walk_time p is.0) = IsLeastTime-from_walk p here there is.0 valid is.1 in
    let same : walk_time p is.0 ≡ n - hold_at p there = omega (arith, is.2, time-steps p here there is.0 away is.1.leads) in
    subst (λ (t : ℕ). IsLeastTime p here there t) same least
