-- Labels along arcs as least times.
use Rattle.std.proofs.Common.{◌≡◌, ◌≢◌, ℕ, ◌+◌, ◌-◌, ◌*◌, ◌<◌, ◌≤◌, Some, None, Option, List, length, map, take, ◌++◌, ◌∷◌, [], sym, ap, ◌∙◌, subst, arith}
use Rattle.std.specs.Prelude.{All, IfSome, slice_index_or}
use Rattle.std.specs.Option.{option_map}
use Rattle.std.proofs.Math.Nat.{mul-le-mul}
use Rattle.std.proofs.lemmas.List.{get_or-map, length-map, take_more}
use Rattle.fp_labels.specs.Graphs.{HasEnds}
use Rattle.fp_labels.specs.Labels.{IsSmallFor}
use Rattle.fp_model.specs.declared.limits.TheConstants.{LONGEST_STEP, MOST_TERMINALS}
use Rattle.fp_flatnet.specs.declared.least_times.TheConstants.{LONGEST_LEAST_TIME}
use Rattle.fp_model.specs.declared.parts.Arc.{Arc}
use Rattle.fp_model.specs.Problem.{Problem, IsValid, no_arc, arc_at, hold_at}
use Rattle.fp_model.specs.Routes.{step}
use Rattle.fp_model.specs.Times.{IsDistance}
use Rattle.fp_flatnet.specs.ArcGraphs.{backward_edge, forward_edge, arc_step, step_costs}
use Rattle.fp_flatnet.proofs.ArcWalks.{IsStepDistance, cost-at, step_distance-bounds, step_distance-time}
use Rattle.fp_model.proofs.Validity.{hold_at-le, IsArc-valid}

-- a label is at least the last hold, and small
pub label-fits : (p : Problem) (here there hold : ℕ) (o q : Option ℕ) → IsValid p → here ≢ there → IsStepDistance p here there q → o ≡ q → hold ≡ hold_at p there →
    IfSome o (λ n. (hold ≤ n) × (n ≤ LONGEST_LEAST_TIME))
label-fits p here there hold o q valid away is same held =
    subst (λ (h : ℕ). IfSome o (λ n. (h ≤ n) × (n ≤ LONGEST_LEAST_TIME))) (sym held)
    (subst (λ (x : Option ℕ). IfSome x (λ n. (hold_at p there ≤ n) × (n ≤ LONGEST_LEAST_TIME))) (sym same) (step_distance-bounds p here there q valid away is))

-- a label without the last hold is a least time
pub label-time : (p : Problem) (here there hold : ℕ) (o q t : Option ℕ) → IsValid p → here ≢ there → IsStepDistance p here there q → o ≡ q → hold ≡ hold_at p there →
    t ≡ option_map (λ n. n - hold) o → IsDistance p here there t
label-time p here there hold o q t valid away is same held less =
    let told : t ≡ option_map (λ n. n - hold_at p there) q = less ∙ ap (λ (h : ℕ). option_map (λ n. n - h) o) held ∙ ap (λ (x : Option ℕ). option_map (λ n. n - hold_at p there) x) same in
    subst (λ (x : Option ℕ). IsDistance p here there x) (sym told) (step_distance-time p here there q valid away is)

-- steps leave room for a walk over all terminals
pub costs-small : (p : Problem) (nodes : ℕ) → IsValid p → nodes ≡ length p.terminals → All (IsSmallFor nodes) (step_costs p)
costs-small p nodes valid same =
    λ k d lt.
    let there : k < length p.arcs = omega (arith, lt, length-map p.arcs (λ (x : Arc). Some (arc_step p x))) in
    let small : step p k ≤ LONGEST_STEP = omega (arith, (IsArc-valid p k valid there).within.time.1, hold_at-le p (arc_at p k).to valid) in
    let few : nodes ≤ MOST_TERMINALS = omega (arith, same, valid.parts.few_terminals) in
    let product : nodes * step p k ≤ MOST_TERMINALS * LONGEST_STEP = mul-le-mul few small in
    let P : Option ℕ → Type 0 = λ o. IsSmallFor nodes o in
    subst P (sym (get_or-map (λ (x : Arc). Some (arc_step p x)) p.arcs k no_arc d there)) (omega (arith, product))

-- the costs of so many arcs, and of one more
pub costs-more : (p : Problem) (n cost : ℕ) (costs more : List (Option ℕ)) → n < length p.arcs → costs ≡ take n (step_costs p) → cost ≡ step p n →
    more ≡ costs ++ (Some cost ∷ []) → more ≡ take (n + 1) (step_costs p)
costs-more p n cost costs more lt so_far same pushed =
    let long : n < length (step_costs p) = omega (arith, lt, length-map p.arcs (λ (x : Arc). Some (arc_step p x))) in
    let next : take (n + 1) (step_costs p) ≡ take n (step_costs p) ++ (slice_index_or (step_costs p) n None ∷ []) = take_more (step_costs p) n None long in
    pushed
    ∙ ap (λ (xs : List (Option ℕ)). xs ++ (Some cost ∷ [])) so_far
    ∙ ap (λ (c : ℕ). take n (step_costs p) ++ (Some c ∷ [])) same
    ∙ ap (λ (o : Option ℕ). take n (step_costs p) ++ (o ∷ [])) (sym (cost-at p n lt))
    ∙ sym next

-- the ends of the arcs' edges are terminals
pub forward-ends : (p : Problem) → IsValid p → HasEnds (length p.terminals) (map forward_edge p.arcs)
forward-ends p valid =
    λ k d lt.
    let there : k < length p.arcs = omega (arith, lt, length-map p.arcs forward_edge) in
    let arc = IsArc-valid p k valid there in
    rw (get_or-map forward_edge p.arcs k no_arc d there) (arc.from, arc.to)

pub backward-ends : (p : Problem) → IsValid p → HasEnds (length p.terminals) (map backward_edge p.arcs)
backward-ends p valid =
    λ k d lt.
    let there : k < length p.arcs = omega (arith, lt, length-map p.arcs backward_edge) in
    let arc = IsArc-valid p k valid there in
    rw (get_or-map backward_edge p.arcs k no_arc d there) (arc.to, arc.from)
