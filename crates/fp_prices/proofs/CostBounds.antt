-- Costs of all edges are bounded where those of the allowed classes are.
use Rattle.std.proofs.Common.{◌≡◌, ℕ, ◌+◌, ◌*◌, ◌<◌, ◌≤◌, Bool, true, false, List, ⊎_elim, sym, ap, ◌∙◌, subst, arith}
use Rattle.std.specs.Prelude.{All, Option, Some, None, IfSome, if◌then◌else◌}
use Rattle.std.proofs.Math.Nat.{mul-le-mul_left}
use Rattle.std.proofs.lemmas.Bool.{cases_Bool, cases_lt, cond-true, cond-false}
use Rattle.std.proofs.lemmas.List.{get_or_default}
use Rattle.fp_labels.specs.Labels.{IsSmallFor, greatest_cost}
use Rattle.fp_labels.specs.Walks.{cost_of}
use Rattle.fp_model.specs.declared.parts.Leg.{Leg}
use Rattle.fp_model.specs.Problem.{Problem, arc_at}
use Rattle.fp_longestarcs.specs.Networks.{TimedNetwork, IsClass, class_count, class_number}
use Rattle.fp_prices.specs.PointGraphs.{IsPointGraph}
use Rattle.fp_prices.specs.declared.graphs.point_graphs.PointGraph.{PointGraph}
use Rattle.fp_prices.proofs.GraphWalks.{AreCosts}
use Rattle.fp_prices.proofs.PointEdges.{class-numbered, length-edges}

-- the edges of the classes are among all edges
pub classes-fit : (p : Problem) (net : TimedNetwork) (g : PointGraph) → IsPointGraph p net g → class_count net ≤ g.edges
classes-fit p net g is = omega (arith, is.count, length-edges p net)

-- where no allowed class costs more than so much, no edge does
pub all-at-most : (p : Problem) (net : TimedNetwork) (allowed : Leg → Bool) (price : Leg → ℕ) (size : ℕ) (costs : List (Option ℕ)) (most : ℕ) → AreCosts p net allowed price size costs →
    ((c : Leg) → allowed c ≡ true → price c + p.scale * (arc_at p c.arc).freight * size ≤ most) → All (λ o. IfSome o (λ (n : ℕ). n ≤ most)) costs
all-at-most p net allowed price size costs most are bounded k d h =
    subst AtMost (get_or_default costs k None d h)
    (⊎_elim
    (λ (early : k < class_count net). class (class-numbered net k are.whole.valid early))
    (λ (late : class_count net ≤ k). subst AtMost (sym (are.free k late h)) (omega arith))
    (cases_lt k (class_count net)))
  where
    AtMost : Option ℕ → Type 0
    AtMost o = IfSome o (λ (n : ℕ). n ≤ most)

    class : ((c : Leg) × IsClass net c × (class_number net c ≡ k)) → AtMost (cost_of costs k)
    class (c, is, number) =
        let cost : Option ℕ = Some (price c + p.scale * (arc_at p c.arc).freight * size) in
        let held : cost_of costs k ≡ (if allowed c then cost else None) = ap (cost_of costs) (sym number) ∙ are.holds c is in
        ⊎_elim
        (λ (yes : allowed c ≡ true). subst AtMost (sym (held ∙ cond-true (allowed c) cost None yes)) (bounded c yes))
        (λ (no : allowed c ≡ false). subst AtMost (sym (held ∙ cond-false (allowed c) cost None no)) tt)
        (cases_Bool (allowed c))

-- costs of at most so much leave room for a walk over all nodes where that much does
pub all-small : (costs : List (Option ℕ)) (nodes most : ℕ) → All (λ o. IfSome o (λ (n : ℕ). n ≤ most)) costs → nodes * most ≤ greatest_cost → All (IsSmallFor nodes) costs
all-small costs nodes most all room k d h = small _ (all k d h)
  where
    small : (o : Option ℕ) → IfSome o (λ (n : ℕ). n ≤ most) → IsSmallFor nodes o
    small None le = tt
    small (Some n) le = let scaled : nodes * n ≤ nodes * most = mul-le-mul_left nodes le in omega (arith, scaled, room)
