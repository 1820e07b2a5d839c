-- A network that is made of its points is whole.
use Rattle.std.proofs.Common.{◌≡◌, ℕ, ◌<◌, List, [], length, get_or, sym, ap, ◌∙◌, subst, arith}
use Rattle.std.specs.Prelude.{All}
use Rattle.std.proofs.lemmas.List.{get_or-map, length-map}
use Rattle.std.proofs.lemmas.List.FromFn.{get_or-map-range_with_len, length-map-range_with_len}
use Rattle.fp_model.specs.declared.parts.Arc.{Arc}
use Rattle.fp_model.specs.Problem.{Problem, arc_at, no_arc, IsArc, IsValid}
use Rattle.fp_longestarcs.specs.Ascending.{ArePoints}
use Rattle.fp_longestarcs.specs.Classes.{head_of}
use Rattle.fp_longestarcs.specs.Networks.{TimedNetwork, points_in}
use Rattle.fp_longestarcs.specs.Whole.{HasArcsOf, heads_from, heads_of, IsWholeNetwork, arc_tails}
use Rattle.fp_longestarcs.proofs.HeadLists.{arc-count, tail-of}

-- the tails of arcs are terminals
pub tails-within : (p : Problem) → IsValid p → All (λ t. t < length p.terminals) (arc_tails p.arcs)
tails-within p valid k d h =
    let exists : k < length p.arcs = omega (arith, length-map p.arcs (λ (a : Arc). a.from)) in
    let is : IsArc (length p.terminals) (arc_at p k) = valid.parts.arcs k no_arc exists in
    omega (arith, get_or-map (λ (a : Arc). a.from) p.arcs k no_arc d exists, is.from)

-- a network with the greatest heads is whole
pub IsWholeNetwork-parts : (p : Problem) (net : TimedNetwork) → IsValid p → HasArcsOf p net → All ArePoints net.points → net.heads ≡ heads_of p (points_in net) → IsWholeNetwork p net
IsWholeNetwork-parts p net valid has are heads = record {
  valid = record {
    points = are;
    few = omega (arith, arc-count p net has, valid.parts.few_arcs);
    tails = λ k d h. subst (λ (l : List ℕ). get_or l k d < length net.points) (sym has.tails)
        (omega (arith, tails-within p valid k d (omega (arith, ap (λ (l : List ℕ). length l) has.tails)), has.terminals));
    arcs = ap (λ (l : List (List ℕ)). length l) heads ∙ length-map-range_with_len (heads_from p (points_in net)) 0 (length p.arcs) ∙ sym (arc-count p net has);
    copies = λ arc h.
        let exists : arc < length p.arcs = omega (arith, arc-count p net has) in
        ap (λ (l : List (List ℕ)). length (get_or l arc [])) heads ∙
        ap (λ (l : List ℕ). length l) (get_or-map-range_with_len (heads_from p (points_in net)) 0 (length p.arcs) arc arc [] exists (omega arith)) ∙
        length-map (points_in net (arc_at p arc).from) (λ q. head_of p (points_in net) (record { arc = arc; depart = q })) ∙
        ap (λ (t : ℕ). length (points_in net t)) (sym (tail-of p net arc has exists));
  };
  arcs = has;
  heads = heads;
}
