-- A walk in the graph of a network's points has the tags of arcs where its classes go by them, so the least cost of a walk with these tags
-- is that of the allowed walks that go by the arcs.
use Rattle.std.proofs.Common.{◌≡◌, ℕ, ◌<◌, ◌≤◌, Bool, List, [], ◌∷◌, length, ⊎_elim, inl, inr, sym, ap, ◌∙◌, subst, arith}
use Rattle.std.specs.Prelude.{Option, None, Some, nat_lt, unwrap_or}
use Rattle.std.proofs.lemmas.Bool.{cases_lt, cond-false, cond-true, le-ltb, lt-ltb}
use Rattle.std.proofs.lemmas.List.{get_or_past}
use Rattle.fp_base_lists.specs.Elements.{AnyByRecursion}
use Rattle.fp_base_lists.proofs.Elements.{AllByRecursion-weaker}
use Rattle.fp_labels.specs.TaggedWalks.{HasTag, HasTags, IsTaggedDistance, tag_of}
use Rattle.fp_model.specs.declared.parts.Leg.{Leg}
use Rattle.fp_model.specs.declared.parts.Shipment.{Shipment}
use Rattle.fp_model.specs.Problem.{Problem}
use Rattle.fp_longestarcs.specs.Networks.{TimedNetwork, class_count}
use Rattle.fp_allowed.specs.Listing.{class_at}
use Rattle.fp_prices.specs.LeastWalks.{classes_on}
use Rattle.fp_prices.specs.Points.{AreHeads, edges_by, first_node, last_node}
use Rattle.fp_prices.proofs.GraphWalks.{AreCosts}
use Rattle.fp_prices.proofs.LeastOver.{shipment-goes, shipment-timed}
use Rattle.fp_prices_spans.specs.TaggedEdges.{AreArcTags}
use Rattle.fp_prices_spans.specs.Ways.{GoesBy, IsLeastVia}

module _ (net : TimedNetwork) (edges : ℕ) (tags : List (Option ℕ)) (are : AreArcTags net edges tags) (many : class_count net ≤ edges) where
  -- an edge of a class has its arc as its tag
  of-class : (e : ℕ) → e < class_count net → tag_of tags e ≡ Some (class_at net e).arc
  of-class e class = are.each e (omega (arith, class, many)) ∙ cond-true (nat_lt e (class_count net)) (Some (class_at net e).arc) None (lt-ltb e (class_count net) class)

  -- and no other edge has one
  of-none : (e : ℕ) → class_count net ≤ e → tag_of tags e ≡ None
  of-none e past =
      ⊎_elim
      (λ (inside : e < edges). are.each e inside ∙ cond-false (nat_lt e (class_count net)) (Some (class_at net e).arc) None (le-ltb e (class_count net) past))
      (λ (outside : edges ≤ e). get_or_past tags e None (omega (arith, outside, are.count)))
      (cases_lt e edges)

  -- a class of the walk goes by the arc, if some edge has its tag
  class-tagged : (arc : ℕ) (walk : List ℕ) → AnyByRecursion (HasTag tags arc) walk → AnyByRecursion (λ (c : Leg). c.arc ≡ arc) (classes_on net walk)
  class-tagged arc [] any = absurd any
  class-tagged arc (e ∷ walk) any =
      ⊎_elim
      (λ (class : e < class_count net).
      subst (AnyByRecursion (λ (c : Leg). c.arc ≡ arc)) (sym (cond-true (nat_lt e (class_count net)) (class_at net e ∷ classes_on net walk) (classes_on net walk) (lt-ltb e (class_count net) class)))
      (⊎_elim
      (λ (here : HasTag tags arc e). inl (ap (λ (o : Option ℕ). unwrap_or o 0) (sym (of-class e class) ∙ here)))
      (λ (later : AnyByRecursion (HasTag tags arc) walk). inr (class-tagged arc walk later))
      any))
      (λ (past : class_count net ≤ e).
      subst (AnyByRecursion (λ (c : Leg). c.arc ≡ arc)) (sym (cond-false (nat_lt e (class_count net)) (class_at net e ∷ classes_on net walk) (classes_on net walk) (le-ltb e (class_count net) past)))
      (⊎_elim
      (λ (here : HasTag tags arc e). absurd (nothing (sym (of-none e past) ∙ here)))
      (λ (later : AnyByRecursion (HasTag tags arc) walk). class-tagged arc walk later)
      any))
      (cases_lt e (class_count net))
    where
      nothing : None ≡ Some arc → ⊥
      nothing is = subst (λ (o : Option ℕ). elim o as (λ p. Type 0) [ None ↦ Unit {0} | Some a ↦ ⊥ ]) is tt

  -- and some edge has its tag, if a class of the walk goes by it
  tag-classed : (arc : ℕ) (walk : List ℕ) → AnyByRecursion (λ (c : Leg). c.arc ≡ arc) (classes_on net walk) → AnyByRecursion (HasTag tags arc) walk
  tag-classed arc [] any = absurd any
  tag-classed arc (e ∷ walk) any =
      ⊎_elim
      (λ (class : e < class_count net).
      ⊎_elim
      (λ (here : (class_at net e).arc ≡ arc). inl (of-class e class ∙ ap (λ (a : ℕ). Some a) here))
      (λ (later : AnyByRecursion (λ (c : Leg). c.arc ≡ arc) (classes_on net walk)). inr (tag-classed arc walk later))
      (subst (AnyByRecursion (λ (c : Leg). c.arc ≡ arc)) (cond-true (nat_lt e (class_count net)) (class_at net e ∷ classes_on net walk) (classes_on net walk) (lt-ltb e (class_count net) class)) any))
      (λ (past : class_count net ≤ e).
      inr
      (tag-classed arc walk
      (subst (AnyByRecursion (λ (c : Leg). c.arc ≡ arc)) (cond-false (nat_lt e (class_count net)) (class_at net e ∷ classes_on net walk) (classes_on net walk) (le-ltb e (class_count net) past)) any)))
      (cases_lt e (class_count net))

  -- so a walk has the tags of arcs where its classes go by them
  pub goes-tagged : (ways : List ℕ) (walk : List ℕ) → HasTags tags ways walk → GoesBy ways (classes_on net walk)
  goes-tagged ways walk has =
      AllByRecursion-weaker (λ arc. AnyByRecursion (HasTag tags arc) walk) (λ arc. AnyByRecursion (λ (c : Leg). c.arc ≡ arc) (classes_on net walk)) (λ arc any. class-tagged arc walk any) ways has

  pub tags-gone_by : (ways : List ℕ) (walk : List ℕ) → GoesBy ways (classes_on net walk) → HasTags tags ways walk
  tags-gone_by ways walk goes =
      AllByRecursion-weaker (λ arc. AnyByRecursion (λ (c : Leg). c.arc ≡ arc) (classes_on net walk)) (λ arc. AnyByRecursion (HasTag tags arc) walk) (λ arc any. tag-classed arc walk any) ways goes

-- the distance with the tags of arcs in the graph by heads is the least cost of the walks that go by these arcs
pub least-tagged : (p : Problem) (net : TimedNetwork) (heads : Leg → ℕ) (allowed : Leg → Bool) (price : Leg → ℕ) (costs : List (Option ℕ)) (s : Shipment) (edges : ℕ) (tags : List (Option ℕ)) (ways : List ℕ) →
    AreCosts p net allowed price s.size costs → AreHeads p net heads → s.from < length net.points → s.to < length net.points → AreArcTags net edges tags → class_count net ≤ edges → (o : Option ℕ) →
    IsTaggedDistance (edges_by p net heads) costs tags ways (first_node net s.from) (last_node net s.to) o → IsLeastVia p heads ways allowed s price o
least-tagged p net heads allowed price costs s edges tags ways are are_heads from to tagged many None none = λ walk is.
    let goes = shipment-goes p net heads allowed price costs s are are_heads from walk is.by_heads in
    none goes.0 goes.1.leads goes.1.open_edges (tags-gone_by net edges tags tagged many ways goes.0 (subst (GoesBy ways) (sym goes.2) is.goes_by))
least-tagged p net heads allowed price costs s edges tags ways are are_heads from to tagged many (Some n) least =
    let timed = shipment-timed p net heads allowed price costs s are are_heads from to least.walk n least.goes in
    record {
      walk = classes_on net least.walk;
      is = record {
        by_heads = record { leads = timed.leads; allowed_all = timed.allowed_all; follows = timed.follows };
        goes_by = goes-tagged net edges tags tagged many ways least.walk least.tagged;
      };
      cost = timed.costs_so;
      least = λ other is.
          let goes = shipment-goes p net heads allowed price costs s are are_heads from other is.by_heads in
          subst (λ (m : ℕ). n ≤ m) goes.1.costs_so
          (least.least goes.0 goes.1.leads goes.1.open_edges (tags-gone_by net edges tags tagged many ways goes.0 (subst (GoesBy ways) (sym goes.2) is.goes_by)));
    }
