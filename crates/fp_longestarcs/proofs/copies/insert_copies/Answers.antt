-- Each arc that leaves the terminal gets its copy, and the others stay.
use Rattle.std.proofs.Common.{◌≡◌, ℕ, ◌+◌, ◌<◌, ◌≢◌, List, length, get_or, sym, ap, ◌∙◌, subst, arith}
use Rattle.std.specs.Prelude.{nat_eq}
use Rattle.std.specs.List.{insert}
use Rattle.std.specs.declared.alloc.Global.{Global}
use Rattle.std.specs.declared.vec.Vec.{Vec}
use Rattle.std.proofs.lemmas.Bool.{eq-eqb, ne_eqb, cond-true, cond-false}
use Rattle.std.proofs.lemmas.List.{length-map}
use Rattle.fp_model.specs.declared.parts.Arc.{Arc}
use Rattle.fp_model.specs.Problem.{Problem, arc_at}
use Rattle.fp_model.specs.Routes.{step}
use Rattle.fp_timenodes.specs.Floor.{floor_point}
use Rattle.fp_base_lists.specs.Ascending.{place_in}
use Rattle.fp_longestarcs.specs.Classes.{head_of}
use Rattle.fp_longestarcs.specs.Networks.{TimedNetwork, points_in, tail_in, heads_in}
use Rattle.fp_longestarcs.specs.Vectors.{network_of}
use Rattle.fp_longestarcs.specs.Changes.{heads_with}
use Rattle.fp_longestarcs.proofs.VectorLists.{AreWritten, written-more, written-kept, written-all, list-kept}
use Rattle.fp_longestarcs.proofs.copies.insert_copies.Goals as goal
use Rattle.fp_longestarcs.proofs.copies.insert_copies.Goals.{then-tail-new, else-tail-new}

-- the heads of an arc that leaves the terminal, with the new copy
with-copy : (p : Problem) (net : TimedNetwork) (terminal at arc step_length head place : ℕ) (taken : Arc) (ends list : List ℕ) → tail_in net arc ≡ terminal → taken ≡ arc_at p arc → step_length ≡ step p arc →
    ends ≡ points_in net taken.to → head ≡ floor_point ends 1 (at + step_length) → list ≡ heads_in net arc → place ≡ place_in (points_in net terminal) at → insert list place head ≡ heads_with p net terminal at arc
with-copy p net terminal at arc step_length head place taken ends list leaves is long last made old stands =
    let greatest : head ≡ head_of p (points_in net) (record { arc = arc; depart = at }) =
    made ∙ ap (λ (l : List ℕ). floor_point l 1 (at + step_length)) (last ∙ ap (λ (a : Arc). points_in net a.to) is) ∙ ap (λ (n : ℕ). floor_point (points_in net (arc_at p arc).to) 1 (at + n)) long in
    ap (λ (l : List ℕ). insert l place head) old ∙
    ap (λ (k : ℕ). insert (heads_in net arc) k head) stands ∙
    ap (λ (n : ℕ). insert (heads_in net arc) (place_in (points_in net terminal) at) n) greatest ∙
    sym (cond-true (nat_eq (tail_in net arc) terminal) (insert (heads_in net arc) (place_in (points_in net terminal) at) (head_of p (points_in net) (record { arc = arc; depart = at }))) (heads_in net arc) (eq-eqb (tail_in net arc) terminal leaves))

-- and those of another arc
without-copy : (p : Problem) (net : TimedNetwork) (terminal at arc : ℕ) → tail_in net arc ≢ terminal → heads_in net arc ≡ heads_with p net terminal at arc
without-copy p net terminal at arc stays =
    sym (cond-false (nat_eq (tail_in net arc) terminal) (insert (heads_in net arc) (place_in (points_in net terminal) at) (head_of p (points_in net) (record { arc = arc; depart = at }))) (heads_in net arc) (ne_eqb (tail_in net arc) terminal stays))

pub returns : goal.returns
returns c =
    let net : TimedNetwork = network_of c.args.tails.now c.args.points.now c.args.heads.now in
    let f : ℕ → List ℕ = heads_with c.args.instance.now net c.args.new.terminal c.args.new.at in
    let all : c.loop-arc.arc ≡ length c.args.tails.now = omega arith in
    let count : length c.args.heads.now ≡ length c.args.tails.now = sym (length-map c.args.heads.now (λ (v : Vec ℕ Global). v.items)) ∙ c.requires.valid.arcs in
    written-all f c.args.heads.now c.loop-arc.heads (length c.args.tails.now) (subst (λ (n : ℕ). AreWritten f c.args.heads.now c.loop-arc.heads n) all c.loop-arc.invariant) (c.loop-arc.auto.heads ∙ count)

pub loop-arc-preserved : goal.loop-arc-preserved
loop-arc-preserved c =
    let p : Problem = c.args.instance.now in
    let net : TimedNetwork = network_of c.args.tails.now c.args.points.now c.args.heads.now in
    let arc : ℕ = c.loop-arc.arc in
    let f : ℕ → List ℕ = heads_with p net c.args.new.terminal c.args.new.at in
    let count : length c.args.heads.now ≡ length c.args.tails.now = sym (length-map c.args.heads.now (λ (v : Vec ℕ Global). v.items)) ∙ c.requires.valid.arcs in
    let within : arc < length c.args.heads.now = omega (arith, count) in
    elim c.if-tail-new.branch [
      | then-tail-new w ↦
          let old = list-kept f c.args.heads.now c.loop-arc.heads arc w.index-heads-arc.result c.loop-arc.invariant within in
          let place = c.place_among-place.ensures.place ∙ ap (λ (l : List ℕ). place_in l c.args.new.at) c.list_at.ensures in
          rw w.heads-is
          (written-more f c.args.heads.now c.loop-arc.heads arc w.put.new.list c.loop-arc.invariant (omega (arith, within, c.loop-arc.auto.heads))
          (w.put.ensures ∙
          with-copy p net c.args.new.terminal c.args.new.at arc w.step.result w.floor_among-head.result c.place_among-place.result w.arc.result w.list_at-ends.result.now (get_or c.loop-arc.heads arc w.index-heads-arc.result).items
          w.if-tail-new.true w.arc.ensures.same w.step.ensures.same w.list_at-ends.ensures w.floor_among-head.ensures old place))
      | else-tail-new w ↦
          rw w.heads-is (written-kept f c.args.heads.now c.loop-arc.heads arc c.loop-arc.invariant within (without-copy p net c.args.new.terminal c.args.new.at arc w.if-tail-new.false))
    ]
