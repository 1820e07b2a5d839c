-- The heads of each arc that enters the terminal are lifted, and the others stay.
use Rattle.std.proofs.Common.{◌≡◌, ℕ, ◌<◌, ◌≢◌, List, length, get_or, sym, ap, ◌∙◌, subst, arith}
use Rattle.std.specs.Prelude.{nat_eq}
use Rattle.std.specs.Vec.{with_items}
use Rattle.std.specs.declared.alloc.Global.{Global}
use Rattle.std.specs.declared.vec.Vec.{Vec}
use Rattle.std.proofs.lemmas.Bool.{eq-eqb, ne_eqb, cond-true, cond-false}
use Rattle.std.proofs.lemmas.List.{length-map, with_items_is}
use Rattle.fp_model.specs.declared.parts.Arc.{Arc}
use Rattle.fp_model.specs.Problem.{Problem, arc_at}
use Rattle.fp_model.specs.Routes.{step}
use Rattle.fp_longestarcs.specs.Networks.{TimedNetwork, points_in, tail_in, heads_in}
use Rattle.fp_longestarcs.specs.Vectors.{network_of}
use Rattle.fp_longestarcs.specs.Changes.{heads_to, lifted}
use Rattle.fp_longestarcs.proofs.VectorLists.{AreWritten, written-more, written-kept, written-all, list-kept}
use Rattle.fp_longestarcs.proofs.copies.lift_copies.Goals as goal
use Rattle.fp_longestarcs.proofs.copies.lift_copies.Goals.{then-arc-point, else-arc-point}

-- the heads of an arc that enters the terminal, lifted
lifted-in : (p : Problem) (net : TimedNetwork) (terminal at arc step_length : ℕ) (taken : Arc) (starts old : List ℕ) → taken.to ≡ terminal → taken ≡ arc_at p arc → step_length ≡ step p arc →
    starts ≡ points_in net (tail_in net arc) → old ≡ heads_in net arc → lifted step_length at starts old ≡ heads_to p net terminal at arc
lifted-in p net terminal at arc step_length taken starts old enters is long first heads =
    ap (λ (n : ℕ). lifted n at starts old) long ∙
    ap (λ (l : List ℕ). lifted (step p arc) at l old) first ∙
    ap (λ (l : List ℕ). lifted (step p arc) at (points_in net (tail_in net arc)) l) heads ∙
    sym (cond-true (nat_eq (arc_at p arc).to terminal) (lifted (step p arc) at (points_in net (tail_in net arc)) (heads_in net arc)) (heads_in net arc) (eq-eqb (arc_at p arc).to terminal (ap (λ (a : Arc). a.to) (sym is) ∙ enters)))

-- and those of another arc
not-lifted : (p : Problem) (net : TimedNetwork) (terminal at arc : ℕ) (taken : Arc) → taken.to ≢ terminal → taken ≡ arc_at p arc → heads_in net arc ≡ heads_to p net terminal at arc
not-lifted p net terminal at arc taken passes is =
    sym (cond-false (nat_eq (arc_at p arc).to terminal) (lifted (step p arc) at (points_in net (tail_in net arc)) (heads_in net arc)) (heads_in net arc) (ne_eqb (arc_at p arc).to terminal (λ e. passes (ap (λ (a : Arc). a.to) is ∙ e))))

pub returns : goal.returns
returns c =
    let net : TimedNetwork = network_of c.args.tails.now c.args.points.now c.args.heads.now in
    let f : ℕ → List ℕ = heads_to c.args.instance.now net c.args.point.terminal c.args.point.at in
    let all : c.loop-arc.arc ≡ length c.args.tails.now = omega arith in
    let count : length c.args.heads.now ≡ length c.args.tails.now = sym (length-map c.args.heads.now (λ (v : Vec ℕ Global). v.items)) ∙ c.requires.valid.arcs in
    let of : List (List ℕ) → TimedNetwork = λ hs. record { tails = c.args.tails.now; points = net.points; heads = hs } in
    ap (λ (l : List (List ℕ)). of l)
    (written-all f c.args.heads.now c.loop-arc.heads (length c.args.tails.now) (subst (λ (n : ℕ). AreWritten f c.args.heads.now c.loop-arc.heads n) all c.loop-arc.invariant) (c.loop-arc.auto.heads ∙ count))

pub loop-arc-preserved : goal.loop-arc-preserved
loop-arc-preserved c =
    let p : Problem = c.args.instance.now in
    let net : TimedNetwork = network_of c.args.tails.now c.args.points.now c.args.heads.now in
    let arc : ℕ = c.loop-arc.arc in
    let f : ℕ → List ℕ = heads_to p net c.args.point.terminal c.args.point.at in
    let count : length c.args.heads.now ≡ length c.args.tails.now = sym (length-map c.args.heads.now (λ (v : Vec ℕ Global). v.items)) ∙ c.requires.valid.arcs in
    let within : arc < length c.args.heads.now = omega (arith, count) in
    elim c.if-arc-point.branch [
      | then-arc-point w ↦
          let v : Vec ℕ Global = get_or c.loop-arc.heads arc w.index-heads-arc.result in
          let old = w.deref_mut.ensures.value ∙ list-kept f c.args.heads.now c.loop-arc.heads arc w.index-heads-arc.result c.loop-arc.invariant within in
          let same_long : length w.lift_heads.new.heads ≡ v.len = omega arith in
          rw w.heads-is
          (written-more f c.args.heads.now c.loop-arc.heads arc (with_items v w.lift_heads.new.heads) c.loop-arc.invariant (omega (arith, within, c.loop-arc.auto.heads))
          (with_items_is v w.lift_heads.new.heads same_long ∙ w.lift_heads.ensures ∙
          lifted-in p net c.args.point.terminal c.args.point.at arc w.step-step.result c.arc.result w.list_at-starts.result.now w.deref_mut.result.now
          w.if-arc-point.true c.arc.ensures.same w.step-step.ensures.same w.list_at-starts.ensures old))
      | else-arc-point w ↦
          rw w.heads-is (written-kept f c.args.heads.now c.loop-arc.heads arc c.loop-arc.invariant within (not-lifted p net c.args.point.terminal c.args.point.at arc c.arc.result w.if-arc-point.false c.arc.ensures.same))
    ]
