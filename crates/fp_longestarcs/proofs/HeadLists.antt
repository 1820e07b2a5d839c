-- A whole network with a new point, refined and then restored, is whole.
use Rattle.std.proofs.Common.{◌≡◌, ℕ, ◌+◌, ◌<◌, ◌≤◌, ◌≢◌, true, false, ◌&&◌, List, [], ◌∷◌, length, get_or, map, ⊎_elim, refl, sym, ap, ◌∙◌, arith}
use Rattle.std.specs.Prelude.{nat_lt, nat_le, nat_eq, if◌then◌else◌}
use Rattle.std.specs.List.{range_with_len, insert}
use Rattle.std.proofs.lemmas.Bool.{cases_lt, cases_eq, lt-ltb, le-ltb, le-leb, lt-leb, eq-eqb, ne_eqb, cond-true, cond-false, and_right}
use Rattle.std.proofs.lemmas.List.{get_or-map, length-map, get_or-set_same, get_or-set_other}
use Rattle.std.proofs.lemmas.List.FromFn.{get_or-map-range_with_len}
use Rattle.fp_model.specs.declared.parts.Arc.{Arc}
use Rattle.fp_model.specs.Problem.{Problem, arc_at, no_arc}
use Rattle.fp_model.specs.Routes.{step}
use Rattle.fp_timenodes.specs.Floor.{floor_point}
use Rattle.fp_longestarcs.specs.Classes.{head_of}
use Rattle.fp_base_lists.specs.Ascending.{place_in}
use Rattle.fp_longestarcs.specs.Networks.{TimedNetwork, points_in, tail_in, heads_in}
use Rattle.fp_longestarcs.specs.Whole.{HasArcsOf, heads_from, heads_of, IsWholeNetwork}
use Rattle.fp_longestarcs.specs.Changes.{heads_with, refined, lifted, heads_to, restored, extended_points}
use Rattle.fp_base_lists.proofs.Maps.{map-same_on_range, map-insert}
use Rattle.fp_longestarcs.proofs.Places.{floor-with, floor-without}

-- the arcs of a network are as many as the instance's
pub arc-count : (p : Problem) (net : TimedNetwork) → HasArcsOf p net → length net.tails ≡ length p.arcs
arc-count p net has = ap (λ (l : List ℕ). length l) has.tails ∙ length-map p.arcs (λ (a : Arc). a.from)

-- and so are their tails
pub tail-of : (p : Problem) (net : TimedNetwork) (arc : ℕ) → HasArcsOf p net → arc < length p.arcs → tail_in net arc ≡ (arc_at p arc).from
tail-of p net arc has h = ap (λ (l : List ℕ). get_or l arc 0) has.tails ∙ get_or-map (λ (a : Arc). a.from) p.arcs arc no_arc 0 h

-- the heads of an arc in a whole network
pub whole-heads : (p : Problem) (net : TimedNetwork) (arc : ℕ) → IsWholeNetwork p net → arc < length p.arcs → heads_in net arc ≡ heads_from p (points_in net) arc
whole-heads p net arc whole h =
    ap (λ (l : List (List ℕ)). get_or l arc []) whole.heads ∙ get_or-map-range_with_len (heads_from p (points_in net)) 0 (length p.arcs) arc arc [] h (omega arith)

-- one head, lifted to a point, is the greatest among the points with that point
raised-head : (qs : List ℕ) (k at n : ℕ) → (if nat_lt (floor_point qs 1 n) at && nat_le at n then at else floor_point qs 1 n) ≡ floor_point (insert qs k at) 1 n
raised-head qs k at n =
    let old : ℕ = floor_point qs 1 n in
    ⊎_elim
    (λ (late : n < at). rw (lt-leb at n late, and_right (nat_lt old at) false refl) (sym (floor-without qs k at n late)))
    (λ (early : at ≤ n).
    let with = floor-with qs k at n early in
    ⊎_elim
    (λ (less : old < at). rw (lt-ltb old at less, le-leb at n early) (omega (arith, with)))
    (λ (more : at ≤ old). rw (le-ltb old at more) (omega (arith, with)))
    (cases_lt old at))
    (cases_lt n at)

-- the heads of an arc into the terminal, lifted
lifted-heads : (qs : List ℕ) (k step at : ℕ) (starts : List ℕ) →
    lifted step at starts (map (λ q. floor_point qs 1 (q + step)) starts) ≡ map (λ q. floor_point (insert qs k at) 1 (q + step)) starts
lifted-heads qs k step at [] = refl
lifted-heads qs k step at (q ∷ starts) =
    ap (λ (n : ℕ). n ∷ lifted step at starts (map (λ q. floor_point qs 1 (q + step)) starts)) (raised-head qs k at (q + step)) ∙
    ap (λ (l : List ℕ). floor_point (insert qs k at) 1 (q + step) ∷ l) (lifted-heads qs k step at starts)

-- the points of the terminals, with the new one
pub points-same : (net : TimedNetwork) (terminal at : ℕ) → terminal < length net.points →
    get_or (extended_points net terminal at) terminal [] ≡ insert (points_in net terminal) (place_in (points_in net terminal) at) at
points-same net terminal at h = get_or-set_same net.points terminal (insert (points_in net terminal) (place_in (points_in net terminal) at) at) [] h

pub points-other : (net : TimedNetwork) (terminal at other : ℕ) → other ≢ terminal → get_or (extended_points net terminal at) other [] ≡ points_in net other
points-other net terminal at other apart =
    get_or-set_other net.points terminal other (insert (points_in net terminal) (place_in (points_in net terminal) at) at) [] apart

-- after refining, each copy has the greatest head among the old points
refined-heads : (p : Problem) (net : TimedNetwork) (terminal at arc : ℕ) → IsWholeNetwork p net → terminal < length net.points → arc < length p.arcs →
    heads_in (refined p net terminal at) arc ≡ map (λ q. head_of p (points_in net) (record { arc = arc; depart = q })) (get_or (extended_points net terminal at) (arc_at p arc).from [])
refined-heads p net terminal at arc whole within h =
    get_or-map-range_with_len (heads_with p net terminal at) 0 (length net.tails) arc arc [] (omega (arith, arc-count p net whole.arcs)) (omega arith) ∙ by_tail
  where
    head : ℕ → ℕ
    head q = head_of p (points_in net) (record { arc = arc; depart = q })

    tail : ℕ
    tail = (arc_at p arc).from

    by_tail : heads_with p net terminal at arc ≡ map head (get_or (extended_points net terminal at) tail [])
    by_tail =
        ⊎_elim
        (λ (same : tail ≡ terminal).
        let test : nat_eq (tail_in net arc) terminal ≡ true = eq-eqb (tail_in net arc) terminal (tail-of p net arc whole.arcs h ∙ same) in
        let old : heads_in net arc ≡ map head (points_in net terminal) = whole-heads p net arc whole h ∙ ap (λ (t : ℕ). map head (points_in net t)) same in
        let place : ℕ = place_in (points_in net terminal) at in
        cond-true (nat_eq (tail_in net arc) terminal) (insert (heads_in net arc) place (head at)) (heads_in net arc) test ∙
        ap (λ (l : List ℕ). insert l place (head at)) old ∙
        sym (map-insert head (points_in net terminal) place at) ∙
        ap (λ (l : List ℕ). map head l) (sym (points-same net terminal at within)) ∙
        ap (λ (t : ℕ). map head (get_or (extended_points net terminal at) t [])) (sym same))
        (λ (other : tail ≢ terminal).
        let apart : tail_in net arc ≢ terminal = λ e. other (sym (tail-of p net arc whole.arcs h) ∙ e) in
        let place : ℕ = place_in (points_in net terminal) at in
        cond-false (nat_eq (tail_in net arc) terminal) (insert (heads_in net arc) place (head at)) (heads_in net arc) (ne_eqb (tail_in net arc) terminal apart) ∙
        whole-heads p net arc whole h ∙
        ap (λ (l : List ℕ). map head l) (sym (points-other net terminal at tail other)))
        (cases_eq tail terminal)

-- and after restoring, among all points
restored-heads : (p : Problem) (net : TimedNetwork) (terminal at arc : ℕ) → IsWholeNetwork p net → terminal < length net.points → arc < length p.arcs →
    heads_to p (refined p net terminal at) terminal at arc ≡ heads_from p (points_in (refined p net terminal at)) arc
restored-heads p net terminal at arc whole within h =
    ⊎_elim
    (λ (same : end ≡ terminal).
    cond-true (nat_eq end terminal) (lifted (step p arc) at (points_in finer (tail_in net arc)) (heads_in finer arc)) (heads_in finer arc) (eq-eqb end terminal same) ∙
    ap (λ (t : ℕ). lifted (step p arc) at (points_in finer t) (heads_in finer arc)) (tail-of p net arc whole.arcs h) ∙
    ap (λ (l : List ℕ). lifted (step p arc) at starts l) refined_heads ∙
    ap (λ (t : ℕ). lifted (step p arc) at starts (map (λ q. floor_point (points_in net t) 1 (q + step p arc)) starts)) same ∙
    lifted-heads (points_in net terminal) (place_in (points_in net terminal) at) (step p arc) at starts ∙
    ap (λ (l : List ℕ). map (λ q. floor_point l 1 (q + step p arc)) starts) (sym (points-same net terminal at within)) ∙
    ap (λ (t : ℕ). map (λ q. floor_point (points_in finer t) 1 (q + step p arc)) starts) (sym same))
    (λ (other : end ≢ terminal).
    cond-false (nat_eq end terminal) (lifted (step p arc) at (points_in finer (tail_in net arc)) (heads_in finer arc)) (heads_in finer arc) (ne_eqb end terminal other) ∙
    refined_heads ∙
    ap (λ (l : List ℕ). map (λ q. floor_point l 1 (q + step p arc)) starts) (sym (points-other net terminal at end other)))
    (cases_eq end terminal)
  where
    finer : TimedNetwork
    finer = refined p net terminal at

    end : ℕ
    end = (arc_at p arc).to

    starts : List ℕ
    starts = points_in finer (arc_at p arc).from

    refined_heads : heads_in finer arc ≡ map (λ q. floor_point (points_in net end) 1 (q + step p arc)) starts
    refined_heads = refined-heads p net terminal at arc whole within h

-- so all heads are the greatest
pub all-restored : (p : Problem) (net : TimedNetwork) (terminal at : ℕ) → IsWholeNetwork p net → terminal < length net.points →
    (restored p (refined p net terminal at) terminal at).heads ≡ heads_of p (points_in (restored p (refined p net terminal at) terminal at))
all-restored p net terminal at whole within =
    ap (λ (n : ℕ). map (heads_to p (refined p net terminal at) terminal at) (range_with_len 0 n)) (arc-count p net whole.arcs) ∙
    map-same_on_range (heads_to p (refined p net terminal at) terminal at) (heads_from p (points_in (refined p net terminal at))) 0 (length p.arcs)
    (λ arc from below. restored-heads p net terminal at arc whole within (omega arith))
