-- Networks stay networks when a point is added and when heads are lifted.
use Rattle.std.proofs.Common.{◌≡◌, ℕ, zero, suc, ◌+◌, ◌<◌, ◌≤◌, ◌≢◌, false, List, [], ◌∷◌, length, get_or, ⊎_elim, refl, sym, ap, ◌∙◌, subst, arith}
use Rattle.std.specs.Prelude.{nat_eq}
use Rattle.std.specs.List.{insert}
use Rattle.std.proofs.lemmas.Bool.{cases_eq, eq-eqb, ne_eqb, cond-true, cond-false}
use Rattle.std.specs.declared.alloc.Global.{Global}
use Rattle.std.specs.declared.vec.Vec.{Vec}
use Rattle.std.proofs.lemmas.List.{length-set, length-map}
use Rattle.std.proofs.lemmas.List.Edits.{length-insert}
use Rattle.std.proofs.lemmas.List.Elements.{All-set}
use Rattle.std.proofs.lemmas.List.FromFn.{get_or-map-range_with_len, length-map-range_with_len}
use Rattle.fp_model.specs.Problem.{Problem, arc_at}
use Rattle.fp_model.specs.Routes.{step}
use Rattle.fp_timenodes.specs.declared.places.TheConstants.{LATEST}
use Rattle.fp_base_lists.specs.Membership.{list_has}
use Rattle.fp_longestarcs.specs.Classes.{head_of}
use Rattle.fp_longestarcs.specs.Ascending.{ArePoints}
use Rattle.fp_base_lists.specs.Ascending.{place_in, IsPlaceIn}
use Rattle.fp_longestarcs.specs.Networks.{TimedNetwork, points_in, tail_in, heads_in, IsNetwork}
use Rattle.fp_longestarcs.specs.Vectors.{network_of}
use Rattle.fp_base_lists.specs.Vectors.{lists_of}
use Rattle.fp_longestarcs.specs.Whole.{IsWholeNetwork}
use Rattle.fp_longestarcs.specs.Changes.{heads_with, refined, lifted_head, lifted, heads_to, restored, extended_points}
use Rattle.fp_longestarcs.proofs.Places.{insert-points}
use Rattle.fp_base_lists.proofs.Places.{IsPlaceIn-place_in}
use Rattle.fp_longestarcs.proofs.HeadLists.{points-same, points-other, all-restored}

-- the points of a terminal of a network
pub points-of : (net : TimedNetwork) (terminal : ℕ) → IsNetwork net → terminal < length net.points → ArePoints (points_in net terminal)
points-of net terminal valid h = valid.points terminal [] h

-- with a new point a network is still one
refined-valid : (p : Problem) (net : TimedNetwork) (terminal at : ℕ) → IsNetwork net → terminal < length net.points → list_has (points_in net terminal) at ≡ false → at ≤ LATEST →
    IsNetwork (refined p net terminal at)
refined-valid p net terminal at valid within new in_time = record {
  points = All-set ArePoints net.points terminal more (insert-points (points_in net terminal) at here new in_time) valid.points;
  few = valid.few;
  tails = λ k d h. omega (arith, valid.tails k d h, length-set net.points terminal more);
  arcs = length-map-range_with_len (heads_with p net terminal at) 0 (length net.tails);
  copies = copies;
}
  where
    more : List ℕ
    more = insert (points_in net terminal) (place_in (points_in net terminal) at) at

    here : ArePoints (points_in net terminal)
    here = points-of net terminal valid within

    place : IsPlaceIn (points_in net terminal) at (place_in (points_in net terminal) at)
    place = IsPlaceIn-place_in (points_in net terminal) at here.ascending

    -- a terminal's points and an arc's heads get one more alike
    by_tail : (arc : ℕ) → arc < length net.tails → length (heads_with p net terminal at arc) ≡ length (get_or (extended_points net terminal at) (tail_in net arc) [])
    by_tail arc h =
        let k : ℕ = place_in (points_in net terminal) at in
        let head : ℕ = head_of p (points_in net) (record { arc = arc; depart = at }) in
        let old : length (heads_in net arc) ≡ length (points_in net (tail_in net arc)) = valid.copies arc h in
        ⊎_elim
        (λ (same : tail_in net arc ≡ terminal).
        let is = cond-true (nat_eq (tail_in net arc) terminal) (insert (heads_in net arc) k head) (heads_in net arc) (eq-eqb (tail_in net arc) terminal same) in
        let equal : length (heads_in net arc) ≡ length (points_in net terminal) = old ∙ ap (λ (t : ℕ). length (points_in net t)) same in
        let longer : length (insert (heads_in net arc) k head) ≡ length (heads_in net arc) + 1 = length-insert (heads_in net arc) k head (omega (arith, equal, place.within)) in
        let grown : length more ≡ length (points_in net terminal) + 1 = length-insert (points_in net terminal) k at place.within in
        let there : length (get_or (extended_points net terminal at) (tail_in net arc) []) ≡ length more =
        ap (λ (t : ℕ). length (get_or (extended_points net terminal at) t [])) same ∙ ap (λ (l : List ℕ). length l) (points-same net terminal at within) in
        omega (arith, ap (λ (l : List ℕ). length l) is, equal, longer, grown, there))
        (λ (other : tail_in net arc ≢ terminal).
        let is = cond-false (nat_eq (tail_in net arc) terminal) (insert (heads_in net arc) k head) (heads_in net arc) (ne_eqb (tail_in net arc) terminal other) in
        ap (λ (l : List ℕ). length l) is ∙ old ∙ ap (λ (l : List ℕ). length l) (sym (points-other net terminal at (tail_in net arc) other)))
        (cases_eq (tail_in net arc) terminal)

    copies : (arc : ℕ) → arc < length net.tails → length (heads_in (refined p net terminal at) arc) ≡ length (points_in (refined p net terminal at) (tail_in net arc))
    copies arc h =
        ap (λ (l : List ℕ). length l) (get_or-map-range_with_len (heads_with p net terminal at) 0 (length net.tails) arc arc [] h (omega arith)) ∙ by_tail arc h

-- lifting keeps the number of heads
pub length-lifted : (step at : ℕ) (qs heads : List ℕ) → length heads ≡ length qs → length (lifted step at qs heads) ≡ length heads
length-lifted step at [] [] same = refl
length-lifted step at [] (head ∷ heads) same = absurd (omega (arith, same))
length-lifted step at (q ∷ qs) [] same = refl
length-lifted step at (q ∷ qs) (head ∷ heads) same = omega (arith, length-lifted step at qs heads (omega (arith, same)))

-- what each head becomes
pub get_or-lifted : (step at : ℕ) (qs heads : List ℕ) (k : ℕ) → length heads ≡ length qs → k < length heads → get_or (lifted step at qs heads) k 0 ≡ lifted_head step at (get_or qs k 0) (get_or heads k 0)
get_or-lifted step at qs [] k same h = absurd (omega arith)
get_or-lifted step at [] (head ∷ heads) k same h = absurd (omega (arith, same))
get_or-lifted step at (q ∷ qs) (head ∷ heads) zero same h = refl
get_or-lifted step at (q ∷ qs) (head ∷ heads) (suc k) same h = get_or-lifted step at qs heads k (omega (arith, same)) (omega arith)

-- with lifted heads a network is still one
pub restored-valid : (p : Problem) (net : TimedNetwork) (terminal at : ℕ) → IsNetwork net → IsNetwork (restored p net terminal at)
restored-valid p net terminal at valid = record {
  points = valid.points;
  few = valid.few;
  tails = valid.tails;
  arcs = length-map-range_with_len (heads_to p net terminal at) 0 (length net.tails);
  copies = λ arc h.
      ap (λ (l : List ℕ). length l) (get_or-map-range_with_len (heads_to p net terminal at) 0 (length net.tails) arc arc [] h (omega arith)) ∙ by_head arc h;
}
  where
    by_head : (arc : ℕ) → arc < length net.tails → length (heads_to p net terminal at arc) ≡ length (points_in net (tail_in net arc))
    by_head arc h =
        let qs : List ℕ = points_in net (tail_in net arc) in
        let old : length (heads_in net arc) ≡ length qs = valid.copies arc h in
        ⊎_elim
        (λ (same : (arc_at p arc).to ≡ terminal).
        ap (λ (l : List ℕ). length l) (cond-true (nat_eq (arc_at p arc).to terminal) (lifted (step p arc) at qs (heads_in net arc)) (heads_in net arc) (eq-eqb (arc_at p arc).to terminal same)) ∙
        length-lifted (step p arc) at qs (heads_in net arc) old ∙ old)
        (λ (other : (arc_at p arc).to ≢ terminal).
        ap (λ (l : List ℕ). length l) (cond-false (nat_eq (arc_at p arc).to terminal) (lifted (step p arc) at qs (heads_in net arc)) (heads_in net arc) (ne_eqb (arc_at p arc).to terminal other)) ∙ old)
        (cases_eq (arc_at p arc).to terminal)

-- a whole network with a new point, refined and then restored, is whole
pub lengthened-whole : (p : Problem) (net : TimedNetwork) (terminal at : ℕ) → IsWholeNetwork p net → terminal < length net.points → list_has (points_in net terminal) at ≡ false → at ≤ LATEST →
    IsWholeNetwork p (restored p (refined p net terminal at) terminal at)
lengthened-whole p net terminal at whole within new in_time = record {
  valid = restored-valid p (refined p net terminal at) terminal at (refined-valid p net terminal at whole.valid within new in_time);
  arcs = record { tails = whole.arcs.tails; terminals = length-set net.points terminal (insert (points_in net terminal) (place_in (points_in net terminal) at) at) ∙ whole.arcs.terminals };
  heads = all-restored p net terminal at whole within;
}

-- what was written over vectors that hold a network, after room was made in them, is a network
pub refined-written : (p : Problem) (tails : List ℕ) (points heads spare_points spare_heads new_points new_heads : List (Vec ℕ Global)) (terminal at : ℕ) →
    lists_of spare_points ≡ lists_of points → lists_of spare_heads ≡ lists_of heads → network_of tails new_points new_heads ≡ refined p (network_of tails spare_points spare_heads) terminal at →
    IsNetwork (network_of tails points heads) → terminal < length points → list_has (points_in (network_of tails points heads) terminal) at ≡ false → at ≤ LATEST → IsNetwork (network_of tails new_points new_heads)
refined-written p tails points heads spare_points spare_heads new_points new_heads terminal at same_points same_heads written valid within new in_time =
    let net : TimedNetwork = network_of tails points heads in
    let of : List (List ℕ) → List (List ℕ) → TimedNetwork = λ qs hs. record { tails = tails; points = qs; heads = hs } in
    let same : network_of tails spare_points spare_heads ≡ net = ap (λ (l : List (List ℕ)). of l (lists_of spare_heads)) same_points ∙ ap (λ (l : List (List ℕ)). of (lists_of points) l) same_heads in
    let is : network_of tails new_points new_heads ≡ refined p net terminal at = written ∙ ap (λ (n : TimedNetwork). refined p n terminal at) same in
    subst IsNetwork (sym is) (refined-valid p net terminal at valid (omega (arith, length-map points (λ (v : Vec ℕ Global). v.items))) new in_time)
