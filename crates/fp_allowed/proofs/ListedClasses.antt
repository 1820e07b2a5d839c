-- The list of all classes of a network, and the numbers of its classes.
use Rattle.std.proofs.Common.{◌≡◌, ℕ, zero, suc, ◌+◌, ◌-◌, ◌<◌, ◌≤◌, List, [], ◌∷◌, ◌++◌, length, get_or, take, map, refl, ap, ◌∙◌, arith, length-append}
use Rattle.std.proofs.lemmas.List.{get_or-map, length-map, get_or_append_left, get_or-append-add, take_all}
use Rattle.std.proofs.lemmas.List.Sums.{sum_by-cons}
use Rattle.fp_model.specs.declared.parts.Leg.{Leg}
use Rattle.fp_model.specs.Numbered.{no_leg}
use Rattle.fp_longestarcs.specs.Ascending.{ArePoints}
use Rattle.fp_base_lists.specs.Ascending.{place_in}
use Rattle.fp_longestarcs.specs.Networks.{IsClass, IsNetwork, TimedNetwork, class_count, class_number, copy_count, first_class, points_in, tail_in}
use Rattle.fp_longestarcs.proofs.ClassNumbers.{class-place, first-mono, first-more, tail-points}
use Rattle.fp_base_lists.proofs.Places.{place_in-get_or, place_in-unique}
use Rattle.fp_base_lists.proofs.Membership.{list_has-get_or}
use Rattle.fp_allowed.specs.Listing.{class_at, classes_from}

-- the points of a terminal, none where there is no such terminal
abbrev points_of : List (List ℕ) → ℕ → List ℕ
points_of points terminal = get_or points terminal []

-- the classes of one arc
abbrev arc_classes : List (List ℕ) → ℕ → ℕ → List Leg
arc_classes points a tail = map (λ q. record { arc = a; depart = q }) (points_of points tail)

length-classes_from : (points : List (List ℕ)) (a : ℕ) (tails : List ℕ) → length (classes_from points a tails) ≡ copy_count points tails
length-classes_from points a [] = refl
length-classes_from points a (tail ∷ tails) =
    omega (
      arith,
      length-append (arc_classes points a tail) (classes_from points (a + 1) tails),
      length-map {B = Leg} (points_of points tail) (λ q. record { arc = a; depart = q }),
      length-classes_from points (a + 1) tails,
      sum_by-cons (λ t. length (points_of points t)) tail tails,
    )

-- the class at a place of an arc's classes stands so far behind those of the earlier arcs
listed : (points : List (List ℕ)) (a : ℕ) (tails : List ℕ) (i place : ℕ) → i < length tails → place < length (points_of points (get_or tails i 0)) →
    get_or (classes_from points a tails) (copy_count points (take i tails) + place) no_leg ≡ record { arc = a + i; depart = get_or (points_of points (get_or tails i 0)) place 0 }
listed points a [] i place h within = absurd (omega (arith, h))
listed points a (tail ∷ tails) zero place h within =
    let first : List Leg = arc_classes points a tail in
    let long : length first ≡ length (points_of points tail) = length-map {B = Leg} (points_of points tail) (λ q. record { arc = a; depart = q }) in
    let leg : ℕ → Leg = λ n. record { arc = n; depart = get_or (points_of points tail) place 0 } in
    ap (λ (n : ℕ). get_or (classes_from points a (tail ∷ tails)) n no_leg) (let e : 0 + place ≡ place = omega arith in e) ∙
    get_or_append_left first (classes_from points (a + 1) tails) no_leg place (omega (arith, within, long)) ∙
    get_or-map (λ q. record { arc = a; depart = q }) (points_of points tail) place 0 no_leg within ∙
    ap leg (let e : a ≡ a + 0 = omega arith in e)
listed points a (tail ∷ tails) (suc i) place h within =
    let first : List Leg = arc_classes points a tail in
    let long : length first ≡ length (points_of points tail) = length-map {B = Leg} (points_of points tail) (λ q. record { arc = a; depart = q }) in
    let rest : List Leg = classes_from points (a + 1) tails in
    let leg : ℕ → Leg = λ n. record { arc = n; depart = get_or (points_of points (get_or tails i 0)) place 0 } in
    let behind : copy_count points (take (suc i) (tail ∷ tails)) + place ≡ length first + (copy_count points (take i tails) + place) =
    omega (arith, long, sum_by-cons (λ t. length (points_of points t)) tail (take i tails)) in
    ap (λ (n : ℕ). get_or (first ++ rest) n no_leg) behind ∙
    get_or-append-add first rest (copy_count points (take i tails) + place) no_leg ∙
    listed points (a + 1) tails i place (omega (arith, h)) within ∙
    ap leg (let e : a + 1 + i ≡ a + suc i = omega arith in e)

-- a class is the one with its number
pub class_at-number : (net : TimedNetwork) (c : Leg) → IsNetwork net → IsClass net c → class_at net (class_number net c) ≡ c
class_at-number net c valid is =
    let place : ℕ = place_in (points_in net (tail_in net c.arc)) c.depart in
    let there = class-place net c valid is in
    let leg : ℕ → ℕ → Leg = λ a q. record { arc = a; depart = q } in
    let first : 0 + c.arc ≡ c.arc = omega arith in
    listed net.points 0 net.tails c.arc place is.0 there.0 ∙
    ap (λ (a : ℕ). leg a (get_or (points_in net (tail_in net c.arc)) place 0)) first ∙ ap (λ (q : ℕ). leg c.arc q) there.1

-- the class at a place among those of an arc
abbrev pub class_by : TimedNetwork → ℕ → ℕ → Leg
class_by net a place = record { arc = a; depart = get_or (points_in net (tail_in net a)) place 0 }

pub IsClass-class_by : (net : TimedNetwork) (a place : ℕ) → a < length net.tails → place < length (points_in net (tail_in net a)) → IsClass net (class_by net a place)
IsClass-class_by net a place h within = (h, list_has-get_or (points_in net (tail_in net a)) place 0 within)

pub class_by-number : (net : TimedNetwork) (a place : ℕ) → IsNetwork net → a < length net.tails → place < length (points_in net (tail_in net a)) →
    class_number net (class_by net a place) ≡ first_class net a + place
class_by-number net a place valid h within =
    let qs : List ℕ = points_in net (tail_in net a) in
    ap (λ (n : ℕ). first_class net a + n) (place_in-get_or qs place 0 (tail-points net a valid h).ascending within)

-- the numbers of an arc's classes are a range
pub class_range : (net : TimedNetwork) (arc tail first count : ℕ) → IsNetwork net → arc < length net.tails → tail ≡ tail_in net arc → first ≡ class_number net (record { arc = arc; depart = 0 }) →
    count ≡ length (points_in net tail) → (first ≡ first_class net arc) × (first + count ≤ class_count net)
class_range net arc tail first count valid exists leaves first_is count_is =
    let qs : List ℕ = points_in net (tail_in net arc) in
    let are : ArePoints qs = tail-points net arc valid exists in
    let none : place_in qs 0 ≡ 0 = place_in-unique qs 0 0 (record { within = omega arith; below = λ k d h. absurd (omega arith); above = λ k d from h. omega arith }) in
    let start : first ≡ first_class net arc = omega (arith, first_is, none) in
    let long : count ≡ length qs = rw (← leaves) count_is in
    (start, omega (arith, start, long, first-more net arc exists, first-mono net (length net.tails - (arc + 1)) (arc + 1) (omega arith), all))
  where
    all : first_class net (arc + 1 + (length net.tails - (arc + 1))) ≡ class_count net
    all =
        ap (λ (n : ℕ). first_class net n) (let e : arc + 1 + (length net.tails - (arc + 1)) ≡ length net.tails = omega arith in e) ∙
        ap (λ (l : List ℕ). copy_count net.points l) (take_all (length net.tails) net.tails (omega arith))
