-- Classes numbered by arc and then by point, and the head of each.
use Rattle.std.proofs.Common.{◌≡◌, ℕ, zero, suc, ◌+◌, ◌-◌, ◌*◌, ◌<◌, ◌≤◌, true, List, [], ◌∷◌, length, get_or, map, ◌⊎◌, ⊎_elim, sym, ap, ◌∙◌, subst, arith}
use Rattle.std.specs.Prelude.{All}
use Rattle.std.specs.List.Sorted.{IsNonDecreasingBy}
use Rattle.std.proofs.lemmas.Bool.{cases_lt, cases_order}
use Rattle.std.proofs.lemmas.List.{get_or-map, get_or_default, get_or_past, take_all}
use Rattle.std.proofs.lemmas.List.Sums.{sum_by_more, sum_by-cons, sum_by-take-le}
use Rattle.fp_model.specs.declared.parts.Leg.{Leg}
use Rattle.fp_model.specs.Problem.{Problem, arc_at}
use Rattle.fp_timenodes.specs.declared.places.TheConstants.{LATEST}
use Rattle.fp_base_lists.specs.Membership.{list_has}
use Rattle.fp_longestarcs.specs.declared.networks.TheConstants.{MOST_CLASSES}
use Rattle.fp_longestarcs.specs.Classes.{head_of}
use Rattle.fp_longestarcs.specs.Ascending.{ArePoints}
use Rattle.fp_base_lists.specs.Ascending.{IsCut, place_in}
use Rattle.fp_longestarcs.specs.Networks.{TimedNetwork, points_in, tail_in, heads_in, kept_head, IsArcOfClass, IsClass, copy_count, class_count, first_class, class_number, IsNetwork}
use Rattle.fp_longestarcs.specs.Vectors.{AreOffsets}
use Rattle.fp_longestarcs.specs.Whole.{HasArcsOf, IsWholeNetwork}
use Rattle.fp_base_lists.proofs.Places.{place_in-get_or, get_or-place_in, place-le-get_or}
use Rattle.fp_longestarcs.proofs.HeadLists.{arc-count, tail-of, whole-heads}

-- the points of an arc's tail
pub tail-points : (net : TimedNetwork) (arc : ℕ) → IsNetwork net → arc < length net.tails → ArePoints (points_in net (tail_in net arc))
tail-points net arc valid h = valid.points (tail_in net arc) [] (valid.tails arc 0 h)

-- a class's place is one of its arc's
pub class-place : (net : TimedNetwork) (c : Leg) → IsNetwork net → IsClass net c →
    (place_in (points_in net (tail_in net c.arc)) c.depart < length (points_in net (tail_in net c.arc))) × (get_or (points_in net (tail_in net c.arc)) (place_in (points_in net (tail_in net c.arc)) c.depart) 0 ≡ c.depart)
class-place net c valid is =
    let are : ArePoints (points_in net (tail_in net c.arc)) = tail-points net c.arc valid is.0 in
    let there = get_or-place_in (points_in net (tail_in net c.arc)) c.depart are.ascending is.1 in
    (there.0, there.1 0)

-- an arc of the instance and a point of its tail are a class
pub class-of-arc : (p : Problem) (net : TimedNetwork) (arc point : ℕ) → HasArcsOf p net → arc < length p.arcs → list_has (points_in net (arc_at p arc).from) point ≡ true → IsClass net (record { arc = arc; depart = point })
class-of-arc p net arc point has exists there = (
  omega (arith, arc-count p net has),
  ap (λ (t : ℕ). list_has (points_in net t) point) (tail-of p net arc has exists) ∙ there,
)

-- in a whole network the head that is kept is the greatest
pub kept-greatest : (p : Problem) (net : TimedNetwork) (c : Leg) → IsWholeNetwork p net → IsClass net c → kept_head net c ≡ head_of p (points_in net) c
kept-greatest p net c whole is =
    let there = class-place net c whole.valid is in
    let here : c.arc < length p.arcs = omega (arith, is.0, arc-count p net whole.arcs) in
    let qs : List ℕ = points_in net (tail_in net c.arc) in
    let head : ℕ → ℕ = λ q. head_of p (points_in net) (record { arc = c.arc; depart = q }) in
    let heads : heads_in net c.arc ≡ map head qs =
    whole-heads p net c.arc whole here ∙ ap (λ (t : ℕ). map head (points_in net t)) (sym (tail-of p net c.arc whole.arcs here)) in
    ap (λ (l : List ℕ). get_or l (place_in qs c.depart) 0) heads ∙ get_or-map head qs (place_in qs c.depart) 0 0 there.0 ∙ ap head there.1

-- one more arc has as many classes more as its tail has points
pub first-more : (net : TimedNetwork) (arc : ℕ) → arc < length net.tails → first_class net (arc + 1) ≡ first_class net arc + length (points_in net (tail_in net arc))
first-more net arc h = sum_by_more (λ tail. length (get_or net.points tail [])) net.tails arc 0 h

-- later arcs begin later
pub first-mono : (net : TimedNetwork) (n arc : ℕ) → arc + n ≤ length net.tails → first_class net arc ≤ first_class net (arc + n)
first-mono net zero arc h = let e : arc + 0 ≡ arc = omega arith in rw e (omega arith)
first-mono net (suc n) arc h =
    let rest : first_class net (arc + 1) ≤ first_class net (arc + 1 + n) = first-mono net n (arc + 1) (omega arith) in
    let e : arc + suc n ≡ arc + 1 + n = omega arith in
    rw e (omega (arith, rest, first-more net arc (omega arith)))

-- the number of a class is less than the first one of the next arc
pub number-below : (net : TimedNetwork) (c : Leg) → IsNetwork net → IsClass net c → class_number net c < first_class net (c.arc + 1)
number-below net c valid is = let there = class-place net c valid is in omega (arith, there.0, first-more net c.arc is.0)

-- the number of a class is less than the count of classes
pub number-within : (net : TimedNetwork) (c : Leg) → IsNetwork net → IsClass net c → class_number net c < class_count net
number-within net c valid is =
    omega (arith, number-below net c valid is, sum_by-take-le (λ tail. length (get_or net.points tail [])) net.tails (c.arc + 1))

-- classes with the same number are the same
pub class-unique : (net : TimedNetwork) (c e : Leg) → IsNetwork net → IsClass net c → IsClass net e → class_number net c ≡ class_number net e → c ≡ e
class-unique net c e valid first second same =
    ⊎_elim
    (λ (arc : c.arc ≡ e.arc).
    let qs : List ℕ = points_in net (tail_in net c.arc) in
    let begin : first_class net c.arc ≡ first_class net e.arc = ap (λ (n : ℕ). first_class net n) arc in
    let place : place_in qs c.depart ≡ place_in (points_in net (tail_in net e.arc)) e.depart = omega (arith, same, begin) in
    let depart : c.depart ≡ e.depart =
    sym (class-place net c valid first).1 ∙ ap (λ (n : ℕ). get_or qs n 0) place ∙
    ap (λ (n : ℕ). get_or (points_in net (tail_in net n)) (place_in (points_in net (tail_in net e.arc)) e.depart) 0) arc ∙ (class-place net e valid second).1 in
    let leg : ℕ → ℕ → Leg = λ a n. record { arc = a; depart = n } in
    ap (λ (a : ℕ). leg a c.depart) arc ∙ ap (λ (n : ℕ). leg e.arc n) depart)
    (λ (apart : (c.arc < e.arc) ⊎ (e.arc < c.arc)).
    ⊎_elim
    (λ (less : c.arc < e.arc). absurd (omega (arith, same, number-below net c valid first, later c.arc e.arc less second.0)))
    (λ (more : e.arc < c.arc). absurd (omega (arith, same, number-below net e valid second, later e.arc c.arc more first.0)))
    apart)
    (cases_order c.arc e.arc)
  where
    later : (a b : ℕ) → a < b → b < length net.tails → first_class net (a + 1) ≤ first_class net b
    later a b less h = let e : a + 1 + (b - (a + 1)) ≡ b = omega arith in subst (λ (n : ℕ). first_class net (a + 1) ≤ first_class net n) e (first-mono net (b - (a + 1)) (a + 1) (omega arith))

-- so a terminal has no more points than there are times
few-points : (qs : List ℕ) → ArePoints qs → length qs ≤ LATEST + 1
few-points qs are =
    ⊎_elim
    (λ (some : 0 < length qs). omega (arith, place-le-get_or qs (length qs - 1) are.ascending (omega arith), are.in_time (length qs - 1) 0 (omega arith)))
    (λ (none : length qs ≤ 0). omega arith)
    (cases_lt 0 (length qs))

-- and arcs that leave terminals have no more copies each
pub few-copies : (points : List (List ℕ)) (tails : List ℕ) → All ArePoints points → copy_count points tails ≤ length tails * (LATEST + 1)
few-copies points [] are = omega arith
few-copies points (tail ∷ tails) are =
    omega (arith, few-copies points tails are, sum_by-cons (λ t. length (get_or points t [])) tail tails, at-most)
  where
    at-most : length (get_or points tail []) ≤ LATEST + 1
    at-most =
        ⊎_elim
        (λ (within : tail < length points). few-points (get_or points tail []) (are tail [] within))
        (λ (past : length points ≤ tail). rw (get_or_past points tail [] past) (omega arith))
        (cases_lt tail (length points))

-- so all classes have numbers of 32 bits
pub few-classes : (net : TimedNetwork) → IsNetwork net → class_count net ≤ MOST_CLASSES
few-classes net valid = omega (arith, few-copies net.points net.tails valid.points, valid.few)

-- the last arc whose first class is not after a number is the arc of the class
pub last-arc : (net : TimedNetwork) (offsets : List ℕ) (class cut : ℕ) → AreOffsets net.points net.tails offsets → class < class_count net → IsCut offsets class cut → (1 ≤ cut) × IsArcOfClass net class (cut - 1)
last-arc net offsets class cut are few is =
    let all : get_or offsets (length net.tails) 0 ≡ class_count net =
    are.each (length net.tails) (omega arith) ∙ ap (λ (l : List ℕ). copy_count net.points l) (take_all (length net.tails) net.tails (omega arith)) in
    let first : get_or offsets 0 0 ≡ 0 = are.each 0 (omega arith) in
    let some : 1 ≤ cut = ⊎_elim (λ (h : 0 < cut). omega arith) (λ (h : cut ≤ 0). absurd (omega (arith, is.after 0 0 h (omega (arith, are.count)), first))) (cases_lt 0 cut) in
    let within : cut ≤ length net.tails =
    ⊎_elim (λ (h : length net.tails < cut). absurd (omega (arith, is.until (length net.tails) 0 h, all, few))) (λ (h : cut ≤ length net.tails). h) (cases_lt (length net.tails) cut) in
    let next : (cut - 1) + 1 ≡ cut = omega arith in
    let more : first_class net cut ≡ first_class net (cut - 1) + length (points_in net (tail_in net (cut - 1))) = ap (λ (n : ℕ). first_class net n) (sym next) ∙ first-more net (cut - 1) (omega arith) in (
      some,
      record {
        exists = omega arith;
        from = omega (arith, is.until (cut - 1) 0 (omega arith), are.each (cut - 1) (omega arith));
        before = omega (arith, is.after cut 0 (omega arith) (omega (arith, are.count)), are.each cut within, more);
      },
    )

-- offsets do not fall
pub offsets-rise : (net : TimedNetwork) (offsets : List ℕ) → AreOffsets net.points net.tails offsets → IsNonDecreasingBy (λ q. q) offsets
offsets-rise net offsets are i j d le h =
    let e : i + (j - i) ≡ j = omega arith in
    let rise : first_class net i ≤ first_class net j = subst (λ (n : ℕ). first_class net i ≤ first_class net n) e (first-mono net (j - i) i (omega (arith, are.count))) in
    omega (
      arith,
      rise,
      get_or_default offsets i d 0 (omega arith),
      get_or_default offsets j d 0 h,
      are.each i (omega (arith, are.count)),
      are.each j (omega (arith, are.count)),
    )

-- the class that stands there has the number
pub number-of : (net : TimedNetwork) (class arc : ℕ) → IsNetwork net → IsArcOfClass net class arc →
    class_number net (record { arc = arc; depart = get_or (points_in net (tail_in net arc)) (class - first_class net arc) 0 }) ≡ class
number-of net class arc valid is =
    omega (arith, is.from, place_in-get_or (points_in net (tail_in net arc)) (class - first_class net arc) 0 (tail-points net arc valid is.exists).ascending (omega (arith, is.from, is.before)))
