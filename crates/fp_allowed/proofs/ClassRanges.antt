-- The classes of an arc between two points are a range of numbers.
use Rattle.std.proofs.Common.{◌≡◌, ℕ, ◌+◌, ◌-◌, ◌<◌, ◌≤◌, Bool, true, false, ◌&&◌, ◌||◌, cond, List, length, ◌⊎◌, ⊎_elim, refl, ap, ◌∙◌, subst, arith}
use Rattle.std.specs.Prelude.{nat_eq, nat_le, Some}
use Rattle.std.specs.List.{AllPairs}
use Rattle.std.proofs.lemmas.Bool.{cases_lt, cases_order, eq-eqb, le-leb, le-ltb, lt-leb, lt-ltb, ne_eqb}
use Rattle.fp_model.specs.declared.parts.Leg.{Leg}
use Rattle.fp_timenodes.specs.Floor.{floor_point}
use Rattle.fp_base_lists.specs.Membership.{list_has}
use Rattle.fp_timenodes.proofs.Floors.{IsFloorPoint-floor_point, floor_mono}
use Rattle.fp_flatnet.specs.declared.window_tables.Window.{Window}
use Rattle.fp_longestarcs.specs.Ascending.{ArePoints}
use Rattle.fp_base_lists.specs.Ascending.{place_in}
use Rattle.fp_longestarcs.specs.Networks.{IsClass, IsNetwork, TimedNetwork, class_count, class_number, first_class, points_in, tail_in}
use Rattle.fp_longestarcs.proofs.ClassNumbers.{first-mono, number-below, number-within, tail-points}
use Rattle.fp_base_lists.proofs.Places.{place_in-lt, place_in_mono}
use Rattle.fp_rows.specs.Bits.{with_range}
use Rattle.fp_allowed.specs.Bits.{FillsArc, bit_of}
use Rattle.fp_allowed.specs.Moments.{in_range, is_between}
use Rattle.fp_allowed.proofs.RowBits.{bit_of-with_range, length-with_range}

-- so places tell whether a point is between two others
places-tell : (qs : List ℕ) (base f q g : ℕ) → AllPairs (λ a b. a < b) qs → list_has qs f ≡ true → list_has qs q ≡ true → list_has qs g ≡ true →
    in_range (base + place_in qs f) (base + place_in qs g + 1) (base + place_in qs q) ≡ (nat_le f q && nat_le q g)
places-tell qs base f q g up first here last =
    ⊎_elim
    (λ (early : q < f).
    let behind = place_in-lt qs q f up here first early in
    rw (lt-leb f q early, lt-leb (base + place_in qs f) (base + place_in qs q) (omega (arith, behind))) refl)
    (λ (after : f ≤ q).
    let ahead = place_in_mono qs f q up first here after in
    ⊎_elim
    (λ (late : g < q).
    let past = place_in-lt qs g q up last here late in
    rw (le-leb f q after, lt-leb q g late, le-leb (base + place_in qs f) (base + place_in qs q) (omega (arith, ahead)), le-ltb (base + place_in qs q) (base + place_in qs g + 1) (omega (arith, past))) refl)
    (λ (until : q ≤ g).
    let within = place_in_mono qs q g up here last until in
    rw (le-leb f q after, le-leb q g until, le-leb (base + place_in qs f) (base + place_in qs q) (omega (arith, ahead)), lt-ltb (base + place_in qs q) (base + place_in qs g + 1) (omega (arith, within))) refl)
    (cases_lt g q))
    (cases_lt q f)

-- the class of an arc that leaves at the greatest point not after a time
abbrev class_until : TimedNetwork → ℕ → ℕ → Leg
class_until net arc at = record { arc = arc; depart = floor_point (points_in net (tail_in net arc)) 1 at }

module _ (net : TimedNetwork) (arc : ℕ) (valid : IsNetwork net) (exists : arc < length net.tails) where
  are : ArePoints (points_in net (tail_in net arc))
  are = tail-points net arc valid exists

  class_until-is : (at : ℕ) → IsClass net (class_until net arc at)
  class_until-is at = (exists, (IsFloorPoint-floor_point (points_in net (tail_in net arc)) at are.zero).0)

  numbers_order : (w : Window) → w.lo ≤ w.hi → class_number net (class_until net arc w.lo) ≤ class_number net (class_until net arc w.hi) + 1
  numbers_order w some =
      let qs : List ℕ = points_in net (tail_in net arc) in
      omega (arith, place_in_mono qs (floor_point qs 1 w.lo) (floor_point qs 1 w.hi) are.ascending (class_until-is w.lo).1 (class_until-is w.hi).1 (floor_mono qs 1 w.lo w.hi (omega (arith, some))))

  numbers_within : (w : Window) → class_number net (class_until net arc w.hi) + 1 ≤ class_count net
  numbers_within w = omega (arith, number-within net (class_until net arc w.hi) valid (class_until-is w.hi))

  -- whether the number of a class is in the range
  range-tells : (w : Window) (c : Leg) → IsClass net c →
      in_range (class_number net (class_until net arc w.lo)) (class_number net (class_until net arc w.hi) + 1) (class_number net c)
      ≡ (nat_eq c.arc arc && is_between (points_in net (tail_in net arc)) (Some w) c.depart)
  range-tells w c is =
      let first : ℕ = class_number net (class_until net arc w.lo) in
      let last : ℕ = class_number net (class_until net arc w.hi) in
      let begin : first_class net arc ≤ first = omega arith in
      let end : last < first_class net (arc + 1) = number-below net (class_until net arc w.hi) valid (class_until-is w.hi) in
      ⊎_elim
      (λ (same : c.arc ≡ arc).
      let qs : List ℕ = points_in net (tail_in net arc) in
      let there : list_has qs c.depart ≡ true = subst (λ (a : ℕ). list_has (points_in net (tail_in net a)) c.depart ≡ true) same is.1 in
      let number : class_number net c ≡ first_class net arc + place_in qs c.depart = ap (λ (a : ℕ). class_number net (record { arc = a; depart = c.depart })) same in
      rw (eq-eqb c.arc arc same, number) (places-tell qs (first_class net arc) (floor_point qs 1 w.lo) c.depart (floor_point qs 1 w.hi) are.ascending (class_until-is w.lo).1 there (class_until-is w.hi).1))
      (λ (apart : (c.arc < arc) ⊎ (arc < c.arc)).
      ⊎_elim
      (λ (less : c.arc < arc).
      let before : class_number net c < first = omega (arith, number-below net c valid is, later c.arc arc less exists, begin) in
      rw (ne_eqb c.arc arc (λ e. absurd (omega (arith, e, less))), lt-leb first (class_number net c) before) refl)
      (λ (more : arc < c.arc).
      let past : last + 1 ≤ class_number net c = omega (arith, end, later arc c.arc more is.0) in
      rw (ne_eqb c.arc arc (λ e. absurd (omega (arith, e, more))), le-ltb (class_number net c) (last + 1) past) (at-right (nat_le first (class_number net c))))
      apart)
      (cases_order c.arc arc)
    where
      at-right : (b : Bool) → (b && false) ≡ false
      at-right true = refl
      at-right false = refl

      later : (a b : ℕ) → a < b → b < length net.tails → first_class net (a + 1) ≤ first_class net b
      later a b less h =
          let e : a + 1 + (b - (a + 1)) ≡ b = omega arith in
          subst (λ (n : ℕ). first_class net (a + 1) ≤ first_class net n) e (first-mono net (b - (a + 1)) (a + 1) (omega arith))

  -- a bit filled or not
  filled-bit : (t old : Bool) → cond t true old ≡ (old || t)
  filled-bit true true = refl
  filled-bit true false = refl
  filled-bit false true = refl
  filled-bit false false = refl

  fills : (w : Window) (row : List Bool) → w.lo ≤ w.hi → length row ≡ class_count net →
      FillsArc net arc (λ c. is_between (points_in net (tail_in net arc)) (Some w) c.depart) row
      (with_range row (class_number net (class_until net arc w.lo)) (class_number net (class_until net arc w.hi) + 1) true)
  fills w row some long =
      let first : ℕ = class_number net (class_until net arc w.lo) in
      let end : ℕ = class_number net (class_until net arc w.hi) + 1 in
      let order : first ≤ end = numbers_order w some in
      let within : end ≤ length row = omega (arith, numbers_within w, long) in
      record {
        long = length-with_range row first end true order within;
        bits = λ c is.
            bit_of-with_range row first end true order within (class_number net c) ∙
            ap (λ (t : Bool). cond t true (bit_of row (class_number net c))) (range-tells w c is) ∙
            filled-bit (nat_eq c.arc arc && is_between (points_in net (tail_in net arc)) (Some w) c.depart) (bit_of row (class_number net c));
      }

-- the same, where the numbers are given
pub fills_between : (net : TimedNetwork) (arc tail first last : ℕ) (w : Window) (old new : List Bool) → IsNetwork net → arc < length net.tails → tail ≡ tail_in net arc → w.lo ≤ w.hi →
    length old ≡ class_count net → first ≡ class_number net (record { arc = arc; depart = floor_point (points_in net tail) 1 w.lo }) →
    last ≡ class_number net (record { arc = arc; depart = floor_point (points_in net tail) 1 w.hi }) → new ≡ with_range old first (last + 1) true →
    FillsArc net arc (λ c. is_between (points_in net tail) (Some w) c.depart) old new
fills_between net arc tail first last w old new valid exists leaves some long first_is last_is is =
    rw (is, first_is, last_is, leaves) (fills net arc valid exists w old some long)

-- the class of an arc that leaves at the greatest point not after a time, where the time's point is
-- given
pub is_class-until : (net : TimedNetwork) (arc tail at point : ℕ) → IsNetwork net → arc < length net.tails → tail ≡ tail_in net arc → point ≡ floor_point (points_in net tail) 1 at →
    IsClass net (record { arc = arc; depart = point })
is_class-until net arc tail at point valid exists leaves is = rw (is, leaves) (class_until-is net arc valid exists at)

-- the range is one of the row's
pub range_within : (net : TimedNetwork) (arc tail first last : ℕ) (w : Window) → IsNetwork net → arc < length net.tails → tail ≡ tail_in net arc → w.lo ≤ w.hi →
    first ≡ class_number net (record { arc = arc; depart = floor_point (points_in net tail) 1 w.lo }) →
    last ≡ class_number net (record { arc = arc; depart = floor_point (points_in net tail) 1 w.hi }) → (first ≤ last + 1) × (last + 1 ≤ class_count net)
range_within net arc tail first last w valid exists leaves some first_is last_is =
    rw (first_is, last_is, leaves) (numbers_order net arc valid exists w some, numbers_within net arc valid exists w)
