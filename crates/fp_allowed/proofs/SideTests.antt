-- When a leg meets sides: at the whole moment below its own, and as a test.
use Rattle.std.proofs.Common.{◌≡◌, ℕ, ◌*◌, ◌/◌, ◌<◌, ◌≤◌, Bool, true, false, ◌&&◌, ◌||◌, List, [], ◌∷◌, ⊎_elim, refl, arith}
use Rattle.std.specs.Prelude.{◌≢◌, nat_eq, nat_lt, nat_le, not}
use Rattle.std.proofs.Math.Nat.{le-div_iff_mul-le, div-lt_iff_lt-mul}
use Rattle.std.proofs.lemmas.Bool.{cases_lt, le-leb, le-ltb, lt-leb, lt-ltb, eq-eqb, or_right, ne_eqb}
use Rattle.std.proofs.lemmas.Bool.Decides.{eqb_tells}
use Rattle.fp_tree.specs.declared.sides.Side.{Side}
use Rattle.fp_tree.specs.declared.sides.Side.TheVariants.{Without, Only, Before, From, AtMost, MoreThan, Through, Outside}
use Rattle.fp_tree.specs.Sides.{Exit, IsOutside, Meets, MeetsAll}
use Rattle.fp_allowed.specs.Allowed.{meets, meets_all}

-- the leg with the whole moment below its moment over the denominator d
abbrev pub whole_exit : ℕ → Exit → Exit
whole_exit d e = record { arc = e.arc; tail = e.tail; moment = e.moment / d; is_rival = e.is_rival }

-- the whole moment below one outside a run is outside it
outside_whole : (d : ℕ) (e : Exit) (arc point until : ℕ) → 0 < d → IsOutside d arc point until e → IsOutside 1 arc point until (whole_exit d e)
outside_whole d e arc point until h is = λ same begun.
    let early : point ≤ e.moment / d = omega (arith, begun) in
    let begins : point * d ≤ e.moment = (le-div_iff_mul-le h).0 early in
    let ended : until * d ≤ e.moment = omega (arith, is same (omega (arith, begins))) in
    let whole : until ≤ e.moment / d = (le-div_iff_mul-le h).1 ended in
    omega arith

-- the whole moment below one that meets a side meets it
meets_whole : (d k : ℕ) (e : Exit) (side : Side) → 0 < d → Meets d k e side → Meets 1 k (whole_exit d e) side
meets_whole d k e (Without shipment arc) h is = is
meets_whole d k e (Only shipment arc tail) h is = is
meets_whole d k e (Before shipment terminal at) h is = λ same leaves.
    let below : e.moment < at * d = omega (arith, is same leaves) in
    let whole : e.moment / d < at = (div-lt_iff_lt-mul h).1 below in
    omega arith
meets_whole d k e (From shipment terminal at) h is = λ same leaves.
    let below : at * d ≤ e.moment = omega (arith, is same leaves) in
    let whole : at ≤ e.moment / d = (le-div_iff_mul-le h).1 below in
    omega arith
meets_whole d k e (AtMost arc point until trucks) h is = λ none. outside_whole d e arc point until h (is none)
meets_whole d k e (MoreThan arc point until trucks) h is = tt
meets_whole d k e (Through shipment arc) h is = is
meets_whole d k e (Outside shipment arc point until) h is = λ own. outside_whole d e arc point until h (is own)

-- a test that asks for something where two pairs of numbers are equal
if_both : (a b c d : ℕ) (t : Bool) → (a ≡ b → c ≡ d → t ≡ true) → (not (nat_eq a b && nat_eq c d) || t) ≡ true
if_both a b c d t h =
    ⊎_elim
    (λ (first : (nat_eq a b ≡ true) × (a ≡ b)).
    ⊎_elim
    (λ (second : (nat_eq c d ≡ true) × (c ≡ d)). or_right (not (nat_eq a b && nat_eq c d)) t (h first.1 second.1))
    (λ (second : (nat_eq c d ≡ false) × (c ≢ d)). rw (first.0, second.0) refl)
    (eqb_tells c d))
    (λ (first : (nat_eq a b ≡ false) × (a ≢ b)). rw first.0 refl)
    (eqb_tells a b)

-- a leg that is outside a run where two numbers are equal passes the test of that
outside_true : (a b : ℕ) (e : Exit) (arc point until : ℕ) → (a ≡ b → IsOutside 1 arc point until e) →
    not (nat_eq a b && nat_eq e.arc arc && nat_le point e.moment && nat_lt e.moment until) ≡ true
outside_true a b e arc point until m =
    ⊎_elim
    (λ (asked : (nat_eq a b ≡ true) × (a ≡ b)).
    ⊎_elim
    (λ (same : (nat_eq e.arc arc ≡ true) × (e.arc ≡ arc)).
    ⊎_elim
    (λ (early : e.moment < point). rw (asked.0, same.0, lt-leb point e.moment early) refl)
    (λ (begun : point ≤ e.moment).
    let ended : until ≤ e.moment = omega (arith, m asked.1 same.1 (omega (arith, begun))) in
    rw (asked.0, same.0, le-leb point e.moment begun, le-ltb e.moment until ended) refl)
    (cases_lt e.moment point))
    (λ (other : (nat_eq e.arc arc ≡ false) × (e.arc ≢ arc)). rw (asked.0, other.0) refl)
    (eqb_tells e.arc arc))
    (λ (free : (nat_eq a b ≡ false) × (a ≢ b)). rw free.0 refl)
    (eqb_tells a b)

-- what meets a side at a whole moment passes the test
meets_true : (k : ℕ) (e : Exit) (side : Side) → Meets 1 k e side → meets k e side ≡ true
meets_true k e (Without shipment arc) m =
    ⊎_elim
    (λ (first : (nat_eq k shipment ≡ true) × (k ≡ shipment)). rw (first.0, ne_eqb e.arc arc (m first.1)) refl)
    (λ (first : (nat_eq k shipment ≡ false) × (k ≢ shipment)). rw first.0 refl)
    (eqb_tells k shipment)
meets_true k e (Only shipment arc tail) m = if_both k shipment e.tail tail (nat_eq e.arc arc) (λ same leaves. eq-eqb e.arc arc (m same leaves))
meets_true k e (Before shipment terminal at) m = if_both k shipment e.tail terminal (nat_lt e.moment at) (λ same leaves. lt-ltb e.moment at (omega (arith, m same leaves)))
meets_true k e (From shipment terminal at) m = if_both k shipment e.tail terminal (nat_le at e.moment) (λ same leaves. le-leb at e.moment (omega (arith, m same leaves)))
meets_true k e (AtMost arc point until trucks) m = outside_true trucks 0 e arc point until m
meets_true k e (MoreThan arc point until trucks) m = refl
meets_true k e (Through shipment arc) m =
    ⊎_elim
    (λ (own : (nat_eq k shipment ≡ true) × (k ≡ shipment)). rw (own.0, m own.1) refl)
    (λ (other : (nat_eq k shipment ≡ false) × (k ≢ shipment)). rw other.0 refl)
    (eqb_tells k shipment)
meets_true k e (Outside shipment arc point until) m = outside_true k shipment e arc point until m

-- what meets sides over a denominator passes all their tests at the whole moment below
pub meets_all_true : (d k : ℕ) (e : Exit) (sides : List Side) → 0 < d → MeetsAll d k sides e → meets_all k sides (whole_exit d e) ≡ true
meets_all_true d k e [] h all = refl
meets_all_true d k e (side ∷ sides) h all = rw (meets_true k (whole_exit d e) side (meets_whole d k e side h all.0), meets_all_true d k e sides h all.1) refl
