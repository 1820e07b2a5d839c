-- A plan that uses no class which is barred obeys the bars, over every denominator.
use Rattle.std.proofs.Common.{◌≡◌, ℕ, ◌+◌, ◌*◌, ◌/◌, ◌<◌, ◌≤◌, Bool, true, false, List, [], ◌∷◌, length, map, ⊎_elim, inl, inr, refl, ap, ◌∙◌, sym, subst, arith}
use Rattle.std.specs.Prelude.{◌&&◌, ◌⊎◌, nat_eq, nat_le, nat_lt, not, slice_index_or}
use Rattle.std.specs.List.{AllByRecursion}
use Rattle.std.proofs.Math.Nat.{le-div_iff_mul-le}
use Rattle.std.proofs.lemmas.Bool.{and_parts, cases_lt, eq-eqb, false≢true, le-leb, lt-ltb}
use Rattle.std.proofs.lemmas.List.Elements.{recursion_from_All}
use Rattle.fp_base_lists.proofs.Elements.{AllByRecursion-from_get_or, AllByRecursion-weaker}
use Rattle.fp_base_lists.proofs.Numbered.{AllFrom-from_get_or}
use Rattle.fp_model.specs.declared.limits.TheConstants.{LATEST}
use Rattle.fp_model.specs.declared.parts.Leg.{Leg}
use Rattle.fp_model.specs.Numbered.{route_at}
use Rattle.fp_model.specs.Problem.{Problem, arc_at}
use Rattle.fp_model.specs.TruckCounts.{trucks_between}
use Rattle.fp_timenodes.proofs.Floors.{floor_whole}
use Rattle.fp_longestarcs.specs.Classes.{class_of}
use Rattle.fp_tree.specs.declared.sides.Side.{Side}
use Rattle.fp_tree.specs.declared.sides.Side.TheVariants.{Without, Only, Before, From, AtMost, MoreThan, Through, Outside}
use Rattle.fp_tree.specs.Sides.{Counts, Exit, HasCount, HasWay, Meets, MeetsAll}
use Rattle.fp_allowed.specs.Allowed.{PlanObeys, exit_of, meets, meets_all}
use Rattle.fp_prices_spans.specs.SpanBars.{AreBarsOf, IsBar}

-- bars ask for no trucks and for no way
counts-free : (p : Problem) (counts : Counts) (side : Side) → IsBar p side → HasCount counts side
counts-free p counts (Without shipment arc) is = absurd is
counts-free p counts (Only shipment arc tail) is = absurd is
counts-free p counts (Before shipment terminal at) is = absurd is
counts-free p counts (From shipment terminal at) is = absurd is
counts-free p counts (AtMost arc point until trucks) is = absurd is
counts-free p counts (MoreThan arc point until trucks) is = absurd is
counts-free p counts (Through shipment arc) is = absurd is
counts-free p counts (Outside shipment arc point until) is = tt

ways-free : (p : Problem) (routes : List (List Exit)) (side : Side) → IsBar p side → HasWay routes side
ways-free p routes (Without shipment arc) is = absurd is
ways-free p routes (Only shipment arc tail) is = absurd is
ways-free p routes (Before shipment terminal at) is = absurd is
ways-free p routes (From shipment terminal at) is = absurd is
ways-free p routes (AtMost arc point until trucks) is = absurd is
ways-free p routes (MoreThan arc point until trucks) is = absurd is
ways-free p routes (Through shipment arc) is = absurd is
ways-free p routes (Outside shipment arc point until) is = tt

-- the leg at the whole moment below its own
abbrev whole_leg : ℕ → Leg → Leg
whole_leg d l = record { arc = l.arc; depart = l.depart / d }

-- a leg that meets a run at the whole moment below its own, or leaves after the run there, meets it
outside-whole : (d k shipment arc point until : ℕ) (l : Leg) → 0 < d →
    (until ≤ l.depart / d) ⊎ (not (nat_eq k shipment && nat_eq l.arc arc && nat_le point (l.depart / d) && nat_lt (l.depart / d) until) ≡ true) →
    k ≡ shipment → l.arc ≡ arc → d * point ≤ l.depart → d * until ≤ l.depart
outside-whole d k shipment arc point until l h either own same begun =
    let early : point ≤ l.depart / d = (le-div_iff_mul-le h).1 (omega (arith, begun)) in
    let ends : until ≤ l.depart / d → d * until ≤ l.depart = λ late. omega (arith, (le-div_iff_mul-le h).0 late) in
    ⊎_elim
    ends
    (λ (test : not (nat_eq k shipment && nat_eq l.arc arc && nat_le point (l.depart / d) && nat_lt (l.depart / d) until) ≡ true).
    ⊎_elim
    (λ (inside : l.depart / d < until).
    let none : not (nat_eq k shipment && nat_eq l.arc arc && nat_le point (l.depart / d) && nat_lt (l.depart / d) until) ≡ false =
    rw (eq-eqb k shipment own, eq-eqb l.arc arc same, le-leb point (l.depart / d) early, lt-ltb (l.depart / d) until inside) refl in
    absurd (false≢true (sym none ∙ test)))
    ends
    (cases_lt (l.depart / d) until))
    either

module _ (p : Problem) (d k : ℕ) (l : Leg) (h : 0 < d) where
  -- so of bars
  meets-bar : (side : Side) → IsBar p side → (LATEST < l.depart / d) ⊎ (meets k (exit_of p (whole_leg d l)) side ≡ true) → Meets d k (exit_of p l) side
  meets-bar (Without shipment arc) is either = absurd is
  meets-bar (Only shipment arc tail) is either = absurd is
  meets-bar (Before shipment terminal at) is either = absurd is
  meets-bar (From shipment terminal at) is either = absurd is
  meets-bar (AtMost arc point until trucks) is either = absurd is
  meets-bar (MoreThan arc point until trucks) is either = absurd is
  meets-bar (Through shipment arc) is either = absurd is
  meets-bar (Outside shipment arc point until) is either = λ own same begun.
      outside-whole d k shipment arc point until l h (⊎_elim (λ (late : LATEST < l.depart / d). inl (omega (arith, late, is.2))) (λ test. inr test) either) own same begun

  meets-bars : (bars : List Side) → AllByRecursion (IsBar p) bars → (LATEST < l.depart / d) ⊎ (meets_all k bars (exit_of p (whole_leg d l)) ≡ true) → MeetsAll d k bars (exit_of p l)
  meets-bars [] are either = tt
  meets-bars (side ∷ bars) are either =
      ⊎_elim
      (λ (late : LATEST < l.depart / d). (meets-bar side are.0 (inl late), meets-bars bars are.1 (inl late)))
      (λ (test : (meets k (exit_of p (whole_leg d l)) side && meets_all k bars (exit_of p (whole_leg d l))) ≡ true).
      let both = and_parts (meets k (exit_of p (whole_leg d l)) side) (meets_all k bars (exit_of p (whole_leg d l))) test in
      (meets-bar side are.0 (inr both.0), meets-bars bars are.1 (inr both.1)))
      either

-- so a plan obeys bars that bar what they say, where each leg's arc exists and its class isn't barred for its shipment
pub obeys-bars : (p : Problem) (points : ℕ → List ℕ) (IsBarred : (shipment : ℕ) → Leg → Type 0) (bars : List Side) (d : ℕ) (plan : List (List Leg)) → AreBarsOf p points IsBarred bars → 0 < d → length plan ≤ length p.shipments →
    ((k i : ℕ) (none : Leg) → k < length p.shipments → i < length (route_at plan k) → (slice_index_or (route_at plan k) i none).arc < length p.arcs) →
    ((k i : ℕ) (none : Leg) → k < length p.shipments → i < length (route_at plan k) → IsBarred k (class_of p points d (slice_index_or (route_at plan k) i none)) → ⊥) → PlanObeys p d bars plan
obeys-bars p points IsBarred bars d plan are h few exist free = record {
  legs = AllFrom-from_get_or (λ k r. AllByRecursion (λ (l : Leg). MeetsAll d k bars (exit_of p l)) r) plan [] 0
      (λ k lt. subst (λ (n : ℕ). AllByRecursion (λ (l : Leg). MeetsAll d n bars (exit_of p l)) (route_at plan k)) (let e : k ≡ 0 + k = omega arith in e)
      (AllByRecursion-from_get_or (λ (l : Leg). MeetsAll d k bars (exit_of p l)) (route_at plan k) none (λ i at. leg k (omega (arith, lt, few)) i at)));
  trucks = AllByRecursion-weaker (IsBar p) (HasCount (trucks_between p d plan)) (counts-free p (trucks_between p d plan)) bars each;
  ways = AllByRecursion-weaker (IsBar p) (HasWay (map (map (exit_of p)) plan)) (ways-free p (map (map (exit_of p)) plan)) bars each;
}
  where
    none : Leg
    none = record { arc = 0; depart = 0 }

    each : AllByRecursion (IsBar p) bars
    each = recursion_from_All (IsBar p) bars are.are

    leg : (k : ℕ) → k < length p.shipments → (i : ℕ) → i < length (route_at plan k) → MeetsAll d k bars (exit_of p (slice_index_or (route_at plan k) i none))
    leg k exists i at =
        let l : Leg = slice_index_or (route_at plan k) i none in
        meets-bars p d k l h bars each
        (⊎_elim (λ (late : LATEST < l.depart / d). inl late)
        (λ (timely : l.depart / d ≤ LATEST).
        let whole : class_of p points 1 (whole_leg d l) ≡ class_of p points d l =
        ap (λ (q : ℕ). record { arc = l.arc; depart = q }) (floor_whole (points (arc_at p l.arc).from) d l.depart h) in
        inr ((are.exact k (whole_leg d l) exists (exist k i none exists at) timely).1
        (λ barred. free k i none exists at (subst (IsBarred k) whole barred))))
        (cases_lt LATEST (l.depart / d)))
