-- The trucks of a plan are counted so that a leg leaves only where some are.
use Rattle.std.proofs.Common.{◌≡◌, ℕ, ◌*◌, ◌<◌, ◌≤◌, true, List, [], ◌∷◌, length, map, ⊎_elim, sym, ◌∙◌, subst}
use Rattle.std.specs.Prelude.{nat_eq, nat_le, nat_lt, ◌&&◌}
use Rattle.std.specs.List.{AllByRecursion, AllZip}
use Rattle.std.proofs.lemmas.Bool.{and_from, cases_lt, eq-eqb, false≢true, le-leb, lt-ltb, or_left, or_right}
use Rattle.fp_base_lists.proofs.Elements.{AllByRecursion-get_or_default}
use Rattle.fp_base_lists.proofs.Maps.{get_or-map_default}
use Rattle.fp_model.specs.declared.parts.Leg.{Leg}
use Rattle.fp_model.specs.declared.parts.Shipment.{Shipment}
use Rattle.fp_model.specs.Costs.{all_legs, has_leg, same_leg}
use Rattle.fp_model.specs.Numbered.{route_at}
use Rattle.fp_model.specs.Plans.{IsPlan}
use Rattle.fp_model.specs.Problem.{IsValid, Problem}
use Rattle.fp_model.specs.Routes.{Carries, arcs_of}
use Rattle.fp_model.specs.TruckCounts.{trucks_between}
use Rattle.fp_model.proofs.Bounds.{Leads-exist}
use Rattle.fp_model.proofs.Distinct.{same_leg-refl}
use Rattle.fp_model.proofs.Members.{has_leg-all_legs}
use Rattle.fp_model.proofs.TruckCounts.{trucks_between-none}
use Rattle.fp_tree.specs.Sides.{AreCounts, Exit, IsOutside}
use Rattle.fp_allowed.specs.Allowed.{exit_of}

-- the legs of a plan go by arcs that exist
legs-exist : (p : Problem) (d : ℕ) (shipments : List Shipment) (plan : List (List Leg)) → AllZip (Carries p d) shipments plan → AllByRecursion (λ legs. AllByRecursion (λ a. a < length p.arcs) (arcs_of legs)) plan
legs-exist p d [] [] is = tt
legs-exist p d [] (r ∷ plan) is = absurd is
legs-exist p d (s ∷ shipments) [] is = absurd is
legs-exist p d (s ∷ shipments) (r ∷ plan) is = (Leads-exist p s.from (arcs_of r) s.to is.0.route.leads, legs-exist p d shipments plan is.1)

module _ (p : Problem) (d : ℕ) (plan : List (List Leg)) (valid : IsValid p) (is : IsPlan p d plan) (arc point until : ℕ) (none : trucks_between p d plan arc point until ≡ 0) where
  -- where no truck leaves, a leg of the plan doesn't
  leg-outside : (l : Leg) → l.arc < length p.arcs → has_leg l (all_legs plan) ≡ true → IsOutside d arc point until (exit_of p l)
  leg-outside l exists has = λ same begun.
      ⊎_elim
      (λ (early : l.depart < d * until).
      absurd
      (false≢true
      (sym (trucks_between-none p d plan arc point until l valid is none exists has)
      ∙ and_from (nat_eq arc l.arc) (nat_le (d * point) l.depart && nat_lt l.depart (d * until)) (eq-eqb arc l.arc (sym same))
      (and_from (nat_le (d * point) l.depart) (nat_lt l.depart (d * until)) (le-leb (d * point) l.depart begun) (lt-ltb l.depart (d * until) early)))))
      (λ (late : d * until ≤ l.depart). late)
      (cases_lt l.depart (d * until))

  legs-outside : (legs : List Leg) → ((l : Leg) → has_leg l legs ≡ true → has_leg l (all_legs plan) ≡ true) → AllByRecursion (λ a. a < length p.arcs) (arcs_of legs) →
      AllByRecursion (IsOutside d arc point until) (map (exit_of p) legs)
  legs-outside [] had exist = tt
  legs-outside (l ∷ legs) had exist = (
    leg-outside l exist.0 (had l (or_left (same_leg l l) (has_leg l legs) (same_leg-refl l))),
    legs-outside legs (λ k h. had k (or_right (same_leg k l) (has_leg k legs) h)) exist.1,
  )

  route-outside : (k : ℕ) → AllByRecursion (IsOutside d arc point until) (map (exit_of p) (route_at plan k))
  route-outside k =
      legs-outside (route_at plan k) (λ l h. has_leg-all_legs plan k l h)
      (AllByRecursion-get_or_default (λ legs. AllByRecursion (λ a. a < length p.arcs) (arcs_of legs)) plan k [] (legs-exist p d p.shipments plan is) tt)

-- the trucks between two times are counts of the plan's legs
pub plan-counts : (p : Problem) (d : ℕ) (plan : List (List Leg)) → IsValid p → IsPlan p d plan → AreCounts d (map (map (exit_of p)) plan) (trucks_between p d plan)
plan-counts p d plan valid is = λ arc point until none k.
    subst (λ (exits : List Exit). AllByRecursion (IsOutside d arc point until) exits) (sym (get_or-map_default (map (exit_of p)) plan k [])) (route-outside p d plan valid is arc point until none k)
