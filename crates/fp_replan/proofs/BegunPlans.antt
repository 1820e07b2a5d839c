-- Plans whose routes begin with kept legs and go on from them.
use Rattle.std.proofs.Common.{◌≡◌, ℕ, ◌*◌, ◌<◌, ◌++◌, List, [], ◌∷◌, length, map, refl, sym, ap, ap₂, ◌∙◌, arith}
use Rattle.std.specs.Prelude.{slice_index_or}
use Rattle.std.specs.declared.alloc.Global.{Global}
use Rattle.std.specs.declared.vec.Vec.{Vec}
use Rattle.std.proofs.lemmas.List.{length-map}
use Rattle.std.proofs.lemmas.Slice.Zip.{AllZip-long}
use Rattle.fp_base_lists.specs.Vectors.{lists_of}
use Rattle.fp_base_lists.proofs.Maps.{lists_of-get_or}
use Rattle.fp_base_lists.proofs.Numbered.{AllFrom-get_or_zero, AllZip-from_get_or, AllZip-get_or}
use Rattle.fp_model.specs.declared.parts.Leg.{Leg}
use Rattle.fp_model.specs.declared.parts.Shipment.{Shipment}
use Rattle.fp_model.specs.Numbered.{no_shipment, route_at, shipment_at}
use Rattle.fp_model.specs.Plans.{IsPlan}
use Rattle.fp_model.specs.Problem.{Problem}
use Rattle.fp_model.specs.Routes.{Carries}
use Rattle.fp_replan.specs.declared.kept.Kept.{Kept}
use Rattle.fp_replan.specs.Beginnings.{AreBeginnings}
use Rattle.fp_replan.specs.KeptLegs.{BeginWith, Keeps, kept_of, scaled}
use Rattle.fp_replan.specs.KeptWindows.{CanBeKept}
use Rattle.fp_replan.specs.Starts.{GoOn, GoesOnFrom, HasLegsFrom, IsStuck}
use Rattle.fp_replan.proofs.KeptRoutes.{AllFrom-from_zero}

-- over the denominator 1 legs are what they are
pub scaled-one : (legs : List Leg) → map (scaled 1) legs ≡ legs
scaled-one [] = refl
scaled-one (l ∷ legs) =
    let leg : ℕ → Leg = λ n. record { arc = l.arc; depart = n } in
    let same : 1 * l.depart ≡ l.depart = omega arith in
    ap₂ (λ (x : Leg) (xs : List Leg). x ∷ xs) (ap leg same) (scaled-one legs)

begin-with : (p : Problem) (s : Shipment) (front legs : List Leg) → GoesOnFrom p s front legs → BeginWith 1 front legs
begin-with p s front legs goes = (goes.0, goes.1 ∙ ap (λ (xs : List Leg). xs ++ goes.0) (sym (scaled-one front)))

-- a route of a shipment that carries it and begins with its kept legs
abbrev pub IsBegunRoute : Problem → List Kept → ℕ → List Leg → Type 0
IsBegunRoute p kept k legs = Carries p 1 (shipment_at p k) legs × GoesOnFrom p (shipment_at p k) (kept_of kept k) legs

pub HasLegsFrom-route : (p : Problem) (kept : List Kept) (k : ℕ) (legs : List Leg) → IsBegunRoute p kept k legs → HasLegsFrom p (shipment_at p k) (kept_of kept k)
HasLegsFrom-route p kept k legs is = (1, legs, omega arith, is.0, begin-with p (shipment_at p k) (kept_of kept k) legs is.1)

-- routes of all shipments are a plan that keeps the legs
pub record AreBegun (p : Problem) (kept : List Kept) (routes : List (List Leg)) : Type 0 where
  pub plan : IsPlan p 1 routes
  pub keeps : Keeps kept 1 routes
  pub go_on : GoOn p kept routes

pub AreBegun-routes : (p : Problem) (kept : List Kept) (routes : List (List Leg)) → length routes ≡ length p.shipments →
    ((k : ℕ) → k < length p.shipments → IsBegunRoute p kept k (route_at routes k)) → AreBegun p kept routes
AreBegun-routes p kept routes long each = record {
  plan = AllZip-from_get_or (Carries p 1) p.shipments routes no_shipment [] long (λ k lt. (each k lt).0);
  keeps = AllFrom-from_zero (λ k legs. BeginWith 1 (kept_of kept k) legs) routes []
      (λ k lt. begin-with p (shipment_at p k) (kept_of kept k) (route_at routes k) (each k (omega (arith, lt, long))).1);
  go_on = AllFrom-from_zero (λ k legs. GoesOnFrom p (shipment_at p k) (kept_of kept k) legs) routes [] (λ k lt. (each k (omega (arith, lt, long))).1);
}

-- where a shipment is stuck no plan keeps the legs
pub none-kept : (p : Problem) (kept : List Kept) (k : ℕ) → IsStuck p kept k → CanBeKept p kept → ⊥
none-kept p kept k stuck can =
    let d : ℕ = can.0 in
    let routes : List (List Leg) = can.1 in
    let there : k < length routes = omega (arith, stuck.exists, AllZip-long (Carries p d) p.shipments routes can.3) in
    stuck.none (
      d,
      route_at routes k,
      can.2,
      AllZip-get_or (Carries p d) p.shipments routes k no_shipment [] can.3 stuck.exists,
      AllFrom-get_or_zero (λ j legs. BeginWith d (kept_of kept j) legs) routes [] k can.4 there,
    )

-- the legs that a loop over the kept legs of all shipments reads are those of the shipment with the
-- number
pub front-read : (kept : List Kept) (count : ℕ) (vectors items : List (Vec Leg Global)) (n : ℕ) (v : Vec Leg Global) (legs : List Leg) → items ≡ vectors →
    AreBeginnings kept count (lists_of vectors) → n < length items → v ≡ slice_index_or items n v → legs ≡ v.items → (legs ≡ kept_of kept n) × (n < count)
front-read kept count vectors items n v legs same are lt is read =
    let there : n < length vectors = omega (arith, lt, ap (λ (vs : List (Vec Leg Global)). length vs) same) in
    let within : n < count = omega (arith, there, are.one_each, length-map vectors (λ (w : Vec Leg Global). w.items)) in
    let at : v ≡ slice_index_or vectors n v = is ∙ ap (λ (vs : List (Vec Leg Global)). slice_index_or vs n v) same in
    (read ∙ ap (λ (w : Vec Leg Global). w.items) at ∙ sym (lists_of-get_or vectors n v there) ∙ are.exact n within, within)
