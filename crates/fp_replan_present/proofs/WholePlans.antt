-- Whole routes, of settled legs and a plan of what is left.
use Rattle.std.proofs.Common.{◌≡◌, ℕ, ◌<◌, List, [], ◌++◌, length, sym, ap, ◌∙◌, arith}
use Rattle.std.specs.Prelude.{cond}
use Rattle.std.proofs.lemmas.List.{ext_get_or}
use Rattle.fp_base_lists.specs.Ascending.{place_in}
use Rattle.fp_base_lists.specs.Membership.{list_has}
use Rattle.fp_model.specs.declared.parts.Leg.{Leg}
use Rattle.fp_model.specs.Numbered.{route_at}
use Rattle.fp_model.specs.Problem.{Problem}
use Rattle.fp_replan.proofs.BegunPlans.{scaled-one}
use Rattle.fp_replan_present.specs.declared.rests.Rest.{Rest}
use Rattle.fp_replan_present.specs.Days.{Day}
use Rattle.fp_replan_present.specs.Plans.{settled_legs}
use Rattle.fp_replan_present.specs.Rests.{IsRest, is_left, joined, left_numbers, rest_of, whole_of}
use Rattle.fp_replan_present.proofs.Numbers.{get_or-listed, length-listed, passing-tells}

-- the whole route of the shipment with a number, of what a rest has
abbrev pub whole_at : Rest → List (List Leg) → ℕ → List Leg
whole_at rest plan k = route_at rest.settled k ++ cond (list_has rest.numbers.items k) (route_at plan (place_in rest.numbers.items k)) []

-- where each is such they are the whole routes
pub joined-each : (p : Problem) (day : Day) (rest : Rest) (routes plan : List (List Leg)) → IsRest p day rest → length routes ≡ length rest.settled →
    ((k : ℕ) → k < length routes → route_at routes k ≡ whole_at rest plan k) → routes ≡ joined p day 1 plan
joined-each p day rest routes plan is long each =
    ext_get_or [] routes (joined p day 1 plan) (long ∙ count ∙ sym (length-listed (whole_of p day 1 plan) (length p.shipments)))
    (λ k lt.
    let there : k < length p.shipments = omega (arith, lt, long, count) in
    each k lt
    ∙ ap (λ (ls : List Leg). ls ++ cond (list_has rest.numbers.items k) (route_at plan (place_in rest.numbers.items k)) [])
    (ap (λ (rs : List (List Leg)). route_at rs k) is.settled ∙ get_or-listed (settled_legs day) (length p.shipments) k [] there)
    ∙ ap (λ (ks : List ℕ). settled_legs day k ++ cond (list_has ks k) (route_at plan (place_in ks k)) []) is.numbers
    ∙ ap (λ b. settled_legs day k ++ cond b (route_at plan (place_in (left_numbers p day) k)) []) (passing-tells (is_left p day) (length p.shipments) k there)
    ∙ ap (λ (ls : List Leg). ls ++ rest_of p day plan k) (sym (scaled-one (settled_legs day k)))
    ∙ sym (get_or-listed (whole_of p day 1 plan) (length p.shipments) k [] there))
  where
    count : length rest.settled ≡ length p.shipments
    count = ap (λ (rs : List (List Leg)). length rs) is.settled ∙ length-listed (settled_legs day) (length p.shipments)
