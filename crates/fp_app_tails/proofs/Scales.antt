-- What was told can be told at every scale, and what is to be planned is the same but for the scale.
use Rattle.std.proofs.Common.{◌≡◌, ◌∙◌, ℕ, zero, suc, Bool, List, [], ◌∷◌, length, map, take, refl, sym, ap, subst}
use Rattle.std.specs.Prelude.{◌==◌, not, slice_index_or}
use Rattle.fp_model.specs.declared.parts.Leg.{Leg}
use Rattle.fp_model.specs.declared.parts.Shipment.{Shipment}
use Rattle.fp_model.specs.Numbered.{shipment_at}
use Rattle.fp_model.specs.Problem.{Problem, arc_at}
use Rattle.fp_certificate_lines.specs.Statements.{Statement}
use Rattle.fp_replan.specs.declared.kept.Kept.{Kept}
use Rattle.fp_replan.specs.KeptLegs.{AreKept, CanKeep, kept_of, no_kept, place_after}
use Rattle.fp_replan_present.specs.declared.presents.Tracked.{Tracked}
use Rattle.fp_replan_present.specs.Days.{Day, kept_in_tracked, next_ready, settled_ready}
use Rattle.fp_replan_present.specs.Plans.{place_of, ready_of, settled_legs, settled_of}
use Rattle.fp_replan_present.specs.Rests.{is_left, left_numbers, left_problem, moved, passing}
use Rattle.fp_app_tails.specs.Ahead.{CanBeTold, ahead_problem}
use Rattle.fp_app_tails.specs.Duties.{Duty, go_on, keep}
use Rattle.fp_app_tails.specs.Verdicts.{CanBeTested}
use Rattle.fp_app_tails.proofs.ScaledCertificates.{CanBeTested-scaled}

-- tests that agree pass the same numbers
passing-same : (f g : ℕ → Bool) → ((k : ℕ) → f k ≡ g k) → (n : ℕ) → passing f n ≡ passing g n
passing-same f g same zero = refl
passing-same f g same (suc n) = rw (passing-same f g same n, same n) refl

-- and functions that agree make the same lists
map-same : {X Y : Type 0} (f g : X → Y) → ((x : X) → f x ≡ g x) → (xs : List X) → map f xs ≡ map g xs
map-same f g same [] = refl
map-same f g same (x ∷ xs) = rw (map-same f g same xs, same x) refl

module _ (p : Problem) (scale : ℕ) where
  abbrev at : Problem
  at = record p { scale = scale }

  place-at : (origin : ℕ) (legs : List Leg) → place_after at origin legs ≡ place_after p origin legs
  place-at origin [] = refl
  place-at origin (l ∷ legs) = place-at (arc_at p l.arc).to legs

  ready-at : (ready : ℕ) (legs : List Tracked) → settled_ready at ready legs ≡ settled_ready p ready legs
  ready-at ready [] = refl
  ready-at ready (x ∷ legs) = ready-at (next_ready p x) legs

  can-keep : (before : List Kept) (x : Kept) → CanKeep p before x → CanKeep at before x
  can-keep before x can = record {
    shipment = can.shipment;
    arc = can.arc;
    on = rw (place-at (shipment_at p x.shipment).from (kept_of before x.shipment)) can.on;
  }

  are-kept : (kept : List Kept) → AreKept p kept → AreKept at kept
  are-kept kept are = λ i within. can-keep (take i kept) (slice_index_or kept i no_kept) (are i within)

  pub can-be_told : (duty : Duty) → CanBeTold p duty → CanBeTold at duty
  can-be_told (keep kept) can = (are-kept kept can.0, can.1)
  can-be_told (go_on day) can = (record { kept = are-kept (map kept_in_tracked day.legs) can.0.kept; later = can.0.later }, can.1)

  module _ (day : Day) where
    place_of-at : (k : ℕ) → place_of at day k ≡ place_of p day k
    place_of-at k = place-at (shipment_at p k).from (settled_legs day k)

    ready_of-at : (k : ℕ) → ready_of at day k ≡ ready_of p day k
    ready_of-at k = rw (ready-at (shipment_at p k).release (settled_of day k)) refl

    moved-at : (k : ℕ) → moved at day k ≡ moved p day k
    moved-at k =
        ap (λ (n : ℕ). record (shipment_at p k) { from = n; release = ready_of at day k }) (place_of-at k)
        ∙ ap (λ (n : ℕ). record (shipment_at p k) { from = place_of p day k; release = n }) (ready_of-at k)

    is_left-at : (k : ℕ) → is_left at day k ≡ is_left p day k
    is_left-at k = ap (λ (n : ℕ). not (n == (shipment_at p k).to)) (place_of-at k)

    numbers-at : left_numbers at day ≡ left_numbers p day
    numbers-at = passing-same (is_left at day) (is_left p day) is_left-at (length p.shipments)

    left-at : left_problem at day ≡ record (left_problem p day) { scale = scale }
    left-at =
        ap (λ (shipments : List Shipment). record at { shipments = shipments })
        (map-same (moved at day) (moved p day) moved-at (left_numbers at day) ∙ ap (λ (numbers : List ℕ). map (moved p day) numbers) numbers-at)

  pub ahead-at : (duty : Duty) → ahead_problem at duty ≡ record (ahead_problem p duty) { scale = scale }
  ahead-at (keep kept) = refl
  ahead-at (go_on day) = left-at day

  pub can-be_tested : (duty : Duty) (c : Statement) → CanBeTested (ahead_problem p duty) c → CanBeTested (ahead_problem at duty) c
  can-be_tested duty c can = subst (λ (q : Problem). CanBeTested q c) (sym (ahead-at duty)) (CanBeTested-scaled (ahead_problem p duty) scale c can)
