-- What records of the present and of tracked legs give, one after the other.
use Rattle.std.proofs.Common.{◌≡◌, ℕ, ◌+◌, ◌<◌, ◌≤◌, true, false, List, [], ◌∷◌, ◌++◌, length, map, drop, refl, sym, ap, ◌∙◌, subst, arith, ◌&&◌, length-append, leb, ⊎_elim}
use Rattle.std.specs.Prelude.{IfSome, Option, Some, None, not, slice_index_or}
use Rattle.std.proofs.lemmas.Bool.{cases_Bool, cases_lt, leb-false, ltb-false, not-false, or_parts}
use Rattle.std.proofs.lemmas.List.{drop_more, get_or_append_left, get_or_push, map-append}
use Rattle.fp_model.specs.Problem.{Problem}
use Rattle.fp_records_fields.specs.Fields.{number_at}
use Rattle.fp_records_fields.specs.Findings.{first_code}
use Rattle.fp_records_fields.specs.NamedParts.{lacks_arc, lacks_shipment}
use Rattle.fp_records_fields.proofs.FaultTables.{IsClear-from_none}
use Rattle.fp_records_fields.proofs.NamedParts.{arc_in-lt, shipment_in-lt}
use Rattle.fp_replan.specs.declared.kept.TheConstants.{MOST_KEPT}
use Rattle.fp_replan.specs.KeptLegs.{AreKept, CanKeep}
use Rattle.fp_replan.specs.Records.{is_next, kept_in, lacks_part}
use Rattle.fp_replan.proofs.KeptBeginnings.{AreKept-push}
use Rattle.fp_replan_present.specs.declared.drafts.Told.{Told}
use Rattle.fp_replan_present.specs.declared.drafts.Told.TheVariants as told
use Rattle.fp_replan_present.specs.declared.presents.Tracked.{Tracked}
use Rattle.fp_replan_present.specs.Days.{AreTracked, Day, kept_in_tracked}
use Rattle.fp_replan_present.specs.Drafts.{IsToldOf, told_with}
use Rattle.fp_replan_present.specs.Records.{are_times_within, arrives_before, day_faults, day_from, day_with, has_leg_fields, has_times, is_backward, is_kept, is_now, leg_faults, now_faults, times_in, tracked_in, untold}

-- what a record of a tracked leg without a fault gives is such after those before it, and there is room
-- for it
pub record IsFit (p : Problem) (before : List Tracked) (x : Tracked) : Type 0 where
  pub can : CanKeep p (map kept_in_tracked before) x.kept
  pub later : IfSome x.arrive (λ t. x.kept.depart ≤ t)
  pub room : length before < MOST_KEPT

arrives-later : (depart : ℕ) (arrive : Option ℕ) → arrives_before depart arrive ≡ false → IfSome arrive (λ t. depart ≤ t)
arrives-later depart None forward = tt
arrives-later depart (Some t) forward = ltb-false t depart forward

pub IsFit-clear : (p : Problem) (before : List Tracked) (fields : List (List ℕ)) → first_code (leg_faults p before fields) ≡ None → IsFit p before (tracked_in p fields)
IsFit-clear p before fields clear =
    let count = IsClear-from_none 32 (not (has_leg_fields fields)) clear in
    let digits = IsClear-from_none 33 (not (has_times fields)) count.later in
    let named = IsClear-from_none 34 (lacks_part p fields) digits.later in
    let range = IsClear-from_none 35 (not (are_times_within fields)) named.later in
    let next = IsClear-from_none 36 (not (is_next p (map kept_in_tracked before) (kept_in p fields))) range.later in
    let room = IsClear-from_none 37 (leb MOST_KEPT (length before)) next.later in
    let forward = IsClear-from_none 39 (is_backward (times_in fields)) room.later in
    let parts = or_parts (lacks_shipment p fields 1) (lacks_arc p fields 2 3) named.here in
    record {
      can = record {
        shipment = shipment_in-lt p fields 1 parts.0;
        arc = arc_in-lt p fields 2 3 parts.1;
        on = not-false (is_next p (map kept_in_tracked before) (kept_in p fields)) next.here;
      };
      later = arrives-later (times_in fields).depart (times_in fields).arrive forward.here;
      room = leb-false MOST_KEPT (length before) room.here;
    }

-- where a record has no fault, those after it decide
pub read-on : (p : Problem) (before : Day) (ordinal : ℕ) (lines : List (List (List ℕ))) (place : ℕ) (fields : List (List ℕ)) → place < length lines →
    fields ≡ slice_index_or lines place fields → first_code (day_faults p before fields) ≡ None →
    day_from p before ordinal (drop place lines) ≡ day_from p (day_with p before fields) (ordinal + 1) (drop (place + 1) lines)
read-on p before ordinal lines place fields within there clear =
    let left : drop place lines ≡ fields ∷ drop (place + 1) lines = drop_more lines place fields within ∙ ap (λ (f : List (List ℕ)). f ∷ drop (place + 1) lines) (sym there) in
    rw (left, clear) refl

-- one more tracked leg
pub AreTracked-push : (p : Problem) (day : Day) (x : Tracked) → AreTracked p day → IsFit p day.legs x → AreTracked p (record { time = day.time; legs = day.legs ++ (x ∷ []) })
AreTracked-push p day x are fit = record {
  kept = subst (AreKept p) (sym (map-append kept_in_tracked day.legs (x ∷ []))) (AreKept-push p (map kept_in_tracked day.legs) x.kept are.kept fit.can);
  later = λ i d lt.
      ⊎_elim
      (λ (before : i < length day.legs).
      subst (λ (y : Tracked). IfSome y.arrive (λ t. y.kept.depart ≤ t)) (sym (get_or_append_left day.legs (x ∷ []) d i before)) (are.later i d before))
      (λ (after : length day.legs ≤ i).
      let same : length day.legs ≡ i = omega (arith, lt, after, length-append day.legs (x ∷ [])) in
      subst (λ (y : Tracked). IfSome y.arrive (λ t. y.kept.depart ≤ t)) (sym (get_or_push day.legs x d i same)) fit.later)
      (cases_lt i (length day.legs));
}

-- a day of which nothing is told
pub AreTracked-untold : (p : Problem) → AreTracked p untold
AreTracked-untold p = record { kept = λ i lt. absurd (omega (arith, lt)); later = λ i d lt. absurd (omega (arith, lt)) }

-- what is told keeps a day's tracked legs such, and few
pub record StaysTracked (p : Problem) (day : Day) : Type 0 where
  pub tracked : AreTracked p day
  pub few : length day.legs ≤ MOST_KEPT

-- of a record of the present, and of one of a leg
faults-now : (p : Problem) (day : Day) (fields : List (List ℕ)) → is_now fields ≡ true → first_code (day_faults p day fields) ≡ first_code (now_faults day.time fields)
faults-now p day fields is = rw is refl

faults-leg : (p : Problem) (day : Day) (fields : List (List ℕ)) → is_now fields ≡ false → is_kept fields ≡ true → first_code (day_faults p day fields) ≡ first_code (leg_faults p day.legs fields)
faults-leg p day fields isnt is = rw (isnt, is) refl

with-now : (p : Problem) (day : Day) (fields : List (List ℕ)) → is_now fields ≡ true → day_with p day fields ≡ record { time = Some (number_at fields 1); legs = day.legs }
with-now p day fields is = rw is refl

with-leg : (p : Problem) (day : Day) (fields : List (List ℕ)) → is_now fields ≡ false → day_with p day fields ≡ record { time = day.time; legs = day.legs ++ (tracked_in p fields ∷ []) }
with-leg p day fields isnt = rw isnt refl

-- a record without a fault that isn't of the present is one of a leg
kept-clear : (p : Problem) (day : Day) (fields : List (List ℕ)) → is_now fields ≡ false → first_code (day_faults p day fields) ≡ None → is_kept fields ≡ true
kept-clear p day fields isnt clear =
    let kind = IsClear-from_none 31 (not (is_now fields) && not (is_kept fields)) clear in
    let none : not (is_kept fields) ≡ false = ap (λ b. not b && not (is_kept fields)) (sym isnt) ∙ kind.here in
    not-false (is_kept fields) none

pub StaysTracked-with : (p : Problem) (day : Day) (fields : List (List ℕ)) → AreTracked p day → length day.legs ≤ MOST_KEPT → first_code (day_faults p day fields) ≡ None →
    StaysTracked p (day_with p day fields)
StaysTracked-with p day fields are few clear =
    ⊎_elim
    (λ (is : is_now fields ≡ true).
    subst (StaysTracked p) (sym (with-now p day fields is)) (record { tracked = record { kept = are.kept; later = are.later }; few = few }))
    (λ (isnt : is_now fields ≡ false).
    let kept : is_kept fields ≡ true = kept-clear p day fields isnt clear in
    let fit : IsFit p day.legs (tracked_in p fields) = IsFit-clear p day.legs fields (sym (faults-leg p day fields isnt kept) ∙ clear) in
    subst (StaysTracked p) (sym (with-leg p day fields isnt)) (record {
      tracked = AreTracked-push p day (tracked_in p fields) are fit;
      few = omega (arith, length-append day.legs (tracked_in p fields ∷ []), fit.room);
    }))
    (cases_Bool (is_now fields))

-- what a record tells: the present
pub record IsToldBy (p : Problem) (day : Day) (fields : List (List ℕ)) (told : Told) : Type 0 where
  pub clear : first_code (day_faults p day fields) ≡ None
  pub gives : day_with p day fields ≡ told_with day told
  pub of : IsToldOf (length p.shipments) told

pub told-now : (p : Problem) (day : Day) (fields : List (List ℕ)) (time : ℕ) → is_now fields ≡ true → first_code (now_faults day.time fields) ≡ None → time ≡ number_at fields 1 →
    IsToldBy p day fields (told.Now time)
told-now p day fields time is clear same =
    let with_time : ℕ → Day = λ t. record { time = Some t; legs = day.legs } in
    record { clear = faults-now p day fields is ∙ clear; gives = with-now p day fields is ∙ ap with_time (sym same); of = tt }

-- or a leg
pub told-leg : (p : Problem) (day : Day) (fields : List (List ℕ)) (leg : Tracked) → is_now fields ≡ false → is_kept fields ≡ true → first_code (leg_faults p day.legs fields) ≡ None →
    leg ≡ tracked_in p fields → IsToldBy p day fields (told.Leg leg)
told-leg p day fields leg isnt is clear same =
    let with_leg : Tracked → Day = λ x. record { time = day.time; legs = day.legs ++ (x ∷ []) } in
    let fit : IsFit p day.legs (tracked_in p fields) = IsFit-clear p day.legs fields clear in
    record {
      clear = faults-leg p day fields isnt is ∙ clear;
      gives = with-leg p day fields isnt ∙ ap with_leg (sym same);
      of = subst (λ (x : Tracked). x.kept.shipment < length p.shipments) (sym same) fit.can.shipment;
    }
