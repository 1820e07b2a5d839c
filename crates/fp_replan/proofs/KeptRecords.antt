-- What a record of a kept leg without a fault gives.
use Rattle.std.proofs.Common.{◌≡◌, ℕ, ◌+◌, ◌<◌, eqb, leb, List, [], ◌∷◌, ◌++◌, length, drop, refl, sym, ap, ◌∙◌}
use Rattle.std.specs.Prelude.{None, not, slice_index_or, codes}
use Rattle.std.proofs.lemmas.Bool.{leb-false, not-false, or_parts}
use Rattle.std.proofs.lemmas.List.{drop_more}
use Rattle.fp_model.specs.declared.limits.TheConstants.{LATEST}
use Rattle.fp_model.specs.Problem.{Problem}
use Rattle.fp_records_fields.specs.Fields.{has_number, is_between, is_kind}
use Rattle.fp_records_fields.specs.Findings.{first_code}
use Rattle.fp_records_fields.specs.NamedParts.{lacks_arc, lacks_shipment}
use Rattle.fp_records_fields.proofs.FaultTables.{IsClear-from_none}
use Rattle.fp_replan.specs.declared.kept.Kept.{Kept}
use Rattle.fp_replan.specs.declared.kept.TheConstants.{MOST_KEPT}
use Rattle.fp_replan.specs.KeptLegs.{CanKeep}
use Rattle.fp_replan.specs.Records.{is_next, kept_faults, kept_from, kept_in, lacks_part}
use Rattle.fp_records_fields.proofs.NamedParts.{arc_in-lt, shipment_in-lt}

-- what a record without a fault gives can be kept, and there is room for it
pub record IsFit (p : Problem) (before : List Kept) (x : Kept) : Type 0 where
  pub can : CanKeep p before x
  pub room : length before < MOST_KEPT

pub IsFit-clear : (p : Problem) (before : List Kept) (fields : List (List ℕ)) → first_code (kept_faults p before fields) ≡ None → IsFit p before (kept_in p fields)
IsFit-clear p before fields clear =
    let kind = IsClear-from_none 31 (not (is_kind (codes "kept") fields)) clear in
    let count = IsClear-from_none 32 (not (eqb (length fields) 5)) kind.later in
    let digits = IsClear-from_none 33 (not (has_number fields 4)) count.later in
    let named = IsClear-from_none 34 (lacks_part p fields) digits.later in
    let range = IsClear-from_none 35 (not (is_between 0 LATEST fields 4)) named.later in
    let next = IsClear-from_none 36 (not (is_next p before (kept_in p fields))) range.later in
    let room = IsClear-from_none 37 (leb MOST_KEPT (length before)) next.later in
    let parts = or_parts (lacks_shipment p fields 1) (lacks_arc p fields 2 3) named.here in
    record {
      can = record {
        shipment = shipment_in-lt p fields 1 parts.0;
        arc = arc_in-lt p fields 2 3 parts.1;
        on = not-false (is_next p before (kept_in p fields)) next.here;
      };
      room = leb-false MOST_KEPT (length before) room.here;
    }

-- where a record has no fault, those after it decide
pub read-on : (p : Problem) (before : List Kept) (ordinal : ℕ) (lines : List (List (List ℕ))) (place : ℕ) (fields : List (List ℕ)) → place < length lines →
    fields ≡ slice_index_or lines place fields → first_code (kept_faults p before fields) ≡ None →
    kept_from p before ordinal (drop place lines) ≡ kept_from p (before ++ (kept_in p fields ∷ [])) (ordinal + 1) (drop (place + 1) lines)
read-on p before ordinal lines place fields within there clear =
    let left : drop place lines ≡ fields ∷ drop (place + 1) lines = drop_more lines place fields within ∙ ap (λ (f : List (List ℕ)). f ∷ drop (place + 1) lines) (sym there) in
    rw (left, clear) refl
