-- The instance of records that tell kept legs or a day: its scale, its weight, and that none of the records is an answer.
use Rattle.std.proofs.Common.{◌≡◌, ◌∙◌, ℕ, ◌+◌, ◌<◌, ◌^◌, Bool, true, false, List, [], ◌∷◌, length, drop, refl, sym, ap, subst, inl, inr}
use Rattle.std.specs.Prelude.{not, nat_le, codes, if◌then◌else◌, Result, Ok, Err}
use Rattle.std.specs.List.{prefix_len}
use Rattle.std.proofs.lemmas.Bool.{cases_Bool, leb-false}
use Rattle.std.proofs.lemmas.List.Folds.{length-prefix_len}
use Rattle.fp_model.specs.declared.limits.TheConstants.{SCALE}
use Rattle.fp_model.specs.Problem.{Problem, weight, weight_at}
use Rattle.fp_records.specs.Fields.{records_of}
use Rattle.fp_records_fields.specs.Faults.{Fault}
use Rattle.fp_records_fields.specs.Fields.{field, is_kind}
use Rattle.fp_reader.specs.Faults.{record_code}
use Rattle.fp_reader.specs.Input.{parts_from, weighed, weighed_parts}
use Rattle.fp_reader.specs.Parts.{arc_in, hold_in, nothing_read, shipment_in, with_arc, with_record, with_shipment, with_terminal}
use Rattle.fp_replan.specs.declared.kept.Kept.{Kept}
use Rattle.fp_replan.specs.Records.{kept_from}
use Rattle.fp_replan_present.specs.Days.{Day}
use Rattle.fp_replan_present.specs.Records.{day_from, untold}
use Rattle.fp_app_tails.specs.Tails.{DayInstance, KeptInstance, begins_tail, day_after, kept_after, kept_legs, tail_records, told_day, unkept_instance, unkept_records}
use Rattle.fp_app.proofs.NoAnswers.{NoAnswer, day-no_answer, instance-no_answer, kept-no_answer, ok-rest, parted-no_answer}

-- an instance that was read has the usual scale, and its weight there is within its limit
pub record IsUsual (p : Problem) : Type 0 where
  pub scale : p.scale ≡ SCALE
  pub light : weight_at SCALE p.arcs p.shipments < 2 ^ 127

either-scale : (b : Bool) (x y : Problem) (n : ℕ) → x.scale ≡ n → y.scale ≡ n → (if b then x else y).scale ≡ n
either-scale true x y n first second = first
either-scale false x y n first second = second

with_record-scale : (before : Problem) (fields : List (List ℕ)) → (with_record before fields).scale ≡ before.scale
with_record-scale before fields =
    either-scale (is_kind (codes "terminal") fields) (with_terminal before (field fields 1) (hold_in fields)) (if is_kind (codes "arc") fields then with_arc before (arc_in before fields) else with_shipment before (shipment_in before fields)) before.scale refl
    (either-scale (is_kind (codes "arc") fields) (with_arc before (arc_in before fields)) (with_shipment before (shipment_in before fields)) before.scale refl refl)

parts-scale : (before : Problem) (ordinal : ℕ) (lines : List (List (List ℕ))) (p : Problem) → parts_from before ordinal lines ≡ Ok p → p.scale ≡ before.scale
parts-scale before ordinal [] p is = let own : before ≡ p = cc is in ap (λ (q : Problem). q.scale) (sym own)
parts-scale before ordinal (line ∷ lines) p is =
    parts-scale (with_record before line) (ordinal + 1) lines p (ok-rest ordinal (record_code before line) (parts_from (with_record before line) (ordinal + 1) lines) p is) ∙ with_record-scale before line

weighed-usual : (p q : Problem) → q.scale ≡ SCALE → weighed q ≡ Ok p → IsUsual p
weighed-usual p q scale is =
    elim (cases_Bool (nat_le (2 ^ 127) (weight q.arcs q.shipments))) [
      | inl heavy ↦ let none = rw heavy at is in cc none
      | inr light ↦ let same : Ok q ≡ Ok p = rw light at is in let own : q ≡ p = cc same in subst IsUsual own (record { scale = scale; light = leb-false (2 ^ 127) (weight q.arcs q.shipments) light })
    ]

-- so of the records before those that are told, and none of them is an answer
record IsInstanceOf (lines : List (List (List ℕ))) (p : Problem) : Type 0 where
  pub usual : IsUsual p
  pub none : NoAnswer lines

instance-by : (lines : List (List (List ℕ))) (p : Problem) (r : Result Problem Fault) → parts_from nothing_read 1 lines ≡ r → weighed_parts r ≡ Ok p → IsInstanceOf lines p
instance-by lines p (Ok q) read is = record { usual = weighed-usual p q (parts-scale nothing_read 1 lines q read) is; none = instance-no_answer nothing_read 1 lines q read }
instance-by lines p (Err f) read is = cc is

instance-of : (records : List (List (List ℕ))) (p : Problem) → unkept_instance records ≡ Ok p → IsInstanceOf (unkept_records records) p
instance-of records p is = instance-by (unkept_records records) p (parts_from nothing_read 1 (unkept_records records)) refl is

-- all records of an input that tells something are so
whole-no_answer : (records : List (List (List ℕ))) → NoAnswer (unkept_records records) → NoAnswer (tail_records records) → NoAnswer records
whole-no_answer records first second =
    let n : ℕ = prefix_len (λ (r : List (List ℕ)). not (begins_tail r)) records in
    parted-no_answer n records first (subst (λ (k : ℕ). NoAnswer (drop k records)) (length-prefix_len (λ (r : List (List ℕ)). not (begins_tail r)) records) second)

pub record IsReadOf (input : List ℕ) (p : Problem) : Type 0 where
  pub usual : IsUsual p
  pub none : NoAnswer (records_of input)

kept-by : (input : List ℕ) (x : KeptInstance) (p : Problem) (r : Result (List Kept) Fault) → unkept_instance (records_of input) ≡ Ok p → kept_from p [] (length (unkept_records (records_of input)) + 1) (tail_records (records_of input)) ≡ r → kept_legs p r ≡ Ok x →
    IsReadOf input x.instance
kept-by input x p (Ok kept) read from is =
    let own : record { instance = p; kept = kept } ≡ x = cc is in
    let of = instance-of (records_of input) p read in
    record {
      usual = subst IsUsual (ap (λ (y : KeptInstance). y.instance) own) of.usual;
      none = whole-no_answer (records_of input) of.none (kept-no_answer p [] (length (unkept_records (records_of input)) + 1) (tail_records (records_of input)) kept from);
    }
kept-by input x p (Err f) read from is = cc is

pub kept-read : (input : List ℕ) (x : KeptInstance) (r : Result Problem Fault) → unkept_instance (records_of input) ≡ r → kept_after (records_of input) r ≡ Ok x → IsReadOf input x.instance
kept-read input x (Ok p) read is = kept-by input x p (kept_from p [] (length (unkept_records (records_of input)) + 1) (tail_records (records_of input))) read refl is
kept-read input x (Err f) read is = cc is

day-by : (input : List ℕ) (x : DayInstance) (p : Problem) (r : Result Day Fault) → unkept_instance (records_of input) ≡ Ok p → day_from p untold (length (unkept_records (records_of input)) + 1) (tail_records (records_of input)) ≡ r → told_day p r ≡ Ok x →
    IsReadOf input x.instance
day-by input x p (Ok day) read from is =
    let own : record { instance = p; day = day } ≡ x = cc is in
    let of = instance-of (records_of input) p read in
    record {
      usual = subst IsUsual (ap (λ (y : DayInstance). y.instance) own) of.usual;
      none = whole-no_answer (records_of input) of.none (day-no_answer p untold (length (unkept_records (records_of input)) + 1) (tail_records (records_of input)) day from);
    }
day-by input x p (Err f) read from is = cc is

pub day-read : (input : List ℕ) (x : DayInstance) (r : Result Problem Fault) → unkept_instance (records_of input) ≡ r → day_after (records_of input) r ≡ Ok x → IsReadOf input x.instance
day-read input x (Ok p) read is = day-by input x p (day_from p untold (length (unkept_records (records_of input)) + 1) (tail_records (records_of input))) read refl is
day-read input x (Err f) read is = cc is
