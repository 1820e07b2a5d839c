-- What records of an instance and of a certificate begin with.
use Rattle.std.proofs.Common.{◌≡◌, ◌∙◌, ℕ, ◌+◌, Bool, true, false, cond, List, [], ◌∷◌, refl, sym, ap, inl, inr}
use Rattle.std.specs.Prelude.{Option, Some, None, Ok, not, if◌then◌else◌, codes}
use Rattle.std.specs.Str.{bytes_eq}
use Rattle.std.proofs.lemmas.Bool.{cases_Bool}
use Rattle.std.proofs.lemmas.List.Sums.{take_while-cons}
use Rattle.std.proofs.lemmas.Slice.Eq.{bytes_eq-Decides}
use Rattle.fp_model.specs.Problem.{Problem}
use Rattle.fp_records_fields.specs.Fields.{field, has_word, is_kind}
use Rattle.fp_reader.specs.Faults.{record_code}
use Rattle.fp_reader.specs.Input.{is_answer, parts_from}
use Rattle.fp_reader.specs.Parts.{with_record}
use Rattle.fp_certificate.specs.declared.lines.kinds.LineKind.{LineKind}
use Rattle.fp_certificate.specs.declared.lines.kinds.LineKind.TheVariants.{Direct, Optimal, Unfinished, Infeasible, Scale, Leg, Truck, Point, Table, Share, Span, Weight, ByArc, ByTime, ByTrucks, ByWay, Leaf, End}
use Rattle.fp_certificate.specs.declared.lines.kinds.LineKind.TheVariants as kind
use Rattle.fp_certificate.specs.Kinds.{answer_kind, kind_of, split_kind}
use Rattle.fp_certificate.specs.Reading.{certificate_from, faults_of, kind_code, line_code, nothing_read, with_line}
use Rattle.fp_certificate_lines.specs.Statements.{Statement}
use Rattle.fp_replan_present.specs.Records.{is_kept}
use Rattle.fp_app_tails.specs.Tails.{begins_tail, unkept_records}
use Rattle.fp_app_tails.specs.Verdicts.{begins_stuck}
use Rattle.fp_app.proofs.NoAnswers.{code_by, held-not_none, ok-none, ok-rest}

-- an instance has no kept leg and no present
tail-has_code : (before : Problem) (fields : List (List ℕ)) → begins_tail fields ≡ true → record_code before fields ≡ Some 1
tail-has_code before fields begins =
    elim (cases_Bool (is_kept fields)) [
      | inl kept ↦ ap (code_by before fields) ((bytes_eq-Decides (field fields 0) (codes "kept")).0 kept)
      | inr other ↦ ap (code_by before fields) ((bytes_eq-Decides (field fields 0) (codes "now")).0 (rw other at begins))
    ]

-- so none of its records is one
pub unkept-whole : (before : Problem) (ordinal : ℕ) (lines : List (List (List ℕ))) (p : Problem) → parts_from before ordinal lines ≡ Ok p → unkept_records lines ≡ lines
unkept-whole before ordinal [] p is = refl
unkept-whole before ordinal (line ∷ lines) p is =
    elim (cases_Bool (begins_tail line)) [
      | inl begins ↦ let none : Some 1 ≡ None = sym (tail-has_code before line begins) ∙ ok-none ordinal (record_code before line) (parts_from (with_record before line) (ordinal + 1) lines) p is in cc none
      | inr other ↦
          take_while-cons (λ (r : List (List ℕ)). not (begins_tail r)) line lines
          ∙ ap (λ (b : Bool). cond (not b) (line ∷ unkept_records lines) []) other
          ∙ ap (λ (rest : List (List (List ℕ))). line ∷ rest)
          (unkept-whole (with_record before line) (ordinal + 1) lines p (ok-rest ordinal (record_code before line) (parts_from (with_record before line) (ordinal + 1) lines) p is))
    ]

-- a line that isn't an answer's
abbrev IsOther : Option LineKind → Type 0
IsOther (Some Direct) = ⊥
IsOther (Some Optimal) = ⊥
IsOther (Some Unfinished) = ⊥
IsOther (Some Infeasible) = ⊥
IsOther _ = Unit {0}

other-if : (b : Bool) (first second : Option LineKind) → IsOther first → IsOther second → IsOther (if b then first else second)
other-if true first second one two = one
other-if false first second one two = two

split_kind-other : (word : List ℕ) → IsOther (split_kind word)
split_kind-other word =
    other-if (bytes_eq word (codes "arc")) (Some ByArc) (if bytes_eq word (codes "time") then Some ByTime else if bytes_eq word (codes "trucks") then Some ByTrucks else if bytes_eq word (codes "way") then Some ByWay else None) (tt {0})
    (other-if (bytes_eq word (codes "time")) (Some ByTime) (if bytes_eq word (codes "trucks") then Some ByTrucks else if bytes_eq word (codes "way") then Some ByWay else None) (tt {0})
    (other-if (bytes_eq word (codes "trucks")) (Some ByTrucks) (if bytes_eq word (codes "way") then Some ByWay else None) (tt {0})
    (other-if (bytes_eq word (codes "way")) (Some ByWay) None (tt {0}) (tt {0}))))

other-by : (a b c d e f g h i j k l m n o : Bool) (split : Option LineKind) → IsOther split →
    IsOther (if a then Some Scale else if b then Some kind.Unit else if c then Some Leg else if d then Some Truck else if e then Some Point else if f then Some Table else if g then Some Share else if h then Some Span else if i then Some Weight else if j then Some kind.Group else if k then Some kind.Gift else if l then split else if m then Some Leaf else if n then Some kind.Narrow else if o then Some End else None)
other-by true b c d e f g h i j k l m n o split other = tt
other-by false true c d e f g h i j k l m n o split other = tt
other-by false false true d e f g h i j k l m n o split other = tt
other-by false false false true e f g h i j k l m n o split other = tt
other-by false false false false true f g h i j k l m n o split other = tt
other-by false false false false false true g h i j k l m n o split other = tt
other-by false false false false false false true h i j k l m n o split other = tt
other-by false false false false false false false true i j k l m n o split other = tt
other-by false false false false false false false false true j k l m n o split other = tt
other-by false false false false false false false false false true k l m n o split other = tt
other-by false false false false false false false false false false true l m n o split other = tt
other-by false false false false false false false false false false false true m n o split other = other
other-by false false false false false false false false false false false false true n o split other = tt
other-by false false false false false false false false false false false false false true o split other = tt
other-by false false false false false false false false false false false false false false true split other = tt
other-by false false false false false false false false false false false false false false false split other = tt

kind_of-other : (fields : List (List ℕ)) → is_answer fields ≡ false → IsOther (kind_of fields)
kind_of-other fields later =
    rw later (other-by (is_kind (codes "scale") fields) (is_kind (codes "unit") fields) (is_kind (codes "leg") fields) (is_kind (codes "truck") fields) (is_kind (codes "point") fields) (is_kind (codes "table") fields) (is_kind (codes "share") fields) (is_kind (codes "span") fields) (is_kind (codes "weight") fields) (is_kind (codes "group") fields) (is_kind (codes "gift") fields) (is_kind (codes "split") fields) (is_kind (codes "leaf") fields) (is_kind (codes "narrow") fields) (is_kind (codes "end") fields)
    (split_kind (field fields 1)) (split_kind-other (field fields 1)))

-- before an answer each other line has a fault
other-faulty : (p : Problem) (fields : List (List ℕ)) (o : Option LineKind) → IsOther o → kind_code p nothing_read o fields ≡ None → ⊥
other-faulty p fields None other none = cc none
other-faulty p fields (Some Scale) other none = held-not_none (faults_of p nothing_read Scale fields) 2 refl none
other-faulty p fields (Some kind.Unit) other none = held-not_none (faults_of p nothing_read kind.Unit fields) 2 refl none
other-faulty p fields (Some Leg) other none = held-not_none (faults_of p nothing_read Leg fields) 2 refl none
other-faulty p fields (Some Truck) other none = held-not_none (faults_of p nothing_read Truck fields) 2 refl none
other-faulty p fields (Some Point) other none = held-not_none (faults_of p nothing_read Point fields) 2 refl none
other-faulty p fields (Some Table) other none = held-not_none (faults_of p nothing_read Table fields) 2 refl none
other-faulty p fields (Some Share) other none = held-not_none (faults_of p nothing_read Share fields) 2 refl none
other-faulty p fields (Some Span) other none = held-not_none (faults_of p nothing_read Span fields) 2 refl none
other-faulty p fields (Some Weight) other none = held-not_none (faults_of p nothing_read Weight fields) 2 refl none
other-faulty p fields (Some kind.Group) other none = held-not_none (faults_of p nothing_read kind.Group fields) 2 refl none
other-faulty p fields (Some kind.Gift) other none = held-not_none (faults_of p nothing_read kind.Gift fields) 2 refl none
other-faulty p fields (Some ByArc) other none = held-not_none (faults_of p nothing_read ByArc fields) 1 refl none
other-faulty p fields (Some ByTime) other none = held-not_none (faults_of p nothing_read ByTime fields) 2 refl none
other-faulty p fields (Some ByTrucks) other none = held-not_none (faults_of p nothing_read ByTrucks fields) 2 refl none
other-faulty p fields (Some ByWay) other none = held-not_none (faults_of p nothing_read ByWay fields) 1 refl none
other-faulty p fields (Some Leaf) other none = held-not_none (faults_of p nothing_read Leaf fields) 2 refl none
other-faulty p fields (Some kind.Narrow) other none = held-not_none (faults_of p nothing_read kind.Narrow fields) 2 refl none
other-faulty p fields (Some End) other none = held-not_none (faults_of p nothing_read End fields) 1 refl none
other-faulty p fields (Some Direct) other none = absurd other
other-faulty p fields (Some Optimal) other none = absurd other
other-faulty p fields (Some Unfinished) other none = absurd other
other-faulty p fields (Some Infeasible) other none = absurd other

-- so the records of a certificate begin with an answer
pub record BeginsWithAnswer (lines : List (List (List ℕ))) : Type 0 where
  pub first : List (List ℕ)
  pub rest : List (List (List ℕ))
  pub is : lines ≡ first ∷ rest
  pub answer : is_answer first ≡ true

pub certificate-begins : (p : Problem) (ordinal : ℕ) (lines : List (List (List ℕ))) (c : Statement) → certificate_from p nothing_read ordinal lines ≡ Ok c → BeginsWithAnswer lines
certificate-begins p ordinal [] c is = cc is
certificate-begins p ordinal (line ∷ lines) c is =
    elim (cases_Bool (is_answer line)) [
      | inl first ↦ record { first = line; rest = lines; is = refl; answer = first }
      | inr later ↦
          absurd (other-faulty p line (kind_of line) (kind_of-other line later)
          (ok-none ordinal (line_code p nothing_read line) (certificate_from p (with_line p nothing_read line) (ordinal + 1) lines) c is))
    ]

-- and it isn't the one that no plan goes on, which is no line of a certificate
stuck-no_kind : (fields : List (List ℕ)) → is_answer fields ≡ true → has_word (codes "stuck") fields 1 ≡ true → kind_of fields ≡ None
stuck-no_kind fields answer stuck = rw answer (ap answer_kind ((bytes_eq-Decides (field fields 1) (codes "stuck")).0 stuck))

answer-not_stuck : (p : Problem) (line : List (List ℕ)) → is_answer line ≡ true → line_code p nothing_read line ≡ None → has_word (codes "stuck") line 1 ≡ false
answer-not_stuck p line answer code =
    elim (cases_Bool (has_word (codes "stuck") line 1)) [
      | inl stuck ↦ let none : Some 21 ≡ None = sym (ap (λ (o : Option LineKind). kind_code p nothing_read o line) (stuck-no_kind line answer stuck)) ∙ code in cc none
      | inr other ↦ other
    ]

pub certificate-not_stuck : (p : Problem) (ordinal : ℕ) (lines : List (List (List ℕ))) (c : Statement) → certificate_from p nothing_read ordinal lines ≡ Ok c → begins_stuck lines ≡ false
certificate-not_stuck p ordinal [] c is = refl
certificate-not_stuck p ordinal (line ∷ lines) c is =
    elim (cases_Bool (is_answer line)) [
      | inl answer ↦ rw (answer, answer-not_stuck p line answer (ok-none ordinal (line_code p nothing_read line) (certificate_from p (with_line p nothing_read line) (ordinal + 1) lines) c is)) refl
      | inr other ↦ rw other refl
    ]
