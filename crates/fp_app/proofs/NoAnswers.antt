-- The records of an instance, of kept legs and of a day have no answer among them, so a reader of answers passes all of them.
use Rattle.std.proofs.Common.{◌≡◌, ◌∙◌, ℕ, zero, suc, ◌+◌, Bool, true, false, cond, get_or, List, [], ◌∷◌, ◌++◌, take, drop, refl, sym, ap, subst, inl, inr}
use Rattle.std.specs.Prelude.{Option, Some, None, Result, Ok, not, if◌then◌else◌, take_while, codes}
use Rattle.std.specs.List.{AllByRecursion}
use Rattle.std.specs.Str.{bytes_eq}
use Rattle.std.proofs.lemmas.Bool.{cases_Bool}
use Rattle.std.proofs.lemmas.List.{take-append-drop}
use Rattle.std.proofs.lemmas.List.Sums.{take_while-cons}
use Rattle.std.proofs.lemmas.Slice.Eq.{bytes_eq-Decides}
use Rattle.fp_base_lists.proofs.Elements.{AllByRecursion-append}
use Rattle.fp_model.specs.Problem.{Problem}
use Rattle.fp_records_fields.specs.Faults.{Fault, first_fault}
use Rattle.fp_records_fields.specs.Fields.{field, is_kind}
use Rattle.fp_records_fields.specs.Findings.{Finding, finding, first_code}
use Rattle.fp_reader.specs.Faults.{arc_faults, record_code, shipment_faults, terminal_faults}
use Rattle.fp_reader.specs.Input.{is_answer, parts_from}
use Rattle.fp_reader.specs.Parts.{with_record}
use Rattle.fp_replan.specs.declared.kept.Kept.{Kept}
use Rattle.fp_replan.specs.Records.{kept_faults, kept_from, kept_in}
use Rattle.fp_replan_present.specs.Days.{Day}
use Rattle.fp_replan_present.specs.Records.{day_faults, day_from, day_with, is_kept, is_now}

abbrev pub Records : Type 0
Records = List (List (List ℕ))

-- the records before the first `answer`
abbrev pub before_answer : Records → Records
before_answer lines = take_while (λ (r : List (List ℕ)). not (is_answer r)) lines

-- none of the records is an answer
abbrev pub NoAnswer : Records → Type 0
NoAnswer lines = AllByRecursion (λ (r : List (List ℕ)). is_answer r ≡ false) lines

-- so they are those before an answer that follows
pub none-before_answer : (lines : Records) → NoAnswer lines → (fields : List (List ℕ)) (more : Records) → is_answer fields ≡ true → before_answer (lines ++ fields ∷ more) ≡ lines
none-before_answer [] none fields more answer =
    take_while-cons (λ (r : List (List ℕ)). not (is_answer r)) fields more
    ∙ ap (λ (b : Bool). cond (not b) (fields ∷ before_answer more) []) answer
none-before_answer (line ∷ lines) none fields more answer =
    take_while-cons (λ (r : List (List ℕ)). not (is_answer r)) line (lines ++ fields ∷ more)
    ∙ ap (λ (b : Bool). cond (not b) (line ∷ before_answer (lines ++ fields ∷ more)) []) none.0
    ∙ ap (λ (rest : Records). line ∷ rest) (none-before_answer lines none.1 fields more answer)

-- where something was read, the first record has no fault, and what follows was read
pub ok-none : {A : Type 0} (ordinal : ℕ) (code : Option ℕ) (rest : Result A Fault) (x : A) → first_fault ordinal code rest ≡ Ok x → code ≡ None
ok-none ordinal None rest x is = refl
ok-none ordinal (Some code) rest x is = cc is

pub ok-rest : {A : Type 0} (ordinal : ℕ) (code : Option ℕ) (rest : Result A Fault) (x : A) → first_fault ordinal code rest ≡ Ok x → rest ≡ Ok x
ok-rest ordinal None rest x is = is
ok-rest ordinal (Some code) rest x is = cc is

-- a table of which a fault holds has a code
abbrev no_finding : Finding
no_finding = finding 0 false

pub held-not_none : (table : List Finding) (k : ℕ) → (get_or table k no_finding).holds ≡ true → first_code table ≡ None → ⊥
held-not_none [] k holds none = cc holds
held-not_none (f ∷ table) zero holds none = let g = rw holds at none in cc g
held-not_none (f ∷ table) (suc k) holds none =
    elim (cases_Bool f.holds) [
      | inl held ↦ let g = rw held at none in cc g
      | inr free ↦ held-not_none table k holds (rw free at none)
    ]

-- the code of a record of an instance, by its first field
abbrev pub code_by : Problem → List (List ℕ) → List ℕ → Option ℕ
code_by before fields word =
    if bytes_eq word (codes "terminal") then first_code (terminal_faults before fields)
    else if bytes_eq word (codes "arc") then first_code (arc_faults before fields)
    else if bytes_eq word (codes "shipment") then first_code (shipment_faults before fields)
    else Some 1

-- an instance has no `answer`
answer-has_code : (before : Problem) (fields : List (List ℕ)) → is_answer fields ≡ true → record_code before fields ≡ Some 1
answer-has_code before fields answer = ap (code_by before fields) ((bytes_eq-Decides (field fields 0) (codes "answer")).0 answer)

pub instance-no_answer : (before : Problem) (ordinal : ℕ) (lines : Records) (p : Problem) → parts_from before ordinal lines ≡ Ok p → NoAnswer lines
instance-no_answer before ordinal [] p is = tt
instance-no_answer before ordinal (line ∷ lines) p is =
    elim (cases_Bool (is_answer line)) [
      | inl first ↦ let none : Some 1 ≡ None = sym (answer-has_code before line first) ∙ ok-none ordinal (record_code before line) (parts_from (with_record before line) (ordinal + 1) lines) p is in cc none
      | inr later ↦ (later, instance-no_answer (with_record before line) (ordinal + 1) lines p (ok-rest ordinal (record_code before line) (parts_from (with_record before line) (ordinal + 1) lines) p is))
    ]

-- a record of another kind is none
kind-not_answer : (fields : List (List ℕ)) (word : List ℕ) → is_kind word fields ≡ true → bytes_eq word (codes "answer") ≡ false → is_answer fields ≡ false
kind-not_answer fields word is other = ap (λ (w : List ℕ). bytes_eq w (codes "answer")) ((bytes_eq-Decides (field fields 0) word).0 is) ∙ other

-- nor have kept legs one
pub kept-no_answer : (p : Problem) (before : List Kept) (ordinal : ℕ) (lines : Records) (kept : List Kept) → kept_from p before ordinal lines ≡ Ok kept → NoAnswer lines
kept-no_answer p before ordinal [] kept is = tt
kept-no_answer p before ordinal (line ∷ lines) kept is =
    let code : first_code (kept_faults p before line) ≡ None = ok-none ordinal (first_code (kept_faults p before line)) (kept_from p (before ++ (kept_in p line ∷ [])) (ordinal + 1) lines) kept is in
    elim (cases_Bool (is_kept line)) [
      | inl own ↦ (kind-not_answer line (codes "kept") own refl, kept-no_answer p (before ++ (kept_in p line ∷ [])) (ordinal + 1) lines kept (ok-rest ordinal (first_code (kept_faults p before line)) (kept_from p (before ++ (kept_in p line ∷ [])) (ordinal + 1) lines) kept is))
      | inr other ↦ absurd (held-not_none (kept_faults p before line) 0 (ap not other) code)
    ]

-- nor a day
day-not_answer : (p : Problem) (before : Day) (line : List (List ℕ)) → first_code (day_faults p before line) ≡ None → is_answer line ≡ false
day-not_answer p before line code =
    elim (cases_Bool (is_now line)) [
      | inl now ↦ kind-not_answer line (codes "now") now refl
      | inr later ↦
          elim (cases_Bool (is_kept line)) [
            | inl own ↦ kind-not_answer line (codes "kept") own refl
            | inr other ↦ absurd (held-not_none (day_faults p before line) 0 (rw (later, other) refl) code)
          ]
    ]

pub day-no_answer : (p : Problem) (before : Day) (ordinal : ℕ) (lines : Records) (day : Day) → day_from p before ordinal lines ≡ Ok day → NoAnswer lines
day-no_answer p before ordinal [] day is = tt
day-no_answer p before ordinal (line ∷ lines) day is =
    let rest : ℕ → Records → Result Day Fault = λ n more. day_from p (day_with p before line) n more in (
      day-not_answer p before line (ok-none ordinal (first_code (day_faults p before line)) (rest (ordinal + 1) lines) day is),
      day-no_answer p (day_with p before line) (ordinal + 1) lines day (ok-rest ordinal (first_code (day_faults p before line)) (rest (ordinal + 1) lines) day is),
    )

-- records are those up to a place and those from there on
pub parted-no_answer : (n : ℕ) (lines : Records) → NoAnswer (take n lines) → NoAnswer (drop n lines) → NoAnswer lines
parted-no_answer n lines first second =
    subst NoAnswer (take-append-drop n lines) (AllByRecursion-append (λ (r : List (List ℕ)). is_answer r ≡ false) (take n lines) (drop n lines) first second)
