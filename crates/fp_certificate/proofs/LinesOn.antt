-- Where a line has no fault, the lines after it decide.
use Rattle.std.proofs.Common.{◌≡◌, ◌∙◌, ℕ, ◌+◌, ◌<◌, List, ◌∷◌, length, get_or, drop, refl, sym, ap, inl, inr}
use Rattle.std.specs.Prelude.{Option, Some, None, Result, Ok}
use Rattle.std.proofs.lemmas.Bool.{cases_Bool}
use Rattle.std.proofs.lemmas.List.{drop_more}
use Rattle.fp_model.specs.Problem.{Problem}
use Rattle.fp_records_fields.specs.Faults.{first_fault, Fault}
use Rattle.fp_certificate_lines.specs.Statements.{Statement}
use Rattle.fp_certificate.specs.declared.drafts.Draft.{Draft}
use Rattle.fp_certificate.specs.Reading.{certificate_from, finished, line_code, with_line}
use Rattle.fp_certificate.specs.Sections.{has_ended}

-- the lines from a place on
lines-from : (lines : List (List (List ℕ))) (place : ℕ) (fields : List (List ℕ)) → place < length lines → fields ≡ get_or lines place fields
    → drop place lines ≡ fields ∷ drop (place + 1) lines
lines-from lines place fields within there =
    drop_more lines place fields within ∙ ap (λ (f : List (List ℕ)). f ∷ drop (place + 1) lines) (sym there)

-- where a line has no fault, those after it decide
pub read-on : (p : Problem) (before : Draft) (ordinal : ℕ) (lines : List (List (List ℕ))) (place : ℕ) (fields : List (List ℕ)) → place < length lines
    → fields ≡ get_or lines place fields → line_code p before fields ≡ None
    → certificate_from p before ordinal (drop place lines) ≡ certificate_from p (with_line p before fields) (ordinal + 1) (drop (place + 1) lines)
read-on p before ordinal lines place fields within there clean = rw (lines-from lines place fields within there, clean) refl

-- a line after which the others give a certificate has no fault
pub first_fault-ok : (ordinal : ℕ) (code : Option ℕ) (rest : Result Statement Fault) (c : Statement) → first_fault ordinal code rest ≡ Ok c → (code ≡ None) × (rest ≡ Ok c)
first_fault-ok ordinal None rest c h = (refl, h)
first_fault-ok ordinal (Some code) rest c h = cc h

-- at the end there is the certificate of the draft
pub at-end : (before : Draft) (ordinal : ℕ) (c : Statement) → finished before ordinal ≡ Ok c → before.certificate ≡ c
at-end before ordinal c h = elim (cases_Bool (has_ended before)) [
  | inl ended ↦ cc (rw ended at h)
  | inr going ↦ cc (rw going at h)
]
