-- Reading a certificate doesn't look at the scale of the instance.
use Rattle.std.proofs.Common.{◌≡◌, ◌∙◌, ℕ, ◌+◌, List, [], ◌∷◌, refl, sym, ap, inl, inr, eqb-true}
use Rattle.std.specs.Prelude.{◌==◌, Option, Some, None, Result}
use Rattle.std.proofs.lemmas.Bool.{cases_Bool}
use Rattle.fp_model.specs.declared.limits.TheConstants.{SCALE}
use Rattle.fp_model.specs.Problem.{Problem}
use Rattle.fp_records_fields.specs.Faults.{Fault, first_fault}
use Rattle.fp_certificate.specs.declared.drafts.Draft.{Draft}
use Rattle.fp_certificate.specs.declared.lines.kinds.LineKind.{LineKind}
use Rattle.fp_certificate.specs.declared.lines.kinds.LineKind.TheVariants.{Direct, Optimal, Unfinished, Infeasible, Scale, Leg, Truck, Point, Table, Share, Span, Weight, ByArc, ByTime, ByTrucks, ByWay, Leaf, End}
use Rattle.fp_certificate.specs.declared.lines.kinds.LineKind.TheVariants as kind
use Rattle.fp_certificate.specs.Kinds.{kind_of}
use Rattle.fp_certificate.specs.Reading.{certificate_from, kind_code, line_code, with_kind_of, with_line}
use Rattle.fp_certificate_lines.specs.Statements.{Statement}
use Rattle.fp_session.specs.Certificates.{named_scale}
use Rattle.fp_app_tails.specs.Verdicts.{scale_of}

abbrev scaled_to : Problem → ℕ → Problem
scaled_to p scale = record p { scale = scale }

kind_code-scale : (p : Problem) (scale : ℕ) (before : Draft) (o : Option LineKind) (fields : List (List ℕ)) → kind_code (scaled_to p scale) before o fields ≡ kind_code p before o fields
kind_code-scale p scale before None fields = refl
kind_code-scale p scale before (Some Direct) fields = refl
kind_code-scale p scale before (Some Optimal) fields = refl
kind_code-scale p scale before (Some Unfinished) fields = refl
kind_code-scale p scale before (Some Infeasible) fields = refl
kind_code-scale p scale before (Some Scale) fields = refl
kind_code-scale p scale before (Some kind.Unit) fields = refl
kind_code-scale p scale before (Some Leg) fields = refl
kind_code-scale p scale before (Some Truck) fields = refl
kind_code-scale p scale before (Some Point) fields = refl
kind_code-scale p scale before (Some Table) fields = refl
kind_code-scale p scale before (Some Share) fields = refl
kind_code-scale p scale before (Some Span) fields = refl
kind_code-scale p scale before (Some Weight) fields = refl
kind_code-scale p scale before (Some kind.Group) fields = refl
kind_code-scale p scale before (Some kind.Gift) fields = refl
kind_code-scale p scale before (Some ByArc) fields = refl
kind_code-scale p scale before (Some ByTime) fields = refl
kind_code-scale p scale before (Some ByTrucks) fields = refl
kind_code-scale p scale before (Some ByWay) fields = refl
kind_code-scale p scale before (Some Leaf) fields = refl
kind_code-scale p scale before (Some kind.Narrow) fields = refl
kind_code-scale p scale before (Some End) fields = refl

line_code-scale : (p : Problem) (scale : ℕ) (before : Draft) (fields : List (List ℕ)) → line_code (scaled_to p scale) before fields ≡ line_code p before fields
line_code-scale p scale before fields = rw (kind_code-scale p scale before (kind_of fields) fields) refl

with_kind-scale : (p : Problem) (scale : ℕ) (before : Draft) (o : Option LineKind) (fields : List (List ℕ)) → with_kind_of (scaled_to p scale) before o fields ≡ with_kind_of p before o fields
with_kind-scale p scale before None fields = refl
with_kind-scale p scale before (Some Direct) fields = refl
with_kind-scale p scale before (Some Optimal) fields = refl
with_kind-scale p scale before (Some Unfinished) fields = refl
with_kind-scale p scale before (Some Infeasible) fields = refl
with_kind-scale p scale before (Some Scale) fields = refl
with_kind-scale p scale before (Some kind.Unit) fields = refl
with_kind-scale p scale before (Some Leg) fields = refl
with_kind-scale p scale before (Some Truck) fields = refl
with_kind-scale p scale before (Some Point) fields = refl
with_kind-scale p scale before (Some Table) fields = refl
with_kind-scale p scale before (Some Share) fields = refl
with_kind-scale p scale before (Some Span) fields = refl
with_kind-scale p scale before (Some Weight) fields = refl
with_kind-scale p scale before (Some kind.Group) fields = refl
with_kind-scale p scale before (Some kind.Gift) fields = refl
with_kind-scale p scale before (Some ByArc) fields = refl
with_kind-scale p scale before (Some ByTime) fields = refl
with_kind-scale p scale before (Some ByTrucks) fields = refl
with_kind-scale p scale before (Some ByWay) fields = refl
with_kind-scale p scale before (Some Leaf) fields = refl
with_kind-scale p scale before (Some kind.Narrow) fields = refl
with_kind-scale p scale before (Some End) fields = refl

pub certificate-scale : (p : Problem) (scale : ℕ) (before : Draft) (ordinal : ℕ) (lines : List (List (List ℕ))) → certificate_from (scaled_to p scale) before ordinal lines ≡ certificate_from p before ordinal lines
certificate-scale p scale before ordinal [] = refl
certificate-scale p scale before ordinal (fields ∷ lines) =
    ap (λ (code : Option ℕ). first_fault ordinal code (certificate_from (scaled_to p scale) (with_line (scaled_to p scale) before fields) (ordinal + 1) lines)) (line_code-scale p scale before fields)
    ∙ ap (λ (rest : Result Statement Fault). first_fault ordinal (line_code p before fields) rest)
    (certificate-scale p scale (with_line (scaled_to p scale) before fields) (ordinal + 1) lines
    ∙ ap (λ (d : Draft). certificate_from p d (ordinal + 1) lines) (with_kind-scale p scale before (kind_of fields) fields))

-- the scale that a certificate names is the instance's
pub scale_of-named : (scale : ℕ) → scale_of (named_scale scale) ≡ scale
scale_of-named scale =
    elim (cases_Bool (scale == SCALE)) [
      | inl usual ↦ rw usual (sym (eqb-true scale SCALE usual))
      | inr other ↦ rw other refl
    ]
