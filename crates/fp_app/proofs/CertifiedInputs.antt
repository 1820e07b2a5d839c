-- What an input gives as an instance at a scale with a certificate.
use Rattle.std.proofs.Common.{◌≡◌, ◌∙◌, ℕ, ◌^◌, List, refl, sym, ap, inl, inr}
use Rattle.std.specs.Prelude.{Result, Ok, Err, nat_lt}
use Rattle.std.proofs.lemmas.Bool.{cases_Bool}
use Rattle.fp_model.specs.Problem.{Problem, weight_at}
use Rattle.fp_records_fields.specs.Faults.{Fault}
use Rattle.fp_certificate_lines.specs.Statements.{Statement}
use Rattle.fp_app.specs.Inputs.{CertifiedInstance, at_scale, certificate_in, certified, certified_after, certified_at, certified_scaled, leading_instance_in}

-- an instance at a scale is that instance, with the scale
pub at_scale-is : (scale : ℕ) (p q : Problem) → at_scale scale q ≡ Ok p → p ≡ record q { scale = scale }
at_scale-is scale p q is =
    elim (cases_Bool (nat_lt (weight_at scale q.arcs q.shipments) (2 ^ 127))) [
      | inl fits ↦ let same : Ok (record q { scale = scale }) ≡ Ok p = rw fits at is in cc same
      | inr large ↦ let none = rw large at is in cc none
    ]

-- the instance that was read, and its certificate
pub record CertifiedParts (scale : ℕ) (input : List ℕ) (x : CertifiedInstance) : Type 0 where
  pub instance : Problem
  pub read : leading_instance_in input ≡ Ok instance
  pub certified : certificate_in instance input ≡ Ok x.certificate
  pub at : x.instance ≡ record instance { scale = scale }

parts-at : (scale : ℕ) (input : List ℕ) (x : CertifiedInstance) (p : Problem) (c : Statement) (r : Result Problem Fault) → leading_instance_in input ≡ Ok p → certificate_in p input ≡ Ok c → at_scale scale p ≡ r → certified c r ≡ Ok x →
    CertifiedParts scale input x
parts-at scale input x p c (Ok q) read told at is =
    let own : x ≡ record { instance = q; certificate = c } = cc is in
    record { instance = p; read = read; certified = told ∙ ap (λ (y : CertifiedInstance). Ok y.certificate) (sym own); at = ap (λ (y : CertifiedInstance). y.instance) own ∙ at_scale-is scale q p at }
parts-at scale input x p c (Err f) read told at is = cc is

parts-certificate : (scale : ℕ) (input : List ℕ) (x : CertifiedInstance) (p : Problem) (r : Result Statement Fault) → leading_instance_in input ≡ Ok p → certificate_in p input ≡ r → certified_scaled scale p r ≡ Ok x → CertifiedParts scale input x
parts-certificate scale input x p (Ok c) read told is = parts-at scale input x p c (at_scale scale p) read told refl is
parts-certificate scale input x p (Err f) read told is = cc is

parts-instance : (scale : ℕ) (input : List ℕ) (x : CertifiedInstance) (r : Result Problem Fault) → leading_instance_in input ≡ r → certified_after scale input r ≡ Ok x → CertifiedParts scale input x
parts-instance scale input x (Ok p) read is = parts-certificate scale input x p (certificate_in p input) read refl is
parts-instance scale input x (Err f) read is = cc is

pub certified-parts : (scale : ℕ) (input : List ℕ) (x : CertifiedInstance) → certified_at scale input ≡ Ok x → CertifiedParts scale input x
certified-parts scale input x is = parts-instance scale input x (leading_instance_in input) refl is
