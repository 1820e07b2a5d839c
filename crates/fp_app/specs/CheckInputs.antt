-- An instance and a certificate of an input, or why there are none.
use Rattle.std.specs.Prelude.{ℕ, ◌+◌, ◌-◌, ◌^◌, ◌<◌, ◌≡◌, List, drop, length, All, Some, Ok, Err, ⊤}
use Rattle.fp_model.specs.Problem.{Problem}
use Rattle.fp_prices.specs.Tables.{AreCountable}
use Rattle.fp_prices_spans.specs.Spans.{ClassSpan}
use Rattle.fp_certificate_lines.specs.Ranges.{IsInRange}
use Rattle.fp_certificate_lines.specs.Statements.{Statement}
use Rattle.fp_certificate.specs.Reading.{certificate_of}
use Rattle.fp_app.specs.declared.commands.checks.CheckInput.{CheckInput}
use Rattle.fp_app.specs.declared.commands.checks.CheckInput.TheVariants.{Fault, Both}
use Rattle.fp_app.specs.Inputs.{at_scale, certificate_in, certified_at, input_fault, leading_instance_in}

-- it is the instance and the certificate of the input, or the first fault
abbrev pub IsCheckInput : List ℕ → CheckInput → Type 0
IsCheckInput input (Both p c) = (leading_instance_in input ≡ Ok p) × (certificate_in p input ≡ Ok c)
IsCheckInput input (Fault ordinal code) = input_fault input (leading_instance_in input) ≡ Some (record { ordinal = ordinal; code = code })

-- it is the instance of the input at a scale and the certificate, or the first fault
abbrev pub IsCertifiedInput : ℕ → List ℕ → CheckInput → Type 0
IsCertifiedInput scale input (Both p c) = certified_at scale input ≡ Ok (record { instance = p; certificate = c })
IsCertifiedInput scale input (Fault ordinal code) = certified_at scale input ≡ Err (record { ordinal = ordinal; code = code })

-- it is an instance at a scale and a certificate, or that the scale doesn't fit
abbrev pub IsCertifiedOf : ℕ → Problem → Statement → CheckInput → Type 0
IsCertifiedOf scale p c (Both q d) = (at_scale scale p ≡ Ok q) × (d ≡ c)
IsCertifiedOf scale p c (Fault ordinal code) = at_scale scale p ≡ Err (record { ordinal = ordinal; code = code })

-- it is the instance and the certificate of the records from a place on, or the
-- first fault of these records
abbrev pub IsCheckInputOf : Problem → ℕ → List (List (List ℕ)) → CheckInput → Type 0
IsCheckInputOf p used records (Both q c) = (q ≡ p) × (certificate_of p (used + 1) (drop used records) ≡ Ok c)
IsCheckInputOf p used records (Fault ordinal code) = certificate_of p (used + 1) (drop used records) ≡ Err (record { ordinal = ordinal; code = code })

-- the certificate can be checked for the instance: it is in range, and its tables and the spans beside
-- each can be counted
abbrev pub CanBeChecked : Problem → Statement → Type 0
CanBeChecked p c = IsInRange p c × AreCountable p c.tables × All (λ (list : List ClassSpan). length list < 2 ^ 32 - 1) c.spans

-- the certificate can be checked for the instance, where there is one
abbrev pub AreCheckable : CheckInput → Type 0
AreCheckable (Both p c) = CanBeChecked p c
AreCheckable (Fault ordinal code) = ⊤
