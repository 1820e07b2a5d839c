-- What is shown of an input that gives an instance and a certificate.
use Rattle.std.proofs.Common.{◌≡◌, List, ℕ, refl, sym, ap, ◌∙◌}
use Rattle.std.specs.Prelude.{Some, Result, Ok, Err, MatchResult}
use Rattle.fp_model.specs.Problem.{Problem}
use Rattle.fp_records_fields.specs.Faults.{Fault}
use Rattle.fp_certificate_lines.specs.Statements.{Statement}
use Rattle.fp_app.specs.declared.shown.Shown.{Shown}
use Rattle.fp_app.specs.declared.shown.Shown.TheVariants as shown
use Rattle.fp_app.specs.Inputs.{OfCertificate, certificate_in, fault_of, input_fault, leading_instance_in}

-- the input gives both, or its first fault is shown
pub data CertificateEnd (input : List ℕ) (s : Shown) (P : Problem → Statement → Type 0) : Type 0 where
  both : (p : Problem) (c : Statement) → leading_instance_in input ≡ Ok p → certificate_in p input ≡ Ok c → P p c → CertificateEnd input s P
  fault : (f : Fault) → input_fault input (leading_instance_in input) ≡ Some f → s ≡ shown.BadInput f.ordinal f.code → CertificateEnd input s P

end-certificate : (input : List ℕ) (s : Shown) (P : Problem → Statement → Type 0) (p : Problem) (q : Result Statement Fault) → leading_instance_in input ≡ Ok p → certificate_in p input ≡ q →
    MatchResult q (P p) (λ (f : Fault). s ≡ shown.BadInput f.ordinal f.code) → CertificateEnd input s P
end-certificate input s P p (Ok c) is read told = both p c is read told
end-certificate input s P p (Err f) is read same = fault f (ap (input_fault input) is ∙ ap fault_of read) same

end-instance : (input : List ℕ) (s : Shown) (P : Problem → Statement → Type 0) (r : Result Problem Fault) → leading_instance_in input ≡ r →
    MatchResult r (λ p. MatchResult (certificate_in p input) (P p) (λ (f : Fault). s ≡ shown.BadInput f.ordinal f.code)) (λ (f : Fault). s ≡ shown.BadInput f.ordinal f.code) → CertificateEnd input s P
end-instance input s P (Ok p) is told = end-certificate input s P p (certificate_in p input) is refl told
end-instance input s P (Err f) is same = fault f (ap (input_fault input) is) same

-- what was read, or the fault in its place, is shown so
pub both-shown : (input : List ℕ) (s : Shown) (P : Problem → Statement → Type 0) (p : Problem) (c : Statement) → leading_instance_in input ≡ Ok p → certificate_in p input ≡ Ok c → P p c → OfCertificate input s P
both-shown input s P p c read certified shows = rw (read, certified) shows

same-fault : (s : Shown) (ordinal code : ℕ) (f : Fault) → s ≡ shown.BadInput ordinal code → Some f ≡ Some (record { ordinal = ordinal; code = code }) → s ≡ shown.BadInput f.ordinal f.code
same-fault s ordinal code f shows is =
    let same : f ≡ record { ordinal = ordinal; code = code } = cc is in
    shows ∙ ap (λ (x : Fault). shown.BadInput x.ordinal x.code) (sym same)

fault-of_certificate : (s : Shown) (P : Statement → Type 0) (ordinal code : ℕ) (r : Result Statement Fault) → s ≡ shown.BadInput ordinal code → fault_of r ≡ Some (record { ordinal = ordinal; code = code }) →
    MatchResult r P (λ (f : Fault). s ≡ shown.BadInput f.ordinal f.code)
fault-of_certificate s P ordinal code (Ok c) shows is = cc is
fault-of_certificate s P ordinal code (Err f) shows is = same-fault s ordinal code f shows is

fault-of_input : (input : List ℕ) (s : Shown) (P : Problem → Statement → Type 0) (ordinal code : ℕ) (r : Result Problem Fault) → s ≡ shown.BadInput ordinal code → input_fault input r ≡ Some (record { ordinal = ordinal; code = code }) →
    MatchResult r (λ p. MatchResult (certificate_in p input) (P p) (λ (f : Fault). s ≡ shown.BadInput f.ordinal f.code)) (λ (f : Fault). s ≡ shown.BadInput f.ordinal f.code)
fault-of_input input s P ordinal code (Ok p) shows is = fault-of_certificate s (P p) ordinal code (certificate_in p input) shows is
fault-of_input input s P ordinal code (Err f) shows is = same-fault s ordinal code f shows is

pub fault-shown : (input : List ℕ) (s : Shown) (P : Problem → Statement → Type 0) (ordinal code : ℕ) → s ≡ shown.BadInput ordinal code → input_fault input (leading_instance_in input) ≡ Some (record { ordinal = ordinal; code = code }) →
    OfCertificate input s P
fault-shown input s P ordinal code shows is = fault-of_input input s P ordinal code (leading_instance_in input) shows is

pub certificate-end : (input : List ℕ) (s : Shown) (P : Problem → Statement → Type 0) → OfCertificate input s P → CertificateEnd input s P
certificate-end input s P told = end-instance input s P (leading_instance_in input) refl told
