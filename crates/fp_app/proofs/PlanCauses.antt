-- What `yard` and `fleet` show with each status, of a certificate after an instance alone or of an answer after kept legs or
-- a day, from what they show of the plan that it tells.
use Rattle.std.proofs.Common.{◌≡◌, ◌∙◌, ℕ, true, false, List, refl, sym, ap}
use Rattle.std.specs.Prelude.{Some, MatchBool, MatchResult, if◌then◌else◌}
use Rattle.fp_model.specs.Problem.{Problem}
use Rattle.fp_records_fields.specs.Faults.{Fault}
use Rattle.fp_certificate_lines.specs.Statements.{Statement}
use Rattle.fp_app_words.specs.declared.orders.Order.{Order}
use Rattle.fp_app_tails.specs.declared.answers.Scale.TheVariants as asked
use Rattle.fp_app.specs.declared.shown.Shown.{Shown}
use Rattle.fp_app.specs.declared.shown.Shown.TheVariants as shown
use Rattle.fp_app.specs.declared.shown.Status.{Status}
use Rattle.fp_app.specs.declared.shown.Status.TheVariants as status
use Rattle.fp_app.specs.Causes.{GivesPlan, ShowsFault, ShowsNo}
use Rattle.fp_app.specs.Inputs.{OfCertificate, certificate_in, fault_in, has_tail_in, input_fault, leading_instance_in, tail_fault_in}
use Rattle.fp_app.specs.Plans.{ShowsUntold}
use Rattle.fp_app.specs.Shown.{status_of}
use Rattle.fp_app.specs.TailAnswers.{EndsOfTail, GivesOfTail, IsUntold, RejectsTail, ShowsOfTail}
use Rattle.fp_app.specs.Wanted.{Wanted, every}
use Rattle.fp_app.proofs.CertificateInputs.{CertificateEnd, both, certificate-end, fault}
use Rattle.fp_app.proofs.TailAnswers.{tail-ends, tail-gives, tail-no_other, tail-refused, tail-rejects}
use Rattle.fp_app.proofs.TailCauses.{both-give, each-of, read-gives}

module _ (input : List ℕ) (s : Shown) (P : Problem → Wanted → Statement → Type 0) where
  abbrev pub OfTail : Type 0
  OfTail = ShowsOfTail asked.Usual input s P

  abbrev pub OfAlone : Type 0
  OfAlone = OfCertificate input s (λ p c. P p every c)

  abbrev AloneEnd : Type 0
  AloneEnd = CertificateEnd input s (λ p c. P p every c)

  alone-end : OfAlone → AloneEnd
  alone-end told = certificate-end input s (λ p c. P p every c) told

  -- what it gives
  alone-gives : (t : Status) (D : Problem → Wanted → Statement → Type 0) → (status.BadInput ≡ t → ⊥) → ((p : Problem) (wanted : Wanted) (c : Statement) → P p wanted c → D p wanted c) → status_of s ≡ t → AloneEnd → GivesPlan input D
  alone-gives t D not_refused each same (both p c is read told) = record { instance = p; certificate = c; read = is; certified = read; holds = each p every c told }
  alone-gives t D not_refused each same (fault f first refused) = absurd (not_refused (ap status_of (sym refused) ∙ same))

  pub plan-gives : (t : Status) (D : Problem → Wanted → Statement → Type 0) → (status.Rejected ≡ t → ⊥) → (status.BadInput ≡ t → ⊥) → ((p : Problem) (wanted : Wanted) (c : Statement) → P p wanted c → D p wanted c) → MatchBool (has_tail_in input) OfTail OfAlone →
      status_of s ≡ t → MatchBool (has_tail_in input) (GivesOfTail asked.Usual input D) (GivesPlan input D)
  plan-gives t D not_rejected not_refused each told same =
      each-of (has_tail_in input) OfTail OfAlone (GivesOfTail asked.Usual input D) (GivesPlan input D) (λ of. tail-gives asked.Usual input s P t D not_rejected not_refused each of same)
      (λ of. alone-gives t D not_refused each same (alone-end of)) told

  -- its status
  abbrev AloneStatus : (Problem → Wanted → Statement → Type 0) → Type 0
  AloneStatus D = MatchResult (leading_instance_in input) (λ p. MatchResult (certificate_in p input) (λ c. D p every c) (λ (f : Fault). status_of s ≡ status.BadInput)) (λ (f : Fault). status_of s ≡ status.BadInput)

  alone-status : (D : Problem → Wanted → Statement → Type 0) → ((p : Problem) (wanted : Wanted) (c : Statement) → P p wanted c → D p wanted c) → OfAlone → AloneStatus D
  alone-status D each told =
      read-gives (leading_instance_in input) (λ p. MatchResult (certificate_in p input) (λ c. P p every c) (λ (f : Fault). s ≡ shown.BadInput f.ordinal f.code))
      (λ p. MatchResult (certificate_in p input) (λ c. D p every c) (λ (f : Fault). status_of s ≡ status.BadInput)) s
      (λ p. read-gives (certificate_in p input) (λ c. P p every c) (λ c. D p every c) s (each p every)) told

  pub plan-ends : (D : Problem → Wanted → Statement → Type 0) → ((p : Problem) (wanted : Wanted) (c : Statement) → P p wanted c → D p wanted c) → MatchBool (has_tail_in input) OfTail OfAlone →
      MatchBool (has_tail_in input) (EndsOfTail asked.Usual input (status_of s) D) (AloneStatus D)
  plan-ends D each told =
      each-of (has_tail_in input) OfTail OfAlone (EndsOfTail asked.Usual input (status_of s) D) (AloneStatus D) (tail-ends asked.Usual input s P D each) (alone-status D each) told

  -- a rejection is of a certificate that tells no plan
  alone-rejects : ((p : Problem) (wanted : Wanted) (c : Statement) → P p wanted c → IsUntold p wanted c s) → status_of s ≡ status.Rejected → AloneEnd → ShowsNo (λ p c number. ShowsUntold p every c number) input s
  alone-rejects each same (both p c is read told) =
      let own : IsUntold p every c s = each p every c told in
      record { instance = p; certificate = c; number = own.number; read = is; certified = read; shows = own.shows; rejected = own.untold }
  alone-rejects each same (fault f first refused) = let e : status.BadInput ≡ status.Rejected = ap status_of (sym refused) ∙ same in cc e

  pub plan-rejects : ((p : Problem) (wanted : Wanted) (c : Statement) → P p wanted c → IsUntold p wanted c s) → MatchBool (has_tail_in input) OfTail OfAlone → status_of s ≡ status.Rejected →
      MatchBool (has_tail_in input) (RejectsTail asked.Usual input s) (ShowsNo (λ p c number. ShowsUntold p every c number) input s)
  plan-rejects each told same =
      each-of (has_tail_in input) OfTail OfAlone (RejectsTail asked.Usual input s) (ShowsNo (λ p c number. ShowsUntold p every c number) input s) (λ of. tail-rejects asked.Usual input s P each of same)
      (λ of. alone-rejects each same (alone-end of)) told

  -- and it has no other status
  alone-no_other : (t : Status) → (status.BadInput ≡ t → ⊥) → ((p : Problem) (wanted : Wanted) (c : Statement) → P p wanted c → ⊥) → status_of s ≡ t → AloneEnd → ⊥
  alone-no_other t not_refused each same (both p c is read told) = each p every c told
  alone-no_other t not_refused each same (fault f first refused) = not_refused (ap status_of (sym refused) ∙ same)

  pub plan-no_other : (t : Status) → (status.Rejected ≡ t → ⊥) → (status.BadInput ≡ t → ⊥) → ((p : Problem) (wanted : Wanted) (c : Statement) → P p wanted c → ⊥) → MatchBool (has_tail_in input) OfTail OfAlone → status_of s ≡ t → ⊥
  plan-no_other t not_rejected not_refused each told same =
      both-give (has_tail_in input) OfTail OfAlone ⊥ (λ is of. tail-no_other asked.Usual input s P t not_rejected not_refused each of same) (λ is of. alone-no_other t not_refused each same (alone-end of)) told

-- a refusal is by the first fault
module _ (o : Order) (input : List ℕ) (own : fault_in (Some o) input ≡ (if has_tail_in input then tail_fault_in asked.Usual input else input_fault input (leading_instance_in input))) (P : Problem → Wanted → Statement → Type 0) (ordinal code : ℕ)
    (never : (p : Problem) (wanted : Wanted) (c : Statement) → P p wanted c → ⊥) where
  abbrev s : Shown
  s = shown.BadInput ordinal code

  tail-fault : has_tail_in input ≡ true → OfTail input s P → ShowsFault (Some o) input s
  tail-fault tail told = record { fault = record { ordinal = ordinal; code = code }; first = own ∙ rw tail (tail-refused asked.Usual input P ordinal code never told); shows = refl }

  alone-fault : has_tail_in input ≡ false → AloneEnd input s P → ShowsFault (Some o) input s
  alone-fault alone (both p c is read told) = absurd (never p every c told)
  alone-fault alone (fault f first same) = record { fault = f; first = own ∙ rw alone first; shows = same }

  pub plan-refused : MatchBool (has_tail_in input) (OfTail input s P) (OfAlone input s P) → ShowsFault (Some o) input s
  plan-refused told = both-give (has_tail_in input) (OfTail input s P) (OfAlone input s P) (ShowsFault (Some o) input s) tail-fault (λ alone of. alone-fault alone (alone-end input s P of)) told
