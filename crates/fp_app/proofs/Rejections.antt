-- What a run shows that rejects a certificate.
use Rattle.std.proofs.Common.{◌≡◌, ℕ, Bool, List, refl, sym, subst, inl, inr}
use Rattle.std.specs.Prelude.{Option, Some, None, Result, Ok, Err, MatchResult}
use Rattle.fp_model.specs.Problem.{Problem}
use Rattle.fp_records_fields.specs.Faults.{Fault}
use Rattle.fp_certificate_lines.specs.Statements.{Statement}
use Rattle.fp_app_words.specs.declared.orders.Order.{Order}
use Rattle.fp_app_words.specs.declared.orders.Order.TheVariants.{Direct, Check, Bound, Plan, Improve, Trial, Fleet, Replan, Quote, Yard}
use Rattle.fp_app.specs.declared.shown.Shown.{Shown}
use Rattle.fp_app.specs.declared.shown.Shown.TheVariants as shown
use Rattle.fp_app.specs.declared.shown.Status.TheVariants as status
use Rattle.fp_app.specs.Causes.{ShowsNo, ShowsRejection}
use Rattle.fp_app.specs.Checks.{ShowsCheck, ShowsRejected}
use Rattle.fp_app_tails.specs.Verdicts.{scaled}
use Rattle.fp_app.specs.Inputs.{OfCertificate, certificate_in, has_tail_in, instance_at, instance_in, leading_instance_in, named_in, quoted_in}
use Rattle.fp_app.specs.Runs.{Answers, ShowsAlone, ShowsInput}
use Rattle.fp_app.specs.Searches.{within}
use Rattle.fp_app.specs.Shown.{status_of}
use Rattle.fp_app.proofs.FleetCauses.{fleet-rejection}
use Rattle.fp_app.proofs.ImproveCauses.{improve-rejection}
use Rattle.fp_app.proofs.SearchEnds.{search-no_other, both-no_other}
use Rattle.fp_app.proofs.YardCauses.{yard-rejection}
use Rattle.fp_app.proofs.StatusCauses.{Answers-ShowsOf, ShowsOf}
use Rattle.fp_app.proofs.SaidCauses.{said-rejected}
use Rattle.fp_app.proofs.TailCauses.{each-of, tail-neither}
use Rattle.fp_app.specs.TailChecks.{ShowsSaid, ShowsSaidNo}

-- for a time that is known to be over or not
module _ (over : Bool) where
  -- a rejection is no fault of a record
  rejection-no_fault : (number : ℕ) (f : Fault) → shown.RejectedPart number ≡ shown.BadInput f.ordinal f.code → ⊥
  rejection-no_fault number f same = cc same

  rejection-unread : {A : Type 0} (number : ℕ) (r : Result A Fault) → MatchResult r (λ x. ⊥) (λ (f : Fault). shown.RejectedPart number ≡ shown.BadInput f.ordinal f.code) → ⊥
  rejection-unread number (Ok x) told = told
  rejection-unread number (Err f) told = rejection-no_fault number f told

  -- a certificate that `check` rejects
  abbrev IsUnaccepted : List ℕ → Shown → Type 0
  IsUnaccepted input s = ShowsNo (λ p c number. ShowsRejected (scaled p c) c number) input s

  ShowsNo_certificate : (input : List ℕ) (number : ℕ) (p : Problem) (q : Result Statement Fault) → leading_instance_in input ≡ Ok p → certificate_in p input ≡ q →
      MatchResult q (λ c. ShowsCheck (scaled p c) c (shown.RejectedPart number)) (λ (f : Fault). shown.RejectedPart number ≡ shown.BadInput f.ordinal f.code) → IsUnaccepted input (shown.RejectedPart number)
  ShowsNo_certificate input number p (Ok c) is read told = record { instance = p; certificate = c; number = number; read = is; certified = read; shows = refl; rejected = told }
  ShowsNo_certificate input number p (Err f) is read same = absurd (rejection-no_fault number f same)

  ShowsNo_check : (input : List ℕ) (number : ℕ) (r : Result Problem Fault) → leading_instance_in input ≡ r →
      MatchResult r
      (λ p. MatchResult (certificate_in p input) (λ c. ShowsCheck (scaled p c) c (shown.RejectedPart number)) (λ (f : Fault). shown.RejectedPart number ≡ shown.BadInput f.ordinal f.code))
      (λ (f : Fault). shown.RejectedPart number ≡ shown.BadInput f.ordinal f.code) → IsUnaccepted input (shown.RejectedPart number)
  ShowsNo_check input number (Ok p) is told = ShowsNo_certificate input number p (certificate_in p input) is refl told
  ShowsNo_check input number (Err f) is same = absurd (rejection-no_fault number f same)

  -- only `check`, `yard`, `fleet` and `improve` reject
  ShowsNo_input : (o : Order) (input : List ℕ) (number : ℕ) → ShowsInput over o input (shown.RejectedPart number) → ShowsRejection (Some o) input (shown.RejectedPart number)
  ShowsNo_input Direct input number told = absurd (rejection-unread number (instance_in input) told)
  ShowsNo_input (Bound option seconds) input number told = absurd (rejection-unread number (instance_in input) told)
  ShowsNo_input (Plan budget scale spans seconds notes) input number told = absurd (rejection-unread number (instance_at scale input) told)
  ShowsNo_input (Improve budget scale spans seconds notes) input number told = improve-rejection (within budget over spans) scale input number told
  ShowsNo_input (Trial seed terminals shipments) input number told = absurd told
  ShowsNo_input (Yard seed) input number told = yard-rejection seed input number told
  ShowsNo_input (Fleet trucks) input number told = fleet-rejection trucks input number told
  ShowsNo_input (Replan budget spans seconds notes) input number told =
      absurd (tail-neither (within budget over spans) input (shown.RejectedPart number) (λ x none. none) (λ x none. none) (rejection-no_fault number) told)
  ShowsNo_input (Quote budget spans seconds notes None) input number told = absurd (rejection-unread number (quoted_in input) told)
  ShowsNo_input (Quote budget spans seconds notes (Some name)) input number told = absurd (rejection-unread number (named_in name input) told)
  ShowsNo_input Check input number told =
      each-of (has_tail_in input) (ShowsSaid input (shown.RejectedPart number)) (OfCertificate input (shown.RejectedPart number) (λ p c. ShowsCheck (scaled p c) c (shown.RejectedPart number))) (ShowsSaidNo input (shown.RejectedPart number)) (IsUnaccepted input (shown.RejectedPart number))
      (said-rejected input number) (λ of. ShowsNo_check input number (leading_instance_in input) refl of) told

  alone-no_rejection : (o : Order) (number : ℕ) → ShowsAlone o (shown.RejectedPart number) → ⊥
  alone-no_rejection (Trial seed terminals shipments) number told = told
  alone-no_rejection _ number told = told

  ShowsNo_of : (o : Order) (input : List ℕ) (number : ℕ) → ShowsOf over o input (shown.RejectedPart number) → ShowsRejection (Some o) input (shown.RejectedPart number)
  ShowsNo_of o input number (inl told) = ShowsNo_input o input number told
  ShowsNo_of o input number (inr told) = absurd (alone-no_rejection o number told)

  words-no_rejection : (number : ℕ) → shown.RejectedPart number ≡ shown.BadWords → ⊥
  words-no_rejection number same = cc same

  ShowsNo_answers : (o : Option Order) (input : List ℕ) (new : Option (List ℕ)) (number : ℕ) → Answers over o (Some input) new (shown.RejectedPart number) → ShowsRejection o input (shown.RejectedPart number)
  ShowsNo_answers None input new number same = absurd (words-no_rejection number same)
  ShowsNo_answers (Some o) input new number told = ShowsNo_of o input number (Answers-ShowsOf over o input new (shown.RejectedPart number) told (λ g. cc g))

  -- what is shown with the status of a rejected certificate
  status_of_rejected : (s : Shown) → status_of s ≡ status.Rejected → (number : ℕ) × (s ≡ shown.RejectedPart number)
  status_of_rejected (shown.RejectedPart number) same = (number, refl)
  status_of_rejected (shown.Planned p x) same = absurd (search-no_other x.certificate.answer status.Rejected (λ e. cc e) (λ e. cc e) same)
  status_of_rejected (shown.Trial seed failed p x) same = absurd (search-no_other x.certificate.answer status.Rejected (λ e. cc e) (λ e. cc e) same)
  status_of_rejected (shown.Replanned p kept x) same = absurd (search-no_other x.certificate.answer status.Rejected (λ e. cc e) (λ e. cc e) same)
  status_of_rejected (shown.Underway p day rest x) same = absurd (search-no_other x.certificate.answer status.Rejected (λ e. cc e) (λ e. cc e) same)
  status_of_rejected (shown.Quoted p x y) same = absurd (both-no_other x.certificate.answer y.certificate.answer status.Rejected (λ e. cc e) (λ e. cc e) same)
  status_of_rejected (shown.NamedQuote p x y more) same = absurd (both-no_other x.certificate.answer y.certificate.answer status.Rejected (λ e. cc e) (λ e. cc e) same)
  status_of_rejected _ same = let g = same in cc

  pub Rejected-ShowsRejection : (o : Option Order) (input : List ℕ) (old new : Option (List ℕ)) (s : Shown) → old ≡ Some input → Answers over o old new s → status_of s ≡ status.Rejected → ShowsRejection o input s
  Rejected-ShowsRejection o input old new s is told same =
      let rejected = status_of_rejected s same in
      let here : Answers over o (Some input) new s = subst (λ (x : Option (List ℕ)). Answers over o x new s) is told in
      let part : Answers over o (Some input) new (shown.RejectedPart rejected.0) = subst (λ (t : Shown). Answers over o (Some input) new t) rejected.1 here in
      subst (λ (t : Shown). ShowsRejection o input t) (sym rejected.1) (ShowsNo_answers o input new rejected.0 part)
