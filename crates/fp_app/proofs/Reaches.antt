-- How far a run came that shows an answer, and when its words have no form.
use Rattle.std.proofs.Common.{◌≡◌, ℕ, Bool, true, false, List, length, nat_lt, refl, sym, subst}
use Rattle.std.specs.Prelude.{Option, Some, None, Result, Ok, Err, MatchBool, MatchResult}
use Rattle.std.specs.Io.KnownBytes.{Appends, IsAtEnd}
use Rattle.fp_model.specs.Problem.{Problem}
use Rattle.fp_records_fields.specs.Faults.{Fault}
use Rattle.fp_certificate_lines.specs.declared.certificates.Answer.{Answer}
use Rattle.fp_certificate_lines.specs.declared.certificates.Answer.TheVariants as answer
use Rattle.fp_certificate_lines.specs.Statements.{Statement}
use Rattle.fp_app_words.specs.declared.orders.Order.{Order}
use Rattle.fp_app_words.specs.declared.orders.Order.TheVariants.{Direct, Check, Bound, Plan, Improve, Trial, Fleet, Replan, Quote, Yard}
use Rattle.fp_app.specs.declared.shown.Shown.{Shown}
use Rattle.fp_app.specs.declared.shown.Shown.TheVariants as shown
use Rattle.fp_app.specs.declared.shown.Status.TheVariants as status
use Rattle.fp_app.specs.Checks.{ShowsCheck}
use Rattle.fp_app_tails.specs.Verdicts.{scaled}
use Rattle.fp_app.specs.Inputs.{OfCertificate, certificate_in, has_tail_in, instance_at, instance_in, leading_instance_in, limit_of, reads_source, named_in, quoted_in}
use Rattle.fp_app.specs.NamedQuotes.{ShowsNamedQuote}
use Rattle.fp_app.specs.Runs.{Answers, OfInput, Reach, ShowsAlone, ShowsBound, ShowsDirect, ShowsInput, ShowsSearch, ShowsTrial, Writes, reach_of, whole, ShowsFleetOf, ShowsImproveOf, ShowsQuote, ShowsTail, ShowsYardOf}
use Rattle.fp_app.specs.Shown.{search_status, status_of, both_status}
use Rattle.fp_app.specs.Texts.{IsText}
use Rattle.fp_app.specs.Searches.{Allowance, within}
use Rattle.fp_app.proofs.SearchEnds.{both-no_other, search-no_other}
use Rattle.fp_app.proofs.FleetCauses.{fleet-no_other}
use Rattle.fp_app.proofs.ImproveCauses.{improve-no_other}
use Rattle.fp_app.proofs.SaidCauses.{said-no_other}
use Rattle.fp_app.proofs.YardCauses.{yard-no_other}
use Rattle.fp_app.proofs.TailCauses.{tail-neither}
use Rattle.fp_app.specs.TailChecks.{ShowsSaid}

-- for a time that is known to be over or not
module _ (over : Bool) where
  -- neither of two holds
  MatchBool_neither : (b : Bool) (X Y : Type 0) → (X → ⊥) → (Y → ⊥) → MatchBool b X Y → ⊥
  MatchBool_neither true X Y first second x = first x
  MatchBool_neither false X Y first second y = second y

  MatchResult_neither : {A B : Type 0} (r : Result A B) (P : A → Type 0) (Q : B → Type 0) → ((x : A) → P x → ⊥) → ((y : B) → Q y → ⊥) → MatchResult r P Q → ⊥
  MatchResult_neither (Ok x) P Q first second told = first x told
  MatchResult_neither (Err y) P Q first second told = second y told

  -- what no command shows answers no order
  module _ (s : Shown) (fault : (f : Fault) → s ≡ shown.BadInput f.ordinal f.code → ⊥) (direct : (p : Problem) → ShowsDirect p s → ⊥)
      (bound : (option : Bool) (p : Problem) → ShowsBound option p s → ⊥) (search_none : (allowed : Allowance) (p : Problem) → ShowsSearch allowed p s → ⊥) (check : (p : Problem) (c : Statement) → ShowsCheck p c s → ⊥) (said : (input : List ℕ) → ShowsSaid input s → ⊥)
      (replan : (allowed : Allowance) (input : List ℕ) → ShowsTail allowed input s → ⊥) (quote : (allowed : Allowance) (p : Problem) → ShowsQuote allowed p s → ⊥)
      (named : (allowed : Allowance) (name : List ℕ) (p : Problem) → ShowsNamedQuote allowed name p s → ⊥)
      (yard : (seed : ℕ) (input : List ℕ) → ShowsYardOf seed input s → ⊥)
      (fleet : (trucks : Bool) (input : List ℕ) → ShowsFleetOf trucks input s → ⊥) (improve : (allowed : Allowance) (n : ℕ) (input : List ℕ) → ShowsImproveOf allowed n input s → ⊥) where
    no-certificate : (input : List ℕ) (P : Problem → Statement → Type 0) → ((p : Problem) (c : Statement) → P p c → ⊥) → OfCertificate input s P → ⊥
    no-certificate input P none told =
        MatchResult_neither (leading_instance_in input) (λ p. MatchResult (certificate_in p input) (P p) (λ (f : Fault). s ≡ shown.BadInput f.ordinal f.code)) (λ (f : Fault). s ≡ shown.BadInput f.ordinal f.code)
        (λ p. MatchResult_neither (certificate_in p input) (P p) (λ (f : Fault). s ≡ shown.BadInput f.ordinal f.code) (none p) fault) fault told

    no-input : (o : Order) (input : List ℕ) → ShowsInput over o input s → ⊥
    no-input Direct input told = MatchResult_neither (instance_in input) (λ p. ShowsDirect p s) (λ (f : Fault). s ≡ shown.BadInput f.ordinal f.code) direct fault told
    no-input (Bound option seconds) input told = MatchResult_neither (instance_in input) (λ p. ShowsBound option p s) (λ (f : Fault). s ≡ shown.BadInput f.ordinal f.code) (bound option) fault told
    no-input (Plan budget scale spans seconds notes) input told =
        MatchResult_neither (instance_at scale input) (λ p. ShowsSearch (within budget over spans) p s) (λ (f : Fault). s ≡ shown.BadInput f.ordinal f.code) (search_none (within budget over spans)) fault told
    no-input (Improve budget scale spans seconds notes) input told = improve (within budget over spans) scale input told
    no-input (Trial seed terminals shipments) input told = told
    no-input (Replan budget spans seconds notes) input told = replan (within budget over spans) input told
    no-input (Quote budget spans seconds notes None) input told = MatchResult_neither (quoted_in input) (λ p. ShowsQuote (within budget over spans) p s) (λ (f : Fault). s ≡ shown.BadInput f.ordinal f.code) (quote (within budget over spans)) fault told
    no-input (Quote budget spans seconds notes (Some name)) input told =
        MatchResult_neither (named_in name input) (λ p. ShowsNamedQuote (within budget over spans) name p s) (λ (f : Fault). s ≡ shown.BadInput f.ordinal f.code) (named (within budget over spans) name) fault told
    no-input (Yard seed) input told = yard seed input told
    no-input (Fleet trucks) input told = fleet trucks input told
    no-input Check input told =
        MatchBool_neither (has_tail_in input) (ShowsSaid input s) (OfCertificate input s (λ p c. ShowsCheck (scaled p c) c s)) (said input) (no-certificate input (λ p c. ShowsCheck (scaled p c) c s) (λ p c. check (scaled p c) c)) told

    -- where it is shown neither of an input that is too long nor by an order that reads none
    module _ (long : s ≡ shown.TooLong → ⊥) (alone : (o : Order) → ShowsAlone o s → ⊥) where
      no-whole : (o : Order) (old new : Option (List ℕ)) → OfInput (limit_of (Some o)) old new s (λ input. ShowsInput over o input s) → ⊥
      no-whole o old new told =
          MatchBool_neither (nat_lt (limit_of (Some o)) (length told.0)) (s ≡ shown.TooLong) (IsAtEnd new × ShowsInput over o told.0 s) long (λ part. no-input o told.0 part.1) told.2

      no-answer : (o : Order) (old new : Option (List ℕ)) → Answers over (Some o) old new s → ⊥
      no-answer o old new told =
          MatchBool_neither (reads_source o) (OfInput (limit_of (Some o)) old new s (λ input. ShowsInput over o input s)) (ShowsAlone o s) (no-whole o old new) (alone o) told

  alone-shows_trial : (s : Shown) → ((seed terminals shipments : ℕ) → ShowsTrial seed terminals shipments s → ⊥) → (o : Order) → ShowsAlone o s → ⊥
  alone-shows_trial s none (Trial seed terminals shipments) told = none seed terminals shipments told
  alone-shows_trial s none _ told = told

  nothing-no_order : (o : Order) (old new : Option (List ℕ)) → Answers over (Some o) old new shown.Nothing → ⊥
  nothing-no_order o old new told =
      no-answer shown.Nothing (λ f e. cc e) (λ p none. none) (λ option p none. none) (λ allowed p none. none) (λ p c none. none) (λ input told. said-no_other status.NoMemory input shown.Nothing (λ e. cc e) (λ e. cc e) (λ e. cc e) told refl) (λ allowed input told. tail-neither allowed input shown.Nothing (λ x none. none) (λ x none. none) (λ f e. cc e) told) (λ allowed p none. none) (λ allowed name p none. none) (λ seed input told. yard-no_other seed status.NoMemory (λ e. cc e) (λ e. cc e) (λ e. cc e) input shown.Nothing told refl) (λ trucks input told. fleet-no_other trucks status.NoMemory (λ e. cc e) (λ e. cc e) (λ e. cc e) input shown.Nothing told refl) (λ allowed n input told. improve-no_other allowed n input shown.Nothing status.NoMemory (λ e. cc e) (λ e. cc e) (λ e. cc e) (λ e. cc e) told refl) (λ e. cc e) (alone-shows_trial shown.Nothing (λ seed terminals shipments none. none)) o old new told

  words-no_order : (o : Order) (old new : Option (List ℕ)) → Answers over (Some o) old new shown.BadWords → ⊥
  words-no_order o old new told =
      no-answer shown.BadWords (λ f e. cc e) (λ p none. none) (λ option p none. none) (λ allowed p none. none) (λ p c none. none) (λ input told. said-no_other status.BadWords input shown.BadWords (λ e. cc e) (λ e. cc e) (λ e. cc e) told refl) (λ allowed input told. tail-neither allowed input shown.BadWords (λ x none. none) (λ x none. none) (λ f e. cc e) told) (λ allowed p none. none) (λ allowed name p none. none) (λ seed input told. yard-no_other seed status.BadWords (λ e. cc e) (λ e. cc e) (λ e. cc e) input shown.BadWords told refl) (λ trucks input told. fleet-no_other trucks status.BadWords (λ e. cc e) (λ e. cc e) (λ e. cc e) input shown.BadWords told refl) (λ allowed n input told. improve-no_other allowed n input shown.BadWords status.BadWords (λ e. cc e) (λ e. cc e) (λ e. cc e) (λ e. cc e) told refl) (λ e. cc e) (alone-shows_trial shown.BadWords (λ seed terminals shipments none. none)) o old new told

  -- no order shows of an input that it's too long
  pub long-no_input : (o : Order) (input : List ℕ) → ShowsInput over o input shown.TooLong → ⊥
  long-no_input o input told =
      no-input shown.TooLong (λ f e. cc e) (λ p none. none) (λ option p none. none) (λ allowed p none. none) (λ p c none. none) (λ input told. said-no_other status.TooLong input shown.TooLong (λ e. cc e) (λ e. cc e) (λ e. cc e) told refl) (λ allowed input told. tail-neither allowed input shown.TooLong (λ x none. none) (λ x none. none) (λ f e. cc e) told) (λ allowed p none. none) (λ allowed name p none. none) (λ seed input told. yard-no_other seed status.TooLong (λ e. cc e) (λ e. cc e) (λ e. cc e) input shown.TooLong told refl) (λ trucks input told. fleet-no_other trucks status.TooLong (λ e. cc e) (λ e. cc e) (λ e. cc e) input shown.TooLong told refl) (λ allowed n input told. improve-no_other allowed n input shown.TooLong status.TooLong (λ e. cc e) (λ e. cc e) (λ e. cc e) (λ e. cc e) told refl) o input told

  nothing-no_answer : (o : Option Order) (old new : Option (List ℕ)) → Answers over o old new shown.Nothing → ⊥
  nothing-no_answer None old new told = cc told
  nothing-no_answer (Some o) old new told = nothing-no_order o old new told

  -- a run of an answer came through all of its text
  search-whole : (a : Answer) → reach_of (search_status a) ≡ whole
  search-whole (answer.Unfinished cost bound spent) = refl
  search-whole _ = refl

  both-whole : (a b : Answer) → reach_of (both_status a b) ≡ whole
  both-whole (answer.Unfinished cost bound spent) b = refl
  both-whole _ b = search-whole b

  shown-whole : (s : Shown) → (s ≡ shown.Nothing → ⊥) → reach_of (status_of s) ≡ whole
  shown-whole (shown.Planned p x) some = search-whole x.certificate.answer
  shown-whole (shown.Trial seed failed p x) some = search-whole x.certificate.answer
  shown-whole (shown.Replanned p kept x) some = search-whole x.certificate.answer
  shown-whole (shown.Underway p day rest x) some = search-whole x.certificate.answer
  shown-whole (shown.Quoted p x y) some = both-whole x.certificate.answer y.certificate.answer
  shown-whole (shown.NamedQuote p x y more) some = both-whole x.certificate.answer y.certificate.answer
  shown-whole shown.Nothing some = absurd (some refl)
  shown-whole _ some = refl

  pub Writes-Answers : {K : Type 0} (taken : K → Option (List ℕ)) (o : Option Order) (before after : Option (List ℕ)) (old new : K) (s : Shown) (text : List ℕ) → Answers over o before after s → IsText s text →
      Appends (taken old) (taken new) text → Writes taken (reach_of (status_of s)) old new s
  Writes-Answers taken o before after old new s text told is appends =
      let reach : reach_of (status_of s) ≡ whole = shown-whole s (λ none. nothing-no_answer o before after (subst (λ (x : Shown). Answers over o before after x) none told)) in
      subst (λ (r : Reach). Writes taken r old new s) (sym reach) (text, is, appends)

  -- words with the status of none of the forms have none
  status_of_words : (s : Shown) → status_of s ≡ status.BadWords → s ≡ shown.BadWords
  status_of_words shown.BadWords same = refl
  status_of_words (shown.Planned p x) same = absurd (search-no_other x.certificate.answer status.BadWords (λ e. cc e) (λ e. cc e) same)
  status_of_words (shown.Trial seed failed p x) same = absurd (search-no_other x.certificate.answer status.BadWords (λ e. cc e) (λ e. cc e) same)
  status_of_words (shown.Replanned p kept x) same = absurd (search-no_other x.certificate.answer status.BadWords (λ e. cc e) (λ e. cc e) same)
  status_of_words (shown.Underway p day rest x) same = absurd (search-no_other x.certificate.answer status.BadWords (λ e. cc e) (λ e. cc e) same)
  status_of_words (shown.Quoted p x y) same = absurd (both-no_other x.certificate.answer y.certificate.answer status.BadWords (λ e. cc e) (λ e. cc e) same)
  status_of_words (shown.NamedQuote p x y more) same = absurd (both-no_other x.certificate.answer y.certificate.answer status.BadWords (λ e. cc e) (λ e. cc e) same)
  status_of_words _ same = let g = same in cc

  pub BadWords-None : (o : Option Order) (old new : Option (List ℕ)) (s : Shown) → Answers over o old new s → status_of s ≡ status.BadWords → o ≡ None
  BadWords-None None old new s told same = refl
  BadWords-None (Some o) old new s told same = absurd (words-no_order o old new (subst (λ (x : Shown). Answers over (Some o) old new x) (status_of_words s same) told))
