-- The one status of an order for an input, from what is shown.
use Rattle.std.proofs.Common.{◌≡◌, ℕ, ◌≤◌, Bool, true, false, List, length, nat_lt, refl, ap, subst, inl, inr, arith}
use Rattle.std.specs.Prelude.{Option, Some, None, Result, Ok, Err, MatchBool, MatchResult}
use Rattle.std.specs.Io.KnownBytes.{IsAtEnd}
use Rattle.fp_model.specs.Problem.{Problem}
use Rattle.fp_records_fields.specs.Faults.{Fault}
use Rattle.fp_reader.specs.Generator.{generated}
use Rattle.fp_certificate_lines.specs.Statements.{Statement}
use Rattle.fp_session_history.specs.Solutions.{Solution}
use Rattle.fp_app_words.specs.declared.orders.Order.{Order}
use Rattle.fp_app_words.specs.declared.orders.Order.TheVariants.{Direct, Check, Bound, Plan, Improve, Trial, Fleet, Replan, Quote, Yard}
use Rattle.fp_app.specs.declared.shown.Shown.{Shown}
use Rattle.fp_app.specs.declared.shown.Shown.TheVariants as shown
use Rattle.fp_app.specs.declared.shown.Status.TheVariants as status
use Rattle.fp_app.specs.Causes.{AloneStatus, CheckStatus, InputStatus, PlanStatus, SearchStatus, StatusOf, ToldStatus, TrialStatus, QuoteStatus}
use Rattle.fp_app.specs.Checks.{ShowsCheck}
use Rattle.fp_app_tails.specs.Verdicts.{scaled}
use Rattle.fp_app.specs.Inputs.{OfCertificate, certificate_in, has_tail_in, instance_at, instance_in, leading_instance_in, limit_of, reads_source, named_in, quoted_in}
use Rattle.fp_app.specs.NamedCauses.{NamedStatus}
use Rattle.fp_app.specs.NamedQuotes.{ShowsNamedQuote}
use Rattle.fp_app.specs.Runs.{Answers, OfInput, ShowsAlone, ShowsBound, ShowsDirect, ShowsInput, ShowsSearch, ShowsQuote}
use Rattle.fp_app.specs.Searches.{Allowance, IsSearched, trial_allowance, within}
use Rattle.fp_app.specs.Shown.{search_status, status_of}
use Rattle.fp_app.specs.Fleets.{ShowsFleet}
use Rattle.fp_app.specs.Yards.{ShowsYard}
use Rattle.fp_app.proofs.FleetCauses.{fleet-status}
use Rattle.fp_app.proofs.ImproveCauses.{improve-ends}
use Rattle.fp_app.proofs.PlanCauses.{plan-ends}
use Rattle.fp_app.proofs.YardCauses.{yard-status}
use Rattle.fp_app.proofs.SearchEnds.{SearchEnd, optimal, search-end, unfinished}
use Rattle.fp_app.specs.Wanted.{every}
use Rattle.fp_app.proofs.NamedCauses.{named-status}
use Rattle.fp_app.proofs.QuoteCauses.{quote-status}
use Rattle.fp_app.proofs.ReplanCauses.{end-status}
use Rattle.fp_app.proofs.SaidCauses.{said-status}
use Rattle.fp_app.proofs.TailCauses.{tail-status}
use Rattle.fp_app.specs.TailChecks.{SaidStatus, ShowsSaid}

-- for a time that is known to be over or not
module _ (over : Bool) where
  MatchBool_map : (b : Bool) (X Y V W : Type 0) → (X → V) → (Y → W) → MatchBool b X Y → MatchBool b V W
  MatchBool_map true X Y V W first second x = first x
  MatchBool_map false X Y V W first second y = second y

  -- what an instance or the fault in its place gives
  MatchResult_map : {A : Type 0} (r : Result A Fault) (P Q : A → Type 0) (s : Shown) → ((x : A) → P x → Q x) →
      MatchResult r P (λ (f : Fault). s ≡ shown.BadInput f.ordinal f.code) → MatchResult r Q (λ (f : Fault). status_of s ≡ status.BadInput)
  MatchResult_map (Ok x) P Q s each told = each x told
  MatchResult_map (Err f) P Q s each same = ap status_of same

  direct-status : (p : Problem) (s : Shown) → ShowsDirect p s → PlanStatus p (status_of s)
  direct-status p (shown.Direct q plan) told = let some : 1 ≤ 1 = omega arith in inl (refl, (1, plan, some, told.1))
  direct-status p (shown.Infeasible q shipment time) told = inr (refl, told.2)
  direct-status p _ told = absurd told

  bound-status : (option : Bool) (p : Problem) (s : Shown) → ShowsBound option p s → PlanStatus p (status_of s)
  bound-status option p (shown.Bound q price tables spans value) told = inl (refl, told.1)
  bound-status option p (shown.Infeasible q shipment time) told = inr (refl, told.2)
  bound-status option p _ told = absurd told

  search-input-status : (p : Problem) (allowed : Allowance) (s : Shown) → ShowsSearch allowed p s → SearchStatus p every allowed (status_of s)
  search-input-status p allowed (shown.Planned q solved) told = end-status p every allowed solved told.1 (search-end p every allowed solved.certificate.answer told.1.says)
  search-input-status p allowed (shown.Infeasible q shipment time) told = inr (inr (refl, told.2))
  search-input-status p allowed _ told = absurd told

  trial-status : (p : Problem) (s : Solution) → IsSearched p every trial_allowance s → SearchEnd p every trial_allowance s.certificate.answer → TrialStatus p (search_status s.certificate.answer)
  trial-status p s told (optimal cost same plans) = inl (ap search_status same)
  trial-status p s told (unfinished cost bound spent same bounds) = inr (ap search_status same, (spent, bounds.scarce))

  ShowsAlone-AloneStatus : (o : Order) (s : Shown) → ShowsAlone o s → AloneStatus o (status_of s)
  ShowsAlone-AloneStatus (Trial seed terminals shipments) (shown.Trial shown_seed None p solved) told =
      trial-status (generated seed terminals shipments) solved told.2 (search-end (generated seed terminals shipments) every trial_allowance solved.certificate.answer told.2.says)
  ShowsAlone-AloneStatus (Trial seed terminals shipments) _ told = absurd told
  ShowsAlone-AloneStatus _ s told = absurd told

  check-status : (p : Problem) (c : Statement) (s : Shown) → ShowsCheck p c s → CheckStatus p c (status_of s)
  check-status p c (shown.Accepted kind) told = inl (refl, told.accepted)
  check-status p c (shown.RejectedPart number) told = inr (refl, told.rejected)
  check-status p c _ told = absurd told

  -- what an instance and a certificate or the fault in their place give
  certificate-map : (input : List ℕ) (s : Shown) (P Q : Problem → Statement → Type 0) → ((p : Problem) (c : Statement) → P p c → Q p c) → OfCertificate input s P →
      MatchResult (leading_instance_in input) (λ p. MatchResult (certificate_in p input) (Q p) (λ (f : Fault). status_of s ≡ status.BadInput)) (λ (f : Fault). status_of s ≡ status.BadInput)
  certificate-map input s P Q each told =
      MatchResult_map (leading_instance_in input) (λ p. MatchResult (certificate_in p input) (P p) (λ (f : Fault). s ≡ shown.BadInput f.ordinal f.code))
      (λ p. MatchResult (certificate_in p input) (Q p) (λ (f : Fault). status_of s ≡ status.BadInput)) s (λ p. MatchResult_map (certificate_in p input) (P p) (Q p) s (each p)) told

  ShowsInput-InputStatus : (o : Order) (input : List ℕ) (s : Shown) → ShowsInput over o input s → InputStatus over o input (status_of s)
  ShowsInput-InputStatus Direct input s told = MatchResult_map (instance_in input) (λ p. ShowsDirect p s) (λ p. PlanStatus p (status_of s)) s (λ p. direct-status p s) told
  ShowsInput-InputStatus (Bound option seconds) input s told = MatchResult_map (instance_in input) (λ p. ShowsBound option p s) (λ p. PlanStatus p (status_of s)) s (λ p. bound-status option p s) told
  ShowsInput-InputStatus (Plan budget scale spans seconds notes) input s told =
      MatchResult_map (instance_at scale input) (λ p. ShowsSearch (within budget over spans) p s) (λ p. SearchStatus p every (within budget over spans) (status_of s)) s (λ p. search-input-status p (within budget over spans) s) told
  ShowsInput-InputStatus (Improve budget scale spans seconds notes) input s told =
      improve-ends (within budget over spans) scale input s told
  ShowsInput-InputStatus (Trial seed terminals shipments) input s told = absurd told
  ShowsInput-InputStatus (Yard seed) input s told = plan-ends input s (λ p wanted c. ShowsYard seed p wanted c s) (λ p wanted c. ToldStatus p wanted c (status_of s)) (yard-status seed s) told
  ShowsInput-InputStatus (Fleet trucks) input s told = plan-ends input s (λ p wanted c. ShowsFleet trucks p wanted c s) (λ p wanted c. ToldStatus p wanted c (status_of s)) (fleet-status trucks s) told
  ShowsInput-InputStatus (Replan budget spans seconds notes) input s told = tail-status (within budget over spans) input s told
  ShowsInput-InputStatus (Quote budget spans seconds notes None) input s told =
      MatchResult_map (quoted_in input) (λ p. ShowsQuote (within budget over spans) p s) (λ p. QuoteStatus p (within budget over spans) (status_of s)) s (λ p. quote-status (within budget over spans) p s) told
  ShowsInput-InputStatus (Quote budget spans seconds notes (Some name)) input s told =
      MatchResult_map (named_in name input) (λ p. ShowsNamedQuote (within budget over spans) name p s) (λ p. NamedStatus name p (within budget over spans) (status_of s)) s (λ p. named-status (within budget over spans) name p s) told
  ShowsInput-InputStatus Check input s told =
      MatchBool_map (has_tail_in input) (ShowsSaid input s) (OfCertificate input s (λ p c. ShowsCheck (scaled p c) c s)) (SaidStatus input (status_of s))
      (MatchResult (leading_instance_in input) (λ p. MatchResult (certificate_in p input) (λ c. CheckStatus (scaled p c) c (status_of s)) (λ (f : Fault). status_of s ≡ status.BadInput)) (λ (f : Fault). status_of s ≡ status.BadInput))
      (said-status input s) (certificate-map input s (λ p c. ShowsCheck (scaled p c) c s) (λ p c. CheckStatus (scaled p c) c (status_of s)) (λ p c. check-status (scaled p c) c s)) told

  OfInput_told : (o : Order) (input : List ℕ) (new : Option (List ℕ)) (s : Shown) → OfInput (limit_of (Some o)) (Some input) new s (λ i. ShowsInput over o i s)
      → MatchBool (nat_lt (limit_of (Some o)) (length input)) (status_of s ≡ status.TooLong) (InputStatus over o input (status_of s))
  OfInput_told o input new s told =
      MatchBool_map (nat_lt (limit_of (Some o)) (length input)) (s ≡ shown.TooLong) (IsAtEnd new × ShowsInput over o input s) (status_of s ≡ status.TooLong) (InputStatus over o input (status_of s)) (ap status_of)
      (λ whole. ShowsInput-InputStatus o input s whole.1)
      (subst (λ (i : List ℕ). MatchBool (nat_lt (limit_of (Some o)) (length i)) (s ≡ shown.TooLong) (IsAtEnd new × ShowsInput over o i s)) told.1 told.2)

  Answers_told : (o : Option Order) (input : List ℕ) (new : Option (List ℕ)) (s : Shown) → Answers over o (Some input) new s → StatusOf over o input (status_of s)
  Answers_told None input new s same = ap status_of same
  Answers_told (Some o) input new s told =
      MatchBool_map (reads_source o) (OfInput (limit_of (Some o)) (Some input) new s (λ i. ShowsInput over o i s)) (ShowsAlone o s)
      (MatchBool (nat_lt (limit_of (Some o)) (length input)) (status_of s ≡ status.TooLong) (InputStatus over o input (status_of s))) (AloneStatus o (status_of s))
      (OfInput_told o input new s) (ShowsAlone-AloneStatus o s) told

  pub Answers-StatusOf : (o : Option Order) (input : List ℕ) (old new : Option (List ℕ)) (s : Shown) → old ≡ Some input → Answers over o old new s → StatusOf over o input (status_of s)
  Answers-StatusOf o input old new s is told = Answers_told o input new s (subst (λ (x : Option (List ℕ)). Answers over o x new s) is told)
