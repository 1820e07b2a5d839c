-- The causes of statuses, from what a run answers.
use Rattle.std.proofs.Common.{◌≡◌, ℕ, Bool, true, false, List, length, nat_lt, refl, sym, ap, ◌∙◌, subst, inl, inr}
use Rattle.std.specs.Prelude.{Option, Some, None, Result, Ok, Err, MatchBool, MatchResult, ◌⊎◌}
use Rattle.std.specs.Io.KnownBytes.{IsAtEnd}
use Rattle.fp_model.specs.Problem.{Problem}
use Rattle.fp_records_fields.specs.Faults.{Fault}
use Rattle.fp_reader.specs.Generator.{generated}
use Rattle.fp_certificate_lines.specs.Statements.{Statement}
use Rattle.fp_session_history.specs.declared.budgets.Budget.{Budget}
use Rattle.fp_session_history.specs.Solutions.{Solution}
use Rattle.fp_app_words.specs.declared.orders.Order.{Order}
use Rattle.fp_app_words.specs.declared.orders.Order.TheVariants.{Direct, Check, Bound, Plan, Improve, Trial, Fleet, Replan, Quote, Yard}
use Rattle.fp_app.specs.declared.shown.Shown.{Shown}
use Rattle.fp_app.specs.declared.shown.Shown.TheVariants as shown
use Rattle.fp_app.specs.declared.shown.Status.TheVariants as status
use Rattle.fp_app.specs.Causes.{ShowsDone, ShowsFault, ShowsInfeasible, ShowsNone, ShowsNumber, ShowsOpen, ShowsOptimal, ShowsPlan, ShowsSolution, ShowsUnfinished, ShowsYes}
use Rattle.fp_app.specs.Checks.{ShowsCheck}
use Rattle.fp_app_tails.specs.Verdicts.{scaled}
use Rattle.fp_app.specs.TailChecks.{ShowsSaid, ShowsSaidYes}
use Rattle.fp_app.specs.Inputs.{OfCertificate, certificate_in, fault_of, has_tail_in, instance_at, instance_in, leading_instance_in, input_fault, limit_of, reads_source}
use Rattle.fp_app.specs.Runs.{Answers, OfInput, ShowsAlone, ShowsBound, ShowsDirect, ShowsInput, ShowsSearch}
use Rattle.fp_app.specs.Searches.{Allowance, IsSearched, trial_allowance, within}
use Rattle.fp_app.specs.Shown.{search_status, status_of}
use Rattle.fp_app.proofs.FleetCauses.{fleet-done, fleet-fault, fleet-no_other}
use Rattle.fp_app.proofs.ImproveCauses.{improve-done, improve-fault, improve-no_other, improve-open}
use Rattle.fp_app.proofs.SearchEnds.{SearchEnd, optimal, search-end, search-no_other, unfinished, both-no_other}
use Rattle.fp_app.specs.Wanted.{every}
use Rattle.fp_app.proofs.QuoteStatuses.{quotes-done, quotes-fault, quotes-none, quotes-open}
use Rattle.fp_app.proofs.ReadCauses.{MatchResult_shows, ShowsFault_instance}
use Rattle.fp_app.proofs.SaidCauses.{said-done, said-fault, said-no_other}
use Rattle.fp_app.proofs.TailCauses.{both-give, each-of, tail-done, tail-fault, tail-open, tail-stuck}
use Rattle.fp_app.proofs.YardCauses.{yard-done, yard-fault, yard-no_other}

-- for a time that is known to be over or not
module _ (over : Bool) where
  -- the second of two, where the first is not so
  MatchBool_second : (b : Bool) (X Y : Type 0) → MatchBool b X Y → (X → ⊥) → Y
  MatchBool_second true X Y x none = absurd (none x)
  MatchBool_second false X Y y none = y

  -- what holds of an input that was read whole
  OfInput_whole : (limit : ℕ) (input : List ℕ) (new : Option (List ℕ)) (s : Shown) (P : List ℕ → Type 0) → OfInput limit (Some input) new s P → (s ≡ shown.TooLong → ⊥) → P input
  OfInput_whole limit input new s P told short =
      let part : IsAtEnd new × P told.0 = MatchBool_second (nat_lt limit (length told.0)) (s ≡ shown.TooLong) (IsAtEnd new × P told.0) told.2 short in
      subst P told.1 part.1

  -- the one or the other of two
  MatchBool_either : (b : Bool) (X Y : Type 0) → MatchBool b X Y → X ⊎ Y
  MatchBool_either true X Y x = inl x
  MatchBool_either false X Y y = inr y

  -- what an order shows that isn't too long, with its input or without
  abbrev pub ShowsOf : Order → List ℕ → Shown → Type 0
  ShowsOf o input s = ShowsInput over o input s ⊎ ShowsAlone o s

  pub Answers-ShowsOf : (o : Order) (input : List ℕ) (new : Option (List ℕ)) (s : Shown) → Answers over (Some o) (Some input) new s → (s ≡ shown.TooLong → ⊥) → ShowsOf o input s
  Answers-ShowsOf o input new s told short =
      elim (MatchBool_either (reads_source o) (OfInput (limit_of (Some o)) (Some input) new s (λ i. ShowsInput over o i s)) (ShowsAlone o s) told) [
        | inl whole ↦ inl (OfInput_whole (limit_of (Some o)) input new s (λ i. ShowsInput over o i s) whole short)
        | inr alone ↦ inr alone
      ]

  -- the fault of a certificate
  ShowsFault_certificate : (input : List ℕ) (ordinal code : ℕ) (p : Problem) (q : Result Statement Fault) → has_tail_in input ≡ false → leading_instance_in input ≡ Ok p → certificate_in p input ≡ q →
      MatchResult q (λ c. ShowsCheck (scaled p c) c (shown.BadInput ordinal code)) (λ (f : Fault). shown.BadInput ordinal code ≡ shown.BadInput f.ordinal f.code) →
      ShowsFault (Some Check) input (shown.BadInput ordinal code)
  ShowsFault_certificate input ordinal code p (Ok c) alone is read none = absurd none
  ShowsFault_certificate input ordinal code p (Err f) alone is read same = record { fault = f; first = rw alone (ap (input_fault input) is ∙ ap fault_of read); shows = same }

  -- the fault of an input to `check`
  ShowsFault_check : (input : List ℕ) (ordinal code : ℕ) (r : Result Problem Fault) → has_tail_in input ≡ false → leading_instance_in input ≡ r →
      MatchResult r
      (λ p. MatchResult (certificate_in p input) (λ c. ShowsCheck (scaled p c) c (shown.BadInput ordinal code)) (λ (f : Fault). shown.BadInput ordinal code ≡ shown.BadInput f.ordinal f.code))
      (λ (f : Fault). shown.BadInput ordinal code ≡ shown.BadInput f.ordinal f.code) →
      ShowsFault (Some Check) input (shown.BadInput ordinal code)
  ShowsFault_check input ordinal code (Ok p) alone is told = ShowsFault_certificate input ordinal code p (certificate_in p input) alone is refl told
  ShowsFault_check input ordinal code (Err f) alone is same = record { fault = f; first = rw alone (ap (input_fault input) is); shows = same }

  -- a refusal of an order by the first fault of its input
  ShowsFault_input : (o : Order) (input : List ℕ) (ordinal code : ℕ) → ShowsInput over o input (shown.BadInput ordinal code) → ShowsFault (Some o) input (shown.BadInput ordinal code)
  ShowsFault_input Direct input ordinal code told = ShowsFault_instance Direct input ordinal code (λ p. ShowsDirect p (shown.BadInput ordinal code)) (instance_in input) (λ p none. none) refl (instance_in input) refl told
  ShowsFault_input (Bound option seconds) input ordinal code told = ShowsFault_instance (Bound option seconds) input ordinal code (λ p. ShowsBound option p (shown.BadInput ordinal code)) (instance_in input) (λ p none. none) refl (instance_in input) refl told
  ShowsFault_input (Plan budget scale spans seconds notes) input ordinal code told = ShowsFault_instance (Plan budget scale spans seconds notes) input ordinal code (λ p. ShowsSearch (within budget over spans) p (shown.BadInput ordinal code)) (instance_at scale input) (λ p none. none) refl (instance_at scale input) refl told
  ShowsFault_input (Improve budget scale spans seconds notes) input ordinal code told = improve-fault (within budget over spans) scale input budget spans seconds notes ordinal code told
  ShowsFault_input (Trial seed terminals shipments) input ordinal code told = absurd told
  ShowsFault_input (Yard seed) input ordinal code told = yard-fault seed input ordinal code told
  ShowsFault_input (Fleet trucks) input ordinal code told = fleet-fault trucks input ordinal code told
  ShowsFault_input (Replan budget spans seconds notes) input ordinal code told = tail-fault budget (within budget over spans) spans seconds notes input ordinal code told
  ShowsFault_input (Quote budget spans seconds notes name) input ordinal code told = quotes-fault over budget spans seconds notes name input ordinal code told
  ShowsFault_input Check input ordinal code told = both-give (has_tail_in input) (ShowsSaid input (shown.BadInput ordinal code)) (OfCertificate input (shown.BadInput ordinal code) (λ p c. ShowsCheck (scaled p c) c (shown.BadInput ordinal code))) (ShowsFault (Some Check) input (shown.BadInput ordinal code)) (said-fault input ordinal code) (λ alone of. ShowsFault_check input ordinal code (leading_instance_in input) alone refl of) told

  -- an order that reads no input refuses none
  alone-not_fault : (o : Order) (ordinal code : ℕ) → ShowsAlone o (shown.BadInput ordinal code) → ⊥
  alone-not_fault (Trial seed terminals shipments) ordinal code told = told
  alone-not_fault _ ordinal code told = told

  ShowsFault_of : (o : Order) (input : List ℕ) (ordinal code : ℕ) → ShowsOf o input (shown.BadInput ordinal code) → ShowsFault (Some o) input (shown.BadInput ordinal code)
  ShowsFault_of o input ordinal code (inl told) = ShowsFault_input o input ordinal code told
  ShowsFault_of o input ordinal code (inr told) = absurd (alone-not_fault o ordinal code told)

  ShowsFault_answers : (o : Option Order) (input : List ℕ) (new : Option (List ℕ)) (ordinal code : ℕ) → Answers over o (Some input) new (shown.BadInput ordinal code) →
      ShowsFault o input (shown.BadInput ordinal code)
  ShowsFault_answers None input new ordinal code same = let g = same in cc
  ShowsFault_answers (Some o) input new ordinal code told = ShowsFault_of o input ordinal code (Answers-ShowsOf o input new (shown.BadInput ordinal code) told (λ g. cc))

  -- what is shown with the status of a refused input
  status_of_bad_input : (s : Shown) → status_of s ≡ status.BadInput → (ordinal : ℕ) × (code : ℕ) × (s ≡ shown.BadInput ordinal code)
  status_of_bad_input (shown.BadInput ordinal code) same = (ordinal, code, refl)
  status_of_bad_input (shown.Planned p x) same = absurd (search-no_other x.certificate.answer status.BadInput (λ e. cc e) (λ e. cc e) same)
  status_of_bad_input (shown.Trial seed failed p x) same = absurd (search-no_other x.certificate.answer status.BadInput (λ e. cc e) (λ e. cc e) same)
  status_of_bad_input (shown.Replanned p kept x) same = absurd (search-no_other x.certificate.answer status.BadInput (λ e. cc e) (λ e. cc e) same)
  status_of_bad_input (shown.Underway p day rest x) same = absurd (search-no_other x.certificate.answer status.BadInput (λ e. cc e) (λ e. cc e) same)
  status_of_bad_input (shown.Quoted p x y) same = absurd (both-no_other x.certificate.answer y.certificate.answer status.BadInput (λ e. cc e) (λ e. cc e) same)
  status_of_bad_input (shown.NamedQuote p x y more) same = absurd (both-no_other x.certificate.answer y.certificate.answer status.BadInput (λ e. cc e) (λ e. cc e) same)
  status_of_bad_input _ same = let g = same in cc

  pub BadInput-ShowsFault : (o : Option Order) (input : List ℕ) (old new : Option (List ℕ)) (s : Shown) → old ≡ Some input → Answers over o old new s → status_of s ≡ status.BadInput → ShowsFault o input s
  BadInput-ShowsFault o input old new s is told same =
      let refused = status_of_bad_input s same in
      let here : Answers over o (Some input) new s = subst (λ (x : Option (List ℕ)). Answers over o x new s) is told in
      let of_fault : Answers over o (Some input) new (shown.BadInput refused.0 refused.1) = subst (λ (t : Shown). Answers over o (Some input) new t) refused.2 here in
      subst (λ (t : Shown). ShowsFault o input t) (sym refused.2) (ShowsFault_answers o input new refused.0 refused.1 of_fault)

  -- a fault that is shown isn't an answer
  fault-not_done : (s : Shown) (f : Fault) → s ≡ shown.BadInput f.ordinal f.code → status_of s ≡ status.Done → ⊥
  fault-not_done s f same done = let e : status.BadInput ≡ status.Done = ap status_of (sym same) ∙ done in cc e

  -- the plan that `direct` shows
  done-direct : (input : List ℕ) (p : Problem) (s : Shown) → instance_in input ≡ Ok p → ShowsDirect p s → status_of s ≡ status.Done → ShowsPlan input s
  done-direct input p (shown.Direct q plan) is told done = record {
    instance = p;
    routes = plan;
    read = is;
    shows = ap (λ (x : Problem). shown.Direct x plan) told.0;
    plan = told.1;
    direct = told.2;
  }
  done-direct input p (shown.Infeasible q shipment time) is told done = let g = done in cc
  done-direct input p _ is told done = absurd told

  ShowsPlan_direct : (input : List ℕ) (s : Shown) (r : Result Problem Fault) → instance_in input ≡ r →
      MatchResult r (λ p. ShowsDirect p s) (λ (f : Fault). s ≡ shown.BadInput f.ordinal f.code) → status_of s ≡ status.Done → ShowsPlan input s
  ShowsPlan_direct input s (Ok p) is told done = done-direct input p s is told done
  ShowsPlan_direct input s (Err f) is same done = absurd (fault-not_done s f same done)

  -- the certificate that `check` accepts
  done-check : (input : List ℕ) (p : Problem) (c : Statement) (s : Shown) → leading_instance_in input ≡ Ok p → certificate_in p input ≡ Ok c → ShowsCheck (scaled p c) c s → status_of s ≡ status.Done → ShowsYes input s
  done-check input p c (shown.Accepted kind) is read told done = record { instance = p; certificate = c; kind = kind; read = is; certified = read; shows = refl; accepted = told }
  done-check input p c (shown.RejectedPart number) is read told done = let g = done in cc
  done-check input p c _ is read told done = absurd told

  ShowsYes_certificate : (input : List ℕ) (s : Shown) (p : Problem) (q : Result Statement Fault) → leading_instance_in input ≡ Ok p → certificate_in p input ≡ q →
      MatchResult q (λ c. ShowsCheck (scaled p c) c s) (λ (f : Fault). s ≡ shown.BadInput f.ordinal f.code) → status_of s ≡ status.Done → ShowsYes input s
  ShowsYes_certificate input s p (Ok c) is read told done = done-check input p c s is read told done
  ShowsYes_certificate input s p (Err f) is read same done = absurd (fault-not_done s f same done)

  ShowsYes_check : (input : List ℕ) (s : Shown) (r : Result Problem Fault) → leading_instance_in input ≡ r →
      MatchResult r (λ p. MatchResult (certificate_in p input) (λ c. ShowsCheck (scaled p c) c s) (λ (f : Fault). s ≡ shown.BadInput f.ordinal f.code)) (λ (f : Fault). s ≡ shown.BadInput f.ordinal f.code) →
      status_of s ≡ status.Done → ShowsYes input s
  ShowsYes_check input s (Ok p) is told done = ShowsYes_certificate input s p (certificate_in p input) is refl told done
  ShowsYes_check input s (Err f) is same done = absurd (fault-not_done s f same done)

  -- the number that `bound` shows
  done-bound : (option : Bool) (input : List ℕ) (p : Problem) (s : Shown) → instance_in input ≡ Ok p → ShowsBound option p s → status_of s ≡ status.Done → ShowsNumber option input s
  done-bound option input p (shown.Bound q price tables spans value) is told done = record {
    instance = p;
    price = price;
    tables = tables;
    spans = spans;
    value = value;
    read = is;
    shows = ap (λ (x : Problem). shown.Bound x price tables spans value) told.0;
    exists = told.1;
    bound = told.2;
    without = told.3;
  }
  done-bound option input p (shown.Infeasible q shipment time) is told done = let g = done in cc
  done-bound option input p _ is told done = absurd told

  ShowsNumber_bound : (option : Bool) (input : List ℕ) (s : Shown) (r : Result Problem Fault) → instance_in input ≡ r →
      MatchResult r (λ p. ShowsBound option p s) (λ (f : Fault). s ≡ shown.BadInput f.ordinal f.code) → status_of s ≡ status.Done → ShowsNumber option input s
  ShowsNumber_bound option input s (Ok p) is told done = done-bound option input p s is told done
  ShowsNumber_bound option input s (Err f) is same done = absurd (fault-not_done s f same done)

  -- what a search shows, and how it ended
  module _ (allowed : Allowance) (given : Result Problem Fault) (show : Problem → Solution → Shown) (p : Problem) where
    solution : (q : Problem) (x : Solution) → given ≡ Ok p → q ≡ p → IsSearched p every allowed x → ShowsSolution allowed given show (show q x)
    solution q x is same told = record { instance = p; solved = x; read = is; shows = ap (λ (y : Problem). show y x) same; searched = told }

    optimal-end : (q : Problem) (x : Solution) → given ≡ Ok p → q ≡ p → IsSearched p every allowed x → SearchEnd p every allowed x.certificate.answer → search_status x.certificate.answer ≡ status.Done →
        ShowsOptimal allowed given show (show q x)
    unfolding solution
    optimal-end q x is same told (optimal cost answer plans) done = record { solution = solution q x is same told; cost = cost; answer = answer; plans = plans }
    optimal-end q x is same told (unfinished cost bound spent answer bounds) done = let e : status.Unfinished ≡ status.Done = sym (ap search_status answer) ∙ done in cc e

    unfinished-end : (q : Problem) (x : Solution) → given ≡ Ok p → q ≡ p → IsSearched p every allowed x → SearchEnd p every allowed x.certificate.answer → search_status x.certificate.answer ≡ status.Unfinished →
        ShowsUnfinished allowed given show (show q x)
    unfolding solution
    unfinished-end q x is same told (optimal cost answer plans) ends = let e : status.Done ≡ status.Unfinished = sym (ap search_status answer) ∙ ends in cc e
    unfinished-end q x is same told (unfinished cost bound spent answer bounds) ends =
        record { solution = solution q x is same told; cost = cost; bound = bound; spent = spent; answer = answer; bounds = bounds }

  module _ (allowed : Allowance) (given : Result Problem Fault) (p : Problem) where
    done-search : (s : Shown) → given ≡ Ok p → ShowsSearch allowed p s → status_of s ≡ status.Done → ShowsOptimal allowed given shown.Planned s
    done-search (shown.Planned q x) is told done = optimal-end allowed given shown.Planned p q x is told.0 told.1 (search-end p every allowed x.certificate.answer told.1.says) done
    done-search (shown.Infeasible q shipment time) is told done = let g = done in cc
    done-search _ is told done = absurd told

    open-search : (s : Shown) → given ≡ Ok p → ShowsSearch allowed p s → status_of s ≡ status.Unfinished → ShowsUnfinished allowed given shown.Planned s
    open-search (shown.Planned q x) is told ends = unfinished-end allowed given shown.Planned p q x is told.0 told.1 (search-end p every allowed x.certificate.answer told.1.says) ends
    open-search (shown.Infeasible q shipment time) is told ends = let g = ends in cc
    open-search _ is told ends = absurd told

  ShowsOptimal_search : (allowed : Allowance) (given : Result Problem Fault) (s : Shown) (r : Result Problem Fault) → given ≡ r →
      MatchResult r (λ p. ShowsSearch allowed p s) (λ (f : Fault). s ≡ shown.BadInput f.ordinal f.code) → status_of s ≡ status.Done → ShowsOptimal allowed given shown.Planned s
  ShowsOptimal_search allowed given s (Ok p) is told done = done-search allowed given p s is told done
  ShowsOptimal_search allowed given s (Err f) is same done = absurd (fault-not_done s f same done)

  -- what an order shows that is done
  ShowsDone_input : (o : Order) (input : List ℕ) (s : Shown) → ShowsInput over o input s → status_of s ≡ status.Done → ShowsDone over (Some o) input s
  ShowsDone_input Direct input s told done = ShowsPlan_direct input s (instance_in input) refl told done
  ShowsDone_input (Bound option seconds) input s told done = ShowsNumber_bound option input s (instance_in input) refl told done
  ShowsDone_input (Plan budget scale spans seconds notes) input s told done = ShowsOptimal_search (within budget over spans) (instance_at scale input) s (instance_at scale input) refl told done
  ShowsDone_input (Improve budget scale spans seconds notes) input s told done = improve-done (within budget over spans) scale input s told done
  ShowsDone_input (Trial seed terminals shipments) input s told done = absurd told
  ShowsDone_input (Yard seed) input s told done = yard-done seed input s told done
  ShowsDone_input (Fleet trucks) input s told done = fleet-done trucks input s told done
  ShowsDone_input (Replan budget spans seconds notes) input s told done = tail-done (within budget over spans) input s told done
  ShowsDone_input (Quote budget spans seconds notes name) input s told done = quotes-done over budget spans seconds notes name input s told done
  ShowsDone_input Check input s told done = each-of (has_tail_in input) (ShowsSaid input s) (OfCertificate input s (λ p c. ShowsCheck (scaled p c) c s)) (ShowsSaidYes input s) (ShowsYes input s) (λ of. said-done input s of done) (λ of. ShowsYes_check input s (leading_instance_in input) refl of done) told

  -- what an order shows that is done without an input
  ShowsDone_alone : (o : Order) (input : List ℕ) (s : Shown) → ShowsAlone o s → status_of s ≡ status.Done → ShowsDone over (Some o) input s
  ShowsDone_alone (Trial seed terminals shipments) input (shown.Trial shown_seed None q x) told done =
      subst (λ (n : ℕ). ShowsOptimal trial_allowance (Ok (generated seed terminals shipments)) (shown.Trial seed None) (shown.Trial n None q x)) (sym told.0)
      (optimal-end trial_allowance (Ok (generated seed terminals shipments)) (shown.Trial seed None) (generated seed terminals shipments) q x refl told.1 told.2
      (search-end (generated seed terminals shipments) every trial_allowance x.certificate.answer told.2.says) done)
  ShowsDone_alone (Trial seed terminals shipments) input _ told done = absurd told
  ShowsDone_alone _ input s told done = absurd told

  ShowsDone_of : (o : Order) (input : List ℕ) (s : Shown) → ShowsOf o input s → status_of s ≡ status.Done → ShowsDone over (Some o) input s
  ShowsDone_of o input s (inl told) done = ShowsDone_input o input s told done
  ShowsDone_of o input s (inr told) done = ShowsDone_alone o input s told done

  -- what is too long isn't done
  long-not_done : (s : Shown) → status_of s ≡ status.Done → s ≡ shown.TooLong → ⊥
  long-not_done s done same = let e : status.TooLong ≡ status.Done = ap status_of (sym same) ∙ done in cc e

  ShowsDone_answers : (o : Option Order) (input : List ℕ) (new : Option (List ℕ)) (s : Shown) → Answers over o (Some input) new s → status_of s ≡ status.Done → ShowsDone over o input s
  ShowsDone_answers None input new s same done = let e : status.BadWords ≡ status.Done = ap status_of (sym same) ∙ done in cc e
  ShowsDone_answers (Some o) input new s told done = ShowsDone_of o input s (Answers-ShowsOf o input new s told (long-not_done s done)) done

  pub Done-ShowsDone : (o : Option Order) (input : List ℕ) (old new : Option (List ℕ)) (s : Shown) → old ≡ Some input → Answers over o old new s → status_of s ≡ status.Done → ShowsDone over o input s
  Done-ShowsDone o input old new s is told same = ShowsDone_answers o input new s (subst (λ (x : Option (List ℕ)). Answers over o x new s) is told) same

  -- a shipment that can't be carried in time, as `direct` and `bound` show it
  none-direct : (input : List ℕ) (p : Problem) (s : Shown) → instance_in input ≡ Ok p → ShowsDirect p s → status_of s ≡ status.Infeasible → ShowsNone Direct input s
  none-direct input p (shown.Infeasible q shipment time) is told same = record {
    instance = p;
    shipment = shipment;
    time = time;
    read = is;
    shows = ap (λ (x : Problem). shown.Infeasible x shipment time) told.0;
    blocked = told.1;
    none = told.2;
  }
  none-direct input p (shown.Direct q plan) is told same = let g = same in cc
  none-direct input p _ is told same = absurd told

  none-bound : (option : Bool) (seconds : Option ℕ) (input : List ℕ) (p : Problem) (s : Shown) → instance_in input ≡ Ok p → ShowsBound option p s → status_of s ≡ status.Infeasible → ShowsNone (Bound option seconds) input s
  none-bound option seconds input p (shown.Infeasible q shipment time) is told same = record {
    instance = p;
    shipment = shipment;
    time = time;
    read = is;
    shows = ap (λ (x : Problem). shown.Infeasible x shipment time) told.0;
    blocked = told.1;
    none = told.2;
  }
  none-bound option seconds input p (shown.Bound q price tables spans value) is told same = let g = same in cc
  none-bound option seconds input p _ is told same = absurd told

  none-search : (allowed : Allowance) (budget : Budget) (scale : ℕ) (spans : Bool) (seconds : Option ℕ) (notes : Bool) (input : List ℕ) (p : Problem) (s : Shown) → instance_at scale input ≡ Ok p → ShowsSearch allowed p s → status_of s ≡ status.Infeasible → ShowsNone (Plan budget scale spans seconds notes) input s
  none-search allowed budget scale spans seconds notes input p (shown.Infeasible q shipment time) is told same = record {
    instance = p;
    shipment = shipment;
    time = time;
    read = is;
    shows = ap (λ (x : Problem). shown.Infeasible x shipment time) told.0;
    blocked = told.1;
    none = told.2;
  }
  none-search allowed budget scale spans seconds notes input p (shown.Planned q x) is told same = absurd (search-no_other x.certificate.answer status.Infeasible (λ e. cc e) (λ e. cc e) same)
  none-search allowed budget scale spans seconds notes input p _ is told same = absurd told

  -- `check` shows none
  none-check : (p : Problem) (c : Statement) (s : Shown) → ShowsCheck p c s → status_of s ≡ status.Infeasible → ⊥
  none-check p c (shown.Accepted kind) told same = let g = same in cc
  none-check p c (shown.RejectedPart number) told same = let g = same in cc
  none-check p c _ told same = absurd told

  ShowsNone_input : (o : Order) (input : List ℕ) (s : Shown) → ShowsInput over o input s → status_of s ≡ status.Infeasible → ShowsInfeasible (Some o) input s
  ShowsNone_input Direct input s told none = MatchResult_shows status.Infeasible (instance_in input) (instance_in input) (λ p. ShowsDirect p s) s (ShowsNone Direct input s) (λ e. cc e) refl none told (λ p is shows. none-direct input p s is shows none)
  ShowsNone_input (Bound option seconds) input s told none = MatchResult_shows status.Infeasible (instance_in input) (instance_in input) (λ p. ShowsBound option p s) s (ShowsNone (Bound option seconds) input s) (λ e. cc e) refl none told (λ p is shows. none-bound option seconds input p s is shows none)
  ShowsNone_input (Plan budget scale spans seconds notes) input s told none =
      MatchResult_shows status.Infeasible (instance_at scale input) (instance_at scale input) (λ p. ShowsSearch (within budget over spans) p s) s (ShowsNone (Plan budget scale spans seconds notes) input s) (λ e. cc e) refl none told (λ p is shows. none-search (within budget over spans) budget scale spans seconds notes input p s is shows none)
  ShowsNone_input (Improve budget scale spans seconds notes) input s told none = improve-no_other (within budget over spans) scale input s status.Infeasible (λ e. cc e) (λ e. cc e) (λ e. cc e) (λ e. cc e) told none
  ShowsNone_input (Trial seed terminals shipments) input s told none = absurd told
  ShowsNone_input (Yard seed) input s told none = absurd (yard-no_other seed status.Infeasible (λ e. cc e) (λ e. cc e) (λ e. cc e) input s told none)
  ShowsNone_input (Fleet trucks) input s told none = absurd (fleet-no_other trucks status.Infeasible (λ e. cc e) (λ e. cc e) (λ e. cc e) input s told none)
  ShowsNone_input (Replan budget spans seconds notes) input s told none = tail-stuck (within budget over spans) input s told none
  ShowsNone_input (Quote budget spans seconds notes name) input s told none = quotes-none over budget spans seconds notes name input s told none
  ShowsNone_input Check input s told none =
      both-give (has_tail_in input) (ShowsSaid input s) (OfCertificate input s (λ p c. ShowsCheck (scaled p c) c s)) (ShowsNone Check input s) (λ tail of. absurd (said-no_other status.Infeasible input s (λ e. cc e) (λ e. cc e) (λ e. cc e) of none)) (λ alone of. MatchResult_shows status.Infeasible (leading_instance_in input) (leading_instance_in input)
      (λ p. MatchResult (certificate_in p input) (λ c. ShowsCheck (scaled p c) c s) (λ (f : Fault). s ≡ shown.BadInput f.ordinal f.code)) s (ShowsNone Check input s) (λ e. cc e) refl none of
      (λ p is certified. MatchResult_shows status.Infeasible (certificate_in p input) (certificate_in p input) (λ c. ShowsCheck (scaled p c) c s) s (ShowsNone Check input s) (λ e. cc e) refl none certified
      (λ c read shows. absurd (none-check (scaled p c) c s shows none)))) told

  -- nor is an order that reads no input
  alone-not_none : (o : Order) (s : Shown) → ShowsAlone o s → status_of s ≡ status.Infeasible → ⊥
  alone-not_none (Trial seed terminals shipments) (shown.Trial shown_seed None q x) told none =
      search-no_other x.certificate.answer status.Infeasible (λ e. cc e) (λ e. cc e) none
  alone-not_none (Trial seed terminals shipments) _ told none = told
  alone-not_none _ s told none = told

  ShowsNone_of : (o : Order) (input : List ℕ) (s : Shown) → ShowsOf o input s → status_of s ≡ status.Infeasible → ShowsInfeasible (Some o) input s
  ShowsNone_of o input s (inl told) none = ShowsNone_input o input s told none
  ShowsNone_of o input s (inr told) none = absurd (alone-not_none o s told none)

  long-not_none : (s : Shown) → status_of s ≡ status.Infeasible → s ≡ shown.TooLong → ⊥
  long-not_none s none same = let e : status.TooLong ≡ status.Infeasible = ap status_of (sym same) ∙ none in cc e

  ShowsNone_answers : (o : Option Order) (input : List ℕ) (new : Option (List ℕ)) (s : Shown) → Answers over o (Some input) new s → status_of s ≡ status.Infeasible → ShowsInfeasible o input s
  ShowsNone_answers None input new s same none = let e : status.BadWords ≡ status.Infeasible = ap status_of (sym same) ∙ none in cc e
  ShowsNone_answers (Some o) input new s told none = ShowsNone_of o input s (Answers-ShowsOf o input new s told (long-not_none s none)) none

  pub Infeasible-ShowsInfeasible : (o : Option Order) (input : List ℕ) (old new : Option (List ℕ)) (s : Shown) → old ≡ Some input → Answers over o old new s → status_of s ≡ status.Infeasible → ShowsInfeasible o input s
  Infeasible-ShowsInfeasible o input old new s is told same = ShowsNone_answers o input new s (subst (λ (x : Option (List ℕ)). Answers over o x new s) is told) same

  -- only `plan` is unfinished
  direct-not_open : (p : Problem) (s : Shown) → ShowsDirect p s → status_of s ≡ status.Unfinished → ⊥
  direct-not_open p (shown.Direct q plan) told ends = let g = ends in cc
  direct-not_open p (shown.Infeasible q shipment time) told ends = let g = ends in cc
  direct-not_open p _ told ends = absurd told

  bound-not_open : (option : Bool) (p : Problem) (s : Shown) → ShowsBound option p s → status_of s ≡ status.Unfinished → ⊥
  bound-not_open option p (shown.Bound q price tables spans value) told ends = let g = ends in cc
  bound-not_open option p (shown.Infeasible q shipment time) told ends = let g = ends in cc
  bound-not_open option p _ told ends = absurd told

  check-not_open : (p : Problem) (c : Statement) (s : Shown) → ShowsCheck p c s → status_of s ≡ status.Unfinished → ⊥
  check-not_open p c (shown.Accepted kind) told ends = let g = ends in cc
  check-not_open p c (shown.RejectedPart number) told ends = let g = ends in cc
  check-not_open p c _ told ends = absurd told

  ShowsOpen_input : (o : Order) (input : List ℕ) (s : Shown) → ShowsInput over o input s → status_of s ≡ status.Unfinished → ShowsOpen over (Some o) input s
  ShowsOpen_input Direct input s told ends = MatchResult_shows status.Unfinished (instance_in input) (instance_in input) (λ p. ShowsDirect p s) s ⊥ (λ e. cc e) refl ends told (λ p is shows. direct-not_open p s shows ends)
  ShowsOpen_input (Bound option seconds) input s told ends = MatchResult_shows status.Unfinished (instance_in input) (instance_in input) (λ p. ShowsBound option p s) s ⊥ (λ e. cc e) refl ends told (λ p is shows. bound-not_open option p s shows ends)
  ShowsOpen_input (Plan budget scale spans seconds notes) input s told ends =
      MatchResult_shows status.Unfinished (instance_at scale input) (instance_at scale input) (λ p. ShowsSearch (within budget over spans) p s) s (ShowsUnfinished (within budget over spans) (instance_at scale input) shown.Planned s) (λ e. cc e) refl ends told (λ p is shows. open-search (within budget over spans) (instance_at scale input) p s is shows ends)
  ShowsOpen_input (Improve budget scale spans seconds notes) input s told ends = improve-open (within budget over spans) scale input s told ends
  ShowsOpen_input (Trial seed terminals shipments) input s told ends = absurd told
  ShowsOpen_input (Yard seed) input s told ends = absurd (yard-no_other seed status.Unfinished (λ e. cc e) (λ e. cc e) (λ e. cc e) input s told ends)
  ShowsOpen_input (Fleet trucks) input s told ends = absurd (fleet-no_other trucks status.Unfinished (λ e. cc e) (λ e. cc e) (λ e. cc e) input s told ends)
  ShowsOpen_input (Replan budget spans seconds notes) input s told ends = tail-open (within budget over spans) input s told ends
  ShowsOpen_input (Quote budget spans seconds notes name) input s told ends = quotes-open over budget spans seconds notes name input s told ends
  ShowsOpen_input Check input s told ends =
      both-give (has_tail_in input) (ShowsSaid input s) (OfCertificate input s (λ p c. ShowsCheck (scaled p c) c s)) ⊥ (λ tail of. said-no_other status.Unfinished input s (λ e. cc e) (λ e. cc e) (λ e. cc e) of ends) (λ alone of. MatchResult_shows status.Unfinished (leading_instance_in input) (leading_instance_in input)
      (λ p. MatchResult (certificate_in p input) (λ c. ShowsCheck (scaled p c) c s) (λ (f : Fault). s ≡ shown.BadInput f.ordinal f.code)) s ⊥ (λ e. cc e) refl ends of
      (λ p is certified. MatchResult_shows status.Unfinished (certificate_in p input) (certificate_in p input) (λ c. ShowsCheck (scaled p c) c s) s ⊥ (λ e. cc e) refl ends certified
      (λ c read shows. check-not_open (scaled p c) c s shows ends))) told

  ShowsOpen_alone : (o : Order) (input : List ℕ) (s : Shown) → ShowsAlone o s → status_of s ≡ status.Unfinished → ShowsOpen over (Some o) input s
  ShowsOpen_alone (Trial seed terminals shipments) input (shown.Trial shown_seed None q x) told ends =
      subst (λ (n : ℕ). ShowsUnfinished trial_allowance (Ok (generated seed terminals shipments)) (shown.Trial seed None) (shown.Trial n None q x)) (sym told.0)
      (unfinished-end trial_allowance (Ok (generated seed terminals shipments)) (shown.Trial seed None) (generated seed terminals shipments) q x refl told.1 told.2
      (search-end (generated seed terminals shipments) every trial_allowance x.certificate.answer told.2.says) ends)
  ShowsOpen_alone (Trial seed terminals shipments) input _ told ends = absurd told
  ShowsOpen_alone _ input s told ends = absurd told

  ShowsOpen_of : (o : Order) (input : List ℕ) (s : Shown) → ShowsOf o input s → status_of s ≡ status.Unfinished → ShowsOpen over (Some o) input s
  ShowsOpen_of o input s (inl told) ends = ShowsOpen_input o input s told ends
  ShowsOpen_of o input s (inr told) ends = ShowsOpen_alone o input s told ends

  long-not_open : (s : Shown) → status_of s ≡ status.Unfinished → s ≡ shown.TooLong → ⊥
  long-not_open s ends same = let e : status.TooLong ≡ status.Unfinished = ap status_of (sym same) ∙ ends in cc e

  ShowsOpen_answers : (o : Option Order) (input : List ℕ) (new : Option (List ℕ)) (s : Shown) → Answers over o (Some input) new s → status_of s ≡ status.Unfinished → ShowsOpen over o input s
  ShowsOpen_answers None input new s same ends = let e : status.BadWords ≡ status.Unfinished = ap status_of (sym same) ∙ ends in cc e
  ShowsOpen_answers (Some o) input new s told ends = ShowsOpen_of o input s (Answers-ShowsOf o input new s told (long-not_open s ends)) ends

  pub Unfinished-ShowsOpen : (o : Option Order) (input : List ℕ) (old new : Option (List ℕ)) (s : Shown) → old ≡ Some input → Answers over o old new s → status_of s ≡ status.Unfinished → ShowsOpen over o input s
  Unfinished-ShowsOpen o input old new s is told same = ShowsOpen_answers o input new s (subst (λ (x : Option (List ℕ)). Answers over o x new s) is told) same
