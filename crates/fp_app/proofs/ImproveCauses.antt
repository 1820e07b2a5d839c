-- What `improve` shows, by its status.
use Rattle.std.proofs.Common.{◌≡◌, ◌∙◌, ℕ, Bool, List, refl, sym, ap, subst, inl, inr}
use Rattle.std.specs.Prelude.{Option, Some, MatchBool, MatchResult, Ok}
use Rattle.fp_model.specs.Problem.{Problem}
use Rattle.fp_records_fields.specs.Faults.{Fault}
use Rattle.fp_certificate_lines.specs.Statements.{Statement}
use Rattle.fp_session_history.specs.declared.budgets.Budget.{Budget}
use Rattle.fp_session_history.specs.Solutions.{Solution}
use Rattle.fp_app_tails.specs.declared.answers.Scale.TheVariants as asked
use Rattle.fp_app_words.specs.declared.orders.Order.TheVariants as order
use Rattle.fp_app.specs.declared.shown.Shown.{Shown}
use Rattle.fp_app.specs.declared.shown.Shown.TheVariants as shown
use Rattle.fp_app.specs.declared.shown.Status.{Status}
use Rattle.fp_app.specs.declared.shown.Status.TheVariants as status
use Rattle.fp_app.specs.Causes.{GivesCertified, ImproveStatus, ShowsFault, ShowsNo}
use Rattle.fp_app.specs.Improvements.{IsImproved, IsImprovement, IsOpenImprovement, IsOptimalImprovement, ShowsImprove}
use Rattle.fp_app.specs.Inputs.{CertifiedInstance, OfCertified, certified_at, has_tail_in}
use Rattle.fp_app.specs.Plans.{ShowsUntold}
use Rattle.fp_app.specs.Runs.{ShowsImproveOf}
use Rattle.fp_app.specs.Searches.{Allowance}
use Rattle.fp_app.specs.Shown.{search_status, status_of}
use Rattle.fp_app.specs.TailAnswers.{EndsOfTail, GivesOfTail, IsUntold, RejectsTail, ShowsOfTail}
use Rattle.fp_app.specs.Wanted.{Wanted, every, from_plan}
use Rattle.fp_app.proofs.BegunSearches.{enough-from}
use Rattle.fp_app.proofs.CertifiedInputs.{CertifiedParts, certified-parts}
use Rattle.fp_app.proofs.ReadCauses.{MatchResult_shows}
use Rattle.fp_app.proofs.SearchEnds.{SearchEnd, optimal, search-end, search-no_other, unfinished}
use Rattle.fp_app.proofs.TailAnswers.{tail-ends, tail-gives, tail-no_other, tail-refused, tail-rejects}
use Rattle.fp_app.proofs.TailCauses.{both-give, each-of, read-fault, read-gives}

module _ (allowed : Allowance) where
  -- how the search ended that is shown
  improved-end : (p : Problem) (wanted : Wanted) (c : Statement) (y : Solution) (told : IsImproved p wanted c allowed y) → SearchEnd p (from_plan wanted told.plan) allowed y.certificate.answer
  improved-end p wanted c y told = search-end p (from_plan wanted told.plan) allowed y.certificate.answer told.searched.says

  improvement : (p : Problem) (wanted : Wanted) (c : Statement) (q : Problem) (y : Solution) → ShowsImprove allowed p wanted c (shown.Planned q y) → IsImprovement allowed p wanted c (shown.Planned q y)
  improvement p wanted c q y told = record { solved = y; shows = ap (λ (x : Problem). shown.Planned x y) told.0; improved = told.1 }

  end-optimal : (p : Problem) (wanted : Wanted) (c : Statement) (s : Shown) (told : IsImprovement allowed p wanted c s) → SearchEnd p (from_plan wanted told.improved.plan) allowed told.solved.certificate.answer →
      search_status told.solved.certificate.answer ≡ status.Done → IsOptimalImprovement allowed p wanted c s
  end-optimal p wanted c s told (optimal cost same plans) done = record { solution = told; cost = cost; answer = same; plans = plans }
  end-optimal p wanted c s told (unfinished cost bound spent same bounds) done = let e : status.Unfinished ≡ status.Done = sym (ap search_status same) ∙ done in cc e

  end-open : (p : Problem) (wanted : Wanted) (c : Statement) (s : Shown) (told : IsImprovement allowed p wanted c s) → SearchEnd p (from_plan wanted told.improved.plan) allowed told.solved.certificate.answer →
      search_status told.solved.certificate.answer ≡ status.Unfinished → IsOpenImprovement allowed p wanted c s
  end-open p wanted c s told (optimal cost same plans) ends = let e : status.Done ≡ status.Unfinished = sym (ap search_status same) ∙ ends in cc e
  end-open p wanted c s told (unfinished cost bound spent same bounds) ends = record { solution = told; cost = cost; bound = bound; spent = spent; answer = same; bounds = bounds }

  optimal-of : (s : Shown) → status_of s ≡ status.Done → (p : Problem) (wanted : Wanted) (c : Statement) → ShowsImprove allowed p wanted c s → IsOptimalImprovement allowed p wanted c s
  unfolding improvement
  optimal-of (shown.Planned q y) done p wanted c told = end-optimal p wanted c (shown.Planned q y) (improvement p wanted c q y told) (improved-end p wanted c y told.1) done
  optimal-of (shown.RejectedPart number) done p wanted c told = let g = done in cc
  optimal-of _ done p wanted c told = absurd told

  open-of : (s : Shown) → status_of s ≡ status.Unfinished → (p : Problem) (wanted : Wanted) (c : Statement) → ShowsImprove allowed p wanted c s → IsOpenImprovement allowed p wanted c s
  unfolding improvement
  open-of (shown.Planned q y) ends p wanted c told = end-open p wanted c (shown.Planned q y) (improvement p wanted c q y told) (improved-end p wanted c y told.1) ends
  open-of (shown.RejectedPart number) ends p wanted c told = let g = ends in cc
  open-of _ ends p wanted c told = absurd told

  untold-of : (number : ℕ) (p : Problem) (wanted : Wanted) (c : Statement) → ShowsImprove allowed p wanted c (shown.RejectedPart number) → IsUntold p wanted c (shown.RejectedPart number)
  untold-of number p wanted c told = record { number = number; shows = refl; untold = told }

  -- it is done, unfinished, rejects, or refuses its input, and has no other status
  shown-no_other : (t : Status) → (status.Done ≡ t → ⊥) → (status.Unfinished ≡ t → ⊥) → (status.Rejected ≡ t → ⊥) → (s : Shown) → status_of s ≡ t → (p : Problem) (wanted : Wanted) (c : Statement) → ShowsImprove allowed p wanted c s → ⊥
  shown-no_other t not_done not_open not_rejected (shown.Planned q y) same p wanted c told = search-no_other y.certificate.answer t not_done not_open same
  shown-no_other t not_done not_open not_rejected (shown.RejectedPart number) same p wanted c told = not_rejected same
  shown-no_other t not_done not_open not_rejected _ same p wanted c told = told

  end-status : (p : Problem) (wanted : Wanted) (c : Statement) (y : Solution) (told : IsImproved p wanted c allowed y) → SearchEnd p (from_plan wanted told.plan) allowed y.certificate.answer →
      ImproveStatus allowed p wanted c (search_status y.certificate.answer)
  end-status p wanted c y told (optimal cost same plans) = inl (ap search_status same, told.told.tells)
  end-status p wanted c y told (unfinished cost bound spent same bounds) = inr (inl (ap search_status same, told.told.tells, (spent, λ enough. bounds.scarce (enough-from p wanted told.plan allowed spent enough))))

  -- the one status of `improve` for an instance and a certificate
  improve-status : (s : Shown) (p : Problem) (wanted : Wanted) (c : Statement) → ShowsImprove allowed p wanted c s → ImproveStatus allowed p wanted c (status_of s)
  improve-status (shown.Planned q y) p wanted c told = end-status p wanted c y told.1 (improved-end p wanted c y told.1)
  improve-status (shown.RejectedPart number) p wanted c told = inr (inr (refl, told.untold))
  improve-status _ p wanted c told = absurd told

  module _ (n : ℕ) (input : List ℕ) where
    module _ (s : Shown) where
      abbrev OfTail : Type 0
      OfTail = ShowsOfTail (asked.Of n) input s (λ p wanted c. ShowsImprove allowed p wanted c s)

      abbrev OfAlone : Type 0
      OfAlone = OfCertified n input s (λ (x : CertifiedInstance). ShowsImprove allowed x.instance every x.certificate s)

      -- what is given by an instance alone
      alone-gives : (t : Status) (D : Problem → Wanted → Statement → Type 0) → (status.BadInput ≡ t → ⊥) → ((p : Problem) (wanted : Wanted) (c : Statement) → ShowsImprove allowed p wanted c s → D p wanted c) → OfAlone → status_of s ≡ t → GivesCertified n input D
      alone-gives t D not_refused each told same =
          MatchResult_shows t (certified_at n input) (certified_at n input) (λ (x : CertifiedInstance). ShowsImprove allowed x.instance every x.certificate s) s (GivesCertified n input D) not_refused refl same told
          (λ x is shows. record { instance = x.instance; certificate = x.certificate; read = is; holds = each x.instance every x.certificate shows })

      improve-gives : (t : Status) (D : Problem → Wanted → Statement → Type 0) → (status.Rejected ≡ t → ⊥) → (status.BadInput ≡ t → ⊥) → ((p : Problem) (wanted : Wanted) (c : Statement) → ShowsImprove allowed p wanted c s → D p wanted c) →
          ShowsImproveOf allowed n input s → status_of s ≡ t → MatchBool (has_tail_in input) (GivesOfTail (asked.Of n) input D) (GivesCertified n input D)
      improve-gives t D not_rejected not_refused each told same =
          each-of (has_tail_in input) OfTail OfAlone (GivesOfTail (asked.Of n) input D) (GivesCertified n input D)
          (λ of. tail-gives (asked.Of n) input s (λ p wanted c. ShowsImprove allowed p wanted c s) t D not_rejected not_refused each of same) (λ of. alone-gives t D not_refused each of same) told

      pub improve-done : ShowsImproveOf allowed n input s → status_of s ≡ status.Done →
          MatchBool (has_tail_in input) (GivesOfTail (asked.Of n) input (λ p wanted c. IsOptimalImprovement allowed p wanted c s)) (GivesCertified n input (λ p wanted c. IsOptimalImprovement allowed p wanted c s))
      improve-done told done = improve-gives status.Done (λ p wanted c. IsOptimalImprovement allowed p wanted c s) (λ e. cc e) (λ e. cc e) (optimal-of s done) told done

      pub improve-open : ShowsImproveOf allowed n input s → status_of s ≡ status.Unfinished →
          MatchBool (has_tail_in input) (GivesOfTail (asked.Of n) input (λ p wanted c. IsOpenImprovement allowed p wanted c s)) (GivesCertified n input (λ p wanted c. IsOpenImprovement allowed p wanted c s))
      improve-open told ends = improve-gives status.Unfinished (λ p wanted c. IsOpenImprovement allowed p wanted c s) (λ e. cc e) (λ e. cc e) (open-of s ends) told ends

      pub improve-no_other : (t : Status) → (status.Done ≡ t → ⊥) → (status.Unfinished ≡ t → ⊥) → (status.Rejected ≡ t → ⊥) → (status.BadInput ≡ t → ⊥) → ShowsImproveOf allowed n input s → status_of s ≡ t → ⊥
      improve-no_other t not_done not_open not_rejected not_refused told same =
          both-give (has_tail_in input) OfTail OfAlone ⊥
          (λ is of. tail-no_other (asked.Of n) input s (λ p wanted c. ShowsImprove allowed p wanted c s) t not_rejected not_refused (shown-no_other t not_done not_open not_rejected s same) of same)
          (λ is of. MatchResult_shows t (certified_at n input) (certified_at n input) (λ (x : CertifiedInstance). ShowsImprove allowed x.instance every x.certificate s) s ⊥ not_refused refl same of
          (λ x read shows. shown-no_other t not_done not_open not_rejected s same x.instance every x.certificate shows)) told

      pub improve-ends : ShowsImproveOf allowed n input s →
          MatchBool (has_tail_in input) (EndsOfTail (asked.Of n) input (status_of s) (λ p wanted c. ImproveStatus allowed p wanted c (status_of s)))
          (MatchResult (certified_at n input) (λ (x : CertifiedInstance). ImproveStatus allowed x.instance every x.certificate (status_of s)) (λ (f : Fault). status_of s ≡ status.BadInput))
      improve-ends told =
          each-of (has_tail_in input) OfTail OfAlone (EndsOfTail (asked.Of n) input (status_of s) (λ p wanted c. ImproveStatus allowed p wanted c (status_of s)))
          (MatchResult (certified_at n input) (λ (x : CertifiedInstance). ImproveStatus allowed x.instance every x.certificate (status_of s)) (λ (f : Fault). status_of s ≡ status.BadInput))
          (tail-ends (asked.Of n) input s (λ p wanted c. ShowsImprove allowed p wanted c s) (λ p wanted c. ImproveStatus allowed p wanted c (status_of s)) (improve-status s))
          (read-gives (certified_at n input) (λ (x : CertifiedInstance). ShowsImprove allowed x.instance every x.certificate s) (λ (x : CertifiedInstance). ImproveStatus allowed x.instance every x.certificate (status_of s)) s
          (λ (x : CertifiedInstance). improve-status s x.instance every x.certificate)) told

    -- a rejection is of a certificate that tells no plan
    alone-rejected : (number : ℕ) (x : CertifiedInstance) → certified_at n input ≡ Ok x → ShowsUntold x.instance every x.certificate number → ShowsNo (λ p c part. ShowsUntold (record p { scale = n }) every c part) input (shown.RejectedPart number)
    alone-rejected number x read told =
        let parts : CertifiedParts n input x = certified-parts n input x read in
        record {
          instance = parts.instance;
          certificate = x.certificate;
          number = number;
          read = parts.read;
          certified = parts.certified;
          shows = refl;
          rejected = subst (λ (p : Problem). ShowsUntold p every x.certificate number) parts.at told;
        }

    pub improve-rejection : (number : ℕ) → ShowsImproveOf allowed n input (shown.RejectedPart number) →
        MatchBool (has_tail_in input) (RejectsTail (asked.Of n) input (shown.RejectedPart number)) (ShowsNo (λ p c part. ShowsUntold (record p { scale = n }) every c part) input (shown.RejectedPart number))
    improve-rejection number told =
        each-of (has_tail_in input) (OfTail (shown.RejectedPart number)) (OfAlone (shown.RejectedPart number)) (RejectsTail (asked.Of n) input (shown.RejectedPart number)) (ShowsNo (λ p c part. ShowsUntold (record p { scale = n }) every c part) input (shown.RejectedPart number))
        (λ of. tail-rejects (asked.Of n) input (shown.RejectedPart number) (λ p wanted c. ShowsImprove allowed p wanted c (shown.RejectedPart number)) (untold-of number) of refl)
        (λ of. MatchResult_shows status.Rejected (certified_at n input) (certified_at n input) (λ (x : CertifiedInstance). ShowsImprove allowed x.instance every x.certificate (shown.RejectedPart number)) (shown.RejectedPart number)
        (ShowsNo (λ p c part. ShowsUntold (record p { scale = n }) every c part) input (shown.RejectedPart number)) (λ e. cc e) refl refl of (λ x is shows. alone-rejected number x is shows)) told

    -- a refusal is by the first fault
    pub improve-fault : (budget : Budget) (spans : Bool) (seconds : Option ℕ) (notes : Bool) (ordinal code : ℕ) → ShowsImproveOf allowed n input (shown.BadInput ordinal code) →
        ShowsFault (Some (order.Improve budget n spans seconds notes)) input (shown.BadInput ordinal code)
    improve-fault budget spans seconds notes ordinal code told =
        both-give (has_tail_in input) (OfTail (shown.BadInput ordinal code)) (OfAlone (shown.BadInput ordinal code)) (ShowsFault (Some (order.Improve budget n spans seconds notes)) input (shown.BadInput ordinal code))
        (λ tail of. record {
          fault = record { ordinal = ordinal; code = code };
          first = rw tail (tail-refused (asked.Of n) input (λ p wanted c. ShowsImprove allowed p wanted c (shown.BadInput ordinal code)) ordinal code (λ p wanted c none. none) of);
          shows = refl;
        })
        (λ alone of. let x = read-fault (certified_at n input) (λ (x : CertifiedInstance). ShowsImprove allowed x.instance every x.certificate (shown.BadInput ordinal code)) (shown.BadInput ordinal code) (λ x none. none) of in
        record { fault = x.0; first = rw alone x.1; shows = x.2 }) told
