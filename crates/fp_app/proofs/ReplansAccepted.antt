-- `check` accepts what `replan` and `improve` print, after the records that were handed to them.
use Rattle.std.proofs.Common.{◌≡◌, ◌∙◌, ℕ, ◌+◌, ◌<◌, ◌≤◌, ◌^◌, true, false, List, ◌++◌, length, drop, take, refl, sym, ap, subst, inl, inr}
use Rattle.std.specs.Prelude.{Option, Some, None, MatchResult, Result, Ok}
use Rattle.std.proofs.Math.Seq.{drop-append_seam, take-append_seam}
use Rattle.std.proofs.lemmas.List.{drop_all}
use Rattle.std.specs.List.{list_any}
use Rattle.std.proofs.lemmas.Bool.{cases_Bool, lt-ltb, ltb-false, ltb-true}
use Rattle.fp_model.specs.declared.parts.Leg.{Leg}
use Rattle.fp_model.specs.Problem.{Problem, weight_at}
use Rattle.fp_records.specs.Fields.{records_of}
use Rattle.fp_records_fields.specs.Faults.{Fault}
use Rattle.fp_flatnet.specs.Tables.{WindowTable}
use Rattle.fp_certificate_lines.specs.Statements.{Statement}
use Rattle.fp_certificate_rules.specs.Accepted.{IsAccepted}
use Rattle.fp_certificate.specs.Reading.{certificate_of, nothing_read}
use Rattle.fp_app_tails.specs.declared.verdicts.Verdict.{Verdict}
use Rattle.fp_app_tails.specs.declared.verdicts.Verdict.TheVariants as verdict
use Rattle.fp_app_tails.specs.Ahead.{GoesOn, ahead_problem}
use Rattle.fp_app_tails.specs.Answers.{at_scale, fits}
use Rattle.fp_app_tails.specs.Duties.{Duty, go_on, keep}
use Rattle.fp_app_tails.specs.Tails.{day_told, has_tail, kept_told, tells_day, tells_more, unkept_instance, unkept_records}
use Rattle.fp_app_tails.specs.Verdicts.{AreWindowsAhead, IsCertificateSaid, IsScaledVerdict, IsVerdict, IsVerdictAhead, IsVerdictAt, begins_stuck, scale_of, scaled}
use Rattle.fp_replan.specs.declared.kept.Kept.{Kept}
use Rattle.fp_replan_present.specs.Days.{Day}
use Rattle.fp_app_tails.proofs.Scales.{ahead-at}
use Rattle.fp_app_words.specs.declared.orders.Order.TheVariants.{Check}
use Rattle.fp_app.specs.declared.shown.Status.{Status}
use Rattle.fp_app.specs.declared.shown.Status.TheVariants as status
use Rattle.fp_app.specs.Causes.{InputStatus}
use Rattle.fp_app.specs.Inputs.{has_tail_in, leading_count}
use Rattle.fp_app.specs.Laws.{CheckAcceptsReplans, IsTold, LooksForTold}
use Rattle.fp_app.specs.Shown.{status_of}
use Rattle.fp_app.specs.TailChecks.{SaidStatus, shown_of}
use Rattle.fp_app.specs.Texts.{certificate_text}
use Rattle.fp_app.specs.Wanted.{AreWindowsFor, Wanted, WantedExists, from_plan, wanted_by}
use Rattle.fp_app.proofs.AnswerRecords.{BeginsWithAnswer, certificate-begins, certificate-not_stuck}
use Rattle.fp_app.proofs.BegunSearches.{windows-from}
use Rattle.fp_app.proofs.CertificateScales.{certificate-scale, scale_of-named}
use Rattle.fp_app.proofs.NoAnswers.{Records, before_answer, none-before_answer}
use Rattle.fp_app.proofs.ScaledPlans.{goes-on}
use Rattle.fp_app.proofs.SearchClaims.{searched-exists, windows-one}
use Rattle.fp_app.proofs.TailAnswers.{wanted-windows}
use Rattle.fp_app.proofs.TailInstances.{IsReadOf, IsUsual, day-read, kept-read}

-- a certificate that is accepted at its scale under a table of what is to be planned, the only one
module _ (p : Problem) (duty : Duty) (c : Statement) (table : WindowTable) (one : (other : WindowTable) → AreWindowsAhead (scaled p c) duty other → other ≡ table) (goes : GoesOn (scaled p c) duty) (accepted : IsAccepted (ahead_problem (scaled p c) duty) table c)
    (light : weight_at (scale_of c.scale) p.arcs p.shipments < 2 ^ 127) where
  abbrev IsYes : Verdict → Type 0
  IsYes v = status_of (shown_of v) ≡ status.Done

  at-yes : (v : Verdict) → IsVerdictAt (scaled p c) duty c v → IsYes v
  at-yes (verdict.Accepted (Some a)) is = refl
  at-yes (verdict.Accepted None) is = absurd is
  at-yes (verdict.Rejected number) (inl none) = absurd (none.1 goes)
  at-yes (verdict.Rejected number) (inr rejected) =
      let here : IsAccepted (ahead_problem (scaled p c) duty) rejected.table c = subst (λ (t : WindowTable). IsAccepted (ahead_problem (scaled p c) duty) t c) (sym (one rejected.table rejected.windows)) accepted in
      absurd (rejected.first.fails (here rejected.first.part rejected.first.applies))
  at-yes (verdict.Fault ordinal code) is = absurd is

  scaled-yes : (v : Verdict) → IsScaledVerdict p duty c v → IsYes v
  scaled-yes v is = at-yes v (rw (lt-ltb (weight_at (scale_of c.scale) p.arcs p.shipments) (2 ^ 127) light) at is)

  read-yes : (read : Result Statement Fault) → read ≡ Ok c → (v : Verdict) → IsCertificateSaid p duty read v → IsYes v
  read-yes read back v (inl none) = absurd (none.0 (goes-on p (scale_of c.scale) duty goes))
  read-yes read back v (inr said) =
      scaled-yes v (subst (λ (r : Result Statement Fault). MatchResult r (λ d. IsScaledVerdict p duty d v) (λ (f : Fault). v ≡ verdict.Fault f.ordinal f.code)) back said.1)

  -- and so the answer at a place where its text begins
  pub ahead-yes : (place : ℕ) (records : Records) → begins_stuck (drop place records) ≡ false → certificate_of (ahead_problem p duty) (place + 1) (drop place records) ≡ Ok c → (v : Verdict) → IsVerdictAhead p duty place records v → IsYes v
  ahead-yes place records other back v is = read-yes (certificate_of (ahead_problem p duty) (place + 1) (drop place records)) back v (rw other at is)

-- an input that tells kept legs or a day, and after it the text of a certificate
module _ (p : Problem) (duty : Duty) (c : Statement) (input longer : List ℕ) (more : Records) (read : IsReadOf input p) (joined : records_of longer ≡ records_of input ++ more)
    (back : (ordinal : ℕ) → certificate_of (ahead_problem p duty) ordinal more ≡ Ok c) where
  leading : before_answer (records_of longer) ≡ records_of input
  leading =
      let begins : BeginsWithAnswer more = certificate-begins (ahead_problem p duty) 1 more c (back 1) in
      ap before_answer joined
      ∙ subst (λ (lines : Records). before_answer (records_of input ++ lines) ≡ records_of input) (sym begins.is) (none-before_answer (records_of input) read.none begins.first begins.rest begins.answer)

  told : take (leading_count longer) (records_of longer) ≡ records_of input
  told =
      ap (λ (lines : Records). take (length lines) (records_of longer)) leading
      ∙ ap (λ (lines : Records). take (length (records_of input)) lines) joined
      ∙ take-append_seam (records_of input) more

  after : drop (leading_count longer) (records_of longer) ≡ more
  after =
      ap (λ (lines : Records). drop (length lines) (records_of longer)) leading
      ∙ ap (λ (lines : Records). drop (length (records_of input)) lines) joined
      ∙ drop-append_seam (records_of input) more

  answer-yes : (table : WindowTable) → ((other : WindowTable) → AreWindowsAhead (scaled p c) duty other → other ≡ table) → GoesOn (scaled p c) duty → IsAccepted (ahead_problem (scaled p c) duty) table c →
      weight_at (scale_of c.scale) p.arcs p.shipments < 2 ^ 127 → (v : Verdict) → IsVerdictAhead p duty (leading_count longer) (records_of longer) v → status_of (shown_of v) ≡ status.Done
  answer-yes table one goes accepted light v is =
      ahead-yes p duty c table one goes accepted light (leading_count longer) (records_of longer)
      (ap begins_stuck after ∙ certificate-not_stuck (ahead_problem p duty) 1 more c (back 1))
      (ap (λ (lines : Records). certificate_of (ahead_problem p duty) (leading_count longer + 1) lines) after ∙ back (leading_count longer + 1)) v is

-- what is said by the records before an answer
kept-ahead : (p : Problem) (kept : List Kept) (place : ℕ) (records : Records) (v : Verdict) → tells_day (take place records) ≡ false → kept_told (take place records) ≡ Ok (record { instance = p; kept = kept }) → IsVerdict place records v →
    IsVerdictAhead p (keep kept) place records v
kept-ahead p kept place records v tells read is = rw (tells, read) at is

day-ahead : (p : Problem) (day : Day) (place : ℕ) (records : Records) (v : Verdict) → tells_day (take place records) ≡ true → day_told (take place records) ≡ Ok (record { instance = p; day = day }) → IsVerdict place records v →
    IsVerdictAhead p (go_on day) place records v
day-ahead p day place records v tells read is = rw (tells, read) at is

-- `check` looks at what is told
said-of : (longer : List ℕ) (result : Status) → has_tail_in longer ≡ true → InputStatus false Check longer result → SaidStatus longer result
said-of longer result tail is = rw tail at is

-- a day is told where some records tell one
tells-has_tail : (records : Records) → tells_day records ≡ true → has_tail records ≡ true
tells-has_tail records tells =
    elim (cases_Bool (has_tail records)) [
      | inl some ↦ some
      | inr none ↦
          let all : length records ≤ length (unkept_records records) = ltb-false (length (unkept_records records)) (length records) none in
          let g : false ≡ true = sym (ap (list_any tells_more) (drop_all (length (unkept_records records)) records all)) ∙ tells in
          cc g
    ]

-- what an input tells
told-has_tail : (input : List ℕ) (p : Problem) (duty : Duty) → IsTold input p duty → has_tail (records_of input) ≡ true
told-has_tail input p (keep kept) tells = tells.0
told-has_tail input p (go_on day) tells = tells-has_tail (records_of input) tells.0

told-read : (input : List ℕ) (p : Problem) (duty : Duty) → IsTold input p duty → IsReadOf input p
told-read input p (keep kept) tells = kept-read input (record { instance = p; kept = kept }) (unkept_instance (records_of input)) refl tells.2
told-read input p (go_on day) tells = day-read input (record { instance = p; day = day }) (unkept_instance (records_of input)) refl tells.1

told-ahead : (input : List ℕ) (p : Problem) (duty : Duty) (place : ℕ) (records : Records) (v : Verdict) → IsTold input p duty → take place records ≡ records_of input → IsVerdict place records v → IsVerdictAhead p duty place records v
told-ahead input p (keep kept) place records v tells front is = kept-ahead p kept place records v (ap tells_day front ∙ tells.1) (ap kept_told front ∙ tells.2) is
told-ahead input p (go_on day) place records v tells front is = day-ahead p day place records v (ap tells_day front ∙ tells.0) (ap day_told front ∙ tells.1) is

-- what is to be planned has the scale of the instance
ahead-scale : (p : Problem) (duty : Duty) → (ahead_problem p duty).scale ≡ p.scale
ahead-scale p (keep kept) = refl
ahead-scale p (go_on day) = refl

-- the instance at the scale that a certificate names is the one at the scale that was asked for, and it fits
named-same : (p : Problem) (scale : Option ℕ) (n : ℕ) → n ≡ (at_scale scale p).scale → record p { scale = n } ≡ at_scale scale p
named-same p None n own = ap (λ (m : ℕ). record p { scale = m }) own
named-same p (Some m) n own = ap (λ (m : ℕ). record p { scale = m }) own

named-light : (p : Problem) (scale : Option ℕ) → IsUsual p → fits scale p ≡ true → weight_at (at_scale scale p).scale p.arcs p.shipments < 2 ^ 127
named-light p None usual fit = subst (λ (n : ℕ). weight_at n p.arcs p.shipments < 2 ^ 127) (sym usual.scale) usual.light
named-light p (Some n) usual fit = ltb-true (weight_at n p.arcs p.shipments) (2 ^ 127) fit

-- a certificate that reads back at a scale does so of the instance
reads-back : (p : Problem) (duty : Duty) (scale : Option ℕ) (ordinal : ℕ) (more : Records) → certificate_of (ahead_problem (at_scale scale p) duty) ordinal more ≡ certificate_of (ahead_problem p duty) ordinal more
reads-back p duty None ordinal more = refl
reads-back p duty (Some n) ordinal more =
    ap (λ (q : Problem). certificate_of q ordinal more) (ahead-at p n duty) ∙ certificate-scale (ahead_problem p duty) n nothing_read ordinal more

-- the plans that are looked for go on, and their windows are those of what is to be planned
goes-by : (p : Problem) (duty : Duty) (plan : List (List Leg)) → WantedExists (ahead_problem p duty) (from_plan (wanted_by p duty) plan) → GoesOn p duty
goes-by p (keep kept) plan is = is
goes-by p (go_on day) plan is = is

goes-wanted : (p : Problem) (duty : Duty) → WantedExists (ahead_problem p duty) (wanted_by p duty) → GoesOn p duty
goes-wanted p (keep kept) is = is
goes-wanted p (go_on day) is = is

looks-goes : (p : Problem) (duty : Duty) (wanted : Wanted) → LooksForTold p duty wanted → WantedExists (ahead_problem p duty) wanted → GoesOn p duty
looks-goes p duty wanted (inl own) is = goes-wanted p duty (subst (λ (w : Wanted). WantedExists (ahead_problem p duty) w) own is)
looks-goes p duty wanted (inr from) is = goes-by p duty from.0 (subst (λ (w : Wanted). WantedExists (ahead_problem p duty) w) from.1 is)

looks-one : (p : Problem) (duty : Duty) (wanted : Wanted) (table other : WindowTable) → LooksForTold p duty wanted → AreWindowsFor (ahead_problem p duty) wanted table → AreWindowsAhead p duty other → other ≡ table
looks-one p duty wanted table other looks windows ahead =
    windows-one (ahead_problem p duty) wanted other table (looked looks) windows
  where
    own : AreWindowsFor (ahead_problem p duty) (wanted_by p duty) other
    own = wanted-windows p duty (ahead_problem p duty) other refl ahead

    looked : LooksForTold p duty wanted → AreWindowsFor (ahead_problem p duty) wanted other
    looked (inl same) = subst (λ (w : Wanted). AreWindowsFor (ahead_problem p duty) w other) (sym same) own
    looked (inr from) = subst (λ (w : Wanted). AreWindowsFor (ahead_problem p duty) w other) (sym from.1) (windows-from (ahead_problem p duty) (wanted_by p duty) from.0 other own)

pub CheckAcceptsReplans_hold : CheckAcceptsReplans
CheckAcceptsReplans_hold allowed wanted scale input longer p duty s tells fit looks searched joined result is =
    let c : Statement = s.certificate in
    let at : Problem = at_scale scale p in
    let more : Records = records_of (certificate_text (ahead_problem at duty) c) in
    let read : IsReadOf input p = told-read input p duty tells in
    let back : (ordinal : ℕ) → certificate_of (ahead_problem p duty) ordinal more ≡ Ok c = λ ordinal. sym (reads-back p duty scale ordinal more) ∙ searched.back ordinal in
    let front : take (leading_count longer) (records_of longer) ≡ records_of input = told p duty c input longer more read joined back in
    let said : SaidStatus longer result = said-of longer result (ap has_tail front ∙ told-has_tail input p duty tells) is in
    let own : scale_of c.scale ≡ at.scale = ap scale_of searched.scale ∙ scale_of-named (ahead_problem at duty).scale ∙ ahead-scale at duty in
    let same : at ≡ scaled p c = sym (named-same p scale (scale_of c.scale) own) in
    said.ends
    ∙ answer-yes p duty c input longer more read joined back searched.table
    (subst (λ (q : Problem). (other : WindowTable) → AreWindowsAhead q duty other → other ≡ searched.table) same (λ other windows. looks-one at duty wanted searched.table other looks searched.windows windows))
    (subst (λ (q : Problem). GoesOn q duty) same (looks-goes at duty wanted looks (searched-exists (ahead_problem at duty) wanted allowed s searched)))
    (subst (λ (q : Problem). IsAccepted (ahead_problem q duty) searched.table c) same searched.accepted)
    (subst (λ (n : ℕ). weight_at n p.arcs p.shipments < 2 ^ 127) (sym own) (named-light p scale read.usual fit))
    said.said
    (told-ahead input p duty (leading_count longer) (records_of longer) said.said tells front said.is)
