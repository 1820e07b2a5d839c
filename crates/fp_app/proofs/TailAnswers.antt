-- What `yard`, `fleet` and `improve` show of an answer that follows kept legs or a day, by what it gives, and with each
-- status.
use Rattle.std.proofs.Common.{◌≡◌, ◌∙◌, ℕ, Bool, List, refl, sym, ap, subst, inl, inr}
use Rattle.std.specs.Prelude.{MatchBool, None, Ok, Option, Some}
use Rattle.fp_model.specs.Problem.{Problem}
use Rattle.fp_records.specs.Fields.{records_of}
use Rattle.fp_flatnet.specs.Tables.{WindowTable}
use Rattle.fp_certificate_lines.specs.Statements.{Statement}
use Rattle.fp_app_tails.specs.declared.answers.Answered.{Answered}
use Rattle.fp_app_tails.specs.declared.answers.Answered.TheVariants as answered
use Rattle.fp_app_tails.specs.declared.answers.Scale.{Scale}
use Rattle.fp_app_tails.specs.Ahead.{ahead_problem}
use Rattle.fp_app_tails.specs.Answers.{Gives, GivesFault, GivesNone, IsAnswer, IsPlanned}
use Rattle.fp_app_tails.specs.Duties.{Duty, go_on, keep}
use Rattle.fp_app_tails.specs.Verdicts.{AreWindowsAhead}
use Rattle.fp_app_tails.specs.Windows.{AreDayWindows, AreKeptWindowsOf}
use Rattle.fp_app_tails.proofs.AnswerFaults.{answer-fault, fault_with}
use Rattle.fp_app_tails.proofs.AnswerParts.{answer-gives, answer-of}
use Rattle.fp_app.specs.declared.shown.Shown.{Shown}
use Rattle.fp_app.specs.declared.shown.Shown.TheVariants as shown
use Rattle.fp_app.specs.declared.shown.Status.{Status}
use Rattle.fp_app.specs.declared.shown.Status.TheVariants as status
use Rattle.fp_app.specs.Inputs.{CertifiedInstance, IsTailAnswer, certified_at, has_tail_in, leading_count, tail_fault_in}
use Rattle.fp_app.specs.Notes.{IsNotedFor, MayNote, TookNotes}
use Rattle.fp_app.specs.Shown.{status_of}
use Rattle.fp_app.specs.TailAnswers.{EndsOfTail, GivesOfAnswer, GivesOfTail, IsUntold, OfAhead, RejectsTail, ShowsOfAnswer, ShowsOfTail}
use Rattle.fp_app.specs.Wanted.{AreWindowsFor, Wanted, every, wanted_by}

abbrev Records : Type 0
Records = List (List (List ℕ))

-- the windows of what is to be planned are those of the plans that what is told asks for
pub wanted-windows : (p : Problem) (duty : Duty) (q : Problem) (table : WindowTable) → q ≡ ahead_problem p duty → AreWindowsAhead p duty table → AreWindowsFor q (wanted_by p duty) table
wanted-windows p (keep kept) q table same windows = subst (λ (x : Problem). AreKeptWindowsOf x kept table) (sym same) windows
wanted-windows p (go_on day) q table same windows = subst (λ (x : Problem). AreDayWindows p day x table) (sym same) windows

planned-ahead : (P : Problem → Wanted → Statement → Type 0) (q : Problem) (table : WindowTable) (d : Statement) → ((wanted : Wanted) → AreWindowsFor q wanted table → P q wanted d) →
    (p : Problem) (duty : Duty) (c : Statement) → IsPlanned p duty c q table d → OfAhead P p duty c
planned-ahead P q table d each p duty c is =
    subst (λ (x : Problem). P x (wanted_by p duty) c) is.same
    (subst (λ (x : Statement). P q (wanted_by p duty) x) is.certificate (each (wanted_by p duty) (wanted-windows p duty q table is.same is.windows)))

-- by what the answer at a place gives
module _ (n : Scale) (place : ℕ) (records : Records) where
  pub read-shown : (s : Shown) (P : Problem → Wanted → Statement → Type 0) (q : Problem) (table : WindowTable) (d : Statement) → ((wanted : Wanted) → AreWindowsFor q wanted table → P q wanted d) → IsAnswer n place records (answered.Read q table d) →
      ShowsOfAnswer n place records s P
  read-shown s P q table d each is =
      let a : Answered = answered.Read q table d in
      answer-of (GivesNone a) (s ≡ shown.RejectedPart 1) (GivesFault a) (λ ordinal code. s ≡ shown.BadInput ordinal code) (Gives a) (OfAhead P)
      (λ none. cc none) (λ ordinal code fault. cc fault) (planned-ahead P q table d each) n place records is

  pub none-shown : (P : Problem → Wanted → Statement → Type 0) → IsAnswer n place records answered.NoPlan → ShowsOfAnswer n place records (shown.RejectedPart 1) P
  none-shown P is =
      answer-of (GivesNone answered.NoPlan) (shown.RejectedPart 1 ≡ shown.RejectedPart 1) (GivesFault answered.NoPlan) (λ ordinal code. shown.RejectedPart 1 ≡ shown.BadInput ordinal code) (Gives answered.NoPlan) (OfAhead P)
      (λ none. refl) (λ ordinal code fault. cc fault) (λ p duty c none. absurd none) n place records is

  same-fault : (ordinal code o k : ℕ) → answered.Fault ordinal code ≡ answered.Fault o k → shown.BadInput ordinal code ≡ shown.BadInput o k
  same-fault ordinal code o k same =
      let first : ordinal ≡ o = cc same in
      let second : code ≡ k = cc same in
      ap (λ (m : ℕ). shown.BadInput m code) first ∙ ap (λ (m : ℕ). shown.BadInput o m) second

  pub fault-shown : (P : Problem → Wanted → Statement → Type 0) (ordinal code : ℕ) → IsAnswer n place records (answered.Fault ordinal code) → ShowsOfAnswer n place records (shown.BadInput ordinal code) P
  fault-shown P ordinal code is =
      let a : Answered = answered.Fault ordinal code in
      answer-of (GivesNone a) (shown.BadInput ordinal code ≡ shown.RejectedPart 1) (GivesFault a) (λ o k. shown.BadInput ordinal code ≡ shown.BadInput o k) (Gives a) (OfAhead P)
      (λ none. cc none) (same-fault ordinal code) (λ p duty c none. absurd none) n place records is

  -- what is noted of a search of what is to be planned
  pub read-noted : (wants : Bool) (old new : Option (List ℕ)) (q : Problem) (table : WindowTable) (d : Statement) → MayNote wants (TookNotes q table old new) old new → IsAnswer n place records (answered.Read q table d) →
      MayNote wants (GivesOfAnswer n place records (λ p wanted c. IsNotedFor p wanted old new)) old new
  read-noted wants old new q table d (inl same) is = inl same
  read-noted wants old new q table d (inr noted) is =
      let a : Answered = answered.Read q table d in
      inr (
        noted.0,
        answer-of (GivesNone a) ⊥ (GivesFault a) (λ ordinal code. ⊥) (Gives a) (OfAhead (λ p wanted c. IsNotedFor p wanted old new)) (λ none. cc none) (λ ordinal code fault. cc fault)
            (planned-ahead (λ p wanted c. IsNotedFor p wanted old new) q table d (λ wanted windows. (table, windows, noted.1))) n place records is,
      )

-- where the answer of an input stands, and where nothing is told before it
module _ (n : Scale) (input : List ℕ) (lines : Records) (same : records_of input ≡ lines) (place : ℕ) (tells : IsTailAnswer input (Some place)) where
  place-shown : (s : Shown) (P : Problem → Wanted → Statement → Type 0) → ShowsOfAnswer n place lines s P → ShowsOfTail n input s P
  place-shown s P shows =
      subst (λ (m : ℕ). ShowsOfAnswer n m (records_of input) s P) (sym tells.1) (subst (λ (ls : Records). ShowsOfAnswer n place ls s P) (sym same) shows)

  pub tail-shown : (s : Shown) (P : Problem → Wanted → Statement → Type 0) (Y : Type 0) → ShowsOfAnswer n place lines s P → MatchBool (has_tail_in input) (ShowsOfTail n input s P) Y
  tail-shown s P Y shows = rw tells.0 (place-shown s P shows)

  place-gives : (P : Problem → Wanted → Statement → Type 0) → GivesOfAnswer n place lines P → GivesOfTail n input P
  place-gives P gives =
      subst (λ (m : ℕ). GivesOfAnswer n m (records_of input) P) (sym tells.1) (subst (λ (ls : Records). GivesOfAnswer n place ls P) (sym same) gives)

  pub tail-noted : (wants : Bool) (old new : Option (List ℕ)) (P : Problem → Wanted → Statement → Type 0) (Y : Type 0) → MayNote wants (GivesOfAnswer n place lines P) old new → MayNote wants (MatchBool (has_tail_in input) (GivesOfTail n input P) Y) old new
  tail-noted wants old new P Y (inl none) = inl none
  tail-noted wants old new P Y (inr noted) = inr (noted.0, rw tells.0 (place-gives P noted.1))

pub alone-noted : (wants : Bool) (input : List ℕ) (old new : Option (List ℕ)) (X Y : Type 0) → IsTailAnswer input None → MayNote wants Y old new → MayNote wants (MatchBool (has_tail_in input) X Y) old new
alone-noted wants input old new X Y tells (inl none) = inl none
alone-noted wants input old new X Y tells (inr noted) = inr (noted.0, rw tells noted.1)

-- what is noted of a search of an instance alone
pub certified-noted : (wants : Bool) (n : ℕ) (input : List ℕ) (p : Problem) (c : Statement) (table : WindowTable) (old new : Option (List ℕ)) → certified_at n input ≡ Ok (record { instance = p; certificate = c }) → AreWindowsFor p every table →
    MayNote wants (TookNotes p table old new) old new → MayNote wants ((x : CertifiedInstance) × (certified_at n input ≡ Ok x) × IsNotedFor x.instance every old new) old new
certified-noted wants n input p c table old new read windows (inl none) = inl none
certified-noted wants n input p c table old new read windows (inr noted) = inr (noted.0, (record { instance = p; certificate = c }, read, (table, windows, noted.1)))

-- by the status
module _ (n : Scale) (input : List ℕ) (s : Shown) (P : Problem → Wanted → Statement → Type 0) where
  abbrev NoneTold : Type 0
  NoneTold = s ≡ shown.RejectedPart 1

  abbrev Refused : ℕ → ℕ → Type 0
  Refused ordinal code = s ≡ shown.BadInput ordinal code

  none-ends : (t : Status) → (status.Rejected ≡ t → ⊥) → status_of s ≡ t → NoneTold → ⊥
  none-ends t not_rejected same is = not_rejected (ap status_of (sym is) ∙ same)

  fault-ends : (t : Status) → (status.BadInput ≡ t → ⊥) → status_of s ≡ t → (ordinal code : ℕ) → Refused ordinal code → ⊥
  fault-ends t not_refused same ordinal code is = not_refused (ap status_of (sym is) ∙ same)

  pub tail-gives : (t : Status) (D : Problem → Wanted → Statement → Type 0) → (status.Rejected ≡ t → ⊥) → (status.BadInput ≡ t → ⊥) → ((p : Problem) (wanted : Wanted) (c : Statement) → P p wanted c → D p wanted c) → ShowsOfTail n input s P → status_of s ≡ t →
      GivesOfTail n input D
  tail-gives t D not_rejected not_refused each told same =
      answer-of NoneTold ⊥ Refused (λ ordinal code. ⊥) (OfAhead P) (OfAhead D) (none-ends t not_rejected same) (fault-ends t not_refused same) (λ p duty c. each (ahead_problem p duty) (wanted_by p duty) c) n (leading_count input) (records_of input) told

  pub tail-ends : (D : Problem → Wanted → Statement → Type 0) → ((p : Problem) (wanted : Wanted) (c : Statement) → P p wanted c → D p wanted c) → ShowsOfTail n input s P → EndsOfTail n input (status_of s) D
  tail-ends D each told =
      answer-of NoneTold (status_of s ≡ status.Rejected) Refused (λ ordinal code. status_of s ≡ status.BadInput) (OfAhead P) (OfAhead D) (λ is. ap status_of is) (λ ordinal code is. ap status_of is)
      (λ p duty c. each (ahead_problem p duty) (wanted_by p duty) c) n (leading_count input) (records_of input) told

  pub tail-rejects : ((p : Problem) (wanted : Wanted) (c : Statement) → P p wanted c → IsUntold p wanted c s) → ShowsOfTail n input s P → status_of s ≡ status.Rejected → RejectsTail n input s
  tail-rejects each told same =
      answer-of NoneTold NoneTold Refused (λ ordinal code. ⊥) (OfAhead P) (OfAhead (λ p wanted c. IsUntold p wanted c s)) (λ is. is) (fault-ends status.Rejected (λ e. cc e) same)
      (λ p duty c. each (ahead_problem p duty) (wanted_by p duty) c) n (leading_count input) (records_of input) told

  -- what neither part shows isn't shown
  pub tail-neither : (NoneTold → ⊥) → ((ordinal code : ℕ) → Refused ordinal code → ⊥) → ((p : Problem) (wanted : Wanted) (c : Statement) → P p wanted c → ⊥) → ShowsOfTail n input s P → ⊥
  tail-neither none fault each told = answer-gives NoneTold Refused (OfAhead P) ⊥ none fault (λ p duty c. each (ahead_problem p duty) (wanted_by p duty) c) n (leading_count input) (records_of input) told

  pub tail-no_other : (t : Status) → (status.Rejected ≡ t → ⊥) → (status.BadInput ≡ t → ⊥) → ((p : Problem) (wanted : Wanted) (c : Statement) → P p wanted c → ⊥) → ShowsOfTail n input s P → status_of s ≡ t → ⊥
  tail-no_other t not_rejected not_refused each told same = tail-neither (none-ends t not_rejected same) (fault-ends t not_refused same) each told

-- a refusal is by the first fault
pub tail-refused : (n : Scale) (input : List ℕ) (P : Problem → Wanted → Statement → Type 0) (ordinal code : ℕ) → ((p : Problem) (wanted : Wanted) (c : Statement) → P p wanted c → ⊥) → ShowsOfTail n input (shown.BadInput ordinal code) P →
    tail_fault_in n input ≡ Some (record { ordinal = ordinal; code = code })
tail-refused n input P ordinal code never told =
    answer-fault (shown.BadInput ordinal code ≡ shown.RejectedPart 1) (λ o k. shown.BadInput ordinal code ≡ shown.BadInput o k) (OfAhead P) ordinal code (λ none. cc none) own
    (λ p duty c. never (ahead_problem p duty) (wanted_by p duty) c) n (leading_count input) (records_of input) told
  where
    own : (o k : ℕ) → shown.BadInput ordinal code ≡ shown.BadInput o k → fault_with o k ≡ fault_with ordinal code
    own o k same =
        let first : o ≡ ordinal = cc same in
        let second : k ≡ code = cc same in
        ap (λ (m : ℕ). fault_with m k) first ∙ ap (λ (m : ℕ). fault_with ordinal m) second
