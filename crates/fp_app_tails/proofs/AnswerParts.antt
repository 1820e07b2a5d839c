-- What holds of an answer, from what follows of each of its parts.
use Rattle.std.proofs.Common.{ℕ, ◌+◌, Bool, true, false, List, drop, take, inl, inr}
use Rattle.std.specs.Prelude.{Option, Result, Ok, Err, MatchBool, MatchResult}
use Rattle.fp_model.specs.Problem.{Problem}
use Rattle.fp_records_fields.specs.Faults.{Fault}
use Rattle.fp_certificate.specs.Reading.{certificate_of}
use Rattle.fp_certificate_lines.specs.Statements.{Statement}
use Rattle.fp_app_tails.specs.declared.answers.Scale.{Scale}
use Rattle.fp_app_tails.specs.Ahead.{ahead_problem}
use Rattle.fp_app_tails.specs.Answers.{OfAnswer, OfAnswerAhead, OfNamed, OfRead, OfScaled, OfWanted, at_scale, fits, scale_by}
use Rattle.fp_app_tails.specs.Duties.{Duty, go_on, keep}
use Rattle.fp_app_tails.specs.StuckAnswers.{stuck_from}
use Rattle.fp_app_tails.specs.Tails.{DayInstance, KeptInstance, day_told, kept_told, tells_day}
use Rattle.fp_app_tails.specs.Verdicts.{begins_stuck}

abbrev Records : Type 0
Records = List (List (List ℕ))

either-of : (b : Bool) (X Y V W : Type 0) → (X → V) → (Y → W) → MatchBool b X Y → MatchBool b V W
either-of true X Y V W first second x = first x
either-of false X Y V W first second y = second y

read-of : {A : Type 0} (r : Result A Fault) (X Y : A → Type 0) (F G : Fault → Type 0) → ((x : A) → X x → Y x) → ((f : Fault) → F f → G f) → MatchResult r X F → MatchResult r Y G
read-of (Ok x) X Y F G each fault told = each x told
read-of (Err f) X Y F G each fault told = fault f told

module _ (N M : Type 0) (F G : ℕ → ℕ → Type 0) (P Q : Problem → Duty → Statement → Type 0) (none : N → M) (fault : (ordinal code : ℕ) → F ordinal code → G ordinal code) (each : (p : Problem) (duty : Duty) (c : Statement) → P p duty c → Q p duty c) where
  each-fault : (f : Fault) → F f.ordinal f.code → G f.ordinal f.code
  each-fault f told = fault f.ordinal f.code told

  wanted-of : (p : Problem) (duty : Duty) (X Y : Type 0) → (X → Y) → OfWanted N F P p duty X → OfWanted M G Q p duty Y
  wanted-of p duty X Y one (inl told) = inl (told.0, none told.1)
  wanted-of p duty X Y one (inr told) = inr (told.0, one told.1)

  scaled-of : (p : Problem) (duty : Duty) (n : Option ℕ) (c : Statement) → OfScaled N F P p duty n c → OfScaled M G Q p duty n c
  scaled-of p duty n c told =
      either-of (fits n p) (OfWanted N F P (at_scale n p) duty (P (at_scale n p) duty c)) (F 0 12) (OfWanted M G Q (at_scale n p) duty (Q (at_scale n p) duty c)) (G 0 12)
      (wanted-of (at_scale n p) duty (P (at_scale n p) duty c) (Q (at_scale n p) duty c) (each (at_scale n p) duty c)) (fault 0 12) told

  certificate-of : (p : Problem) (duty : Duty) (n : Scale) (read : Result Statement Fault) → OfRead N F P p duty n read → OfRead M G Q p duty n read
  certificate-of p duty n read told =
      read-of read (λ c. OfScaled N F P p duty (scale_by n c) c) (λ c. OfScaled M G Q p duty (scale_by n c) c) (λ (f : Fault). F f.ordinal f.code) (λ (f : Fault). G f.ordinal f.code) (λ c. scaled-of p duty (scale_by n c) c) each-fault told

  named-of : (named : Result ℕ Fault) → OfNamed N F P named → OfNamed M G Q named
  named-of named told = read-of named (λ k. N) (λ k. M) (λ (f : Fault). F f.ordinal f.code) (λ (f : Fault). G f.ordinal f.code) (λ k. none) each-fault told

  ahead-of : (p : Problem) (duty : Duty) (n : Scale) (place : ℕ) (records : Records) → OfAnswerAhead N F P p duty n place records → OfAnswerAhead M G Q p duty n place records
  ahead-of p duty n place records told =
      let named = stuck_from p (place + 1) (drop place records) in
      let read = certificate_of (ahead_problem p duty) (place + 1) (drop place records) in
      either-of (begins_stuck (drop place records)) (OfNamed N F P named) (OfWanted N F P p duty (OfRead N F P p duty n read)) (OfNamed M G Q named) (OfWanted M G Q p duty (OfRead M G Q p duty n read))
      (named-of named) (wanted-of p duty (OfRead N F P p duty n read) (OfRead M G Q p duty n read) (certificate-of p duty n read)) told

  pub answer-of : (n : Scale) (place : ℕ) (records : Records) → OfAnswer N F P n place records → OfAnswer M G Q n place records
  answer-of n place records told =
      either-of (tells_day (take place records))
      (MatchResult (day_told (take place records)) (λ (x : DayInstance). OfAnswerAhead N F P x.instance (go_on x.day) n place records) (λ (f : Fault). F f.ordinal f.code))
      (MatchResult (kept_told (take place records)) (λ (x : KeptInstance). OfAnswerAhead N F P x.instance (keep x.kept) n place records) (λ (f : Fault). F f.ordinal f.code))
      (MatchResult (day_told (take place records)) (λ (x : DayInstance). OfAnswerAhead M G Q x.instance (go_on x.day) n place records) (λ (f : Fault). G f.ordinal f.code))
      (MatchResult (kept_told (take place records)) (λ (x : KeptInstance). OfAnswerAhead M G Q x.instance (keep x.kept) n place records) (λ (f : Fault). G f.ordinal f.code))
      (read-of (day_told (take place records)) (λ (x : DayInstance). OfAnswerAhead N F P x.instance (go_on x.day) n place records) (λ (x : DayInstance). OfAnswerAhead M G Q x.instance (go_on x.day) n place records)
      (λ (f : Fault). F f.ordinal f.code) (λ (f : Fault). G f.ordinal f.code) (λ (x : DayInstance). ahead-of x.instance (go_on x.day) n place records) each-fault)
      (read-of (kept_told (take place records)) (λ (x : KeptInstance). OfAnswerAhead N F P x.instance (keep x.kept) n place records) (λ (x : KeptInstance). OfAnswerAhead M G Q x.instance (keep x.kept) n place records)
      (λ (f : Fault). F f.ordinal f.code) (λ (f : Fault). G f.ordinal f.code) (λ (x : KeptInstance). ahead-of x.instance (keep x.kept) n place records) each-fault) told

-- and what follows of each part follows
module _ (N : Type 0) (F : ℕ → ℕ → Type 0) (P : Problem → Duty → Statement → Type 0) (X : Type 0) (none : N → X) (fault : (ordinal code : ℕ) → F ordinal code → X) (each : (p : Problem) (duty : Duty) (c : Statement) → P p duty c → X) where
  both-give : (b : Bool) (Y Z : Type 0) → (Y → X) → (Z → X) → MatchBool b Y Z → X
  both-give true Y Z first second y = first y
  both-give false Y Z first second z = second z

  read-gives : {A : Type 0} (r : Result A Fault) (Y : A → Type 0) → ((x : A) → Y x → X) → MatchResult r Y (λ (f : Fault). F f.ordinal f.code) → X
  read-gives (Ok x) Y one told = one x told
  read-gives (Err f) Y one told = fault f.ordinal f.code told

  wanted-gives : (p : Problem) (duty : Duty) (Y : Type 0) → (Y → X) → OfWanted N F P p duty Y → X
  wanted-gives p duty Y one (inl told) = none told.1
  wanted-gives p duty Y one (inr told) = one told.1

  scaled-gives : (p : Problem) (duty : Duty) (n : Option ℕ) (c : Statement) → OfScaled N F P p duty n c → X
  scaled-gives p duty n c told =
      both-give (fits n p) (OfWanted N F P (at_scale n p) duty (P (at_scale n p) duty c)) (F 0 12) (wanted-gives (at_scale n p) duty (P (at_scale n p) duty c) (each (at_scale n p) duty c)) (fault 0 12) told

  ahead-gives : (p : Problem) (duty : Duty) (n : Scale) (place : ℕ) (records : Records) → OfAnswerAhead N F P p duty n place records → X
  ahead-gives p duty n place records told =
      let named = stuck_from p (place + 1) (drop place records) in
      let read = certificate_of (ahead_problem p duty) (place + 1) (drop place records) in
      both-give (begins_stuck (drop place records)) (OfNamed N F P named) (OfWanted N F P p duty (OfRead N F P p duty n read)) (read-gives named (λ k. N) (λ k. none))
      (wanted-gives p duty (OfRead N F P p duty n read) (read-gives read (λ c. OfScaled N F P p duty (scale_by n c) c) (λ c. scaled-gives p duty (scale_by n c) c))) told

  pub answer-gives : (n : Scale) (place : ℕ) (records : Records) → OfAnswer N F P n place records → X
  answer-gives n place records told =
      both-give (tells_day (take place records))
      (MatchResult (day_told (take place records)) (λ (x : DayInstance). OfAnswerAhead N F P x.instance (go_on x.day) n place records) (λ (f : Fault). F f.ordinal f.code))
      (MatchResult (kept_told (take place records)) (λ (x : KeptInstance). OfAnswerAhead N F P x.instance (keep x.kept) n place records) (λ (f : Fault). F f.ordinal f.code))
      (read-gives (day_told (take place records)) (λ (x : DayInstance). OfAnswerAhead N F P x.instance (go_on x.day) n place records) (λ (x : DayInstance). ahead-gives x.instance (go_on x.day) n place records))
      (read-gives (kept_told (take place records)) (λ (x : KeptInstance). OfAnswerAhead N F P x.instance (keep x.kept) n place records) (λ (x : KeptInstance). ahead-gives x.instance (keep x.kept) n place records)) told
