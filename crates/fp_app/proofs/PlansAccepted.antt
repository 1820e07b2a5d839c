-- `check` accepts what `plan` prints.
use Rattle.std.proofs.Common.{◌≡◌, ◌∙◌, ℕ, ◌+◌, false, List, ◌++◌, length, drop, take, ltb, refl, sym, ap, subst, inl, inr, arith}
use Rattle.std.specs.Prelude.{MatchResult, Result, Ok, Err}
use Rattle.std.proofs.Math.Seq.{drop-append_seam, take-append_seam}
use Rattle.std.proofs.lemmas.Bool.{cases_Bool, ltb-true}
use Rattle.fp_app_tails.specs.Tails.{has_tail, unkept_records}
use Rattle.fp_model.specs.Problem.{Problem}
use Rattle.fp_records.specs.Fields.{records_of}
use Rattle.fp_records_fields.specs.Faults.{Fault}
use Rattle.fp_flatnet.specs.Tables.{WindowTable}
use Rattle.fp_reader.specs.Input.{parts_from, weighed_parts}
use Rattle.fp_reader.specs.Parts.{nothing_read as no_parts}
use Rattle.fp_certificate.specs.Reading.{certificate_of, nothing_read}
use Rattle.fp_certificate_lines.specs.Statements.{Statement}
use Rattle.fp_app_words.specs.declared.orders.Order.TheVariants as order
use Rattle.fp_app.specs.declared.shown.Status.{Status}
use Rattle.fp_app.specs.declared.shown.Status.TheVariants as status
use Rattle.fp_app.specs.Causes.{CheckStatus, InputStatus}
use Rattle.fp_app.specs.Checks.{AreWindowsOf, IsAcceptedFor}
use Rattle.fp_app_tails.specs.Verdicts.{scale_of, scaled}
use Rattle.fp_app.specs.Inputs.{certificate_in, has_tail_in, instance_in, leading_instance_in, read_at_scale}
use Rattle.fp_app.specs.Laws.{CheckAcceptsPlans}
use Rattle.fp_app.specs.Texts.{certificate_text}
use Rattle.fp_app.specs.Wanted.{AreWindowsFor, LooksForAll, Wanted, every, every_from, going_on, going_on_from, keeping, keeping_from}
use Rattle.fp_app.proofs.AnswerRecords.{BeginsWithAnswer, certificate-begins, unkept-whole}
use Rattle.fp_app.proofs.NoAnswers.{Records, before_answer, instance-no_answer, none-before_answer}
use Rattle.fp_app.proofs.CertificateScales.{certificate-scale, scale_of-named}
use Rattle.fp_app.proofs.CertifiedInputs.{at_scale-is}

-- an instance at a scale is one that was read, with that scale
record IsRead (scale : ℕ) (r : Result Problem Fault) (p : Problem) : Type 0 where
  pub instance : Problem
  pub read : r ≡ Ok instance
  pub at : p ≡ record instance { scale = scale }

instance-read : (scale : ℕ) (r : Result Problem Fault) (p : Problem) → read_at_scale scale r ≡ Ok p → IsRead scale r p
instance-read scale (Ok q) p is = record { instance = q; read = refl; at = at_scale-is scale p q is }
instance-read scale (Err f) p is = cc is

-- the parts were read of an instance that was
record HasParts (r : Result Problem Fault) : Type 0 where
  pub parts : Problem
  pub read : r ≡ Ok parts

weighed-parts : (r : Result Problem Fault) (p : Problem) → weighed_parts r ≡ Ok p → HasParts r
weighed-parts (Ok q) p is = record { parts = q; read = refl }
weighed-parts (Err f) p is = cc is

-- no number is below itself
ltb-same : (n : ℕ) → ltb n n ≡ false
ltb-same n =
    elim (cases_Bool (ltb n n)) [
      | inl less ↦ let g = ltb-true n n less in absurd (omega (arith, g))
      | inr same ↦ same
    ]

-- what was accepted is done
accepted-done : (p : Problem) (c : Statement) (result : Status) → IsAcceptedFor p c → CheckStatus p c result → result ≡ status.Done
accepted-done p c result accepted (inl done) = done.0
accepted-done p c result accepted (inr rejected) = absurd (rejected.1 accepted)

-- an instance and the records of a certificate that begin with an answer
module _ (q : Problem) (input longer : List ℕ) (more : Records) (c : Statement) (read : instance_in input ≡ Ok q) (joined : records_of longer ≡ records_of input ++ more)
    (given : (ordinal : ℕ) → certificate_of q ordinal more ≡ Ok c) where
  leading : before_answer (records_of input ++ more) ≡ records_of input
  leading =
      let parts : HasParts (parts_from no_parts 1 (records_of input)) = weighed-parts (parts_from no_parts 1 (records_of input)) q read in
      let begins : BeginsWithAnswer more = certificate-begins q 1 more c (given 1) in
      subst (λ (lines : Records). before_answer (records_of input ++ lines) ≡ records_of input) (sym begins.is)
      (none-before_answer (records_of input) (instance-no_answer no_parts 1 (records_of input) parts.parts parts.read) begins.first begins.rest begins.answer)

  same-instance : leading_instance_in longer ≡ Ok q
  same-instance =
      ap (λ (lines : Records). weighed_parts (parts_from no_parts 1 (before_answer lines))) joined
      ∙ ap (λ (lines : Records). weighed_parts (parts_from no_parts 1 lines)) leading
      ∙ read

  same-certificate : certificate_in q longer ≡ Ok c
  same-certificate =
      ap (λ (lines : Records). certificate_of q (length (before_answer lines) + 1) (drop (length (before_answer lines)) lines)) joined
      ∙ ap (λ (lines : Records). certificate_of q (length lines + 1) (drop (length lines) (records_of input ++ more))) leading
      ∙ ap (λ (lines : Records). certificate_of q (length (records_of input) + 1) lines) (drop-append_seam (records_of input) more)
      ∙ given (length (records_of input) + 1)

  -- nothing is told after the instance
  alone : has_tail_in longer ≡ false
  alone =
      let parts : HasParts (parts_from no_parts 1 (records_of input)) = weighed-parts (parts_from no_parts 1 (records_of input)) q read in
      let whole : unkept_records (records_of input) ≡ records_of input = unkept-whole no_parts 1 (records_of input) parts.parts parts.read in
      let none : has_tail (records_of input) ≡ false = ap (λ (lines : Records). ltb (length lines) (length (records_of input))) whole ∙ ltb-same (length (records_of input)) in
      ap (λ (lines : Records). has_tail (take (length (before_answer lines)) lines)) joined
      ∙ ap (λ (lines : Records). has_tail (take (length lines) (records_of input ++ more))) leading
      ∙ ap has_tail (take-append_seam (records_of input) more)
      ∙ none

  status-check : (result : Status) → InputStatus false order.Check longer result → CheckStatus (scaled q c) c result
  status-check result is =
      let of = rw alone at is in
      let first = subst
      (λ (r : Result Problem Fault). MatchResult r (λ p. MatchResult (certificate_in p longer) (λ d. CheckStatus (scaled p d) d result) (λ (f : Fault). result ≡ status.BadInput)) (λ (f : Fault). result ≡ status.BadInput))
      same-instance of in
      subst (λ (r : Result Statement Fault). MatchResult r (λ d. CheckStatus (scaled q d) d result) (λ (f : Fault). result ≡ status.BadInput)) same-certificate first

-- the windows of a search for all plans are those of the instance
all-windows : (p : Problem) (wanted : Wanted) (table : WindowTable) → LooksForAll wanted → AreWindowsFor p wanted table → AreWindowsOf p table
all-windows p every table all windows = windows
all-windows p (every_from plan) table all windows = windows
all-windows p (keeping kept) table all windows = absurd all
all-windows p (keeping_from kept plan) table all windows = absurd all
all-windows q (going_on p day) table all windows = absurd all
all-windows q (going_on_from p day plan) table all windows = absurd all

pub CheckAcceptsPlans_hold : CheckAcceptsPlans
CheckAcceptsPlans_hold allowed wanted scale input longer p s all read searched joined result is =
    let source : IsRead scale (instance_in input) p = instance-read scale (instance_in input) p read in
    let q : Problem = source.instance in
    let given : (ordinal : ℕ) → certificate_of q ordinal (records_of (certificate_text p s.certificate)) ≡ Ok s.certificate =
    λ ordinal. sym (certificate-scale q scale nothing_read ordinal (records_of (certificate_text p s.certificate)))
    ∙ ap (λ (x : Problem). certificate_of x ordinal (records_of (certificate_text p s.certificate))) (sym source.at)
    ∙ searched.back ordinal in
    let own : scale_of s.certificate.scale ≡ scale = ap scale_of searched.scale ∙ scale_of-named p.scale ∙ ap (λ (x : Problem). x.scale) source.at in
    let same : p ≡ scaled q s.certificate = source.at ∙ ap (λ (n : ℕ). record q { scale = n }) (sym own) in
    accepted-done (scaled q s.certificate) s.certificate result
    (subst (λ (x : Problem). IsAcceptedFor x s.certificate) same (record { table = searched.table; windows = all-windows p wanted searched.table all searched.windows; accepted = searched.accepted }))
    (status-check q input longer (records_of (certificate_text p s.certificate)) s.certificate source.read joined given result is)
