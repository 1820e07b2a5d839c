-- What the last step of reading answers, for all lines.
use Rattle.std.proofs.Common.{◌≡◌, ◌∙◌, ℕ, ◌+◌, ◌-◌, ◌^◌, ◌<◌, ◌≤◌, List, length, take, drop, sym, ap, arith}
use Rattle.std.specs.Prelude.{All, Result, Ok, Err, IfOk, MatchResult}
use Rattle.std.proofs.lemmas.List.{length-drop, take_rest}
use Rattle.fp_model.specs.Problem.{Problem}
use Rattle.fp_prices.specs.Tables.{AreCountable}
use Rattle.fp_prices_spans.specs.Spans.{ClassSpan}
use Rattle.fp_records_fields.specs.Faults.{Fault}
use Rattle.fp_certificate.specs.declared.drafts.Draft.{Draft}
use Rattle.fp_certificate.specs.declared.faults.CertFault.{CertFault}
use Rattle.fp_certificate.specs.declared.faults.CertFault.TheVariants.{Bad, NoMemory}
use Rattle.fp_certificate.specs.Outcomes.{IsFirst}
use Rattle.fp_certificate_lines.specs.Ranges.{IsInRange}
use Rattle.fp_certificate.specs.Reading.{certificate_from, certificate_of, finished, nothing_read}
use Rattle.fp_certificate_lines.specs.Statements.{Statement}
use Rattle.fp_certificate.proofs.Ranged.{read-ranged}

-- the lines from a place on give what the draft of all of them ends with
pub certificate_of-finished : (p q : Problem) (lines : List (List (List ℕ))) (from : ℕ) (d : Draft) → p ≡ q → from ≤ length lines
    → certificate_from p nothing_read (from + 1) (take (length lines - from) (drop from lines)) ≡ finished d (from + 1 + length (take (length lines - from) (drop from lines)))
    → certificate_of q (from + 1) (drop from lines) ≡ finished d (length lines + 1)
certificate_of-finished p q lines from d same within h =
    let past : from + 1 + length (drop from lines) ≡ length lines + 1 = omega (arith, length-drop from lines) in
    let all : certificate_from p nothing_read (from + 1) (drop from lines) ≡ finished d (from + 1 + length (drop from lines)) = rw (take_rest lines from) at h in
    ap (λ (r : Problem). certificate_of r (from + 1) (drop from lines)) (sym same) ∙ all ∙ ap (λ (n : ℕ). finished d n) past

-- a certificate that was read is what the records give
pub certificate_of-ok : (r : Result Statement CertFault) (end read : Result Statement Fault) → read ≡ end → MatchResult r (λ c. end ≡ Ok c) (λ e. IsFirst e end) → IfOk r (λ c. read ≡ Ok c)
certificate_of-ok (Ok c) end read same h = same ∙ h
certificate_of-ok (Err e) end read same h = tt

-- a fault that was told is that of the records
pub certificate_of-bad : (r : Result Statement CertFault) (end read : Result Statement Fault) → read ≡ end → MatchResult r (λ c. end ≡ Ok c) (λ e. IsFirst e end)
    → (ordinal code : ℕ) → r ≡ Err (Bad ordinal code) → read ≡ Err (record { ordinal = ordinal; code = code })
certificate_of-bad (Ok c) end read same h ordinal code is = cc is
certificate_of-bad (Err (Bad o k)) end read same h ordinal code is =
    let ordinals : o ≡ ordinal = cc is in
    let codes : k ≡ code = cc is in
    rw (← ordinals, ← codes) (same ∙ h)
certificate_of-bad (Err NoMemory) end read same h ordinal code is = cc is

-- it is in range, and its tables and the spans beside each can be counted
pub IsInRange-read : (p : Problem) (ordinal : ℕ) (records : List (List (List ℕ))) (r : Result Statement CertFault) → length records < 2 ^ 32 - 1
    → IfOk r (λ c. certificate_of p ordinal records ≡ Ok c) → IfOk r (IsInRange p)
IsInRange-read p ordinal records (Ok c) few h = (read-ranged p ordinal records c few h).range
IsInRange-read p ordinal records (Err e) few h = tt

pub AreCountable-read : (p : Problem) (ordinal : ℕ) (records : List (List (List ℕ))) (r : Result Statement CertFault) → length records < 2 ^ 32 - 1
    → IfOk r (λ c. certificate_of p ordinal records ≡ Ok c) → IfOk r (λ c. AreCountable p c.tables)
AreCountable-read p ordinal records (Ok c) few h = (read-ranged p ordinal records c few h).countable
AreCountable-read p ordinal records (Err e) few h = tt

pub few-spans-read : (p : Problem) (ordinal : ℕ) (records : List (List (List ℕ))) (r : Result Statement CertFault) → length records < 2 ^ 32 - 1
    → IfOk r (λ c. certificate_of p ordinal records ≡ Ok c) → IfOk r (λ c. All (λ (list : List ClassSpan). length list < 2 ^ 32 - 1) c.spans)
few-spans-read p ordinal records (Ok c) few h = (read-ranged p ordinal records c few h).few_spans
few-spans-read p ordinal records (Err e) few h = tt
