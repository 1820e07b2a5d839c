-- A certificate isn't both accepted and rejected.
use Rattle.std.proofs.Common.{◌≡◌, ℕ, [], refl, subst}
use Rattle.std.specs.Prelude.{Option, None, Some}
use Rattle.fp_model.specs.Problem.{Problem}
use Rattle.fp_flatnet.specs.Belonging.{BelongsTo}
use Rattle.fp_flatnet.specs.Tables.{WindowTable, windows_in}
use Rattle.fp_flatnet.specs.Windows.{AreWindows}
use Rattle.fp_certificate_lines.specs.Statements.{Statement}
use Rattle.fp_certificate_rules.specs.Accepted.{IsAccepted}
use Rattle.fp_checker.specs.Rejections.{IsFirstFailed}
use Rattle.fp_app.specs.Checks.{AreWindowsOf, IsAcceptedFor, IsCheckOutcome, ShowsRejected}
use Rattle.fp_app.proofs.OneTable.{AreWindowsOf_unique}

-- where a part fails under the windows of the instance, the certificate isn't accepted
pub IsFirstFailed-not_accepted : (p : Problem) (table : WindowTable) (c : Statement) (number : ℕ) → AreWindowsOf p table → IsFirstFailed p table c number → IsAcceptedFor p c → ⊥
IsFirstFailed-not_accepted p table c number windows first told =
    let same : told.table ≡ table = AreWindowsOf_unique p told.table table told.windows windows in
    let here : IsAccepted p table c = subst (λ (t : WindowTable). IsAccepted p t c) same told.accepted in
    first.fails (here first.part first.applies)

-- what a check says of a certificate whose first failing part was found under the windows of the instance
pub IsFirstFailed-ShowsRejected : (p : Problem) (table : WindowTable) (c : Statement) (number : ℕ) →
    AreWindows p (windows_in table) → table.anchors ≡ [] → BelongsTo p table → IsFirstFailed p table c number → ShowsRejected p c number
IsFirstFailed-ShowsRejected p table c number exact unanchored belongs first =
    let windows : AreWindowsOf p table = record { exact = exact; unanchored = unanchored; belongs = belongs } in
    record { table = table; windows = windows; first = first; rejected = IsFirstFailed-not_accepted p table c number windows first }

-- of an accepted certificate a check says that it is
pub IsCheckOutcome_accepted : (p : Problem) (c : Statement) (failed : Option ℕ) → IsCheckOutcome p c failed → IsAcceptedFor p c → failed ≡ None
IsCheckOutcome_accepted p c None is accepted = refl
IsCheckOutcome_accepted p c (Some number) is accepted = absurd (is.rejected accepted)
