-- Whether all shipments can arrive in time, and if not, which is the first that cannot.
use Rattle.std.specs.Prelude.{ℕ, ◌+◌, ◌≤◌, ◌<◌, length, All, Option, IfSome}
use Rattle.fp_flatnet.specs.declared.verdicts.Verdict.{Verdict}
use Rattle.fp_flatnet.specs.declared.verdicts.Verdict.TheVariants as verdict
use Rattle.fp_model.specs.declared.parts.Shipment.{Shipment}
use Rattle.fp_model.specs.Numbered.{shipment_at}
use Rattle.fp_model.specs.Problem.{Problem}
use Rattle.fp_model.specs.Times.{IsLeastTime, IsFastest}

-- a shipment that leaves at its release by a walk of least time arrives by its due time
abbrev pub IsInTime : Problem → Shipment → Type 0
IsInTime p s = (t : ℕ) × IsLeastTime p s.from s.to t × (s.release + t ≤ s.due)

-- each shipment is in time
abbrev pub AllInTime : Problem → Type 0
AllInTime p = All (IsInTime p) p.shipments

-- the first shipment that is not in time has the number k and the fastest time o, which is missing
-- or too long
pub record IsBlocked (p : Problem) (k : ℕ) (o : Option ℕ) : Type 0 where
  pub exists : k < length p.shipments
  pub earlier : (i : ℕ) → i < k → IsInTime p (shipment_at p i)
  pub fastest : IsFastest p (shipment_at p k) o
  pub late : IfSome o (λ t. (shipment_at p k).due < (shipment_at p k).release + t)

-- what a verdict says: all shipments are in time, or which is the first that is not, with its
-- fastest time
abbrev pub IsVerdict : Problem → Verdict → Type 0
IsVerdict p verdict.All = AllInTime p
IsVerdict p (verdict.Blocked k o) = IsBlocked p k o
