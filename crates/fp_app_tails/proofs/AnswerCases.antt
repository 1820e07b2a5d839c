-- What an answer gives, by what was found.
use Rattle.std.proofs.Common.{ℕ, ◌<◌, ◌^◌, arith, refl, sym, subst, inl, inr}
use Rattle.std.specs.Prelude.{IfSome, None, Option, Some}
use Rattle.std.proofs.lemmas.Bool.{lt-ltb}
use Rattle.fp_model.specs.Problem.{Problem, weight_at}
use Rattle.fp_flatnet.specs.Tables.{WindowTable}
use Rattle.fp_certificate_lines.specs.Ranges.{IsScaleInRange}
use Rattle.fp_certificate_lines.specs.Statements.{Statement}
use Rattle.fp_app_tails.specs.declared.ahead.Ahead.TheVariants as ahead
use Rattle.fp_app_tails.specs.declared.answers.Answered.{Answered}
use Rattle.fp_app_tails.specs.declared.answers.Answered.TheVariants as answered
use Rattle.fp_app_tails.specs.declared.answers.Scale.{Scale}
use Rattle.fp_app_tails.specs.declared.answers.Scale.TheVariants as scale
use Rattle.fp_app_tails.specs.Ahead.{IsAhead, ahead_problem}
use Rattle.fp_app_tails.specs.Answers.{CanBeAsked, IsScale, IsScaledOf, IsTestable, IsWantedOf, scale_by}
use Rattle.fp_app_tails.specs.Duties.{Duty}
use Rattle.fp_app_tails.specs.Verdicts.{CanBeTested, scale_of}
use Rattle.fp_app_tails.proofs.AheadCases.{open-belongs, open-goes, open-same, open-windows, stuck-at}

module _ (p : Problem) (duty : Duty) (c : Statement) where
  -- what is to be planned and its windows
  pub open-given : (q : Problem) (table : WindowTable) → IsAhead p duty (ahead.Open q table) → IsWantedOf p duty c (answered.Read q table c)
  open-given q table is = inr (open-goes p duty q table is, record { same = open-same p duty q table is; windows = open-windows p duty q table is; certificate = refl })

  pub open-testable : (q : Problem) (table : WindowTable) → IsAhead p duty (ahead.Open q table) → CanBeTested (ahead_problem p duty) c → IsTestable (answered.Read q table c)
  open-testable q table is can = (open-belongs p duty q table is, subst (λ (x : Problem). CanBeTested x c) (sym (open-same p duty q table is)) can)

  -- or that no plan is told
  pub stuck-given : (k : ℕ) → IsAhead p duty (ahead.Stuck k) → IsWantedOf p duty c answered.NoPlan
  stuck-given k is = inl ((stuck-at p duty k is).1, refl)

  -- at a scale that fits
  pub fits-given : (n : ℕ) (a : Answered) → weight_at n p.arcs p.shipments < 2 ^ 127 → IsWantedOf (record p { scale = n }) duty c a → IsScaledOf p duty (Some n) c a
  fits-given n a fits is = rw (lt-ltb (weight_at n p.arcs p.shipments) (2 ^ 127) fits) is

-- the scale that a certificate names is within its limits
named-within : (p : Problem) (o : Option ℕ) → IfSome o (IsScaleInRange p) → IsScale (scale_of o)
named-within p None is = (omega arith, omega arith)
named-within p (Some n) is = (is.least, is.most)

-- and so is the one that is asked for
pub scale-within : (p : Problem) (n : Scale) (c : Statement) → CanBeAsked n → CanBeTested p c → IfSome (scale_by n c) IsScale
scale-within p scale.Usual c asked can = tt
scale-within p scale.Named c asked can = named-within p c.scale can.0.scale
scale-within p (scale.Of n) c asked can = asked
