-- What is noted is what a search has in hand, or a bound that was noted before.
use Rattle.std.proofs.Common.{◌≡◌, ◌∙◌, ℕ, inl, inr, sym, subst}
use Rattle.std.specs.Prelude.{◌⊎◌, IfSome, IsSomeAnd, None, Option, Some}
use Rattle.fp_flatnet.specs.Tables.{windows_in}
use Rattle.fp_certificate_rules.specs.Claims.{NoPlanWithinCheaper}
use Rattle.fp_app.specs.declared.notes.Figures.{Figures}
use Rattle.fp_app.proofs.notes.look.Goals as goal

-- what holds of a bound that is one of two
one-of : (P : ℕ → Type 0) (before : Option Figures) (bound seen : ℕ) → P seen → IfSome before (λ (l : Figures). P l.bound) → (bound ≡ seen) ⊎ IsSomeAnd before (λ (l : Figures). bound ≡ l.bound) → P bound
one-of P before bound seen now known (inl same) = subst P (sym same) now
one-of P None bound seen now known (inr same) = absurd same
one-of P (Some l) bound seen now known (inr same) = subst P (sym same) known

pub told-requires-clause-note : goal.told-requires-clause-note
told-requires-clause-note g c = record {
  plan = c.progress.ensures.plan;
  within = c.progress.ensures.within;
  cost = c.in-Some.ensures.same.2 ∙ c.progress.ensures.cost;
  bound = one-of (NoPlanWithinCheaper c.args.session.now.instance (windows_in c.args.session.now.windows)) c.args.before.last c.in-Some.seen.bound c.progress.result.bound c.progress.ensures.bound
      c.requires.known c.in-Some.ensures.bound;
}
