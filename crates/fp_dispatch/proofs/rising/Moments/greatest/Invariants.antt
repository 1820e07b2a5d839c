use Rattle.std.proofs.Common.{◌≡◌, ◌⊎◌, ℕ, ◌<◌, ◌≤◌, get_or}
use Rattle.std.specs.Prelude.{Contains}
use Rattle.fp_model.specs.declared.parts.Member.{Member}
use Rattle.fp_dispatch.specs.Rising.{value_at}
use Rattle.fp_dispatch.proofs.rising.Moments.greatest.Given as goal

-- the greatest moment of the legs so far
abbrev pub invariant-loop-leg : goal.invariant-loop-leg
invariant-loop-leg l = record {
  most : (k : ℕ) (d : Member) → k < l.leg-index → value_at l.width l.self.values.items (get_or l.legs k d) ≤ l.most;
  one : (l.most ≡ 0) ⊎ ((m : Member) × Contains l.legs m × (value_at l.width l.self.values.items m ≡ l.most));
}
