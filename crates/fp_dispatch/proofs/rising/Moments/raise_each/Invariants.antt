use Rattle.std.proofs.Common.{◌≡◌, ℕ, ◌<◌, ◌≤◌, drop, get_or, length}
use Rattle.std.specs.Prelude.{IsSomeAnd}
use Rattle.fp_model.specs.declared.parts.Member.{Member}
use Rattle.fp_flatnet.specs.Tables.{windows_in}
use Rattle.fp_dispatch.specs.Rising.{raised, state_of}
use Rattle.fp_dispatch.specs.Times.{window_of}
use Rattle.fp_dispatch.proofs.rising.Moments.raise_each.Given as goal

-- the legs that are left make the state that it will be, and those so far can leave at the moment
abbrev pub invariant-loop-leg : goal.invariant-loop-leg
invariant-loop-leg l = record {
  values : length l.self.values.items ≡ length l.fn.self.values.items;
  waits : length l.self.waits.items ≡ length l.fn.self.waits.items;
  rest : raised l.task.numbers.width (drop l.leg-index l.legs) l.to (state_of l.self) ≡ raised l.task.numbers.width l.legs l.to (state_of l.fn.self);
  fits : (k : ℕ) (d : Member) → k < l.leg-index →
      IsSomeAnd (window_of (windows_in l.task.table) l.task.routes (get_or l.legs k d)) (λ w. l.to ≤ w.hi);
}
