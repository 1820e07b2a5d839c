use Rattle.std.proofs.Common.{◌≡◌, ℕ, ◌+◌, ◌<◌, length, get_or}
use Rattle.std.specs.Prelude.{IsSomeAnd}
use Rattle.fp_flatnet.specs.Tables.{windows_in}
use Rattle.fp_dispatch.proofs.starting.start_route.Given as goal

-- the legs so far have windows, whose beginnings stand in the table
abbrev pub invariant-loop-leg : goal.invariant-loop-leg
invariant-loop-leg l = record {
  long : length l.values ≡ length l.initial.values;
  starts : (i : ℕ) → i < l.leg → IsSomeAnd (windows_in l.windows l.shipment (get_or l.route i 0)) (λ w. get_or l.values (l.first + i) 0 ≡ w.lo);
  others : (x : ℕ) → x < l.first → get_or l.values x 0 ≡ get_or l.initial.values x 0;
}
