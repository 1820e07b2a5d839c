-- A search that ended for want of time did so by what is known later.
use Rattle.std.proofs.Common.{◌≡◌, ℕ, ◌≤◌, Bool, true}
use Rattle.std.specs.Prelude.{Option, None, Some, IfSome}
use Rattle.fp_ends.specs.Deadlines.{has_shown}
use Rattle.fp_ends.proofs.Deadlines.{has_shown-later}
use Rattle.fp_session_history.specs.declared.endings.Left.{Left}
use Rattle.fp_session_history.specs.declared.endings.Left.TheVariants as left
use Rattle.fp_session_history.specs.Solutions.{IsTimely}

-- what was timely is so where more is known to be over
IsTimely-more : (over over' : Bool) (what : Left) → (over ≡ true → over' ≡ true) → IsTimely over what → IsTimely over' what
IsTimely-more over over' left.Nothing more is = tt
IsTimely-more over over' (left.Timing leaf relaxed) more is = tt
IsTimely-more over over' (left.Several leaf shipment) more is = tt
IsTimely-more over over' (left.Unsettled leaf) more is = more is

-- what a search ended with is timely by what is known later, and from earlier on
pub timely-later : (seconds : Option ℕ) (m m' b b' n n' : ℕ) (what : Option Left) → m ≤ m' → b' ≤ b → n ≤ n' → IfSome what (IsTimely (has_shown seconds m b n)) →
    IfSome what (IsTimely (has_shown seconds m' b' n'))
timely-later seconds m m' b b' n n' None later before now is = is
timely-later seconds m m' b b' n n' (Some what) later before now is =
    IsTimely-more (has_shown seconds m b n) (has_shown seconds m' b' n') what (has_shown-later seconds m b n m' b' n' later before now) is

-- nothing is left where a search goes on
pub timely-none : (over : Bool) (what : Option Left) → what ≡ None → IfSome what (IsTimely over)
timely-none over what none = rw none tt
