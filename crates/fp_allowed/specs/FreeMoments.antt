-- Of private functions: the moments at which a shipment can leave by one arc under sides.
use Rattle.std.specs.Prelude.{ℕ, ◌+◌, ◌<◌, ◌≤◌, ◌≡◌, true, List, [], length, Option, None, MatchOption, IsSomeAnd, cond, slice_index_or}
use Rattle.fp_base_lists.specs.Vectors.{lists_of}
use Rattle.fp_model.specs.Routes.{step}
use Rattle.fp_flatnet.specs.Belonging.{FitsInstance}
use Rattle.fp_flatnet.specs.declared.window_tables.Window.{Window}
use Rattle.fp_flatnet.specs.Tables.{windows_in}
use Rattle.fp_tree.specs.declared.sides.Side.{Side}
use Rattle.fp_allowed.specs.declared.free_moments.Asked.{Asked}
use Rattle.fp_allowed.specs.Allowed.{tails_of}
use Rattle.fp_allowed.specs.Moments.{all_let, is_barred}

-- the first moment of a kind, or that there is none
abbrev pub IsFirst : (ℕ → Type 0) → Option ℕ → Type 0
IsFirst P o = MatchOption o ((m : ℕ) → P m → ⊥) (λ first. P first × ((m : ℕ) → P m → first ≤ m))

-- the last moment of a kind, or that there is none
abbrev pub IsLast : (ℕ → Type 0) → Option ℕ → Type 0
IsLast P o = MatchOption o ((m : ℕ) → P m → ⊥) (λ last. P last × ((m : ℕ) → P m → m ≤ last))

-- a moment of a window at which all of the sides let a leg by the arc leave
pub record IsFree (w : Window) (arc : ℕ) (sides : List Side) (m : ℕ) : Type 0 where
  pub after : w.lo ≤ m
  pub before : m ≤ w.hi
  pub let_it : all_let arc m sides ≡ true

-- a free moment that is not before another
abbrev pub IsFreeFrom : Window → ℕ → List Side → ℕ → ℕ → Type 0
IsFreeFrom w arc sides at m = (at ≤ m) × IsFree w arc sides m

-- a free moment that is not after another
abbrev pub IsFreeUntil : Window → ℕ → List Side → ℕ → ℕ → Type 0
IsFreeUntil w arc sides until m = (m ≤ until) × IsFree w arc sides m

-- the shipment exists, the windows fit the instance, and each terminal has its list of sides
pub record IsAsked (q : Asked) : Type 0 where
  pub shipment : q.shipment < length q.instance.now.shipments
  pub fits : FitsInstance q.instance.now q.windows.now
  pub one_each : length q.by_terminal.now ≡ length q.instance.now.terminals

-- the sides that restrict the shipment's departures from an arc's tail
abbrev pub own_sides : Asked → ℕ → List Side
own_sides q a = slice_index_or (lists_of q.by_terminal.now) (tails_of q.instance.now a) []

-- the shipment's window for an arc, if it has one and no side bars the arc for it
abbrev pub open_window : Asked → ℕ → Option Window
open_window q a = cond (is_barred q.instance.now q.shipment a q.through.now) None (windows_in q.windows.now q.shipment a)

-- the shipment can leave by the arc at the moment m
abbrev pub CanLeave : Asked → ℕ → ℕ → Type 0
CanLeave q a m = IsSomeAnd (open_window q a) (λ w. IsFree w a (own_sides q a) m)

-- it can, where it is ready at the arc's tail from some moment on, if it can be there
abbrev pub LeavesFrom : Asked → ℕ → Option ℕ → ℕ → Type 0
LeavesFrom q a ready m = IsSomeAnd ready (λ r. r ≤ m) × CanLeave q a m

-- it can, where it has to be ready at the arc's head at some moment or before it, if it can go on from there
abbrev pub LeavesInTime : Asked → ℕ → Option ℕ → ℕ → Type 0
LeavesInTime q a until m = IsSomeAnd until (λ u. m + step q.instance.now a ≤ u) × CanLeave q a m
