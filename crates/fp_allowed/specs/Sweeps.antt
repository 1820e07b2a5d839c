-- Of private functions: for each terminal the earliest moment at which a shipment can be ready to leave it, and the
-- latest one from which it can go on to its destination, as they are bettered arc by arc.
use Rattle.std.specs.Prelude.{ℕ, ◌+◌, ◌-◌, ◌<◌, ◌≤◌, ◌≡◌, Bool, List, length, Option, Some, None, MatchBool, MatchOption, IfSome, IsSomeAnd, Contains, sum_by, slice_index_or, slice_set}
use Rattle.std.specs.List.{AllByRecursion}
use Rattle.fp_model.specs.declared.parts.Leg.{Leg}
use Rattle.fp_model.specs.declared.parts.Shipment.{Shipment}
use Rattle.fp_model.specs.Numbered.{shipment_at}
use Rattle.fp_model.specs.Problem.{arc_at}
use Rattle.fp_model.specs.Routes.{Leads, LeavesReady, arcs_of, step}
use Rattle.fp_flatnet.specs.declared.window_tables.Window.{Window}
use Rattle.fp_allowed.specs.declared.free_moments.Asked.{Asked}
use Rattle.fp_allowed.specs.FreeMoments.{CanLeave, IsFirst, IsLast, LeavesFrom, LeavesInTime}

-- the shipment that is asked for
abbrev pub asked_for : Asked → Shipment
asked_for q = shipment_at q.instance.now q.shipment

-- legs by which it can leave, from a terminal at which it is ready at a moment on to its destination
pub record IsOnward (q : Asked) (here at : ℕ) (legs : List Leg) : Type 0 where
  pub leads : Leads q.instance.now here (arcs_of legs) (asked_for q).to
  pub ready : LeavesReady q.instance.now 1 at legs
  pub can : AllByRecursion (λ (l : Leg). CanLeave q l.arc l.depart) legs

-- some legs lead on so
pub record GoesOn (q : Asked) (here at : ℕ) : Type 0 where
  pub legs : List Leg
  pub onward : IsOnward q here at legs

-- legs from the origin on that have each of some others
pub record HasAll (q : Asked) (some : List Leg) : Type 0 where
  pub legs : List Leg
  pub onward : IsOnward q (asked_for q).from (asked_for q).release legs
  pub has : (l : Leg) → Contains some l → Contains legs l

-- the shipment can be ready at a terminal at a moment: whatever legs lead on from there, some from the origin have them
abbrev pub CanBeReady : Asked → ℕ → ℕ → Type 0
CanBeReady q here at = (legs : List Leg) → IsOnward q here at legs → HasAll q legs

-- the value of a terminal in a list, if it has one
abbrev pub value_at : List (Option ℕ) → ℕ → Option ℕ
value_at list t = slice_index_or list t None

-- for each terminal a moment at which the shipment can be ready to leave it, or none; at the origin not after the release
pub record AreReady (q : Asked) (earliest : List (Option ℕ)) : Type 0 where
  pub one_each : length earliest ≡ length q.instance.now.terminals
  pub release : IsSomeAnd (value_at earliest (asked_for q).from) (λ r. r ≤ (asked_for q).release)
  pub ready : (t : ℕ) → IfSome (value_at earliest t) (CanBeReady q t)

-- for each terminal a moment from which it can go on, or none; at the destination the greatest number
pub record AreOnward (q : Asked) (latest : List (Option ℕ)) : Type 0 where
  pub one_each : length latest ≡ length q.instance.now.terminals
  pub there : IsSomeAnd (value_at latest (asked_for q).to) (λ u. 4294967295 ≤ u)
  pub onward : (t : ℕ) → IfSome (value_at latest t) (GoesOn q t)

-- a leg by the arc betters no earliest moment
abbrev pub IsStableFrom : Asked → List (Option ℕ) → ℕ → Type 0
IsStableFrom q earliest a =
    (m : ℕ) → LeavesFrom q a (value_at earliest (arc_at q.instance.now a).from) m → IsSomeAnd (value_at earliest (arc_at q.instance.now a).to) (λ r. r ≤ m + step q.instance.now a)

-- a leg by the arc betters no latest moment
abbrev pub IsStableTo : Asked → List (Option ℕ) → ℕ → Type 0
IsStableTo q latest a =
    (m : ℕ) → LeavesInTime q a (value_at latest (arc_at q.instance.now a).to) m → IsSomeAnd (value_at latest (arc_at q.instance.now a).from) (λ u. m ≤ u)

-- what is still to be taken off an earliest moment, at most
abbrev pub left_below : Option ℕ → ℕ
left_below None = 4294967296
left_below (Some m) = m

-- what is still to be put on a latest moment, at most
abbrev pub left_above : Option ℕ → ℕ
left_above None = 4294967296
left_above (Some m) = 4294967295 - m

-- values that become others: they stay good, and either less is left in all, or they are the same and stable
pub record Betters (Good : List (Option ℕ) → Type 0) (left : Option ℕ → ℕ) (Stable : List (Option ℕ) → Type 0) (old new : List (Option ℕ)) (changed : Bool) : Type 0 where
  pub good : Good old → Good new
  pub less : MatchBool changed (sum_by left new < sum_by left old) ((new ≡ old) × Stable old)

-- all arcs with numbers below another are stable
abbrev pub AllBelow : (List (Option ℕ) → ℕ → Type 0) → ℕ → List (Option ℕ) → Type 0
AllBelow Stable n values = (a : ℕ) → a < n → Stable values a

-- one value is set where less is left then, or none where it already is so far
abbrev pub IsSet : (Option ℕ → ℕ → Type 0) → List (Option ℕ) → ℕ → ℕ → List (Option ℕ) → Bool → Type 0
IsSet IsSoFar old t to new changed =
    MatchBool changed ((new ≡ slice_set old t (Some to)) × (IsSoFar (value_at old t) to → ⊥)) ((new ≡ old) × IsSoFar (value_at old t) to)

-- a value is there and at most another
abbrev pub IsAtMost : Option ℕ → ℕ → Type 0
IsAtMost o to = IsSomeAnd o (λ v. v ≤ to)

-- a value is there and at least another
abbrev pub IsAtLeast : Option ℕ → ℕ → Type 0
IsAtLeast o to = IsSomeAnd o (λ v. to ≤ v)

-- a window from the first moment at which the shipment can leave by the arc, once it is ready at the arc's tail, to the
-- last one from which it can go on from the arc's head
pub record IsWindowBetween (q : Asked) (earliest latest : List (Option ℕ)) (a : ℕ) (w : Window) : Type 0 where
  pub first : IsFirst (LeavesFrom q a (value_at earliest (arc_at q.instance.now a).from)) (Some w.lo)
  pub last : IsLast (LeavesInTime q a (value_at latest (arc_at q.instance.now a).to)) (Some w.hi)
  pub some : w.lo ≤ w.hi

-- a moment at which both can be
pub record FitsBetween (q : Asked) (earliest latest : List (Option ℕ)) (a m : ℕ) : Type 0 where
  pub first : LeavesFrom q a (value_at earliest (arc_at q.instance.now a).from) m
  pub last : LeavesInTime q a (value_at latest (arc_at q.instance.now a).to) m

-- that window, or none where no moment serves
abbrev pub IsWindowOf : Asked → List (Option ℕ) → List (Option ℕ) → ℕ → Option Window → Type 0
IsWindowOf q earliest latest a o = MatchOption o ((m : ℕ) → FitsBetween q earliest latest a m → ⊥) (IsWindowBetween q earliest latest a)

-- the windows of the arcs with numbers below another
pub record IsRowOf (q : Asked) (earliest latest : List (Option ℕ)) (n : ℕ) (row : List (Option Window)) : Type 0 where
  pub one_each : length row ≡ n
  pub exact : (a : ℕ) → a < n → IsWindowOf q earliest latest a (slice_index_or row a None)
