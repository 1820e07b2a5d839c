-- Moments that rise: what is known of them, and when they are settled.
use Rattle.std.specs.Prelude.{ℕ, zero, suc, ◌+◌, ◌*◌, ◌-◌, ◌^◌, ◌≤◌, ◌<◌, ◌≡◌, Bool, true, false, List, [], ◌∷◌, ◌++◌, length, All, AllPairs, Contains, Option, Some, None, IfSome, IsSomeAnd, MatchOption, slice_index_or, slice_set, if◌then◌else◌}
use Rattle.fp_model.specs.declared.limits.TheConstants.{LATEST}
use Rattle.fp_model.specs.declared.parts.Member.{Member}
use Rattle.fp_model.specs.Members.{AreDisjoint, IsMemberOf, member_arc}
use Rattle.fp_model.specs.Problem.{Problem}
use Rattle.fp_model.specs.Routes.{step}
use Rattle.fp_flatnet.specs.declared.window_tables.Window.{Window}
use Rattle.fp_flatnet.specs.Tables.{WindowTable, windows_in}
use Rattle.fp_dispatch.specs.declared.group_numbers.Numbers.{Numbers}
use Rattle.fp_dispatch.specs.declared.rising.Late.{Late}
use Rattle.fp_dispatch.specs.declared.rising.Moments.{Moments}
use Rattle.fp_dispatch.specs.Times.{HaveOneTime, MeetsLowerRules, next, window_of}

-- the place of a leg in tables that have so many entries for each route
abbrev pub place_of : ℕ → Member → ℕ
place_of width m = m.shipment * width + m.leg

-- the moments so far, which legs wait until their next ones are looked at, and these legs
pub record State : Type 0 where
  pub values : List ℕ
  pub waits : List Bool
  pub waiting : List Member

-- what moments have
abbrev pub state_of : Moments → State
state_of moments = record { values = moments.values.items; waits = moments.waits.items; waiting = moments.waiting.items }

-- the moment of a leg
abbrev pub value_at : ℕ → List ℕ → Member → ℕ
value_at width values m = slice_index_or values (place_of width m) 0

-- whether a leg waits
abbrev pub waits_at : ℕ → List Bool → Member → Bool
waits_at width waits m = slice_index_or waits (place_of width m) false

-- a table with one entry at the places of legs
abbrev pub set_each : {X : Type 0} → ℕ → List Member → X → List X → List X
set_each width [] x table = table
set_each width (m ∷ legs) x table = set_each width legs x (slice_set table (place_of width m) x)

-- the legs that wait after those of a list that did not wait have joined them
abbrev pub queue_each : ℕ → List Member → List Bool → List Member → List Member
queue_each width [] waits waiting = waiting
queue_each width (m ∷ legs) waits waiting =
    queue_each width legs (slice_set waits (place_of width m) true)
    (if slice_index_or waits (place_of width m) false then waiting else waiting ++ (m ∷ []))

-- the legs raised to a moment
abbrev pub raised : ℕ → List Member → ℕ → State → State
raised width legs to s = record {
  values = set_each width legs to s.values;
  waits = set_each width legs true s.waits;
  waiting = queue_each width legs s.waits s.waiting;
}

-- what a raising of legs to a moment answers: nothing where they were raised and each can leave at
-- it, and otherwise one of them that can't
abbrev pub IsRaising : (ℕ → ℕ → Option Window) → List (List ℕ) → (width : ℕ) → List Member → (to : ℕ) → (old new : State) → Option Member → Type 0
IsRaising windows routes width legs to old new r =
    MatchOption r ((new ≡ raised width legs to old) × All (λ m. IsSomeAnd (window_of windows routes m) (λ w. to ≤ w.hi)) legs)
    (λ m. Contains legs m × IfSome (window_of windows routes m) (λ w. w.hi < to))

-- the legs that leave together with a leg, where the number of its group is given if it has one
abbrev pub companions : List (List Member) → Option ℕ → Member → List Member
companions groups None m = m ∷ []
companions groups (Some g) m = slice_index_or groups g []

-- the legs that leave together with a leg, by the numbers of the groups
abbrev pub companions_of : List (List Member) → Numbers → Member → List Member
companions_of groups numbers m = companions groups (slice_index_or numbers.table.items (place_of numbers.width m) None) m

-- a table that has for each leg the number of its group, among the first so many groups, if it has
-- one
abbrev pub AreGroupNumbers : List (List ℕ) → List (List Member) → (width count : ℕ) → List (Option ℕ) → Type 0
AreGroupNumbers routes groups width count table =
    (m : Member) → IsMemberOf routes m → MatchOption (slice_index_or table (place_of width m) None)
    ((g : ℕ) → g < count → Contains (slice_index_or groups g []) m → ⊥)
    (λ g. (g < count) × Contains (slice_index_or groups g []) m)

-- the tables have an entry for each leg
abbrev pub IsWide : List (List ℕ) → ℕ → Type 0
IsWide routes width = All (λ route. length route ≤ width) routes

-- each leg has a window, which ends by the latest time
abbrev pub HaveWindows : (ℕ → ℕ → Option Window) → List (List ℕ) → Type 0
HaveWindows windows routes = (m : Member) → IsMemberOf routes m → IsSomeAnd (window_of windows routes m) (λ w. w.hi ≤ LATEST)

-- what is looked for can be found with these tables: the windows and the routes fit together, each
-- leg has a window, and the groups are numbered
pub record IsTask (p : Problem) (table : WindowTable) (routes : List (List ℕ)) (groups : List (List Member)) (numbers : Numbers) : Type 0 where
  pub rows : length table.rows ≡ length routes
  pub tails : length table.tails ≡ length p.arcs
  pub arcs : All (All (λ a. a < length table.tails)) routes
  pub wide : IsWide routes numbers.width
  pub few : length routes * numbers.width < 2 ^ 32
  pub windows : HaveWindows (windows_in table) routes
  pub members : All (All (IsMemberOf routes)) groups
  pub apart : AllPairs AreDisjoint groups
  pub numbered : AreGroupNumbers routes groups numbers.width (length groups) numbers.table.items
  pub long : length numbers.table.items ≡ length routes * numbers.width

-- a moment lies in a window
abbrev pub IsBetween : ℕ → Window → Type 0
IsBetween value w = (w.lo ≤ value) × (value ≤ w.hi)

-- a moment is one that no choice that meets the lower rules comes before, at a leg
abbrev pub IsLower : Problem → (ℕ → ℕ → Option Window) → List (List ℕ) → List (List Member) → Member → ℕ → Type 0
IsLower p windows routes groups m value =
    (d : ℕ) (times : Member → ℕ) → MeetsLowerRules p windows routes groups d times → d * value ≤ times m

-- what holds of the moments at all times: each lies in its window, no choice that meets the lower
-- rules comes before it, and the legs marked as waiting wait
pub record AreLower (p : Problem) (windows : ℕ → ℕ → Option Window) (routes : List (List ℕ)) (groups : List (List Member)) (width : ℕ) (s : State) : Type 0 where
  pub values : length s.values ≡ length routes * width
  pub waits : length s.waits ≡ length routes * width
  pub between : (m : Member) → IsMemberOf routes m → IsSomeAnd (window_of windows routes m) (IsBetween (value_at width s.values m))
  pub lower : (m : Member) → IsMemberOf routes m → IsLower p windows routes groups m (value_at width s.values m)
  pub queued : (m : Member) → IsMemberOf routes m → waits_at width s.waits m ≡ true → Contains s.waiting m
  pub members : All (IsMemberOf routes) s.waiting

-- the first so many groups each have one moment
abbrev pub AreEqualUntil : List (List Member) → ℕ → ℕ → List ℕ → Type 0
AreEqualUntil groups width count values = (g : ℕ) → g < count → HaveOneTime (value_at width values) (slice_index_or groups g [])

-- the next leg, if there is one, leaves a step after a leg or later
abbrev pub IsSettled : Problem → List (List ℕ) → ℕ → List ℕ → Member → Type 0
IsSettled p routes width values m =
    IsMemberOf routes (next m) → value_at width values m + step p (member_arc routes m) ≤ value_at width values (next m)

-- besides, all of a group have one moment, and each leg but those that Excepted holds of waits or is
-- settled
pub record AreRising (p : Problem) (windows : ℕ → ℕ → Option Window) (routes : List (List ℕ)) (groups : List (List Member)) (width : ℕ) (Excepted : Member → Type 0) (s : State) : Type 0 where
  pub are : AreLower p windows routes groups width s
  pub equal : AreEqualUntil groups width (length groups) s.values
  pub settled : (m : Member) → (Excepted m → ⊥) → waits_at width s.waits m ≡ false → IsSettled p routes width s.values m

-- a leg would have to leave after its latest moment: the moment is one that no choice comes before
pub record IsLate (p : Problem) (windows : ℕ → ℕ → Option Window) (routes : List (List ℕ)) (groups : List (List Member)) (late : Late) : Type 0 where
  pub member : IsMemberOf routes late.leg
  pub lower : IsLower p windows routes groups late.leg late.value
  pub past : IfSome (window_of windows routes late.leg) (λ w. w.hi < late.value)

-- nothing is settled yet, but all wait
abbrev pub AllWait : List (List ℕ) → ℕ → State → Type 0
AllWait routes width s = (m : Member) → IsMemberOf routes m → waits_at width s.waits m ≡ true

-- what is left of the moments until the latest time
abbrev pub room : List ℕ → ℕ
room [] = 0
room (value ∷ values) = (LATEST - value) + room values

-- more than any group has members
abbrev pub most_members : List (List Member) → ℕ
most_members [] = 1
most_members (group ∷ groups) = length group + most_members groups

-- what falls with each leg that is looked at: first the room, and then how many wait
abbrev pub measure : List (List Member) → State → ℕ
measure groups s = room s.values * (most_members groups + 1) + length s.waiting

-- the first so many legs of a route
abbrev pub legs_below : ℕ → ℕ → List Member
legs_below shipment zero = []
legs_below shipment (suc i) = legs_below shipment i ++ (record { shipment = shipment; leg = i } ∷ [])
