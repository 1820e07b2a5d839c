-- What a step may do, before it does it.
use Rattle.std.specs.Prelude.{ℕ, ◌+◌, ◌<◌, ◌≡◌, ◌⊎◌, ⊤, Bool, List, [], ◌∷◌, ◌++◌, false, None, Option, IsSomeAnd}
use Rattle.fp_model.specs.declared.parts.Leg.{Leg}
use Rattle.fp_flatnet.specs.Tables.{windows_in}
use Rattle.fp_tree.specs.declared.sides.Side.{Side}
use Rattle.fp_tree.specs.Nodes.{Node, closed_of, leaf_at, split_count}
use Rattle.fp_tree.specs.Sides.{Fork, HasTail, first, second}
use Rattle.fp_tree.specs.Trees.{Leaf}
use Rattle.fp_allowed.specs.Allowed.{tails_of}
use Rattle.fp_certificate_lines.specs.Ranges.{IsSplitInRange}
use Rattle.fp_duals_leaves.specs.Prices.{PriceLists, no_prices}
use Rattle.fp_session_history.specs.declared.endings.Left.{Left}
use Rattle.fp_session_history.specs.declared.endings.Left.TheVariants.{Nothing, Several, Timing, Unsettled}
use Rattle.fp_session_history.specs.Clashes.{ClashesBelow}
use Rattle.fp_session_history.specs.Divisions.{Divides}
use Rattle.fp_session_history.specs.Notes.{History, Refinement, last_round, points_of, worth_of}
use Rattle.fp_session_history.specs.Solutions.{AreWalksUnder, HasSeveral, IsTimely}
use Rattle.fp_session_history.specs.Traces.{IsEarnedRound}
use Rattle.fp_session.specs.declared.kept.Kept.{Kept}
use Rattle.fp_session.specs.declared.moves.Division.{Division}
use Rattle.fp_session.specs.declared.moves.Move.{Move}
use Rattle.fp_session.specs.declared.moves.Move.TheVariants as move
use Rattle.fp_session_clashes.specs.declared.refining.RefinedNetwork.{RefinedNetwork}
use Rattle.fp_session.specs.declared.payloads.Payload.{Payload}
use Rattle.fp_session.specs.declared.searches.Search.{Search}
use Rattle.fp_session.specs.Nodes.{HasNoMore, IsKept, IsRaisedTo, IsSettled}
use Rattle.fp_session.specs.Outcomes.{IsAtLeastStarts}
use Rattle.fp_session_clashes.specs.Refining.{IsRefined}
use Rattle.fp_session.specs.Order.{AreWalksHad, HasDearWalks}
use Rattle.fp_session.specs.Searches.{IsCheaper, history, in_hand}

-- the points as of the last round
abbrev pub points_now : Search → ℕ → List ℕ
points_now s = points_of (history s no_prices) (last_round (history s no_prices))

-- a plan waits in reserve
abbrev pub HasReserve : Search → Type 0
HasReserve s = IsSomeAnd s.reserve (λ cheaper. ⊤)

-- one more round, with the incumbent of the moment, of a search with such a unit: it is earned, and there is one left
pub record IsNextRound (s : Search) (unit : Option ℕ) (note : Refinement) (r : RefinedNetwork) : Type 0 where
  pub left : last_round (history s no_prices) < s.budget.rounds
  pub round : note.round ≡ last_round (history s no_prices) + 1
  pub incumbent : note.incumbent ≡ s.cost
  pub earned : IsEarnedRound s.instance s.windows unit (points_now s) note
  pub refined : IsRefined s.instance s.points note.round note.added r

-- the fork of a division
abbrev pub fork_in : Division → Fork
fork_in d = record { split = d.split; tail = d.tail }

-- a leaf is divided: the split is in range and divides the departures of a shipment or the trucks of an
-- arc, and this is known of the two leaves below
pub record IsDivision (h : History) (sides : List Side) (d : Division) : Type 0 where
  pub range : IsSplitInRange h.problem d.split
  pub divides : Divides h.unit h.problem (windows_in h.windows) sides (fork_in d)
  pub tail : HasTail (tails_of h.problem) (fork_in d)
  pub first : IsKept h (sides ++ (first (fork_in d) ∷ [])) d.first.payload d.first.value
  pub second : IsKept h (sides ++ (second (fork_in d) ∷ [])) d.second.payload d.second.value

-- where spans are sought, or the price of the leaf above is steady, of which this is kept, each of the two leaves below is empty, or
-- worth no less than that one
abbrev pub AreNoLess : Option ℕ → (above : Kept) → Division → Type 0
AreNoLess unit above d = IsRaisedTo unit above d.first × IsRaisedTo unit above d.second

-- nothing is left of rounds, and a relaxed plan under the sides calls for one
pub record IsTimingLeft (s : Search) (sides : List Side) (relaxed : List (List Leg)) : Type 0 where
  pub spent : last_round (history s no_prices) ≡ s.budget.rounds
  pub under : AreWalksUnder s.instance s.windows (points_now s) sides relaxed
  pub clashes : ClashesBelow s.instance s.windows (points_now s) s.cost relaxed

-- nothing is left of branches, and a shipment has several ways to go under the sides
pub record IsSeveralLeft (s : Search) (sides : List Side) (shipment : ℕ) : Type 0 where
  pub spent : split_count s.tree ≡ s.budget.branches
  pub several : HasSeveral s.instance s.windows (points_now s) sides shipment

-- what is left at a leaf with a number, whatever the time
abbrev pub IsLeftAt : Search → ℕ → List Side → Left → Type 0
IsLeftAt s leaf sides Nothing = ⊥
IsLeftAt s leaf sides (Timing at relaxed) = (at ≡ leaf) × IsTimingLeft s sides relaxed
IsLeftAt s leaf sides (Several at shipment) = (at ≡ leaf) × IsSeveralLeft s sides shipment
IsLeftAt s leaf sides (Unsettled at) = ⊥

-- the same, or that leaf itself where the time is over
abbrev pub IsStopAt : Search → ℕ → List Side → Left → Type 0
IsStopAt s leaf sides Nothing = ⊥
IsStopAt s leaf sides (Timing at relaxed) = IsLeftAt s leaf sides (Timing at relaxed)
IsStopAt s leaf sides (Several at shipment) = IsLeftAt s leaf sides (Several at shipment)
IsStopAt s leaf sides (Unsettled at) = at ≡ leaf

-- a leaf has something to search for: it isn't empty, is worth less than the cost, and at least its
-- values by linear and by even prices
pub record IsUnsettled (h : History) (cost : ℕ) (sides : List Side) (kept : Kept) : Type 0 where
  pub some : kept.payload.empty ≡ false
  pub below : worth_of h kept.value < cost
  pub starts : IsAtLeastStarts h sides kept.value

-- a leaf isn't empty and is worth less than the cost
pub record IsWorthLess (h : History) (cost : ℕ) (kept : Kept) : Type 0 where
  pub some : kept.payload.empty ≡ false
  pub below : worth_of h kept.value < cost

-- what a step may do at a leaf that has something to search for: it adds a round by walks under its sides, and divides it only where no
-- cheaper plan can come of such walks
abbrev pub IsOpenMove : Search → PriceLists → (leaf : ℕ) → List Side → Move → Type 0
IsOpenMove s prices leaf sides move.Close = ⊥
IsOpenMove s prices leaf sides (move.Better cheaper) = IsCheaper s cheaper
IsOpenMove s prices leaf sides move.TakeReserve = HasReserve s
IsOpenMove s prices leaf sides (move.Refine note refined) = IsNextRound s prices.unit note refined × AreWalksHad (in_hand s) sides note.relaxed
IsOpenMove s prices leaf sides (move.Divide division) = (split_count s.tree < s.budget.branches) × IsDivision (history s prices) sides division × HasDearWalks (in_hand s) sides
IsOpenMove s prices leaf sides (move.Stop left) = IsLeftAt s leaf sides left × (s.reserve ≡ None)

-- what a step may do at a leaf of which this is kept
abbrev pub IsMoveAt : Search → PriceLists → (leaf : ℕ) → List Side → Kept → Move → Type 0
IsMoveAt s prices leaf sides kept move.Close = IsSettled (history s prices) s.cost kept.payload kept.value
IsMoveAt s prices leaf sides kept (move.Better cheaper) = IsCheaper s cheaper
IsMoveAt s prices leaf sides kept move.TakeReserve = HasReserve s
IsMoveAt s prices leaf sides kept (move.Refine note refined) =
    IsWorthLess (history s prices) s.cost kept × IsNextRound s prices.unit note refined × AreWalksHad (in_hand s) sides note.relaxed
IsMoveAt s prices leaf sides kept (move.Divide division) =
    IsUnsettled (history s prices) s.cost sides kept × (split_count s.tree < s.budget.branches) × IsDivision (history s prices) sides division × HasDearWalks (in_hand s) sides
IsMoveAt s prices leaf sides kept (move.Stop left) = IsUnsettled (history s prices) s.cost sides kept × IsStopAt s leaf sides left × (s.reserve ≡ None)

-- and so a step leaves the leaves below the one at which it works, of which this is kept
abbrev pub LeavesNoLess : Option ℕ → (above : Kept) → Move → Type 0
LeavesNoLess unit above (move.Divide division) = AreNoLess unit above division
LeavesNoLess unit above m = ⊤

-- a step ends a search for want of time only where the time is over
abbrev pub IsTimelyMove : (over : Bool) → Move → Type 0
IsTimelyMove over move.Close = ⊤
IsTimelyMove over (move.Better cheaper) = ⊤
IsTimelyMove over move.TakeReserve = ⊤
IsTimelyMove over (move.Refine note refined) = ⊤
IsTimelyMove over (move.Divide division) = ⊤
IsTimelyMove over (move.Stop left) = IsTimely over left

-- what a step does at a leaf where the time is over: it takes the plan in reserve, or ends the search where there is none
abbrev pub IsLate : Search → ℕ → Move → Type 0
IsLate s leaf m = ((m ≡ move.TakeReserve) × HasReserve s) ⊎ ((m ≡ move.Stop (Unsettled leaf)) × (s.reserve ≡ None))

-- the leaf with a number is open, and it is so of its sides and its value
abbrev pub AtOpenLeaf : List (Node Payload) → ℕ → (Leaf (Node Payload) → Type 0) → Type 0
AtOpenLeaf nodes leaf P = IsSomeAnd (leaf_at nodes leaf) (λ (l : Leaf (Node Payload)). (closed_of l.node ≡ false) × P l)

-- what a step may do: at an open leaf, of which this is kept, with no less value than it had unless
-- it is empty
pub record IsMove (s : Search) (prices : PriceLists) (leaf : ℕ) (now : Kept) (m : Move) : Type 0 where
  pub kept : AtOpenLeaf s.tree leaf (λ l. IsKept (history s prices) l.sides now.payload now.value)
  pub no_less : AtOpenLeaf s.tree leaf (λ l. now.payload.empty ≡ false → HasNoMore l now)
  pub planned : AtOpenLeaf s.tree leaf (λ l. IsMoveAt s prices leaf l.sides now m)
  pub below : LeavesNoLess prices.unit now m
