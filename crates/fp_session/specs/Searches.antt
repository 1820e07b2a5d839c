-- What a search knows of what it has in hand.
use Rattle.std.specs.Prelude.{ℕ, ◌≤◌, ◌≡◌, ⊤, List, true, All, IfSome, IsSomeAnd, None, Option, Some}
use Rattle.fp_model.specs.declared.parts.Leg.{Leg}
use Rattle.fp_model.specs.Problem.{Problem}
use Rattle.fp_timenodes.specs.Points.{TimePoints}
use Rattle.fp_flatnet.specs.Belonging.{BelongsTo}
use Rattle.fp_flatnet.specs.Tables.{WindowTable}
use Rattle.fp_longestarcs.specs.Networks.{TimedNetwork}
use Rattle.fp_longestarcs.specs.Whole.{IsNetworkOf}
use Rattle.fp_tree.specs.declared.sides.Side.{Side}
use Rattle.fp_tree.specs.Nodes.{Node, closed_of, fork_of, leaf_at, split_count}
use Rattle.fp_tree.specs.Trees.{HaveTails, Leaf, tree_branches, tree_leaves}
use Rattle.fp_allowed.specs.Allowed.{tails_of}
use Rattle.fp_allowed.specs.Settings.{Setting}
use Rattle.fp_session_history.specs.declared.budgets.Budget.{Budget}
use Rattle.fp_session_history.specs.declared.endings.Left.{Left}
use Rattle.fp_session_history.specs.declared.endings.Left.TheVariants.{Nothing, Several, Timing, Unsettled}
use Rattle.fp_session_history.specs.Budgets.{IsBudget}
use Rattle.fp_session_history.specs.Clashes.{ClashesBelow}
use Rattle.fp_session_history.specs.Notes.{History, Refinement, added_of, last_round, points_of}
use Rattle.fp_session_history.specs.Points.{BeginWith}
use Rattle.fp_session_history.specs.PrintedLeaves.{IsOpenBelow}
use Rattle.fp_session_history.specs.Solutions.{AreWalksUnder, HasSeveral}
use Rattle.fp_session_history.specs.Traces.{IsEarnedTrace}
use Rattle.fp_session_looks.specs.declared.cheaper.Cheaper.{Cheaper}
use Rattle.fp_session_looks.specs.Plans.{IsBelow, IsIncumbent}
use Rattle.fp_session.specs.declared.payloads.Payload.{Payload}
use Rattle.fp_session.specs.declared.preparations.Preparation.{Preparation}
use Rattle.fp_session.specs.declared.searches.Search.{Search}
use Rattle.fp_session.specs.Nodes.{IsLeafOf, IsSplitOf}
use Rattle.fp_duals_leaves.specs.Prices.{ArePrices, PriceLists}

-- a plan that is cheaper than the incumbent
abbrev pub IsCheaper : Search → Cheaper → Type 0
IsCheaper s c = IsBelow s.instance s.windows s.cost c

-- the cheapest plan that was found: the one in reserve, or else the incumbent
abbrev pub cheapest : List (List Leg) → Option Cheaper → List (List Leg)
cheapest incumbent None = incumbent
cheapest incumbent (Some reserve) = reserve.plan

-- and what it costs
abbrev pub cheapest_cost : ℕ → Option Cheaper → ℕ
cheapest_cost cost None = cost
cheapest_cost cost (Some reserve) = reserve.cost

-- both of a search
abbrev pub cheapest_plan : Search → Cheaper
cheapest_plan s = record { plan = cheapest s.incumbent s.reserve; cost = cheapest_cost s.cost s.reserve }

-- the history of a search with these prices
abbrev pub history : Search → PriceLists → History
history s prices = record { problem = s.instance; windows = s.windows; trace = s.trace.items; tables = prices.tables; spans = prices.spans; gifts = prices.gifts; unit = prices.unit }

-- the setting of a leaf over the network of the last round
abbrev pub setting_of : Search → Setting
setting_of s = record { problem = s.instance; windows = s.windows; network = s.network }

-- the leaf with a number is left open: it isn't empty and is worth less than the cost, and P of its
-- sides
pub record IsLeftOpen (h : History) (cost : ℕ) (nodes : List (Node Payload)) (leaf : ℕ) (P : List Side → Type 0) : Type 0 where
  pub open_at : IsSomeAnd (leaf_at nodes leaf) (λ (l : Leaf (Node Payload)). IsOpenBelow h cost l.sides l.node.payload.valuation)
  pub holds : IsSomeAnd (leaf_at nodes leaf) (λ (l : Leaf (Node Payload)). P l.sides)

-- what a search left is so, and why it left it
abbrev pub IsLeft : Search → PriceLists → Left → Type 0
IsLeft s prices Nothing = All (λ (l : Leaf (Node Payload)). closed_of l.node ≡ true) (tree_leaves fork_of s.tree)
IsLeft s prices (Timing leaf relaxed) =
    (last_round (history s prices) ≡ s.budget.rounds)
    × ClashesBelow s.instance s.windows (points_of (history s prices) (last_round (history s prices))) s.cost relaxed
    × IsLeftOpen (history s prices) s.cost s.tree leaf (λ sides. AreWalksUnder s.instance s.windows (points_of (history s prices) (last_round (history s prices))) sides relaxed)
IsLeft s prices (Several leaf shipment) =
    (split_count s.tree ≡ s.budget.branches)
    × IsLeftOpen (history s prices) s.cost s.tree leaf (λ sides. HasSeveral s.instance s.windows (points_of (history s prices) (last_round (history s prices))) sides shipment)
IsLeft s prices (Unsettled leaf) = IsLeftOpen (history s prices) s.cost s.tree leaf (λ sides. ⊤)

-- what a search has in hand, with its notes as a list
pub record InHand : Type 0 where
  pub instance : Problem
  pub windows : WindowTable
  pub budget : Budget
  pub started : ℕ
  pub incumbent : List (List Leg)
  pub cost : ℕ
  pub reserve : Option Cheaper
  pub preparation : Preparation
  pub points : TimePoints
  pub network : TimedNetwork
  pub tree : List (Node Payload)
  pub trace : List Refinement
  pub left : Option Left

-- what it has in hand
abbrev pub in_hand : Search → InHand
in_hand s = record {
  instance = s.instance;
  windows = s.windows;
  budget = s.budget;
  started = s.started;
  incumbent = s.incumbent;
  cost = s.cost;
  reserve = s.reserve;
  preparation = s.preparation;
  points = s.points;
  network = s.network;
  tree = s.tree;
  trace = s.trace.items;
  left = s.left;
}

-- all that a search knows of what it has in hand, with its prices
pub record IsSearch (s : Search) (lists : PriceLists) : Type 0 where
  pub belongs : BelongsTo s.instance s.windows
  pub budget : IsBudget s.budget
  pub incumbent : IsIncumbent s.instance s.windows s.incumbent s.cost
  pub cheaper : s.cost ≤ s.started
  pub reserve : IfSome s.reserve (IsCheaper s)
  pub trace : IsEarnedTrace (history s lists) s.started s.cost
  pub rounds : last_round (history s lists) ≤ s.budget.rounds
  pub points : BeginWith s.instance s.windows.anchors s.points
  pub added : s.points.added ≡ added_of s.trace.items
  pub network : IsNetworkOf s.instance s.points (last_round (history s lists)) s.network
  pub prices : ArePrices s.instance s.windows lists
  pub tails : HaveTails (tails_of s.instance) fork_of s.tree
  pub few : split_count s.tree ≤ s.budget.branches
  pub splits : All (IsSplitOf (history s lists) s.started s.cost) (tree_branches fork_of s.tree)
  pub leaves : All (IsLeafOf (history s lists) s.cost) (tree_leaves fork_of s.tree)
  pub left : IfSome s.left (IsLeft s lists)
  pub ended : IfSome s.left (λ left. s.reserve ≡ None)
