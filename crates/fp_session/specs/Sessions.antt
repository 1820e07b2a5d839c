-- A search as its callers see it.
use Rattle.std.specs.Prelude.{ℕ, ◌≡◌, List, Option}
use Rattle.fp_model.specs.declared.parts.Leg.{Leg}
use Rattle.fp_model.specs.Problem.{Problem}
use Rattle.fp_timenodes.specs.Points.{TimePoints}
use Rattle.fp_flatnet.specs.Tables.{WindowTable}
use Rattle.fp_longestarcs.specs.Networks.{TimedNetwork}
use Rattle.fp_tree.specs.Nodes.{Node}
use Rattle.fp_duals_leaves.specs.Prices.{PriceLists}
use Rattle.fp_session_history.specs.declared.budgets.Budget.{Budget}
use Rattle.fp_session_history.specs.declared.endings.Left.{Left}
use Rattle.fp_session_history.specs.Notes.{Refinement}
use Rattle.fp_session_looks.specs.declared.cheaper.Cheaper.{Cheaper}
use Rattle.fp_session.specs.declared.payloads.Payload.{Payload}
use Rattle.fp_session.specs.declared.preparations.Preparation.{Preparation}
use Rattle.fp_session.specs.declared.searches.Search.{Search}
use Rattle.fp_session.specs.Searches.{InHand, IsSearch, cheapest, in_hand}

-- a search: its instance and its windows, what it may spend, what the plan costs that it started
-- with, and what it has in hand
pub record SessionModel : Type 0 where
  pub instance : Problem
  pub windows : WindowTable
  pub budget : Budget
  pub started : ℕ
  pub incumbent : List (List Leg)
  pub cost : ℕ
  pub reserve : Option Cheaper
  pub preparation : Preparation
  pub points : TimePoints
  pub network : TimedNetwork
  pub tree : List (Node Payload)
  pub trace : List Refinement
  pub left : Option Left
  pub prices : PriceLists

-- a search with these prices
abbrev pub session_of : InHand → PriceLists → SessionModel
session_of s prices = record {
  instance = s.instance;
  windows = s.windows;
  budget = s.budget;
  started = s.started;
  incumbent = s.incumbent;
  cost = s.cost;
  reserve = s.reserve;
  preparation = s.preparation;
  points = s.points;
  network = s.network;
  tree = s.tree;
  trace = s.trace;
  left = s.left;
  prices = prices;
}

-- what it has in hand besides its prices
abbrev pub hand_of : SessionModel → InHand
hand_of m = record {
  instance = m.instance;
  windows = m.windows;
  budget = m.budget;
  started = m.started;
  incumbent = m.incumbent;
  cost = m.cost;
  reserve = m.reserve;
  preparation = m.preparation;
  points = m.points;
  network = m.network;
  tree = m.tree;
  trace = m.trace;
  left = m.left;
}

-- all that a search knows of what it has in hand
pub record IsSound (m : SessionModel) : Type 0 where
  pub search : Search
  pub is : hand_of m ≡ in_hand search
  pub knows : IsSearch search m.prices

-- the cheapest plan that it has found
abbrev pub cheapest_of : SessionModel → List (List Leg)
cheapest_of m = cheapest m.incumbent m.reserve
