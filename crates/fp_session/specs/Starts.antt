-- What a search begins with.
use Rattle.std.specs.Prelude.{◌≡◌, List, [], None}
use Rattle.fp_model.specs.declared.parts.Leg.{Leg}
use Rattle.fp_model.specs.Costs.{cost}
use Rattle.fp_model.specs.Problem.{Problem}
use Rattle.fp_flatnet.specs.Tables.{WindowTable}
use Rattle.fp_duals_leaves.specs.Prices.{PriceLists}
use Rattle.fp_tree.specs.Nodes.{split_count}
use Rattle.fp_session_history.specs.declared.budgets.Budget.{Budget}
use Rattle.fp_session_history.specs.Notes.{History}
use Rattle.fp_session.specs.Searches.{InHand}
use Rattle.fp_session.specs.Sessions.{IsSound, SessionModel, hand_of}
use Rattle.fp_session.specs.StepCauses.{open_count}

-- the history of a search before its first round
abbrev pub start_of : Problem → WindowTable → PriceLists → History
start_of p table prices = record { problem = p; windows = table; trace = []; tables = prices.tables; spans = prices.spans; gifts = prices.gifts; unit = prices.unit }

-- a search that has made no step: its incumbent is the plan that it starts with, none waits in reserve, its
-- tree is one open leaf, there was no round, and it hasn't ended
pub record HasBegun (start : List (List Leg)) (s : InHand) : Type 0 where
  pub incumbent : s.incumbent ≡ start
  pub reserve : s.reserve ≡ None
  pub leaves : open_count s.tree ≡ 1
  pub splits : split_count s.tree ≡ 0
  pub trace : s.trace ≡ []
  pub going : s.left ≡ None

-- a search that has made no step, with a plan within the windows that it starts with, and what it may spend
pub record IsSessionOf (p : Problem) (table : WindowTable) (start : List (List Leg)) (spent : Budget) (s : SessionModel) : Type 0 where
  pub instance : s.instance ≡ p
  pub windows : s.windows ≡ table
  pub budget : s.budget ≡ spent
  pub started : s.started ≡ cost p start
  pub begun : HasBegun start (hand_of s)
  pub sound : IsSound s
