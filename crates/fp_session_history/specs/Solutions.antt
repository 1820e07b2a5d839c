-- What a search shows when it has ended, and when it has earned it.
use Rattle.std.specs.Prelude.{ℕ, ◌<◌, ◌≤◌, ◌≡◌, ⊤, Bool, true, List, length, IsSomeAnd, slice_get}
use Rattle.std.specs.List.{AllByRecursion}
use Rattle.fp_base_lists.specs.Numbered.{AllZipFrom}
use Rattle.fp_model.specs.declared.parts.Leg.{Leg}
use Rattle.fp_model.specs.declared.parts.Shipment.{Shipment}
use Rattle.fp_model.specs.Numbered.{shipment_at}
use Rattle.fp_model.specs.Problem.{Problem}
use Rattle.fp_flatnet.specs.Tables.{WindowTable, windows_in}
use Rattle.fp_tree.specs.declared.sides.Side.{Side}
use Rattle.fp_tree.specs.Trees.{Branch, Leaf, tree_branches, tree_leaves}
use Rattle.fp_allowed.specs.declared.chain_ends.ChainEnd.TheVariants as end
use Rattle.fp_allowed.specs.Allowed.{IsForcedChain, is_allowed}
use Rattle.fp_allowed.specs.Chains.{EndsAs}
use Rattle.fp_allowed.specs.Walks.{IsTimedWalk}
use Rattle.fp_certificate_lines.specs.declared.certificates.Answer.{Answer}
use Rattle.fp_certificate_lines.specs.declared.certificates.Answer.TheVariants.{Optimal, Unfinished}
use Rattle.fp_certificate_lines.specs.declared.certificates.Node.{Node}
use Rattle.fp_certificate_lines.specs.declared.certificates.Spent.TheVariants.{Branches, Rounds, Time}
use Rattle.fp_certificate_lines.specs.declared.certificates.Valuation.{Valuation}
use Rattle.fp_certificate_lines.specs.Statements.{Statement}
use Rattle.fp_certificate_rules.specs.Leaves.{fork_of}
use Rattle.fp_certificate_rules.specs.Plans.{stated_cost}
use Rattle.fp_session_history.specs.declared.budgets.Budget.{Budget}
use Rattle.fp_session_history.specs.declared.endings.Left.{Left}
use Rattle.fp_session_history.specs.declared.endings.Left.TheVariants.{Nothing, Several, Timing, Unsettled}
use Rattle.fp_session_history.specs.declared.notes.SplitNote.{SplitNote}
use Rattle.fp_session_history.specs.Clashes.{ClashesBelow}
use Rattle.fp_session_history.specs.Divisions.{AllDivide}
use Rattle.fp_session_history.specs.Notes.{History, Refinement, added_of, last_round, points_of}
use Rattle.fp_session_history.specs.PrintedLeaves.{IsLeastWorth, IsOpenBelow, IsPrintedLeaf, OfLeaf}
use Rattle.fp_session_history.specs.Splits.{AreEarnedSplits}
use Rattle.fp_session_history.specs.Traces.{IsEarnedTrace}

-- what a search shows: the certificate, its notes on rounds and on splits, and what it left
pub record Solution : Type 0 where
  pub certificate : Statement
  pub trace : List Refinement
  pub splits : List SplitNote
  pub left : Left

-- the history that it shows
abbrev pub history_of : Problem → WindowTable → Solution → History
history_of p table s = record { problem = p; windows = table; trace = s.trace; tables = s.certificate.tables; spans = s.certificate.spans; gifts = s.certificate.gifts; unit = s.certificate.unit }

-- the leaves of its tree, and its splits, with the sides on their ways
abbrev pub leaves_shown : Problem → Solution → List (Leaf Node)
leaves_shown p s = tree_leaves (fork_of p) s.certificate.tree

abbrev pub branches_shown : Problem → Solution → List (Branch Node)
branches_shown p s = tree_branches (fork_of p) s.certificate.tree

-- each shipment's walk is an allowed timed walk under the sides
abbrev pub AreWalksUnder : Problem → WindowTable → (ℕ → List ℕ) → List Side → List (List Leg) → Type 0
AreWalksUnder p table points sides walks = AllZipFrom (λ k (s : Shipment) walk. IsTimedWalk p points (is_allowed p (windows_in table) points sides k) s walk) 0 p.shipments walks

-- under the sides, the forced chain of a shipment ends where it has several ways to go
pub record HasSeveral (p : Problem) (table : WindowTable) (points : ℕ → List ℕ) (sides : List Side) (shipment : ℕ) : Type 0 where
  pub exists : shipment < length p.shipments
  pub chain : List Leg
  pub terminal : ℕ
  pub forced : IsForcedChain p (is_allowed p (windows_in table) points sides shipment) (shipment_at p shipment) chain
  pub ends : EndsAs p (is_allowed p (windows_in table) points sides shipment) (shipment_at p shipment) chain (end.Several terminal)

-- P of how the leaf with a number is valued, and of its sides
abbrev pub AtLeaf : List (Leaf Node) → ℕ → (Valuation → List Side → Type 0) → Type 0
AtLeaf leaves leaf P = IsSomeAnd (slice_get leaves leaf) (OfLeaf P)

-- the rounds were all used: as many as the budget has, and a leaf is left that is worth less than
-- the cost, with a relaxed plan that called for one more
pub record HasUsedRounds (h : History) (budget : Budget) (leaves : List (Leaf Node)) (cost leaf : ℕ) (relaxed : List (List Leg)) : Type 0 where
  pub spent : length h.trace ≡ budget.rounds
  pub leaf_left : AtLeaf leaves leaf (λ v sides. IsOpenBelow h cost sides v)
  pub under : AtLeaf leaves leaf (λ v sides. AreWalksUnder h.problem h.windows (points_of h (last_round h)) sides relaxed)
  pub clashes : ClashesBelow h.problem h.windows (points_of h (last_round h)) cost relaxed

-- the branches were all used: as many as the budget has, and a leaf is left that is worth less than
-- the cost, in which a shipment has several ways to go
pub record HasUsedBranches (h : History) (budget : Budget) (leaves : List (Leaf Node)) (branches : List (Branch Node)) (cost leaf shipment : ℕ) : Type 0 where
  pub spent : length branches ≡ budget.branches
  pub leaf_left : AtLeaf leaves leaf (λ v sides. IsOpenBelow h cost sides v)
  pub several : AtLeaf leaves leaf (λ v sides. HasSeveral h.problem h.windows (points_of h (last_round h)) sides shipment)

-- the time was over: a leaf is left that is worth less than the cost
pub record HasUsedTime (h : History) (leaves : List (Leaf Node)) (cost leaf : ℕ) : Type 0 where
  pub leaf_left : AtLeaf leaves leaf (λ v sides. IsOpenBelow h cost sides v)

-- an answer has its cause: it is optimal, and nothing was left; or it is unfinished, with the least
-- that a leaf is worth as its bound, below the cost, and all that it says was spent was used (for
-- time see IsTimely)
abbrev pub HasCause : History → Budget → List (Leaf Node) → List (Branch Node) → Left → Answer → Type 0
HasCause h budget leaves branches Nothing (Optimal cost) = Unit {0}
HasCause h budget leaves branches (Timing leaf relaxed) (Unfinished cost bound Rounds) =
    HasUsedRounds h budget leaves cost leaf relaxed × IsLeastWorth h leaves bound × (bound < cost)
HasCause h budget leaves branches (Several leaf shipment) (Unfinished cost bound Branches) =
    HasUsedBranches h budget leaves branches cost leaf shipment × IsLeastWorth h leaves bound × (bound < cost)
HasCause h budget leaves branches (Unsettled leaf) (Unfinished cost bound Time) =
    HasUsedTime h leaves cost leaf × IsLeastWorth h leaves bound × (bound < cost)
HasCause h budget leaves branches left answer = ⊥

-- a search ended for want of time only where the time was over
abbrev pub IsTimely : (over : Bool) → Left → Type 0
IsTimely over Nothing = ⊤
IsTimely over (Timing leaf relaxed) = ⊤
IsTimely over (Several leaf shipment) = ⊤
IsTimely over (Unsettled leaf) = over ≡ true

-- a search has earned what it shows, from a plan of this cost on: its points are those that its
-- rounds added, its rounds, its splits and its leaves are earned, each split divides the departures of a
-- shipment or, where the search has a unit, the numbers of trucks of an arc, and its answer has its cause
pub record IsEarnedSolution (p : Problem) (table : WindowTable) (budget : Budget) (started : ℕ) (s : Solution) : Type 0 where
  pub points : s.certificate.points ≡ added_of s.trace
  pub trace : IsEarnedTrace (history_of p table s) started (stated_cost s.certificate.answer)
  pub splits : AreEarnedSplits (history_of p table s) started (stated_cost s.certificate.answer) (branches_shown p s) s.splits
  pub divide : AllDivide s.certificate.unit p (windows_in table) (fork_of p) (branches_shown p s)
  pub leaves : AllByRecursion (IsPrintedLeaf (history_of p table s)) (leaves_shown p s)
  pub cause : HasCause (history_of p table s) budget (leaves_shown p s) (branches_shown p s) s.left s.certificate.answer
  pub cheaper : stated_cost s.certificate.answer ≤ started
