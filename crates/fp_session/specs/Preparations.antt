-- What is done before a step.
use Rattle.std.specs.Prelude.{ℕ, ◌+◌, ◌*◌, ◌<◌, ◌≤◌, ◌≡◌, List, false, IfSome}
use Rattle.fp_tree.specs.Nodes.{Node, fork_of, leaf_count, split_count, value_of}
use Rattle.fp_tree.specs.Trees.{tree_branches}
use Rattle.fp_session.specs.declared.preparations.Preparation.{Preparation}
use Rattle.fp_session.specs.declared.preparations.Preparation.TheVariants.{DeepLook, FirstLook, FoundLook, LaterLook, Nothing, Spans, Tables, WideLook}
use Rattle.fp_duals_leaves.specs.Prices.{PriceLists}
use Rattle.fp_session.specs.declared.payloads.Payload.{Payload}
use Rattle.fp_session.specs.declared.preparations.Prepared.{Prepared}
use Rattle.fp_session.specs.declared.root_prices.Raised.{Raised}
use Rattle.fp_session.specs.declared.searches.Search.{Search}
use Rattle.fp_session.specs.Moves.{AtOpenLeaf}
use Rattle.fp_session.specs.Nodes.{IsKept}
use Rattle.fp_session.specs.Searches.{InHand, IsCheaper, cheapest_cost, history}
use Rattle.fp_session.specs.StepCauses.{open_count}
use Rattle.fp_session.specs.Steps.{StayFixed, steps_left}

-- at most so many preparations are left before the next step
abbrev pub preparations_left : Preparation → ℕ
preparations_left FirstLook = 6
preparations_left Tables = 5
preparations_left WideLook = 4
preparations_left Spans = 3
preparations_left DeepLook = 2
preparations_left FoundLook = 1
preparations_left LaterLook = 1
preparations_left Nothing = 0

-- at most so many preparations and steps are left: a step may make new preparations, fewer than 8
abbrev pub work_left : InHand → ℕ
work_left s = 8 * steps_left s + preparations_left s.preparation

-- before a step a leaf may be priced better, and a cheaper plan may come into reserve; all else stays: the incumbent, the rounds, the
-- splits, how many leaves are open, and whether the search has ended
pub record IsPrepared (s t : InHand) : Type 0 where
  pub fixed : StayFixed s t
  pub incumbent : t.incumbent ≡ s.incumbent
  pub cost : t.cost ≡ s.cost
  pub cheapest : cheapest_cost t.cost t.reserve ≤ cheapest_cost s.cost s.reserve
  pub trace : t.trace ≡ s.trace
  pub leaves : open_count t.tree ≡ open_count s.tree
  pub splits : split_count t.tree ≡ split_count s.tree
  pub branches : tree_branches fork_of t.tree ≡ tree_branches fork_of s.tree
  pub left : t.left ≡ s.left

-- a leaf that a preparation may price: it is there, open, and not known to be empty
pub record IsWorkable (nodes : List (Node Payload)) (leaf : ℕ) : Type 0 where
  pub exists : leaf < leaf_count nodes
  pub some : AtOpenLeaf nodes leaf (λ l. l.node.payload.empty ≡ false)

-- this is kept of an open leaf, with no less value than it had
pub record IsRaised (s : Search) (prices : PriceLists) (raised : Raised) : Type 0 where
  pub kept : AtOpenLeaf s.tree raised.number (λ l. IsKept (history s prices) l.sides raised.kept.payload raised.kept.value)
  pub no_less : AtOpenLeaf s.tree raised.number (λ l. value_of l.node ≤ raised.kept.value)

-- what may come of a preparation: an open leaf is priced better, and a cheaper plan is found
pub record ComesOfPreparing (s : Search) (prices : PriceLists) (prepared : Prepared) : Type 0 where
  pub leaf : IfSome prepared.leaf (IsRaised s prices)
  pub cheaper : IfSome prepared.cheaper (IsCheaper s)
