-- What the parts of a step make of a search, and what they are counted by.
use Rattle.std.specs.Prelude.{ℕ, List, [], ◌∷◌, ◌++◌, not, count_by, Option}
use Rattle.fp_tree.specs.Nodes.{Node, closed_of, fork_of}
use Rattle.fp_tree.specs.Trees.{Leaf, tree_leaves}
use Rattle.fp_certificate_lines.specs.declared.certificates.Spent.TheVariants.{Branches, Rounds, Time}
use Rattle.fp_session_history.specs.declared.endings.Ending.{Ending}
use Rattle.fp_session_history.specs.declared.endings.Ending.TheVariants.{Optimal, Unfinished}
use Rattle.fp_session_history.specs.declared.endings.Left.{Left}
use Rattle.fp_session_history.specs.declared.endings.Left.TheVariants.{Nothing, Several, Timing, Unsettled}
use Rattle.fp_session_history.specs.Notes.{Refinement}
use Rattle.fp_session_looks.specs.declared.cheaper.Cheaper.{Cheaper}
use Rattle.fp_session_clashes.specs.declared.refining.RefinedNetwork.{RefinedNetwork}
use Rattle.fp_session.specs.declared.payloads.Payload.{Payload}
use Rattle.fp_session.specs.declared.preparations.Preparation.{Preparation}
use Rattle.fp_session.specs.declared.searches.Search.{Search}
use Rattle.fp_session.specs.Searches.{InHand}

-- how a search ended that left this
abbrev pub ending_of : Left → Ending
ending_of Nothing = Optimal
ending_of (Timing leaf relaxed) = Unfinished Rounds
ending_of (Several leaf shipment) = Unfinished Branches
ending_of (Unsettled leaf) = Unfinished Time

-- how many leaves of a tree are open
abbrev pub open_count : List (Node Payload) → ℕ
open_count nodes = count_by (λ (l : Leaf (Node Payload)). not (closed_of l.node)) (tree_leaves fork_of nodes)

-- another tree
abbrev pub with_tree : Search → List (Node Payload) → Search
with_tree s nodes = record s { tree = nodes }

-- another incumbent, with what waits in reserve and what is done next before a step
abbrev pub with_incumbent : Search → Cheaper → Option Cheaper → Preparation → Search
with_incumbent s c reserve preparation = record s { incumbent = c.plan; cost = c.cost; reserve = reserve; preparation = preparation }

-- another plan in reserve, and what is done next before a step
abbrev pub with_reserve : Search → Option Cheaper → Preparation → Search
with_reserve s reserve preparation = record s { reserve = reserve; preparation = preparation }

-- one more round, with what is done next before a step
abbrev pub with_round : InHand → Refinement → RefinedNetwork → Preparation → InHand
with_round h note r preparation = record h { points = r.points; network = r.network; trace = h.trace ++ (note ∷ []); preparation = preparation }
