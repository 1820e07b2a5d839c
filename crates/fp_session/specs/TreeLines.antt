-- The lines of a tree in a certificate, the notes on its splits, and the least that its leaves are
-- worth.
use Rattle.std.specs.Prelude.{ℕ, ◌<◌, ◌≤◌, ◌≡◌, ◌⊎◌, List, map, true, false, Option, Some, None, IsSomeAnd}
use Rattle.fp_tree.specs.Nodes.{Node, fork_of, leaf_at, split_of, value_of}
use Rattle.fp_tree.specs.Trees.{Leaf, tree_splits}
use Rattle.fp_certificate_lines.specs.declared.certificates.Node.{Node as Line}
use Rattle.fp_certificate_lines.specs.declared.certificates.Node.TheVariants as line
use Rattle.fp_session_history.specs.Notes.{History, worth_of}
use Rattle.fp_session_history.specs.declared.notes.SplitNote.{SplitNote}
use Rattle.fp_session.specs.declared.payloads.Payload.{Payload}
use Rattle.fp_session.specs.Nodes.{split_note}

-- the line of a node: its split, or how a leaf is valued
abbrev pub line_of : Node Payload → Line
line_of n = elim (split_of n) as (λ o. Line) [ None ↦ line.Leaf n.payload.valuation | Some split ↦ line.Branch split ]

-- the lines of nodes
abbrev pub lines_of : List (Node Payload) → List Line
lines_of nodes = map line_of nodes

-- the notes on the splits among nodes
abbrev pub notes_of : List (Node Payload) → List SplitNote
notes_of nodes = map (λ (n : Node Payload). split_note n.payload) (tree_splits fork_of nodes)

-- what a leaf is worth, in whole units of money, rounded up by the unit
abbrev pub leaf_worth : History → Leaf (Node Payload) → ℕ
leaf_worth h l = worth_of h (value_of l.node)

-- a number is a ceiling, or the least below it that one of the first n leaves is worth which aren't
-- empty
pub record IsLeastBelow (h : History) (ceiling : ℕ) (nodes : List (Node Payload)) (n least : ℕ) : Type 0 where
  pub within : least ≤ ceiling
  pub each : (k : ℕ) (l : Leaf (Node Payload)) → k < n → leaf_at nodes k ≡ Some l → l.node.payload.empty ≡ false → least ≤ leaf_worth h l
  pub some : least < ceiling → (k : ℕ) × IsSomeAnd (leaf_at nodes k) (λ (l : Leaf (Node Payload)). (l.node.payload.empty ≡ false) × (least ≡ leaf_worth h l))

-- what is said of a leaf's worth below a ceiling: none where it is empty, or worth at least that
abbrev pub IsWorthBelow : History → ℕ → Leaf (Node Payload) → Option ℕ → Type 0
IsWorthBelow h ceiling l None = (l.node.payload.empty ≡ true) ⊎ (ceiling ≤ leaf_worth h l)
IsWorthBelow h ceiling l (Some worth) = (l.node.payload.empty ≡ false) × (worth ≡ leaf_worth h l) × (worth < ceiling)
