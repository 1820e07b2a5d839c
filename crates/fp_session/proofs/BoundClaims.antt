-- No plan within the windows costs less than the least that a leaf of a search is worth, whatever the
-- search has yet to do.
use Rattle.std.proofs.Common.{ℕ, false, [], length, replicate, arith}
use Rattle.std.specs.Prelude.{None}
use Rattle.fp_flatnet.specs.Tables.{windows_in}
use Rattle.fp_tree.specs.Nodes.{fork_of as fork_at, value_of}
use Rattle.fp_tree.specs.Trees.{IsTree, Leaf}
use Rattle.fp_certificate_lines.specs.declared.certificates.Answer.TheVariants.{Direct}
use Rattle.fp_certificate_lines.specs.declared.certificates.Node.{Node as Line}
use Rattle.fp_certificate_lines.specs.Statements.{Statement}
use Rattle.fp_certificate_rules.specs.Claims.{NoPlanWithinCheaper}
use Rattle.fp_certificate_rules.specs.Leaves.{IsLeafWorth}
use Rattle.fp_certificate_rules.proofs.BareTrees.{AreLeavesWorth-plain, HasTree-plain}
use Rattle.fp_certificate_rules.proofs.Claims.{AreLeavesWorth-NoPlanWithinCheaper}
use Rattle.fp_certificate_rules.proofs.KeptPrices.{HasPrices-kept}
use Rattle.fp_duals_leaves.specs.Prices.{PriceLists}
use Rattle.fp_session_history.specs.Notes.{History, added_of}
use Rattle.fp_session.specs.declared.searches.Search.{Search}
use Rattle.fp_session.specs.Certificates.{IsBound}
use Rattle.fp_session.specs.Searches.{IsSearch, history}
use Rattle.fp_session.specs.TreeLines.{lines_of}
use Rattle.fp_session.proofs.LeafWorths.{bound-le, leaf-of, worth-kept}
use Rattle.fp_session.proofs.PriceRanges.{prices-hold, spans-in_range, unit-in_range}
use Rattle.fp_session.proofs.PrintedTree.{IsTree-lines, leaves-printed, lines-nodes, splits-lines}

module _ (s : Search) (prices : PriceLists) (search : IsSearch s prices) (whole : IsTree fork_at s.tree) where
  -- the history of the search
  abbrev h : History
  h = history s prices

  -- a statement of its points, its prices and its tree alone
  abbrev bare : Statement
  bare = record {
    answer = Direct 0;
    scale = None;
    unit = prices.unit;
    legs = [];
    trucks = [];
    points = added_of s.trace.items;
    tables = prices.tables;
    spans = prices.spans;
    gifts = prices.gifts;
    moments = replicate (length prices.tables) false;
    tree = lines_of s.tree;
  }

  pub bound-claims : (bound : ℕ) → IsBound s prices bound → NoPlanWithinCheaper s.instance (windows_in s.windows) bound
  bound-claims bound is =
      let held = prices-hold s.instance s.windows prices search.prices in
      AreLeavesWorth-NoPlanWithinCheaper s.instance s.windows bare bound search.belongs.valid
      (HasPrices-kept s.instance s.windows bare search.belongs.valid (spans-in_range s.instance s.windows prices search.prices) (unit-in_range s.instance s.windows prices search.prices)
      (record { tables = held.tables; spans = held.spans; unit = held.unit }))
      (HasTree-plain s.instance bare (lines-nodes s.tree) (IsTree-lines s.instance s.tree search.tails whole)
      (omega (arith, splits-lines s.instance s.tree search.tails whole, search.few, search.budget.branches)))
      (AreLeavesWorth-plain s.instance bare (lines-nodes s.tree) s.windows bound
      (leaves-printed s.instance s.tree search.tails whole (λ (l : Leaf Line). IsLeafWorth s.instance s.windows bare bound [] l.node l.sides)
      (λ k l at. worth-kept h (length prices.tables) bound l.sides l.node.payload (value_of l.node) (leaf-of h s.cost s.tree search.tails whole search.leaves k l at).kept
      (bound-le h s.cost s.tree search.tails whole search.leaves bound is k l at))))
