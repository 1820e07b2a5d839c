-- What a search knows of the nodes of its tree.
use Rattle.std.specs.Prelude.{ℕ, ◌≤◌, ◌≡◌, ◌≢◌, ◌⊎◌, ⊤, List, length, false, true, MatchBool, IfSome, IsSomeAnd, None, Option}
use Rattle.fp_flatnet.specs.Tables.{windows_in}
use Rattle.fp_tree.specs.declared.sides.Side.{Side}
use Rattle.fp_tree.specs.Nodes.{Node, closed_of, fork_of, value_of}
use Rattle.fp_tree.specs.Sides.{Fork}
use Rattle.fp_tree.specs.Trees.{Branch, Leaf}
use Rattle.fp_prices.specs.declared.leaf_prices.Kind.TheVariants.{Even}
use Rattle.fp_prices.specs.declared.leaf_prices.LeafPrice.{LeafPrice}
use Rattle.fp_prices.specs.Tables.{HasKind}
use Rattle.fp_certificate_lines.specs.declared.certificates.Valuation.{Valuation}
use Rattle.fp_certificate_lines.specs.Ranges.{IsSplitInRange}
use Rattle.fp_session_history.specs.declared.notes.SplitNote.{SplitNote}
use Rattle.fp_session_history.specs.Divisions.{Divides}
use Rattle.fp_session_history.specs.Notes.{History, last_round, worth_of}
use Rattle.fp_session_history.specs.PrintedLeaves.{IsEmptyAt}
use Rattle.fp_session_history.specs.Splits.{IsEarnedAt, IsEarnedSplit}
use Rattle.fp_session.specs.declared.kept.Kept.{Kept}
use Rattle.fp_session.specs.declared.payloads.Payload.{Payload}

-- a price is one of the search's: as of a round that there was, and by a table that there is
pub record IsPriceOf (h : History) (price : LeafPrice) : Type 0 where
  pub round : price.round ≤ last_round h
  pub kind : HasKind h.tables price.kind

-- a leaf is earned as it is valued, and this is its value
pub record IsEarnedAs (h : History) (sides : List Side) (v : Valuation) (value : ℕ) : Type 0 where
  pub earned : IsEarnedAt h sides v
  pub is : value ≡ earned.value

-- a leaf is valued under no more sides than it has, and under all of them where the search has no unit
pub record IsValuedUnder (h : History) (sides : List Side) (v : Valuation) : Type 0 where
  pub few : IfSome v.sides (λ count. count ≤ length sides)
  pub whole : h.unit ≡ None → v.sides ≡ None

-- what a leaf keeps is true under its sides: it is empty where it's marked so, and otherwise this is
-- its value
pub record IsKept (h : History) (sides : List Side) (payload : Payload) (value : ℕ) : Type 0 where
  pub price : IsPriceOf h payload.valuation.price
  pub under : IsValuedUnder h sides payload.valuation
  pub worth : MatchBool payload.empty (IsEmptyAt h sides payload.valuation) (IsEarnedAs h sides payload.valuation value)

-- a leaf of which this is kept is empty, or worth no less than so much
abbrev pub IsNoLess : ℕ → Kept → Type 0
IsNoLess least kept = (kept.payload.empty ≡ true) ⊎ (least ≤ kept.value)

-- a price by which no leaf is worth less as of the same round where sides are added: none of its classes is free since it is forced, and
-- it doesn't depend on how many shipments may use a class
pub record IsSteady (price : LeafPrice) : Type 0 where
  pub plain : price.forced ≡ false
  pub shared : price.kind ≢ Even

-- it is so of a leaf below one of which that is kept, where spans are sought, which a unit tells, or where the price of that one is steady
abbrev pub IsRaisedTo : Option ℕ → (above : Kept) → Kept → Type 0
IsRaisedTo unit above kept = (IsSomeAnd unit (λ (u : ℕ). ⊤) ⊎ IsSteady above.payload.valuation.price) → IsNoLess above.value kept

-- this is kept of a leaf
pub record IsKeptAs (l : Leaf (Node Payload)) (kept : Kept) : Type 0 where
  pub payload : l.node.payload ≡ kept.payload
  pub value : value_of l.node ≡ kept.value

-- a leaf wasn't known to be empty, and its value is at most what is kept of it now
pub record HasNoMore (l : Leaf (Node Payload)) (now : Kept) : Type 0 where
  pub some : l.node.payload.empty ≡ false
  pub value : value_of l.node ≤ now.value

-- a leaf has nothing to search for: it is empty, or worth at least the cost
abbrev pub IsSettled : History → (cost : ℕ) → Payload → (value : ℕ) → Type 0
IsSettled h cost payload value = (payload.empty ≡ true) ⊎ (cost ≤ worth_of h value)

-- a leaf of the tree: what it keeps is true, and where it is closed it is settled
pub record IsLeafOf (h : History) (cost : ℕ) (l : Leaf (Node Payload)) : Type 0 where
  pub kept : IsKept h l.sides l.node.payload (value_of l.node)
  pub closed : closed_of l.node ≡ true → IsSettled h cost l.node.payload (value_of l.node)

-- the note on a split
abbrev pub split_note : Payload → SplitNote
split_note payload = record { incumbent = payload.incumbent; valuation = payload.valuation }

-- a split of the tree: it is earned by its note, it is in range, and it divides the departures of a
-- shipment or the trucks of an arc
pub record IsSplitOf (h : History) (started cost : ℕ) (b : Branch (Node Payload)) : Type 0 where
  pub price : IsPriceOf h b.node.payload.valuation.price
  pub earned : IsEarnedSplit h started cost b.sides (split_note b.node.payload)
  pub range : IfSome (fork_of b.node) (λ (f : Fork). IsSplitInRange h.problem f.split)
  pub divides : IfSome (fork_of b.node) (Divides h.unit h.problem (windows_in h.windows) b.sides)
