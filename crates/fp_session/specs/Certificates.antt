-- The certificate of a search that has ended, and all that is shown of it.
use Rattle.std.specs.Prelude.{ℕ, ◌==◌, ◌-◌, ◌^◌, ◌<◌, ◌≡◌, List, [], All, false, length, replicate, Option, Some, None, if◌then◌else◌}
use Rattle.fp_model.specs.declared.limits.TheConstants.{SCALE}
use Rattle.fp_tree.specs.Nodes.{leaf_count}
use Rattle.fp_timetable.specs.Lines.{AreLegLines, AreTruckLines, LegExists, TruckExists, routes_from}
use Rattle.fp_prices.specs.Tables.{AreCountable}
use Rattle.fp_prices_gifts.specs.declared.gifts.Gift.{Gift}
use Rattle.fp_prices_spans.specs.Spans.{ClassSpan}
use Rattle.fp_certificate_lines.specs.declared.certificates.Answer.{Answer}
use Rattle.fp_certificate_lines.specs.declared.certificates.Answer.TheVariants.{Optimal, Unfinished}
use Rattle.fp_certificate_lines.specs.declared.certificates.Node.{Node}
use Rattle.fp_certificate_lines.specs.declared.certificates.Node.TheVariants as node
use Rattle.fp_certificate_lines.specs.declared.certificates.Spent.TheVariants.{Branches, Rounds, Time}
use Rattle.fp_certificate_lines.specs.Ranges.{IsInRange}
use Rattle.fp_certificate_lines.specs.Statements.{Statement}
use Rattle.fp_certificate_rules.specs.Accepted.{IsAccepted}
use Rattle.fp_certificate_rules.specs.Plans.{routes_of, stated_cost}
use Rattle.fp_duals.specs.PriceLines.{AreWithinLimits}
use Rattle.fp_session_history.specs.declared.endings.Left.{Left}
use Rattle.fp_session_history.specs.declared.endings.Left.TheVariants.{Nothing, Several, Timing, Unsettled}
use Rattle.fp_session_history.specs.Solutions.{IsEarnedSolution, Solution}
use Rattle.fp_session.specs.declared.searches.Search.{Search}
use Rattle.fp_duals_leaves.specs.PriceLines.{AreFewLines}
use Rattle.fp_duals_leaves.specs.Prices.{PriceLists}
use Rattle.fp_session.specs.Searches.{history}
use Rattle.fp_session.specs.TreeLines.{IsLeastBelow, lines_of, notes_of}

-- the least that a leaf of the search is worth which isn't empty, where that is below the cost
abbrev pub IsBound : Search → PriceLists → ℕ → Type 0
IsBound s prices bound = IsLeastBelow (history s prices) s.cost s.tree (leaf_count s.tree) bound

-- the answer of a search, by what it left
abbrev pub IsAnswer : Search → PriceLists → Left → Answer → Type 0
IsAnswer s prices Nothing (Optimal cost) = cost ≡ s.cost
IsAnswer s prices (Timing leaf relaxed) (Unfinished cost bound Rounds) = (cost ≡ s.cost) × IsBound s prices bound
IsAnswer s prices (Several leaf shipment) (Unfinished cost bound Branches) = (cost ≡ s.cost) × IsBound s prices bound
IsAnswer s prices (Unsettled leaf) (Unfinished cost bound Time) = (cost ≡ s.cost) × IsBound s prices bound
IsAnswer s prices left answer = ⊥

-- the scale that a certificate names: none where it is 1,000,000
abbrev pub named_scale : ℕ → Option ℕ
named_scale scale = if scale == SCALE then None else Some scale

-- a certificate has an answer, the lines of the incumbent, the added points, the prices, of which there
-- are few, none of them by moments, and the tree of a search
pub record IsCertificate (s : Search) (prices : PriceLists) (stated : Answer) (c : Statement) : Type 0 where
  pub answer : c.answer ≡ stated
  pub scale : c.scale ≡ named_scale s.instance.scale
  pub legs : AreLegLines s.instance s.incumbent c.legs
  pub routes : routes_from c.legs 0 s.instance.shipments ≡ s.incumbent
  pub legs_exist : All (LegExists s.instance) c.legs
  pub trucks : AreTruckLines s.instance s.incumbent c.trucks
  pub trucks_exist : All (TruckExists s.instance) c.trucks
  pub points : c.points ≡ s.points.added
  pub tables : c.tables ≡ prices.tables
  pub spans : c.spans ≡ prices.spans
  pub gifts : c.gifts ≡ prices.gifts
  pub moments : c.moments ≡ replicate (length prices.tables) false
  pub unit : c.unit ≡ prices.unit
  pub within : AreWithinLimits prices.tables
  pub few : AreFewLines prices.tables prices.spans prices.gifts
  pub tree : c.tree ≡ lines_of s.tree

-- a leaf is valued under all its sides, and there is no narrowing
abbrev pub IsWhole : Node → Type 0
IsWhole (node.Branch split) = Unit {0}
IsWhole (node.Leaf valuation) = valuation.sides ≡ None
IsWhole (node.Narrow narrowing) = ⊥

-- the certificate names this unit; without one there are no spans and no gifts, and each leaf is valued
-- under all its sides, so it means what it did before there were any
pub record IsPricedBy (own : Option ℕ) (c : Statement) : Type 0 where
  pub unit : c.unit ≡ own
  pub without : own ≡ None → All (λ (spans : List ClassSpan). spans ≡ []) c.spans
  pub given : own ≡ None → All (λ (gifts : List Gift). gifts ≡ []) c.gifts
  pub whole : own ≡ None → All IsWhole c.tree

-- all that is shown of a search that has ended: its certificate is accepted, and in range and
-- countable, so that it can be written and read again; its price lines are few; it tells the incumbent
-- and what that costs; and what it shows is earned, with the notes of the search
pub record IsShown (s : Search) (unit : Option ℕ) (kept : Left) (x : Solution) : Type 0 where
  pub accepted : IsAccepted s.instance s.windows x.certificate
  pub range : IsInRange s.instance x.certificate
  pub countable : AreCountable s.instance x.certificate.tables
  pub few : All (λ (spans : List ClassSpan). length spans < 2 ^ 32 - 1) x.certificate.spans
  pub lines : AreFewLines x.certificate.tables x.certificate.spans x.certificate.gifts
  pub priced : IsPricedBy unit x.certificate
  pub scale : x.certificate.scale ≡ named_scale s.instance.scale
  pub plan : routes_of s.instance x.certificate ≡ s.incumbent
  pub cost : stated_cost x.certificate.answer ≡ s.cost
  pub earned : IsEarnedSolution s.instance s.windows s.budget s.started x
  pub trace : x.trace ≡ s.trace.items
  pub splits : x.splits ≡ notes_of s.tree
  pub left : x.left ≡ kept
