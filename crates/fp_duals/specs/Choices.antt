-- The prices that are chosen for a leaf, and the tables with them.
use Rattle.std.specs.Prelude.{◌≤◌, ◌≡◌, ◌⊎◌, List}
use Rattle.fp_flatnet.specs.Tables.{windows_in}
use Rattle.fp_longestarcs.specs.Networks.{points_in}
use Rattle.fp_prices.specs.declared.leaf_prices.Kind.{Kind}
use Rattle.fp_prices.specs.Rounds.{LeafModel}
use Rattle.fp_prices.specs.Shares.{ClassShare}
use Rattle.fp_duals.specs.declared.starts.Start.{Start}
use Rattle.fp_duals.specs.Improvements.{AddsTable}
use Rattle.fp_duals.specs.Starts.{EachStart, IsAboveWhole, IsStart, IsStartKind}

-- prices at least as good as the six starting ones, by the tables after, which are those before or have one more that is better
pub record IsChoice (leaf : LeafModel) (before after : List (List ClassShare)) (inherited : Kind) (choice : Start) : Type 0 where
  pub start : IsStart leaf after choice
  pub best : EachStart leaf.setting.problem (windows_in leaf.setting.windows) (points_in leaf.setting.network) leaf.sides before inherited (λ other. other ≤ choice.value)
  pub above : IsAboveWhole leaf before choice.value
  pub added : ((after ≡ before) × IsStartKind inherited choice.kind)
      ⊎ AddsTable leaf.setting.problem (windows_in leaf.setting.windows) (points_in leaf.setting.network) leaf.sides before after inherited choice.kind choice.value
