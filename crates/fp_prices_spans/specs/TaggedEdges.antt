-- The edges of a network's graph, tagged by the arcs of their classes, and least costs of walks that have such tags.
use Rattle.std.specs.Prelude.{ℕ, ◌≡◌, ◌<◌, List, length, nat_lt, Option, None, Some, if◌then◌else◌}
use Rattle.fp_labels.specs.TaggedWalks.{IsTaggedDistance, tag_of}
use Rattle.fp_model.specs.Numbered.{shipment_at}
use Rattle.fp_flatnet.specs.Tables.{windows_in}
use Rattle.fp_longestarcs.specs.Networks.{TimedNetwork, class_count, points_in}
use Rattle.fp_allowed.specs.Heads.{heads_within}
use Rattle.fp_allowed.specs.Listing.{class_at}
use Rattle.fp_prices.specs.Points.{edges_by, first_node, last_node}
use Rattle.fp_prices.specs.Rounds.{LeafModel}

-- the tag of the edge with a number: the arc of its class, and none for a holding edge
abbrev pub arc_tag : TimedNetwork → ℕ → Option ℕ
arc_tag net n = if nat_lt n (class_count net) then Some (class_at net n).arc else None

-- so many edges have these tags
pub record AreArcTags (net : TimedNetwork) (edges : ℕ) (tags : List (Option ℕ)) : Type 0 where
  pub count : length tags ≡ edges
  pub each : (n : ℕ) → n < edges → tag_of tags n ≡ arc_tag net n

-- over the graph of the points by the heads of the shipment with the number k within its windows, where these are the costs of the edges, the
-- least cost of a walk from its origin's first point to its destination's last that has these arcs as tags
pub record IsDistanceVia (leaf : LeafModel) (ways : List ℕ) (k : ℕ) (costs : List (Option ℕ)) (cost : Option ℕ) : Type 0 where
  pub tags : List (Option ℕ)
  pub are : AreArcTags leaf.setting.network (length costs) tags
  pub is : IsTaggedDistance (edges_by leaf.setting.problem leaf.setting.network (heads_within leaf.setting.problem (windows_in leaf.setting.windows) (points_in leaf.setting.network) k)) costs tags ways
      (first_node leaf.setting.network (shipment_at leaf.setting.problem k).from) (last_node leaf.setting.network (shipment_at leaf.setting.problem k).to) cost
