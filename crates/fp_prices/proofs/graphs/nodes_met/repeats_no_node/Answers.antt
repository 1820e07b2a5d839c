use Rattle.std.proofs.Common.{ℕ, List, subst}
use Rattle.std.specs.Prelude.{◌↔◌, IsTrue}
use Rattle.fp_base_lists.specs.Distinct.{AreDistinct}
use Rattle.fp_timenodes.specs.declared.places.Place.{Place}
use Rattle.fp_prices.proofs.WalkTests.{places-distinct}
use Rattle.fp_prices.proofs.graphs.nodes_met.repeats_no_node.Goals as goal

pub returns : goal.returns
returns c =
    subst (λ (l : List (ℕ × ℕ)). IsTrue c.are_distinct.result ↔ AreDistinct l) c.in_ok-nodes.ensures
    (places-distinct c.in_ok-nodes.nodes.items c.are_distinct.result (subst (λ (l : List Place). IsTrue c.are_distinct.result ↔ AreDistinct l) c.deref.ensures.value c.are_distinct.ensures))
