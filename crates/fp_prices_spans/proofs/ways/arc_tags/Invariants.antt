use Rattle.fp_prices_spans.specs.TaggedEdges.{AreArcTags}
use Rattle.fp_prices_spans.proofs.ways.arc_tags.Given as goal

-- the edges so far have their tags
abbrev pub invariant-loop-edge : goal.invariant-loop-edge
invariant-loop-edge l = AreArcTags l.network l.edge l.tags.items
