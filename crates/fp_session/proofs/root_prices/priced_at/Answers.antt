-- The leaf is priced over the network of the last round, and kept so.
use Rattle.std.proofs.Common.{◌≡◌, ◌≤◌, false, List, ◌∙◌, sym, subst}
use Rattle.std.specs.Prelude.{IsSomeAnd}
use Rattle.fp_timenodes.specs.declared.places.TheConstants.{MOST_POINTS}
use Rattle.fp_longestarcs.specs.Networks.{TimedNetwork, point_count}
use Rattle.fp_longestarcs.specs.Whole.{IsWholeNetwork}
use Rattle.fp_tree.specs.declared.sides.Side.{Side}
use Rattle.fp_tree.specs.Nodes.{Node, leaf_at}
use Rattle.fp_tree.specs.Trees.{Leaf}
use Rattle.fp_session.specs.declared.kept.Kept.{Kept}
use Rattle.fp_session.specs.declared.outcomes.Outcome.TheVariants as outcome
use Rattle.fp_session.specs.declared.payloads.Payload.{Payload}
use Rattle.fp_session.specs.Nodes.{IsKeptAs}
use Rattle.fp_session.specs.Outcomes.{IsOutcome}
use Rattle.fp_session.specs.Preparations.{IsRaised}
use Rattle.fp_session.specs.Searches.{history}
use Rattle.fp_session.proofs.OpenMoves.{AtOpenLeaf-both, raised-there, still-open, was-kept}
use Rattle.fp_session.proofs.PointLimits.{few-points}
use Rattle.fp_session.proofs.SameHands.{IsSearch-grown}
use Rattle.fp_session.proofs.root_prices.priced_at.Goals as goal

pub over-requires-clause-whole : goal.over-requires-clause-whole
over-requires-clause-whole g c = subst (IsWholeNetwork c.args.search.now.instance) (sym c.in_ok-network.ensures) c.requires.search.network.whole

pub over-requires-clause-few : goal.over-requires-clause-few
over-requires-clause-few g c = subst (λ (net : TimedNetwork). point_count net ≤ MOST_POINTS) (sym c.in_ok-network.ensures) (few-points c.args.search.now c.args.prices.now c.requires.search)

pub improved-requires-clause-kept : goal.improved-requires-clause-kept
improved-requires-clause-kept g c =
    was-kept c.args.search.now c.args.prices.now c.args.prices.now c.args.number c.in_ok-leaf.leaf.sides c.kept_at-old.result
    (AtOpenLeaf-both c.args.search.now.tree c.args.number (λ (l : Leaf (Node Payload)). IsKeptAs l c.kept_at-old.result)
    (still-open c.args.search.now.tree c.args.number (λ l. l.node.payload.empty ≡ false) c.requires.leaf.some) c.kept_at-old.ensures)
    (subst (λ (ss : List Side). IsSomeAnd (leaf_at c.args.search.now.tree c.args.number) (λ (l : Leaf (Node Payload)). l.sides ≡ ss)) (sym (c.in_ok-leaf.ensures.sides ∙ c.deref.ensures.value)) c.in_ok-sides.ensures) c.requires.search

pub plan_of_walks-requires-clause-search : goal.plan_of_walks-requires-clause-search
plan_of_walks-requires-clause-search g c = IsSearch-grown c.args.search.now c.args.prices.now c.improved.new.prices c.improved.ensures.grown c.requires.going c.requires.search

pub returns-clause-comes : goal.returns-clause-comes
returns-clause-comes g c =
    let came : IsOutcome (history c.args.search.now c.improved.new.prices) c.in_ok-leaf.leaf.sides c.kept_at-old.result (outcome.Open c.in-Open.kept c.in-Open.walks) =
    subst (IsOutcome (history c.args.search.now c.improved.new.prices) c.in_ok-leaf.leaf.sides c.kept_at-old.result) c.in-Open.is c.in_ok-improved.ensures.outcome in
    record {
      leaf = subst (λ (kept : Kept). IsRaised c.args.search.now c.improved.new.prices (record { number = c.args.number; kept = kept })) (sym c.noted-kept.ensures)
          (raised-there c.args.search.now c.args.prices.now c.improved.new.prices c.args.number c.in_ok-leaf.leaf.sides c.kept_at-old.result
          (AtOpenLeaf-both c.args.search.now.tree c.args.number (λ (l : Leaf (Node Payload)). IsKeptAs l c.kept_at-old.result)
          (still-open c.args.search.now.tree c.args.number (λ l. l.node.payload.empty ≡ false) c.requires.leaf.some) c.kept_at-old.ensures)
          (subst (λ (ss : List Side). IsSomeAnd (leaf_at c.args.search.now.tree c.args.number) (λ (l : Leaf (Node Payload)). l.sides ≡ ss)) (sym (c.in_ok-leaf.ensures.sides ∙ c.deref.ensures.value)) c.in_ok-sides.ensures)
          c.in-Open.kept c.args.pricing.now.improved came.0.kept came.1);
      cheaper = c.in_ok-cheaper-in-Open.ensures;
    }
