-- What comes of improving the leaf decides.
use Rattle.std.proofs.Common.{◌≡◌, ◌<◌, ◌≤◌, List, length, sym, ◌∙◌, subst}
use Rattle.std.specs.Prelude.{IfSome, IsSomeAnd, Option}
use Rattle.fp_timenodes.specs.declared.places.TheConstants.{MOST_POINTS}
use Rattle.fp_longestarcs.specs.Networks.{TimedNetwork, point_count}
use Rattle.fp_longestarcs.specs.Whole.{IsWholeNetwork}
use Rattle.fp_tree.specs.declared.layout.TheConstants.{MOST_SPLITS}
use Rattle.fp_tree.specs.declared.sides.Side.{Side}
use Rattle.fp_tree.specs.Nodes.{Node, leaf_at}
use Rattle.fp_tree.specs.Trees.{Leaf}
use Rattle.fp_session_history.specs.Notes.{worth_of}
use Rattle.fp_session.specs.declared.kept.Kept.{Kept}
use Rattle.fp_session.specs.declared.outcomes.Outcome.TheVariants as outcome
use Rattle.fp_session.specs.declared.payloads.Payload.{Payload}
use Rattle.fp_session.specs.declared.planning.Planned.{Planned}
use Rattle.fp_session.specs.Searches.{history}
use Rattle.fp_session.specs.Moves.{IsMove, LeavesNoLess}
use Rattle.fp_session.specs.Outcomes.{IsOutcome}
use Rattle.fp_session.proofs.Improvements.{HaveGrown-twice}
use Rattle.fp_session.proofs.SameHands.{IsSearch-grown}
use Rattle.fp_session.proofs.OpenMoves.{below-cost, dear-move, empty-move, found-move, late-move, late-move-grown, was-kept}
use Rattle.fp_session.proofs.PointLimits.{few-points}
use Rattle.fp_session.proofs.planning.open_move.Goals as goal

pub over-requires-clause-whole : goal.over-requires-clause-whole
over-requires-clause-whole g c = subst (IsWholeNetwork c.args.search.now.instance) (sym c.in_ok-network.ensures) c.requires.search.network.whole

pub over-requires-clause-few : goal.over-requires-clause-few
over-requires-clause-few g c = subst (λ (net : TimedNetwork). point_count net ≤ MOST_POINTS) (sym c.in_ok-network.ensures) (few-points c.args.search.now c.args.prices.now c.requires.search)

pub series_move-requires-clause-sides : goal.series_move-requires-clause-sides
series_move-requires-clause-sides g c =
    subst (λ (ss : List Side). IsSomeAnd (leaf_at c.args.search.now.tree c.args.number) (λ (l : Leaf (Node Payload)). l.sides ≡ ss)) (sym (c.in_ok-leaf.ensures.sides ∙ c.deref.ensures.value)) c.in_ok-sides.ensures.sides

pub returns-in-Some-clause-planned : goal.returns-in-Some-clause-planned
returns-in-Some-clause-planned g c =
    subst (λ (o : Option Planned). IfSome o (λ p. IsMove c.args.search.now c.args.prices.now c.args.number p.kept p.planned)) c.in-Some.is c.in_ok-planned.ensures.planned

pub chosen-requires-clause-kept : goal.chosen-requires-clause-kept
chosen-requires-clause-kept g c =
    was-kept c.args.search.now c.args.prices.now c.args.prices.now c.args.number c.in_ok-leaf.leaf.sides c.args.old c.requires.old
    (subst (λ (ss : List Side). IsSomeAnd (leaf_at c.args.search.now.tree c.args.number) (λ (l : Leaf (Node Payload)). l.sides ≡ ss)) (sym (c.in_ok-leaf.ensures.sides ∙ c.deref.ensures.value)) c.in_ok-sides.ensures.sides) c.requires.search

pub returns-in-Empty-clause-planned : goal.returns-in-Empty-clause-planned
returns-in-Empty-clause-planned g c =
    let came : IsOutcome (history c.args.search.now c.chosen.new.prices) c.in_ok-leaf.leaf.sides c.args.old (outcome.Empty c.in-Empty.kept) =
    subst (IsOutcome (history c.args.search.now c.chosen.new.prices) c.in_ok-leaf.leaf.sides c.args.old) c.in-Empty.is c.in_ok-kept.ensures.outcome in
    empty-move c.args.search.now c.args.prices.now c.chosen.new.prices c.args.number c.in_ok-leaf.leaf.sides c.args.old c.requires.old
    (subst (λ (ss : List Side). IsSomeAnd (leaf_at c.args.search.now.tree c.args.number) (λ (l : Leaf (Node Payload)). l.sides ≡ ss)) (sym (c.in_ok-leaf.ensures.sides ∙ c.deref.ensures.value)) c.in_ok-sides.ensures.sides) c.in-Empty.kept came.0 came.1

pub returns-then-is_dear-clause-planned : goal.returns-then-is_dear-clause-planned
returns-then-is_dear-clause-planned g c =
    let came : IsOutcome (history c.args.search.now c.chosen.new.prices) c.in_ok-leaf.leaf.sides c.args.old (outcome.Open c.in-Open.kept c.in-Open.walks) =
    subst (IsOutcome (history c.args.search.now c.chosen.new.prices) c.in_ok-leaf.leaf.sides c.args.old) c.in-Open.is c.in_ok-kept.ensures.outcome in
    dear-move c.args.search.now c.args.prices.now c.chosen.new.prices c.args.number c.in_ok-leaf.leaf.sides c.args.old c.requires.old
    (subst (λ (ss : List Side). IsSomeAnd (leaf_at c.args.search.now.tree c.args.number) (λ (l : Leaf (Node Payload)). l.sides ≡ ss)) (sym (c.in_ok-leaf.ensures.sides ∙ c.deref.ensures.value)) c.in_ok-sides.ensures.sides) c.in-Open.kept c.in-Open.walks.items came.0 c.requires.some came.1 (c.is_dear.ensures.0 c.if-is_dear.true)

pub returns-then-is_over-clause-planned : goal.returns-then-is_over-clause-planned
returns-then-is_over-clause-planned g c =
    let came : IsOutcome (history c.args.search.now c.chosen.new.prices) c.in_ok-leaf.leaf.sides c.args.old (outcome.Open c.in-Open.kept c.in-Open.walks) =
    subst (IsOutcome (history c.args.search.now c.chosen.new.prices) c.in_ok-leaf.leaf.sides c.args.old) c.in-Open.is c.in_ok-kept.ensures.outcome in
    late-move c.args.search.now c.args.prices.now c.chosen.new.prices c.args.number c.in_ok-leaf.leaf.sides c.args.old c.requires.old
    (subst (λ (ss : List Side). IsSomeAnd (leaf_at c.args.search.now.tree c.args.number) (λ (l : Leaf (Node Payload)). l.sides ≡ ss)) (sym (c.in_ok-leaf.ensures.sides ∙ c.deref.ensures.value)) c.in_ok-sides.ensures.sides) c.in-Open.kept c.in-Open.walks.items c.late.result came.0 c.requires.some came.1
    (below-cost (worth_of (history c.args.search.now c.chosen.new.prices) c.in-Open.kept.value) c.args.search.now.cost c.is_dear.result c.if-is_dear.false c.is_dear.ensures.1) c.late.ensures

pub found_at-requires-clause-search : goal.found_at-requires-clause-search
found_at-requires-clause-search g c = IsSearch-grown c.args.search.now c.args.prices.now c.chosen.new.prices c.chosen.ensures.grown c.requires.going c.requires.search

pub move_by-requires-clause-search : goal.move_by-requires-clause-search
move_by-requires-clause-search g c = IsSearch-grown c.args.search.now c.args.prices.now c.chosen.new.prices c.chosen.ensures.grown c.requires.going c.requires.search

pub move_by-requires-clause-below : goal.move_by-requires-clause-below
move_by-requires-clause-below g c =
    subst (λ (k : Kept). worth_of (history c.args.search.now c.chosen.new.prices) k.value < c.args.search.now.cost) (sym c.in_ok-found-in-Open.ensures.kept)
    (below-cost (worth_of (history c.args.search.now c.chosen.new.prices) c.in-Open.kept.value) c.args.search.now.cost c.is_dear.result c.if-is_dear.false c.is_dear.ensures.1)

pub returns-then-is_over-2-clause-planned : goal.returns-then-is_over-2-clause-planned
returns-then-is_over-2-clause-planned g c =
    let came : IsOutcome (history c.args.search.now c.chosen.new.prices) c.in_ok-leaf.leaf.sides c.args.old (outcome.Open c.in-Open.kept c.in-Open.walks) =
    subst (IsOutcome (history c.args.search.now c.chosen.new.prices) c.in_ok-leaf.leaf.sides c.args.old) c.in-Open.is c.in_ok-kept.ensures.outcome in
    late-move-grown c.args.search.now c.args.prices.now c.move_by.new.prices c.args.number c.in_ok-leaf.leaf.sides c.args.old c.requires.old
    (subst (λ (ss : List Side). IsSomeAnd (leaf_at c.args.search.now.tree c.args.number) (λ (l : Leaf (Node Payload)). l.sides ≡ ss)) (sym (c.in_ok-leaf.ensures.sides ∙ c.deref.ensures.value)) c.in_ok-sides.ensures.sides) c.chosen.new.prices c.in-Open.kept c.in-Open.walks.items c.late-then-is_over-2.result came.0 c.chosen.ensures.grown.prices c.move_by.ensures.grown c.requires.some came.1
    (below-cost (worth_of (history c.args.search.now c.chosen.new.prices) c.in-Open.kept.value) c.args.search.now.cost c.is_dear.result c.if-is_dear.false c.is_dear.ensures.1) c.late-then-is_over-2.ensures

pub returns-clause-grown : goal.returns-clause-grown
returns-clause-grown g c = HaveGrown-twice c.args.search.now.instance c.args.search.now.windows c.args.prices.now c.chosen.new.prices c.move_by.new.prices c.chosen.ensures.grown c.move_by.ensures.grown

pub returns-clause-planned : goal.returns-clause-planned
returns-clause-planned g c =
    let came : IsOutcome (history c.args.search.now c.chosen.new.prices) c.in_ok-leaf.leaf.sides c.args.old (outcome.Open c.in-Open.kept c.in-Open.walks) =
    subst (IsOutcome (history c.args.search.now c.chosen.new.prices) c.in_ok-leaf.leaf.sides c.args.old) c.in-Open.is c.in_ok-kept.ensures.outcome in
    let below : worth_of (history c.args.search.now c.chosen.new.prices) c.in-Open.kept.value < c.args.search.now.cost =
    below-cost (worth_of (history c.args.search.now c.chosen.new.prices) c.in-Open.kept.value) c.args.search.now.cost c.is_dear.result c.if-is_dear.false c.is_dear.ensures.1 in
    found-move c.args.search.now c.args.prices.now c.move_by.new.prices c.args.number c.in_ok-leaf.leaf.sides c.args.old c.requires.old
    (subst (λ (ss : List Side). IsSomeAnd (leaf_at c.args.search.now.tree c.args.number) (λ (l : Leaf (Node Payload)). l.sides ≡ ss)) (sym (c.in_ok-leaf.ensures.sides ∙ c.deref.ensures.value)) c.in_ok-sides.ensures.sides) c.chosen.new.prices c.in-Open.kept c.in-Open.walks.items c.in_ok-planned-in-Open.planned came.0 c.chosen.ensures.grown.prices c.move_by.ensures.grown c.requires.some came.1 below
    c.in_ok-planned-in-Open.ensures.planned
    (subst (λ (k : Kept). LeavesNoLess c.chosen.new.prices.unit k c.in_ok-planned-in-Open.planned) c.in_ok-found-in-Open.ensures.kept c.in_ok-planned-in-Open.ensures.no_less)

pub move_by-requires-clause-deep : goal.move_by-requires-clause-deep
move_by-requires-clause-deep g c = subst (λ (ss : List Side). length ss ≤ MOST_SPLITS) (sym (c.in_ok-leaf.ensures.sides ∙ c.deref.ensures.value)) c.in_ok-sides.ensures.deep
