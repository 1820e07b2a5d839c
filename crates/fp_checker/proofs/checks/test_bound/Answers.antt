use Rattle.std.proofs.Common.{◌≡◌, ◌≤◌, List, length, sym, ap, ◌∙◌, subst, arith}
use Rattle.std.proofs.lemmas.Result.{err_from_is_err_and}
use Rattle.fp_model.specs.Problem.{Problem}
use Rattle.fp_timenodes.specs.declared.places.AddedPoint.{AddedPoint}
use Rattle.fp_tree.specs.Trees.{tree_splits}
use Rattle.fp_certificate_lines.specs.declared.certificates.Node.{Node}
use Rattle.fp_certificate_lines.specs.Statements.{Statement}
use Rattle.fp_certificate_rules.specs.Leaves.{AreNarrowedTrees, HasTree, fork_of, narrowings_among}
use Rattle.fp_certificate_rules.specs.Points.{AreAddedPoints, ArePointsOf}
use Rattle.fp_certificate_rules.specs.Prices.{HasPrices}
use Rattle.fp_checker.proofs.Results.{Part_injective, false_refutes, Err_any}
use Rattle.fp_checker.proofs.FirstParts.{points_unmet, prices_unmet, tree_unmet, leaves_unmet, HoldBelow_all}
use Rattle.fp_checker.proofs.checks.test_bound.Goals as goal
use Rattle.fp_checker.proofs.checks.test_bound.Goals.{then-not-is_tree-via-then-not-is_tree, then-not-is_tree-via-else-not-is_tree+then-split_count}

-- nodes that are a tree of few splits and few narrowings, where they are the certificate's
has-tree : (p : Problem) (c : Statement) (nodes : List Node) → nodes ≡ c.tree → AreNarrowedTrees 1 nodes → length (tree_splits (fork_of p) nodes) ≤ 100000 → length (narrowings_among nodes) ≤ 50000 → HasTree p c
has-tree p c nodes same tree few narrowings = record {
  tree = subst (AreNarrowedTrees 1) same tree;
  few = subst (λ (xs : List Node). length (tree_splits (fork_of p) xs) ≤ 100000) same few;
  narrowings = subst (λ (xs : List Node). length (narrowings_among xs) ≤ 50000) same narrowings;
}

pub has_prices-requires-clause-countable : goal.has_prices-requires-clause-countable
has_prices-requires-clause-countable c =
    let countable = rw (← c.case.view_is) at c.requires.countable in
    countable.tables

pub has_prices-requires-clause-few : goal.has_prices-requires-clause-few
has_prices-requires-clause-few c =
    let countable = rw (← c.case.view_is) at c.requires.countable in
    countable.spans

pub has_prices-requires-clause-points : goal.has_prices-requires-clause-points
has_prices-requires-clause-points c =
    subst (λ (added : List AddedPoint). ArePointsOf c.case.inside.instance.now c.case.inside.windows.now.anchors added c.in_ok-points.points) (c.as_slice.ensures.value ∙ ap (λ (s : Statement). s.points) c.certificate.view_is)
    c.in_ok-points.ensures.points

pub are_leaves_worth-requires-clause-points : goal.are_leaves_worth-requires-clause-points
are_leaves_worth-requires-clause-points c =
    rw (← c.case.view_is)
    (subst (λ (added : List AddedPoint). ArePointsOf c.case.inside.instance.now c.case.inside.windows.now.anchors added c.in_ok-points.points) (c.as_slice.ensures.value ∙ ap (λ (s : Statement). s.points) c.certificate.view_is)
    c.in_ok-points.ensures.points)

pub are_leaves_worth-requires-clause-prices : goal.are_leaves_worth-requires-clause-prices
are_leaves_worth-requires-clause-prices c = rw (← c.case.view_is) (c.in_ok-has_prices.ensures.0 c.if-not-branch.false)

pub returns-in_err-points-clause-part : goal.returns-in_err-points-clause-part
returns-in_err-points-clause-part c =
    let e = err_from_is_err_and c.from_residual.result c.from_residual.ensures.1 in
    rw (e.1, e.2) (λ number same.
    let fails = c.in_err-points.ensures.part number (Err_any _ _ same) in
    let timetable = rw (← c.case.view_is) at c.requires.timetable in
    rw (← c.case.view_is) (points_unmet c.case.inside.instance.now c.case.inside.windows.now c.case.inside.certificate.now timetable
    (λ has.
    fails.1 (subst (AreAddedPoints c.case.inside.instance.now c.case.inside.windows.now.anchors) (sym (c.as_slice.ensures.value ∙ ap (λ (s : Statement). s.points) c.certificate.view_is)) has))
    number fails.0))

pub returns-then-not-branch-clause-part : goal.returns-then-not-branch-clause-part
returns-then-not-branch-clause-part c number same =
    let p = c.case.inside.instance.now in
    let timetable = rw (← c.case.view_is) at c.requires.timetable in
    let told : Statement = c.case.inside.certificate.now in
    let points : AreAddedPoints p c.case.inside.windows.now.anchors told.points =
    subst (AreAddedPoints p c.case.inside.windows.now.anchors) (c.as_slice.ensures.value ∙ ap (λ (s : Statement). s.points) c.certificate.view_is) c.in_ok-points.ensures.holds in
    rw (← c.case.view_is) (prices_unmet p c.case.inside.windows.now told timetable points
    (false_refutes c.in_ok-has_prices.field-0 c.if-not-branch.true c.in_ok-has_prices.ensures.1)
    number (Part_injective 5 number same))

pub returns-then-not-is_tree-clause-part : goal.returns-then-not-is_tree-clause-part
returns-then-not-is_tree-clause-part c number same =
    let p = c.case.inside.instance.now in
    let timetable = rw (← c.case.view_is) at c.requires.timetable in
    let told : Statement = c.case.inside.certificate.now in
    let points : AreAddedPoints p c.case.inside.windows.now.anchors told.points =
    subst (AreAddedPoints p c.case.inside.windows.now.anchors) (c.as_slice.ensures.value ∙ ap (λ (s : Statement). s.points) c.certificate.view_is) c.in_ok-points.ensures.holds in
    let prices : HasPrices p c.case.inside.windows.now told = c.in_ok-has_prices.ensures.0 c.if-not-branch.false in
    let nodes : c.as_slice-nodes.result.now ≡ told.tree = c.as_slice-nodes.ensures.value ∙ ap (λ (s : Statement). s.tree) c.certificate.view_is in
    rw (← c.case.view_is) (tree_unmet p c.case.inside.windows.now told timetable points prices
    (λ has.
    elim c.then-not-is_tree.branch [
      | then-not-is_tree-via-then-not-is_tree w ↦
          false_refutes c.is_tree.result w.if-not-is_tree.true c.is_tree.ensures.1 (subst (AreNarrowedTrees 1) (sym nodes) has.tree)
      | then-not-is_tree-via-else-not-is_tree+then-split_count w ↦
          omega (arith, w.split_count.ensures p, w.if-split_count.true, has.few, ap (λ (xs : List Node). length (tree_splits (fork_of p) xs)) nodes)
    ])
    number (Part_injective 6 number same))

pub returns-then-narrowing_count-gt-MOST_NARROWINGS-clause-part : goal.returns-then-narrowing_count-gt-MOST_NARROWINGS-clause-part
returns-then-narrowing_count-gt-MOST_NARROWINGS-clause-part c number same =
    let p = c.case.inside.instance.now in
    let timetable = rw (← c.case.view_is) at c.requires.timetable in
    let told : Statement = c.case.inside.certificate.now in
    let points : AreAddedPoints p c.case.inside.windows.now.anchors told.points =
    subst (AreAddedPoints p c.case.inside.windows.now.anchors) (c.as_slice.ensures.value ∙ ap (λ (s : Statement). s.points) c.certificate.view_is) c.in_ok-points.ensures.holds in
    let prices : HasPrices p c.case.inside.windows.now told = c.in_ok-has_prices.ensures.0 c.if-not-branch.false in
    let nodes : c.as_slice-nodes.result.now ≡ told.tree = c.as_slice-nodes.ensures.value ∙ ap (λ (s : Statement). s.tree) c.certificate.view_is in
    rw (← c.case.view_is) (tree_unmet p c.case.inside.windows.now told timetable points prices
    (λ has. omega (arith, c.narrowing_count.ensures, c.if-narrowing_count-gt-MOST_NARROWINGS.true, has.narrowings, ap (λ (xs : List Node). length (narrowings_among xs)) nodes))
    number (Part_injective 6 number same))

pub returns-then-not-branch-2-clause-part : goal.returns-then-not-branch-2-clause-part
returns-then-not-branch-2-clause-part c number same =
    let p = c.case.inside.instance.now in
    let timetable = rw (← c.case.view_is) at c.requires.timetable in
    let told : Statement = c.case.inside.certificate.now in
    let points : AreAddedPoints p c.case.inside.windows.now.anchors told.points =
    subst (AreAddedPoints p c.case.inside.windows.now.anchors) (c.as_slice.ensures.value ∙ ap (λ (s : Statement). s.points) c.certificate.view_is) c.in_ok-points.ensures.holds in
    let prices : HasPrices p c.case.inside.windows.now told = c.in_ok-has_prices.ensures.0 c.if-not-branch.false in
    let nodes : c.as_slice-nodes.result.now ≡ told.tree = c.as_slice-nodes.ensures.value ∙ ap (λ (s : Statement). s.tree) c.certificate.view_is in
    let tree : HasTree p told =
    has-tree p told c.as_slice-nodes.result.now nodes (c.is_tree.ensures.0 c.if-not-is_tree.false) (omega (arith, c.split_count.ensures p, c.if-split_count.false))
    (omega (arith, c.narrowing_count.ensures, c.if-narrowing_count-gt-MOST_NARROWINGS.false)) in
    let worth = rw (← c.case.view_is) at c.in_ok-are_leaves_worth.ensures in
    rw (← c.case.view_is) (leaves_unmet p c.case.inside.windows.now told timetable points prices tree
    (false_refutes c.in_ok-are_leaves_worth.field-0 c.if-not-branch-2.true worth.1)
    number (Part_injective 7 number same))

pub returns-clause-holds : goal.returns-clause-holds
returns-clause-holds c =
    let p = c.case.inside.instance.now in
    let timetable = rw (← c.case.view_is) at c.requires.timetable in
    let told : Statement = c.case.inside.certificate.now in
    let points : AreAddedPoints p c.case.inside.windows.now.anchors told.points =
    subst (AreAddedPoints p c.case.inside.windows.now.anchors) (c.as_slice.ensures.value ∙ ap (λ (s : Statement). s.points) c.certificate.view_is) c.in_ok-points.ensures.holds in
    let prices : HasPrices p c.case.inside.windows.now told = c.in_ok-has_prices.ensures.0 c.if-not-branch.false in
    let nodes : c.as_slice-nodes.result.now ≡ told.tree = c.as_slice-nodes.ensures.value ∙ ap (λ (s : Statement). s.tree) c.certificate.view_is in
    let tree : HasTree p told =
    has-tree p told c.as_slice-nodes.result.now nodes (c.is_tree.ensures.0 c.if-not-is_tree.false) (omega (arith, c.split_count.ensures p, c.if-split_count.false))
    (omega (arith, c.narrowing_count.ensures, c.if-narrowing_count-gt-MOST_NARROWINGS.false)) in
    let worth = rw (← c.case.view_is) at c.in_ok-are_leaves_worth.ensures in
    rw (← c.case.view_is) (HoldBelow_all p c.case.inside.windows.now told timetable points prices tree (worth.0 c.if-not-branch-2.false))
