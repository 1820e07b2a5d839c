use Rattle.std.proofs.Common.{◌≡◌, ℕ, ◌+◌, ◌<◌, ◌≤◌, List, [], ◌∷◌, ◌++◌, drop, length, get_or, refl, sym, ap, ◌∙◌, subst, arith}
use Rattle.std.proofs.lemmas.Bool.{false≢true}
use Rattle.fp_tree.specs.declared.sides.Side.{Side}
use Rattle.fp_tree.specs.declared.sides.Split.TheVariants.{ByArc}
use Rattle.fp_tree.specs.Ways.{way_sides}
use Rattle.fp_prices.specs.RoundBounds.{AreRoundBounds}
use Rattle.fp_certificate_lines.specs.declared.certificates.Node.{Node}
use Rattle.fp_certificate_lines.specs.declared.certificates.Node.TheVariants.{Branch}
use Rattle.fp_certificate_lines.specs.Statements.{Statement}
use Rattle.fp_certificate_rules.specs.Accepted.{claim_of}
use Rattle.fp_certificate_rules.specs.Leaves.{AreLeavesWorth, root_tree, split_tail}
use Rattle.fp_checker.specs.declared.rules.narrowed_ways.NarrowedWay.{NarrowedWay}
use Rattle.fp_checker.specs.Cases.{Tested}
use Rattle.fp_checker.specs.LeafWays.{AskAlike, IsKept, steps_of}
use Rattle.fp_checker.proofs.LeavesPassed.{IsLeft, IsWorthAt, all-passed, failed-leaf, last-leaf, passed-branch, passed-leaf, passed-narrowing}
use Rattle.fp_checker.proofs.rules.leaves.are_leaves_worth.Goals as goal
use Rattle.fp_checker.proofs.rules.leaves.are_leaves_worth.Goals.{in-Branch+in_ok-way-in-Branch, in-Narrow+in_ok-sides-in-Narrow+in_ok-own-in-Narrow+in_ok-way-in-Narrow, in-Leaf+in_ok-found-in-Leaf+else-not-found+in_ok-advance-in-Leaf+in-Some}

none : Node
none = Branch (ByArc 0 0)

pub loop-node-init : goal.loop-node-init
loop-node-init c = record {
  left = (root_tree ∷ [], c.new-way.ensures.stands c.args.case.now, (λ h. h, λ h. h));
  way = c.new-way.ensures.kept;
  kept = rw (← c.case.view_is) (c.in_ok-bounds.ensures.holds c.case.inside.certificate.now.tables);
}

pub returns-then-not-found : goal.returns-then-not-found
unfolding none
returns-then-not-found c =
    let t : Tested = c.args.case.now in
    let i : ℕ = c.loop-node.node-index in
    let tree : c.as_slice-node-items.result.now ≡ t.told.tree = c.as_slice-node-items.ensures.value ∙ ap (λ (s : Statement). s.tree) c.certificate.view_is ∙ ap (λ (u : Tested). u.told.tree) c.case.view_is in
    let lt : i < length t.told.tree = subst (λ (xs : List Node). i < length xs) tree c.loop-node-test.true in (
      λ h. absurd (false≢true h),
      λ all.
          absurd
          (false≢true
          (sym c.if-not-found.true
          ∙ c.in_ok-found-in-Leaf.ensures.exact.1
          (failed-leaf t (AreLeavesWorth t.problem t.windows t.told (claim_of t.told.answer)) c.loop-node.way t.told.tree i none lt c.in-Leaf.valuation
          (ap (λ (xs : List Node). get_or xs i none) (sym tree) ∙ c.in-Leaf.is) c.loop-node.invariant.left all))),
    )

pub returns-in-None : goal.returns-in-None
unfolding none
returns-in-None c =
    let t : Tested = c.args.case.now in
    let i : ℕ = c.loop-node.node-index in
    let tree : c.as_slice-node-items.result.now ≡ t.told.tree = c.as_slice-node-items.ensures.value ∙ ap (λ (s : Statement). s.tree) c.certificate.view_is ∙ ap (λ (u : Tested). u.told.tree) c.case.view_is in
    let lt : i < length t.told.tree = subst (λ (xs : List Node). i < length xs) tree c.loop-node-test.true in
    let worth : IsWorthAt t c.loop-node.way c.in-Leaf.valuation = c.in_ok-found-in-Leaf.ensures.exact.0 c.if-not-found.false in
    let ended = rw c.in-None.is at c.in_ok-advance-in-Leaf.ensures.stands in (
      λ _.
          last-leaf t (AreLeavesWorth t.problem t.windows t.told (claim_of t.told.answer)) c.loop-node.way t.told.tree i none lt c.in-Leaf.valuation
          (ap (λ (xs : List Node). get_or xs i none) (sym tree) ∙ c.in-Leaf.is) worth (ended t) c.loop-node.invariant.left,
      λ _. refl,
    )

pub loop-node-preserved : goal.loop-node-preserved
unfolding none
loop-node-preserved c =
    let t : Tested = c.args.case.now in
    let whole : Type 0 = AreLeavesWorth t.problem t.windows t.told (claim_of t.told.answer) in
    let i : ℕ = c.loop-node.node-index in
    let way : NarrowedWay = c.loop-node.way in
    let tree : c.as_slice-node-items.result.now ≡ t.told.tree = c.as_slice-node-items.ensures.value ∙ ap (λ (s : Statement). s.tree) c.certificate.view_is ∙ ap (λ (u : Tested). u.told.tree) c.case.view_is in
    let lt : i < length t.told.tree = subst (λ (xs : List Node). i < length xs) tree c.loop-node-test.true in
    record {
      left =
          elim c.match-node.branch [
            | in-Branch+in_ok-way-in-Branch w ↦
                subst (λ (new : NarrowedWay). IsLeft t new (drop (i + 1) t.told.tree) whole) (sym w.way'-is)
                (passed-branch t whole way t.told.tree i none lt w.in_ok-way-in-Branch.way w.in-Branch.split w.split_tail.result (ap (λ (xs : List Node). get_or xs i none) (sym tree) ∙ w.in-Branch.is)
                (w.split_tail.ensures ∙ ap (λ (u : Tested). split_tail u.problem w.in-Branch.split) c.case.view_is) (w.in_ok-way-in-Branch.ensures.stands t) c.loop-node.invariant.left)
            | in-Narrow+in_ok-sides-in-Narrow+in_ok-own-in-Narrow+in_ok-way-in-Narrow w ↦
                let sides : List Side = w.in_ok-sides-in-Narrow.sides.items in
                let alike : AskAlike w.deref.result.now (way.bars.items ++ way_sides (steps_of way.way)) =
                subst (λ (s : List Side). AskAlike s (way.bars.items ++ way_sides (steps_of way.way))) (sym w.deref.ensures.value) w.in_ok-sides-in-Narrow.ensures in
                let own : w.deref-in-Narrow.result.now ≡ w.in_ok-own-in-Narrow.own.items = w.deref-in-Narrow.ensures.value in
                subst (λ (new : NarrowedWay). IsLeft t new (drop (i + 1) t.told.tree) whole) (sym w.way'-is)
                (passed-narrowing t whole way t.told.tree i none lt w.in_ok-way-in-Narrow.way w.in-Narrow.narrowing w.deref.result.now w.in_ok-own-in-Narrow.own.items
                (ap (λ (xs : List Node). get_or xs i none) (sym tree) ∙ w.in-Narrow.is) alike w.in_ok-own-in-Narrow.ensures
                (λ tree pending n stands are. w.in_ok-way-in-Narrow.ensures.stands t tree pending n stands (rw own are)) c.loop-node.invariant.left)
            | in-Leaf+in_ok-found-in-Leaf+else-not-found+in_ok-advance-in-Leaf+in-Some w ↦
                let worth : IsWorthAt t way w.in-Leaf.valuation = w.in_ok-found-in-Leaf.ensures.exact.0 w.if-not-found.false in
                let goes = rw w.in-Some.is at w.in_ok-advance-in-Leaf.ensures.stands in
                subst (λ (new : NarrowedWay). IsLeft t new (drop (i + 1) t.told.tree) whole) (sym w.way'-is)
                (passed-leaf t whole way t.told.tree i none lt w.in-Leaf.valuation (ap (λ (xs : List Node). get_or xs i none) (sym tree) ∙ w.in-Leaf.is) w.in-Some.next worth (goes t) c.loop-node.invariant.left)
          ];
      way =
          elim c.match-node.branch [
            | in-Branch+in_ok-way-in-Branch w ↦ subst (λ (new : NarrowedWay). IsKept new.way) (sym w.way'-is) w.in_ok-way-in-Branch.ensures.kept
            | in-Narrow+in_ok-sides-in-Narrow+in_ok-own-in-Narrow+in_ok-way-in-Narrow w ↦ subst (λ (new : NarrowedWay). IsKept new.way) (sym w.way'-is) w.in_ok-way-in-Narrow.ensures.kept
            | in-Leaf+in_ok-found-in-Leaf+else-not-found+in_ok-advance-in-Leaf+in-Some w ↦
                let kept : IsKept w.in-Some.next.way = rw w.in-Some.is at w.in_ok-advance-in-Leaf.ensures.kept in
                subst (λ (new : NarrowedWay). IsKept new.way) (sym w.way'-is) kept
          ];
      kept =
          elim c.match-node.branch [
            | in-Branch+in_ok-way-in-Branch w ↦ subst (AreRoundBounds t.problem c.args.points.now t.told.tables) (sym w.bounds-is) c.loop-node.invariant.kept
            | in-Narrow+in_ok-sides-in-Narrow+in_ok-own-in-Narrow+in_ok-way-in-Narrow w ↦ subst (AreRoundBounds t.problem c.args.points.now t.told.tables) (sym w.bounds-is) c.loop-node.invariant.kept
            | in-Leaf+in_ok-found-in-Leaf+else-not-found+in_ok-advance-in-Leaf+in-Some w ↦
                subst (AreRoundBounds t.problem c.args.points.now t.told.tables) (sym w.bounds-is) w.in_ok-found-in-Leaf.ensures.kept
          ];
    }

pub returns : goal.returns
returns c =
    let t : Tested = c.args.case.now in
    let i : ℕ = c.loop-node.node-index in
    let tree : c.as_slice-node-items.result.now ≡ t.told.tree = c.as_slice-node-items.ensures.value ∙ ap (λ (s : Statement). s.tree) c.certificate.view_is ∙ ap (λ (u : Tested). u.told.tree) c.case.view_is in
    let long : length t.told.tree ≤ i = omega (arith, ap (λ (xs : List Node). length xs) tree) in (
      λ _. all-passed t (AreLeavesWorth t.problem t.windows t.told (claim_of t.told.answer)) c.loop-node.way t.told.tree i long c.loop-node.invariant.left,
      λ _. refl,
    )
