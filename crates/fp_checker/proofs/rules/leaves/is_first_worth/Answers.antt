-- The bound under the first sides tells whether the leaf is worth the claim, and that under all whether it is empty.
use Rattle.std.proofs.Common.{List, ◌++◌, inl, inr, ⊎_elim, refl, sym, ◌∙◌, subst}
use Rattle.std.specs.Prelude.{take}
use Rattle.std.proofs.lemmas.Bool.{false≢true}
use Rattle.fp_tree.specs.declared.sides.Side.{Side}
use Rattle.fp_tree.specs.Ways.{way_sides}
use Rattle.fp_checker.specs.LeafWays.{AskAlike, steps_of}
use Rattle.fp_checker.proofs.LeafBounds.{IsEmptyUnder, IsWorthUnder, bound-empty, bound-worth}
use Rattle.fp_checker.proofs.rules.leaves.is_first_worth.Goals as goal

pub returns-then-is_bound_worth-clause-exact : goal.returns-then-is_bound_worth-clause-exact
returns-then-is_bound_worth-clause-exact c =
    let first = c.args.way.now.bars.items ++ take c.args.count (way_sides (steps_of c.args.way.now.way)) in
    let worth = bound-worth c.args.case.now c.args.price c.deref.result.now first c.in_ok-under.under.0
    (subst (λ (s : List Side). AskAlike s first) (sym c.deref.ensures.value) c.in_ok-first.ensures) c.in_ok-under.ensures.exact in
    ((λ _. inr (worth.0 (c.is_bound_worth.ensures.0 c.if-is_bound_worth.true))), (λ _. refl))

pub returns-clause-exact : goal.returns-clause-exact
returns-clause-exact c =
    let sides = c.args.way.now.bars.items ++ way_sides (steps_of c.args.way.now.way) in
    let first = c.args.way.now.bars.items ++ take c.args.count (way_sides (steps_of c.args.way.now.way)) in
    let worth = bound-worth c.args.case.now c.args.price c.deref.result.now first c.in_ok-under.under.0
    (subst (λ (s : List Side). AskAlike s first) (sym c.deref.ensures.value) c.in_ok-first.ensures) c.in_ok-under.ensures.exact in
    let empty = bound-empty c.args.case.now c.args.price c.deref-2.result.now sides c.in_ok-whole.whole.0
    (subst (λ (s : List Side). AskAlike s sides) (sym c.deref-2.ensures.value) c.in_ok-sides.ensures) c.in_ok-whole.ensures.exact in (
      λ h. inl (empty.0 (c.is_empty.ensures.0 h)),
      λ e.
          ⊎_elim (λ (x : IsEmptyUnder c.args.case.now c.args.price sides). c.is_empty.ensures.1 (empty.1 x))
          (λ (w : IsWorthUnder c.args.case.now c.args.price first). absurd (false≢true (sym c.if-is_bound_worth.false ∙ c.is_bound_worth.ensures.1 (worth.1 w)))) e,
    )
