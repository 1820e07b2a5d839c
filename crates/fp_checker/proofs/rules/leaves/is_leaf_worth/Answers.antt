-- Under all its sides, or under the first of them.
use Rattle.std.proofs.Common.{ℕ, sym, subst}
use Rattle.std.specs.Prelude.{◌↔◌, IsTrue, Option}
use Rattle.std.proofs.lemmas.Result.{IfOk-weaker}
use Rattle.fp_tree.specs.Ways.{way_sides}
use Rattle.fp_certificate_lines.specs.declared.certificates.Node.TheVariants.{Leaf}
use Rattle.fp_certificate_rules.specs.Accepted.{claim_of}
use Rattle.fp_certificate_rules.specs.Leaves.{IsLeafWorth}
use Rattle.fp_checker.specs.LeafWays.{steps_of}
use Rattle.fp_checker.proofs.rules.leaves.is_leaf_worth.Goals as goal

pub returns-in-None-clause-exact : goal.returns-in-None-clause-exact
returns-in-None-clause-exact c =
    let t = c.args.case.now in
    IfOk-weaker c.is_whole_worth.result _ _
    (λ found exact.
    subst (λ (o : Option ℕ). IsTrue found.0 ↔ IsLeafWorth t.problem t.windows t.told (claim_of t.told.answer) c.args.way.now.bars.items (Leaf (record { price = c.args.valuation.price; sides = o })) (way_sides (steps_of c.args.way.now.way)))
    (sym c.in-None.is) exact)
    c.is_whole_worth.ensures.exact

pub returns-in-Some-clause-exact : goal.returns-in-Some-clause-exact
returns-in-Some-clause-exact c =
    let t = c.args.case.now in
    IfOk-weaker c.is_first_worth.result _ _
    (λ found exact.
    subst (λ (o : Option ℕ). IsTrue found.0 ↔ IsLeafWorth t.problem t.windows t.told (claim_of t.told.answer) c.args.way.now.bars.items (Leaf (record { price = c.args.valuation.price; sides = o })) (way_sides (steps_of c.args.way.now.way)))
    (sym c.in-Some.is) exact)
    c.is_first_worth.ensures.exact
