use Rattle.std.proofs.Common.{◌≡◌, ◌<◌, true, false, length, subst, sym, ap, ◌∙◌, arith}
use Rattle.std.specs.Prelude.{Some, slice_get}
use Rattle.std.proofs.lemmas.Option.{get_or_from_slice_get}
use Rattle.fp_base_lists.specs.Membership.{list_has}
use Rattle.fp_model.specs.declared.parts.Arc.{Arc}
use Rattle.fp_model.specs.Problem.{arc_at}
use Rattle.fp_longestarcs.specs.Networks.{IsClass, class_number, points_in}
use Rattle.fp_longestarcs.proofs.ClassNumbers.{class-of-arc}
use Rattle.fp_longestarcs.specs.Stops.{leg_of}
use Rattle.fp_duals_walks.proofs.RowWalks.{bit-allows}
use Rattle.fp_duals_walks.proofs.row_walks.is_set.Goals as goal

pub returns-clause-allows : goal.returns-clause-allows
returns-clause-allows c =
    let p = c.args.instance.now in
    let net = c.args.network.now in
    let class = leg_of c.args.class in
    let exists : c.args.class.arc < length p.arcs = omega (arith, c.if-class-arcs.false, ap (λ l. length l) c.arcs.ensures.same) in
    let there : list_has (points_in net (arc_at p c.args.class.arc).from) c.args.class.point ≡ true =
    ap (λ (a : Arc). list_has (points_in net a.from) c.args.class.point) (sym c.arc-tail.ensures.same) ∙ sym c.is_point.ensures ∙ c.if-not-is_point.false in
    let is : IsClass net class = class-of-arc p net c.args.class.arc c.args.class.point c.requires.whole.arcs exists there in
    bit-allows net c.args.row.now class c.get.result is
    (get_or_from_slice_get c.args.row.now (class_number net class) c.get.result false
    (subst (λ n. slice_get c.args.row.now n ≡ Some c.get.result) c.class.ensures.number c.get.ensures))
