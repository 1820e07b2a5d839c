-- Walks that are a relaxed plan and cost less are timed; where they aren't, a shipment has several
-- ways to go.
use Rattle.std.proofs.Common.{◌∙◌, List, ap, arith, length, refl, subst, sym}
use Rattle.std.specs.Prelude.{IfSome, MatchOption, Option}
use Rattle.std.proofs.lemmas.Bool.{false≢true}
use Rattle.fp_model.specs.declared.parts.Leg.{Leg}
use Rattle.fp_model.specs.declared.parts.Shipment.{Shipment}
use Rattle.fp_flatnet.specs.Tables.{windows_in}
use Rattle.fp_relaxmodel.proofs.PlansCoarsen.{HasRoutes-relaxed}
use Rattle.fp_session.specs.declared.dividing.Several.{Several}
use Rattle.fp_session.specs.Dividing.{IsSeveral, NoneSeveral}
use Rattle.fp_session.specs.Moves.{points_now}
use Rattle.fp_session.specs.Walks.{AreCheaperWalks}
use Rattle.fp_session.proofs.OpenMoves.{IsSeveral-now, NoneSeveral-found, under-exist, under-relaxed}
use Rattle.fp_session.proofs.StepOrder.{dear-walks}
use Rattle.fp_session.proofs.NoReserve.{none-where}
use Rattle.fp_session.proofs.planning.move_by.Goals as goal

pub are_cheaper-requires-clause-exist : goal.are_cheaper-requires-clause-exist
are_cheaper-requires-clause-exist g c = under-exist c.args.search.now c.args.leaf.now.sides c.args.found.relaxed c.requires.found.walks

pub are_cheaper-requires-clause-routes : goal.are_cheaper-requires-clause-routes
are_cheaper-requires-clause-routes g c = λ apart.
    HasRoutes-relaxed c.args.search.now.instance (windows_in c.args.search.now.windows) (points_now c.args.search.now) c.args.found.relaxed
    (under-relaxed c.args.search.now c.args.leaf.now.sides c.args.found.relaxed c.requires.found.walks c.args.prices.now c.requires.search apart)

pub timed_move-requires-clause-relaxed : goal.timed_move-requires-clause-relaxed
timed_move-requires-clause-relaxed g c =
    let found : AreCheaperWalks c.args.search.now c.args.leaf.now.sides c.in-Some.cheaper =
    subst (λ (o : Option (List (List Leg))). IfSome o (AreCheaperWalks c.args.search.now c.args.leaf.now.sides)) c.in-Some.is c.in_ok-cheaper.ensures in
    under-relaxed c.args.search.now c.args.leaf.now.sides c.in-Some.cheaper found.under c.args.prices.now c.requires.search found.apart

pub timed_move-requires-then-are_cheaper-clause-relaxed : goal.timed_move-requires-then-are_cheaper-clause-relaxed
timed_move-requires-then-are_cheaper-clause-relaxed g c =
    under-relaxed c.args.search.now c.args.leaf.now.sides c.args.found.relaxed c.requires.found.walks c.args.prices.now c.requires.search (c.are_cheaper.ensures.0 c.if-are_cheaper.true).0

pub timed_move-requires-then-are_cheaper-clause-cheaper : goal.timed_move-requires-then-are_cheaper-clause-cheaper
timed_move-requires-then-are_cheaper-clause-cheaper g c = (c.are_cheaper.ensures.0 c.if-are_cheaper.true).1

pub unreachable-requires : goal.unreachable-requires
unreachable-requires g c =
    let none : NoneSeveral c.args.leaf.now (length c.shipments.result.now) =
    subst (λ (o : Option Several). MatchOption o (NoneSeveral c.args.leaf.now (length c.shipments.result.now)) (IsSeveral c.args.leaf.now)) c.in-None.is c.in_ok-first_several.ensures in
    absurd
    (false≢true
    (sym c.if-are_cheaper.false
    ∙ c.are_cheaper.ensures.1
    (NoneSeveral-found c.args.search.now c.args.prices.now c.args.leaf.now c.args.leaf.now.sides c.args.found.kept c.args.found.relaxed (length c.shipments.result.now) c.requires.search c.requires.setting refl
    c.requires.found c.requires.below (omega (arith, ap (λ (ss : List Shipment). length ss) c.shipments.ensures.same)) none)))

pub walks_to_split_by-walks-requires : goal.walks_to_split_by-walks-requires
walks_to_split_by-walks-requires g c = under-exist c.args.search.now c.args.leaf.now.sides c.args.found.relaxed c.requires.found.walks

pub several_move-requires-clause-several : goal.several_move-requires-clause-several
several_move-requires-clause-several g c = (
  c.in-Some-2.several,
  subst (λ (o : Option Several). MatchOption o (NoneSeveral c.args.leaf.now (length c.shipments.result.now)) (IsSeveral c.args.leaf.now)) c.in-Some-2.is c.in_ok-first_several.ensures,
)

pub returns-then-splits-search-clause-planned : goal.returns-then-splits-search-clause-planned
returns-then-splits-search-clause-planned g c =
    let some : IsSeveral c.args.leaf.now c.in-Some-2.several =
    subst (λ (o : Option Several). MatchOption o (NoneSeveral c.args.leaf.now (length c.shipments.result.now)) (IsSeveral c.args.leaf.now)) c.in-Some-2.is c.in_ok-first_several.ensures in (
      (
        refl,
        record {
          spent = omega (arith, c.splits.ensures.count, c.if-splits-search.true, c.requires.search.few);
          several = IsSeveral-now c.args.search.now c.args.prices.now c.args.leaf.now c.args.leaf.now.sides c.in-Some-2.several c.requires.search c.requires.setting refl some;
        },
      ),
      none-where c.args.search.now.reserve (sym c.is_some.ensures ∙ c.if-is_some.false),
    )

pub returns-clause-planned : goal.returns-clause-planned
returns-clause-planned g c = (
  omega (arith, c.splits.ensures.count, c.if-splits-search.false),
  c.in_ok-division-in-Some-2.ensures.division,
  dear-walks c.args.search.now c.args.leaf.now.sides c.args.found.relaxed c.are_cheaper.result c.requires.found.walks c.if-are_cheaper.false c.are_cheaper.ensures.1,
)

pub returns-clause-no_less : goal.returns-clause-no_less
returns-clause-no_less g c = c.in_ok-division-in-Some-2.ensures.no_less

pub returns-in_default-2-clause-no_less : goal.returns-in_default-2-clause-no_less
returns-in_default-2-clause-no_less g c = c.in_ok-planned.ensures.no_less c.args.prices.now.unit c.args.found.kept

pub returns-then-are_cheaper-clause-no_less : goal.returns-then-are_cheaper-clause-no_less
returns-then-are_cheaper-clause-no_less g c = c.timed_move-then-are_cheaper.ensures.no_less c.args.prices.now.unit c.args.found.kept
