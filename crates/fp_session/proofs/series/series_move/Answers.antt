-- One more round of a series is called for by walks under the sides of the leaf.
use Rattle.std.proofs.Common.{List, Option, subst, sym}
use Rattle.std.specs.Prelude.{IfSome}
use Rattle.fp_model.specs.declared.parts.Leg.{Leg}
use Rattle.fp_session_history.specs.Solutions.{AreWalksUnder}
use Rattle.fp_session_history.specs.Notes.{worth_of}
use Rattle.fp_session.specs.Moves.{points_now}
use Rattle.fp_session.specs.Searches.{history}
use Rattle.fp_session.specs.Timing.{IsTiming}
use Rattle.fp_session.specs.declared.timing.Timing.TheVariants as timing
use Rattle.fp_session.specs.Walks.{AreCheaperWalks}
use Rattle.fp_session.proofs.OpenMoves.{below-cost, better-stays, round-stays, under-relaxed}
use Rattle.fp_session.proofs.series.series_move.Goals as goal

pub timed-requires-clause-relaxed : goal.timed-requires-clause-relaxed
timed-requires-clause-relaxed g c =
    let found : AreCheaperWalks c.args.search.now c.args.leaf.now.sides c.in-Some-cheaper_of.relaxed =
    subst (λ (o : Option (List (List Leg))). IfSome o (AreCheaperWalks c.args.search.now c.args.leaf.now.sides)) c.in-Some-cheaper_of.is c.cheaper_of.ensures in
    under-relaxed c.args.search.now c.args.leaf.now.sides c.in-Some-cheaper_of.relaxed found.under c.args.prices.now c.requires.search found.apart

pub returns-in-Better-clause-planned : goal.returns-in-Better-clause-planned
returns-in-Better-clause-planned g c =
    better-stays c.args.search.now c.args.prices.now c.args.number c.args.old c.requires.search c.requires.old c.in-Better.cheaper
    (subst (IsTiming c.args.search.now c.args.prices.now.unit c.in-Some-cheaper_of.relaxed) c.in-Better.is c.in_ok-cheaper.ensures)

pub returns-in-Refine-clause-planned : goal.returns-in-Refine-clause-planned
returns-in-Refine-clause-planned g c =
    let found : AreCheaperWalks c.args.search.now c.args.leaf.now.sides c.in-Some-cheaper_of.relaxed =
    subst (λ (o : Option (List (List Leg))). IfSome o (AreCheaperWalks c.args.search.now c.args.leaf.now.sides)) c.in-Some-cheaper_of.is c.cheaper_of.ensures in
    let own : IsTiming c.args.search.now c.args.prices.now.unit c.in-Some-cheaper_of.relaxed (timing.Refine c.in-Refine.round) = subst (IsTiming c.args.search.now c.args.prices.now.unit c.in-Some-cheaper_of.relaxed) c.in-Refine.is c.in_ok-cheaper.ensures in
    round-stays c.args.search.now c.args.prices.now c.args.number c.args.old c.requires.search c.requires.old c.args.leaf.now.sides c.in-Refine.round.note c.in-Refine.round.refined c.requires.sides c.requires.some
    (below-cost (worth_of (history c.args.search.now c.args.prices.now) c.args.old.value) c.args.search.now.cost c.is_dear.result c.if-is_dear.false c.is_dear.ensures.1) own.0
    (subst (λ (walks : List (List Leg)). AreWalksUnder c.args.search.now.instance c.args.search.now.windows (points_now c.args.search.now) c.args.leaf.now.sides walks) (sym own.1) found.under)
