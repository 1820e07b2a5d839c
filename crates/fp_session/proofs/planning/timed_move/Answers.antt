-- A relaxed plan calls for a round, or is left where its timing is spent, under the sides.
use Rattle.std.proofs.Common.{◌∙◌, List, refl, sym, subst}
use Rattle.fp_model.specs.declared.parts.Leg.{Leg}
use Rattle.fp_session_history.specs.Clashes.{ClashesBelow}
use Rattle.fp_session_history.specs.Solutions.{AreWalksUnder}
use Rattle.fp_session.specs.Moves.{points_now}
use Rattle.fp_session.specs.declared.timing.Timing.TheVariants as timing
use Rattle.fp_session.specs.Timing.{IsTiming}
use Rattle.fp_session.proofs.NoReserve.{none-where}
use Rattle.fp_session.proofs.planning.timed_move.Goals as goal

pub returns-in-Refine-clause-open_move : goal.returns-in-Refine-clause-open_move
returns-in-Refine-clause-open_move g c =
    let own : IsTiming c.args.search.now c.args.prices.now.unit c.args.relaxed (timing.Refine c.in-Refine.round) = subst (IsTiming c.args.search.now c.args.prices.now.unit c.args.relaxed) c.in-Refine.is c.in_ok-cheaper.ensures in (
      own.0,
      subst (λ (walks : List (List Leg)). AreWalksUnder c.args.search.now.instance c.args.search.now.windows (points_now c.args.search.now) c.args.leaf.now.sides walks) (sym own.1) c.requires.under,
    )

pub returns-else-is_some-clause-open_move : goal.returns-else-is_some-clause-open_move
returns-else-is_some-clause-open_move g c =
    let own : IsTiming c.args.search.now c.args.prices.now.unit c.args.relaxed (timing.Spent c.in-Spent.relaxed) = subst (IsTiming c.args.search.now c.args.prices.now.unit c.args.relaxed) c.in-Spent.is c.in_ok-cheaper.ensures in (
      (
        refl,
        record {
          spent = own.1;
          under = subst (λ (walks : List (List Leg)). AreWalksUnder c.args.search.now.instance c.args.search.now.windows (points_now c.args.search.now) c.args.leaf.now.sides walks) (sym own.0) c.requires.under;
          clashes = subst (λ (walks : List (List Leg)). ClashesBelow c.args.search.now.instance c.args.search.now.windows (points_now c.args.search.now) c.args.search.now.cost walks) (sym own.0) own.2;
        },
      ),
      none-where c.args.search.now.reserve (sym c.is_some.ensures ∙ c.if-is_some.false),
    )
