-- What was found of a leaf, with its walks by spans.
use Rattle.std.proofs.Common.{subst}
use Rattle.std.specs.declared.alloc.Global.{Global}
use Rattle.std.specs.declared.vec.Vec.{Vec}
use Rattle.std.specs.Prelude.{IfSome, List, Option}
use Rattle.fp_model.specs.declared.parts.Leg.{Leg}
use Rattle.fp_session_history.specs.Solutions.{AreWalksUnder}
use Rattle.fp_session.specs.Moves.{points_now}
use Rattle.fp_session.proofs.CheaperWalks.{found-other}
use Rattle.fp_session.proofs.planning.found_at.Goals as goal

pub returns-in-Some-clause-found : goal.returns-in-Some-clause-found
returns-in-Some-clause-found c =
    let under : AreWalksUnder c.args.search.now.instance c.args.search.now.windows (points_now c.args.search.now) c.args.leaf.now.sides c.in-Some.by_spans.items =
    subst (λ (o : Option (Vec (List Leg) Global)). IfSome o (λ walks. AreWalksUnder c.args.search.now.instance c.args.search.now.windows (points_now c.args.search.now) c.args.leaf.now.sides walks.items)) c.in-Some.is c.in_ok-by_spans.ensures in
    found-other c.args.search.now c.args.prices.now c.args.leaf.now.sides c.args.kept c.args.walks.items c.in-Some.by_spans.items c.requires.found under
