-- Allowed walks that are routes and cost less than the incumbent.
use Rattle.std.proofs.Common.{refl, subst}
use Rattle.std.specs.declared.alloc.Global.{Global}
use Rattle.std.specs.declared.vec.Vec.{Vec}
use Rattle.std.specs.Prelude.{IfSome, List, Option}
use Rattle.fp_model.specs.declared.parts.Leg.{Leg}
use Rattle.fp_flatnet.specs.Tables.{windows_in}
use Rattle.fp_relaxmodel.proofs.PlansCoarsen.{HasRoutes-relaxed}
use Rattle.fp_duals_walks.specs.AllowedWalks.{AreAllowedWalks}
use Rattle.fp_session.specs.Moves.{points_now}
use Rattle.fp_session.proofs.CheaperWalks.{allowed-under, under-cheaper}
use Rattle.fp_session.proofs.OpenMoves.{under-exist, under-relaxed}
use Rattle.fp_session.proofs.walks.cheaper_of.Goals as goal

pub are_cheaper-requires-clause-exist : goal.are_cheaper-requires-clause-exist
are_cheaper-requires-clause-exist c =
    let allowed = subst (λ (o : Option (Vec (List Leg) Global)). IfSome o (λ walks. AreAllowedWalks c.args.leaf.now walks.items)) c.in-Some.is c.requires.walks in
    under-exist c.args.search.now c.args.leaf.now.sides c.in-Some.walks.items
    (allowed-under c.args.search.now c.args.prices.now c.args.leaf.now c.args.leaf.now.sides c.in-Some.walks.items c.requires.search c.requires.setting refl allowed)

pub are_cheaper-requires-clause-routes : goal.are_cheaper-requires-clause-routes
are_cheaper-requires-clause-routes c = λ apart.
    let allowed = subst (λ (o : Option (Vec (List Leg) Global)). IfSome o (λ walks. AreAllowedWalks c.args.leaf.now walks.items)) c.in-Some.is c.requires.walks in
    let under = allowed-under c.args.search.now c.args.prices.now c.args.leaf.now c.args.leaf.now.sides c.in-Some.walks.items c.requires.search c.requires.setting refl allowed in
    HasRoutes-relaxed c.args.search.now.instance (windows_in c.args.search.now.windows) (points_now c.args.search.now) c.in-Some.walks.items
    (under-relaxed c.args.search.now c.args.leaf.now.sides c.in-Some.walks.items under c.args.prices.now c.requires.search apart)

pub returns-then-are_cheaper : goal.returns-then-are_cheaper
returns-then-are_cheaper c =
    let allowed = subst (λ (o : Option (Vec (List Leg) Global)). IfSome o (λ walks. AreAllowedWalks c.args.leaf.now walks.items)) c.in-Some.is c.requires.walks in
    under-cheaper c.args.search.now c.args.leaf.now.sides c.in-Some.walks.items
    (allowed-under c.args.search.now c.args.prices.now c.args.leaf.now c.args.leaf.now.sides c.in-Some.walks.items c.requires.search c.requires.setting refl allowed)
    (c.are_cheaper.ensures.0 c.if-are_cheaper.true)
