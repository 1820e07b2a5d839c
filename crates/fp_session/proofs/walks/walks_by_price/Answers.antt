-- Allowed walks are walks under the sides.
use Rattle.std.proofs.Common.{refl, subst}
use Rattle.std.specs.declared.alloc.Global.{Global}
use Rattle.std.specs.declared.vec.Vec.{Vec}
use Rattle.std.specs.Prelude.{IfSome, List, Option}
use Rattle.fp_model.specs.declared.parts.Leg.{Leg}
use Rattle.fp_duals_walks.specs.AllowedWalks.{AreAllowedWalks}
use Rattle.fp_session.proofs.CheaperWalks.{allowed-under}
use Rattle.fp_session.proofs.walks.walks_by_price.Goals as goal

pub returns-in-Some : goal.returns-in-Some
returns-in-Some c =
    let allowed = subst (λ (o : Option (Vec (List Leg) Global)). IfSome o (λ walks. AreAllowedWalks c.args.leaf.now walks.items)) c.in-Some.is c.in_ok-walks.ensures in
    allowed-under c.args.search.now c.args.prices.now c.args.leaf.now c.args.leaf.now.sides c.in-Some.walks.items c.requires.search c.requires.setting refl allowed
