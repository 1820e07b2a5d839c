use Rattle.std.proofs.Common.{sym, ap, ◌∙◌, subst}
use Rattle.fp_flatnet.specs.Tables.{windows_in}
use Rattle.fp_longestarcs.specs.Networks.{IsClass, points_in}
use Rattle.fp_allowed.specs.Heads.{heads_within}
use Rattle.fp_allowed.specs.Settings.{Setting}
use Rattle.fp_prices.proofs.values.leaves.Leaf.head.Goals as goal

pub head-requires-clause-class : goal.head-requires-clause-class
head-requires-clause-class c = subst (λ (s : Setting). IsClass s.network (record { arc = c.args.arc; depart = c.args.point })) (sym c.allowed.ensures) c.requires.class

pub returns : goal.returns
returns c =
    c.head.ensures ∙
    ap (λ (s : Setting). heads_within s.problem (windows_in s.windows) (points_in s.network) c.args.shipment (record { arc = c.args.arc; depart = c.args.point })) c.allowed.ensures
