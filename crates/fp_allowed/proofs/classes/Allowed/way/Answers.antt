use Rattle.std.proofs.Common.{ℕ, ap, ◌∙◌, subst}
use Rattle.std.specs.Prelude.{IfSome}
use Rattle.fp_model.specs.declared.parts.Arc.{Arc}
use Rattle.fp_flatnet.specs.Tables.{windows_in}
use Rattle.fp_allowed.specs.Allowed.{tails_of}
use Rattle.fp_allowed.specs.Departures.{DividesDepartures}
use Rattle.fp_allowed.specs.Settings.{Setting}
use Rattle.fp_allowed.proofs.RowsUnderSides.{some_divides}
use Rattle.fp_allowed.proofs.classes.Allowed.way.Goals as goal

pub returns-clause-divides : goal.returns-clause-divides
returns-clause-divides c = λ sides under.
    subst (λ (t : ℕ). IfSome c.way_split.result (DividesDepartures c.args.self.now.problem (windows_in c.args.self.now.windows) sides c.args.shipment t))
    (ap (λ (a : Arc). a.from) c.arc-terminal.ensures.same ∙ ap (λ (s : Setting). tails_of s.problem c.args.arc) c.self.view_is)
    (some_divides _ c.args.self.now sides c.args.shipment c.arc-terminal.result.from c.args.row.now c.way_split.result c.self.view_is c.self.invariant c.way_split.ensures.parts under)
