use Rattle.fp_allowed.proofs.RowsUnderSides.{divides_under, none_under, several_under, at_under, taken_under}
use Rattle.fp_allowed.proofs.classes.Allowed.choice.Goals as goal

pub returns-clause-none : goal.returns-clause-none
returns-clause-none c = λ sides under none.
    none_under _ c.args.self.now sides c.args.shipment c.args.terminal c.args.row.now c.parting_split.result c.self.view_is c.self.invariant c.parting_split.ensures.parts under none

pub returns-clause-at : goal.returns-clause-at
returns-clause-at c = at_under _ c.args.self.now c.args.shipment c.args.terminal c.args.row.now c.parting_split.result c.self.view_is c.self.invariant c.parting_split.ensures.parts

pub returns-clause-divides : goal.returns-clause-divides
returns-clause-divides c = λ sides under.
    divides_under _ c.args.self.now sides c.args.shipment c.args.terminal c.args.row.now c.parting_split.result c.self.view_is c.self.invariant c.parting_split.ensures.parts under

pub returns-clause-several : goal.returns-clause-several
returns-clause-several c = λ sides under some.
    several_under _ c.args.self.now sides c.args.shipment c.args.terminal c.args.row.now c.parting_split.result c.self.view_is c.self.invariant c.parting_split.ensures.parts under some

pub returns-clause-taken : goal.returns-clause-taken
returns-clause-taken c = λ sides under.
    taken_under _ c.args.self.now sides c.args.shipment c.args.terminal c.args.row.now c.parting_split.result c.self.view_is c.self.invariant c.parting_split.ensures.taken under
