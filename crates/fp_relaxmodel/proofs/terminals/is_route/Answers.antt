use Rattle.std.proofs.Common.{rules}
use Rattle.fp_relaxmodel.proofs.MetTerminals.{route-decides}
use Rattle.fp_relaxmodel.proofs.terminals.is_route.Goals as goal

pub returns-clause-route : goal.returns-clause-route
returns-clause-route c = route-decides _ c.args.instance.now c.args.walk.now (search rules)
