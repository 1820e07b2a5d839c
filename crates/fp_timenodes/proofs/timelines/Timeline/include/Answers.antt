-- A point that is there gives nothing new.
use Rattle.std.proofs.Common.{sym, ◌∙◌}
use Rattle.fp_timenodes.proofs.OneMoreStamp.{IncludesPoint-there}
use Rattle.fp_timenodes.proofs.timelines.Timeline.include.Goals as goal

pub returns-then-has-clause-points : goal.returns-then-has-clause-points
returns-then-has-clause-points c = IncludesPoint-there c.args.self.now c.args.at 0 (sym c.has.ensures ∙ c.if-has.true)
