use Rattle.std.proofs.Common.{[]}
use Rattle.fp_replan_present.proofs.KeptOnly.{reads-kept}
use Rattle.fp_replan_present.proofs.laws.reads_as_kept.Goals as goal

pub returns : goal.returns
returns c = λ p ordinal records only. reads-kept p [] ordinal records only
