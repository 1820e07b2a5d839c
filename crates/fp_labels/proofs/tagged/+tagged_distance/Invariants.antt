use Rattle.std.proofs.Common.{length}
use Rattle.fp_labels.proofs.tagged.+tagged_distance.Given as goal

abbrev pub decreases-tagged_distance : goal.decreases-tagged_distance
decreases-tagged_distance l = length l.wanted.now
