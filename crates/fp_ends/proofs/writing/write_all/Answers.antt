use Rattle.std.proofs.Common.{rules}
use Rattle.fp_ends.proofs.KnownBytes.{Appends_more}
use Rattle.fp_ends.proofs.writing.write_all.Goals as goal

pub loop-at-preserved : goal.loop-at-preserved
loop-at-preserved g c = let h = c.in-Ok.ensures.bytes in let e = c.split_at.ensures.back in record {
  within = search rules;
  taken = Appends_more _ _ _ _ _ _ c.loop-at.invariant.taken (rw e at c.in-Ok.ensures.bytes);
  same = search rules;
  room = search rules;
}
