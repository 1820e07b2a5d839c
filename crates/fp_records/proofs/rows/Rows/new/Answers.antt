use Rattle.std.proofs.Common.{refl, arith}
use Rattle.csv.specs.Records.{Rising, last_end}
use Rattle.fp_records.specs.Rows.{parts_from}
use Rattle.fp_records.proofs.rows.Rows.new.Goals as goal

pub invariant_of-result : goal.invariant_of-result
unfolding Rising last_end
invariant_of-result c = record {
  fields = rw (c.new.ensures.items, c.new-2.ensures.items) (omega arith);
  whole = rw (c.new.ensures.items, c.new-2.ensures.items) refl;
  rows = rw (c.new-2.ensures.items, c.new-3.ensures.items) (omega arith);
}

pub returns : goal.returns
unfolding parts_from last_end
returns c = rw (c.new.ensures.items, c.new-2.ensures.items, c.new-3.ensures.items) refl
