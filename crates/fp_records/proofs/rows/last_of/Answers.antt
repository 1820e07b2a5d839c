use Rattle.std.proofs.Common.{◌≡◌, ◌-◌, suc, sym, length, arith, rules}
use Rattle.csv.proofs.RecordFacts.{last_end-at, last_end-none}
use Rattle.fp_records.proofs.rows.last_of.Goals as goal

pub returns-then-is_empty : goal.returns-then-is_empty
returns-then-is_empty c =
    let none : length c.args.ends.now ≡ 0 = search rules in
    sym (last_end-none 0 c.args.ends.now none)

pub returns-else-is_empty : goal.returns-else-is_empty
returns-else-is_empty c =
    let some : length c.args.ends.now ≡ 0 → ⊥ = search rules in
    let count : length c.args.ends.now ≡ suc (length c.args.ends.now - 1) = omega arith in
    sym (last_end-at 0 c.args.ends.now (length c.args.ends.now - 1) 0 count)
