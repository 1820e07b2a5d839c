use Rattle.std.proofs.Common.{◌≡◌, ◌++◌, drop, false, map}
use Rattle.fp_records.specs.Text.{lines_of}
use Rattle.fp_certificate_lines.specs.Rows.{gift_fields}
use Rattle.fp_certificate_lines.proofs.lines.gifts.write_gifts.Given as goal

-- the lines so far and those that are left are all of them
abbrev pub invariant-loop-gift : goal.invariant-loop-gift
invariant-loop-gift l = record {
  begun : l.line.begun ≡ false;
  text : l.line.text ++ lines_of (map (gift_fields l.instance) (drop l.gift-index l.gifts)) ≡ l.initial.line.text ++ lines_of (map (gift_fields l.instance) l.gifts);
}
