use Rattle.std.proofs.Common.{◌≡◌, ◌≤◌, ◌+◌, drop}
use Rattle.fp_base_lists.specs.Ascending.{place_in}
use Rattle.fp_replan_present.proofs.promised_legs.place_among.Given as goal

abbrev pub invariant-loop-other : goal.invariant-loop-other
invariant-loop-other l = record {
  left : l.place + place_in (drop l.other-index l.numbers) l.number ≡ place_in l.numbers l.number;
  few : l.place ≤ l.other-index;
}
