use Rattle.std.proofs.Common.{◌≡◌, length}
use Rattle.fp_fleet.proofs.Flows.{AreFlows, arrive_at, depart_at, head_at, tail_at, trucks_at}
use Rattle.fp_fleet.proofs.deficits.flows.Given as goal

-- the trucks of the lines so far are counted
abbrev pub invariant-loop-line : goal.invariant-loop-line
invariant-loop-line l = record {
  long : (length l.leaving.items ≡ length l.instance.terminals) × (length l.arriving.items ≡ length l.instance.terminals);
  leaving : AreFlows (tail_at l.instance l.lines) (depart_at l.lines) (trucks_at l.lines) l.moments l.line-index l.leaving.items;
  arriving : AreFlows (head_at l.instance l.lines) (arrive_at l.instance l.lines) (trucks_at l.lines) l.moments l.line-index l.arriving.items;
}
