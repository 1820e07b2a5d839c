use Rattle.std.proofs.Common.{◌≡◌, ◌*◌}
use Rattle.fp_reader.specs.Generator.{drawn_shipments, number_after}
use Rattle.fp_reader.proofs.generation.generator.draw_shipments.Given as goal

abbrev pub invariant-loop-number : goal.invariant-loop-number
invariant-loop-number l = record {
  drawn : l.shipments.items ≡ drawn_shipments l.terminals l.initial.draws l.number;
  next : l.draws ≡ number_after l.initial.draws (5 * l.number);
}
