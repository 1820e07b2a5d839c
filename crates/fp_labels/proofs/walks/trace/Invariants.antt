use Rattle.std.proofs.Common.{◌≡◌, ◌<◌, ◌-◌, ◌++◌, length}
use Rattle.std.specs.Prelude.{reverse}
use Rattle.fp_labels.specs.Labels.{traced}
use Rattle.fp_labels.proofs.walks.trace.Given as goal

abbrev pub invariant-loop : goal.invariant-loop
invariant-loop l = record {
  inside : l.here < length l.labels;
  told : traced l.labels (length l.labels) l.node ≡ traced l.labels (length l.labels - l.counter) l.here ++ reverse l.walk.items;
}
