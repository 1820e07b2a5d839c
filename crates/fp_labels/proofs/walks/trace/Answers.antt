use Rattle.std.proofs.Common.{◌≡◌, ◌∙◌, ℕ, ◌+◌, ◌-◌, [], arith, ap, sym, length}
use Rattle.fp_labels.specs.Labels.{traced}
use Rattle.fp_labels.proofs.WalksBack.{read_more, read_all, step_inside, traced_end}
use Rattle.fp_labels.proofs.walks.trace.Goals as goal
use Rattle.fp_labels.proofs.walks.trace.Goals.{else-loop-test, then-loop-test+in-None}

pub loop-preserved : goal.loop-preserved
loop-preserved c =
    let labels = c.args.labels.now in
    let n : ℕ = length labels in
    record {
      inside = step_inside labels c.loop.here c.in-Some.step c.requires.sound c.loop.invariant.inside (sym c.in-Some.ensures);
      told = c.loop.invariant.told ∙ read_more labels (n - c.loop.counter) (n - (c.loop.counter + 1)) c.loop.here c.in-Some.step c.loop.walk.items c.push.new.self.items (omega arith) (sym c.in-Some.ensures) c.in_ok-push-in-Some.ensures.items;
    }

pub returns : goal.returns
returns c =
    let labels = c.args.labels.now in
    let n : ℕ = length labels in
    let left : ℕ = n - c.loop.counter in
    let done : traced labels left c.loop.here ≡ [] → c.reverse.new.self.items ≡ traced labels n c.args.node = λ none.
    c.reverse.ensures.items ∙ read_all labels left c.loop.here c.loop.walk.items (traced labels n c.args.node) c.loop.invariant.told none in
    elim c.loop-test.branch [
      | else-loop-test w ↦
          let none : left ≡ 0 = omega (arith, w.loop-test.false) in
          done (ap (λ (k : ℕ). traced labels k c.loop.here) none)
      | then-loop-test+in-None w ↦ done (traced_end labels left c.loop.here (sym w.in-None.ensures))
    ]
