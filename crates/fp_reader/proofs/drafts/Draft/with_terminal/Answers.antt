use Rattle.std.proofs.Common.{ap}
use Rattle.fp_model.specs.Problem.{Problem}
use Rattle.fp_reader.proofs.Indexes.{index-terminal}
use Rattle.fp_reader.proofs.drafts.Draft.with_terminal.Goals as goal

pub invariant_of-result : goal.invariant_of-result
invariant_of-result c =
    let terminals = ap (λ (p : Problem). p.terminals) c.self.view_is in
    rw (c.in_ok-push.ensures.items, c.in_ok-new.ensures, c.in_ok-push-2.ensures.items, c.in_ok-add_terminal.ensures.ok)
    (index-terminal _ c.self.inside.index c.args.name.now c.args.hold c.self.invariant
    c.requires.name (rw terminals c.requires.fresh) (rw terminals c.requires.room) c.requires.hold)
