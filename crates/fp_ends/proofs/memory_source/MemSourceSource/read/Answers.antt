use Rattle.std.proofs.Common.{◌∙◌, ap, drop}
use Rattle.fp_ends.proofs.KnownBytes.{drop-copy_front}
use Rattle.fp_ends.proofs.memory_source.MemSourceSource.read.Goals as goal

pub returns-clause-bytes : goal.returns-clause-bytes
returns-clause-bytes c =
    let is = c.split_at.ensures.back ∙ ap (λ t. drop c.args.self.now.at t) c.deref-2.ensures.value in
    let copied = c.copy_front-count in
    drop-copy_front c.args.self.now.at copied.result _ c.args.self.now.bytes.items c.split_at.result.1.now c.args.into.now copied.new.into is c.args.self.now.moves copied.ensures.count copied.ensures.front copied.ensures.len
