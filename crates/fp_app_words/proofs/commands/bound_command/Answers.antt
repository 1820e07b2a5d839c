use Rattle.std.proofs.Common.{ap}
use Rattle.clap.specs.Words.{App}
use Rattle.fp_app_words.proofs.CommandFields.{app_of-arg, has_globals-arg}
use Rattle.fp_app_words.proofs.commands.bound_command.Goals as goal

pub returns-clause-shape : goal.returns-clause-shape
returns-clause-shape c =
    let seconds = app_of-arg _ _ _ _ _ c.in_ok-arg.ensures c.new.ensures.app c.option.ensures.rule c.option.ensures.local in
    ap (λ (x : App). x.top) (app_of-arg _ _ _ _ _ c.in_ok-command.ensures seconds c.flag.ensures.rule c.flag.ensures.local)

pub returns-clause-local : goal.returns-clause-local
returns-clause-local c =
    let seconds = has_globals-arg _ _ _ c.in_ok-arg.ensures c.new.ensures.local c.option.ensures.local in
    has_globals-arg _ _ _ c.in_ok-command.ensures seconds c.flag.ensures.local
