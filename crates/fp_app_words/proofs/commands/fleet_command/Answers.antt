use Rattle.std.proofs.Common.{ap}
use Rattle.clap.specs.Words.{App}
use Rattle.fp_app_words.proofs.CommandFields.{app_of-arg, has_globals-arg}
use Rattle.fp_app_words.proofs.commands.fleet_command.Goals as goal

pub returns-clause-shape : goal.returns-clause-shape
returns-clause-shape c =
    ap (λ (x : App). x.top) (app_of-arg _ _ _ _ _ c.in_ok-command.ensures c.new.ensures.app c.flag.ensures.rule c.flag.ensures.local)

pub returns-clause-local : goal.returns-clause-local
returns-clause-local c = has_globals-arg _ _ _ c.in_ok-command.ensures c.new.ensures.local c.flag.ensures.local
