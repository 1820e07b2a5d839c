use Rattle.std.proofs.Common.{ap}
use Rattle.clap.specs.Words.{App}
use Rattle.fp_app_words.proofs.CommandFields.{app_of-arg, has_globals-arg}
use Rattle.fp_app_words.proofs.commands.replan_command.Goals as goal

pub returns-clause-shape : goal.returns-clause-shape
returns-clause-shape c =
    let spans = app_of-arg _ _ _ _ _ c.in_ok-arg.ensures c.in_ok-budget_command.ensures.shape c.flag.ensures.rule c.flag.ensures.local in
    ap (λ (x : App). x.top) (app_of-arg _ _ _ _ _ c.in_ok-command.ensures spans c.flag-2.ensures.rule c.flag-2.ensures.local)

pub returns-clause-local : goal.returns-clause-local
returns-clause-local c =
    let spans = has_globals-arg _ _ _ c.in_ok-arg.ensures c.in_ok-budget_command.ensures.local c.flag.ensures.local in
    has_globals-arg _ _ _ c.in_ok-command.ensures spans c.flag-2.ensures.local
