use Rattle.std.proofs.Common.{ap}
use Rattle.clap.specs.Words.{App}
use Rattle.fp_app_words.proofs.CommandFields.{app_of-arg, has_globals-arg}
use Rattle.fp_app_words.proofs.commands.trial_command.Goals as goal

pub returns-clause-shape : goal.returns-clause-shape
returns-clause-shape c =
    let seed = app_of-arg _ _ _ _ _ c.in_ok-arg.ensures c.new.ensures.app c.place.ensures.rule c.place.ensures.local in
    let terminals = app_of-arg _ _ _ _ _ c.in_ok-arg-2.ensures seed c.place-2.ensures.rule c.place-2.ensures.local in
    ap (λ (x : App). x.top) (app_of-arg _ _ _ _ _ c.in_ok-command.ensures terminals c.place-3.ensures.rule c.place-3.ensures.local)

pub returns-clause-local : goal.returns-clause-local
returns-clause-local c =
    let seed = has_globals-arg _ _ _ c.in_ok-arg.ensures c.new.ensures.local c.place.ensures.local in
    let terminals = has_globals-arg _ _ _ c.in_ok-arg-2.ensures seed c.place-2.ensures.local in
    has_globals-arg _ _ _ c.in_ok-command.ensures terminals c.place-3.ensures.local
