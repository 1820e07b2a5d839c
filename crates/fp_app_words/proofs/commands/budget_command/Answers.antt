use Rattle.fp_app_words.proofs.CommandFields.{app_of-arg, has_globals-arg}
use Rattle.fp_app_words.proofs.commands.budget_command.Goals as goal

pub returns-clause-shape : goal.returns-clause-shape
returns-clause-shape c =
    let rounds = app_of-arg _ _ _ _ _ c.in_ok-arg.ensures c.new.ensures.app c.option.ensures.rule c.option.ensures.local in
    let branches = app_of-arg _ _ _ _ _ c.in_ok-arg-2.ensures rounds c.option-2.ensures.rule c.option-2.ensures.local in
    app_of-arg _ _ _ _ _ c.in_ok-command.ensures branches c.option-3.ensures.rule c.option-3.ensures.local

pub returns-clause-local : goal.returns-clause-local
returns-clause-local c =
    let rounds = has_globals-arg _ _ _ c.in_ok-arg.ensures c.new.ensures.local c.option.ensures.local in
    let branches = has_globals-arg _ _ _ c.in_ok-arg-2.ensures rounds c.option-2.ensures.local in
    has_globals-arg _ _ _ c.in_ok-command.ensures branches c.option-3.ensures.local
