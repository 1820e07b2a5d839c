use Rattle.std.proofs.Common.{ap}
use Rattle.clap.specs.Words.{App}
use Rattle.fp_app_words.proofs.CommandFields.{app_of-arg, has_globals-arg}
use Rattle.fp_app_words.proofs.commands.quote_command.Goals as goal

pub returns-clause-shape : goal.returns-clause-shape
returns-clause-shape c =
    let name = app_of-arg _ _ _ _ _ c.in_ok-arg.ensures c.new.ensures.app c.free_place.ensures.rule c.free_place.ensures.local in
    let rounds = app_of-arg _ _ _ _ _ c.in_ok-arg-2.ensures name c.option.ensures.rule c.option.ensures.local in
    let branches = app_of-arg _ _ _ _ _ c.in_ok-arg-3.ensures rounds c.option-2.ensures.rule c.option-2.ensures.local in
    let seconds = app_of-arg _ _ _ _ _ c.in_ok-arg-4.ensures branches c.option-3.ensures.rule c.option-3.ensures.local in
    let spans = app_of-arg _ _ _ _ _ c.in_ok-arg-5.ensures seconds c.flag.ensures.rule c.flag.ensures.local in
    ap (λ (x : App). x.top) (app_of-arg _ _ _ _ _ c.in_ok-command.ensures spans c.flag-2.ensures.rule c.flag-2.ensures.local)

pub returns-clause-local : goal.returns-clause-local
returns-clause-local c =
    let name = has_globals-arg _ _ _ c.in_ok-arg.ensures c.new.ensures.local c.free_place.ensures.local in
    let rounds = has_globals-arg _ _ _ c.in_ok-arg-2.ensures name c.option.ensures.local in
    let branches = has_globals-arg _ _ _ c.in_ok-arg-3.ensures rounds c.option-2.ensures.local in
    let seconds = has_globals-arg _ _ _ c.in_ok-arg-4.ensures branches c.option-3.ensures.local in
    let spans = has_globals-arg _ _ _ c.in_ok-arg-5.ensures seconds c.flag.ensures.local in
    has_globals-arg _ _ _ c.in_ok-command.ensures spans c.flag-2.ensures.local
