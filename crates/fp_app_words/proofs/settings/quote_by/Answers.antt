use Rattle.std.proofs.Common.{◌∙◌, ap}
use Rattle.clap.specs.Words.{first_of, found_of, rows_of}
use Rattle.fp_app_words.specs.Commands.{was_given}
use Rattle.fp_app_words.specs.Settings.{quote_of}
use Rattle.fp_app_words.proofs.settings.quote_by.Goals as goal

pub returns-clause-order : goal.returns-clause-order
returns-clause-order c =
    c.quote_with.ensures.order ∙ ap (quote_of (λ name. first_of name (rows_of (found_of c.args.matches.now))) (λ name. was_given name (rows_of (found_of c.args.matches.now)))) c.in_ok-name.ensures
