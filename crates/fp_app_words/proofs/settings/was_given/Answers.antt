use Rattle.std.proofs.Common.{◌∙◌, false, sym, ap}
use Rattle.std.specs.Prelude.{Option}
use Rattle.std.specs.Option.{option_map_or}
use Rattle.clap.specs.Words.{found_of}
use Rattle.clap.specs.declared.parser.matches.ValueSource.{ValueSource}
use Rattle.fp_app_words.specs.Commands.{is_from_words}
use Rattle.fp_app_words.proofs.EnteredRows.{source-rows}
use Rattle.fp_app_words.proofs.settings.was_given.Goals as goal

pub returns-in-Some : goal.returns-in-Some
returns-in-Some c =
    c.is_from_words.ensures ∙ ap (λ (o : Option ValueSource). option_map_or is_from_words o false) (sym c.in-Some.is ∙ c.value_source.ensures ∙ source-rows (found_of c.args.matches.now) c.args.name.now)

pub returns-in-None : goal.returns-in-None
returns-in-None c = ap (λ (o : Option ValueSource). option_map_or is_from_words o false) (sym c.in-None.is ∙ c.value_source.ensures ∙ source-rows (found_of c.args.matches.now) c.args.name.now)
