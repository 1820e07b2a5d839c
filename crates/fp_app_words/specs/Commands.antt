-- The command line as clap reads it, and what a parse of it orders.
use Rattle.std.specs.Prelude.{ℕ, ◌≡◌, Bool, true, false, List, [], ◌∷◌, ◌++◌, codes, find, map, if◌then◌else◌, None, Some, option_and_then}
use Rattle.std.specs.Str.{bytes_eq}
use Rattle.std.specs.Option.{option_map_or}
use Rattle.std.specs.declared.option.Option.{Option}
use Rattle.clap.specs.Words.{App, Row, Rule, Shape, first_of, new_app, new_rule}
use Rattle.clap.specs.declared.builder.action.ArgAction.TheVariants.{Set, SetTrue}
use Rattle.clap.specs.declared.builder.command.Command.{Command}
use Rattle.clap.specs.declared.builder.command.Command.TheViews.{out-Command}
use Rattle.clap.specs.declared.parser.matches.ValueSource.{ValueSource}
use Rattle.clap.specs.declared.parser.matches.ValueSource.TheVariants.{CommandLine, DefaultValue}
use Rattle.fp_app_words.specs.declared.orders.Order.{Order}
use Rattle.fp_app_words.specs.declared.orders.Order.TheVariants.{Direct, Check}
use Rattle.fp_app_words.specs.Settings.{Options, bound_by, bound_options, budget_options, fleet_by, fleet_options, improve_by, names_of, plan_by, plan_options, quote_by, quote_options, replan_by, trial_by, trial_settings, yard_by, yard_settings}

-- the word is `--`
abbrev pub is_dashes : List ℕ → Bool
is_dashes word = bytes_eq word (codes "--")

-- a subcommand that takes no words
abbrev pub bare : List ℕ → Shape
bare name = (new_app name).top

-- an option with a value
abbrev pub option_rule : List ℕ → Rule
option_rule name = record (new_rule name) { long = Some name; action = Some Set }

-- a flag, which is an option without a value
abbrev pub flag_rule : List ℕ → Rule
flag_rule name = record (new_rule name) { long = Some name; action = Some SetTrue }

-- a place that a word may fill
abbrev pub free_place_rule : List ℕ → Rule
free_place_rule name = record (new_rule name) { action = Some Set }

-- where there is one
abbrev pub free_places : Option (List ℕ) → List Rule
free_places None = []
free_places (Some name) = free_place_rule name ∷ []

-- a place that a word must fill
abbrev pub place_rule : List ℕ → Rule
place_rule name = record (new_rule name) { required = true; action = Some Set }

-- no argument of the command is one of its subcommands' too
abbrev pub IsLocal : Command → Type 0
IsLocal command = (out-Command command).has_globals ≡ false

-- a subcommand with these options
abbrev pub with_options : List ℕ → Options → Shape
with_options command options = record (bare command) { rules = free_places options.place ++ (map option_rule (names_of options.settings) ++ map flag_rule options.flags) }

-- a subcommand with places of these names, in this order
abbrev pub with_places : List ℕ → List (List ℕ) → Shape
with_places command names = record (bare command) { rules = map place_rule names }

-- the command above these subcommands: the words begin with a subcommand, and it has no help and no
-- version
abbrev pub above : List Shape → App
above subcommands = record {
  top = record (new_app (codes "freight")).top {
    is_leaf = false;
    no_binary_name = true;
    disable_help_flag = true;
    disable_help_subcommand = true;
    disable_version_flag = true;
    subcommand_required = true;
  };
  subs = subcommands;
}

-- the command, with a subcommand for each form
abbrev pub app : App
app = above (
    bare (codes "direct")
    ∷ bare (codes "check")
    ∷ with_options (codes "bound") bound_options
    ∷ with_options (codes "plan") plan_options
    ∷ with_options (codes "improve") plan_options
    ∷ with_places (codes "trial") (names_of trial_settings)
    ∷ with_places (codes "yard") (names_of yard_settings)
    ∷ with_options (codes "fleet") fleet_options
    ∷ with_options (codes "replan") budget_options
    ∷ with_options (codes "quote") quote_options
    ∷ [])

-- a value came from the words, and not from a default
abbrev pub is_from_words : ValueSource → Bool
is_from_words CommandLine = true
is_from_words DefaultValue = false

-- the words gave the argument of this name
abbrev pub was_given : List ℕ → List Row → Bool
was_given name found = option_map_or is_from_words (option_and_then (λ (r : Row). r.source) (find (λ (r : Row). bytes_eq r.id name) found)) false

-- what a subcommand orders in which this was found
abbrev pub entered_order : List ℕ × List Row → Option Order
entered_order found =
    let text : List ℕ → Option (List ℕ) = λ name. first_of name found.1 in
    let is_given : List ℕ → Bool = λ name. was_given name found.1 in
    if bytes_eq found.0 (codes "direct") then Some Direct
    else if bytes_eq found.0 (codes "check") then Some Check
    else if bytes_eq found.0 (codes "bound") then bound_by text is_given
    else if bytes_eq found.0 (codes "plan") then plan_by text is_given
    else if bytes_eq found.0 (codes "improve") then improve_by text is_given
    else if bytes_eq found.0 (codes "trial") then trial_by text
    else if bytes_eq found.0 (codes "yard") then yard_by text
    else if bytes_eq found.0 (codes "fleet") then fleet_by is_given
    else if bytes_eq found.0 (codes "replan") then replan_by text is_given
    else if bytes_eq found.0 (codes "quote") then quote_by text is_given
    else None
