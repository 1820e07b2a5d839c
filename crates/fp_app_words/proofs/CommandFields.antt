-- What a command is after one more setting or subcommand.
use Rattle.std.proofs.Common.{◌≡◌, ◌∙◌, ap, ap₂, true, false}
use Rattle.std.specs.Prelude.{Bool, ◌||◌}
use Rattle.clap.specs.Simple.{Shape, app_of_fields, on_top}
use Rattle.clap.specs.Words.{AddsArg, AddsSubcommand, App, Rule, app_of, rule_of, with_rule, with_subcommand}
use Rattle.clap.specs.declared.builder.arg.Arg.{Arg}
use Rattle.clap.specs.declared.builder.command.Command.{Command}
use Rattle.clap.specs.declared.builder.command.Command.TheViews.{out-Command}

pub app_of-subcommand : (old sub new : Command) (a : App) (s : Shape) → AddsSubcommand old sub new → app_of old ≡ a → (app_of sub).top ≡ s → (out-Command sub).has_globals ≡ false
    → app_of new ≡ with_subcommand a s
app_of-subcommand old sub new a s adds first second free = adds.shape free ∙ ap₂ with_subcommand first second

pub top_of : (c : Command) (a : App) → app_of c ≡ a → (app_of c).top ≡ a.top
top_of c a is = ap (λ (x : App). x.top) is

pub app_of-arg : (old new : Command) (arg : Arg) (a : App) (r : Rule) → AddsArg old arg new → app_of old ≡ a → rule_of arg ≡ r → arg.global ≡ false
    → app_of new ≡ with_rule a r
app_of-arg old new arg a r adds first second local = adds.shape local ∙ ap₂ with_rule first second

pub has_globals-arg : (old new : Command) (arg : Arg) → AddsArg old arg new → (out-Command old).has_globals ≡ false → arg.global ≡ false → (out-Command new).has_globals ≡ false
has_globals-arg old new arg adds first second = adds.globals ∙ ap₂ (λ (x y : Bool). x || y) first second

pub app_of-no_binary_name : (old new : Command) (a : App) → out-Command new ≡ record (out-Command old) { no_binary_name = true } → app_of old ≡ a
    → app_of new ≡ on_top (λ s. record s { no_binary_name = true }) a
app_of-no_binary_name old new a set is = ap app_of_fields set ∙ ap (on_top (λ s. record s { no_binary_name = true })) is

pub app_of-help_flag : (old new : Command) (a : App) → out-Command new ≡ record (out-Command old) { disable_help_flag = true } → app_of old ≡ a
    → app_of new ≡ on_top (λ s. record s { disable_help_flag = true }) a
app_of-help_flag old new a set is = ap app_of_fields set ∙ ap (on_top (λ s. record s { disable_help_flag = true })) is

pub app_of-help_subcommand : (old new : Command) (a : App) → out-Command new ≡ record (out-Command old) { disable_help_subcommand = true } → app_of old ≡ a
    → app_of new ≡ on_top (λ s. record s { disable_help_subcommand = true }) a
app_of-help_subcommand old new a set is = ap app_of_fields set ∙ ap (on_top (λ s. record s { disable_help_subcommand = true })) is

pub app_of-version_flag : (old new : Command) (a : App) → out-Command new ≡ record (out-Command old) { disable_version_flag = true } → app_of old ≡ a
    → app_of new ≡ on_top (λ s. record s { disable_version_flag = true }) a
app_of-version_flag old new a set is = ap app_of_fields set ∙ ap (on_top (λ s. record s { disable_version_flag = true })) is

pub app_of-subcommand_required : (old new : Command) (a : App) → out-Command new ≡ record (out-Command old) { subcommand_required = true } → app_of old ≡ a
    → app_of new ≡ on_top (λ s. record s { subcommand_required = true }) a
app_of-subcommand_required old new a set is = ap app_of_fields set ∙ ap (on_top (λ s. record s { subcommand_required = true })) is
