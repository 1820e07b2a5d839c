use Rattle.fp_app_words.proofs.CommandFields.{app_of-help_flag, app_of-help_subcommand, app_of-no_binary_name, app_of-subcommand, app_of-subcommand_required, app_of-version_flag, top_of}
use Rattle.fp_app_words.proofs.commands.command.Goals as goal

pub returns : goal.returns
returns c =
    let top = app_of-subcommand_required _ _ _ c.subcommand_required.ensures
    (app_of-version_flag _ _ _ c.disable_version_flag.ensures
    (app_of-help_subcommand _ _ _ c.disable_help_subcommand.ensures
    (app_of-help_flag _ _ _ c.disable_help_flag.ensures
    (app_of-no_binary_name _ _ _ c.no_binary_name.ensures c.new.ensures.app)))) in
    let direct = app_of-subcommand _ _ _ _ _ c.in_ok-subcommand.ensures top (top_of _ _ c.new-2.ensures.app) c.new-2.ensures.local in
    let check = app_of-subcommand _ _ _ _ _ c.in_ok-subcommand-2.ensures direct (top_of _ _ c.new-3.ensures.app) c.new-3.ensures.local in
    let bound = app_of-subcommand _ _ _ _ _ c.in_ok-subcommand-3.ensures check c.in_ok-bound_command.ensures.shape c.in_ok-bound_command.ensures.local in
    let plan = app_of-subcommand _ _ _ _ _ c.in_ok-subcommand-4.ensures bound c.in_ok-plan_command.ensures.shape c.in_ok-plan_command.ensures.local in
    let improve = app_of-subcommand _ _ _ _ _ c.in_ok-subcommand-5.ensures plan c.in_ok-plan_command-2.ensures.shape c.in_ok-plan_command-2.ensures.local in
    let trial = app_of-subcommand _ _ _ _ _ c.in_ok-subcommand-6.ensures improve c.in_ok-trial_command.ensures.shape c.in_ok-trial_command.ensures.local in
    let yard = app_of-subcommand _ _ _ _ _ c.in_ok-subcommand-7.ensures trial c.in_ok-yard_command.ensures.shape c.in_ok-yard_command.ensures.local in
    let fleet = app_of-subcommand _ _ _ _ _ c.in_ok-subcommand-8.ensures yard c.in_ok-fleet_command.ensures.shape c.in_ok-fleet_command.ensures.local in
    let replan = app_of-subcommand _ _ _ _ _ c.in_ok-subcommand-9.ensures fleet c.in_ok-replan_command.ensures.shape c.in_ok-replan_command.ensures.local in
    app_of-subcommand _ _ _ _ _ c.in_ok-command.ensures replan c.in_ok-quote_command.ensures.shape c.in_ok-quote_command.ensures.local
