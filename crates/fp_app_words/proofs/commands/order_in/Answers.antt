use Rattle.std.proofs.Common.{◌≡◌, ◌∙◌, ℕ, List, sym, ap, subst}
use Rattle.std.specs.Prelude.{IfOk, Option, Some, option_and_then, option_map}
use Rattle.clap.specs.Words.{Row, found_of, rows_of, subcommand_rows_of}
use Rattle.fp_app_words.specs.Commands.{entered_order}
use Rattle.fp_app_words.proofs.EnteredRows.{entered-none, entered-rows}
use Rattle.fp_app_words.proofs.commands.order_in.Goals as goal

pub returns-in-Some-clause-order : goal.returns-in-Some-clause-order
returns-in-Some-clause-order c =
    let entered : subcommand_rows_of c.args.matches.now ≡ Some (c.in-Some.name.now, rows_of (found_of c.in-Some.entered.now)) =
    entered-rows c.args.matches.now c.in-Some.name.now (rows_of (found_of c.in-Some.entered.now))
    (sym c.subcommand.ensures.name ∙ ap (option_map (λ p. p.0.now)) c.in-Some.is)
    (sym c.subcommand.ensures.rows ∙ ap (option_map (λ p. rows_of (found_of p.1.now))) c.in-Some.is) in
    subst (λ (found : Option (List ℕ × List Row)). IfOk c.order_by.result (λ order. order ≡ option_and_then entered_order found)) (sym entered) c.order_by.ensures.order

pub returns-in-None-clause-order : goal.returns-in-None-clause-order
returns-in-None-clause-order c =
    ap (option_and_then entered_order) (sym (entered-none c.args.matches.now (sym c.subcommand.ensures.name ∙ ap (option_map (λ p. p.0.now)) c.in-None.is)))
