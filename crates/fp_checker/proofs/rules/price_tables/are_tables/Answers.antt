use Rattle.std.proofs.Common.{sym, ◌∙◌}
use Rattle.fp_checker.proofs.SharesInOrder.{tells-rule}
use Rattle.fp_checker.proofs.rules.price_tables.are_tables.Goals as goal

pub returns-then-all_ascending : goal.returns-then-all_ascending
returns-then-all_ascending c =
    let tells = tells-rule c.args.instance.now c.args.tables.now c.check_tables.result c.check_tables.ensures.ok c.check_tables.ensures.err in (
      λ h. record { ascending = c.all_ascending.ensures.0 c.if-all_ascending.true; rule = tells.0 (sym c.is_ok.ensures.value ∙ h) },
      λ are. c.is_ok.ensures.value ∙ tells.1 are.rule,
    )
