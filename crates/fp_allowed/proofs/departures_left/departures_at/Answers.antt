use Rattle.std.proofs.Common.{◌≡◌, false, true, List, sym, ap, ◌∙◌}
use Rattle.fp_flatnet.specs.Tables.{windows_in}
use Rattle.fp_tree.specs.declared.sides.Side.{Side}
use Rattle.fp_allowed.specs.Moments.{is_barred}
use Rattle.fp_allowed.proofs.DepartureCounts.{departures_in-barred}
use Rattle.fp_allowed.proofs.OpenMoments.{is_barred-barring}
use Rattle.fp_allowed.proofs.departures_left.departures_at.Goals as goal

pub returns-then-is_barred-clause-exact : goal.returns-then-is_barred-clause-exact
returns-then-is_barred-clause-exact c = λ others own through.
    let p = c.args.instance.now in
    let k = c.args.shipment in
    let barred : is_barred p k c.args.arc others ≡ true =
    sym (is_barred-barring p k c.args.arc others) ∙ ap (λ (l : List Side). is_barred p k c.args.arc l) (sym through) ∙ sym c.is_barred.ensures ∙ c.if-is_barred.true in
    sym (departures_in-barred p k c.args.arc others (windows_in c.args.windows.now k c.args.arc) barred)

pub returns-clause-exact : goal.returns-clause-exact
returns-clause-exact c = λ others own through.
    let p = c.args.instance.now in
    let k = c.args.shipment in
    let free : is_barred p k c.args.arc others ≡ false =
    sym (is_barred-barring p k c.args.arc others) ∙ ap (λ (l : List Side). is_barred p k c.args.arc l) (sym through) ∙ sym c.is_barred.ensures ∙ c.if-is_barred.false in
    c.departures_by.ensures.exact p others own free
