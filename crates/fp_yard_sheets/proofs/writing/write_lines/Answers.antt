use Rattle.std.proofs.Common.{◌≡◌, List, ℕ, sym, subst}
use Rattle.std.specs.declared.alloc.Global.{Global}
use Rattle.std.specs.declared.vec.Vec.{Vec}
use Rattle.std.proofs.lemmas.Result.{IfOk-weaker}
use Rattle.fp_model.specs.declared.parts.Leg.{Leg}
use Rattle.fp_records.specs.Text.{lines_of}
use Rattle.fp_yard_sheets.specs.declared.arrivals.Arrival.{Arrival}
use Rattle.fp_yard_sheets.specs.Arrivals.{AreByMoment}
use Rattle.fp_yard_sheets.specs.Freight.{routes_of}
use Rattle.fp_yard_sheets.specs.Rows.{IsYardText, yard_rows}
use Rattle.fp_yard_sheets.proofs.writing.write_lines.Goals as goal

pub returns : goal.returns
returns c =
    let p = c.args.instance.now in
    let routes : List (List Leg) = routes_of c.args.lines.now c.args.yard.now.schedule in
    let lines = c.args.lines.now in
    let arrivals : List Arrival = c.as_slice.result.now in
    IfOk-weaker c.write_rows.result
    (λ (text : Vec ℕ Global). text.items ≡ lines_of (yard_rows p routes lines arrivals c.args.log.now))
    (λ (text : Vec ℕ Global). IsYardText p routes lines c.args.log.now text.items)
    (λ text is. (arrivals, subst (λ (list : List Arrival). AreByMoment p lines list) (sym c.as_slice.ensures.value) c.in_ok-arrivals.ensures, is))
    c.write_rows.ensures
