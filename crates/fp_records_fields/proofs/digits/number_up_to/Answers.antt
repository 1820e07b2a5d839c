use Rattle.std.proofs.Common.{◌<◌, ◌-◌, ◌+◌, ◌*◌, get_or, drop, sym, ◌∙◌, arith, leb}
use Rattle.std.proofs.lemmas.Bool.{and_right, lt-leb}
use Rattle.fp_records_fields.specs.Fields.{number}
use Rattle.fp_records_fields.proofs.Numerals.{value-grows, value-step}
use Rattle.fp_records_fields.proofs.digits.number_up_to.Goals as goal

pub returns-in_err-value : goal.returns-in_err-value
returns-in_err-value c =
    let digits = c.args.digits.now in
    let i = c.loop-digit.digit-index in
    let next = c.loop-digit.value * 10 + (get_or digits i 0 - 48) in
    let step = value-step c.loop-digit.value digits i c.requires.digits (omega arith) in
    let grows = value-grows next (drop (i + 1) digits) in
    let total = sym step ∙ c.loop-digit.invariant.value in
    let over : c.args.high < next = c.in_err-value.ensures in
    let above : c.args.high < number digits = omega (arith, over, grows, total) in
    rw c.from_residual.ensures (and_right (leb 0 (number digits)) (leb (number digits) c.args.high) (lt-leb (number digits) c.args.high above))
