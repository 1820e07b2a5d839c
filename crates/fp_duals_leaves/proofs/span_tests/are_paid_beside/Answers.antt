-- Spans alone are tested as ever, and spans beside gifts by the rules of both.
use Rattle.std.proofs.Common.{◌∙◌, sym}
use Rattle.fp_flatnet.specs.Tables.{windows_in}
use Rattle.fp_prices_spans.specs.MomentRuns.{first_points}
use Rattle.fp_duals_leaves.proofs.SoundSpans.{arcs-of, given-of, nothing-in, paid-alone, ranged-of}
use Rattle.fp_duals_leaves.proofs.span_tests.are_paid_beside.Goals as goal

pub are_paid-requires-clause-of : goal.are_paid-requires-clause-of
are_paid-requires-clause-of c = ranged-of c.args.instance.now c.args.spans.now c.requires.range

pub check_gifts-requires-clause-spans : goal.check_gifts-requires-clause-spans
check_gifts-requires-clause-spans c = arcs-of c.args.instance.now c.args.spans.now c.requires.range

pub check_gifts-requires-clause-gifts : goal.check_gifts-requires-clause-gifts
check_gifts-requires-clause-gifts c = given-of c.args.instance.now c.args.gifts.now c.requires.given

pub check_charges-requires-clause-of : goal.check_charges-requires-clause-of
check_charges-requires-clause-of c = ranged-of c.args.instance.now c.args.spans.now c.requires.range

pub returns-then-is_empty : goal.returns-then-is_empty
returns-then-is_empty c =
    paid-alone c.args.instance.now (windows_in c.args.windows.now) (first_points c.args.points.now) c.args.spans.now c.args.gifts.now c.are_paid.result (nothing-in c.args.gifts.now (sym c.is_empty.ensures ∙ c.if-is_empty.true)) c.are_paid.ensures
