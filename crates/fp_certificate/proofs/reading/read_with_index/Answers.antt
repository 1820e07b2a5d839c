use Rattle.std.proofs.Common.{◌+◌, ◌-◌, ◌^◌, ◌<◌, ℕ, List, drop, length, arith}
use Rattle.std.proofs.lemmas.List.{length-drop}
use Rattle.fp_certificate.specs.Reading.{certificate_of, finished}
use Rattle.fp_certificate.proofs.ReadEnds.{certificate_of-finished, certificate_of-ok, certificate_of-bad, IsInRange-read, AreCountable-read, few-spans-read}
use Rattle.fp_certificate.proofs.reading.read_with_index.Goals as goal

pub returns-clause-read : goal.returns-clause-read
returns-clause-read c =
    let lines = c.args.lines.now in
    let d = c.in_ok-draft.draft in
    certificate_of-ok c.finish.result (finished d (length lines + 1)) (certificate_of c.args.instance.now (c.args.from + 1) (drop c.args.from lines))
    (certificate_of-finished c.new-lookup.result c.args.instance.now lines c.args.from d c.new-lookup.ensures c.requires.from c.in_ok-draft.ensures) c.finish.ensures

pub returns-clause-bad : goal.returns-clause-bad
returns-clause-bad c =
    let lines = c.args.lines.now in
    let d = c.in_ok-draft.draft in
    certificate_of-bad c.finish.result (finished d (length lines + 1)) (certificate_of c.args.instance.now (c.args.from + 1) (drop c.args.from lines))
    (certificate_of-finished c.new-lookup.result c.args.instance.now lines c.args.from d c.new-lookup.ensures c.requires.from c.in_ok-draft.ensures) c.finish.ensures

-- the records that were read can be counted in 32 bits
few : (lines : List (List (List ℕ))) (from : ℕ) → length lines < 2 ^ 32 - 1 → length (drop from lines) < 2 ^ 32 - 1
few lines from small = omega (arith, length-drop from lines)

pub returns-clause-range : goal.returns-clause-range
returns-clause-range c =
    let lines = c.args.lines.now in
    IsInRange-read c.args.instance.now (c.args.from + 1) (drop c.args.from lines) c.finish.result (few lines c.args.from c.requires.few) (returns-clause-read c)

pub returns-clause-countable : goal.returns-clause-countable
returns-clause-countable c =
    let lines = c.args.lines.now in
    AreCountable-read c.args.instance.now (c.args.from + 1) (drop c.args.from lines) c.finish.result (few lines c.args.from c.requires.few) (returns-clause-read c)

pub returns-clause-few : goal.returns-clause-few
returns-clause-few c =
    let lines = c.args.lines.now in
    few-spans-read c.args.instance.now (c.args.from + 1) (drop c.args.from lines) c.finish.result (few lines c.args.from c.requires.few) (returns-clause-read c)
