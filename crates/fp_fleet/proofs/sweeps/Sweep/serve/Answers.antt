use Rattle.std.proofs.Common.{ℕ, ◌<◌, List, [], ◌∷◌, ◌++◌, set, sym, ap, ◌∙◌, arith}
use Rattle.std.specs.Prelude.{nat_lt}
use Rattle.std.specs.declared.alloc.Global.{Global}
use Rattle.std.specs.declared.vec.Vec.{Vec}
use Rattle.std.proofs.lemmas.Bool.{cond-false, cond-true, le-ltb, lt-ltb}
use Rattle.fp_model.specs.declared.parts.Arc.{Arc}
use Rattle.fp_model.specs.Problem.{Problem}
use Rattle.fp_timetable.specs.declared.lines.TruckLine.{TruckLine}
use Rattle.fp_fleet.specs.declared.fleets.Begin.{Begin}
use Rattle.fp_fleet.proofs.MetDeficits.{tail-exists}
use Rattle.fp_fleet.proofs.ServedLines.{AreServed-more}
use Rattle.fp_fleet.proofs.sweeps.Sweep.serve.Goals as goal

pub returns-in_ok-push : goal.returns-in_ok-push
returns-in_ok-push c =
    let p : Problem = c.args.instance.now in
    let lines : List TruckLine = c.args.lines.now in
    let m : ℕ = c.args.number in
    let lacking : ℕ = c.in_ok-served.served.lacking in
    let b : Begin = record { line = m; count = lacking } in
    let some : 0 < lacking = omega arith in
    AreServed-more p lines c.args.arrivals.now m c.args.self.now.begins.items c.push.new.self.items c.args.self.now.turns.items c.turn_over.new.self.turns.items
    c.args.self.now.idle.items c.turn_over.new.self.idle.items c.args.self.now.heads.items (set c.turn_over.new.self.heads.items c.arc-terminal.result.from c.in_ok-served.served.head)
    lacking c.in_ok-served.served.head c.requires.arrivals c.requires.number (tail-exists p lines m c.requires.timetable.valid c.requires.timetable.exist c.requires.number)
    c.requires.served c.in_ok-served.ensures.turned
    (c.in_ok-push.ensures.items ∙ ap (λ (v : Vec Begin Global). v.items ++ b ∷ []) c.in_ok-served.ensures.begins
    ∙ sym (cond-true (nat_lt 0 lacking) (c.args.self.now.begins.items ++ b ∷ []) c.args.self.now.begins.items (lt-ltb 0 lacking some)))
    (ap (λ (v : Vec ℕ Global). set v.items c.arc-terminal.result.from c.in_ok-served.served.head) c.in_ok-served.ensures.heads
    ∙ ap (λ (a : Arc). set c.args.self.now.heads.items a.from c.in_ok-served.served.head) c.arc-terminal.ensures.same)

pub returns-else-served-gt0 : goal.returns-else-served-gt0
returns-else-served-gt0 c =
    let p : Problem = c.args.instance.now in
    let lines : List TruckLine = c.args.lines.now in
    let m : ℕ = c.args.number in
    let lacking : ℕ = c.in_ok-served.served.lacking in
    let b : Begin = record { line = m; count = lacking } in
    AreServed-more p lines c.args.arrivals.now m c.args.self.now.begins.items c.turn_over.new.self.begins.items c.args.self.now.turns.items c.turn_over.new.self.turns.items
    c.args.self.now.idle.items c.turn_over.new.self.idle.items c.args.self.now.heads.items (set c.turn_over.new.self.heads.items c.arc-terminal.result.from c.in_ok-served.served.head)
    lacking c.in_ok-served.served.head c.requires.arrivals c.requires.number (tail-exists p lines m c.requires.timetable.valid c.requires.timetable.exist c.requires.number)
    c.requires.served c.in_ok-served.ensures.turned
    (ap (λ (v : Vec Begin Global). v.items) c.in_ok-served.ensures.begins
    ∙ sym (cond-false (nat_lt 0 lacking) (c.args.self.now.begins.items ++ b ∷ []) c.args.self.now.begins.items (le-ltb 0 lacking (omega (arith, c.if-served-gt0.false)))))
    (ap (λ (v : Vec ℕ Global). set v.items c.arc-terminal.result.from c.in_ok-served.served.head) c.in_ok-served.ensures.heads
    ∙ ap (λ (a : Arc). set c.args.self.now.heads.items a.from c.in_ok-served.served.head) c.arc-terminal.ensures.same)
