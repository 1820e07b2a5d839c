use Rattle.std.proofs.Common.{◌≡◌, ℕ, ◌+◌, ◌-◌, ◌<◌, List, length, get_or, ⊎_elim, refl, ◌∙◌, arith}
use Rattle.std.specs.Prelude.{◌==◌, if◌then◌else◌}
use Rattle.std.proofs.lemmas.Bool.{cond-true, eq-eqb}
use Rattle.std.proofs.lemmas.List.{get_or_read}
use Rattle.fp_model.specs.Problem.{Problem}
use Rattle.fp_timetable.specs.declared.lines.TruckLine.{TruckLine}
use Rattle.fp_fleet.specs.declared.arrivals.Arrival.{Arrival}
use Rattle.fp_fleet.specs.declared.fleets.Turn.{Turn}
use Rattle.fp_fleet.specs.Arrivals.{arrival_at, no_arrival}
use Rattle.fp_fleet.specs.Sweeps.{AreTurning}
use Rattle.fp_fleet.proofs.AddedTurns.{idle-added}
use Rattle.fp_fleet.proofs.TurningLines.{AreDone-next, AreDone-start, AreTurning-next, AreTurning-start, AreTurning-turn}
use Rattle.fp_fleet.proofs.sweeps.Sweep.turn_over.Goals as goal

pub loop-at-init : goal.loop-at-init
loop-at-init c = record {
  turning = AreTurning-start c.args.instance.now c.args.lines.now c.args.arrivals.now c.args.number c.args.self.now.turns.items c.args.self.now.idle.items c.args.head c.requires.swept c.requires.head;
  done = AreDone-start c.args.instance.now c.args.lines.now c.args.number c.args.self.now.turns.items c.args.self.now.idle.items c.requires.swept;
  begins = refl;
  heads = refl;
}

pub returns-then-index-gt0-clause-turned : goal.returns-then-index-gt0-clause-turned
returns-then-index-gt0-clause-turned c =
    let p : Problem = c.args.instance.now in
    let lines : List TruckLine = c.args.lines.now in
    let arrivals : List Arrival = c.args.arrivals.now in
    let m : ℕ = c.args.number in
    let at : ℕ = c.loop-at.at in
    let n : ℕ = c.in_ok-lacking.field-0 in
    let l : ℕ = (arrival_at arrivals at).line in
    let t : Turn = record { before = l; after = m; count = n } in
    let within : at < length arrivals = omega arith in
    let turned : AreTurning p lines arrivals m c.args.self.now.turns.items c.args.self.now.idle.items c.turn_to.new.self.turns.items c.turn_to.new.self.idle.items (c.loop-at.lacking - n) at =
    AreTurning-turn p lines arrivals m c.args.self.now.turns.items c.args.self.now.idle.items c.loop-at.self.turns.items c.turn_to.new.self.turns.items c.loop-at.self.idle.items
    c.turn_to.new.self.idle.items c.loop-at.lacking at n c.requires.timetable c.requires.arrivals c.requires.number within c.loop-at.invariant.turning c.loop-at.invariant.done
    (omega (arith, c.if-rank-arrival.false, c.departure_rank-rank.ensures)) c.in_ok-lacking.ensures.adds c.in_ok-lacking.ensures.few in
    let line : l < length lines = (c.requires.arrivals.ranks at no_arrival within).0 in
    let read : c.index.result.now ≡ get_or c.turn_to.new.self.idle.items l 0 =
    get_or_read c.turn_to.new.self.idle.items l c.index.result.now (omega (arith, line, turned.swept.long)) c.index.ensures 0 in
    let left : get_or c.turn_to.new.self.idle.items l 0 + (if l == l then n else 0) ≡ get_or c.loop-at.self.idle.items l 0 =
    idle-added t c.loop-at.self.turns.items c.turn_to.new.self.turns.items c.loop-at.self.idle.items c.turn_to.new.self.idle.items l c.in_ok-lacking.ensures.adds
    (omega (arith, line, c.loop-at.invariant.turning.swept.long)) in
    let all : c.loop-at.lacking - n ≡ 0 =
    ⊎_elim
    (λ (same : n ≡ c.loop-at.lacking). omega (arith, same))
    (λ (spent : n ≡ get_or c.loop-at.self.idle.items l 0). absurd (omega (arith, spent, left, read, c.if-index-gt0.true, cond-true (l == l) n 0 (eq-eqb l l refl))))
    c.in_ok-lacking.ensures.most in
    record { turning = turned; late = λ some. absurd (omega (arith, some, all)) }

pub loop-at-preserved : goal.loop-at-preserved
loop-at-preserved c =
    let p : Problem = c.args.instance.now in
    let lines : List TruckLine = c.args.lines.now in
    let arrivals : List Arrival = c.args.arrivals.now in
    let m : ℕ = c.args.number in
    let at : ℕ = c.loop-at.at in
    let n : ℕ = c.in_ok-lacking.field-0 in
    let l : ℕ = (arrival_at arrivals at).line in
    let t : Turn = record { before = l; after = m; count = n } in
    let within : at < length arrivals = omega arith in
    let turned : AreTurning p lines arrivals m c.args.self.now.turns.items c.args.self.now.idle.items c.turn_to.new.self.turns.items c.turn_to.new.self.idle.items (c.loop-at.lacking - n) at =
    AreTurning-turn p lines arrivals m c.args.self.now.turns.items c.args.self.now.idle.items c.loop-at.self.turns.items c.turn_to.new.self.turns.items c.loop-at.self.idle.items
    c.turn_to.new.self.idle.items c.loop-at.lacking at n c.requires.timetable c.requires.arrivals c.requires.number within c.loop-at.invariant.turning c.loop-at.invariant.done
    (omega (arith, c.if-rank-arrival.false, c.departure_rank-rank.ensures)) c.in_ok-lacking.ensures.adds c.in_ok-lacking.ensures.few in
    let line : l < length lines = (c.requires.arrivals.ranks at no_arrival within).0 in
    let read : c.index.result.now ≡ get_or c.turn_to.new.self.idle.items l 0 =
    get_or_read c.turn_to.new.self.idle.items l c.index.result.now (omega (arith, line, turned.swept.long)) c.index.ensures 0 in
    let zero : get_or c.turn_to.new.self.idle.items l 0 ≡ 0 = omega (arith, read, c.if-index-gt0.false) in
    record {
      turning = AreTurning-next p lines arrivals m c.args.self.now.turns.items c.args.self.now.idle.items c.turn_to.new.self.turns.items c.turn_to.new.self.idle.items (c.loop-at.lacking - n) at
          within turned zero;
      done = AreDone-next m t c.loop-at.self.turns.items c.turn_to.new.self.turns.items c.loop-at.self.idle.items c.turn_to.new.self.idle.items c.in_ok-lacking.ensures.adds
          (omega (arith, line, c.loop-at.invariant.turning.swept.long)) zero c.loop-at.invariant.done;
      begins = c.in_ok-lacking.ensures.begins ∙ c.loop-at.invariant.begins;
      heads = c.in_ok-lacking.ensures.heads ∙ c.loop-at.invariant.heads;
    }
