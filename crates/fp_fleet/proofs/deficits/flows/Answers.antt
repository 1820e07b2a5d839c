use Rattle.std.proofs.Common.{◌≡◌, ℕ, ◌+◌, ◌<◌, List, length, get_or, set, ap, ap₂, ◌∙◌, arith, length-set}
use Rattle.std.specs.declared.alloc.Global.{Global}
use Rattle.std.specs.declared.vec.Vec.{Vec}
use Rattle.std.proofs.lemmas.List.{get_or_read}
use Rattle.fp_model.specs.declared.parts.Arc.{Arc}
use Rattle.fp_model.specs.Problem.{IsArc, Problem, arc_at, no_arc}
use Rattle.fp_timetable.specs.declared.lines.TruckLine.{TruckLine}
use Rattle.fp_timetable.specs.Order.{no_line}
use Rattle.fp_fleet.specs.Rosters.{line_at}
use Rattle.fp_fleet.proofs.Flows.{AreFlows, AreFlows-added, AreFlows-passed, arrive_at, depart_at, flow, flow-le, head_at, tail_at, trucks_at}
use Rattle.fp_fleet.proofs.deficits.flows.Goals as goal
use Rattle.fp_fleet.proofs.deficits.flows.Goals.{then-line-moments, else-line-moments, then-arrival_time-from, else-arrival_time-from}

pub overflow_add-index_mut : goal.overflow_add-index_mut
overflow_add-index_mut c =
    let p : Problem = c.args.instance.now in
    let lines : List TruckLine = c.args.lines.now in
    let i : ℕ = c.loop-line.line-index in
    let lt : i < length lines = omega arith in
    let arc : IsArc (length p.terminals) (arc_at p (line_at lines i).arc) = c.arc-arc.ensures.valid.parts.arcs (line_at lines i).arc no_arc (c.requires.exist i no_line lt) in
    let here : c.arc-arc.result.from ≡ tail_at p lines i = ap (λ (a : Arc). a.from) c.arc-arc.ensures.same in
    let within : c.arc-arc.result.from < length p.terminals = omega (arith, here, arc.from) in
    let read : c.index_mut.result.now ≡ get_or c.loop-line.leaving.items c.arc-arc.result.from 0 =
    get_or_read c.loop-line.leaving.items c.arc-arc.result.from c.index_mut.result.now (omega (arith, within, c.loop-line.invariant.long.0)) c.index_mut.ensures.value 0 in
    omega (
      arith,
      read,
      c.loop-line.invariant.leaving c.arc-arc.result.from (omega (arith, within, c.requires.long)),
      flow-le (tail_at p lines) (depart_at lines) lines i c.arc-arc.result.from (get_or c.args.moments.now c.arc-arc.result.from 0) lt,
      c.requires.fits,
    )

pub overflow_add-index_mut-then-arrival_time-from : goal.overflow_add-index_mut-then-arrival_time-from
overflow_add-index_mut-then-arrival_time-from c =
    let p : Problem = c.args.instance.now in
    let lines : List TruckLine = c.args.lines.now in
    let i : ℕ = c.loop-line.line-index in
    let lt : i < length lines = omega arith in
    let arc : IsArc (length p.terminals) (arc_at p (line_at lines i).arc) = c.arc-arc.ensures.valid.parts.arcs (line_at lines i).arc no_arc (c.requires.exist i no_line lt) in
    let here : c.arc-arc.result.to ≡ head_at p lines i = ap (λ (a : Arc). a.to) c.arc-arc.ensures.same in
    let within : c.arc-arc.result.to < length p.terminals = omega (arith, here, arc.to) in
    let read : c.index_mut-then-arrival_time-from.result.now ≡ get_or c.loop-line.arriving.items c.arc-arc.result.to 0 =
    get_or_read c.loop-line.arriving.items c.arc-arc.result.to c.index_mut-then-arrival_time-from.result.now (omega (arith, within, c.loop-line.invariant.long.1)) c.index_mut-then-arrival_time-from.ensures.value 0 in
    omega (
      arith,
      read,
      c.loop-line.invariant.arriving c.arc-arc.result.to (omega (arith, within, c.requires.long)),
      flow-le (head_at p lines) (arrive_at p lines) lines i c.arc-arc.result.to (get_or c.args.moments.now c.arc-arc.result.to 0) lt,
      c.requires.fits,
    )

pub loop-line-preserved : goal.loop-line-preserved
loop-line-preserved c =
    let p : Problem = c.args.instance.now in
    let lines : List TruckLine = c.args.lines.now in
    let i : ℕ = c.loop-line.line-index in
    let lt : i < length lines = omega arith in
    let arc : IsArc (length p.terminals) (arc_at p (line_at lines i).arc) = c.arc-arc.ensures.valid.parts.arcs (line_at lines i).arc no_arc (c.requires.exist i no_line lt) in
    let tail : c.arc-arc.result.from ≡ tail_at p lines i = ap (λ (a : Arc). a.from) c.arc-arc.ensures.same in
    let head : c.arc-arc.result.to ≡ head_at p lines i = ap (λ (a : Arc). a.to) c.arc-arc.ensures.same in
    let left : List ℕ = c.loop-line.leaving.items in
    let entered : List ℕ = c.loop-line.arriving.items in
    let new_left : List ℕ = c.if-line-moments.leaving.items in
    let new_entered : List ℕ = c.if-arrival_time-from.arriving.items in
    let left_by : get_or c.args.moments.now c.arc-arc.result.from 0 ≡ get_or c.args.moments.now (tail_at p lines i) 0 = ap (λ (k : ℕ). get_or c.args.moments.now k 0) tail in
    let entered_by : get_or c.args.moments.now c.arc-arc.result.to 0 ≡ get_or c.args.moments.now (head_at p lines i) 0 = ap (λ (k : ℕ). get_or c.args.moments.now k 0) head in
    let leave : (length new_left ≡ length p.terminals) × AreFlows (tail_at p lines) (depart_at lines) (trucks_at lines) c.args.moments.now (i + 1) new_left =
    elim c.if-line-moments.branch [
      | then-line-moments w ↦ (
          let read : w.index_mut.result.now ≡ get_or left (tail_at p lines i) 0 =
          get_or_read left c.arc-arc.result.from w.index_mut.result.now (omega (arith, tail, arc.from, c.loop-line.invariant.long.0)) w.index_mut.ensures.value 0
          ∙ ap (λ (k : ℕ). get_or left k 0) tail in
          let is : new_left ≡ set left (tail_at p lines i) (get_or left (tail_at p lines i) 0 + trucks_at lines i) =
          ap (λ (v : Vec ℕ Global). v.items) w.leaving-is ∙ ap₂ (λ (k n : ℕ). set left k (n + trucks_at lines i)) tail read in (
            omega (arith, ap length is, length-set left (tail_at p lines i) (get_or left (tail_at p lines i) 0 + trucks_at lines i), c.loop-line.invariant.long.0),
            AreFlows-added (tail_at p lines) (depart_at lines) (trucks_at lines) c.args.moments.now i left new_left
                (omega (arith, c.loop-line.invariant.long.0, c.requires.long)) (omega (arith, arc.from, c.loop-line.invariant.long.0))
                (omega (arith, w.if-line-moments.true, left_by)) is c.loop-line.invariant.leaving,
          )
          )
      | else-line-moments w ↦ (
          let is : new_left ≡ left = ap (λ (v : Vec ℕ Global). v.items) w.leaving-is in (
            omega (arith, ap length is, c.loop-line.invariant.long.0),
            λ v h.
                ap (λ (l : List ℕ). get_or l v 0) is
                ∙ AreFlows-passed (tail_at p lines) (depart_at lines) (trucks_at lines) c.args.moments.now i left (omega (arith, w.if-line-moments.false, left_by)) c.loop-line.invariant.leaving v h,
          )
          )
    ] in
    let arrive : (length new_entered ≡ length p.terminals) × AreFlows (head_at p lines) (arrive_at p lines) (trucks_at lines) c.args.moments.now (i + 1) new_entered =
    elim c.if-arrival_time-from.branch [
      | then-arrival_time-from w ↦ (
          let read : w.index_mut-then-arrival_time-from.result.now ≡ get_or entered (head_at p lines i) 0 =
          get_or_read entered c.arc-arc.result.to w.index_mut-then-arrival_time-from.result.now (omega (arith, head, arc.to, c.loop-line.invariant.long.1)) w.index_mut-then-arrival_time-from.ensures.value 0
          ∙ ap (λ (k : ℕ). get_or entered k 0) head in
          let is : new_entered ≡ set entered (head_at p lines i) (get_or entered (head_at p lines i) 0 + trucks_at lines i) =
          ap (λ (v : Vec ℕ Global). v.items) w.arriving-is ∙ ap₂ (λ (k n : ℕ). set entered k (n + trucks_at lines i)) head read in (
            omega (arith, ap length is, length-set entered (head_at p lines i) (get_or entered (head_at p lines i) 0 + trucks_at lines i), c.loop-line.invariant.long.1),
            AreFlows-added (head_at p lines) (arrive_at p lines) (trucks_at lines) c.args.moments.now i entered new_entered
                (omega (arith, c.loop-line.invariant.long.1, c.requires.long)) (omega (arith, arc.to, c.loop-line.invariant.long.1))
                (omega (arith, w.if-arrival_time-from.true, entered_by, c.arrival_time.ensures.moment, c.from.ensures)) is c.loop-line.invariant.arriving,
          )
          )
      | else-arrival_time-from w ↦ (
          let is : new_entered ≡ entered = ap (λ (v : Vec ℕ Global). v.items) w.arriving-is in (
            omega (arith, ap length is, c.loop-line.invariant.long.1),
            λ v h.
                ap (λ (l : List ℕ). get_or l v 0) is
                ∙ AreFlows-passed (head_at p lines) (arrive_at p lines) (trucks_at lines) c.args.moments.now i entered
                (omega (arith, w.if-arrival_time-from.false, entered_by, c.arrival_time.ensures.moment, c.from.ensures)) c.loop-line.invariant.arriving v h,
          )
          )
    ] in
    record { long = (leave.0, arrive.0); leaving = leave.1; arriving = arrive.1 }

pub returns-clause-leaving : goal.returns-clause-leaving
returns-clause-leaving c = λ v lt.
    let p : Problem = c.args.instance.now in
    let lines : List TruckLine = c.args.lines.now in
    let all : c.loop-line.line-index ≡ length lines = omega arith in
    c.loop-line.invariant.leaving v (omega (arith, lt, c.requires.long))
    ∙ ap (λ (n : ℕ). flow (tail_at p lines) (depart_at lines) (trucks_at lines) n v (get_or c.args.moments.now v 0)) all

pub returns-clause-arriving : goal.returns-clause-arriving
returns-clause-arriving c = λ v lt.
    let p : Problem = c.args.instance.now in
    let lines : List TruckLine = c.args.lines.now in
    let all : c.loop-line.line-index ≡ length lines = omega arith in
    c.loop-line.invariant.arriving v (omega (arith, lt, c.requires.long))
    ∙ ap (λ (n : ℕ). flow (head_at p lines) (arrive_at p lines) (trucks_at lines) n v (get_or c.args.moments.now v 0)) all
