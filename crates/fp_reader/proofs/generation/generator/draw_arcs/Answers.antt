use Rattle.std.proofs.Common.{List, [], ◌∷◌, ◌++◌, ℕ, ◌≡◌, ◌+◌, ◌-◌, ◌/◌, ◌%◌, subst, arith}
use Rattle.std.specs.List.{flat_map, range_with_len}
use Rattle.fp_reader.specs.Generator.{ends_from}
use Rattle.fp_reader.proofs.DrawnArcs.{HasDrawn, HasDrawn-more, HasDrawn-ring}
use Rattle.fp_reader.proofs.RingEnds.{ends-next}
use Rattle.fp_reader.proofs.generation.generator.draw_arcs.Goals as goal

pub loop-from-preserved : goal.loop-from-preserved
loop-from-preserved c =
    let x = c.args.draws.now in
    let t = c.args.terminals in
    let from = c.loop-from.from in
    let ends = flat_map (ends_from t) (range_with_len 0 from) in
    let first : ℕ × ℕ = (from, (from + 1) % t) in
    let second : ℕ × ℕ = (from, (from + (t - 1)) % t) in
    let third : ℕ × ℕ = (from, (from + t / 2) % t) in
    let one = HasDrawn-more x ends c.loop-from.draws c.loop-from.arcs.items first c.add_arc.new.draws c.add_arc.new.arcs.items
    c.loop-from.invariant c.in_ok-add_arc.ensures.next c.in_ok-add_arc.ensures.arcs in
    let two = HasDrawn-more x (ends ++ (first ∷ [])) c.add_arc.new.draws c.add_arc.new.arcs.items second c.add_arc-in-loop-from.new.draws c.add_arc-in-loop-from.new.arcs.items
    one c.in_ok-add_arc-2.ensures.next c.in_ok-add_arc-2.ensures.arcs in
    let three = HasDrawn-more x ((ends ++ (first ∷ [])) ++ (second ∷ [])) c.add_arc-in-loop-from.new.draws c.add_arc-in-loop-from.new.arcs.items third
    c.add_arc-in-loop-from-2.new.draws c.add_arc-in-loop-from-2.new.arcs.items two c.in_ok-add_arc-3.ensures.next c.in_ok-add_arc-3.ensures.arcs in
    subst (λ (es : List (ℕ × ℕ)). HasDrawn x es c.add_arc-in-loop-from-2.new.draws c.add_arc-in-loop-from-2.new.arcs.items) (ends-next t from) three

pub returns-clause-arcs : goal.returns-clause-arcs
returns-clause-arcs c =
    let all : c.loop-from.from ≡ c.args.terminals = omega arith in
    (HasDrawn-ring c.args.draws.now c.args.terminals c.loop-from.from c.loop-from.draws c.loop-from.arcs.items all c.loop-from.invariant).0

pub returns-clause-next : goal.returns-clause-next
returns-clause-next c =
    let all : c.loop-from.from ≡ c.args.terminals = omega arith in
    (HasDrawn-ring c.args.draws.now c.args.terminals c.loop-from.from c.loop-from.draws c.loop-from.arcs.items all c.loop-from.invariant).1
