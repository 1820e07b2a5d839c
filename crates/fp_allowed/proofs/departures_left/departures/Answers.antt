use Rattle.std.proofs.Common.{◌≡◌, ℕ, ◌+◌, ◌*◌, ◌<◌, ◌≤◌, ◌^◌, List, length, sym, ap, ◌∙◌, arith}
use Rattle.std.proofs.lemmas.List.{length-map}
use Rattle.fp_model.specs.declared.parts.Arc.{Arc}
use Rattle.fp_flatnet.specs.Tables.{windows_in}
use Rattle.fp_flatnet.proofs.WindowTimes.{BelongsTo-FitsInstance}
use Rattle.fp_allowed.specs.Allowed.{tails_of}
use Rattle.fp_allowed.specs.Departures.{departures_below, departures_in}
use Rattle.fp_allowed.specs.Moments.{concerned}
use Rattle.fp_allowed.proofs.DepartureCounts.{departures_at, departures_away, departures_below_le, departures_in_le, windows_in_time}
use Rattle.fp_allowed.proofs.departures_left.departures.Goals as goal
use Rattle.fp_allowed.proofs.departures_left.departures.Goals.{else-arc-terminal, then-arc-terminal}

pub departures_at-total-requires-clause-arc : goal.departures_at-total-requires-clause-arc
departures_at-total-requires-clause-arc c =
    omega (
      arith,
      c.loop-arc-test.true,
      ap (λ (l : List Arc). length l) c.arcs.ensures.same,
      ap (λ (l : List ℕ). length l) c.requires.belongs.tails,
      length-map c.args.instance.now.arcs (λ (a : Arc). a.from),
    )

pub departures_at-total-requires-clause-in_time : goal.departures_at-total-requires-clause-in_time
departures_at-total-requires-clause-in_time c =
    windows_in_time c.args.instance.now c.args.windows.now c.args.shipment c.loop-arc.arc (BelongsTo-FitsInstance c.args.instance.now c.args.windows.now c.requires.belongs) c.requires.shipment
    (omega (arith, c.loop-arc-test.true, ap (λ (l : List Arc). length l) c.arcs.ensures.same))

pub overflow_add-total : goal.overflow_add-total
overflow_add-total c =
    let p = c.args.instance.now in
    let windows = windows_in c.args.windows.now in
    let sides = c.args.sides.now in
    let k = c.args.shipment in
    let arc : ℕ = c.loop-arc.arc in
    let exists : arc < length p.arcs = omega (arith, c.loop-arc-test.true, ap (λ (l : List Arc). length l) c.arcs.ensures.same) in
    let here : tails_of p arc ≡ c.args.terminal = ap (λ (a : Arc). a.from) (sym c.arc.ensures.same) ∙ c.if-arc-terminal.true in
    let own : c.deref-then-arc-terminal.result.now ≡ concerned p k (tails_of p arc) sides =
    c.deref-then-arc-terminal.ensures.value ∙ c.in_ok-own.ensures ∙ ap (λ (t : ℕ). concerned p k t sides) (sym here) in
    let by : c.departures_at-total.result ≡ departures_in p sides k arc (windows k arc) = c.departures_at-total.ensures.exact sides own (c.deref.ensures.value ∙ c.in_ok-through.ensures) in
    let so_far : c.loop-arc.total ≤ arc * 100001 = rw c.loop-arc.invariant.0 (departures_below_le p c.args.windows.now sides k c.args.terminal arc (BelongsTo-FitsInstance c.args.instance.now c.args.windows.now c.requires.belongs) c.requires.shipment (omega arith)) in
    let few : departures_in p sides k arc (windows k arc) ≤ 100001 =
    departures_in_le p k arc sides (windows k arc) (windows_in_time p c.args.windows.now k arc (BelongsTo-FitsInstance c.args.instance.now c.args.windows.now c.requires.belongs) c.requires.shipment exists) in
    let arcs : length p.arcs ≤ 1000 = c.requires.belongs.valid.parts.few_arcs in
    let small = within c.loop-arc.total c.departures_at-total.result arc (length p.arcs) so_far (rw by few) exists arcs in
    omega (arith, small)
  where
    within : (total n arc arcs : ℕ) → total ≤ arc * 100001 → n ≤ 100001 → arc < arcs → arcs ≤ 1000 → total + n < 2 ^ 32
    within total n arc arcs so_far few exists all = omega arith

pub loop-arc-preserved : goal.loop-arc-preserved
loop-arc-preserved c =
    let p = c.args.instance.now in
    let windows = windows_in c.args.windows.now in
    let sides = c.args.sides.now in
    let k = c.args.shipment in
    let arc : ℕ = c.loop-arc.arc in
    elim c.if-arc-terminal.branch [
      | then-arc-terminal w ↦
          let here : tails_of p arc ≡ c.args.terminal = ap (λ (a : Arc). a.from) (sym c.arc.ensures.same) ∙ w.if-arc-terminal.true in
          let own : w.deref-then-arc-terminal.result.now ≡ concerned p k (tails_of p arc) sides = w.deref-then-arc-terminal.ensures.value ∙ c.in_ok-own.ensures ∙ ap (λ (t : ℕ). concerned p k t sides) (sym here) in (
            rw w.total-is
                (departures_at p windows sides k c.args.terminal arc w.departures_at-total.result c.loop-arc.total c.loop-arc.invariant.0 here (w.departures_at-total.ensures.exact sides own (w.deref.ensures.value ∙ c.in_ok-through.ensures))),
            rw w.moments-is w.departures_at-total.ensures.long,
          )
      | else-arc-terminal w ↦ (
        rw w.total-is
            (c.loop-arc.invariant.0 ∙
            departures_away p windows sides k c.args.terminal arc (λ here. w.if-arc-terminal.false (ap (λ (a : Arc). a.from) c.arc.ensures.same ∙ here))),
        rw w.moments-is c.loop-arc.invariant.1,
      )
    ]

pub returns : goal.returns
returns c =
    let p = c.args.instance.now in
    let all : c.loop-arc.arc ≡ length p.arcs = omega (arith, c.loop-arc-test.false, c.loop-arc.auto.arc-end, ap (λ (l : List Arc). length l) c.arcs.ensures.same) in
    c.loop-arc.invariant.0 ∙ ap (λ (n : ℕ). departures_below p (windows_in c.args.windows.now) c.args.sides.now c.args.shipment c.args.terminal n) all

pub overflow_cast-arc-end : goal.overflow_cast-arc-end
overflow_cast-arc-end c = omega (arith, c.requires.belongs.valid.parts.few_arcs, ap (λ (l : List Arc). length l) c.arcs.ensures.same)
