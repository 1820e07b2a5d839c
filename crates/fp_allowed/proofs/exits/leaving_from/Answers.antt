use Rattle.std.proofs.Common.{◌≡◌, ℕ, List, length, sym, ap, ◌∙◌, arith}
use Rattle.fp_model.specs.declared.parts.Arc.{Arc}
use Rattle.fp_allowed.specs.Allowed.{tails_of}
use Rattle.fp_allowed.proofs.TerminalExits.{tells_all, tells_away, tells_here}
use Rattle.fp_allowed.proofs.exits.leaving_from.Goals as goal
use Rattle.fp_allowed.proofs.exits.leaving_from.Goals.{else-arc-terminal, then-arc-terminal}

pub loop-arc-preserved : goal.loop-arc-preserved
loop-arc-preserved c =
    let p = c.args.instance.now in
    let net = c.args.network.now in
    let arc : ℕ = c.loop-arc.arc in
    elim c.if-arc-terminal.branch [
      | then-arc-terminal w ↦
          let here : tails_of p arc ≡ c.args.terminal = ap (λ (a : Arc). a.from) (sym c.arc.ensures.same) ∙ w.if-arc-terminal.true in
          rw (w.leaving-is, w.joined-leaving.ensures)
          (tells_here p net c.args.row.now c.args.terminal arc c.loop-arc.leaving w.leaving_by.result here c.loop-arc.invariant w.leaving_by.ensures)
      | else-arc-terminal w ↦
          rw w.leaving-is
          (tells_away p net c.args.row.now c.args.terminal arc c.loop-arc.leaving
          (λ here. w.if-arc-terminal.false (ap (λ (a : Arc). a.from) c.arc.ensures.same ∙ here)) c.loop-arc.invariant)
    ]

pub returns : goal.returns
returns c =
    tells_all c.args.instance.now c.args.network.now c.args.row.now c.args.terminal c.loop-arc.arc c.loop-arc.leaving c.requires.arcs
    (omega (arith, c.loop-arc-test.false, ap (λ (l : List Arc). length l) c.arcs.ensures.same)) c.loop-arc.invariant
