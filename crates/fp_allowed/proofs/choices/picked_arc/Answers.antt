use Rattle.std.proofs.Common.{◌≡◌, ℕ, Bool, List, length, sym, ap, ◌∙◌, subst, arith}
use Rattle.std.specs.Prelude.{MatchBool}
use Rattle.fp_model.specs.declared.parts.Arc.{Arc}
use Rattle.fp_model.specs.declared.parts.Leg.{Leg}
use Rattle.fp_flatnet.specs.Tables.{windows_in}
use Rattle.fp_allowed.specs.Allowed.{tails_of}
use Rattle.fp_allowed.specs.Bits.{row_allows}
use Rattle.fp_allowed.specs.Choices.{last_moment}
use Rattle.fp_allowed.specs.Leaving.{OneLeaves}
use Rattle.fp_allowed.proofs.ArcPicks.{picks_all, picks_away, picks_more}
use Rattle.fp_allowed.proofs.choices.picked_arc.Goals as goal
use Rattle.fp_allowed.proofs.choices.picked_arc.Goals.{then-arc-terminal+then-has_allowed, else-arc-terminal, else-arc-terminal-via-then-arc-terminal+else-has_allowed, else-arc-terminal-via-else-arc-terminal}

pub loop-arc-preserved : goal.loop-arc-preserved
loop-arc-preserved c =
    let p = c.args.leaving.now.instance.now in
    let net = c.args.leaving.now.network.now in
    let arc : ℕ = c.loop-arc.arc in
    let ends : ℕ → ℕ = last_moment (windows_in c.args.leaving.now.windows.now) c.args.leaving.now.shipment in
    let Has : Bool → Type 0 = λ b.
    MatchBool b ((k : Leg) × OneLeaves (row_allows net c.args.leaving.now.row.now) (λ l. l.arc ≡ arc) k) ((k : Leg) → OneLeaves (row_allows net c.args.leaving.now.row.now) (λ l. l.arc ≡ arc) k → ⊥) in
    elim c.if-arc-terminal.branch [
      | then-arc-terminal+then-has_allowed w ↦
          let here : tails_of p arc ≡ c.args.leaving.now.terminal = ap (λ (a : Arc). a.from) (sym c.arc.ensures.same) ∙ w.if-arc-terminal.true in
          rw w.found-is
          (picks_more p net c.args.leaving.now.row.now c.args.leaving.now.terminal ends arc c.loop-arc.found w.better.result here (subst Has w.if-has_allowed.true w.has_allowed.ensures) c.loop-arc.invariant w.better.ensures)
      | else-arc-terminal w ↦
          rw w.found-is
          (picks_away p net c.args.leaving.now.row.now c.args.leaving.now.terminal ends arc c.loop-arc.found
          (λ k one leaves.
          elim w.else-arc-terminal.branch [
            | else-arc-terminal-via-then-arc-terminal+else-has_allowed v ↦ subst Has v.if-has_allowed.false v.has_allowed.ensures k one
            | else-arc-terminal-via-else-arc-terminal v ↦ v.if-arc-terminal.false (ap (λ (a : Arc). a.from) c.arc.ensures.same ∙ ap (tails_of p) (sym one.leaves) ∙ leaves)
          ]) c.loop-arc.invariant)
    ]

pub returns : goal.returns
returns c =
    picks_all c.args.leaving.now.instance.now c.args.leaving.now.network.now c.args.leaving.now.row.now c.args.leaving.now.terminal (last_moment (windows_in c.args.leaving.now.windows.now) c.args.leaving.now.shipment) c.loop-arc.arc c.loop-arc.found c.requires.whole.arcs
    (omega (arith, c.loop-arc-test.false, ap (λ (l : List Arc). length l) c.arcs.ensures.same)) c.loop-arc.invariant
