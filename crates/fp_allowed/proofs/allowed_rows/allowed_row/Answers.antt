use Rattle.std.proofs.Common.{◌≡◌, ℕ, ◌<◌, false, true, List, length, sym, ap, ◌∙◌, arith}
use Rattle.std.specs.declared.alloc.Global.{Global}
use Rattle.std.specs.declared.vec.Vec.{Vec}
use Rattle.fp_model.specs.declared.parts.Arc.{Arc}
use Rattle.fp_model.specs.Problem.{no_arc}
use Rattle.fp_flatnet.specs.Tables.{windows_in}
use Rattle.fp_longestarcs.specs.Networks.{points_in}
use Rattle.fp_tree.specs.declared.sides.Side.{Side}
use Rattle.fp_allowed.specs.Allowed.{is_allowed, tails_of}
use Rattle.fp_allowed.specs.Moments.{concerned, is_barred}
use Rattle.fp_allowed.proofs.ArcRows.{fills_barred}
use Rattle.fp_allowed.proofs.OpenMoments.{is_barred-barring}
use Rattle.fp_allowed.proofs.FilledRows.{filled_all, filled_more, filled_none}
use Rattle.fp_allowed.proofs.allowed_rows.allowed_row.Goals as goal
use Rattle.fp_allowed.proofs.allowed_rows.allowed_row.Goals.{else-not-is_barred, then-not-is_barred}

pub loop-arc-init : goal.loop-arc-init
loop-arc-init c =
    filled_none c.args.network.now (is_allowed c.args.instance.now (windows_in c.args.windows.now) (points_in c.args.network.now) c.args.sides.now c.args.shipment) c.in_ok-row.row
    c.requires.whole.valid (rw (← c.classes.ensures.count) c.in_ok-row.ensures)

pub loop-arc-preserved : goal.loop-arc-preserved
loop-arc-preserved c =
    let p = c.args.instance.now in
    let sides = c.args.sides.now in
    let lists = c.in_ok-by_terminal.ensures in
    let arc : c.loop-arc.arc < length p.arcs = omega (arith, c.loop-arc-test.true, ap (λ (l : List Arc). length l) c.arcs.ensures.same) in
    let allowed = is_allowed p (windows_in c.args.windows.now) (points_in c.args.network.now) sides c.args.shipment in
    let all : c.is_barred.result ≡ is_barred p c.args.shipment c.loop-arc.arc sides =
    c.is_barred.ensures ∙ ap (λ (l : List Side). is_barred p c.args.shipment c.loop-arc.arc l) (c.deref.ensures.value ∙ c.in_ok-through.ensures) ∙ is_barred-barring p c.args.shipment c.loop-arc.arc sides in
    elim c.if-not-is_barred.branch [
      | then-not-is_barred w ↦
          let from : ℕ = w.arc.result.from in
          let leaves : from ≡ tails_of p c.loop-arc.arc = ap (λ (a : Arc). a.from) w.arc.ensures.same in
          let exists : from < length c.in_ok-by_terminal.by_terminal.items = omega (arith, leaves, lists.one_each, (c.requires.fits.valid.parts.arcs c.loop-arc.arc no_arc arc).from) in
          let own : w.deref-then-not-is_barred.result.now ≡ concerned p c.args.shipment (tails_of p c.loop-arc.arc) sides =
          w.deref-then-not-is_barred.ensures.value ∙ ap (λ (v : Vec Side Global). v.items) w.index-own.ensures ∙ lists.exact from w.index-own.result.now exists ∙
          ap (λ (t : ℕ). concerned p c.args.shipment t sides) leaves in
          let free : is_barred p c.args.shipment c.loop-arc.arc sides ≡ false = sym all ∙ w.if-not-is_barred.true in
          rw w.row-is
          (filled_more c.args.network.now allowed c.loop-arc.arc c.loop-arc.row w.fill_arc.new.row c.loop-arc.invariant (w.fill_arc.ensures sides own free))
      | else-not-is_barred w ↦
          let barred : is_barred p c.args.shipment c.loop-arc.arc sides ≡ true = sym all ∙ w.if-not-is_barred.false in
          rw w.row-is
          (filled_more c.args.network.now allowed c.loop-arc.arc c.loop-arc.row c.loop-arc.row c.loop-arc.invariant
          (fills_barred p (windows_in c.args.windows.now) c.args.network.now c.args.shipment c.loop-arc.arc sides c.loop-arc.row barred))
    ]

pub returns : goal.returns
returns c =
    filled_all (record { problem = c.args.instance.now; windows = c.args.windows.now; network = c.args.network.now }) c.args.sides.now c.args.shipment c.loop-arc.arc c.loop-arc.row
    c.requires.whole (omega (arith, c.loop-arc-test.false, ap (λ (l : List Arc). length l) c.arcs.ensures.same)) c.loop-arc.invariant
