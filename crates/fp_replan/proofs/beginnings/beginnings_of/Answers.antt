use Rattle.std.proofs.Common.{List, sym, subst, take}
use Rattle.std.proofs.lemmas.List.{take_more}
use Rattle.fp_base_lists.specs.Vectors.{lists_of}
use Rattle.fp_replan.specs.declared.kept.Kept.{Kept}
use Rattle.fp_replan.specs.Beginnings.{AreBeginnings}
use Rattle.fp_replan.specs.KeptLegs.{no_kept}
use Rattle.fp_replan.proofs.beginnings.beginnings_of.Goals as goal

pub loop-leg-preserved : goal.loop-leg-preserved
loop-leg-preserved c =
    let kept = c.args.kept.now in
    let i = c.loop-leg.leg-index in
    subst (λ (ks : List Kept). AreBeginnings ks c.args.count (lists_of c.keep.new.beginnings.items)) (sym (take_more kept i no_kept c.loop-leg-test.true))
    (c.in_ok-keep.ensures (take i kept) c.args.count c.loop-leg.invariant)
