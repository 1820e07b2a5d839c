use Rattle.std.proofs.Common.{◌≡◌, ◌∙◌, ◌+◌, ◌++◌, ◌∷◌, [], ℕ, List, sym, ap, subst, drop, length, length-append, arith}
use Rattle.std.specs.Prelude.{None}
use Rattle.fp_base_lists.specs.Vectors.{lists_of}
use Rattle.fp_records_fields.specs.Findings.{first_code}
use Rattle.fp_replan.specs.declared.kept.Kept.{Kept}
use Rattle.fp_replan.specs.Beginnings.{AreBeginnings}
use Rattle.fp_replan.specs.KeptLegs.{AreKept}
use Rattle.fp_replan.specs.Records.{kept_faults, kept_from, kept_in}
use Rattle.fp_replan.proofs.KeptBeginnings.{AreKept-push}
use Rattle.fp_replan.proofs.KeptRecords.{IsFit, IsFit-clear, read-on}
use Rattle.fp_replan.proofs.reading.legs_of.Goals as goal

pub loop-place-preserved : goal.loop-place-preserved
loop-place-preserved c =
    let p = c.args.instance.now in
    let lines = c.args.lines.now in
    let place = c.loop-place.place in
    let ordinal = c.args.first + place in
    let fields = c.index-lines-place.result in
    let rest = drop (place + 1) lines in
    let kept : List Kept = c.loop-place.kept.items in
    let x : Kept = c.in-Ok.leg in
    let more : List Kept = c.add_kept.new.kept.items in
    let count = length p.shipments in
    let next : c.args.first + (place + 1) ≡ ordinal + 1 = omega arith in
    let pushed : more ≡ kept ++ (x ∷ []) = c.in_ok-add_kept-in-Ok.ensures in
    let clear : first_code (kept_faults p kept fields) ≡ None = rw c.deref.ensures.value at c.in-Ok.ensures.0 in
    let fit : IsFit p kept x = subst (IsFit p kept) (sym c.in-Ok.ensures.1) (IsFit-clear p kept fields clear) in
    record {
      left =
          ap (λ (ks : List Kept). kept_from p ks (c.args.first + (place + 1)) rest) pushed
          ∙ ap (λ (y : Kept). kept_from p (kept ++ (y ∷ [])) (c.args.first + (place + 1)) rest) c.in-Ok.ensures.1
          ∙ ap (λ (n : ℕ). kept_from p (kept ++ (kept_in p fields ∷ [])) n rest) next
          ∙ sym (read-on p kept ordinal lines place fields c.loop-place-test.true c.index-lines-place.is clear)
          ∙ c.loop-place.invariant.left;
      sound = subst (AreKept p) (sym pushed) (AreKept-push p kept x c.loop-place.invariant.sound fit.can);
      few = omega (arith, ap (λ (ks : List Kept). length ks) pushed, length-append kept (x ∷ []), fit.room);
      beginnings =
          subst (λ (ks : List Kept). AreBeginnings ks count (lists_of c.keep.new.beginnings.items)) (sym pushed)
          (c.in_ok-keep-in-Ok.ensures kept count c.loop-place.invariant.beginnings);
    }
