use Rattle.std.proofs.Common.{◌≡◌, ◌∙◌, ◌+◌, ◌++◌, ◌∷◌, [], ℕ, List, map, take, sym, ap, subst}
use Rattle.std.specs.Prelude.{slice_index, slice_index_or}
use Rattle.std.proofs.lemmas.List.{map-append, take_more}
use Rattle.fp_timenodes.specs.declared.places.Place.{Place}
use Rattle.fp_flatnet.specs.Tables.{WindowTable, narrowed, windows_in}
use Rattle.fp_replan.specs.declared.kept.Kept.{Kept}
use Rattle.fp_replan.specs.KeptLegs.{CanKeep, no_kept}
use Rattle.fp_replan.specs.KeptWindows.{AreNarrow, kept_place}
use Rattle.fp_replan.proofs.NarrowRows.{AreNarrow-push, CanNarrow-next, anchor-place}
use Rattle.fp_replan.proofs.kept_windows.narrow_all.Goals as goal

pub narrow-requires-clause-inside : goal.narrow-requires-clause-inside
narrow-requires-clause-inside c =
    CanNarrow-next c.args.instance.now c.args.kept.now c.loop-leg.leg-index c.args.windows.now c.loop-leg.windows c.loop-leg-test.true c.requires.kept c.requires.can
    c.loop-leg.invariant.narrow

pub loop-leg-preserved : goal.loop-leg-preserved
loop-leg-preserved c =
    let p = c.args.instance.now in
    let kept = c.args.kept.now in
    let i = c.loop-leg.leg-index in
    let x : Kept = slice_index_or kept i no_kept in
    let table : WindowTable = c.loop-leg.windows in
    let can : CanKeep p (take i kept) x = c.requires.kept i c.loop-leg-test.true in
    let more : take (i + 1) kept ≡ take i kept ++ (x ∷ []) = take_more kept i no_kept c.loop-leg-test.true in
    let new : c.narrow.new.self ≡ narrowed table x.shipment x.arc x.depart x.depart = c.in_ok-narrow.ensures.ok in
    let place : ℕ → Place = λ terminal. record { terminal = terminal; at = x.depart } in
    record {
      belongs = c.in_ok-narrow.ensures.belongs p c.loop-leg.invariant.belongs;
      anchors =
          ap (λ (t : WindowTable). t.anchors) new
          ∙ ap (λ (xs : List Place). xs ++ (place (slice_index table.tails x.arc) ∷ [])) c.loop-leg.invariant.anchors
          ∙ ap (λ n. map (kept_place p) (take i kept) ++ (place n ∷ [])) (anchor-place p table x c.loop-leg.invariant.belongs can.arc)
          ∙ sym (map-append (kept_place p) (take i kept) (x ∷ []))
          ∙ ap (map (kept_place p)) (sym more);
      narrow =
          subst (λ (t : WindowTable). AreNarrow (take (i + 1) kept) (windows_in c.args.windows.now) (windows_in t)) (sym new)
          (subst (λ (ks : List Kept). AreNarrow ks (windows_in c.args.windows.now) (windows_in (narrowed table x.shipment x.arc x.depart x.depart))) (sym more)
          (AreNarrow-push p (windows_in c.args.windows.now) table (take i kept) x
          (CanNarrow-next p kept i c.args.windows.now table c.loop-leg-test.true c.requires.kept c.requires.can c.loop-leg.invariant.narrow) can c.loop-leg.invariant.narrow));
    }
