use Rattle.std.proofs.Common.{◌≡◌, ◌∙◌, List, [], ◌∷◌, ◌++◌, map, sym, ap, subst}
use Rattle.std.proofs.lemmas.List.{map-append}
use Rattle.fp_base_lists.specs.Vectors.{lists_of}
use Rattle.fp_model.specs.declared.parts.Leg.{Leg}
use Rattle.fp_replan.specs.declared.kept.Kept.{Kept}
use Rattle.fp_replan.specs.Beginnings.{AreBeginnings}
use Rattle.fp_replan_present.specs.declared.presents.Tracked.{Tracked}
use Rattle.fp_replan_present.specs.Days.{kept_in_tracked}
use Rattle.fp_replan_present.proofs.drafts.add_told.Goals as goal

pub returns-in_ok-add_leg-in-Leg-clause-draft : goal.returns-in_ok-add_leg-in-Leg-clause-draft
returns-in_ok-add_leg-in-Leg-clause-draft c =
    λ count is.
    let old : List Tracked = c.args.draft.now.legs.items in
    let x : Tracked = c.in-Leg.leg in
    let lists : List (List Leg) = lists_of c.keep.new.beginnings.items in
    let all : map kept_in_tracked c.add_leg.new.legs.items ≡ map kept_in_tracked old ++ (x.kept ∷ []) =
    ap (map kept_in_tracked) c.in_ok-add_leg-in-Leg.ensures ∙ map-append kept_in_tracked old (x ∷ []) in
    subst (λ (kept : List Kept). AreBeginnings kept count lists) (sym all) (c.in_ok-keep-in-Leg.ensures (map kept_in_tracked old) count is)
