use Rattle.std.proofs.Common.{◌≡◌, ◌∙◌, ◌-◌, ◌++◌, ℕ, List, length, take, drop, map, sym, ap, subst, arith, length-drop, take_all}
use Rattle.std.specs.Prelude.{Option}
use Rattle.std.proofs.lemmas.List.{drop-drop}
use Rattle.fp_replan.specs.declared.kept.Kept.{Kept}
use Rattle.fp_replan_present.specs.declared.presents.Tracked.{Tracked}
use Rattle.fp_replan_present.specs.Days.{Day}
use Rattle.fp_replan_present.specs.Rests.{promised_among, renumbered}
use Rattle.fp_replan_present.proofs.promised_legs.kept_left.Goals as goal

pub loop-place-preserved : goal.loop-place-preserved
loop-place-preserved c =
    let day : Day = c.args.present.now in
    let numbers = c.args.numbers.now in
    let place = c.loop-place.place in
    let legs : c.deref.result.now ≡ day.legs = c.deref.ensures.value ∙ ap (λ (d : Day). d.legs) c.present.view_is in
    let time : c.present.inside.time ≡ day.time = ap (λ (d : Day). d.time) c.present.view_is in
    let left : Option ℕ → List Tracked → List Kept = λ t xs. map (renumbered numbers) (promised_among t xs) in
    let all : take (length c.deref.result.now - place) (drop place c.deref.result.now) ≡ drop place c.deref.result.now =
    take_all (length c.deref.result.now - place) (drop place c.deref.result.now) (omega (arith, length-drop place c.deref.result.now)) in
    let told :
    c.add_first.new.kept.items ++ left c.present.inside.time (drop 1 (drop place c.deref.result.now))
    ≡ c.loop-place.kept.items ++ left c.present.inside.time (drop place c.deref.result.now) =
    subst (λ (xs : List Tracked). c.add_first.new.kept.items ++ left c.present.inside.time (drop 1 xs) ≡ c.loop-place.kept.items ++ left c.present.inside.time xs) all c.in_ok-add_first.ensures in
    ap (λ (xs : List Tracked). c.add_first.new.kept.items ++ left day.time xs) (sym (drop-drop 1 place day.legs))
    ∙ ap (λ (xs : List Tracked). c.add_first.new.kept.items ++ left day.time (drop 1 (drop place xs))) (sym legs)
    ∙ ap (λ t. c.add_first.new.kept.items ++ left t (drop 1 (drop place c.deref.result.now))) (sym time)
    ∙ told
    ∙ ap (λ t. c.loop-place.kept.items ++ left t (drop place c.deref.result.now)) time
    ∙ ap (λ (xs : List Tracked). c.loop-place.kept.items ++ left day.time (drop place xs)) legs
    ∙ c.loop-place.invariant
