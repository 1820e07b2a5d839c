use Rattle.std.proofs.Common.{◌≡◌, ◌<◌, List, [], ◌∙◌, get_or, length, ap, subst, sym, arith}
use Rattle.std.specs.Prelude.{All}
use Rattle.std.specs.declared.alloc.Global.{Global}
use Rattle.std.specs.declared.vec.Vec.{Vec}
use Rattle.std.proofs.lemmas.List.{length-map}
use Rattle.fp_base_lists.specs.Vectors.{lists_of}
use Rattle.fp_base_lists.proofs.Maps.{lists_of-get_or}
use Rattle.fp_fleet.specs.declared.days.Run.{Run}
use Rattle.fp_fleet.specs.DayRows.{RunExists}
use Rattle.fp_fleet.proofs.DayTexts.{one-day}
use Rattle.fp_fleet.proofs.day_lines.write_days.Goals as goal

pub write_day-requires-clause-runs : goal.write_day-requires-clause-runs
write_day-requires-clause-runs c =
    let days : List (Vec Run Global) = c.args.days.now in
    let i = c.loop-place.place in
    let lt : i < length days = omega arith in
    let long : i < length (lists_of days) = omega (arith, length-map days (λ (v : Vec Run Global). v.items)) in
    let is : c.as_slice.result.now ≡ get_or (lists_of days) i [] =
    c.as_slice.ensures.value ∙ ap (λ (v : Vec Run Global). v.items) c.index-days-place.is ∙ sym (lists_of-get_or days i c.index-days-place.result lt) in
    subst (λ (day : List Run). All (RunExists (length c.args.lines.now)) day) (sym is) (c.requires.runs i [] long)

pub loop-place-preserved : goal.loop-place-preserved
loop-place-preserved c =
    let days : List (Vec Run Global) = c.args.days.now in
    let i = c.loop-place.place in
    let lt : i < length days = omega arith in
    let long : i < length (lists_of days) = omega (arith, length-map days (λ (v : Vec Run Global). v.items)) in
    let is : c.as_slice.result.now ≡ get_or (lists_of days) i [] =
    c.as_slice.ensures.value ∙ ap (λ (v : Vec Run Global). v.items) c.index-days-place.is ∙ sym (lists_of-get_or days i c.index-days-place.result lt) in
    record {
      begun = c.in_ok-write_day.ensures.ended;
      text = one-day c.args.instance.now c.args.lines.now (lists_of days) i c.as_slice.result.now c.loop-place.line.text c.write_day.new.line.text _ long is c.in_ok-write_day.ensures.text c.loop-place.invariant.text;
    }
