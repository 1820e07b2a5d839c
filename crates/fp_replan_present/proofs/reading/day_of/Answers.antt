use Rattle.std.proofs.Common.{◌≡◌, ◌≤◌, ◌∙◌, ◌+◌, ℕ, List, sym, ap, ap₂, subst, drop, length, arith}
use Rattle.std.specs.Prelude.{Option, None}
use Rattle.std.specs.declared.alloc.Global.{Global}
use Rattle.std.specs.declared.vec.Vec.{Vec}
use Rattle.std.proofs.lemmas.List.{length-map}
use Rattle.fp_model.specs.declared.parts.Leg.{Leg}
use Rattle.fp_records_fields.specs.Findings.{first_code}
use Rattle.fp_replan.specs.declared.kept.TheConstants.{MOST_KEPT}
use Rattle.fp_replan_present.specs.declared.presents.Tracked.{Tracked}
use Rattle.fp_replan_present.specs.Days.{AreTracked, Day}
use Rattle.fp_replan_present.specs.Drafts.{IsDraft, IsToldOf, day_in}
use Rattle.fp_replan_present.specs.Records.{day_faults, day_from, day_with, untold}
use Rattle.fp_replan_present.proofs.DayRecords.{AreTracked-untold, StaysTracked, StaysTracked-with, read-on}
use Rattle.fp_replan_present.proofs.reading.day_of.Goals as goal

pub loop-place-init : goal.loop-place-init
loop-place-init c =
    let p = c.args.instance.now in
    let of : Option ℕ → List Tracked → Day = λ t legs. record { time = t; legs = legs } in
    let none : day_in c.in_ok-draft.draft ≡ untold = ap₂ of c.in_ok-draft.ensures.0 c.in_ok-draft.ensures.1 in
    let start : c.args.first + 0 ≡ c.args.first = omega arith in
    record {
      left = ap (λ (n : ℕ). day_from p (day_in c.in_ok-draft.draft) n c.args.lines.now) start ∙ ap (λ (day : Day). day_from p day c.args.first c.args.lines.now) none;
      sound = subst (AreTracked p) (sym none) (AreTracked-untold p);
      few = subst (λ (day : Day). length day.legs ≤ MOST_KEPT) (sym none) (omega arith);
      draft = subst (λ n. IsDraft n c.in_ok-draft.draft) (ap (λ ss. length ss) c.shipments.ensures.same) c.in_ok-draft.ensures.2;
    }

pub add_told-requires : goal.add_told-requires
add_told-requires c =
    let vectors = c.loop-place.draft.beginnings.items in
    let long : length vectors ≡ length c.args.instance.now.shipments =
    sym (length-map vectors (λ (v : Vec Leg Global). v.items)) ∙ c.loop-place.invariant.draft.one_each in
    subst (λ n. IsToldOf n c.in-Ok.told) (sym long) c.in-Ok.ensures.2

pub loop-place-preserved : goal.loop-place-preserved
loop-place-preserved c =
    let p = c.args.instance.now in
    let lines = c.args.lines.now in
    let place = c.loop-place.place in
    let ordinal = c.args.first + place in
    let fields = c.index-lines-place.result in
    let rest = drop (place + 1) lines in
    let before : Day = day_in c.loop-place.draft in
    let clear : first_code (day_faults p before fields) ≡ None = c.in-Ok.ensures.0 in
    let after : day_in c.add_told.new.draft ≡ day_with p before fields = c.in_ok-add_told-in-Ok.ensures.day ∙ sym c.in-Ok.ensures.1 in
    let stays : StaysTracked p (day_with p before fields) = StaysTracked-with p before fields c.loop-place.invariant.sound c.loop-place.invariant.few clear in
    let next : c.args.first + (place + 1) ≡ ordinal + 1 = omega arith in
    record {
      left =
          ap (λ (day : Day). day_from p day (c.args.first + (place + 1)) rest) after
          ∙ ap (λ (n : ℕ). day_from p (day_with p before fields) n rest) next
          ∙ sym (read-on p before ordinal lines place fields c.loop-place-test.true c.index-lines-place.is clear)
          ∙ c.loop-place.invariant.left;
      sound = subst (AreTracked p) (sym after) stays.tracked;
      few = subst (λ (day : Day). length day.legs ≤ MOST_KEPT) (sym after) stays.few;
      draft = c.in_ok-add_told-in-Ok.ensures.draft (length p.shipments) c.loop-place.invariant.draft;
    }
