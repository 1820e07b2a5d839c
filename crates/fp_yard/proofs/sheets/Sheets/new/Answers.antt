use Rattle.std.proofs.Common.{◌≡◌, ◌<◌, ◌^◌, ◌∙◌, ℕ, List, length, sym, ap, subst, arith}
use Rattle.std.specs.Prelude.{All}
use Rattle.std.proofs.lemmas.List.{length-map}
use Rattle.std.specs.declared.alloc.Global.{Global}
use Rattle.std.specs.declared.vec.Vec.{Vec}
use Rattle.fp_base_lists.specs.Vectors.{lists_of}
use Rattle.fp_model.specs.declared.parts.Member.{Member}
use Rattle.fp_model.specs.Problem.{arc_at}
use Rattle.fp_timetable.specs.declared.lines.TruckLine.{TruckLine}
use Rattle.fp_timetable.specs.Lines.{AreTruckLines}
use Rattle.fp_yard.specs.Freight.{members_by}
use Rattle.fp_yard.specs.Schedules.{IsFreightOf, IsScheduleOf, IsSound, Schedule, heads_of, tails_of}
use Rattle.fp_yard.proofs.FreightOf.{IsFreightOf-members}
use Rattle.fp_yard.proofs.PlanSchedules.{HasEnds-plan, IsSound-plan, few-journeys, few-lines, few-tails, legs-among, made-schedule, many-journeys, short-journeys}
use Rattle.fp_yard.proofs.sheets.Sheets.new.Goals as goal

pub journeys-requires-clause-few : goal.journeys-requires-clause-few
journeys-requires-clause-few c =
    let p = c.args.instance.now in
    let routes = c.args.plan.now in
    let lines : List TruckLine = c.in_ok-lines.lines.items in
    let valid = c.arcs-known.ensures.valid in
    let are : AreTruckLines p routes lines = c.in_ok-lines.ensures.lines in
    let few : length lines < 2 ^ 32 = few-lines p routes lines valid c.requires are c.in_ok-lines.ensures.exist in
    omega (arith, few, ap (λ (ls : List TruckLine). length ls) c.as_slice.ensures.value)

pub journeys-requires-clause-has : goal.journeys-requires-clause-has
journeys-requires-clause-has c =
    legs-among c.args.instance.now c.as_slice-2.result.now c.args.plan.now c.as_slice.result.now (ap lists_of c.as_slice-2.ensures.value ∙ c.plan.view_is)
    (subst (λ (ls : List TruckLine). AreTruckLines c.args.instance.now c.args.plan.now ls) (sym c.as_slice.ensures.value) c.in_ok-lines.ensures.lines)

pub freight_lists-requires-clause-few : goal.freight_lists-requires-clause-few
freight_lists-requires-clause-few c =
    let p = c.args.instance.now in
    let routes = c.args.plan.now in
    let lines : List TruckLine = c.in_ok-lines.lines.items in
    let valid = c.arcs-known.ensures.valid in
    let are : AreTruckLines p routes lines = c.in_ok-lines.ensures.lines in
    let few : length lines < 2 ^ 32 = few-lines p routes lines valid c.requires are c.in_ok-lines.ensures.exist in
    let js : List (List ℕ) = lists_of c.in_ok-journeys.journeys.items in
    let made = made-schedule p routes lines c.as_slice.result.now c.plan.inside.routes.items c.as_slice-2.result.now js c.as_slice.ensures.value c.as_slice-2.ensures.value c.plan.view_is
    c.in_ok-journeys.ensures.exist c.in_ok-journeys.ensures.legs in
    omega (arith, few-journeys p routes lines js valid c.requires made.legs, length-map c.in_ok-journeys.journeys.items (λ (v : Vec ℕ Global). v.items), ap (λ (ls : List (Vec ℕ Global)). length ls) c.as_slice-3.ensures.value)

pub freight_lists-requires-clause-short : goal.freight_lists-requires-clause-short
freight_lists-requires-clause-short c =
    let p = c.args.instance.now in
    let routes = c.args.plan.now in
    let lines : List TruckLine = c.in_ok-lines.lines.items in
    let valid = c.arcs-known.ensures.valid in
    let are : AreTruckLines p routes lines = c.in_ok-lines.ensures.lines in
    let few : length lines < 2 ^ 32 = few-lines p routes lines valid c.requires are c.in_ok-lines.ensures.exist in
    let js : List (List ℕ) = lists_of c.in_ok-journeys.journeys.items in
    let made = made-schedule p routes lines c.as_slice.result.now c.plan.inside.routes.items c.as_slice-2.result.now js c.as_slice.ensures.value c.as_slice-2.ensures.value c.plan.view_is
    c.in_ok-journeys.ensures.exist c.in_ok-journeys.ensures.legs in
    let s : Schedule = record { tails = tails_of p lines; heads = heads_of p lines; journeys = js } in
    subst (λ (vs : List (Vec ℕ Global)). All (λ journey. length journey < 2 ^ 32) (lists_of vs)) (sym c.as_slice-3.ensures.value)
    (short-journeys s (IsSound-plan p routes lines s valid c.requires are made) (few-tails p lines few))

pub invariant_of-result : goal.invariant_of-result
invariant_of-result c =
    let p = c.args.instance.now in
    let routes = c.args.plan.now in
    let lines : List TruckLine = c.in_ok-lines.lines.items in
    let valid = c.arcs-known.ensures.valid in
    let are : AreTruckLines p routes lines = c.in_ok-lines.ensures.lines in
    let few : length lines < 2 ^ 32 = few-lines p routes lines valid c.requires are c.in_ok-lines.ensures.exist in
    let js : List (List ℕ) = lists_of c.in_ok-journeys.journeys.items in
    let made = made-schedule p routes lines c.as_slice.result.now c.plan.inside.routes.items c.as_slice-2.result.now js c.as_slice.ensures.value c.as_slice-2.ensures.value c.plan.view_is
    c.in_ok-journeys.ensures.exist c.in_ok-journeys.ensures.legs in
    let tails : c.in_ok-tails.field-0.items ≡ tails_of p lines = c.in_ok-tails.ensures ∙ ap (tails_of p) c.as_slice-4.ensures.value in
    let heads : c.in_ok-heads.field-0.items ≡ heads_of p lines = c.in_ok-heads.ensures ∙ ap (heads_of p) c.as_slice-5.ensures.value in
    let s : Schedule = record { tails = c.in_ok-tails.field-0.items; heads = c.in_ok-heads.field-0.items; journeys = js } in
    let of : IsScheduleOf p routes lines s = record { tails = tails; heads = heads; legs = made.legs; exist = made.exist } in
    let sound : IsSound s = IsSound-plan p routes lines s valid c.requires are of in
    record {
      sound = sound;
      count = omega (arith, c.in_ok-freight.ensures.count, c.len.ensures, c.in_ok-lines.lines.ok, ap (λ (ts : List ℕ). length ts) tails, length-map lines (λ (t : TruckLine). (arc_at p t.arc).from));
      freight = λ line lt.
          subst (λ (ms : List Member). IsFreightOf s line ms)
          (sym (c.in_ok-freight.ensures.legs line ∙ ap (λ (vs : List (Vec ℕ Global)). members_by line 0 (lists_of vs)) c.as_slice-3.ensures.value))
          (IsFreightOf-members s line sound);
    }

pub returns-clause-schedule : goal.returns-clause-schedule
returns-clause-schedule c =
    let p = c.args.instance.now in
    let routes = c.args.plan.now in
    let lines : List TruckLine = c.in_ok-lines.lines.items in
    let valid = c.arcs-known.ensures.valid in
    let are : AreTruckLines p routes lines = c.in_ok-lines.ensures.lines in
    let few : length lines < 2 ^ 32 = few-lines p routes lines valid c.requires are c.in_ok-lines.ensures.exist in
    let js : List (List ℕ) = lists_of c.in_ok-journeys.journeys.items in
    let made = made-schedule p routes lines c.as_slice.result.now c.plan.inside.routes.items c.as_slice-2.result.now js c.as_slice.ensures.value c.as_slice-2.ensures.value c.plan.view_is
    c.in_ok-journeys.ensures.exist c.in_ok-journeys.ensures.legs in
    let tails : c.in_ok-tails.field-0.items ≡ tails_of p lines = c.in_ok-tails.ensures ∙ ap (tails_of p) c.as_slice-4.ensures.value in
    let heads : c.in_ok-heads.field-0.items ≡ heads_of p lines = c.in_ok-heads.ensures ∙ ap (heads_of p) c.as_slice-5.ensures.value in
    let s : Schedule = record { tails = c.in_ok-tails.field-0.items; heads = c.in_ok-heads.field-0.items; journeys = js } in
    let of : IsScheduleOf p routes lines s = record { tails = tails; heads = heads; legs = made.legs; exist = made.exist } in
    let sound : IsSound s = IsSound-plan p routes lines s valid c.requires are of in
    (lines, are, of)

pub returns-clause-sound : goal.returns-clause-sound
returns-clause-sound c =
    let p = c.args.instance.now in
    let routes = c.args.plan.now in
    let lines : List TruckLine = c.in_ok-lines.lines.items in
    let valid = c.arcs-known.ensures.valid in
    let are : AreTruckLines p routes lines = c.in_ok-lines.ensures.lines in
    let few : length lines < 2 ^ 32 = few-lines p routes lines valid c.requires are c.in_ok-lines.ensures.exist in
    let js : List (List ℕ) = lists_of c.in_ok-journeys.journeys.items in
    let made = made-schedule p routes lines c.as_slice.result.now c.plan.inside.routes.items c.as_slice-2.result.now js c.as_slice.ensures.value c.as_slice-2.ensures.value c.plan.view_is
    c.in_ok-journeys.ensures.exist c.in_ok-journeys.ensures.legs in
    let tails : c.in_ok-tails.field-0.items ≡ tails_of p lines = c.in_ok-tails.ensures ∙ ap (tails_of p) c.as_slice-4.ensures.value in
    let heads : c.in_ok-heads.field-0.items ≡ heads_of p lines = c.in_ok-heads.ensures ∙ ap (heads_of p) c.as_slice-5.ensures.value in
    let s : Schedule = record { tails = c.in_ok-tails.field-0.items; heads = c.in_ok-heads.field-0.items; journeys = js } in
    let of : IsScheduleOf p routes lines s = record { tails = tails; heads = heads; legs = made.legs; exist = made.exist } in
    let sound : IsSound s = IsSound-plan p routes lines s valid c.requires are of in
    sound

pub returns-clause-ends : goal.returns-clause-ends
returns-clause-ends c =
    let p = c.args.instance.now in
    let routes = c.args.plan.now in
    let lines : List TruckLine = c.in_ok-lines.lines.items in
    let valid = c.arcs-known.ensures.valid in
    let are : AreTruckLines p routes lines = c.in_ok-lines.ensures.lines in
    let few : length lines < 2 ^ 32 = few-lines p routes lines valid c.requires are c.in_ok-lines.ensures.exist in
    let js : List (List ℕ) = lists_of c.in_ok-journeys.journeys.items in
    let made = made-schedule p routes lines c.as_slice.result.now c.plan.inside.routes.items c.as_slice-2.result.now js c.as_slice.ensures.value c.as_slice-2.ensures.value c.plan.view_is
    c.in_ok-journeys.ensures.exist c.in_ok-journeys.ensures.legs in
    let tails : c.in_ok-tails.field-0.items ≡ tails_of p lines = c.in_ok-tails.ensures ∙ ap (tails_of p) c.as_slice-4.ensures.value in
    let heads : c.in_ok-heads.field-0.items ≡ heads_of p lines = c.in_ok-heads.ensures ∙ ap (heads_of p) c.as_slice-5.ensures.value in
    let s : Schedule = record { tails = c.in_ok-tails.field-0.items; heads = c.in_ok-heads.field-0.items; journeys = js } in
    let of : IsScheduleOf p routes lines s = record { tails = tails; heads = heads; legs = made.legs; exist = made.exist } in
    let sound : IsSound s = IsSound-plan p routes lines s valid c.requires are of in
    HasEnds-plan p routes lines s valid c.requires are of

pub returns-clause-few : goal.returns-clause-few
returns-clause-few c =
    let p = c.args.instance.now in
    let routes = c.args.plan.now in
    let lines : List TruckLine = c.in_ok-lines.lines.items in
    let valid = c.arcs-known.ensures.valid in
    let are : AreTruckLines p routes lines = c.in_ok-lines.ensures.lines in
    let few : length lines < 2 ^ 32 = few-lines p routes lines valid c.requires are c.in_ok-lines.ensures.exist in
    let js : List (List ℕ) = lists_of c.in_ok-journeys.journeys.items in
    let made = made-schedule p routes lines c.as_slice.result.now c.plan.inside.routes.items c.as_slice-2.result.now js c.as_slice.ensures.value c.as_slice-2.ensures.value c.plan.view_is
    c.in_ok-journeys.ensures.exist c.in_ok-journeys.ensures.legs in
    let tails : c.in_ok-tails.field-0.items ≡ tails_of p lines = c.in_ok-tails.ensures ∙ ap (tails_of p) c.as_slice-4.ensures.value in
    let heads : c.in_ok-heads.field-0.items ≡ heads_of p lines = c.in_ok-heads.ensures ∙ ap (heads_of p) c.as_slice-5.ensures.value in
    let s : Schedule = record { tails = c.in_ok-tails.field-0.items; heads = c.in_ok-heads.field-0.items; journeys = js } in
    let of : IsScheduleOf p routes lines s = record { tails = tails; heads = heads; legs = made.legs; exist = made.exist } in
    let sound : IsSound s = IsSound-plan p routes lines s valid c.requires are of in
    omega (arith, few-tails p lines few, ap (λ (ts : List ℕ). length ts) tails)

pub returns-clause-count : goal.returns-clause-count
returns-clause-count c =
    let js : List (List ℕ) = lists_of c.in_ok-journeys.journeys.items in
    let made = made-schedule c.args.instance.now c.args.plan.now c.in_ok-lines.lines.items c.as_slice.result.now c.plan.inside.routes.items c.as_slice-2.result.now js c.as_slice.ensures.value
    c.as_slice-2.ensures.value c.plan.view_is c.in_ok-journeys.ensures.exist c.in_ok-journeys.ensures.legs in
    many-journeys c.args.instance.now c.args.plan.now c.in_ok-lines.lines.items js c.requires made.legs
