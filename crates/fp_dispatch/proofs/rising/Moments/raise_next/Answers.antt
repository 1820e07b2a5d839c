use Rattle.std.proofs.Common.{◌≡◌, ◌∙◌, ℕ, ◌+◌, ◌<◌, List, [], length, get_or, sym, ap, subst, arith}
use Rattle.std.specs.declared.alloc.Global.{Global}
use Rattle.std.specs.declared.vec.Vec.{Vec}
use Rattle.std.proofs.lemmas.List.{get_or_read}
use Rattle.fp_model.specs.declared.parts.Member.{Member}
use Rattle.fp_model.specs.Members.{IsMemberOf, member_arc}
use Rattle.fp_model.specs.Routes.{step}
use Rattle.fp_flatnet.specs.Tables.{windows_in}
use Rattle.fp_dispatch.specs.Rising.{place_of, state_of, value_at}
use Rattle.fp_dispatch.specs.Tasks.{CanBeFound, TaskModel}
use Rattle.fp_dispatch.specs.Times.{next}
use Rattle.fp_dispatch.proofs.RaisedGroups.{demanded-late, demanded-next}
use Rattle.fp_dispatch.proofs.RisingMoments.{AreRising-settled}
use Rattle.fp_dispatch.proofs.TableEntries.{place_of-lt}
use Rattle.fp_dispatch.proofs.VectorItems.{length-lists_of, lists_of-item}
use Rattle.fp_dispatch.proofs.rising.Moments.raise_next.Goals as goal

pub returns-then-to-index : goal.returns-then-to-index
returns-then-to-index c =
    let t : TaskModel = c.args.task.now in
    let task : CanBeFound t = subst CanBeFound c.task.view_is c.task.invariant in
    let inside = c.task.inside in
    let routes : List (List ℕ) = t.routes in
    let width : ℕ = t.numbers.width in
    let values : List ℕ = c.args.self.now.values.items in
    let leg : Member = c.args.leg in
    let row : List ℕ = (get_or inside.routes.now leg.shipment c.index-task-leg.result).items in
    let item : get_or routes leg.shipment [] ≡ row =
    ap (λ (m : TaskModel). get_or m.routes leg.shipment []) (sym c.task.view_is)
    ∙ lists_of-item inside.routes.now leg.shipment c.index-task-leg.result []
    (omega (arith, c.requires.leg.shipment, length-lists_of inside.routes.now, ap (λ (m : TaskModel). length m.routes) c.task.view_is)) c.index-task-leg.is
    ∙ ap (λ (v : Vec ℕ Global). v.items) c.index-task-leg.is in
    let within : leg.leg < length row = omega (arith, c.requires.leg.leg, ap (λ (ns : List ℕ). length ns) item) in
    let arc : c.index.result.now ≡ member_arc routes leg =
    get_or_read row leg.leg c.index.result.now within c.index.ensures 0 ∙ ap (λ (ns : List ℕ). get_or ns leg.leg 0) (sym item) in
    let steps : c.step.result ≡ step t.problem (member_arc routes leg) =
    c.step.ensures.same ∙ ap (step inside.instance.now) arc ∙ ap (λ (m : TaskModel). step m.problem (member_arc routes leg)) c.task.view_is in
    let at : c.place.result ≡ place_of width leg = c.place.ensures ∙ ap (λ (m : TaskModel). place_of m.numbers.width leg) c.task.view_is in
    let here : c.place.result < length values =
    omega (arith, at, place_of-lt routes width leg task.wide c.requires.leg, c.requires.rising.are.values) in
    let from : c.index-from.result.now ≡ value_at width values leg =
    get_or_read values c.place.result c.index-from.result.now here c.index-from.ensures 0 ∙ ap (λ (k : ℕ). get_or values k 0) at in (
      AreRising-settled t.problem (windows_in t.table) routes t.groups width task.wide (state_of c.args.self.now) leg c.requires.rising
          (λ onward.
          let next_at : c.place-2.result ≡ place_of width (next leg) = c.place-2.ensures ∙ ap (λ (m : TaskModel). place_of m.numbers.width (next leg)) c.task.view_is in
          let there : c.place-2.result < length values =
          omega (arith, next_at, place_of-lt routes width (next leg) task.wide onward, c.requires.rising.are.values) in
          let to : c.index-2.result.now ≡ value_at width values (next leg) =
          get_or_read values c.place-2.result c.index-2.result.now there c.index-2.ensures 0 ∙ ap (λ (k : ℕ). get_or values k 0) next_at in
          omega (arith, c.if-to-index.true, from, to, steps)),
      omega arith,
    )

pub returns-in-Some : goal.returns-in-Some
returns-in-Some c =
    let t : TaskModel = c.args.task.now in
    let task : CanBeFound t = subst CanBeFound c.task.view_is c.task.invariant in
    let inside = c.task.inside in
    let routes : List (List ℕ) = t.routes in
    let width : ℕ = t.numbers.width in
    let values : List ℕ = c.args.self.now.values.items in
    let leg : Member = c.args.leg in
    let row : List ℕ = (get_or inside.routes.now leg.shipment c.index-task-leg.result).items in
    let item : get_or routes leg.shipment [] ≡ row =
    ap (λ (m : TaskModel). get_or m.routes leg.shipment []) (sym c.task.view_is)
    ∙ lists_of-item inside.routes.now leg.shipment c.index-task-leg.result []
    (omega (arith, c.requires.leg.shipment, length-lists_of inside.routes.now, ap (λ (m : TaskModel). length m.routes) c.task.view_is)) c.index-task-leg.is
    ∙ ap (λ (v : Vec ℕ Global). v.items) c.index-task-leg.is in
    let within : leg.leg < length row = omega (arith, c.requires.leg.leg, ap (λ (ns : List ℕ). length ns) item) in
    let arc : c.index.result.now ≡ member_arc routes leg =
    get_or_read row leg.leg c.index.result.now within c.index.ensures 0 ∙ ap (λ (ns : List ℕ). get_or ns leg.leg 0) (sym item) in
    let steps : c.step.result ≡ step t.problem (member_arc routes leg) =
    c.step.ensures.same ∙ ap (step inside.instance.now) arc ∙ ap (λ (m : TaskModel). step m.problem (member_arc routes leg)) c.task.view_is in
    let at : c.place.result ≡ place_of width leg = c.place.ensures ∙ ap (λ (m : TaskModel). place_of m.numbers.width leg) c.task.view_is in
    let here : c.place.result < length values =
    omega (arith, at, place_of-lt routes width leg task.wide c.requires.leg, c.requires.rising.are.values) in
    let from : c.index-from.result.now ≡ value_at width values leg =
    get_or_read values c.place.result c.index-from.result.now here c.index-from.ensures 0 ∙ ap (λ (k : ℕ). get_or values k 0) at in
    let more : leg.leg + 1 < length (get_or routes leg.shipment []) =
    omega (arith, c.len.ensures, (get_or inside.routes.now leg.shipment c.index-task-leg.result).ok, ap (λ (ns : List ℕ). length ns) item) in
    let onward : IsMemberOf routes (next leg) = record { shipment = c.requires.leg.shipment; leg = more } in
    let next_at : c.place-2.result ≡ place_of width (next leg) = c.place-2.ensures ∙ ap (λ (m : TaskModel). place_of m.numbers.width (next leg)) c.task.view_is in
    let there : c.place-2.result < length values =
    omega (arith, next_at, place_of-lt routes width (next leg) task.wide onward, c.requires.rising.are.values) in
    let to : c.index-2.result.now ≡ value_at width values (next leg) =
    get_or_read values c.place-2.result c.index-2.result.now there c.index-2.ensures 0 ∙ ap (λ (k : ℕ). get_or values k 0) next_at in
    demanded-late t.problem t.table routes t.groups t.numbers task (state_of c.args.self.now) (state_of c.raise_group.new.self)
    leg (c.index-from.result.now + c.step.result) c.in_ok-leg.field-0 c.requires.rising onward (omega (arith, from, steps)) (omega (arith, c.if-to-index.false, to)) c.in_ok-leg.ensures
    c.in-Some.leg c.in-Some.is

pub returns : goal.returns
returns c =
    let t : TaskModel = c.args.task.now in
    let task : CanBeFound t = subst CanBeFound c.task.view_is c.task.invariant in
    let inside = c.task.inside in
    let routes : List (List ℕ) = t.routes in
    let width : ℕ = t.numbers.width in
    let values : List ℕ = c.args.self.now.values.items in
    let leg : Member = c.args.leg in
    let row : List ℕ = (get_or inside.routes.now leg.shipment c.index-task-leg.result).items in
    let item : get_or routes leg.shipment [] ≡ row =
    ap (λ (m : TaskModel). get_or m.routes leg.shipment []) (sym c.task.view_is)
    ∙ lists_of-item inside.routes.now leg.shipment c.index-task-leg.result []
    (omega (arith, c.requires.leg.shipment, length-lists_of inside.routes.now, ap (λ (m : TaskModel). length m.routes) c.task.view_is)) c.index-task-leg.is
    ∙ ap (λ (v : Vec ℕ Global). v.items) c.index-task-leg.is in
    let within : leg.leg < length row = omega (arith, c.requires.leg.leg, ap (λ (ns : List ℕ). length ns) item) in
    let arc : c.index.result.now ≡ member_arc routes leg =
    get_or_read row leg.leg c.index.result.now within c.index.ensures 0 ∙ ap (λ (ns : List ℕ). get_or ns leg.leg 0) (sym item) in
    let steps : c.step.result ≡ step t.problem (member_arc routes leg) =
    c.step.ensures.same ∙ ap (step inside.instance.now) arc ∙ ap (λ (m : TaskModel). step m.problem (member_arc routes leg)) c.task.view_is in
    let at : c.place.result ≡ place_of width leg = c.place.ensures ∙ ap (λ (m : TaskModel). place_of m.numbers.width leg) c.task.view_is in
    let here : c.place.result < length values =
    omega (arith, at, place_of-lt routes width leg task.wide c.requires.leg, c.requires.rising.are.values) in
    let from : c.index-from.result.now ≡ value_at width values leg =
    get_or_read values c.place.result c.index-from.result.now here c.index-from.ensures 0 ∙ ap (λ (k : ℕ). get_or values k 0) at in
    let more : leg.leg + 1 < length (get_or routes leg.shipment []) =
    omega (arith, c.len.ensures, (get_or inside.routes.now leg.shipment c.index-task-leg.result).ok, ap (λ (ns : List ℕ). length ns) item) in
    let onward : IsMemberOf routes (next leg) = record { shipment = c.requires.leg.shipment; leg = more } in
    let next_at : c.place-2.result ≡ place_of width (next leg) = c.place-2.ensures ∙ ap (λ (m : TaskModel). place_of m.numbers.width (next leg)) c.task.view_is in
    let there : c.place-2.result < length values =
    omega (arith, next_at, place_of-lt routes width (next leg) task.wide onward, c.requires.rising.are.values) in
    let to : c.index-2.result.now ≡ value_at width values (next leg) =
    get_or_read values c.place-2.result c.index-2.result.now there c.index-2.ensures 0 ∙ ap (λ (k : ℕ). get_or values k 0) next_at in
    demanded-next t.problem t.table routes t.groups t.numbers task (state_of c.args.self.now) (state_of c.raise_group.new.self)
    leg (c.index-from.result.now + c.step.result) c.in_ok-leg.field-0 c.requires.rising onward (omega (arith, from, steps)) (omega (arith, c.if-to-index.false, to)) c.in_ok-leg.ensures
    c.in_default.is
