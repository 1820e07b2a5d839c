use Rattle.std.proofs.Common.{◌≡◌, ◌<◌, List, length, sym, ap, subst, arith}
use Rattle.std.specs.declared.alloc.Global.{Global}
use Rattle.std.specs.declared.vec.Vec.{Vec}
use Rattle.std.proofs.lemmas.List.{length-map}
use Rattle.fp_base_lists.specs.Vectors.{lists_of}
use Rattle.fp_model.specs.declared.parts.Leg.{Leg}
use Rattle.fp_model.specs.declared.parts.Shipment.{Shipment}
use Rattle.fp_model.specs.Numbered.{route_at}
use Rattle.fp_model.specs.Routes.{ArcsExist}
use Rattle.fp_flatnet.specs.Tables.{windows_in}
use Rattle.fp_replan.specs.KeptLegs.{kept_of}
use Rattle.fp_replan.proofs.KeptBeginnings.{beginning-arcs}
use Rattle.fp_replan.proofs.KeptRoutes.{TellKept-from_rows}
use Rattle.fp_replan.proofs.NarrowRows.{CanNarrowAll-kept, IsKeptRow-row, IsRowFrom-narrow, shut-kept}
use Rattle.fp_replan.proofs.kept_windows.windows.Goals as goal

pub close_rows-requires-clause-legs : goal.close_rows-requires-clause-legs
close_rows-requires-clause-legs c =
    λ k lt.
    let p = c.args.instance.now in
    let vectors = c.in_ok-beginnings.beginnings.items in
    let lists : lists_of c.deref.result.now ≡ lists_of vectors = ap (λ (vs : List (Vec Leg Global)). lists_of vs) c.deref.ensures.value in
    let there : k < length c.shipments.result.now =
    omega (arith, lt, ap (λ (vs : List (Vec Leg Global)). length vs) c.deref.ensures.value, c.in_ok-beginnings.ensures.one_each, length-map vectors (λ (v : Vec Leg Global). v.items)) in
    subst (λ (ls : List (List Leg)). ArcsExist p (route_at ls k)) (sym lists)
    (beginning-arcs p c.args.kept.now (length c.shipments.result.now) k (lists_of vectors) c.requires.kept c.in_ok-beginnings.ensures there)

pub narrow_all-requires-clause-can : goal.narrow_all-requires-clause-can
narrow_all-requires-clause-can c =
    let p = c.args.instance.now in
    let vectors = c.in_ok-beginnings.beginnings.items in
    let base = windows_in c.in_ok-windows.windows in
    CanNarrowAll-kept p c.args.kept.now base c.close_rows.new.windows c.requires.kept c.requires.can c.in_ok-windows.ensures.covers
    (shut-kept p c.args.kept.now (length c.shipments.result.now) (lists_of vectors) (lists_of c.deref.result.now) base (windows_in c.close_rows.new.windows) c.in_ok-beginnings.ensures
    (ap (λ (vs : List (Vec Leg Global)). lists_of vs) c.deref.ensures.value) (ap (λ (ss : List Shipment). length ss) c.shipments.ensures.same) c.close_rows.ensures.rows)

pub returns-clause-windows : goal.returns-clause-windows
returns-clause-windows c =
    λ k lt.
    let p = c.args.instance.now in
    let kept = c.args.kept.now in
    let vectors = c.in_ok-beginnings.beginnings.items in
    let base = windows_in c.in_ok-windows.windows in
    let shut = windows_in c.close_rows.new.windows in
    let windows = windows_in c.narrow_all.new.windows in
    IsKeptRow-row p (kept_of kept k) k base (windows k) c.in_ok-windows.ensures.windows lt
    (IsRowFrom-narrow p kept base shut windows c.requires.kept
    (shut-kept p kept (length c.shipments.result.now) (lists_of vectors) (lists_of c.deref.result.now) base shut c.in_ok-beginnings.ensures
    (ap (λ (vs : List (Vec Leg Global)). lists_of vs) c.deref.ensures.value) (ap (λ (ss : List Shipment). length ss) c.shipments.ensures.same) c.close_rows.ensures.rows)
    c.in_ok-narrow_all.ensures.narrow k lt)

pub returns-clause-tell : goal.returns-clause-tell
returns-clause-tell c =
    let p = c.args.instance.now in
    let kept = c.args.kept.now in
    let vectors = c.in_ok-beginnings.beginnings.items in
    let base = windows_in c.in_ok-windows.windows in
    let shut = windows_in c.close_rows.new.windows in
    let windows = windows_in c.narrow_all.new.windows in
    TellKept-from_rows p kept base windows c.requires.kept c.in_ok-windows.ensures.covers
    (IsRowFrom-narrow p kept base shut windows c.requires.kept
    (shut-kept p kept (length c.shipments.result.now) (lists_of vectors) (lists_of c.deref.result.now) base shut c.in_ok-beginnings.ensures
    (ap (λ (vs : List (Vec Leg Global)). lists_of vs) c.deref.ensures.value) (ap (λ (ss : List Shipment). length ss) c.shipments.ensures.same) c.close_rows.ensures.rows)
    c.in_ok-narrow_all.ensures.narrow)
