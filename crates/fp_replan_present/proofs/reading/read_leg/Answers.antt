use Rattle.std.proofs.Common.{◌≡◌, ◌<◌, ◌∙◌, List, length, map, sym, ap, subst, arith}
use Rattle.std.specs.declared.alloc.Global.{Global}
use Rattle.std.specs.declared.vec.Vec.{Vec}
use Rattle.std.proofs.lemmas.List.{length-map}
use Rattle.fp_base_lists.specs.Vectors.{lists_of}
use Rattle.fp_base_lists.proofs.Maps.{lists_of-get_or}
use Rattle.fp_model.specs.declared.parts.Leg.{Leg}
use Rattle.fp_model.specs.Numbered.{route_at}
use Rattle.fp_model.specs.Routes.{ArcsExist}
use Rattle.fp_records_fields.proofs.NamedParts.{shipment_in-lt}
use Rattle.fp_replan.specs.declared.kept.Kept.{Kept}
use Rattle.fp_replan.proofs.KeptBeginnings.{beginning-arcs}
use Rattle.fp_replan_present.specs.Days.{kept_in_tracked}
use Rattle.fp_replan_present.proofs.reading.read_leg.Goals as goal

pub goes_on-requires-clause-legs : goal.goes_on-requires-clause-legs
goes_on-requires-clause-legs c =
    let p = c.args.instance.now in
    let k = c.in-Some.shipment in
    let vectors = c.args.draft.now.beginnings.items in
    let kept : List Kept = map kept_in_tracked c.args.draft.now.legs.items in
    let named = rw c.requires.lookup at c.in-Some.ensures in
    let lt : k < length p.shipments = omega (arith, named.1, shipment_in-lt p c.args.line.now 1 named.0) in
    let there : k < length vectors = omega (arith, lt, c.requires.draft.one_each, length-map vectors (λ (v : Vec Leg Global). v.items)) in
    let same : c.deref.result.now ≡ route_at (lists_of vectors) k =
    c.deref.ensures.value ∙ ap (λ (v : Vec Leg Global). v.items) c.index-legs.ensures ∙ sym (lists_of-get_or vectors k c.index-legs.result.now there) in
    subst (ArcsExist p) (sym same) (beginning-arcs p kept (length p.shipments) k (lists_of vectors) c.requires.tracked.kept c.requires.draft lt)
