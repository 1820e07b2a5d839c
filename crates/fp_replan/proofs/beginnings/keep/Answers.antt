use Rattle.std.proofs.Common.{◌≡◌, ◌<◌, List, [], ◌∷◌, ◌++◌, ◌∙◌, length, sym, ap, subst, arith}
use Rattle.std.specs.Prelude.{slice_set}
use Rattle.std.specs.declared.alloc.Global.{Global}
use Rattle.std.specs.declared.vec.Vec.{Vec}
use Rattle.std.proofs.lemmas.List.{length-map, map-set}
use Rattle.fp_base_lists.specs.Vectors.{lists_of}
use Rattle.fp_base_lists.proofs.Maps.{lists_of-get_or}
use Rattle.fp_model.specs.declared.parts.Leg.{Leg}
use Rattle.fp_model.specs.Numbered.{route_at}
use Rattle.fp_replan.specs.Beginnings.{AreBeginnings}
use Rattle.fp_replan.specs.KeptLegs.{leg_of}
use Rattle.fp_replan.proofs.KeptBeginnings.{AreBeginnings-push}
use Rattle.fp_replan.proofs.beginnings.keep.Goals as goal

pub returns : goal.returns
returns c =
    λ kept count are.
    let x = c.args.leg in
    let old : List (Vec Leg Global) = c.args.beginnings.now.items in
    let long : x.shipment < length (lists_of old) = omega (arith, c.requires, length-map old (λ (v : Vec Leg Global). v.items)) in
    let was : c.index_mut-legs.result.now.items ≡ route_at (lists_of old) x.shipment =
    ap (λ (v : Vec Leg Global). v.items) c.index_mut-legs.ensures.value ∙ sym (lists_of-get_or old x.shipment c.index_mut-legs.result.now c.requires) in
    let now : c.push.new.self.items ≡ route_at (lists_of old) x.shipment ++ (leg_of x ∷ []) =
    c.in_ok-push.ensures.items ∙ ap (λ (ls : List Leg). ls ++ (leg_of x ∷ [])) was in
    let all : lists_of (slice_set old x.shipment c.push.new.self) ≡ slice_set (lists_of old) x.shipment (route_at (lists_of old) x.shipment ++ (leg_of x ∷ [])) =
    map-set (λ (v : Vec Leg Global). v.items) old x.shipment c.push.new.self ∙ ap (λ (ls : List Leg). slice_set (lists_of old) x.shipment ls) now in
    subst (AreBeginnings (kept ++ (x ∷ [])) count) (sym all) (AreBeginnings-push kept count (lists_of old) x long are)
