-- The point and its copies make the refined network.
use Rattle.std.proofs.Common.{◌≡◌, ℕ, List, get_or, set, sym, ap, ◌∙◌}
use Rattle.std.specs.List.{insert}
use Rattle.std.specs.declared.alloc.Global.{Global}
use Rattle.std.specs.declared.vec.Vec.{Vec}
use Rattle.std.proofs.lemmas.List.{map-set}
use Rattle.fp_base_lists.specs.Ascending.{place_in}
use Rattle.fp_longestarcs.specs.Networks.{TimedNetwork, points_in}
use Rattle.fp_longestarcs.specs.Vectors.{network_of}
use Rattle.fp_base_lists.specs.Vectors.{lists_of}
use Rattle.fp_longestarcs.specs.Changes.{extended_points}
use Rattle.fp_base_lists.proofs.Maps.{lists_of-get_or}
use Rattle.fp_longestarcs.proofs.copies.insert_point.Goals as goal

pub returns : goal.returns
returns c =
    let net : TimedNetwork = network_of c.args.tails.now c.args.points.now c.args.heads.now in
    let terminal : ℕ = c.args.new.terminal in
    let at : ℕ = c.args.new.at in
    let old : (get_or c.args.points.now terminal c.index-points-new.result).items ≡ points_in net terminal = sym (lists_of-get_or c.args.points.now terminal c.index-points-new.result c.requires.terminal) in
    let place = c.place_among-place.ensures.place ∙ ap (λ (l : List ℕ). place_in l at) c.list_at.ensures in
    let list : c.put.new.list.items ≡ insert (points_in net terminal) (place_in (points_in net terminal) at) at =
    c.put.ensures ∙ ap (λ (l : List ℕ). insert l c.place_among-place.result at) old ∙ ap (λ (k : ℕ). insert (points_in net terminal) k at) place in
    let points : lists_of (set c.args.points.now terminal c.put.new.list) ≡ extended_points net terminal at =
    map-set (λ (v : Vec ℕ Global). v.items) c.args.points.now terminal c.put.new.list ∙ ap (λ (l : List ℕ). set net.points terminal l) list in
    let of : List (List ℕ) → List (List ℕ) → TimedNetwork = λ qs hs. record { tails = c.args.tails.now; points = qs; heads = hs } in
    ap (λ (l : List (List ℕ)). of l (lists_of c.insert_copies.new.heads)) points ∙ ap (λ (l : List (List ℕ)). of (extended_points net terminal at) l) c.insert_copies.ensures
