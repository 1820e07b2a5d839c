use Rattle.std.proofs.Common.{◌≡◌, ℕ, List, [], ◌∷◌, ◌++◌, ◌∙◌, sym, ap}
use Rattle.std.specs.Prelude.{slice_set}
use Rattle.std.specs.declared.alloc.Global.{Global}
use Rattle.std.specs.declared.vec.Vec.{Vec}
use Rattle.std.proofs.lemmas.List.{map-set}
use Rattle.fp_base_lists.specs.Vectors.{lists_of}
use Rattle.fp_base_lists.proofs.Maps.{lists_of-get_or}
use Rattle.fp_fleet.specs.Queues.{queue_at}
use Rattle.fp_fleet.proofs.queues.push_truck.Goals as goal

pub returns : goal.returns
returns c =
    let old : List (Vec ℕ Global) = c.args.queues.now.items in
    let was : c.index_mut.result.now.items ≡ queue_at (lists_of old) c.args.line =
    ap (λ (v : Vec ℕ Global). v.items) c.index_mut.ensures.value ∙ sym (lists_of-get_or old c.args.line c.index_mut.result.now c.requires) in
    let now : c.push.new.self.items ≡ queue_at (lists_of old) c.args.line ++ (c.args.truck ∷ []) =
    c.in_ok-push.ensures.items ∙ ap (λ (xs : List ℕ). xs ++ (c.args.truck ∷ [])) was in
    map-set (λ (v : Vec ℕ Global). v.items) old c.args.line c.push.new.self ∙ ap (λ (xs : List ℕ). slice_set (lists_of old) c.args.line xs) now
