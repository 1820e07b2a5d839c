use Rattle.std.proofs.Common.{◌≡◌, List, [], ◌∷◌, ◌++◌, ◌∙◌, sym, ap}
use Rattle.std.specs.Prelude.{slice_set}
use Rattle.std.specs.declared.alloc.Global.{Global}
use Rattle.std.specs.declared.vec.Vec.{Vec}
use Rattle.std.proofs.lemmas.List.{map-set}
use Rattle.fp_base_lists.specs.Vectors.{lists_of}
use Rattle.fp_base_lists.proofs.Maps.{lists_of-get_or}
use Rattle.fp_fleet.specs.declared.days.Run.{Run}
use Rattle.fp_fleet.specs.Queues.{day_at}
use Rattle.fp_fleet.proofs.queues.push_run.Goals as goal

pub returns : goal.returns
returns c =
    let old : List (Vec Run Global) = c.args.days.now.items in
    let was : c.index_mut.result.now.items ≡ day_at (lists_of old) c.args.truck =
    ap (λ (v : Vec Run Global). v.items) c.index_mut.ensures.value ∙ sym (lists_of-get_or old c.args.truck c.index_mut.result.now c.requires) in
    let now : c.push.new.self.items ≡ day_at (lists_of old) c.args.truck ++ (c.args.run ∷ []) =
    c.in_ok-push.ensures.items ∙ ap (λ (xs : List Run). xs ++ (c.args.run ∷ [])) was in
    map-set (λ (v : Vec Run Global). v.items) old c.args.truck c.push.new.self ∙ ap (λ (xs : List Run). slice_set (lists_of old) c.args.truck xs) now
