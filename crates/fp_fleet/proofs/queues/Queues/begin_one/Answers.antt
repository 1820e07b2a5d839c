use Rattle.std.proofs.Common.{◌≡◌, ℕ, List, [], ◌∷◌, ◌++◌, ◌∙◌, length, ap, arith}
use Rattle.std.specs.declared.alloc.Global.{Global}
use Rattle.std.specs.declared.vec.Vec.{Vec}
use Rattle.std.proofs.lemmas.List.{length-map, map_push}
use Rattle.std.proofs.lemmas.Result.{on_ok_weaker}
use Rattle.fp_base_lists.specs.Vectors.{lists_of}
use Rattle.fp_fleet.specs.declared.days.Run.{Run}
use Rattle.fp_fleet.proofs.GivenTrucks.{Begins-joined}
use Rattle.fp_fleet.proofs.queues.Queues.begin_one.Goals as goal

pub returns-clause-begins : goal.returns-clause-begins
returns-clause-begins c =
    let old : List (Vec Run Global) = c.args.self.now.days.items in
    let queues : List (List ℕ) = lists_of c.args.self.now.queues.items in
    let more : lists_of c.push.new.self.items ≡ lists_of old ++ [] ∷ [] =
    ap (λ (vs : List (Vec Run Global)). lists_of vs) c.in_ok-push.ensures.items
    ∙ map_push (λ (v : Vec Run Global). v.items) old c.new.result
    ∙ ap (λ (runs : List Run). lists_of old ++ runs ∷ []) c.new.ensures.items in
    let last : c.len-truck.result ≡ length (lists_of old) = omega (arith, length-map old (λ (v : Vec Run Global). v.items)) in
    on_ok_weaker c.join.result
    (λ joins. Begins-joined c.args.instance.now c.args.lines.now c.args.line c.len-truck.result (lists_of old) (lists_of c.push.new.self.items) (lists_of c.join.new.self.days.items) queues (lists_of c.join.new.self.queues.items) more last joins)
    c.join.ensures.joins
