use Rattle.std.proofs.Common.{◌∙◌, ap}
use Rattle.std.specs.declared.alloc.Global.{Global}
use Rattle.std.specs.declared.vec.Vec.{Vec}
use Rattle.fp_repair_groups.proofs.SameLists.{lists_of-written}
use Rattle.fp_repair_groups.proofs.room.make_room_at.Goals as goal

pub returns-in_err-reserve : goal.returns-in_err-reserve
returns-in_err-reserve g c =
    lists_of-written c.args.lists.now.items c.args.at c.reserve.new.self c.index_mut.result.now (c.in_err-reserve.ensures.items ∙ ap (λ (v : Vec _ Global). v.items) c.index_mut.ensures.value)

pub returns-in_ok-reserve : goal.returns-in_ok-reserve
returns-in_ok-reserve g c =
    lists_of-written c.args.lists.now.items c.args.at c.reserve.new.self c.index_mut.result.now (c.in_ok-reserve.ensures.items ∙ ap (λ (v : Vec _ Global). v.items) c.index_mut.ensures.value)
