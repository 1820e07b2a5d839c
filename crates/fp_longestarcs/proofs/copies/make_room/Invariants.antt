use Rattle.std.proofs.Common.{◌≡◌, ℕ, ◌<◌, get_or, vec_len, vec_capacity}
use Rattle.std.specs.declared.alloc.Global.{Global}
use Rattle.std.specs.declared.vec.Vec.{Vec}
use Rattle.fp_base_lists.specs.Vectors.{lists_of}
use Rattle.fp_longestarcs.proofs.copies.make_room.Given as goal

abbrev pub invariant-loop-arc : goal.invariant-loop-arc
invariant-loop-arc l =
    (lists_of l.heads ≡ lists_of l.initial.heads) ×
    ((arc : ℕ) (d : Vec ℕ Global) → arc < l.arc → get_or l.tails arc 0 ≡ l.terminal → vec_len (get_or l.heads arc d) < vec_capacity (get_or l.heads arc d))
