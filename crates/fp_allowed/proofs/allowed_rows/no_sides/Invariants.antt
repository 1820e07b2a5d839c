use Rattle.std.proofs.Common.{◌≡◌, ℕ, ◌<◌, [], length, get_or}
use Rattle.std.specs.declared.alloc.Global.{Global}
use Rattle.std.specs.declared.vec.Vec.{Vec}
use Rattle.fp_tree.specs.declared.sides.Side.{Side}
use Rattle.fp_allowed.proofs.allowed_rows.no_sides.Given as goal

abbrev pub invariant-loop-terminal : goal.invariant-loop-terminal
invariant-loop-terminal l =
    (length l.lists.items ≡ l._terminal) × ((t : ℕ) (d : Vec Side Global) → t < l._terminal → (get_or l.lists.items t d).items ≡ [])
