use Rattle.std.proofs.Common.{◌≡◌, ◌<◌, ℕ, None, length, vec_len}
use Rattle.std.specs.Prelude.{slice_index_or}
use Rattle.fp_flatnet.specs.Directs.{IsFirstBelow}
use Rattle.fp_flatnet.proofs.direct_routes.onward_arcs.Given as goal

abbrev pub invariant-loop-number : goal.invariant-loop-number
invariant-loop-number l =
    (vec_len l.onward ≡ length l.instance.terminals)
    × ((here : ℕ) → here < length l.instance.terminals → IsFirstBelow l.instance l.there l.number here (slice_index_or l.onward.items here None))
