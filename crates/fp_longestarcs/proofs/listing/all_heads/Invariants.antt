use Rattle.std.proofs.Common.{◌≡◌, map, get_or, []}
use Rattle.std.specs.List.{range_with_len}
use Rattle.fp_base_lists.specs.Vectors.{lists_of}
use Rattle.fp_longestarcs.specs.Whole.{heads_from}
use Rattle.fp_longestarcs.proofs.listing.all_heads.Given as goal

abbrev pub invariant-loop-arc : goal.invariant-loop-arc
invariant-loop-arc l =
    lists_of l.heads.items ≡ map (heads_from l.instance (λ terminal. get_or (lists_of l.points) terminal [])) (range_with_len 0 l.arc)
