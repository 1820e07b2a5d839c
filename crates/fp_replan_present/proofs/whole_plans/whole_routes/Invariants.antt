use Rattle.std.proofs.Common.{◌≡◌, ◌<◌, ◌++◌, ℕ, [], length}
use Rattle.std.specs.Prelude.{cond}
use Rattle.fp_base_lists.specs.Ascending.{place_in}
use Rattle.fp_base_lists.specs.Membership.{list_has}
use Rattle.fp_base_lists.specs.Vectors.{lists_of}
use Rattle.fp_model.specs.Numbered.{route_at}
use Rattle.fp_replan_present.proofs.whole_plans.whole_routes.Given as goal

-- so many whole routes
abbrev pub invariant-loop-number : goal.invariant-loop-number
invariant-loop-number l =
    (length (lists_of l.routes.items) ≡ l.number)
    × ((k : ℕ) → k < l.number → route_at (lists_of l.routes.items) k ≡ route_at l.settled k ++ cond (list_has l.numbers k) (route_at l.plan (place_in l.numbers k)) [])
