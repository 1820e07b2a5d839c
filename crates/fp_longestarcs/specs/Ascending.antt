-- Points of a terminal in ascending order.
use Rattle.std.specs.Prelude.{ℕ, ◌<◌, ◌≤◌, ◌≡◌, true, List, All}
use Rattle.std.specs.List.{AllPairs}
use Rattle.fp_timenodes.specs.declared.places.TheConstants.{LATEST}
use Rattle.fp_base_lists.specs.Membership.{list_has}

-- the points of a terminal: in ascending order and each once, 0 among them, none too late
pub record ArePoints (qs : List ℕ) : Type 0 where
  pub ascending : AllPairs (λ q r. q < r) qs
  pub zero : list_has qs 0 ≡ true
  pub in_time : All (λ q. q ≤ LATEST) qs
