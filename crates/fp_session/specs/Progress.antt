-- What a search has in hand, in numbers, and what they say of all plans.
-- The problem: Boland, Hewitt, Marshall and Savelsbergh, "The Continuous-Time Service Network
-- Design Problem", Operations Research 65, 2017.
use Rattle.std.specs.Prelude.{◌≡◌, ◌≤◌, length}
use Rattle.fp_model.specs.Costs.{cost}
use Rattle.fp_model.specs.Plans.{IsPlan}
use Rattle.fp_flatnet.specs.Tables.{windows_in}
use Rattle.fp_flatnet.specs.Windows.{PlanLiesWithin}
use Rattle.fp_tree.specs.Nodes.{split_count}
use Rattle.fp_certificate_rules.specs.Claims.{NoPlanWithinCheaper}
use Rattle.fp_session.specs.declared.progress.Progress.{Progress}
use Rattle.fp_session.specs.Sessions.{SessionModel, cheapest_of}

-- how many rounds and splits there were; what the cheapest plan costs that was found, which lies within the windows; and a
-- number that is no larger, under which no plan within the windows costs, over any denominator
pub record IsProgress (m : SessionModel) (x : Progress) : Type 0 where
  pub rounds : x.rounds ≡ length m.trace
  pub branches : x.branches ≡ split_count m.tree
  pub cost : x.cost ≡ cost m.instance (cheapest_of m)
  pub plan : IsPlan m.instance 1 (cheapest_of m)
  pub within : PlanLiesWithin (windows_in m.windows) 1 (cheapest_of m)
  pub bound : NoPlanWithinCheaper m.instance (windows_in m.windows) x.bound
  pub below : x.bound ≤ x.cost
