-- Relaxed plans that call for more points.
-- The source of refinement: Boland, Hewitt, Marshall and Savelsbergh, "The Continuous-Time Service
-- Network Design Problem", Operations Research 65, 2017.
use Rattle.std.specs.Prelude.{ℕ, ◌<◌, ◌≤◌, ◌≡◌, List, []}
use Rattle.fp_model.specs.declared.parts.Leg.{Leg}
use Rattle.fp_model.specs.declared.parts.Member.{Member}
use Rattle.fp_model.specs.Costs.{cost}
use Rattle.fp_model.specs.Members.{arc_lists}
use Rattle.fp_model.specs.Problem.{Problem}
use Rattle.fp_timenodes.specs.declared.places.Place.{Place}
use Rattle.fp_flatnet.specs.Tables.{WindowTable, windows_in}
use Rattle.fp_relaxmodel.specs.Groups.{AreGroups}
use Rattle.fp_relaxmodel.specs.Relaxed.{IsRelaxedPlan}
use Rattle.fp_dispatch.specs.Answers.{IsEarliest}
use Rattle.fp_dispatch.specs.Times.{HaveTimes}
use Rattle.fp_shortarcs.specs.declared.shorts.Short.{Short}
use Rattle.fp_shortarcs.specs.TooShort.{IsShort}
use Rattle.fp_repair.specs.KeptGroups.{AreKeptGroups}

-- a relaxed plan over these points costs less than the incumbent, and its routes and groups have no
-- times; and no plan that its routes have with least times, without any group or with the groups
-- kept, costs less than the incumbent
pub record ClashesBelow (p : Problem) (table : WindowTable) (points : ℕ → List ℕ) (incumbent : ℕ) (relaxed : List (List Leg)) : Type 0 where
  pub is : IsRelaxedPlan p (windows_in table) points relaxed
  pub cheaper : cost p relaxed < incumbent
  pub clash : (groups : List (List Member)) → AreGroups relaxed groups → HaveTimes p (windows_in table) (arc_lists relaxed) groups → ⊥
  pub apart : (legs : List (List Leg)) → IsEarliest p (windows_in table) (arc_lists relaxed) [] legs → incumbent ≤ cost p legs
  pub kept : (groups kept : List (List Member)) (legs : List (List Leg)) → AreGroups relaxed groups → AreKeptGroups p (windows_in table) (arc_lists relaxed) groups kept →
      IsEarliest p (windows_in table) (arc_lists relaxed) kept legs → incumbent ≤ cost p legs

-- the place is that of a leg of the walks that is too short
pub record IsShortPlace (p : Problem) (points : ℕ → List ℕ) (walks : List (List Leg)) (place : Place) : Type 0 where
  pub short : Short
  pub is : IsShort p points walks short
  pub at : place ≡ record { terminal = short.terminal; at = short.at }
