-- Which groups of legs still leave together, where not all of them can.
-- The source of the problem, in which shipments that share a truck leave at one moment: Boland,
-- Hewitt, Marshall and Savelsbergh, "The Continuous-Time Service Network Design Problem",
-- Operations Research 65, 2017. That the groups are gone through one by one is this project's own.
use Rattle.std.specs.Prelude.{ℕ, ◌≡◌, ◌⊎◌, List, [], ◌∷◌, ◌++◌, Option}
use Rattle.fp_model.specs.declared.parts.Leg.{Leg}
use Rattle.fp_model.specs.declared.parts.Member.{Member}
use Rattle.fp_model.specs.Problem.{Problem}
use Rattle.fp_flatnet.specs.declared.window_tables.Window.{Window}
use Rattle.fp_dispatch.specs.Answers.{IsEarliest}
use Rattle.fp_dispatch.specs.Times.{HaveTimes}

-- groups are gone through in order, after those that are kept before: each is kept where the routes
-- have times with it together with those kept before it, and in the end these are kept
abbrev pub AreKeptAfter : Problem → (ℕ → ℕ → Option Window) → List (List ℕ) → (before groups kept : List (List Member)) → Type 0
AreKeptAfter p windows routes before [] kept = kept ≡ before
AreKeptAfter p windows routes before (group ∷ groups) kept =
    (HaveTimes p windows routes (before ++ (group ∷ [])) × AreKeptAfter p windows routes (before ++ (group ∷ [])) groups kept)
    ⊎ ((HaveTimes p windows routes (before ++ (group ∷ [])) → ⊥) × AreKeptAfter p windows routes before groups kept)

-- the groups that are kept, where nothing is kept before
abbrev pub AreKeptGroups : Problem → (ℕ → ℕ → Option Window) → List (List ℕ) → (groups kept : List (List Member)) → Type 0
AreKeptGroups p windows routes groups kept = AreKeptAfter p windows routes [] groups kept

-- legs go by the routes at the least whole times with the kept groups
pub record IsKeptPlan (p : Problem) (windows : ℕ → ℕ → Option Window) (routes : List (List ℕ)) (groups : List (List Member)) (legs : List (List Leg)) : Type 0 where
  pub kept : List (List Member)
  pub are : AreKeptGroups p windows routes groups kept
  pub earliest : IsEarliest p windows routes kept legs
