-- When a round, and all rounds of a search, are earned.
use Rattle.std.specs.Prelude.{ℕ, ◌<◌, ◌≤◌, ◌≡◌, ◌⊎◌, List, length, false, All, AllPairs, Option, None, Some}
use Rattle.fp_base_lists.specs.Distinct.{AreDistinct}
use Rattle.fp_base_lists.specs.Membership.{list_has}
use Rattle.fp_base_lists.specs.Numbered.{AllFrom}
use Rattle.fp_model.specs.declared.parts.Leg.{Leg}
use Rattle.fp_model.specs.Problem.{Problem, horizon}
use Rattle.fp_timenodes.specs.declared.places.Place.{Place}
use Rattle.fp_flatnet.specs.Tables.{WindowTable}
use Rattle.fp_certificate_rules.specs.declared.limits.TheConstants.{MOST_IN_ROUND}
use Rattle.fp_session_history.specs.Clashes.{ClashesBelow, IsShortPlace}
use Rattle.fp_session_history.specs.Notes.{History, Refinement, points_of}

-- a place at a terminal, after 0 and by the latest due time
abbrev pub IsPlaceInTime : Problem → Place → Type 0
IsPlaceInTime p place = (place.terminal < length p.terminals) × (1 ≤ place.at) × (place.at ≤ horizon p.shipments)

-- a place at which a round may add a point: one of a too-short leg of its relaxed plan; and where a search has a unit, as each has that
-- seeks spans, any in time
abbrev pub IsRoundPlace : Problem → (unit : Option ℕ) → (points : ℕ → List ℕ) → (walks : List (List Leg)) → Place → Type 0
IsRoundPlace p None points walks place = IsShortPlace p points walks place
IsRoundPlace p (Some unit) points walks place = IsShortPlace p points walks place ⊎ IsPlaceInTime p place

-- a round is earned over the points as of the round before: its relaxed plan called for it, and it
-- added points at 1 to 8 distinct places at which it may, none of which had one
pub record IsEarnedRound (p : Problem) (table : WindowTable) (unit : Option ℕ) (points : ℕ → List ℕ) (n : Refinement) : Type 0 where
  pub clashes : ClashesBelow p table points n.incumbent n.relaxed
  pub some : 1 ≤ length n.added
  pub few : length n.added ≤ MOST_IN_ROUND
  pub distinct : AreDistinct n.added
  pub places : All (IsRoundPlace p unit points n.relaxed) n.added
  pub new : All (λ (q : Place). list_has (points q.terminal) q.at ≡ false) n.added

-- the notes of a search are earned: their rounds are 1, 2, 3 and so on, each is earned over the
-- points as of the round before, and their incumbents never rise, from at most what the plan costs
-- that the search started with to at least what the plan costs that it ended with
pub record IsEarnedTrace (h : History) (started ended : ℕ) : Type 0 where
  pub rounds : AllFrom (λ k (n : Refinement). n.round ≡ k) 1 h.trace
  pub earned : AllFrom (λ k (n : Refinement). IsEarnedRound h.problem h.windows h.unit (points_of h k) n) 0 h.trace
  pub falling : AllPairs (λ (n m : Refinement). m.incumbent ≤ n.incumbent) h.trace
  pub first : All (λ (n : Refinement). n.incumbent ≤ started) h.trace
  pub last : All (λ (n : Refinement). ended ≤ n.incumbent) h.trace
