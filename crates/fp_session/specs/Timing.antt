-- What comes of a relaxed plan that costs less than the incumbent.
use Rattle.std.specs.Prelude.{ℕ, ◌≡◌, List, Option}
use Rattle.fp_model.specs.declared.parts.Leg.{Leg}
use Rattle.fp_session_history.specs.Clashes.{ClashesBelow}
use Rattle.fp_session_history.specs.Notes.{last_round}
use Rattle.fp_session.specs.declared.searches.Search.{Search}
use Rattle.fp_session.specs.declared.timing.Timing.{Timing}
use Rattle.fp_session.specs.declared.timing.Timing.TheVariants.{Better, Refine, Spent}
use Rattle.fp_session.specs.Moves.{IsNextRound, points_now}
use Rattle.fp_duals_leaves.specs.Prices.{no_prices}
use Rattle.fp_session.specs.Searches.{IsCheaper, history}

-- of a search with such a unit: a cheaper plan; or one more round, by the relaxed plan; or the relaxed plan calls for one, and none is left
abbrev pub IsTiming : Search → Option ℕ → List (List Leg) → Timing → Type 0
IsTiming s unit relaxed (Better cheaper) = IsCheaper s cheaper
IsTiming s unit relaxed (Refine round) = IsNextRound s unit round.note round.refined × (round.note.relaxed ≡ relaxed)
IsTiming s unit relaxed (Spent walks) =
    (walks ≡ relaxed) × (last_round (history s no_prices) ≡ s.budget.rounds) × ClashesBelow s.instance s.windows (points_now s) s.cost relaxed
