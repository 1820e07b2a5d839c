-- The points of a certificate.
use Rattle.std.specs.Prelude.{ℕ, ◌+◌, ◌<◌, ◌≤◌, ◌≡◌, ◌≢◌, ◌==◌, List, ◌++◌, length, false, All, AllPairs, count_by}
use Rattle.fp_model.specs.Problem.{Problem}
use Rattle.fp_timenodes.specs.declared.places.AddedPoint.{AddedPoint}
use Rattle.fp_timenodes.specs.declared.places.Place.{Place}
use Rattle.fp_timenodes.specs.declared.places.TheConstants.{MOST_POINTS}
use Rattle.fp_timenodes.specs.Floor.{HaveSamePoints}
use Rattle.fp_base_lists.specs.Membership.{list_has}
use Rattle.fp_timenodes.specs.Points.{TimePoints, added_at, points_at}
use Rattle.fp_flatnet.specs.Initial.{initial_points}
use Rattle.fp_certificate_lines.specs.Statements.{Statement}
use Rattle.fp_certificate_rules.specs.declared.limits.TheConstants.{MOST_IN_ROUND}

-- the points of a terminal as of a round: the initial ones, and those that were added up to and
-- with that round
abbrev pub points_with_added : Problem → List Place → List AddedPoint → ℕ → ℕ → List ℕ
points_with_added p anchors added round terminal = initial_points p anchors terminal ++ added_at added terminal round

-- the points of a terminal as of a round, with those that a certificate adds
abbrev pub points_as_of : Problem → List Place → Statement → ℕ → ℕ → List ℕ
points_as_of p anchors c round terminal = points_with_added p anchors c.points round terminal

-- rounds don't fall from point to point, at most 8 points have one round, no point is an initial
-- one, and none stands twice
pub record AreAddedPoints (p : Problem) (anchors : List Place) (added : List AddedPoint) : Type 0 where
  pub rounds : AllPairs (λ (q r : AddedPoint). q.round ≤ r.round) added
  pub few : (round : ℕ) → count_by (λ (q : AddedPoint). q.round == round) added ≤ MOST_IN_ROUND
  pub new : All (λ (q : AddedPoint). list_has (initial_points p anchors q.terminal) q.at ≡ false) added
  pub once : AllPairs (λ (q r : AddedPoint). q.terminal ≡ r.terminal → q.at ≢ r.at) added

-- the points of a certificate can be added to the initial ones
abbrev pub HasPoints : Problem → List Place → Statement → Type 0
HasPoints p anchors c = AreAddedPoints p anchors c.points

-- points that are, as of each round, the initial ones and the added ones, and few enough for a
-- bound
pub record ArePointsOf (p : Problem) (anchors : List Place) (added : List AddedPoint) (v : TimePoints) : Type 0 where
  pub terminals : v.terminals ≡ length p.terminals
  pub few : v.terminals + length v.first + length v.added ≤ MOST_POINTS
  pub same : (terminal round : ℕ) → terminal < length p.terminals → HaveSamePoints (points_at v terminal round) (points_with_added p anchors added round terminal)
