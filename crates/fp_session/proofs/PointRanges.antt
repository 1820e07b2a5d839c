-- The points that rounds added are in range.
use Rattle.std.proofs.Common.{◌≡◌, ℕ, ◌+◌, ◌<◌, ◌≤◌, List, [], ◌∷◌, length, arith}
use Rattle.std.specs.Prelude.{All}
use Rattle.std.proofs.lemmas.List.Elements.{All-append, All-head, All-map, All-nil, All-tail, All-weaker}
use Rattle.fp_base_lists.specs.Numbered.{AllFrom}
use Rattle.fp_model.specs.declared.limits.TheConstants.{LAST_ROUND, LATEST}
use Rattle.fp_model.specs.declared.parts.Shipment.{Shipment}
use Rattle.fp_model.specs.Problem.{IsShipment, horizon}
use Rattle.fp_timenodes.specs.declared.places.AddedPoint.{AddedPoint}
use Rattle.fp_timenodes.specs.declared.places.Place.{Place}
use Rattle.fp_flatnet.specs.Belonging.{BelongsTo}
use Rattle.fp_certificate_lines.specs.Ranges.{IsPointInRange}
use Rattle.fp_session_history.specs.Notes.{History, Refinement, added_of, last_round, points_added}
use Rattle.fp_session_history.specs.Traces.{IsEarnedTrace}
use Rattle.fp_session_history.proofs.AddedPoints.{points-in_time}

-- the horizon is at most the latest time
horizon-le : (n : ℕ) (ss : List Shipment) → All (IsShipment n) ss → horizon ss ≤ LATEST
horizon-le n [] are = omega arith
horizon-le n (s ∷ ss) are = omega (arith, (All-head (IsShipment n) s ss are).within.due, horizon-le n ss (All-tail (IsShipment n) s ss are))

-- a point's round is one of some that are numbered
abbrev IsOfRounds : ℕ → ℕ → AddedPoint → Type 0
IsOfRounds k n q = (k ≤ q.round) × (q.round < k + n)

-- the points of rounds that are numbered from one on are of these rounds
rounds-added : (k : ℕ) (notes : List Refinement) → AllFrom (λ j (n : Refinement). n.round ≡ j) k notes → All (IsOfRounds k (length notes)) (added_of notes)
rounds-added k [] rounds = All-nil (IsOfRounds k 0)
rounds-added k (n ∷ notes) rounds =
    All-append (IsOfRounds k (length (n ∷ notes))) (points_added n.round n.added) (added_of notes)
    (All-map (IsOfRounds k (length (n ∷ notes))) (λ (q : Place). record { terminal = q.terminal; at = q.at; round = n.round }) n.added (λ i d lt. (omega (arith, rounds.0), omega (arith, rounds.0))))
    (All-weaker (IsOfRounds (k + 1) (length notes)) (IsOfRounds k (length (n ∷ notes))) (λ q among. (omega (arith, among.0), omega (arith, among.1))) (added_of notes) (rounds-added (k + 1) notes rounds.1))

-- the points of an earned trace of at most 4,000 rounds are in range
pub points-in_range : (h : History) (started ended : ℕ) → BelongsTo h.problem h.windows → IsEarnedTrace h started ended → last_round h ≤ LAST_ROUND → All (IsPointInRange h.problem) (added_of h.trace)
points-in_range h started ended belongs trace few = λ i d lt.
    let time = points-in_time h started ended belongs trace i d lt in
    let among = rounds-added 1 h.trace trace.rounds i d lt in
    record {
      terminal = time.0;
      time = omega (arith, time.2, horizon-le (length h.problem.terminals) h.problem.shipments belongs.valid.parts.shipments);
      round = (among.0, omega (arith, among.1, few));
    }
