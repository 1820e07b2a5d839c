-- Points that begin with the initial ones and have what an earned trace added are the history's, and
-- so are those of a network of them.
use Rattle.std.proofs.Common.{◌≡◌, ℕ, suc, ◌+◌, ◌<◌, ◌≤◌, List, [], ◌∷◌, length, get_or, sym, ◌∙◌, subst, arith}
use Rattle.std.specs.Prelude.{All}
use Rattle.std.proofs.lemmas.List.{take_all}
use Rattle.std.proofs.lemmas.List.Elements.{All-append, All-map}
use Rattle.fp_base_lists.specs.Numbered.{AllFrom}
use Rattle.fp_model.specs.declared.limits.TheConstants.{LAST_ROUND}
use Rattle.fp_model.specs.declared.limits.TheConstants as limit
use Rattle.fp_model.specs.declared.parts.Shipment.{Shipment}
use Rattle.fp_model.specs.Problem.{horizon}
use Rattle.fp_timenodes.specs.declared.places.AddedPoint.{AddedPoint}
use Rattle.fp_timenodes.specs.declared.places.Place.{Place}
use Rattle.fp_timenodes.specs.Points.{TimePoints, greatest_round}
use Rattle.fp_timenodes.proofs.Rounds.{greatest_round_least}
use Rattle.fp_flatnet.specs.Belonging.{BelongsTo}
use Rattle.fp_longestarcs.specs.Networks.{TimedNetwork, points_in}
use Rattle.fp_longestarcs.specs.Whole.{IsNetworkOf}
use Rattle.fp_allowed.specs.SamePoints.{AgreeOnPoints}
use Rattle.fp_certificate_lines.specs.Ranges.{IsPointInRange}
use Rattle.fp_certificate_rules.specs.Points.{ArePointsOf}
use Rattle.fp_certificate_rules.proofs.AddedPoints.{HaveAdded, HaveAdded-ArePointsOf}
use Rattle.fp_session_history.specs.Notes.{History, Refinement, added_of, points_added, points_of}
use Rattle.fp_session_history.specs.Points.{BeginWith}
use Rattle.fp_session_history.specs.Traces.{IsEarnedTrace}
use Rattle.fp_session_history.proofs.AddedPoints.{AreAddedPoints-IsEarnedTrace, points-in_time}

-- where no shipment is due after the latest time, the horizon isn't after it
pub horizon-in_time : (shipments : List Shipment) → ((k : ℕ) (d : Shipment) → k < length shipments → (get_or shipments k d).due ≤ limit.LATEST) → horizon shipments ≤ limit.LATEST
horizon-in_time [] due = omega arith
horizon-in_time (s ∷ shipments) due = omega (arith, due 0 s (omega arith), horizon-in_time shipments (λ k d lt. due (suc k) d (omega (arith, lt))))

-- the rounds of points are those of the notes
rounds-from : (k : ℕ) (notes : List Refinement) → AllFrom (λ j (n : Refinement). n.round ≡ j) k notes → All (λ (q : AddedPoint). (k ≤ q.round) × (q.round < k + length notes)) (added_of notes)
rounds-from k [] rounds = λ j d lt. absurd (omega (arith, lt))
rounds-from k (n ∷ notes) rounds =
    All-append (λ (q : AddedPoint). (k ≤ q.round) × (q.round < k + suc (length notes))) (points_added n.round n.added) (added_of notes)
    (All-map (λ (q : AddedPoint). (k ≤ q.round) × (q.round < k + suc (length notes))) (λ (q : Place). record { terminal = q.terminal; at = q.at; round = n.round }) n.added
    (λ j d lt. (omega (arith, rounds.0), omega (arith, rounds.0))))
    (λ j d lt. let rest = rounds-from (k + 1) notes rounds.1 j d lt in (omega (arith, rest.0), omega (arith, rest.1)))

module _ (h : History) (started ended : ℕ) (belongs : BelongsTo h.problem h.windows) (trace : IsEarnedTrace h started ended) (few : length h.trace ≤ LAST_ROUND) where
  -- the points of an earned trace are in range
  pub points-in_range : All (IsPointInRange h.problem) (added_of h.trace)
  points-in_range j d lt =
      let time = points-in_time h started ended belongs trace j d lt in
      let round = rounds-from 1 h.trace trace.rounds j d lt in
      record {
        terminal = time.0;
        time = omega (arith, time.2, horizon-in_time h.problem.shipments (λ k e less. (belongs.valid.parts.shipments k e less).within.due));
        round = (omega (arith, round.0), omega (arith, round.1, few));
      }

  -- points that begin with the initial ones and have these added are the history's, as of each round
  pub ArePointsOf-history : (v : TimePoints) → BeginWith h.problem h.windows.anchors v → v.added ≡ added_of h.trace → ArePointsOf h.problem h.windows.anchors (added_of h.trace) v
  ArePointsOf-history v begins is =
      let are = AreAddedPoints-IsEarnedTrace h started ended trace in
      let made : HaveAdded h.problem h.windows.anchors (added_of h.trace) v =
      record { terminals = begins.terminals; few_first = begins.few; added_is = is; start = begins.first; new = are.new; once = are.once } in
      HaveAdded-ArePointsOf h.problem h.windows.anchors (added_of h.trace) v (length (added_of h.trace)) belongs.valid
      (subst (λ (qs : List AddedPoint). HaveAdded h.problem h.windows.anchors qs v) (sym (take_all (length (added_of h.trace)) (added_of h.trace) (omega arith))) made)
      (omega arith) points-in_range are.few

  -- so a network with the points as of a round has the history's
  pub AgreeOnPoints-history : (v : TimePoints) (round : ℕ) (net : TimedNetwork) → BeginWith h.problem h.windows.anchors v → v.added ≡ added_of h.trace → IsNetworkOf h.problem v round net →
      AgreeOnPoints h.problem (points_in net) (points_of h round)
  AgreeOnPoints-history v round net begins is of terminal within at = of.points terminal within at ∙ (ArePointsOf-history v begins is).same terminal round within at

-- the greatest round of the points is at most the number of notes
pub greatest_round-history : (h : History) (started ended : ℕ) → IsEarnedTrace h started ended → greatest_round (added_of h.trace) ≤ length h.trace
greatest_round-history h started ended trace =
    greatest_round_least (added_of h.trace) (record { terminal = 0; at = 0; round = 0 }) (length h.trace)
    (λ k lt. let round = rounds-from 1 h.trace trace.rounds k (record { terminal = 0; at = 0; round = 0 }) lt in omega (arith, round.1))
