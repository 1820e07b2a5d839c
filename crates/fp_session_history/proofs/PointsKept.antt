-- A further note leaves the points as of earlier rounds as they are.
use Rattle.std.proofs.Common.{◌≡◌, ℕ, ◌<◌, List, [], ◌∷◌, ◌++◌, sym, ap, ◌∙◌, arith, append-nil, append_assoc}
use Rattle.std.proofs.lemmas.List.Elements.{All-cons}
use Rattle.fp_timenodes.specs.declared.places.AddedPoint.{AddedPoint}
use Rattle.fp_timenodes.specs.declared.places.Place.{Place}
use Rattle.fp_timenodes.specs.Points.{AreAfter, added_at}
use Rattle.fp_timenodes.proofs.Rounds.{added_at-append, added_at_after}
use Rattle.fp_flatnet.specs.Initial.{initial_points}
use Rattle.fp_session_history.specs.Notes.{History, Refinement, added_of, points_added, points_of, with_note}

-- the points of rounds, one after the other
pub added_of-append : (trace more : List Refinement) → added_of (trace ++ more) ≡ added_of trace ++ added_of more
added_of-append [] more = λ i. added_of more
added_of-append (n ∷ trace) more =
    ap (λ (qs : List AddedPoint). points_added n.round n.added ++ qs) (added_of-append trace more) ∙ sym (append_assoc (points_added n.round n.added) (added_of trace) (added_of more))

-- those of one more round
pub added_of_push : (trace : List Refinement) (n : Refinement) → added_of (trace ++ n ∷ []) ≡ added_of trace ++ points_added n.round n.added
added_of_push trace n = added_of-append trace (n ∷ []) ∙ ap (λ (qs : List AddedPoint). added_of trace ++ qs) (append-nil (points_added n.round n.added))

-- the points of a round come after each earlier one
AreAfter_points_added : (round later : ℕ) (places : List Place) → round < later → AreAfter round (points_added later places)
AreAfter_points_added round later [] less = λ k d lt. absurd (omega (arith, lt))
AreAfter_points_added round later (q ∷ places) less =
    All-cons (λ (r : AddedPoint). round < r.round) (record { terminal = q.terminal; at = q.at; round = later }) (points_added later places) less (AreAfter_points_added round later places less)

-- as of an earlier round the points stay
pub points_of-with_note : (h : History) (n : Refinement) (round : ℕ) → round < n.round → points_of (with_note h n) round ≡ points_of h round
points_of-with_note h n round less =
    λ i terminal. initial_points h.problem h.windows.anchors terminal ++ same terminal i
  where
    same : (terminal : ℕ) → added_at (added_of (h.trace ++ n ∷ [])) terminal round ≡ added_at (added_of h.trace) terminal round
    same terminal =
        let before : List ℕ = added_at (added_of h.trace) terminal round in
        ap (λ (added : List AddedPoint). added_at added terminal round) (added_of_push h.trace n)
        ∙ added_at-append (added_of h.trace) (points_added n.round n.added) terminal round
        ∙ ap (λ (qs : List ℕ). before ++ qs) (added_at_after (points_added n.round n.added) terminal round (AreAfter_points_added round n.round n.added less))
        ∙ append-nil before
