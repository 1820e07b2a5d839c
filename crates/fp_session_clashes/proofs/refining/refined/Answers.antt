-- Each place becomes a point of the points and of the network.
use Rattle.std.proofs.Common.{◌≡◌, ℕ, ◌+◌, ◌<◌, Bool, false, List, [], ◌∷◌, length, get_or, take, Result, Ok, sym, ap, ◌∙◌, subst, arith}
use Rattle.std.specs.Prelude.{IsTrue, ◌↔◌}
use Rattle.std.specs.declared.alloc.AllocError.{AllocError}
use Rattle.std.proofs.lemmas.Bool.{false≢true}
use Rattle.std.proofs.lemmas.List.{get_or_default}
use Rattle.fp_model.specs.Problem.{Problem}
use Rattle.fp_timenodes.specs.declared.places.Added.{Added}
use Rattle.fp_timenodes.specs.declared.places.Added.TheVariants as added
use Rattle.fp_timenodes.specs.declared.places.Place.{Place}
use Rattle.fp_timenodes.specs.Points.{TimePoints, greatest_round, with_added}
use Rattle.fp_longestarcs.specs.Networks.{TimedNetwork}
use Rattle.fp_longestarcs.specs.Changes.{refined, restored}
use Rattle.fp_longestarcs.specs.Whole.{IsNetworkOf}
use Rattle.fp_session_history.specs.Notes.{points_added}
use Rattle.fp_session_clashes.specs.declared.refining.RefinedNetwork.{RefinedNetwork}
use Rattle.fp_session_clashes.specs.Refining.{CanAdd, IsRefined}
use Rattle.fp_session_clashes.proofs.RefinedPoints.{CanAdd-later, IsNetworkOf-more, greatest_round-with_added, point_of, with_added_more}
use Rattle.fp_session_clashes.proofs.refining.refined.Goals as goal

-- a point that wasn't there is new
is-new : (a : Added) (b : Bool) (r : Result Added AllocError) → r ≡ Ok a → ((r ≡ Ok added.There) ↔ IsTrue b) → b ≡ false → r ≡ Ok added.New
is-new added.There b r was there none = absurd (false≢true (sym none ∙ there.0 was))
is-new added.New b r was there none = was

-- the points and the network after a place is added
grown : (p : Problem) (v w : TimePoints) (net more : TimedNetwork) (round : ℕ) (places : List Place) (i : ℕ) (d : Place) (r : RefinedNetwork) → i < length places → IsRefined p v round (take i places) r →
    CanAdd p r.points round (get_or places i d) → w ≡ with_added r.points (point_of round (get_or places i d) ∷ []) →
    more ≡ restored p (refined p r.network (get_or places i d).terminal (get_or places i d).at) (get_or places i d).terminal (get_or places i d).at →
    IsRefined p v round (take (i + 1) places) (record { points = w; network = more })
grown p v w net more round places i d r lt is can points network =
    let old : r.points ≡ with_added v (points_added round (take i places)) = is.points in
    record {
      points = points ∙ ap (λ (x : TimePoints). with_added x (point_of round (get_or places i d) ∷ [])) old ∙ with_added_more v round places i d lt;
      network = subst (λ (x : TimePoints). IsNetworkOf p x round more) (sym points)
          (subst (λ (x : TimedNetwork). IsNetworkOf p (with_added r.points (point_of round (get_or places i d) ∷ [])) round x) (sym network)
          (IsNetworkOf-more p r.points round (get_or places i d) can r.network is.network));
    }

pub add-requires-clause-order : goal.add-requires-clause-order
add-requires-clause-order c =
    omega (
      arith,
      ap (λ (v : TimePoints). greatest_round v.added) c.loop-place.invariant.refined.points,
      greatest_round-with_added c.args.points c.args.round (take c.loop-place.place-index c.args.places.now) c.requires.last,
    )

pub loop-place-preserved : goal.loop-place-preserved
loop-place-preserved c =
    let d : Place = record { terminal = 0; at = 0 } in
    let i : ℕ = c.loop-place.place-index in
    let q : Place = get_or c.args.places.now i d in
    let can : CanAdd c.args.instance.now c.loop-place.refined.points c.args.round q = c.loop-place.invariant.later i d (omega arith) c.loop-place-test.true in
    let points : c.add.new.self ≡ with_added c.loop-place.refined.points (point_of c.args.round q ∷ []) =
    c.add.ensures.new (is-new c.in_ok-_added._added _ c.add.result c.in_ok-_added.was c.add.ensures.there can.new) in
    record {
      refined = grown c.args.instance.now c.args.points c.add.new.self c.args.network c.restore.new.self c.args.round c.args.places.now i d c.loop-place.refined c.loop-place-test.true c.loop-place.invariant.refined can points
          (c.restore.ensures ∙ ap (λ (net : TimedNetwork). restored c.args.instance.now net q.terminal q.at) c.in_ok-refine.ensures.ok);
      later = λ k e le lt.
          subst (λ (v : TimePoints). CanAdd c.args.instance.now v c.args.round (get_or c.args.places.now k e)) (sym points)
          (CanAdd-later c.args.instance.now c.loop-place.refined.points c.args.round c.args.places.now i c.requires.distinct c.loop-place-test.true c.loop-place.invariant.later q
          (get_or_default c.args.places.now i d q c.loop-place-test.true) k e le lt);
    }
