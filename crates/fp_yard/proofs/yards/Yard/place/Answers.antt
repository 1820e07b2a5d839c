use Rattle.std.proofs.Common.{◌≡◌, ◌∙◌, ◌<◌, ℕ, false, List, drop, get_or, length, sym, subst, arith}
use Rattle.std.proofs.lemmas.List.{get_or_default}
use Rattle.fp_yard.specs.declared.events.Event.{Event}
use Rattle.fp_yard.specs.declared.events.LineStage.TheVariants.{Waiting}
use Rattle.fp_yard.specs.declared.events.YardPlace.TheVariants.{At}
use Rattle.fp_yard.specs.Events.{departed}
use Rattle.fp_yard.specs.Models.{YardModel}
use Rattle.fp_yard.specs.Places.{place_along, place_of}
use Rattle.fp_yard.specs.Schedules.{Schedule, journey_at}
use Rattle.fp_yard.proofs.Departures.{stage-means}
use Rattle.fp_yard.proofs.Places.{place-stays}
use Rattle.fp_yard.proofs.yards.Yard.place.Goals as goal

pub returns-in-Waiting : goal.returns-in-Waiting
returns-in-Waiting c =
    let s : Schedule = c.self.inside.sheets in
    let h : List Event = c.self.inside.history.items in
    let run = c.self.invariant.run in
    let k : ℕ = c.args.shipment in
    let i : ℕ = c.loop-line.line-index in
    let journey : List ℕ = c.journey-journey.result.now in
    let same : journey ≡ journey_at s k = c.journey-journey.ensures.journey in
    let line : ℕ = get_or journey i 0 in
    let lt : k < length s.journeys = subst (λ (x : YardModel). k < length x.schedule.journeys) (sym c.self.view_is) c.requires in
    let exists : line < length s.tails =
    subst (λ (j : List ℕ). get_or j i 0 < length s.tails) (sym same)
    ((run.sound.journeys k lt).exist i (subst (λ (j : List ℕ). i < length j) same c.loop-line-test.true)) in
    let stage = sym (run.told line exists) ∙ get_or_default c.self.inside.stages.items line Waiting c.index.result.now (omega (arith, exists, run.long)) ∙ sym c.index.ensures ∙ c.in-Waiting.is in
    let still : departed h line ≡ false = (stage-means h line Waiting stage).1 in
    let stays = place-stays s h k i c.loop-line.terminal run.legal (subst (λ (j : List ℕ). departed h (get_or j i 0) ≡ false) same still) in
    let left : place_of s h k ≡ place_along s h c.loop-line.terminal (drop i (journey_at s k)) =
    subst (λ (j : List ℕ). place_of s h k ≡ place_along s h c.loop-line.terminal (drop i j)) same c.loop-line.invariant in
    subst (λ (x : YardModel). At c.loop-line.terminal ≡ place_of x.schedule x.history k) c.self.view_is (sym (left ∙ stays))
