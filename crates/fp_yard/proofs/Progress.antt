-- Something can always happen until all has, and then all shipments are where they go.
use Rattle.std.proofs.Common.{◌≡◌, ℕ, zero, suc, ◌<◌, true, false, List, length, get_or, inl, inr, ⊎_elim, sym, subst, arith}
use Rattle.std.specs.Prelude.{◌⊎◌, ◌≢◌}
use Rattle.std.proofs.lemmas.Bool.{cases_Bool}
use Rattle.std.proofs.Math.Nat.{eq-or-lt_of_le}
use Rattle.fp_yard.specs.declared.events.Event.{Event}
use Rattle.fp_yard.specs.declared.events.EventKind.TheVariants.{Departs, Arrives}
use Rattle.fp_yard.specs.declared.events.LineStage.TheVariants.{Done}
use Rattle.fp_yard.specs.declared.events.YardPlace.TheVariants.{At}
use Rattle.fp_yard.specs.Events.{IsAllowed, arrived, departed, stage_of}
use Rattle.fp_yard.specs.Places.{place_of}
use Rattle.fp_yard.specs.Schedules.{IsSound, Schedule, end_of, journey_at}
use Rattle.fp_yard.proofs.Departures.{journey-exists, stage-done, stage-means}
use Rattle.fp_yard.proofs.Places.{place-end}

-- a line that hasn't arrived, while each of a lesser number has
record IsFirstOpen (h : List Event) (line : ℕ) : Type 0 where
  here : arrived h line ≡ false
  before : (l : ℕ) → l < line → arrived h l ≡ true

first-open : (h : List Event) (n : ℕ) → ((l : ℕ) → l < n → arrived h l ≡ true) ⊎ ((line : ℕ) × (line < n) × IsFirstOpen h line)
first-open h zero = inl (λ l lt. absurd (omega (arith, lt)))
first-open h (suc n) =
    ⊎_elim
    (λ done.
    ⊎_elim
    (λ (is : arrived h n ≡ true). inl (λ l lt. ⊎_elim (λ (same : l ≡ n). subst (λ (m : ℕ). arrived h m ≡ true) (sym same) is) (λ (less : l < n). done l less) (eq-or-lt_of_le (omega (arith, lt)))))
    (λ (is : arrived h n ≡ false). inr (n, omega arith, record { here = is; before = done }))
    (cases_Bool (arrived h n)))
    (λ found. inr (found.0, omega (arith, found.1), found.2))
    (first-open h n)

-- the first line that hasn't arrived may arrive, or depart
open-allowed : (s : Schedule) (h : List Event) (line : ℕ) → IsSound s → line < length s.tails → IsFirstOpen h line → (e : Event) × IsAllowed s h e
open-allowed s h line sound lt first =
    ⊎_elim
    (λ (left : departed h line ≡ true). (record { line = line; kind = Arrives }, record { exists = lt; left = left; still = first.here }))
    (λ (still : departed h line ≡ false). (
      record { line = line; kind = Departs },
      record {
        exists = lt;
        still = still;
        ready = λ k i within is.
            first.before (get_or (journey_at s k) i 0)
            (omega (arith, (sound.journeys k (journey-exists s k (suc i) within)).rising i (suc i) (omega arith) within, is));
      },
    ))
    (cases_Bool (departed h line))

-- while a line isn't done, some event is allowed
pub some-allowed : (s : Schedule) (h : List Event) (line : ℕ) → IsSound s → line < length s.tails → stage_of h line ≢ Done → (e : Event) × IsAllowed s h e
some-allowed s h line sound lt open_line =
    ⊎_elim
    (λ done. absurd (open_line (stage-done h line (done line lt))))
    (λ found. open-allowed s h found.0 sound found.1 found.2)
    (first-open h (length s.tails))

-- where all lines are done, each shipment is where its journey ends
pub all-ended : (s : Schedule) (h : List Event) (k : ℕ) → IsSound s → k < length s.journeys → ((line : ℕ) → line < length s.tails → stage_of h line ≡ Done) →
    place_of s h k ≡ At (end_of s (journey_at s k))
all-ended s h k sound lt done =
    let is = sound.journeys k lt in
    place-end s h k is (λ i within. let line : ℕ = get_or (journey_at s k) i 0 in stage-means h line Done (done line (is.exist i within)))
