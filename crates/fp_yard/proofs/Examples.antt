-- A shipment that goes from terminal 0 by terminal 1 to terminal 2, by two lines.
use Rattle.std.proofs.Common.{◌≡◌, ℕ, zero, suc, ◌<◌, true, [], ◌∷◌, length, get_or, refl, sym, arith, lit<}
use Rattle.std.specs.Prelude.{All, Contains}
use Rattle.std.proofs.lemmas.Bool.{false≢true}
use Rattle.fp_model.specs.declared.parts.Member.{Member}
use Rattle.fp_yard.specs.declared.events.Event.{Event}
use Rattle.fp_yard.specs.declared.events.EventKind.{EventKind}
use Rattle.fp_yard.specs.declared.events.EventKind.TheVariants.{Departs, Arrives}
use Rattle.fp_yard.specs.Choices.{IsChosen}
use Rattle.fp_yard.specs.Events.{AreEnabled, CanDepart, IsAllowed, MayHappen, arrived}
use Rattle.fp_yard.specs.Schedules.{GoesBy, IsFreightOf, Schedule, journey_at}
use Rattle.fp_yard.proofs.AllowedEvents.{IsLegal-chosen}

abbrev pub relay : Schedule
relay = record { tails = 0 ∷ 1 ∷ []; heads = 1 ∷ 2 ∷ []; journeys = (0 ∷ 1 ∷ []) ∷ [] }

abbrev leaves : ℕ → Event
leaves line = record { line = line; kind = Departs }

abbrev enters : ℕ → Event
enters line = record { line = line; kind = Arrives }

one-event : (P : Event → Type 0) (e : Event) → P e → All P (e ∷ [])
one-event P e h zero d lt = h
one-event P e h (suc i) d lt = absurd (omega (arith, lt))

first-may : CanDepart relay [] 0
first-may = record { exists = lit< tt; still = refl; ready = λ k i lt is. never k i lt is }
  where
    never : (k i : ℕ) → suc i < length (journey_at relay k) → get_or (journey_at relay k) (suc i) 0 ≡ 0 → arrived [] (get_or (journey_at relay k) i 0) ≡ true
    never zero zero lt is = absurd (omega (arith, is))
    never zero (suc i) lt is = absurd (omega (arith, lt))
    never (suc k) i lt is = absurd (omega (arith, lt))

-- the second line waits for the first
second-waits : CanDepart relay [] 1 → ⊥
second-waits can = false≢true (can.ready 0 0 (lit< tt) refl)

-- at first the first line may depart, and nothing else may happen
pub first-enabled : AreEnabled relay [] (leaves 0 ∷ [])
first-enabled = record {
  rising = λ i j d less lt. absurd (omega (arith, less, lt));
  allowed = one-event (IsAllowed relay []) (leaves 0) first-may;
  every = λ e may. there e.line e.kind may;
}
  where
    there : (line : ℕ) (kind : EventKind) → MayHappen relay [] line kind → Contains (leaves 0 ∷ []) (record { line = line; kind = kind })
    there zero Departs may = (0, lit< tt, refl)
    there (suc zero) Departs may = absurd (second-waits may)
    there (suc (suc line)) Departs may = absurd (omega (arith, may.exists))
    there line Arrives may = absurd (false≢true may.left)

-- so it is what each draw chooses
pub first-chosen : IsChosen relay 7 (leaves 0 ∷ [])
first-chosen zero lt = (leaves 0 ∷ [], first-enabled, lit< tt, refl)
first-chosen (suc i) lt = absurd (omega (arith, lt))

-- no draw lets the second line depart first
pub second-not_chosen : (seed : ℕ) → IsChosen relay seed (leaves 1 ∷ []) → ⊥
second-not_chosen seed chosen = second-waits (IsLegal-chosen relay seed (leaves 1 ∷ []) chosen 0 (lit< tt))

-- nor anything happen once all lines have arrived
pub none-after_end : (seed : ℕ) → IsChosen relay seed (leaves 0 ∷ enters 0 ∷ leaves 1 ∷ enters 1 ∷ leaves 0 ∷ []) → ⊥
none-after_end seed chosen =
    let can : CanDepart relay (leaves 0 ∷ enters 0 ∷ leaves 1 ∷ enters 1 ∷ []) 0 = IsLegal-chosen relay seed (leaves 0 ∷ enters 0 ∷ leaves 1 ∷ enters 1 ∷ leaves 0 ∷ []) chosen 4 (lit< tt) in
    false≢true (sym can.still)

-- the freight of the second line is the shipment with its second leg
pub second-freight : IsFreightOf relay 1 (record { shipment = 0; leg = 1 } ∷ [])
second-freight = record {
  rising = λ i j d less lt. absurd (omega (arith, less, lt));
  own = own;
  every = λ m by. there m.shipment m.leg by.shipment by.leg by.goes;
}
  where
    own : All (GoesBy relay 1) (record { shipment = 0; leg = 1 } ∷ [])
    own zero d lt = record { shipment = lit< tt; leg = lit< tt; goes = refl }
    own (suc i) d lt = absurd (omega (arith, lt))

    there : (k i : ℕ) → k < length relay.journeys → i < length (journey_at relay k) → get_or (journey_at relay k) i 0 ≡ 1 →
        Contains {X = Member} (record { shipment = 0; leg = 1 } ∷ []) (record { shipment = k; leg = i })
    there zero zero lt within is = absurd (omega (arith, is))
    there zero (suc zero) lt within is = (0, lit< tt, refl)
    there zero (suc (suc i)) lt within is = absurd (omega (arith, within))
    there (suc k) i lt within is = absurd (omega (arith, lt))
