-- Who is missing for a departure, told by the legs that go by the line.
use Rattle.std.proofs.Common.{◌≡◌, ◌∙◌, ℕ, zero, suc, ◌<◌, ◌≤◌, Bool, true, false, List, length, get_or, ⊎_elim, refl, sym, ap, subst, arith}
use Rattle.std.specs.Prelude.{All}
use Rattle.std.proofs.Math.Nat.{eq-or-lt_of_le}
use Rattle.std.proofs.lemmas.Bool.{cases_lt}
use Rattle.std.proofs.lemmas.List.{get_or_default}
use Rattle.fp_model.specs.declared.parts.Member.{Member}
use Rattle.fp_yard.specs.declared.events.Event.{Event}
use Rattle.fp_yard.specs.declared.events.EventKind.{EventKind}
use Rattle.fp_yard.specs.declared.events.EventKind.TheVariants.{Departs, Arrives}
use Rattle.fp_yard.specs.declared.events.LineStage.{LineStage}
use Rattle.fp_yard.specs.declared.events.LineStage.TheVariants.{Waiting, Rolling, Done}
use Rattle.fp_yard.specs.declared.events.YardFault.{YardFault}
use Rattle.fp_yard.specs.declared.events.YardFault.TheVariants.{NoLine, Left, Missing, NotRolling}
use Rattle.fp_yard.specs.Events.{CanArrive, CanDepart, IsAllowed, IsLegal, MayHappen, arrived, departed, stage_of}
use Rattle.fp_yard.specs.Faults.{IsAtTail, IsFault, IsMissing}
use Rattle.fp_yard.specs.Schedules.{GoesBy, IsFreightOf, IsSound, Schedule, journey_at}
use Rattle.fp_yard.specs.Yards.{HasCome, ends}
use Rattle.fp_yard.proofs.Departures.{HasLeg-freight, IsReadied-can, at-tail, freight-leg, journey-exists, ready-from_last, ready-from_tail, stage-means, stage-rolling}

-- a shipment of the freight goes by a line with one of the legs
pub leg-by : (s : Schedule) (line k i : ℕ) → i < length (journey_at s k) → get_or (journey_at s k) i 0 ≡ line → GoesBy s line (record { shipment = k; leg = i })
leg-by s line k i lt is = record { shipment = journey-exists s k i lt; leg = lt; goes = is }

-- a line for which no leg is late may depart
pub can-all_come : (s : Schedule) (h : List Event) (line : ℕ) (members : List Member) → line < length s.tails → stage_of h line ≡ Waiting →
    IsFreightOf s line members → All (HasCome s h) members → CanDepart s h line
can-all_come s h line members exists waiting are come = record {
  exists = exists;
  still = (stage-means h line Waiting waiting).1;
  ready = λ k i lt is.
      let m : Member = record { shipment = k; leg = suc i } in
      let at = are.every m (leg-by s line k (suc i) lt is) in
      subst (HasCome s h) at.2 (come at.0 m at.1) i refl;
}

-- a leg that has come, with all legs before it
comes : (s : Schedule) (h : List Event) (m : Member) → IsLegal s h → m.leg < length (journey_at s m.shipment) → HasCome s h m →
    (j : ℕ) → j < m.leg → arrived h (get_or (journey_at s m.shipment) j 0) ≡ true
comes s h m legal lt come = by-leg m.leg lt come
  where
    by-leg : (leg : ℕ) → leg < length (journey_at s m.shipment) → ((i : ℕ) → suc i ≡ leg → arrived h (get_or (journey_at s m.shipment) i 0) ≡ true) →
        (j : ℕ) → j < leg → arrived h (get_or (journey_at s m.shipment) j 0) ≡ true
    by-leg zero lt come = λ j less. absurd (omega (arith, less))
    by-leg (suc i) lt come = ready-from_last s h m.shipment i legal lt (come i refl)

-- a leg by a waiting line has come exactly where its shipment is at the line's tail
pub tail-come : (s : Schedule) (h : List Event) (line : ℕ) (m : Member) → IsSound s → IsLegal s h → stage_of h line ≡ Waiting → GoesBy s line m → HasCome s h m →
    IsAtTail s h line m.shipment
tail-come s h line m sound legal waiting by come =
    let still : departed h (get_or (journey_at s m.shipment) m.leg 0) ≡ false = ap (departed h) by.goes ∙ (stage-means h line Waiting waiting).1 in
    subst (λ (l : ℕ). IsAtTail s h l m.shipment) by.goes (at-tail s h m.shipment m.leg sound legal by.leg still (comes s h m legal by.leg come))

pub come-tail : (s : Schedule) (h : List Event) (line : ℕ) (m : Member) → IsSound s → IsLegal s h → stage_of h line ≡ Waiting → GoesBy s line m →
    IsAtTail s h line m.shipment → HasCome s h m
come-tail s h line m sound legal waiting by tail i is =
    let still : departed h (get_or (journey_at s m.shipment) m.leg 0) ≡ false = ap (departed h) by.goes ∙ (stage-means h line Waiting waiting).1 in
    ready-from_tail s h m.shipment m.leg sound legal by.leg still (subst (λ (l : ℕ). IsAtTail s h l m.shipment) (sym by.goes) tail) i (omega (arith, is))

-- the first leg that is late is of the first shipment that is missing
pub missing-first : (s : Schedule) (h : List Event) (line : ℕ) (members : List Member) (n : ℕ) (d : Member) → IsSound s → IsLegal s h → line < length s.tails →
    stage_of h line ≡ Waiting → IsFreightOf s line members → n < length members → ((j : ℕ) → j < n → HasCome s h (get_or members j d)) →
    (HasCome s h (get_or members n d) → ⊥) → IsMissing s h (record { line = line; kind = Departs }) (get_or members n d).shipment
missing-first s h line members n d sound legal exists waiting are lt come late =
    let m : Member = get_or members n d in
    let by : GoesBy s line m = are.own n d lt in
    record {
      line = exists;
      kind = refl;
      stage = waiting;
      freight = freight-leg s line m.shipment m.leg by.leg by.goes;
      away = λ tail. late (come-tail s h line m sound legal waiting by tail);
      first = λ k less freight.
          let leg = HasLeg-freight s line k freight in
          let other : Member = record { shipment = k; leg = leg.leg } in
          let goes : GoesBy s line other = leg-by s line k leg.leg leg.within leg.is in
          let at = are.every other goes in
          let is : get_or members at.0 d ≡ other = get_or_default members at.0 d other at.1 ∙ at.2 in
          let early : at.0 < n =
          ⊎_elim (λ (before : at.0 < n). before)
          (λ (after : n ≤ at.0).
          ⊎_elim
          (λ (same : n ≡ at.0). absurd (omega (arith, less, ap (λ (x : Member). x.shipment) (ap (λ (i : ℕ). get_or members i d) same ∙ is))))
          (λ (later : n < at.0). absurd (omega (arith, less, are.rising n at.0 d later at.1, ap (λ (x : Member). x.shipment) is)))
          (eq-or-lt_of_le after))
          (cases_lt at.0 n) in
          tail-come s h line other sound legal waiting goes (subst (HasCome s h) is (come at.0 early));
    }

-- the stage tells whether a line has arrived
pub arrived-stage : (h : List Event) (line : ℕ) (stage : LineStage) → stage_of h line ≡ stage → arrived h line ≡ ends stage
arrived-stage h line Waiting is = (stage-means h line Waiting is).0
arrived-stage h line Rolling is = (stage-means h line Rolling is).0
arrived-stage h line Done is = stage-means h line Done is

-- a later leg has come where the line before has arrived
pub come-before : (s : Schedule) (h : List Event) (m : Member) (b : Bool) (journey : List ℕ) (n : ℕ) → journey ≡ journey_at s m.shipment → suc n ≡ m.leg →
    b ≡ arrived h (get_or journey n 0) → (b ≡ true → HasCome s h m) × (HasCome s h m → b ≡ true)
come-before s h m b journey n is leg tells = (to, from)
  where
    here : b ≡ arrived h (get_or (journey_at s m.shipment) n 0)
    here = tells ∙ ap (λ (j : List ℕ). arrived h (get_or j n 0)) is

    to : b ≡ true → HasCome s h m
    to told i next = ap (λ (k : ℕ). arrived h (get_or (journey_at s m.shipment) k 0)) (omega (arith, next, leg)) ∙ sym here ∙ told

    from : HasCome s h m → b ≡ true
    from come = here ∙ come n leg

-- an event of a line is of one that exists
pub may-exists : (s : Schedule) (h : List Event) (line : ℕ) (kind : EventKind) → MayHappen s h line kind → line < length s.tails
may-exists s h line Departs may = may.exists
may-exists s h line Arrives may = may.exists

-- an event with a fault isn't allowed
pub fault-refuses : (s : Schedule) (h : List Event) (e : Event) (fault : YardFault) → IsSound s → IsLegal s h → IsFault s h e fault → IsAllowed s h e → ⊥
fault-refuses s h e NoLine sound legal faulty allowed = omega (arith, faulty, may-exists s h e.line e.kind allowed)
fault-refuses s h e Left sound legal faulty allowed =
    faulty.2 (IsReadied-can s h e.line sound legal (subst (λ (kind : EventKind). MayHappen s h e.line kind) faulty.1 allowed)).stage
fault-refuses s h e (Missing k) sound legal faulty allowed =
    faulty.away ((IsReadied-can s h e.line sound legal (subst (λ (kind : EventKind). MayHappen s h e.line kind) faulty.kind allowed)).there k faulty.freight)
fault-refuses s h e NotRolling sound legal faulty allowed =
    let can : CanArrive s h e.line = subst (λ (kind : EventKind). MayHappen s h e.line kind) faulty.1 allowed in
    faulty.2 (stage-rolling h e.line can.still can.left)
