-- A line may depart exactly where it is waiting and its freight is at its tail.
use Rattle.std.proofs.Common.{◌≡◌, ◌∙◌, ℕ, zero, suc, ◌<◌, ◌≤◌, Bool, true, false, cond, List, [], length, get_or, ⊎_elim, refl, sym, ap, subst, arith}
use Rattle.std.specs.Prelude.{◌↔◌}
use Rattle.std.proofs.lemmas.Bool.{cases_Bool, cases_lt}
use Rattle.std.proofs.Math.ListN.{get_or-eq_default}
use Rattle.std.proofs.Math.Nat.{eq-or-lt_of_le}
use Rattle.std.proofs.lemmas.List.{get_or_default}
use Rattle.fp_yard.specs.declared.events.Event.{Event}
use Rattle.fp_yard.specs.declared.events.LineStage.{LineStage}
use Rattle.fp_yard.specs.declared.events.LineStage.TheVariants.{Waiting, Rolling, Done}
use Rattle.fp_yard.specs.declared.events.YardPlace.TheVariants.{At, Aboard}
use Rattle.fp_yard.specs.Events.{CanDepart, IsLegal, arrived, departed, stage_of}
use Rattle.fp_yard.specs.Faults.{IsAtTail}
use Rattle.fp_yard.specs.Places.{place_along, place_of}
use Rattle.fp_yard.specs.Schedules.{IsFreight, IsJourney, IsSound, Schedule, end_of, journey_at, start_of, tail_at}
use Rattle.fp_yard.proofs.Histories.{all-before, arrived-departed, not-arrived}
use Rattle.fp_yard.proofs.Places.{IsNext, all-done-or-next, next-until, place-aboard, place-at_tail, place-end}

-- the stage of a line, by what has happened
pub stage-waiting : (h : List Event) (line : ℕ) → arrived h line ≡ false → departed h line ≡ false → stage_of h line ≡ Waiting
stage-waiting h line still here =
    ap (λ (b : Bool). cond b Done (cond (departed h line) Rolling Waiting)) still ∙ ap (λ (b : Bool). cond b Rolling Waiting) here

pub stage-rolling : (h : List Event) (line : ℕ) → arrived h line ≡ false → departed h line ≡ true → stage_of h line ≡ Rolling
stage-rolling h line still left =
    ap (λ (b : Bool). cond b Done (cond (departed h line) Rolling Waiting)) still ∙ ap (λ (b : Bool). cond b Rolling Waiting) left

pub stage-done : (h : List Event) (line : ℕ) → arrived h line ≡ true → stage_of h line ≡ Done
stage-done h line done = ap (λ (b : Bool). cond b Done (cond (departed h line) Rolling Waiting)) done

-- what a stage says of a line: whether it has arrived, and whether it has departed
abbrev pub Means : Bool → Bool → LineStage → Type 0
Means a d Waiting = (a ≡ false) × (d ≡ false)
Means a d Rolling = (a ≡ false) × (d ≡ true)
Means a d Done = a ≡ true

staged : (a d : Bool) (stage : LineStage) → cond a Done (cond d Rolling Waiting) ≡ stage → Means a d stage
staged true d Waiting is = cc
staged true d Rolling is = cc
staged true d Done is = refl
staged false true Waiting is = cc
staged false true Rolling is = (refl, refl)
staged false true Done is = cc
staged false false Waiting is = (refl, refl)
staged false false Rolling is = cc
staged false false Done is = cc

pub stage-means : (h : List Event) (line : ℕ) (stage : LineStage) → stage_of h line ≡ stage → Means (arrived h line) (departed h line) stage
stage-means h line stage is = staged (arrived h line) (departed h line) stage is

-- a shipment of a line's freight stands on it by one of its legs
pub record HasLeg (s : Schedule) (line k : ℕ) : Type 0 where
  pub leg : ℕ
  pub within : leg < length (journey_at s k)
  pub is : get_or (journey_at s k) leg 0 ≡ line

pub HasLeg-freight : (s : Schedule) (line k : ℕ) → IsFreight s line k → HasLeg s line k
HasLeg-freight s line k freight = record {
  leg = freight.0;
  within = freight.1;
  is = get_or_default (journey_at s k) freight.0 0 line freight.1 ∙ freight.2;
}

pub freight-leg : (s : Schedule) (line k i : ℕ) → i < length (journey_at s k) → get_or (journey_at s k) i 0 ≡ line → IsFreight s line k
freight-leg s line k i lt is = (i, lt, get_or_default (journey_at s k) i line 0 lt ∙ is)

-- a shipment that has lines exists
pub journey-exists : (s : Schedule) (k i : ℕ) → i < length (journey_at s k) → k < length s.journeys
journey-exists s k i lt =
    ⊎_elim (λ (less : k < length s.journeys). less)
    (λ (more : length s.journeys ≤ k).
    absurd (omega (arith, lt, ap (λ (j : List ℕ). length j) (get_or-eq_default s.journeys [] more))))
    (cases_lt k (length s.journeys))

-- the journey of a shipment that has lines
journey-with : (s : Schedule) (k i : ℕ) → IsSound s → i < length (journey_at s k) → IsJourney s (journey_at s k)
journey-with s k i sound lt = sound.journeys k (journey-exists s k i lt)

-- the legs before a leg of the line have arrived
abbrev IsReadyAt : Schedule → List Event → ℕ → ℕ → Type 0
IsReadyAt s h k i = (j : ℕ) → j < i → arrived h (get_or (journey_at s k) j 0) ≡ true

-- a waiting line that may depart has its freight at its tail
pub at-tail : (s : Schedule) (h : List Event) (k i : ℕ) → IsSound s → IsLegal s h → i < length (journey_at s k) → departed h (get_or (journey_at s k) i 0) ≡ false →
    IsReadyAt s h k i → IsAtTail s h (get_or (journey_at s k) i 0) k
at-tail s h k i sound legal lt still ready =
    place-at_tail s h k i legal (journey-with s k i sound lt)
    (record { within = lt; before = ready; here = not-arrived s h (get_or (journey_at s k) i 0) legal still }) still

-- where the leg just before has arrived, all before it have
pub ready-from_last : (s : Schedule) (h : List Event) (k i : ℕ) → IsLegal s h → suc i < length (journey_at s k) →
    arrived h (get_or (journey_at s k) i 0) ≡ true → IsReadyAt s h k (suc i)
ready-from_last s h k i legal lt last j less =
    ⊎_elim
    (λ (same : j ≡ i). subst (λ (n : ℕ). arrived h (get_or (journey_at s k) n 0) ≡ true) (sym same) last)
    (λ (before : j < i). all-before s h k i legal (omega (arith, lt)) (arrived-departed s h (get_or (journey_at s k) i 0) legal last) j before)
    (eq-or-lt_of_le (omega (arith, less)))

-- two places differ by their kind, or by their terminals
terminal-same : (a b : ℕ) → At a ≡ At b → a ≡ b
terminal-same a b is = cc

not-aboard : (a b : ℕ) → Aboard a ≡ At b → ⊥
not-aboard a b is = cc

-- freight at the tail of a waiting line has come by the legs before
pub ready-from_tail : (s : Schedule) (h : List Event) (k i : ℕ) → IsSound s → IsLegal s h → i < length (journey_at s k) →
    departed h (get_or (journey_at s k) i 0) ≡ false → IsAtTail s h (get_or (journey_at s k) i 0) k → IsReadyAt s h k i
ready-from_tail s h k i sound legal lt still tail =
    let journey : List ℕ = journey_at s k in
    let is : IsJourney s journey = journey-with s k i sound lt in
    let found = next-until h journey i lt (not-arrived s h (get_or journey i 0) legal still) in
    let j : ℕ = found.0 in
    let next : IsNext h journey j = found.2 in
    ⊎_elim
    (λ (left : departed h (get_or journey j 0) ≡ true).
    absurd (not-aboard (get_or journey j 0) (tail_at s (get_or journey i 0)) (sym (place-aboard s h k j next left) ∙ tail)))
    (λ (waits : departed h (get_or journey j 0) ≡ false).
    let same : tail_at s (get_or journey j 0) ≡ tail_at s (get_or journey i 0) =
    terminal-same _ _ (sym (place-at_tail s h k j legal is next waits) ∙ tail) in
    ⊎_elim
    (λ (here : j ≡ i). subst (IsReadyAt s h k) here next.before)
    (λ (before : j < i). absurd (is.apart j i before lt same))
    (eq-or-lt_of_le found.1))
    (cases_Bool (departed h (get_or journey j 0)))

-- the legs before a leg of a line that may depart have arrived
ready-can : (s : Schedule) (h : List Event) (line k i : ℕ) → IsLegal s h → CanDepart s h line → i < length (journey_at s k) → get_or (journey_at s k) i 0 ≡ line →
    IsReadyAt s h k i
ready-can s h line k zero legal can lt is = λ j less. absurd (omega (arith, less))
ready-can s h line k (suc i) legal can lt is = ready-from_last s h k i legal lt (can.ready k i lt is)

-- a line is waiting, and its freight is at its tail
pub record IsReadied (s : Schedule) (h : List Event) (line : ℕ) : Type 0 where
  pub exists : line < length s.tails
  pub stage : stage_of h line ≡ Waiting
  pub there : (k : ℕ) → IsFreight s line k → IsAtTail s h line k

pub IsReadied-can : (s : Schedule) (h : List Event) (line : ℕ) → IsSound s → IsLegal s h → CanDepart s h line → IsReadied s h line
IsReadied-can s h line sound legal can = record {
  exists = can.exists;
  stage = stage-waiting h line (not-arrived s h line legal can.still) can.still;
  there = λ k freight.
      let leg = HasLeg-freight s line k freight in
      subst (λ (l : ℕ). IsAtTail s h l k) leg.is
      (at-tail s h k leg.leg sound legal leg.within (ap (departed h) leg.is ∙ can.still) (ready-can s h line k leg.leg legal can leg.within leg.is));
}

pub can-readied : (s : Schedule) (h : List Event) (line : ℕ) → IsSound s → IsLegal s h → IsReadied s h line → CanDepart s h line
can-readied s h line sound legal readied =
    let means = stage-means h line Waiting readied.stage in
    record {
      exists = readied.exists;
      still = means.1;
      ready = λ k i lt is.
          ready-from_tail s h k (suc i) sound legal lt (ap (departed h) is ∙ means.1)
          (subst (λ (l : ℕ). IsAtTail s h l k) (sym is) (readied.there k (freight-leg s line k (suc i) lt is))) i (omega arith);
    }

-- who is aboard a line is of its freight
line-same : (a b : ℕ) → Aboard a ≡ Aboard b → a ≡ b
line-same a b is = cc

pub aboard-freight : (s : Schedule) (h : List Event) (line k : ℕ) → IsSound s → IsLegal s h → place_of s h k ≡ Aboard line → IsFreight s line k
aboard-freight s h line k sound legal aboard =
    ⊎_elim
    (λ (exists : k < length s.journeys).
    let is : IsJourney s (journey_at s k) = sound.journeys k exists in
    ⊎_elim
    (λ done. absurd (not-aboard line (end_of s (journey_at s k)) (sym aboard ∙ place-end s h k is done)))
    (λ found.
    ⊎_elim
    (λ (left : departed h (get_or (journey_at s k) found.0 0) ≡ true).
    freight-leg s line k found.0 found.1 (line-same _ _ (sym (place-aboard s h k found.0 found.2 left) ∙ aboard)))
    (λ (waits : departed h (get_or (journey_at s k) found.0 0) ≡ false).
    absurd (not-aboard line (tail_at s (get_or (journey_at s k) found.0 0)) (sym aboard ∙ place-at_tail s h k found.0 legal is found.2 waits)))
    (cases_Bool (departed h (get_or (journey_at s k) found.0 0))))
    (all-done-or-next h (journey_at s k)))
    (λ (none : length s.journeys ≤ k).
    let empty : journey_at s k ≡ [] = get_or-eq_default s.journeys [] none in
    absurd (not-aboard line (start_of s []) (sym aboard ∙ ap (λ (j : List ℕ). place_along s h (start_of s j) j) empty)))
    (cases_lt k (length s.journeys))

-- the freight aboard a rolling line is its own
pub aboard-own : (s : Schedule) (h : List Event) (line k : ℕ) → IsSound s → IsLegal s h → stage_of h line ≡ Rolling →
    (place_of s h k ≡ Aboard line) ↔ IsFreight s line k
aboard-own s h line k sound legal rolling = (to, from)
  where
    from : IsFreight s line k → place_of s h k ≡ Aboard line
    from freight =
        let means = stage-means h line Rolling rolling in
        let leg = HasLeg-freight s line k freight in
        let left : departed h (get_or (journey_at s k) leg.leg 0) ≡ true = ap (departed h) leg.is ∙ means.1 in
        place-aboard s h k leg.leg
        (record { within = leg.within; before = all-before s h k leg.leg legal leg.within left; here = ap (arrived h) leg.is ∙ means.0 }) left
        ∙ ap Aboard leg.is

    to : place_of s h k ≡ Aboard line → IsFreight s line k
    to aboard = aboard-freight s h line k sound legal aboard

-- who is at the tail, and the stage, decide whether a line may depart
pub departs-alike : (s : Schedule) (g h : List Event) (line : ℕ) → IsSound s → IsLegal s g → IsLegal s h → stage_of g line ≡ stage_of h line →
    ((k : ℕ) → IsAtTail s g line k → IsAtTail s h line k) → CanDepart s g line → CanDepart s h line
departs-alike s g h line sound first second stage tail can =
    let readied = IsReadied-can s g line sound first can in
    can-readied s h line sound second (record { exists = readied.exists; stage = sym stage ∙ readied.stage; there = λ k freight. tail k (readied.there k freight) })
