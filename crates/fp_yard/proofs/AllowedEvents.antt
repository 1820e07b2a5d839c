-- The allowed events of a yard, line by line.
use Rattle.std.proofs.Common.{◌≡◌, ◌∙◌, ℕ, zero, suc, ◌+◌, ◌-◌, ◌/◌, ◌<◌, ◌≤◌, List, [], ◌∷◌, ◌++◌, length, take, get_or, ⊎_elim, inl, inr, refl, sym, ap, ap₂, subst, arith, add-one}
use Rattle.std.specs.Prelude.{◌⊎◌, All, Contains}
use Rattle.std.proofs.Math.Nat.{eq-or-lt_of_le, mod-lt}
use Rattle.std.proofs.Math.ListN.{get_or-append}
use Rattle.std.proofs.Math.Seq.{take-append_seam}
use Rattle.std.proofs.lemmas.List.{get_or_push, length_push, take-append-le}
use Rattle.std.proofs.lemmas.List.Elements.{All-push, Contains-append_left, Contains-push}
use Rattle.fp_base_lists.proofs.Pairs.{AllPairs-append}
use Rattle.fp_reader.specs.Draws.{drawn, next_number}
use Rattle.fp_yard.specs.declared.events.Event.{Event}
use Rattle.fp_yard.specs.declared.events.EventKind.{EventKind}
use Rattle.fp_yard.specs.declared.events.EventKind.TheVariants.{Departs, Arrives}
use Rattle.fp_yard.specs.declared.events.YardFault.{YardFault}
use Rattle.fp_yard.specs.Choices.{IsChosen, number_after}
use Rattle.fp_yard.specs.Enabled.{AreEnabledBelow, NoneAllowed, next_kind}
use Rattle.fp_yard.specs.Events.{AreEnabled, IsAllowed, IsLegal, MayHappen, event_at, no_event, stage_of}
use Rattle.fp_yard.specs.Faults.{IsFault}
use Rattle.fp_yard.specs.Schedules.{IsSound, Schedule}
use Rattle.fp_yard.proofs.Departures.{stage-rolling, stage-waiting}
use Rattle.fp_yard.proofs.Histories.{not-arrived}
use Rattle.fp_yard.proofs.Missing.{fault-refuses, may-exists}

-- an allowed event is of the kind that its line waits for
pub kind-next : (s : Schedule) (h : List Event) (line : ℕ) (kind : EventKind) → IsLegal s h → MayHappen s h line kind → kind ≡ next_kind (stage_of h line)
kind-next s h line Departs legal may = sym (ap next_kind (stage-waiting h line (not-arrived s h line legal may.still) may.still))
kind-next s h line Arrives legal may = sym (ap next_kind (stage-rolling h line may.still may.left))

-- where the event that a line waits for has a fault, no event of the line is allowed
pub none-allowed : (s : Schedule) (h : List Event) (line : ℕ) (kind : EventKind) (fault : YardFault) → IsSound s → IsLegal s h → kind ≡ next_kind (stage_of h line) →
    IsFault s h (record { line = line; kind = kind }) fault → NoneAllowed s h line
none-allowed s h line kind fault sound legal is faulty e own allowed =
    let same : e ≡ record { line = line; kind = kind } =
    ap₂ (λ (l : ℕ) (k : EventKind). record { line = l; kind = k }) own (kind-next s h e.line e.kind legal allowed ∙ ap (λ (l : ℕ). next_kind (stage_of h l)) own ∙ sym is) in
    fault-refuses s h (record { line = line; kind = kind }) fault sound legal faulty (subst (IsAllowed s h) same allowed)

-- no line
pub enabled-none : (s : Schedule) (h : List Event) → AreEnabledBelow s h 0 []
enabled-none s h = record {
  rising = λ i j d less lt. absurd (omega (arith, lt));
  below = λ i d lt. absurd (omega (arith, lt));
  allowed = λ i d lt. absurd (omega (arith, lt));
  every = λ e lt allowed. absurd (omega (arith, lt));
}

pub enabled-skip : (s : Schedule) (h : List Event) (n : ℕ) (events : List Event) → NoneAllowed s h n → AreEnabledBelow s h n events → AreEnabledBelow s h (n + 1) events
enabled-skip s h n events none are = record {
  rising = are.rising;
  below = λ i d lt. omega (arith, are.below i d lt);
  allowed = are.allowed;
  every = λ e lt allowed. ⊎_elim (λ (own : e.line ≡ n). absurd (none e own allowed)) (λ (less : e.line < n). are.every e less allowed) (eq-or-lt_of_le (omega (arith, lt)));
}

pub enabled-push : (s : Schedule) (h : List Event) (n : ℕ) (events : List Event) (e : Event) → IsLegal s h → (e.line ≡ n) × IsAllowed s h e → AreEnabledBelow s h n events →
    AreEnabledBelow s h (n + 1) (events ++ e ∷ [])
enabled-push s h n events e legal is are = record {
  rising = AllPairs-append (λ (f g : Event). f.line < g.line) events (e ∷ []) are.rising (λ i j d less lt. absurd (omega (arith, less, lt)))
      (λ i d lt. All-one (λ (g : Event). (get_or events i d).line < g.line) e (omega (arith, are.below i d lt, is.0)));
  below = All-push (λ (f : Event). f.line < n + 1) events e (λ i d lt. omega (arith, are.below i d lt)) (omega (arith, is.0));
  allowed = All-push (IsAllowed s h) events e are.allowed is.1;
  every = λ f lt allowed.
      ⊎_elim
      (λ (own : f.line ≡ n).
      let kinds : f.kind ≡ e.kind = kind-next s h f.line f.kind legal allowed ∙ ap (λ (l : ℕ). next_kind (stage_of h l)) (own ∙ sym is.0) ∙ sym (kind-next s h e.line e.kind legal is.1) in
      let same : e ≡ f = ap₂ (λ (l : ℕ) (k : EventKind). record { line = l; kind = k }) (is.0 ∙ sym own) (sym kinds) in
      subst (λ (g : Event). Contains (events ++ e ∷ []) g) same (Contains-push events e))
      (λ (less : f.line < n). Contains-append_left events (e ∷ []) f (are.every f less allowed))
      (eq-or-lt_of_le (omega (arith, lt)));
}
  where
    All-one : (P : Event → Type 0) (x : Event) → P x → All P (x ∷ [])
    All-one P x h zero d lt = h
    All-one P x h (suc i) d lt = absurd (omega (arith, lt))

-- the events of all lines
pub enabled-all : (s : Schedule) (h : List Event) (n : ℕ) (events : List Event) → length s.tails ≤ n → AreEnabledBelow s h n events → AreEnabled s h events
enabled-all s h n events all are = record {
  rising = are.rising;
  allowed = are.allowed;
  every = λ e allowed. are.every e (omega (arith, may-exists s h e.line e.kind allowed, all)) allowed;
}

-- one more event that was chosen
pub IsChosen-more : (s : Schedule) (seed : ℕ) (h events : List Event) (e : Event) → IsChosen s seed h → AreEnabled s h events → 0 < length events →
    e ≡ event_at events (drawn (number_after seed (length h)) (length events)) → IsChosen s seed (h ++ e ∷ [])
IsChosen-more s seed h events e chosen are some is i lt =
    ⊎_elim
    (λ (last : i ≡ length h).
    let before : take i (h ++ e ∷ []) ≡ h = ap (λ (n : ℕ). take n (h ++ e ∷ [])) last ∙ take-append_seam h (e ∷ []) in (
      events,
      subst (λ (x : List Event). AreEnabled s x events) (sym before) are,
      some,
      get_or_push h e no_event i (sym last) ∙ is ∙ ap (λ (n : ℕ). event_at events (drawn (number_after seed n) (length events))) (sym last),
    ))
    (λ (less : i < length h).
    let old = chosen i less in
    let before : take i (h ++ e ∷ []) ≡ take i h = take-append-le i h (e ∷ []) (omega (arith, less)) in (
      old.0,
      subst (λ (x : List Event). AreEnabled s x old.0) (sym before) old.1,
      old.2,
      get_or-append h (e ∷ []) no_event i less ∙ old.3,
    ))
    (eq-or-lt_of_le (omega (arith, lt, length_push h e)))

-- events that were chosen are legal
pub IsLegal-chosen : (s : Schedule) (seed : ℕ) (h : List Event) → IsChosen s seed h → IsLegal s h
IsLegal-chosen s seed h chosen i lt =
    let at = chosen i lt in
    let below : drawn (number_after seed i) (length at.0) < length at.0 = mod-lt (next_number (number_after seed i) / 65536) at.2 in
    subst (IsAllowed s (take i h)) (sym at.3) (at.1.allowed (drawn (number_after seed i) (length at.0)) no_event below)

pub number-more : (seed n : ℕ) → number_after seed (n + 1) ≡ next_number (number_after seed n)
number-more seed n = ap (number_after seed) (add-one n)

-- no event is allowed where none is listed
pub none-listed : (s : Schedule) (h : List Event) → AreEnabled s h [] → (e : Event) → IsAllowed s h e → ⊥
none-listed s h are e allowed = let at = are.every e allowed in omega (arith, at.1)

-- so many events are no more than the lines
line-from_place : (s : Schedule) (h : List Event) (n : ℕ) (events : List Event) (i : ℕ) → AreEnabledBelow s h n events → i < length events → i ≤ (get_or events i no_event).line
line-from_place s h n events zero are lt = omega arith
line-from_place s h n events (suc i) are lt = omega (arith, line-from_place s h n events i are (omega (arith, lt)), are.rising i (suc i) no_event (omega arith) lt)

pub enabled-few : (s : Schedule) (h : List Event) (n : ℕ) (events : List Event) → AreEnabledBelow s h n events → length events ≤ n
enabled-few s h n events are =
    ⊎_elim
    (λ (none : length events ≡ 0). omega (arith, none))
    (λ (some : 0 < length events).
    let last : ℕ = length events - 1 in
    let lt : last < length events = omega (arith, some) in
    omega (arith, some, line-from_place s h n events last are lt, are.below last no_event lt))
    (zero-or-some (length events))
  where
    zero-or-some : (n : ℕ) → (n ≡ 0) ⊎ (0 < n)
    zero-or-some zero = inl refl
    zero-or-some (suc n) = inr (omega arith)

-- the allowed events are no more than the lines
pub all-few : (s : Schedule) (h events : List Event) → AreEnabled s h events → length events ≤ length s.tails
all-few s h events are =
    enabled-few s h (length s.tails) events
    (record {
      rising = are.rising;
      below = λ i d lt. may-exists s h (get_or events i d).line (get_or events i d).kind (are.allowed i d lt);
      allowed = are.allowed;
      every = λ e lt allowed. are.every e allowed;
    })
