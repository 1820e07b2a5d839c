-- A run that has come to its end has each event of each line once.
use Rattle.std.proofs.Common.{◌≡◌, ◌∙◌, ℕ, zero, suc, ◌<◌, ◌≤◌, Bool, true, false, cond, List, [], ◌∷◌, ◌++◌, length, take, ⊎_elim, refl, sym, ap, subst, arith, eqb-true, eq-eqb}
use Rattle.std.specs.Prelude.{nat_eq, All}
use Rattle.std.proofs.Math.Seq.{take-length, take-suc}
use Rattle.std.proofs.lemmas.Bool.{cases_Bool, false≢true}
use Rattle.std.proofs.lemmas.List.{append-nil, get_or_default}
use Rattle.std.proofs.lemmas.List.Elements.{filter-append}
use Rattle.fp_yard.specs.declared.events.Event.{Event}
use Rattle.fp_yard.specs.declared.events.EventKind.{EventKind}
use Rattle.fp_yard.specs.declared.events.EventKind.TheVariants.{Departs, Arrives}
use Rattle.fp_yard.specs.declared.events.LineStage.{LineStage}
use Rattle.fp_yard.specs.declared.events.LineStage.TheVariants.{Waiting, Rolling, Done}
use Rattle.fp_yard.specs.Events.{IsAllowed, IsLegal, MayHappen, arrived, event_at, events_of, no_event, stage_of}
use Rattle.fp_yard.specs.Schedules.{IsSound, Schedule}
use Rattle.fp_yard.proofs.Departures.{stage-done, stage-means, stage-rolling, stage-waiting}
use Rattle.fp_yard.proofs.Histories.{IsLegal-more, IsLegal-none, not-arrived}
use Rattle.fp_yard.proofs.Missing.{may-exists}
use Rattle.fp_yard.proofs.Progress.{some-allowed}
use Rattle.fp_yard.proofs.Runs.{stage-arrived, stage-departed, stage-other}

-- where nothing is allowed, each line is done
pub all-done : (s : Schedule) (h : List Event) (line : ℕ) → IsSound s → ((e : Event) → IsAllowed s h e → ⊥) → line < length s.tails → stage_of h line ≡ Done
all-done s h line sound ended lt =
    ⊎_elim (λ (come : arrived h line ≡ true). stage-done h line come)
    (λ (still : arrived h line ≡ false).
    let next = some-allowed s h line sound lt (λ is. false≢true (sym still ∙ stage-means h line Done is)) in
    absurd (ended next.0 next.1))
    (cases_Bool (arrived h line))

-- the events that have brought a line to a stage
abbrev events_by : ℕ → LineStage → List Event
events_by line Waiting = []
events_by line Rolling = record { line = line; kind = Departs } ∷ []
events_by line Done = record { line = line; kind = Departs } ∷ record { line = line; kind = Arrives } ∷ []

-- one more event, by whether it is of the line
events-more : (h : List Event) (e : Event) (line : ℕ) (b : Bool) → nat_eq e.line line ≡ b → events_of line (h ++ e ∷ []) ≡ events_of line h ++ cond b (e ∷ []) []
events-more h e line b is =
    filter-append (λ (f : Event). nat_eq f.line line) h (e ∷ []) ∙ ap (λ (a : Bool). events_of line h ++ cond a (e ∷ []) []) is

-- an allowed event of the line is the one that its stage lacks
own-more : (s : Schedule) (h : List Event) (line : ℕ) (kind : EventKind) → IsLegal s h → MayHappen s h line kind → events_of line h ≡ events_by line (stage_of h line) →
    events_of line (h ++ record { line = line; kind = kind } ∷ []) ≡ events_by line (stage_of (h ++ record { line = line; kind = kind } ∷ []) line)
own-more s h line Departs legal may were =
    let e : Event = record { line = line; kind = Departs } in
    let still : arrived h line ≡ false = not-arrived s h line legal may.still in
    events-more h e line true (eq-eqb line line refl)
    ∙ ap (λ (events : List Event). events ++ e ∷ []) (were ∙ ap (events_by line) (stage-waiting h line still may.still))
    ∙ sym (ap (events_by line) (stage-departed h line still))
own-more s h line Arrives legal may were =
    let e : Event = record { line = line; kind = Arrives } in
    events-more h e line true (eq-eqb line line refl)
    ∙ ap (λ (events : List Event). events ++ e ∷ []) (were ∙ ap (events_by line) (stage-rolling h line may.still may.left))
    ∙ sym (ap (events_by line) (stage-arrived h line))

-- so the events of a line are those that have brought it to its stage, after one more event too
staged-more : (s : Schedule) (h : List Event) (e : Event) (line : ℕ) → IsLegal s h → IsAllowed s h e → events_of line h ≡ events_by line (stage_of h line) →
    events_of line (h ++ e ∷ []) ≡ events_by line (stage_of (h ++ e ∷ []) line)
staged-more s h e line legal allowed were =
    ⊎_elim
    (λ (own : nat_eq e.line line ≡ true).
    let same : e.line ≡ line = eqb-true e.line line own in
    subst (λ (l : ℕ). events_of l (h ++ e ∷ []) ≡ events_by l (stage_of (h ++ e ∷ []) l)) same
    (own-more s h e.line e.kind legal allowed (subst (λ (l : ℕ). events_of l h ≡ events_by l (stage_of h l)) (sym same) were)))
    (λ (other : nat_eq e.line line ≡ false).
    events-more h e line false other ∙ append-nil (events_of line h) ∙ were ∙ ap (events_by line) (sym (stage-other h e line other)))
    (cases_Bool (nat_eq e.line line))

-- the events of a line after the first events of a legal history
record Staged (s : Schedule) (h : List Event) (line : ℕ) : Type 0 where
  legal : IsLegal s h
  events : events_of line h ≡ events_by line (stage_of h line)

staged-taken : (s : Schedule) (h : List Event) (line n : ℕ) → IsLegal s h → n ≤ length h → Staged s (take n h) line
staged-taken s h line zero legal le = record { legal = IsLegal-none s; events = refl }
staged-taken s h line (suc n) legal le =
    let lt : n < length h = omega (arith, le) in
    let before : Staged s (take n h) line = staged-taken s h line n legal (omega (arith, le)) in
    let e : Event = event_at h n in
    subst (λ (g : List Event). Staged s g line) (sym (take-suc h n no_event lt))
    (record {
      legal = IsLegal-more s (take n h) e before.legal (legal n lt);
      events = staged-more s (take n h) e line before.legal (legal n lt) before.events;
    })

-- where nothing is allowed, the events of a line are its departure and then its arrival
pub two-events : (s : Schedule) (h : List Event) (line : ℕ) → IsSound s → IsLegal s h → ((e : Event) → IsAllowed s h e → ⊥) → line < length s.tails →
    events_of line h ≡ record { line = line; kind = Departs } ∷ record { line = line; kind = Arrives } ∷ []
two-events s h line sound legal ended lt =
    let staged : Staged s h line = subst (λ (g : List Event). Staged s g line) (take-length h) (staged-taken s h line (length h) legal (omega arith)) in
    staged.events ∙ ap (events_by line) (all-done s h line sound ended lt)

-- each event of a legal history is of a line that exists
pub all-exist : (s : Schedule) (h : List Event) → IsLegal s h → All (λ (e : Event). e.line < length s.tails) h
all-exist s h legal i d lt =
    let e : Event = event_at h i in
    subst (λ (f : Event). f.line < length s.tails) (get_or_default h i no_event d lt) (may-exists s (take i h) e.line e.kind (legal i lt))
