-- A yard in which nothing has happened, and one in which one more event has.
use Rattle.std.proofs.Common.{◌≡◌, ◌∙◌, ℕ, ◌+◌, ◌*◌, ◌<◌, ◌≤◌, Bool, true, false, ◌||◌, ◌&&◌, cond, List, [], ◌∷◌, ◌++◌, length, set, ⊎_elim, refl, sym, ap, ap₂, subst, arith, eqb-true, eq-eqb}
use Rattle.std.specs.Prelude.{nat_eq, sum_by}
use Rattle.std.proofs.lemmas.Bool.{cases_Bool, eqb-false}
use Rattle.std.proofs.lemmas.List.{get_or-set_other, get_or-set_same, length-set, length_push}
use Rattle.std.proofs.lemmas.List.Folds.{list_any-append}
use Rattle.std.proofs.lemmas.List.Sums.{sum_by-cons, sum_by-set}
use Rattle.fp_yard.specs.declared.events.Event.{Event}
use Rattle.fp_yard.specs.declared.events.EventKind.{EventKind}
use Rattle.fp_yard.specs.declared.events.EventKind.TheVariants.{Departs, Arrives}
use Rattle.fp_yard.specs.declared.events.LineStage.{LineStage}
use Rattle.fp_yard.specs.declared.events.LineStage.TheVariants.{Waiting, Rolling, Done}
use Rattle.fp_yard.specs.Events.{IsAllowed, IsLegal, MayHappen, arrived, arrives, departed, departs, is_arrival, is_departure, stage_of}
use Rattle.fp_yard.specs.Schedules.{Schedule}
use Rattle.fp_yard.specs.Yards.{IsRun, events_until, stage_at, stage_by}
use Rattle.fp_yard.proofs.Departures.{stage-done, stage-rolling, stage-waiting}
use Rattle.fp_yard.proofs.Histories.{IsLegal-more, not-arrived}

-- what one more event tells of a line
pub departed-more : (h : List Event) (e : Event) (line : ℕ) → departed (h ++ e ∷ []) line ≡ (departed h line || (is_departure line e || false))
departed-more h e line = list_any-append (is_departure line) h (e ∷ [])

pub arrived-more : (h : List Event) (e : Event) (line : ℕ) → arrived (h ++ e ∷ []) line ≡ (arrived h line || (is_arrival line e || false))
arrived-more h e line = list_any-append (is_arrival line) h (e ∷ [])

or-none : (b : Bool) → (b || (false || false)) ≡ b
or-none true = refl
or-none false = refl

-- another line stays at its stage
pub stage-other : (h : List Event) (e : Event) (line : ℕ) → nat_eq e.line line ≡ false → stage_of (h ++ e ∷ []) line ≡ stage_of h line
stage-other h e line other =
    let left : departed (h ++ e ∷ []) line ≡ departed h line =
    departed-more h e line ∙ ap (λ (b : Bool). departed h line || ((b && departs e.kind) || false)) other ∙ or-none (departed h line) in
    let come : arrived (h ++ e ∷ []) line ≡ arrived h line =
    arrived-more h e line ∙ ap (λ (b : Bool). arrived h line || ((b && arrives e.kind) || false)) other ∙ or-none (arrived h line) in
    ap₂ (λ (a d : Bool). cond a Done (cond d Rolling Waiting)) come left

-- the event's own line comes to the next stage
pub or-true : (b c : Bool) → b ≡ true → (c || (b || false)) ≡ true
or-true true true is = refl
or-true true false is = refl
or-true false c is = cc

pub stage-departed : (h : List Event) (line : ℕ) → arrived h line ≡ false → stage_of (h ++ record { line = line; kind = Departs } ∷ []) line ≡ Rolling
stage-departed h line still =
    let e : Event = record { line = line; kind = Departs } in
    let own : nat_eq line line ≡ true = eq-eqb line line refl in
    stage-rolling (h ++ e ∷ []) line
    (arrived-more h e line ∙ ap₂ (λ (a b : Bool). a || ((b && false) || false)) still own)
    (departed-more h e line ∙ or-true (nat_eq line line && true) (departed h line) (ap (λ (b : Bool). b && true) own))

pub stage-arrived : (h : List Event) (line : ℕ) → stage_of (h ++ record { line = line; kind = Arrives } ∷ []) line ≡ Done
stage-arrived h line =
    let e : Event = record { line = line; kind = Arrives } in
    stage-done (h ++ e ∷ []) line (arrived-more h e line ∙ or-true (nat_eq line line && true) (arrived h line) (ap (λ (b : Bool). b && true) (eq-eqb line line refl)))

-- what an allowed event does to its line
record Steps (s : Schedule) (h : List Event) (line : ℕ) (kind : EventKind) : Type 0 where
  exists : line < length s.tails
  more : events_until (stage_by kind) ≡ events_until (stage_of h line) + 1
  after : stage_of (h ++ record { line = line; kind = kind } ∷ []) line ≡ stage_by kind

steps : (s : Schedule) (h : List Event) (line : ℕ) (kind : EventKind) → IsLegal s h → MayHappen s h line kind → Steps s h line kind
steps s h line Departs legal may =
    let still : arrived h line ≡ false = not-arrived s h line legal may.still in
    record {
      exists = may.exists;
      more = sym (ap (λ (stage : LineStage). events_until stage + 1) (stage-waiting h line still may.still));
      after = stage-departed h line still;
    }
steps s h line Arrives legal may = record {
  exists = may.exists;
  more = sym (ap (λ (stage : LineStage). events_until stage + 1) (stage-rolling h line may.still may.left));
  after = stage-arrived h line;
}

-- one more event has happened
pub IsRun-more : (s : Schedule) (stages : List LineStage) (h : List Event) (e : Event) → IsRun s stages h → IsAllowed s h e →
    IsRun s (set stages e.line (stage_by e.kind)) (h ++ e ∷ [])
IsRun-more s stages h e run allowed =
    let step = steps s h e.line e.kind run.legal allowed in
    let within : e.line < length stages = omega (arith, step.exists, run.long) in
    let was : stage_at stages e.line ≡ stage_of h e.line = run.told e.line step.exists in
    record {
      sound = run.sound;
      few = run.few;
      legal = IsLegal-more s h e run.legal allowed;
      long = length-set stages e.line (stage_by e.kind) ∙ run.long;
      told = λ line lt.
          ⊎_elim
          (λ (own : nat_eq e.line line ≡ true).
          subst (λ (l : ℕ). stage_at (set stages e.line (stage_by e.kind)) l ≡ stage_of (h ++ e ∷ []) l) (eqb-true e.line line own)
          (get_or-set_same stages e.line (stage_by e.kind) Waiting within ∙ sym step.after))
          (λ (other : nat_eq e.line line ≡ false).
          get_or-set_other stages e.line line (stage_by e.kind) Waiting (λ is. eqb-false e.line line other (sym is)) ∙ run.told line lt ∙ sym (stage-other h e line other))
          (cases_Bool (nat_eq e.line line));
      count =
          omega (arith, length_push h e, run.count, sum_by-set events_until stages e.line (stage_by e.kind) Waiting within, ap events_until was, step.more);
    }

-- so many events are two for each line at most
events-most : (stages : List LineStage) → sum_by events_until stages ≤ 2 * length stages
events-most [] = omega arith
events-most (stage ∷ stages) = omega (arith, sum_by-cons events_until stage stages, events-most stages, stage-most stage)
  where
    stage-most : (stage : LineStage) → events_until stage ≤ 2
    stage-most Waiting = omega arith
    stage-most Rolling = omega arith
    stage-most Done = omega arith

-- there is room for an allowed event
pub room-left : (s : Schedule) (stages : List LineStage) (h : List Event) (e : Event) → IsRun s stages h → IsAllowed s h e → length h < 2 * length s.tails
room-left s stages h e run allowed =
    let after = IsRun-more s stages h e run allowed in
    omega (arith, after.count, after.long, length_push h e, events-most (set stages e.line (stage_by e.kind)))
