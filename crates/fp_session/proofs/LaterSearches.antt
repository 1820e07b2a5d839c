-- A search goes on by steps, and what it shows in the end goes on from what it had in hand.
use Rattle.std.proofs.Common.{◌≡◌, ◌≤◌, List, [], ◌∷◌, ◌++◌, refl, sym, ap, ◌∙◌, arith}
use Rattle.std.specs.Prelude.{ℕ, IfOk, IfSome, None, Option, Some, Result, Ok, Err}
use Rattle.std.specs.declared.alloc.AllocError.{AllocError}
use Rattle.std.proofs.lemmas.List.{append-nil, append_assoc}
use Rattle.std.proofs.lemmas.Option.{none-some}
use Rattle.fp_session_history.specs.declared.endings.Left.{Left}
use Rattle.fp_session_history.specs.Notes.{Refinement}
use Rattle.fp_session_history.specs.Solutions.{Solution}
use Rattle.fp_session.specs.declared.searches.Search.{Search}
use Rattle.fp_session.specs.declared.steps.Step.{Step}
use Rattle.fp_session.specs.declared.steps.Step.TheVariants as step
use Rattle.fp_session.specs.Certificates.{IsShown}
use Rattle.fp_session.specs.Searches.{InHand, in_hand}
use Rattle.fp_session.specs.Solved.{GoesOnFrom, ShowsInHand}
use Rattle.fp_session.specs.Steps.{HasGoneOn, IsStep}
use Rattle.fp_session.specs.TreeLines.{notes_of}

-- what holds of a search that had ended, where it follows from another fact of it and its end
if-some : (o : Option Left) (A : Type 0) (P : Left → Type 0) → IfSome o (λ left. A) → ((left : Left) → o ≡ Some left → A → P left) → IfSome o P
if-some None A P is then = tt
if-some (Some left) A P is then = then left refl is

-- a search after no step
pub gone-none : (s : InHand) → HasGoneOn s s
gone-none s = record { cost = omega arith; more = []; trace = sym (append-nil s.trace); ended = itself s.left }
  where
    itself : (o : Option Left) → IfSome o (λ left. s ≡ s)
    itself None = tt
    itself (Some left) = refl

-- and after one more
module _ (s t u : InHand) (gone : HasGoneOn s t) (going : t.left ≡ None) where
  still : IfSome s.left (λ left. u ≡ s)
  still = if-some s.left (t ≡ s) (λ left. u ≡ s) gone.ended (λ left own same. absurd (none-some left (sym going ∙ ap (λ (h : InHand). h.left) same ∙ own)))

  as-before : u.cost ≤ t.cost → u.trace ≡ t.trace → HasGoneOn s u
  as-before le same = record { cost = omega (arith, le, gone.cost); more = gone.more; trace = same ∙ gone.trace; ended = still }

  pub gone-step : (a : Step) → IsStep t u a → HasGoneOn s u
  gone-step step.Closed is = as-before (omega (arith, is.cost)) is.trace
  gone-step step.Better is = as-before (omega (arith, is.cost)) is.trace
  gone-step step.Round is = record {
    cost = omega (arith, is.cost, gone.cost);
    more = gone.more ++ (is.note ∷ []);
    trace = is.trace ∙ ap (λ (ns : List Refinement). ns ++ (is.note ∷ [])) gone.trace ∙ append_assoc s.trace gone.more (is.note ∷ []);
    ended = still;
  }
  gone-step step.Branch is = as-before (omega (arith, is.cost)) is.trace
  gone-step (step.Done ending) is = as-before (omega (arith, is.cost)) is.trace

-- a search that goes on from one that went on
pub gone-twice : (s t u : InHand) → HasGoneOn s t → t.left ≡ None → HasGoneOn t u → HasGoneOn s u
gone-twice s t u one going two = record {
  cost = omega (arith, one.cost, two.cost);
  more = one.more ++ two.more;
  trace = two.trace ∙ ap (λ (ns : List Refinement). ns ++ two.more) one.trace ∙ append_assoc s.trace one.more two.more;
  ended = if-some s.left (t ≡ s) (λ left. u ≡ s) one.ended (λ left own same. absurd (none-some left (sym going ∙ ap (λ (h : InHand). h.left) same ∙ own)));
}

-- what was left, or else another
abbrev left_or : Option Left → Left → Left
left_or None other = other
left_or (Some left) other = left

module _ (s : InHand) (t : Search) (unit : Option ℕ) (kept : Left) (after : Option Left) (gone : HasGoneOn s (in_hand t)) (ended : t.left ≡ Some kept) where
  -- what is shown of a search that has ended is what it had in hand, if it had ended before
  shows-in_hand : (x : Solution) → IsShown (record t { left = after }) unit kept x → (left : Left) → s.left ≡ Some left → in_hand t ≡ s → ShowsInHand s left x
  shows-in_hand x shown left own same = record {
    cost = shown.cost ∙ ap (λ (h : InHand). h.cost) same;
    trace = shown.trace ∙ ap (λ (h : InHand). h.trace) same;
    splits = shown.splits ∙ ap (λ (h : InHand). notes_of h.tree) same;
    left = shown.left ∙ ap (λ (o : Option Left). left_or o left) (sym ended ∙ ap (λ (h : InHand). h.left) same ∙ own);
  }

  -- so it goes on from what the search had in hand before it went on
  shows-onward : (x : Solution) → IsShown (record t { left = after }) unit kept x → GoesOnFrom s x
  shows-onward x shown = record {
    cost = omega (arith, shown.cost, gone.cost);
    more = gone.more;
    trace = shown.trace ∙ gone.trace;
    ended = if-some s.left (in_hand t ≡ s) (λ left. ShowsInHand s left x) gone.ended (shows-in_hand x shown);
  }

  pub shown-onward : (r : Result Solution AllocError) → IfOk r (IsShown (record t { left = after }) unit kept) → IfOk r (GoesOnFrom s)
  shown-onward (Err e) is = tt
  shown-onward (Ok x) is = shows-onward x is
