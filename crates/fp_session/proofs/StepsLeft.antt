-- Each step leaves fewer steps.
use Rattle.std.proofs.Common.{◌≡◌, ◌+◌, ◌<◌, ◌≤◌, List, [], ◌∷◌, ◌++◌, length, refl, sym, ap, ◌∙◌, arith}
use Rattle.std.specs.Prelude.{Err, IfOk, IsSomeAnd, None, Ok, OnOk, Option, Result, Some}
use Rattle.std.proofs.lemmas.List.{length-append}
use Rattle.fp_tree.specs.Nodes.{split_count}
use Rattle.fp_session_history.specs.declared.budgets.Budget.{Budget}
use Rattle.fp_session_history.specs.declared.endings.Left.{Left}
use Rattle.fp_session_history.specs.Notes.{Refinement}
use Rattle.fp_session.specs.declared.steps.Step.{Step}
use Rattle.fp_session.specs.declared.steps.Step.TheVariants as step
use Rattle.fp_session.specs.Searches.{InHand}
use Rattle.fp_session.specs.StepCauses.{ending_of}
use Rattle.fp_session.specs.Steps.{IsStep, StayFixed, last_step, steps_left}

-- no step is left of a search that has ended
last_step-some : (o : Option Left) (P : Left → Type 0) → IsSomeAnd o P → last_step o ≡ 0
last_step-some None P is = absurd is
last_step-some (Some left) P is = refl

module _ (s t : InHand) (going : s.left ≡ None) (fixed : StayFixed s t) where
  rounds-same : t.budget.rounds ≡ s.budget.rounds
  rounds-same = ap (λ (b : Budget). b.rounds) fixed.budget

  branches-same : t.budget.branches ≡ s.budget.branches
  branches-same = ap (λ (b : Budget). b.branches) fixed.budget

  one : last_step s.left ≡ 1
  one = ap last_step going

  goes : t.left ≡ None → last_step t.left ≡ 1
  goes is = ap last_step is

  long : t.trace ≡ s.trace → length t.trace ≡ length s.trace
  long is = ap (λ (ns : List Refinement). length ns) is

  longer : (n : Refinement) → t.trace ≡ s.trace ++ (n ∷ []) → length t.trace ≡ length s.trace + 1
  longer n is = ap (λ (ns : List Refinement). length ns) is ∙ length-append s.trace (n ∷ [])

  pub fewer-left : (a : Step) → IsStep s t a → length t.trace ≤ t.budget.rounds → split_count t.tree ≤ t.budget.branches → steps_left t < steps_left s
  fewer-left step.Closed is rounds branches = omega (arith, is.leaves, is.splits, is.cost, long is.trace, goes is.going, one, rounds-same, branches-same)
  fewer-left step.Better is rounds branches = omega (arith, is.leaves, is.splits, is.cost, long is.trace, goes is.going, one, rounds-same, branches-same)
  fewer-left step.Round is rounds branches = omega (arith, is.leaves, is.splits, is.cost, longer is.note is.trace, goes is.going, one, rounds, rounds-same, branches-same)
  fewer-left step.Branch is rounds branches = omega (arith, is.leaves, is.splits, is.cost, long is.trace, goes is.going, one, branches, rounds-same, branches-same)
  fewer-left (step.Done ending) is rounds branches =
      omega (arith, is.leaves, is.splits, is.cost, long is.trace, last_step-some t.left (λ left. ending ≡ ending_of left) is.left, one, rounds-same, branches-same)

-- where there is memory for a step
pub step-fewer : {E : Type 0} (s t : InHand) (r : Result Step E) → s.left ≡ None → StayFixed s t → IfOk r (IsStep s t) → length t.trace ≤ t.budget.rounds → split_count t.tree ≤ t.budget.branches →
    OnOk r (steps_left t < steps_left s)
step-fewer s t (Ok a) going fixed is rounds branches = fewer-left s t going fixed a is rounds branches
step-fewer s t (Err e) going fixed is rounds branches = tt

-- what stays fixed by no step, and by two
pub fixed-same : (s : InHand) → StayFixed s s
fixed-same s = record { instance = refl; windows = refl; budget = refl; started = refl }

pub fixed-twice : (s t u : InHand) → StayFixed s t → StayFixed t u → StayFixed s u
fixed-twice s t u one two = record {
  instance = two.instance ∙ one.instance;
  windows = two.windows ∙ one.windows;
  budget = two.budget ∙ one.budget;
  started = two.started ∙ one.started;
}

-- nothing is left where the search hasn't ended
pub none-left : (o : Option Left) → Rattle.std.specs.Prelude.IsNone o → o ≡ None
none-left None is = refl
none-left (Some left) is = absurd (Rattle.std.proofs.lemmas.Bool.false≢true (sym is))
