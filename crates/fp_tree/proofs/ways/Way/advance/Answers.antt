use Rattle.std.proofs.Common.{◌≡◌, ℕ, ◌+◌, true, List, [], get_or, set, take, sym, ap, ◌∙◌, subst}
use Rattle.fp_tree.specs.declared.ways.Step.{Step}
use Rattle.fp_tree.specs.Ways.{pending_on, IsLastByFirst, IsTurned}
use Rattle.fp_tree.proofs.Steps.{none_pending, IsTurned-at, IsTurned-pending}
use Rattle.fp_tree.proofs.ways.Way.advance.Goals as goal

-- the new way is the old one turned, where `steps` are its steps as the search for the last by a
-- first side saw them
turned : (old steps new : List Step) (place : ℕ) (step : Step) → steps ≡ old → IsLastByFirst steps place → step ≡ get_or old place step →
    new ≡ take (place + 1) (set old place (record step { later = true })) → IsTurned old new
turned old steps new place step same last is new_is =
    subst (λ (way : List Step). IsTurned old way) (sym new_is) (IsTurned-at old place step (subst (λ (way : List Step). IsLastByFirst way place) same last) is)

turned_here : (c : goal.After-truncate) → IsTurned c.args.self.now c.truncate.new.self.items
turned_here c =
    subst (λ (old : List Step). IsTurned old c.truncate.new.self.items) c.self.view_is
    (turned c.self.inside.steps.items c.as_slice.result.now c.truncate.new.self.items c.in-Some.place c.index_mut.result.now c.as_slice.ensures.value c.in-Some.ensures c.index_mut.ensures.value c.truncate.ensures.items)

pub returns-in-None-clause-pending : goal.returns-in-None-clause-pending
returns-in-None-clause-pending c =
    ap pending_on (sym (c.as_slice.ensures.value ∙ c.self.view_is)) ∙ none_pending [] c.as_slice.result.now c.in-None.ensures

pub returns-in-Some-clause-pending : goal.returns-in-Some-clause-pending
returns-in-Some-clause-pending c = IsTurned-pending c.args.self.now c.truncate.new.self.items (turned_here c)

pub returns-in-Some-clause-turned : goal.returns-in-Some-clause-turned
returns-in-Some-clause-turned c = λ _. turned_here c
