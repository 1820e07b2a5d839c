use Rattle.std.proofs.Common.{◌≡◌, ◌∙◌, ◌+◌, ◌<◌, ◌≤◌, ◌⊎◌, ℕ, List, [], length, get_or, sym, ap, subst, arith}
use Rattle.std.specs.Prelude.{All, Contains}
use Rattle.fp_base_lists.specs.Vectors.{lists_of}
use Rattle.fp_model.specs.declared.parts.Member.{Member}
use Rattle.fp_model.specs.Members.{IsMemberOf}
use Rattle.fp_dispatch.specs.Rising.{state_of, value_at}
use Rattle.fp_dispatch.specs.Tasks.{CanBeFound, TaskModel, entry_count}
use Rattle.fp_dispatch.proofs.NextLegs.{AreRising-gathered}
use Rattle.fp_dispatch.proofs.RaisedGroups.{AreGathered, gathered-late, gathered-next}
use Rattle.fp_dispatch.proofs.TableEntries.{place_of-lt}
use Rattle.fp_dispatch.proofs.VectorItems.{length-lists_of, lists_of-item}
use Rattle.fp_dispatch.proofs.rising.Moments.gather.Goals as goal

-- a moment is that of one of some legs, or 0
abbrev IsGreatest : (width : ℕ) → List ℕ → List Member → ℕ → Type 0
IsGreatest width values legs to = (to ≡ 0) ⊎ ((m : Member) × Contains legs m × (value_at width values m ≡ to))

pub greatest-to-requires : goal.greatest-to-requires
greatest-to-requires c k d lt =
    let g = c.group-item.result in
    let n : ℕ = c.loop-group.group-index in
    let inside = c.task.inside in
    let routes : List (List ℕ) = lists_of inside.routes.now in
    let before : n < length (lists_of inside.groups.now) = omega (arith, length-lists_of inside.groups.now) in
    let item : get_or (lists_of inside.groups.now) n [] ≡ c.deref.result.now = lists_of-item inside.groups.now n g [] (omega arith) c.group-item.is ∙ sym c.deref.ensures.value in
    let members : All (IsMemberOf routes) c.deref.result.now = subst (All (IsMemberOf routes)) item (c.task.invariant.members n [] before) in
    omega (
      arith,
      place_of-lt routes inside.numbers.width (get_or c.deref.result.now k d) c.task.invariant.wide (members k d lt),
      c.loop-group.invariant.lower.values,
      ap entry_count c.task.view_is,
    )

pub raise_each-requires-clause-members : goal.raise_each-requires-clause-members
raise_each-requires-clause-members c =
    let t : TaskModel = c.args.task.now in
    let g = c.group-item.result in
    let n : ℕ = c.loop-group.group-index in
    let task : CanBeFound t = subst CanBeFound c.task.view_is c.task.invariant in
    let groups = c.task.inside.groups.now in
    let before : n < length t.groups = omega (arith, length-lists_of groups, ap (λ (m : TaskModel). length m.groups) c.task.view_is) in
    let item : get_or t.groups n [] ≡ c.deref-in-loop-group.result.now =
    ap (λ (m : TaskModel). get_or m.groups n []) (sym c.task.view_is) ∙ lists_of-item groups n g [] (omega arith) c.group-item.is ∙ sym c.deref-in-loop-group.ensures.value in
    subst (All (IsMemberOf t.routes)) item (task.members n [] before)

pub returns-in-Some : goal.returns-in-Some
returns-in-Some c =
    let t : TaskModel = c.args.task.now in
    let g = c.group-item.result in
    let n : ℕ = c.loop-group.group-index in
    let task : CanBeFound t = subst CanBeFound c.task.view_is c.task.invariant in
    let groups = c.task.inside.groups.now in
    let before : n < length t.groups = omega (arith, length-lists_of groups, ap (λ (m : TaskModel). length m.groups) c.task.view_is) in
    let item : get_or t.groups n [] ≡ g.items = ap (λ (m : TaskModel). get_or m.groups n []) (sym c.task.view_is) ∙ lists_of-item groups n g [] (omega arith) c.group-item.is in
    let most : All (λ (m : Member). value_at t.numbers.width c.loop-group.self.values.items m ≤ c.greatest-to.result) c.deref.result.now =
    subst (λ (m : TaskModel). All (λ (k : Member). value_at m.numbers.width c.loop-group.self.values.items k ≤ c.greatest-to.result) c.deref.result.now) c.task.view_is c.greatest-to.ensures.most in
    let one : IsGreatest t.numbers.width c.loop-group.self.values.items c.deref.result.now c.greatest-to.result =
    subst (λ (m : TaskModel). IsGreatest m.numbers.width c.loop-group.self.values.items c.deref.result.now c.greatest-to.result) c.task.view_is c.greatest-to.ensures.one in
    gathered-late t.problem t.table t.routes t.groups t.numbers task
    (state_of c.loop-group.self) (state_of c.raise_each.new.self) n c.greatest-to.result c.deref.result.now c.deref-in-loop-group.result.now c.in_ok-leg.field-0
    c.loop-group.invariant.lower before (item ∙ sym c.deref.ensures.value) (item ∙ sym c.deref-in-loop-group.ensures.value) most one
    c.in_ok-leg.ensures c.in-Some.leg c.in-Some.is

pub loop-group-preserved : goal.loop-group-preserved
loop-group-preserved c =
    let t : TaskModel = c.args.task.now in
    let g = c.group-item.result in
    let n : ℕ = c.loop-group.group-index in
    let task : CanBeFound t = subst CanBeFound c.task.view_is c.task.invariant in
    let groups = c.task.inside.groups.now in
    let before : n < length t.groups = omega (arith, length-lists_of groups, ap (λ (m : TaskModel). length m.groups) c.task.view_is) in
    let item : get_or t.groups n [] ≡ g.items = ap (λ (m : TaskModel). get_or m.groups n []) (sym c.task.view_is) ∙ lists_of-item groups n g [] (omega arith) c.group-item.is in
    let most : All (λ (m : Member). value_at t.numbers.width c.loop-group.self.values.items m ≤ c.greatest-to.result) c.deref.result.now =
    subst (λ (m : TaskModel). All (λ (k : Member). value_at m.numbers.width c.loop-group.self.values.items k ≤ c.greatest-to.result) c.deref.result.now) c.task.view_is c.greatest-to.ensures.most in
    let one : IsGreatest t.numbers.width c.loop-group.self.values.items c.deref.result.now c.greatest-to.result =
    subst (λ (m : TaskModel). IsGreatest m.numbers.width c.loop-group.self.values.items c.deref.result.now c.greatest-to.result) c.task.view_is c.greatest-to.ensures.one in
    let made : AreGathered t.problem t.table t.routes t.groups t.numbers.width (n + 1) (state_of c.raise_each.new.self) =
    gathered-next t.problem t.table t.routes t.groups t.numbers task
    (state_of c.loop-group.self) (state_of c.raise_each.new.self) n c.greatest-to.result c.deref.result.now c.deref-in-loop-group.result.now c.in_ok-leg.field-0
    c.loop-group.invariant.lower before (item ∙ sym c.deref.ensures.value) (item ∙ sym c.deref-in-loop-group.ensures.value) most one
    c.in_ok-leg.ensures c.in_default.is c.loop-group.invariant.waits c.loop-group.invariant.equal in
    record { lower = made.lower; waits = made.waits; equal = made.equal }

pub returns : goal.returns
returns c =
    let t : TaskModel = c.args.task.now in
    let task : CanBeFound t = subst CanBeFound c.task.view_is c.task.invariant in
    AreRising-gathered t.problem t.table t.routes t.groups t.numbers task
    (state_of c.loop-group.self) c.loop-group.invariant.lower c.loop-group.invariant.waits
    (λ g lt. c.loop-group.invariant.equal g (omega (arith, lt, length-lists_of c.task.inside.groups.now, ap (λ (m : TaskModel). length m.groups) c.task.view_is)))
