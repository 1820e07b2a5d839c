use Rattle.std.proofs.Common.{ℕ, false, List, subst}
use Rattle.std.proofs.lemmas.Bool.{false≢true}
use Rattle.std.specs.Prelude.{IsTrue, ◌↔◌}
use Rattle.std.specs.declared.alloc.Global.{Global}
use Rattle.std.specs.declared.vec.Vec.{Vec}
use Rattle.fp_base_lists.specs.Vectors.{lists_of}
use Rattle.fp_model.specs.declared.parts.Member.{Member}
use Rattle.fp_flatnet.specs.Tables.{windows_in}
use Rattle.fp_dispatch.specs.Answers.{IsEarliest}
use Rattle.fp_dispatch.specs.Times.{HaveTimes}
use Rattle.fp_repair.proofs.KeptGroups.{IsKeptPlan-whole}
use Rattle.fp_repair.proofs.timings.least_times.Goals as goal

-- where there are no times, the answer is false
not-timed : (P : Type 0) → (P → ⊥) → IsTrue false ↔ P
not-timed P none = ((λ never. absurd (false≢true never)), (λ have. absurd (none have)))

pub returns-in-Some-clause-grouped : goal.returns-in-Some-clause-grouped
returns-in-Some-clause-grouped c =
    let p = c.args.instance.now in
    let w = windows_in c.args.windows.now in
    let routes : List (List ℕ) = lists_of c.args.routes.now in
    let is : IsEarliest p w routes (lists_of c.deref.result.now) c.in-Some.plan = rw c.in-Some.is at c.in_ok-all.ensures in
    IsKeptPlan-whole p w routes (lists_of c.args.groups.items) c.in-Some.plan
    (subst (λ (gs : List (Vec Member Global)). IsEarliest p w routes (lists_of gs) c.in-Some.plan) c.deref.ensures.value is)

pub returns-in_default-apart-clause-timed : goal.returns-in_default-apart-clause-timed
returns-in_default-apart-clause-timed c =
    let p = c.args.instance.now in
    let w = windows_in c.args.windows.now in
    let routes : List (List ℕ) = lists_of c.args.routes.now in
    let none : HaveTimes p w routes (lists_of c.deref.result.now) → ⊥ = rw c.in_default.is at c.in_ok-all.ensures in
    not-timed (HaveTimes p w routes (lists_of c.args.groups.items))
    (subst (λ (gs : List (Vec Member Global)). HaveTimes p w routes (lists_of gs) → ⊥) c.deref.ensures.value none)

pub returns-clause-timed : goal.returns-clause-timed
returns-clause-timed c =
    let p = c.args.instance.now in
    let w = windows_in c.args.windows.now in
    let routes : List (List ℕ) = lists_of c.args.routes.now in
    let none : HaveTimes p w routes (lists_of c.deref.result.now) → ⊥ = rw c.in_default.is at c.in_ok-all.ensures in
    not-timed (HaveTimes p w routes (lists_of c.args.groups.items))
    (subst (λ (gs : List (Vec Member Global)). HaveTimes p w routes (lists_of gs) → ⊥) c.deref.ensures.value none)
