use Rattle.std.proofs.Common.{◌≡◌, ◌∙◌, ◌<◌, List, [], ◌∷◌, ◌++◌, length, ap, subst, sym, arith}
use Rattle.std.specs.Vec.Iter.{into_iter_items}
use Rattle.std.specs.declared.alloc.Global.{Global}
use Rattle.std.specs.declared.vec.Vec.{Vec}
use Rattle.fp_base_lists.specs.Vectors.{lists_of}
use Rattle.fp_model.specs.declared.parts.Member.{Member}
use Rattle.fp_model.specs.Members.{AreGroupsOf}
use Rattle.fp_flatnet.specs.Tables.{windows_in}
use Rattle.fp_dispatch.specs.Answers.{IsEarliest}
use Rattle.fp_dispatch.specs.Times.{HaveTimes}
use Rattle.fp_repair.proofs.KeptSoFar.{AreKeptSoFar, length-zero, lists_of-push, pop-push, so_far-clash, so_far-end, so_far-groups, so_far-kept, so_far-lone, so_far-next, so_far-start}
use Rattle.fp_repair.proofs.StricterGroups.{HaveTimes-IsEarliest}
use Rattle.fp_repair.proofs.timings.kept_plan.Goals as goal

pub loop-group-init : goal.loop-group-init
loop-group-init c =
    let p = c.args.instance.now in
    let w = windows_in c.args.windows.now in
    let routes : List (List _) = lists_of c.args.routes.now in
    let groups : List (List Member) = lists_of c.args.groups.items in
    let none : [] ≡ c.new-kept.result.items = sym c.new-kept.ensures.items in
    record {
      so_far = subst (λ (xs : List (Vec Member Global)). AreKeptSoFar p w routes groups (lists_of xs) (lists_of c.new-kept.result.items)) (sym c.into_iter-group-iterator.ensures.into_iter_gives.0)
          (subst (λ (xs : List (Vec Member Global)). AreKeptSoFar p w routes groups groups (lists_of xs)) none (so_far-start p w routes groups c.requires.groups));
      plan = subst (λ (xs : List (Vec Member Global)). IsEarliest p w routes (lists_of xs) c.args.plan) none c.requires.plan;
    }

pub loop-group-preserved-then-len-lt2 : goal.loop-group-preserved-then-len-lt2
loop-group-preserved-then-len-lt2 c =
    let p = c.args.instance.now in
    let w = windows_in c.args.windows.now in
    let routes : List (List _) = lists_of c.args.routes.now in
    let groups : List (List Member) = lists_of c.args.groups.items in
    let kept : List (List Member) = lists_of c.loop-group.kept.items in
    let lone : length c.in-Some.group.items < 2 = omega (arith, c.in-Some.group.ok) in
    record {
      so_far = so_far-lone p w routes groups c.in-Some.group.items (lists_of (into_iter_items c.next.new.self)) kept
          (so_far-next p w routes groups _ c.in-Some.group (into_iter_items c.next.new.self) kept c.in-Some.ensures.steps.0 c.loop-group.invariant.so_far)
          lone (HaveTimes-IsEarliest p w routes kept c.loop-group.plan c.loop-group.invariant.plan);
      plan = c.loop-group.invariant.plan;
    }

pub earliest_plan-requires-clause-groups : goal.earliest_plan-requires-clause-groups
earliest_plan-requires-clause-groups c =
    let p = c.args.instance.now in
    let w = windows_in c.args.windows.now in
    let routes : List (List _) = lists_of c.args.routes.now in
    let groups : List (List Member) = lists_of c.args.groups.items in
    let kept : List (List Member) = lists_of c.loop-group.kept.items in
    let pushed : lists_of c.push.new.self.items ≡ kept ++ (c.in-Some.group.items ∷ []) =
    ap (λ (xs : List (Vec Member Global)). lists_of xs) c.in_ok-push.ensures.items ∙ lists_of-push c.loop-group.kept.items c.in-Some.group in
    let now : lists_of c.deref.result.now ≡ kept ++ (c.in-Some.group.items ∷ []) = ap (λ (xs : List (Vec Member Global)). lists_of xs) c.deref.ensures.value ∙ pushed in
    subst (AreGroupsOf routes) (sym now)
    (so_far-groups p w routes groups c.in-Some.group.items (lists_of (into_iter_items c.next.new.self)) kept
    (so_far-next p w routes groups _ c.in-Some.group (into_iter_items c.next.new.self) kept c.in-Some.ensures.steps.0 c.loop-group.invariant.so_far))

pub loop-group-preserved-in-Some-2 : goal.loop-group-preserved-in-Some-2
loop-group-preserved-in-Some-2 c =
    let p = c.args.instance.now in
    let w = windows_in c.args.windows.now in
    let routes : List (List _) = lists_of c.args.routes.now in
    let groups : List (List Member) = lists_of c.args.groups.items in
    let kept : List (List Member) = lists_of c.loop-group.kept.items in
    let is : IsEarliest p w routes (lists_of c.deref.result.now) c.in-Some-2.with_group = rw c.in-Some-2.is at c.in_ok-with_group.ensures in
    let pushed : lists_of c.push.new.self.items ≡ kept ++ (c.in-Some.group.items ∷ []) =
    ap (λ (xs : List (Vec Member Global)). lists_of xs) c.in_ok-push.ensures.items ∙ lists_of-push c.loop-group.kept.items c.in-Some.group in
    let now : lists_of c.deref.result.now ≡ lists_of c.push.new.self.items = ap (λ (xs : List (Vec Member Global)). lists_of xs) c.deref.ensures.value in
    let times : HaveTimes p w routes (kept ++ (c.in-Some.group.items ∷ [])) =
    subst (HaveTimes p w routes) (now ∙ pushed) (HaveTimes-IsEarliest p w routes (lists_of c.deref.result.now) c.in-Some-2.with_group is) in
    record {
      so_far = subst (AreKeptSoFar p w routes groups (lists_of (into_iter_items c.next.new.self))) (sym pushed)
          (so_far-kept p w routes groups c.in-Some.group.items (lists_of (into_iter_items c.next.new.self)) kept
          (so_far-next p w routes groups _ c.in-Some.group (into_iter_items c.next.new.self) kept c.in-Some.ensures.steps.0 c.loop-group.invariant.so_far) times);
      plan = subst (λ (gs : List (List Member)). IsEarliest p w routes gs c.in-Some-2.with_group) now is;
    }

pub loop-group-preserved-in-None-2 : goal.loop-group-preserved-in-None-2
loop-group-preserved-in-None-2 c =
    let p = c.args.instance.now in
    let w = windows_in c.args.windows.now in
    let routes : List (List _) = lists_of c.args.routes.now in
    let groups : List (List Member) = lists_of c.args.groups.items in
    let kept : List (List Member) = lists_of c.loop-group.kept.items in
    let pushed : lists_of c.push.new.self.items ≡ kept ++ (c.in-Some.group.items ∷ []) =
    ap (λ (xs : List (Vec Member Global)). lists_of xs) c.in_ok-push.ensures.items ∙ lists_of-push c.loop-group.kept.items c.in-Some.group in
    let now : lists_of c.deref.result.now ≡ lists_of c.push.new.self.items = ap (λ (xs : List (Vec Member Global)). lists_of xs) c.deref.ensures.value in
    let none : HaveTimes p w routes (lists_of c.deref.result.now) → ⊥ = rw c.in-None-2.is at c.in_ok-with_group.ensures in
    let clash : HaveTimes p w routes (kept ++ (c.in-Some.group.items ∷ [])) → ⊥ = subst (λ (gs : List (List Member)). HaveTimes p w routes gs → ⊥) (now ∙ pushed) none in
    let back : c.pop-clashing.new.self.items ≡ c.loop-group.kept.items =
    pop-push c.loop-group.kept.items c.in-Some.group c.push.new.self.items c.pop-clashing.new.self.items _ c.in_ok-push.ensures.items
    (omega (arith, c.in_ok-push.ensures.len, c.loop-group.kept.ok)) c.pop-clashing.ensures.rest in
    record {
      so_far = subst (λ (xs : List (Vec Member Global)). AreKeptSoFar p w routes groups (lists_of (into_iter_items c.next.new.self)) (lists_of xs)) (sym back)
          (so_far-clash p w routes groups c.in-Some.group.items (lists_of (into_iter_items c.next.new.self)) kept
          (so_far-next p w routes groups _ c.in-Some.group (into_iter_items c.next.new.self) kept c.in-Some.ensures.steps.0 c.loop-group.invariant.so_far) clash);
      plan = subst (λ (xs : List (Vec Member Global)). IsEarliest p w routes (lists_of xs) c.loop-group.plan) (sym back) c.loop-group.invariant.plan;
    }

pub returns : goal.returns
returns c =
    let p = c.args.instance.now in
    let w = windows_in c.args.windows.now in
    let routes : List (List _) = lists_of c.args.routes.now in
    let groups : List (List Member) = lists_of c.args.groups.items in
    let kept : List (List Member) = lists_of c.loop-group.kept.items in
    let none : into_iter_items c.loop-group.group-iterator ≡ [] = length-zero _ (omega (arith, c.in-None.ensures.steps, c.loop-group.group-iterator.rest.ok)) in
    so_far-end p w routes groups kept c.loop-group.plan
    (subst (λ (xs : List (Vec Member Global)). AreKeptSoFar p w routes groups (lists_of xs) kept) none c.loop-group.invariant.so_far) c.loop-group.invariant.plan
