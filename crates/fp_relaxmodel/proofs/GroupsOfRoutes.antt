-- The groups of walks are groups of their routes, which leave together where each leaves as one.
use Rattle.std.proofs.Common.{◌≡◌, ◌∙◌, ℕ, ◌<◌, List, get_or, length, sym, ap, subst, arith}
use Rattle.std.specs.Prelude.{All, Contains}
use Rattle.std.proofs.lemmas.List.Elements.{All-contains, All-get_or, All-weaker}
use Rattle.fp_model.specs.declared.parts.Leg.{Leg}
use Rattle.fp_model.specs.declared.parts.Member.{Member}
use Rattle.fp_model.specs.Members.{AreDisjoint, AreGroupsOf, GoByOneArc, IsMemberOf, LeaveAsOne, LeaveTogether, arc_lists, member_arc, member_leg, members_in}
use Rattle.fp_model.proofs.Members.{IsMemberAt, IsMemberOf-arc_lists, LeaveAsOne-contains, has_leg-member, member_arc-arc_lists, members_in-contain, members_in-each}
use Rattle.fp_relaxmodel.specs.Groups.{AreGroups, IsGroup, StartsBefore}
use Rattle.fp_relaxmodel.proofs.UniqueGroups.{StartsBefore-apart}

-- each member of a group is a leg of its class
each-member : (walks : List (List Leg)) (group : List Member) → (is : IsGroup walks group) → All (IsMemberAt walks is.class) group
each-member walks group is = subst (All (IsMemberAt walks is.class)) (sym is.exact) (members_in-each walks is.class)

in-range : (walks : List (List Leg)) (group : List Member) → IsGroup walks group → All (IsMemberOf (arc_lists walks)) group
in-range walks group is =
    All-weaker (IsMemberAt walks is.class) (IsMemberOf (arc_lists walks)) (λ m at. IsMemberOf-arc_lists walks m at.member) group (each-member walks group is)

one-arc : (walks : List (List Leg)) (group : List Member) → IsGroup walks group → GoByOneArc (arc_lists walks) group
one-arc walks group is = λ i j d less lt. arc-at i d (omega (arith, less, lt)) ∙ sym (arc-at j d lt)
  where
    arc-at : (k : ℕ) (d : Member) → k < length group → member_arc (arc_lists walks) (get_or group k d) ≡ is.class.arc
    arc-at k d lt =
        let at : IsMemberAt walks is.class (get_or group k d) = All-get_or (IsMemberAt walks is.class) group k d lt (each-member walks group is) in
        member_arc-arc_lists walks (get_or group k d) at.member ∙ ap (λ (l : Leg). l.arc) at.same

-- two groups that have a member in common have one class, so neither starts before the other
disjoint : (walks : List (List Leg)) (group other : List Member) → IsGroup walks group → IsGroup walks other → StartsBefore group other → AreDisjoint group other
disjoint walks group other first second starts = λ m in_group in_other.
    let here : IsMemberAt walks first.class m = All-contains (IsMemberAt walks first.class) group m (each-member walks group first) in_group in
    let there : IsMemberAt walks second.class m = All-contains (IsMemberAt walks second.class) other m (each-member walks other second) in_other in
    let same : group ≡ other = first.exact ∙ ap (members_in walks) (sym here.same ∙ there.same) ∙ sym second.exact in
    let itself : StartsBefore other other = subst (λ (g : List Member). StartsBefore g other) same starts in
    StartsBefore-apart other other itself itself

-- the groups of walks are groups of their routes: no leg is in two, and all of a group go by one
-- arc
pub AreGroupsOf-walks : (walks : List (List Leg)) (groups : List (List Member)) → AreGroups walks groups → AreGroupsOf (arc_lists walks) groups
AreGroupsOf-walks walks groups are = record {
  members = All-weaker (IsGroup walks) (All (IsMemberOf (arc_lists walks))) (in-range walks) groups are.each;
  one_arc = All-weaker (IsGroup walks) (GoByOneArc (arc_lists walks)) (one-arc walks) groups are.each;
  apart = λ i j d less lt.
      disjoint walks (get_or groups i d) (get_or groups j d)
      (All-get_or (IsGroup walks) groups i d (omega (arith, less, lt)) are.each)
      (All-get_or (IsGroup walks) groups j d lt are.each)
      (are.ascending i j d less lt);
}

-- routes whose groups leave as one have legs of one class leave together
pub LeaveTogether-groups : (walks routes : List (List Leg)) (groups : List (List Member)) → AreGroups walks groups → All (LeaveAsOne routes) groups → LeaveTogether walks routes
LeaveTogether-groups walks routes groups are leave m n is_m is_n same =
    let class : Leg = member_leg walks m in
    let group : List Member = members_in walks class in
    let there : Contains groups group = are.every class (has_leg-member walks m is_m) in
    let as_one : LeaveAsOne routes group = All-contains (LeaveAsOne routes) groups group leave there in
    LeaveAsOne-contains routes group m n as_one (members_in-contain walks m is_m)
    (subst (λ (l : Leg). Contains (members_in walks l) n) (sym same) (members_in-contain walks n is_n))
