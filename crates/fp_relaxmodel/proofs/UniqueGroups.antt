-- The groups of a relaxed plan: those that are met in turn, and no other lists.
use Rattle.std.proofs.Common.{◌≡◌, ◌∙◌, zero, suc, ◌<◌, List, [], ◌∷◌, length, inl, inr, ⊎_elim, refl, sym, ap₂, subst, arith, le_refl}
use Rattle.std.specs.Prelude.{◌⊎◌, All, AllPairs, Contains}
use Rattle.std.proofs.lemmas.List.Elements.{All-contains, All-from_recursion, All-head, All-map, All-tail, All-weaker}
use Rattle.fp_model.specs.declared.parts.Leg.{Leg}
use Rattle.fp_model.specs.declared.parts.Member.{Member}
use Rattle.fp_relaxmodel.specs.Grouping.{Met, after}
use Rattle.fp_relaxmodel.specs.Groups.{AreGroups, IsGroup, StartsBefore}
use Rattle.fp_model.specs.Members.{MemberComesBefore, named_from, NamedLeg}
use Rattle.fp_relaxmodel.proofs.GroupLaws.{IsMet, each-met, groups-ascend, groups-cover, members_of}
use Rattle.fp_base_lists.proofs.Pairs.{AllPairs-tail, AllPairs-head, AllPairs-unique}
use Rattle.fp_relaxmodel.proofs.NamedLegs.{occurs-placed, pairs-from}

-- the groups that are met over all legs are the groups of the classes
pub groups-met : (walks : List (List Leg)) → AreGroups walks (members_of (after (named_from 0 walks) []))
groups-met walks =
    let legs : List NamedLeg = named_from 0 walks in
    let groups : List Met = after legs [] in
    let met : All (IsMet legs) groups = All-from_recursion (IsMet legs) groups (each-met (length legs) legs (le_refl (length legs))) in
    let each : All (λ (g : Met). IsGroup walks g.members) groups =
    All-weaker (IsMet legs) (λ (g : Met). IsGroup walks g.members)
    (λ g is. record { class = g.class; occurs = sym (occurs-placed g.class 0 walks) ∙ is.occurs; exact = is.exact }) groups met in
    record {
      each = All-map (IsGroup walks) (λ (g : Met). g.members) groups each;
      ascending = groups-ascend (length legs) legs (le_refl (length legs)) (pairs-from 0 walks);
      every = λ c there. groups-cover (length legs) legs c (le_refl (length legs)) (occurs-placed c 0 walks ∙ there);
    }

-- of two members at most one comes before the other
members-apart : (m n : Member) → MemberComesBefore m n → MemberComesBefore n m → ⊥
members-apart m n first second =
    ⊎_elim
    (λ (a : m.shipment < n.shipment).
    ⊎_elim (λ (b : n.shipment < m.shipment). omega (arith, a, b)) (λ (b : (n.shipment ≡ m.shipment) × (n.leg < m.leg)). omega (arith, a, b.0)) second)
    (λ (a : (m.shipment ≡ n.shipment) × (m.leg < n.leg)).
    ⊎_elim (λ (b : n.shipment < m.shipment). omega (arith, a.0, b)) (λ (b : (n.shipment ≡ m.shipment) × (n.leg < m.leg)). omega (arith, a.1, b.1)) second)
    first

-- so of two groups at most one starts before the other
pub StartsBefore-apart : (g h : List Member) → StartsBefore g h → StartsBefore h g → ⊥
StartsBefore-apart [] h first second = first
StartsBefore-apart (m ∷ g) [] first second = first
StartsBefore-apart (m ∷ g) (n ∷ h) first second = members-apart m n first second

-- groups are among any other groups of the same walks
among-groups : (walks : List (List Leg)) (gs hs : List (List Member)) → AreGroups walks gs → AreGroups walks hs → All (Contains hs) gs
among-groups walks gs hs first second =
    All-weaker (IsGroup walks) (Contains hs) (λ g is. subst (Contains hs) (sym is.exact) (second.every is.class is.occurs)) gs first.each

-- only one list of lists is the groups of walks
pub groups-unique : (walks : List (List Leg)) (gs hs : List (List Member)) → AreGroups walks gs → AreGroups walks hs → gs ≡ hs
groups-unique walks gs hs first second =
    AllPairs-unique StartsBefore StartsBefore-apart gs hs first.ascending second.ascending (among-groups walks gs hs first second) (among-groups walks hs gs second first)
