-- The groups of all legs in turn are the groups of the classes, and no other lists are.
use Rattle.std.proofs.Common.{◌≡◌, ◌∙◌, ℕ, zero, suc, ◌≤◌, Bool, true, false, List, [], ◌∷◌, ◌++◌, length, map, ⊎_elim, refl, sym, ap, subst, arith, true≢false}
use Rattle.std.specs.Prelude.{All, AllPairs, Contains, not}
use Rattle.std.specs.List.{AllByRecursion, list_any}
use Rattle.std.proofs.lemmas.Bool.{cases_Bool, or_cases, or_left, or_right}
use Rattle.std.proofs.lemmas.List.Elements.{All-append, All-filter, All-from_recursion, All-head, All-map, All-tail, Contains-append_right, recursion_from_All}
use Rattle.std.proofs.lemmas.List.Kept.{AllPairs-cons, AllPairs-filter}
use Rattle.fp_base_lists.proofs.Membership.{Contains-first}
use Rattle.fp_base_lists.proofs.Pairs.{AllPairs-head, AllPairs-tail, AllPairs-nil}
use Rattle.fp_model.specs.declared.parts.Leg.{Leg}
use Rattle.fp_model.specs.declared.parts.Member.{Member}
use Rattle.fp_model.specs.Costs.{same_leg}
use Rattle.fp_model.proofs.Distinct.{same_leg-comm, same_leg-refl, same_leg-true}
use Rattle.fp_base_lists.proofs.Elements.{AllByRecursion-weaker}
use Rattle.fp_relaxmodel.specs.Grouping.{Met, after}
use Rattle.fp_relaxmodel.specs.Groups.{StartsBefore}
use Rattle.fp_model.specs.Members.{MemberComesBefore, members_among, NamedLeg}
use Rattle.fp_relaxmodel.proofs.FirstGroups.{Occurs, members-others, occurs-from_others, occurs-others, others, others-other, others-same, after-cons}
use Rattle.fp_model.proofs.Members.{members_among-other, members_among-same}

-- a group has a class that occurs, and all its members among the legs
pub record IsMet (legs : List NamedLeg) (g : Met) : Type 0 where
  pub occurs : Occurs g.class legs
  pub exact : g.members ≡ members_among legs g.class

-- the members of groups
abbrev pub members_of : List Met → List (List Member)
members_of groups = map (λ (g : Met). g.members) groups

-- the group of the first leg
abbrev pub first_group : NamedLeg → List NamedLeg → Met
first_group x legs = record { class = x.leg; members = x.member ∷ members_among legs x.leg }

others-short : (c : Leg) (legs : List NamedLeg) → length (others c legs) ≤ length legs
others-short c [] = omega arith
others-short c (x ∷ legs) =
    ⊎_elim
    (λ (e : same_leg c x.leg ≡ true). omega (arith, ap length (others-same c x legs e), others-short c legs))
    (λ (e : same_leg c x.leg ≡ false). omega (arith, ap length (others-other c x legs e), others-short c legs))
    (cases_Bool (same_leg c x.leg))

-- a group of the other legs is one of all
met-wider : (x : NamedLeg) (legs : List NamedLeg) (g : Met) → IsMet (others x.leg legs) g → IsMet (x ∷ legs) g
met-wider x legs g is =
    let parts : (same_leg x.leg g.class ≡ false) × Occurs g.class legs = occurs-from_others g.class x.leg legs is.occurs in
    let differ : same_leg g.class x.leg ≡ false = same_leg-comm g.class x.leg ∙ parts.0 in
    record {
      occurs = or_right (same_leg g.class x.leg) (list_any (λ (y : NamedLeg). same_leg g.class y.leg) legs) parts.1;
      exact = is.exact ∙ members-others g.class x.leg legs parts.0 ∙ sym (members_among-other g.class x legs differ);
    }

-- each group is that of a class that occurs
pub each-met : (n : ℕ) (legs : List NamedLeg) → length legs ≤ n → AllByRecursion (IsMet legs) (after legs [])
each-met n [] le = tt
each-met zero (x ∷ legs) le = absurd (omega (arith, le))
each-met (suc n) (x ∷ legs) le =
    let rest : List NamedLeg = others x.leg legs in
    let own : same_leg x.leg x.leg ≡ true = same_leg-refl x.leg in
    let first : IsMet (x ∷ legs) (first_group x legs) = record {
      occurs = or_left (same_leg x.leg x.leg) (list_any (λ (y : NamedLeg). same_leg x.leg y.leg) legs) own;
      exact = sym (members_among-same x.leg x legs own);
    } in
    let later : AllByRecursion (IsMet (x ∷ legs)) (after rest []) =
    AllByRecursion-weaker (IsMet rest) (IsMet (x ∷ legs)) (met-wider x legs) (after rest []) (each-met n rest (omega (arith, le, others-short x.leg legs))) in
    subst (AllByRecursion (IsMet (x ∷ legs))) (sym (after-cons x legs)) (first, later)

-- one leg comes before another
abbrev pub Before : NamedLeg → NamedLeg → Type 0
Before x y = MemberComesBefore x.member y.member

-- a member before all legs begins a group before each group of theirs
begins-before : (m : Member) (group : List Member) (legs : List NamedLeg) (k : Leg) → AllByRecursion (λ (y : NamedLeg). MemberComesBefore m y.member) legs → Occurs k legs → StartsBefore (m ∷ group) (members_among legs k)
begins-before m group [] k all there = absurd (true≢false (sym there))
begins-before m group (y ∷ legs) k all there =
    ⊎_elim
    (λ (e : same_leg k y.leg ≡ true). subst (StartsBefore (m ∷ group)) (sym (members_among-same k y legs e)) all.0)
    (λ (e : same_leg k y.leg ≡ false).
    let later : Occurs k legs =
    ⊎_elim
    (λ (h : same_leg k y.leg ≡ true). absurd (true≢false (sym h ∙ e)))
    (λ (h : Occurs k legs). h)
    (or_cases (same_leg k y.leg) (list_any (λ (z : NamedLeg). same_leg k z.leg) legs) there) in
    subst (StartsBefore (m ∷ group)) (sym (members_among-other k y legs e)) (begins-before m group legs k all.1 later))
    (cases_Bool (same_leg k y.leg))

-- the first members ascend
pub groups-ascend : (n : ℕ) (legs : List NamedLeg) → length legs ≤ n → AllPairs Before legs → AllPairs StartsBefore (members_of (after legs []))
groups-ascend n [] le pairs = AllPairs-nil StartsBefore
groups-ascend zero (x ∷ legs) le pairs = absurd (omega (arith, le))
groups-ascend (suc n) (x ∷ legs) le pairs =
    let rest : List NamedLeg = others x.leg legs in
    let other : NamedLeg → Bool = λ y. not (same_leg x.leg y.leg) in
    let short : length rest ≤ n = omega (arith, le, others-short x.leg legs) in
    let first : List Member = (first_group x legs).members in
    let after_x : AllByRecursion (λ (y : NamedLeg). MemberComesBefore x.member y.member) rest = recursion_from_All (Before x) rest (All-filter other (Before x) legs (AllPairs-head Before x legs pairs)) in
    let later : AllByRecursion (λ (g : Met). StartsBefore first g.members) (after rest []) =
    AllByRecursion-weaker (IsMet rest) (λ (g : Met). StartsBefore first g.members)
    (λ g is. subst (StartsBefore first) (sym is.exact) (begins-before x.member (members_among legs x.leg) rest g.class after_x is.occurs)) (after rest []) (each-met n rest short) in
    let begins : All (StartsBefore first) (members_of (after rest [])) =
    All-map (StartsBefore first) (λ (g : Met). g.members) (after rest []) (All-from_recursion (λ (g : Met). StartsBefore first g.members) (after rest []) later) in
    subst (λ (groups : List Met). AllPairs StartsBefore (members_of groups)) (sym (after-cons x legs))
    (AllPairs-cons StartsBefore first (members_of (after rest [])) begins (groups-ascend n rest short (AllPairs-filter Before other legs (AllPairs-tail Before x legs pairs))))

-- each class that occurs has its group
pub groups-cover : (n : ℕ) (legs : List NamedLeg) (k : Leg) → length legs ≤ n → Occurs k legs → Contains (members_of (after legs [])) (members_among legs k)
groups-cover n [] k le there = absurd (true≢false (sym there))
groups-cover zero (x ∷ legs) k le there = absurd (omega (arith, le))
groups-cover (suc n) (x ∷ legs) k le there =
    let rest : List NamedLeg = others x.leg legs in
    let first : List Member = (first_group x legs).members in
    let HasMembers : List (List Member) → Type 0 = λ groups. Contains groups (members_among (x ∷ legs) k) in
    let found : HasMembers (first ∷ members_of (after rest [])) =
    ⊎_elim
    (λ (e : same_leg k x.leg ≡ true).
    let is : k ≡ x.leg = same_leg-true k x.leg e in
    let own : members_among (x ∷ legs) k ≡ first = ap (members_among (x ∷ legs)) is ∙ members_among-same x.leg x legs (same_leg-refl x.leg) in
    subst (Contains (first ∷ members_of (after rest []))) (sym own) (Contains-first first (members_of (after rest []))))
    (λ (e : same_leg k x.leg ≡ false).
    let differ : same_leg x.leg k ≡ false = same_leg-comm x.leg k ∙ e in
    let later : Occurs k legs =
    ⊎_elim
    (λ (h : same_leg k x.leg ≡ true). absurd (true≢false (sym h ∙ e)))
    (λ (h : Occurs k legs). h)
    (or_cases (same_leg k x.leg) (list_any (λ (z : NamedLeg). same_leg k z.leg) legs) there) in
    let among : Contains (members_of (after rest [])) (members_among rest k) =
    groups-cover n rest k (omega (arith, le, others-short x.leg legs)) (occurs-others k x.leg legs differ later) in
    let same : members_among rest k ≡ members_among (x ∷ legs) k = members-others k x.leg legs differ ∙ sym (members_among-other k x legs e) in
    Contains-append_right (first ∷ []) (members_of (after rest [])) (members_among (x ∷ legs) k) (subst (Contains (members_of (after rest []))) same among))
    (cases_Bool (same_leg k x.leg)) in
    subst (λ (groups : List Met). HasMembers (members_of groups)) (sym (after-cons x legs)) found
