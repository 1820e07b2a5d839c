-- Groups that are made walk by walk.
use Rattle.std.proofs.Common.{◌≡◌, ◌∙◌, ℕ, ◌+◌, ◌<◌, ◌≤◌, List, [], ◌∷◌, ◌++◌, length, drop, get_or, refl, sym, ap, subst, arith, add-one, drop-cons}
use Rattle.std.specs.declared.alloc.Global.{Global}
use Rattle.std.specs.declared.vec.Vec.{Vec}
use Rattle.std.proofs.lemmas.List.{drop_all}
use Rattle.fp_model.specs.declared.parts.Leg.{Leg}
use Rattle.fp_model.specs.declared.parts.Member.{Member}
use Rattle.fp_longestarcs.specs.declared.stops.Stop.{Stop}
use Rattle.fp_relaxmodel.specs.Grouping.{Met, after, groups_so_far, with_member}
use Rattle.fp_relaxmodel.specs.Groups.{AreGroups}
use Rattle.fp_base_lists.specs.Vectors.{lists_of}
use Rattle.fp_model.specs.Members.{named_from, named_on, NamedLeg}
use Rattle.fp_relaxmodel.proofs.GroupLaws.{members_of}
use Rattle.fp_relaxmodel.proofs.UniqueGroups.{groups-met}

-- legs after others
after-append : (xs ys : List NamedLeg) (groups : List Met) → after (xs ++ ys) groups ≡ after ys (after xs groups)
after-append [] ys groups = refl
after-append (x ∷ xs) ys groups = after-append xs ys (with_member x.leg x.member groups)

-- one more walk
pub one-walk : (walks : List (List Leg)) (i : ℕ) (walk : List Leg) (now next all : List Met) → i < length walks → walk ≡ get_or walks i walk → next ≡ after (named_on i 0 walk) now →
    after (named_from i (drop i walks)) now ≡ all → after (named_from (i + 1) (drop (i + 1) walks)) next ≡ all
one-walk walks i walk now next all lt is made whole =
    let rest : List (List Leg) = drop (i + 1) walks in
    let at : drop i walks ≡ get_or walks i walk ∷ rest = rw add-one (drop-cons walks i walk lt) in
    let here : drop i walks ≡ walk ∷ rest = at ∙ ap (λ (w : List Leg). w ∷ rest) (sym is) in
    ap (after (named_from (i + 1) rest)) made
    ∙ sym (after-append (named_on i 0 walk) (named_from (i + 1) rest) now)
    ∙ sym (ap (λ (ws : List (List Leg)). after (named_from i ws) now) here)
    ∙ whole

-- the members of the groups are those in the vectors
lists-so_far : (keys : List Stop) (groups : List (Vec Member Global)) → length keys ≡ length groups → members_of (groups_so_far keys groups) ≡ lists_of groups
lists-so_far [] [] long = refl
lists-so_far [] (g ∷ groups) long = absurd (omega (arith, long))
lists-so_far (k ∷ keys) [] long = absurd (omega (arith, long))
lists-so_far (k ∷ keys) (g ∷ groups) long = ap (λ (gs : List (List Member)). g.items ∷ gs) (lists-so_far keys groups (omega (arith, long)))

-- after all walks they are the groups of the walks
pub made-groups : (walks : List (List Leg)) (i : ℕ) (keys : List Stop) (groups : List (Vec Member Global)) → length walks ≤ i → length keys ≡ length groups →
    after (named_from i (drop i walks)) (groups_so_far keys groups) ≡ after (named_from 0 walks) [] → AreGroups walks (lists_of groups)
made-groups walks i keys groups le long whole =
    let none : drop i walks ≡ [] = drop_all i walks le in
    let end : groups_so_far keys groups ≡ after (named_from 0 walks) [] = sym (ap (λ (ws : List (List Leg)). after (named_from i ws) (groups_so_far keys groups)) none) ∙ whole in
    subst (AreGroups walks) (sym (ap members_of end) ∙ lists-so_far keys groups long) (groups-met walks)
