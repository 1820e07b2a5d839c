-- Groups that ask for more than others: what has times with them has times with the others.
use Rattle.std.proofs.Common.{ℕ, zero, suc, ◌<◌, ◌≡◌, Option, List, [], ◌∷◌, ◌++◌, length, sym, ◌∙◌, ap, arith}
use Rattle.std.specs.Prelude.{All, Contains}
use Rattle.std.proofs.lemmas.List.Elements.{All-nil, All-push}
use Rattle.fp_model.specs.declared.parts.Leg.{Leg}
use Rattle.fp_model.specs.declared.parts.Member.{Member}
use Rattle.fp_model.specs.Members.{AreGroupsOf, GoByOneArc, AreDisjoint, IsMemberOf}
use Rattle.fp_model.specs.Problem.{Problem}
use Rattle.fp_flatnet.specs.declared.window_tables.Window.{Window}
use Rattle.fp_dispatch.specs.Answers.{IsEarliest}
use Rattle.fp_dispatch.specs.Times.{AreTimes, HaveOneTime, HaveTimes, departure}
use Rattle.fp_repair.proofs.Appends.{All-append_left, All-without, AllPairs-append_left, AllPairs-without}

-- a choice that gives each of the first groups one time does so for the others
abbrev pub AreStricter : (groups others : List (List Member)) → Type 0
AreStricter groups others = (times : Member → ℕ) → All (HaveOneTime times) groups → All (HaveOneTime times) others

-- any groups are stricter than none
pub AreStricter-none : (groups : List (List Member)) → AreStricter groups []
AreStricter-none groups = λ times together. All-nil (HaveOneTime times)

-- more groups are stricter
pub AreStricter-more : (groups more : List (List Member)) → AreStricter (groups ++ more) groups
AreStricter-more groups more = λ times together. All-append_left (HaveOneTime times) groups more together

-- one more group on both sides
pub AreStricter-push : (groups others : List (List Member)) (group : List Member) → AreStricter groups others →
    AreStricter (groups ++ (group ∷ [])) (others ++ (group ∷ []))
AreStricter-push groups others group stricter = λ times together.
    All-push (HaveOneTime times) others group (stricter times (All-append_left (HaveOneTime times) groups (group ∷ []) together))
    (last times groups group together)
  where
    last : (times : Member → ℕ) (gs : List (List Member)) (g : List Member) → All (HaveOneTime times) (gs ++ (g ∷ [])) → HaveOneTime times g
    last times [] g all = all 0 g (omega arith)
    last times (x ∷ gs) g all = last times gs g (λ k d lt. all (suc k) d (omega (arith, lt)))

-- a group of one leg has one time in any choice
HaveOneTime-lone : (times : Member → ℕ) (group : List Member) → length group < 2 → HaveOneTime times group
HaveOneTime-lone times [] lone m n first second = absurd (omega (arith, first.1))
HaveOneTime-lone times (x ∷ []) lone m n first second = ap times (sym (only x m first) ∙ only x n second)
  where
    only : (x m : Member) → Contains (x ∷ []) m → x ≡ m
    only x m (zero, less, there) = there
    only x m (suc k, less, there) = absurd (omega (arith, less))
HaveOneTime-lone times (x ∷ y ∷ group) lone m n first second = absurd (omega (arith, lone))

-- so it makes no groups stricter
pub AreStricter-lone : (groups others : List (List Member)) (group : List Member) → length group < 2 → AreStricter groups others →
    AreStricter groups (others ++ (group ∷ []))
AreStricter-lone groups others group lone stricter = λ times together.
    All-push (HaveOneTime times) others group (stricter times together) (HaveOneTime-lone times group lone)

module _ (p : Problem) (windows : ℕ → ℕ → Option Window) (routes : List (List ℕ)) (groups others : List (List Member)) (stricter : AreStricter groups others) where
  -- times with stricter groups are times with the others
  pub AreTimes-stricter : (d : ℕ) (times : Member → ℕ) → AreTimes p windows routes groups d times → AreTimes p windows routes others d times
  AreTimes-stricter d times are = record {
    lower = record { start = are.lower.start; onward = are.lower.onward; together = stricter times are.lower.together };
    upper = are.upper;
  }

  pub HaveTimes-stricter : HaveTimes p windows routes groups → HaveTimes p windows routes others
  HaveTimes-stricter have = (have.0, have.1, have.2, AreTimes-stricter have.0 have.1 have.3)

  -- and least ones with groups that are as strict
  pub IsEarliest-stricter : AreStricter others groups → (legs : List (List Leg)) → IsEarliest p windows routes groups legs → IsEarliest p windows routes others legs
  IsEarliest-stricter back legs is = record {
    arcs = is.arcs;
    least = record {
      are = AreTimes-stricter 1 (departure legs) is.least.are;
      least = λ times are m member.
          is.least.least times
          (record {
            lower = record { start = are.lower.start; onward = are.lower.onward; together = back times are.lower.together };
            upper = are.upper;
          })
          m member;
    };
    plan = is.plan;
    within = is.within;
  }

-- legs that are a plan show that there are times
pub HaveTimes-IsEarliest : (p : Problem) (windows : ℕ → ℕ → Option Window) (routes : List (List ℕ)) (groups : List (List Member)) (legs : List (List Leg)) →
    IsEarliest p windows routes groups legs → HaveTimes p windows routes groups
HaveTimes-IsEarliest p windows routes groups legs is = (1, departure legs, omega arith, is.least.are)

-- groups of routes without those at the end
pub AreGroupsOf-append_left : (routes : List (List ℕ)) (groups more : List (List Member)) → AreGroupsOf routes (groups ++ more) → AreGroupsOf routes groups
AreGroupsOf-append_left routes groups more are = record {
  members = All-append_left (All (IsMemberOf routes)) groups more are.members;
  one_arc = All-append_left (GoByOneArc routes) groups more are.one_arc;
  apart = AllPairs-append_left AreDisjoint groups more are.apart;
}

-- and without one of them
pub AreGroupsOf-without : (routes : List (List ℕ)) (groups : List (List Member)) (group : List Member) (more : List (List Member)) →
    AreGroupsOf routes (groups ++ (group ∷ more)) → AreGroupsOf routes (groups ++ more)
AreGroupsOf-without routes groups group more are = record {
  members = All-without (All (IsMemberOf routes)) groups group more are.members;
  one_arc = All-without (GoByOneArc routes) groups group more are.one_arc;
  apart = AllPairs-without AreDisjoint groups group more are.apart;
}
