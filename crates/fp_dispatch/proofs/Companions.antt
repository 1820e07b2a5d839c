-- The legs that leave together with a leg.
use Rattle.std.proofs.Common.{◌≡◌, ◌∙◌, ℕ, zero, suc, ◌+◌, ◌*◌, ◌<◌, ◌≤◌, ◌⊎◌, Option, Some, None, List, [], ◌∷◌, length, get_or, ⊎_elim, inl, inr, sym, ap, subst, arith}
use Rattle.std.specs.Prelude.{All, AllPairs, Contains, IsSomeAnd, MatchOption}
use Rattle.std.proofs.lemmas.Bool.{cases_eq, cases_lt}
use Rattle.std.proofs.lemmas.List.Elements.{All-cons, All-nil}
use Rattle.fp_base_lists.proofs.Membership.{Contains-cons_cases, Contains-first}
use Rattle.fp_model.specs.declared.parts.Member.{Member}
use Rattle.fp_model.specs.Members.{AreDisjoint, IsMemberOf, member_arc}
use Rattle.fp_model.specs.Problem.{Problem}
use Rattle.fp_model.specs.Routes.{step}
use Rattle.fp_flatnet.specs.declared.window_tables.Window.{Window}
use Rattle.fp_flatnet.specs.Tables.{WindowTable}
use Rattle.fp_dispatch.specs.declared.group_numbers.Numbers.{Numbers}
use Rattle.fp_dispatch.specs.Rising.{AreRising, IsLower, IsTask, State, companions, companions_of, most_members, place_of, value_at}
use Rattle.fp_dispatch.specs.Times.{HaveOneTime, next, window_of}
use Rattle.fp_dispatch.proofs.RoomLeft.{length-le-most_members, most_members-some}
use Rattle.fp_dispatch.proofs.RisingMoments.{CanRise, IsMemberOf-before}

-- the only element of a list
only-one : {X : Type 0} (x y : X) → Contains (x ∷ []) y → x ≡ y
only-one x y has =
    ⊎_elim
    (λ (e : x ≡ y). e)
    (λ (w : Contains [] y). absurd (omega (arith, w.1)))
    (Contains-cons_cases x [] y has)

-- groups with no member in common, whichever comes first
pub groups-apart : (groups : List (List Member)) (g h : ℕ) → AllPairs AreDisjoint groups → g < length groups → h < length groups → (g ≡ h → ⊥) →
    AreDisjoint (get_or groups g []) (get_or groups h [])
groups-apart groups g h apart first second other m one two =
    ⊎_elim
    (λ (less : g < h). apart g h [] less second m one two)
    (λ (until : h ≤ g). apart h g [] (omega (arith, until, other)) first m two one)
    (cases_lt g h)

-- what is to know of the legs that leave together with a leg: it's one of them, they are legs of the
-- routes, one number gives them one moment, and other groups have none of them
pub record AreCompanions (routes : List (List ℕ)) (groups : List (List Member)) (leg : Member) (legs : List Member) : Type 0 where
  pub has : Contains legs leg
  pub members : All (IsMemberOf routes) legs
  pub one : (times : Member → ℕ) → All (HaveOneTime times) groups → HaveOneTime times legs
  pub few : length legs ≤ most_members groups
  pub either : (g : ℕ) → g < length groups →
      ((m : Member) → Contains (get_or groups g []) m → Contains legs m) ⊎ ((m : Member) → Contains (get_or groups g []) m → Contains legs m → ⊥)

-- a group is that of each of its legs
pub AreCompanions-group : (routes : List (List ℕ)) (groups : List (List Member)) (g : ℕ) (leg : Member) → All (All (IsMemberOf routes)) groups → AllPairs AreDisjoint groups →
    g < length groups → Contains (get_or groups g []) leg → AreCompanions routes groups leg (get_or groups g [])
AreCompanions-group routes groups g leg members apart lt has = record {
  has = has;
  members = members g [] lt;
  one = λ times all. all g [] lt;
  few = length-le-most_members groups g;
  either = λ h less.
      ⊎_elim
      (λ (same : h ≡ g). inl (λ m there. subst (λ (i : ℕ). Contains (get_or groups i []) m) same there))
      (λ (other : h ≡ g → ⊥). inr (λ m there here. groups-apart groups h g apart less lt other m there here))
      (cases_eq h g);
}

-- a leg without a group leaves alone
AreCompanions-alone : (routes : List (List ℕ)) (groups : List (List Member)) (leg : Member) → IsMemberOf routes leg →
    ((g : ℕ) → g < length groups → Contains (get_or groups g []) leg → ⊥) → AreCompanions routes groups leg (leg ∷ [])
AreCompanions-alone routes groups leg is none = record {
  has = Contains-first leg [];
  members = All-cons (IsMemberOf routes) leg [] is (All-nil (IsMemberOf routes));
  one = λ times all m n first second. ap times (sym (only-one leg m first) ∙ only-one leg n second);
  few = most_members-some groups;
  either = λ g lt. inr (λ m there here. none g lt (subst (Contains (get_or groups g [])) (sym (only-one leg m here)) there));
}

companions-by : (routes : List (List ℕ)) (groups : List (List Member)) (leg : Member) → IsMemberOf routes leg → All (All (IsMemberOf routes)) groups → AllPairs AreDisjoint groups →
    (o : Option ℕ) →
    MatchOption o ((g : ℕ) → g < length groups → Contains (get_or groups g []) leg → ⊥) (λ g. (g < length groups) × Contains (get_or groups g []) leg) →
    AreCompanions routes groups leg (companions groups o leg)
companions-by routes groups leg is members apart None none = AreCompanions-alone routes groups leg is none
companions-by routes groups leg is members apart (Some g) there = AreCompanions-group routes groups g leg members apart there.0 there.1

-- the companions by the numbers of the groups
pub AreCompanions-of : (p : Problem) (windows : WindowTable) (routes : List (List ℕ)) (groups : List (List Member)) (numbers : Numbers) (leg : Member) →
    IsTask p windows routes groups numbers → IsMemberOf routes leg → AreCompanions routes groups leg (companions_of groups numbers leg)
AreCompanions-of p windows routes groups numbers leg task is =
    companions-by routes groups leg is task.members task.apart (get_or numbers.table.items (place_of numbers.width leg) None) (task.numbered leg is)

module _ (p : Problem) (windows : ℕ → ℕ → Option Window) (routes : List (List ℕ)) (groups : List (List Member)) (width : ℕ) (s : State) (leg : Member) (legs : List Member) (to : ℕ)
    (rising : AreRising p windows routes groups width (λ (m : Member). m ≡ leg) s) (onward : IsMemberOf routes (next leg))
    (are : AreCompanions routes groups (next leg) legs) (demanded : to ≡ value_at width s.values leg + step p (member_arc routes leg)) where
  -- no choice has one of the companions of the next leg leave before the moment that a leg demands
  pub IsLower-demanded : (m : Member) → Contains legs m → IsLower p windows routes groups m to
  IsLower-demanded m has d times meets =
      let together : times (next leg) ≡ times m = are.one times meets.together (next leg) m are.has has in
      let before : d * value_at width s.values leg ≤ times leg = rising.are.lower leg (IsMemberOf-before routes leg onward) d times meets in
      let rule : times leg + d * step p (member_arc routes leg) ≤ times (next leg) = meets.onward leg onward in
      let all : d * to ≡ d * (value_at width s.values leg + step p (member_arc routes leg)) = ap (λ (n : ℕ). d * n) demanded in
      omega (arith, together, before, rule, all)

  -- where they can leave at that moment, they can rise to it
  pub CanRise-demanded : value_at width s.values (next leg) ≤ to → All (λ m. IsSomeAnd (window_of windows routes m) (λ w. to ≤ w.hi)) legs →
      CanRise p windows routes groups width s legs to
  CanRise-demanded until fits = record {
    members = are.members;
    toward = λ m has.
        let all : All (HaveOneTime (value_at width s.values)) groups = λ g d lt. HaveOneTime-at groups g d lt (rising.equal g lt) in
        omega (arith, until, are.one (value_at width s.values) all (next leg) m are.has has);
    fits = fits;
    lower = IsLower-demanded;
  }
    where
      HaveOneTime-at : (gs : List (List Member)) (g : ℕ) (d : List Member) → g < length gs → HaveOneTime (value_at width s.values) (get_or gs g []) →
          HaveOneTime (value_at width s.values) (get_or gs g d)
      HaveOneTime-at [] g d lt h = absurd (omega (arith, lt))
      HaveOneTime-at (x ∷ gs) zero d lt h = h
      HaveOneTime-at (x ∷ gs) (suc g) d lt h = HaveOneTime-at gs g d (omega (arith, lt)) h
