-- What a raising of the legs of a group answers, as the groups are gathered and as legs are looked
-- at.
use Rattle.std.proofs.Common.{◌≡◌, ℕ, ◌+◌, ◌<◌, ◌≤◌, ◌⊎◌, Option, Some, None, List, [], length, get_or, sym, subst}
use Rattle.std.specs.Prelude.{All, Contains}
use Rattle.fp_model.specs.declared.parts.Member.{Member}
use Rattle.fp_model.specs.Members.{IsMemberOf, member_arc}
use Rattle.fp_model.specs.Problem.{Problem}
use Rattle.fp_model.specs.Routes.{step}
use Rattle.fp_flatnet.specs.Tables.{WindowTable, windows_in}
use Rattle.fp_dispatch.specs.declared.group_numbers.Numbers.{Numbers}
use Rattle.fp_dispatch.specs.Rising.{AllWait, AreEqualUntil, AreLower, AreRising, IsLate, IsRaising, IsTask, State, companions_of, measure, value_at}
use Rattle.fp_dispatch.specs.Times.{next}
use Rattle.fp_dispatch.proofs.NextLegs.{group-late, group-raised, next-late, next-raised}

-- all wait, and so many groups have one moment each
pub record AreGathered (p : Problem) (table : WindowTable) (routes : List (List ℕ)) (groups : List (List Member)) (width count : ℕ) (s : State) : Type 0 where
  pub lower : AreLower p (windows_in table) routes groups width s
  pub waits : AllWait routes width s
  pub equal : AreEqualUntil groups width count s.values

module _ (p : Problem) (table : WindowTable) (routes : List (List ℕ)) (groups : List (List Member)) (numbers : Numbers) (task : IsTask p table routes groups numbers) where
  module _ (s new : State) (g to : ℕ) (first second : List Member) (o : Option Member) (are : AreLower p (windows_in table) routes groups numbers.width s) (lt : g < length groups)
      (is_first : get_or groups g [] ≡ first) (is_second : get_or groups g [] ≡ second)
      (most : All (λ m. value_at numbers.width s.values m ≤ to) first)
      (one : (to ≡ 0) ⊎ ((m : Member) × Contains first m × (value_at numbers.width s.values m ≡ to)))
      (raising : IsRaising (windows_in table) routes numbers.width second to s new o) where
    group-most : All (λ m. value_at numbers.width s.values m ≤ to) (get_or groups g [])
    group-most = subst (All (λ m. value_at numbers.width s.values m ≤ to)) (sym is_first) most

    group-one : (to ≡ 0) ⊎ ((m : Member) × Contains (get_or groups g []) m × (value_at numbers.width s.values m ≡ to))
    group-one = subst (λ (ms : List Member). (to ≡ 0) ⊎ ((m : Member) × Contains ms m × (value_at numbers.width s.values m ≡ to))) (sym is_first) one

    pub gathered-late : (m : Member) → o ≡ Some m → IsLate p (windows_in table) routes groups (record { leg = m; value = to })
    gathered-late m is =
        let r : IsRaising (windows_in table) routes numbers.width (get_or groups g []) to s new (Some m) =
        subst (λ (ms : List Member). IsRaising (windows_in table) routes numbers.width ms to s new (Some m)) (sym is_second)
        (subst (IsRaising (windows_in table) routes numbers.width second to s new) is raising) in
        group-late p table routes groups numbers task s g to are lt group-most group-one m r.0 r.1

    pub gathered-next : o ≡ None → AllWait routes numbers.width s → AreEqualUntil groups numbers.width g s.values →
        AreGathered p table routes groups numbers.width (g + 1) new
    gathered-next is wait equal =
        let r : IsRaising (windows_in table) routes numbers.width (get_or groups g []) to s new None =
        subst (λ (ms : List Member). IsRaising (windows_in table) routes numbers.width ms to s new None) (sym is_second)
        (subst (IsRaising (windows_in table) routes numbers.width second to s new) is raising) in
        let made = group-raised p table routes groups numbers task s g to are lt group-most group-one r.1 wait equal in
        subst (AreGathered p table routes groups numbers.width (g + 1)) (sym r.0) (record { lower = made.0; waits = made.1; equal = made.2 })

  module _ (s new : State) (leg : Member) (to : ℕ) (o : Option Member) (rising : AreRising p (windows_in table) routes groups numbers.width (λ (m : Member). m ≡ leg) s)
      (onward : IsMemberOf routes (next leg)) (demanded : to ≡ value_at numbers.width s.values leg + step p (member_arc routes leg))
      (late : value_at numbers.width s.values (next leg) < to)
      (raising : IsRaising (windows_in table) routes numbers.width (companions_of groups numbers (next leg)) to s new o) where
    pub demanded-late : (m : Member) → o ≡ Some m → IsLate p (windows_in table) routes groups (record { leg = m; value = to })
    demanded-late m is =
        let r : IsRaising (windows_in table) routes numbers.width (companions_of groups numbers (next leg)) to s new (Some m) =
        subst (IsRaising (windows_in table) routes numbers.width (companions_of groups numbers (next leg)) to s new) is raising in
        next-late p table routes groups numbers task s leg to rising onward demanded late m r.0 r.1

    pub demanded-next : o ≡ None → AreRising p (windows_in table) routes groups numbers.width (λ (m : Member). ⊥) new × (measure groups new ≤ measure groups s)
    demanded-next is =
        let r : IsRaising (windows_in table) routes numbers.width (companions_of groups numbers (next leg)) to s new None =
        subst (IsRaising (windows_in table) routes numbers.width (companions_of groups numbers (next leg)) to s new) is raising in
        subst (λ (t : State). AreRising p (windows_in table) routes groups numbers.width (λ (m : Member). ⊥) t × (measure groups t ≤ measure groups s)) (sym r.0)
        (next-raised p table routes groups numbers task s leg to rising onward demanded late r.1)
