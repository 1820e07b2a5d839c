-- What becomes of the moments when the next leg of one is raised with its companions, and when the
-- legs of a group are raised to one moment.
use Rattle.std.proofs.Common.{◌≡◌, ◌∙◌, ℕ, zero, suc, ◌+◌, ◌*◌, ◌<◌, ◌≤◌, ◌⊎◌, true, false, Option, Some, None, List, [], ◌∷◌, length, get_or, ⊎_elim, inl, inr, refl, sym, ap, subst, arith}
use Rattle.std.specs.Prelude.{All, Contains, IfSome, IsSomeAnd}
use Rattle.std.proofs.lemmas.Bool.{cases_eq, false≢true}
use Rattle.std.proofs.lemmas.List.Elements.{All-contains}
use Rattle.fp_model.specs.declared.limits.TheConstants.{LATEST}
use Rattle.fp_model.specs.declared.parts.Member.{Member}
use Rattle.fp_model.specs.Members.{IsMemberOf, member_arc}
use Rattle.fp_model.specs.Problem.{Problem}
use Rattle.fp_model.specs.Routes.{step}
use Rattle.fp_flatnet.specs.declared.window_tables.Window.{Window}
use Rattle.fp_flatnet.specs.Tables.{WindowTable, windows_in}
use Rattle.fp_dispatch.specs.declared.group_numbers.Numbers.{Numbers}
use Rattle.fp_dispatch.specs.Rising.{AllWait, AreEqualUntil, AreLower, AreRising, IsBetween, IsLate, IsLower, IsTask, State, companions_of, measure, raised, set_each, value_at, waits_at}
use Rattle.fp_dispatch.specs.Times.{next, window_of}
use Rattle.fp_dispatch.proofs.Companions.{AreCompanions, AreCompanions-of, CanRise-demanded, IsLower-demanded, groups-apart}
use Rattle.fp_dispatch.proofs.RisingMoments.{AreLower-raised, AreRising-raised, CanRise, HaveOneTime-raised, IsMemberOf-before, measure-raised}
use Rattle.fp_dispatch.proofs.TableEntries.{place_of-lt, set_each-cases}

-- the same element, whatever stands for a missing one
read-same : {X : Type 0} (xs : List X) (k : ℕ) (d e : X) → k < length xs → get_or xs k d ≡ get_or xs k e
read-same [] k d e lt = absurd (omega (arith, lt))
read-same (x ∷ xs) zero d e lt = refl
read-same (x ∷ xs) (suc k) d e lt = read-same xs k d e (omega (arith, lt))

module _ (p : Problem) (table : WindowTable) (routes : List (List ℕ)) (groups : List (List Member)) (numbers : Numbers) (task : IsTask p table routes groups numbers) where
  -- a moment by which a leg can leave is no later than the latest time
  in-time : (m : Member) (to : ℕ) → IsMemberOf routes m → IsSomeAnd (window_of (windows_in table) routes m) (λ w. to ≤ w.hi) → to ≤ LATEST
  in-time m to is fits = both (window_of (windows_in table) routes m) (task.windows m is) fits
    where
      both : (o : Option Window) → IsSomeAnd o (λ w. w.hi ≤ LATEST) → IsSomeAnd o (λ w. to ≤ w.hi) → to ≤ LATEST
      both None last until = absurd last
      both (Some w) last until = omega (arith, last, until)

  -- a moment so far is no later either
  pub value-le-LATEST : (s : State) (m : Member) → AreLower p (windows_in table) routes groups numbers.width s → IsMemberOf routes m → value_at numbers.width s.values m ≤ LATEST
  value-le-LATEST s m are is = both (window_of (windows_in table) routes m) (are.between m is) (task.windows m is)
    where
      both : (o : Option Window) → IsSomeAnd o (IsBetween (value_at numbers.width s.values m)) → IsSomeAnd o (λ w. w.hi ≤ LATEST) → value_at numbers.width s.values m ≤ LATEST
      both None inside last = absurd inside
      both (Some w) inside last = omega (arith, inside.1, last)

  module _ (s : State) (leg : Member) (to : ℕ) (rising : AreRising p (windows_in table) routes groups numbers.width (λ (m : Member). m ≡ leg) s)
      (onward : IsMemberOf routes (next leg)) (demanded : to ≡ value_at numbers.width s.values leg + step p (member_arc routes leg))
      (late : value_at numbers.width s.values (next leg) < to) where
    -- the companions of the next leg can rise, if each can leave at the moment demanded
    pub next-raised : All (λ m. IsSomeAnd (window_of (windows_in table) routes m) (λ w. to ≤ w.hi)) (companions_of groups numbers (next leg)) →
        AreRising p (windows_in table) routes groups numbers.width (λ (m : Member). ⊥) (raised numbers.width (companions_of groups numbers (next leg)) to s)
        × (measure groups (raised numbers.width (companions_of groups numbers (next leg)) to s) ≤ measure groups s)
    next-raised fits =
        let legs : List Member = companions_of groups numbers (next leg) in
        let are : AreCompanions routes groups (next leg) legs = AreCompanions-of p table routes groups numbers (next leg) task onward in
        let can : CanRise p (windows_in table) routes groups numbers.width s legs to =
        CanRise-demanded p (windows_in table) routes groups numbers.width s leg legs to rising onward are demanded (omega (arith, late)) fits in
        let equal : AreEqualUntil groups numbers.width (length groups) (set_each numbers.width legs to s.values) =
        λ g lt.
        HaveOneTime-raised p (windows_in table) routes groups numbers.width task.wide s legs (get_or groups g []) to rising.are can (task.members g [] lt)
        (⊎_elim
        (λ (whole : (m : Member) → Contains (get_or groups g []) m → Contains legs m). inl whole)
        (λ (none : (m : Member) → Contains (get_or groups g []) m → Contains legs m → ⊥). inr (none, rising.equal g lt))
        (are.either g lt)) in
        let falls : measure groups (raised numbers.width legs to s) < measure groups s =
        measure-raised p (windows_in table) routes groups numbers.width task.wide s legs to (next leg) rising.are can are.has late
        (in-time (next leg) to onward (All-contains (λ (m : Member). IsSomeAnd (window_of (windows_in table) routes m) (λ w. to ≤ w.hi)) legs (next leg) fits are.has)) are.few in
        (AreRising-raised p (windows_in table) routes groups numbers.width task.wide s leg legs to rising can demanded are.has equal, omega (arith, falls))

    -- otherwise one of them shows that there are no times
    pub next-late : (m : Member) → Contains (companions_of groups numbers (next leg)) m → IfSome (window_of (windows_in table) routes m) (λ w. w.hi < to) →
        IsLate p (windows_in table) routes groups (record { leg = m; value = to })
    next-late m has past =
        let are : AreCompanions routes groups (next leg) (companions_of groups numbers (next leg)) = AreCompanions-of p table routes groups numbers (next leg) task onward in
        record {
          member = All-contains (IsMemberOf routes) (companions_of groups numbers (next leg)) m are.members has;
          lower = IsLower-demanded p (windows_in table) routes groups numbers.width s leg (companions_of groups numbers (next leg)) to rising onward are demanded m has;
          past = past;
        }

  -- no choice has a leg of a group leave before the greatest moment of the group's legs
  greatest-lower : (s : State) (g to : ℕ) → AreLower p (windows_in table) routes groups numbers.width s → g < length groups →
      ((to ≡ 0) ⊎ ((m : Member) × Contains (get_or groups g []) m × (value_at numbers.width s.values m ≡ to))) →
      (m : Member) → Contains (get_or groups g []) m → IsLower p (windows_in table) routes groups m to
  greatest-lower s g to are lt one m has d times meets =
      ⊎_elim
      (λ (none : to ≡ 0). let zero_times : d * to ≡ d * 0 = ap (λ (k : ℕ). d * k) none in omega (arith, zero_times))
      (λ (w : (n : Member) × Contains (get_or groups g []) n × (value_at numbers.width s.values n ≡ to)).
      let is : IsMemberOf routes w.0 = All-contains (IsMemberOf routes) (get_or groups g []) w.0 (task.members g [] lt) w.1 in
      let least : d * value_at numbers.width s.values w.0 ≤ times w.0 = are.lower w.0 is d times meets in
      let same : d * value_at numbers.width s.values w.0 ≡ d * to = ap (λ (k : ℕ). d * k) w.2 in
      let together : times w.0 ≡ times m = meets.together g [] lt w.0 m w.1 has in
      omega (arith, least, same, together))
      one

  module _ (s : State) (g to : ℕ) (are : AreLower p (windows_in table) routes groups numbers.width s) (lt : g < length groups)
      (most : All (λ m. value_at numbers.width s.values m ≤ to) (get_or groups g []))
      (one : (to ≡ 0) ⊎ ((m : Member) × Contains (get_or groups g []) m × (value_at numbers.width s.values m ≡ to))) where
    group-can : All (λ m. IsSomeAnd (window_of (windows_in table) routes m) (λ w. to ≤ w.hi)) (get_or groups g []) →
        CanRise p (windows_in table) routes groups numbers.width s (get_or groups g []) to
    group-can fits = record {
      members = task.members g [] lt;
      toward = λ m has. All-contains (λ (n : Member). value_at numbers.width s.values n ≤ to) (get_or groups g []) m most has;
      fits = fits;
      lower = greatest-lower s g to are lt one;
    }

    -- the legs of a group at their greatest moment
    pub group-raised : All (λ m. IsSomeAnd (window_of (windows_in table) routes m) (λ w. to ≤ w.hi)) (get_or groups g []) →
        AllWait routes numbers.width s → AreEqualUntil groups numbers.width g s.values →
        AreLower p (windows_in table) routes groups numbers.width (raised numbers.width (get_or groups g []) to s)
        × AllWait routes numbers.width (raised numbers.width (get_or groups g []) to s)
        × AreEqualUntil groups numbers.width (g + 1) (set_each numbers.width (get_or groups g []) to s.values)
    group-raised fits wait equal = (
      AreLower-raised p (windows_in table) routes groups numbers.width task.wide s (get_or groups g []) to are (group-can fits),
      (λ m is.
          ⊎_elim
          (λ (kept : waits_at numbers.width (set_each numbers.width (get_or groups g []) true s.waits) m ≡ waits_at numbers.width s.waits m). kept ∙ wait m is)
          (λ w. w.3)
          (set_each-cases numbers.width (get_or groups g []) true s.waits _ false (omega (arith, place_of-lt routes numbers.width m task.wide is, are.waits)))),
      (λ h less.
          let before : h < length groups = omega (arith, less, lt) in
          HaveOneTime-raised p (windows_in table) routes groups numbers.width task.wide s (get_or groups g []) (get_or groups h []) to are (group-can fits) (task.members h [] before)
          (⊎_elim
          (λ (same : h ≡ g). inl (λ m has. subst (λ (i : ℕ). Contains (get_or groups i []) m) same has))
          (λ (other : h ≡ g → ⊥). inr (groups-apart groups h g task.apart before lt other, equal h (omega (arith, less, other))))
          (cases_eq h g))),
    )

    -- where one of them can't leave at it, there are no times
    pub group-late : (m : Member) → Contains (get_or groups g []) m → IfSome (window_of (windows_in table) routes m) (λ w. w.hi < to) →
        IsLate p (windows_in table) routes groups (record { leg = m; value = to })
    group-late m has past = record {
      member = All-contains (IsMemberOf routes) (get_or groups g []) m (task.members g [] lt) has;
      lower = greatest-lower s g to are lt one m has;
      past = past;
    }

  -- when all wait, and each group has one moment, each leg waits or is settled
  pub AreRising-gathered : (s : State) → AreLower p (windows_in table) routes groups numbers.width s → AllWait routes numbers.width s →
      AreEqualUntil groups numbers.width (length groups) s.values → AreRising p (windows_in table) routes groups numbers.width (λ (m : Member). ⊥) s
  AreRising-gathered s are wait equal = record {
    are = are;
    equal = equal;
    settled = λ m never unmarked onward. absurd (false≢true (sym unmarked ∙ wait m (IsMemberOf-before routes m onward)));
  }
