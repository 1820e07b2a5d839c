-- Least times: there is one choice of them, there are whole ones where there are any, and what a
-- clash excludes.
use Rattle.std.proofs.Common.{◌≡◌, ◌∙◌, ℕ, zero, suc, ◌∷◌, ◌+◌, ◌*◌, ◌/◌, ◌<◌, ◌≤◌, true, false, Option, Some, None, List, [], length, get_or, ⊎_elim, refl, sym, ap, subst, arith}
use Rattle.std.specs.Prelude.{All, Contains, IfSome, IsSomeAnd, option_map}
use Rattle.std.proofs.Math.Nat.{mul-le-mul_left, le-div_iff_mul-le}
use Rattle.std.proofs.lemmas.Bool.{cases_Bool, cases_lt}
use Rattle.std.proofs.lemmas.List.Elements.{All-contains}
use Rattle.fp_model.specs.declared.parts.Member.{Member}
use Rattle.fp_model.specs.Members.{IsMemberOf, member_arc}
use Rattle.fp_model.specs.Problem.{Problem}
use Rattle.fp_model.specs.Routes.{step}
use Rattle.fp_flatnet.specs.declared.window_tables.Window.{Window}
use Rattle.fp_dispatch.specs.Rising.{AreRising, IsBetween, IsLate, State, value_at, waits_at}
use Rattle.fp_dispatch.specs.Times.{AreLeastTimes, AreTimes, HaveOneTime, HaveTimes, IsClash, next, window_of}
use Rattle.fp_dispatch.specs.declared.rising.Late.{Late}
use Rattle.fp_dispatch.proofs.RisingMoments.{IsMemberOf-before}

module _ (p : Problem) (windows : ℕ → ℕ → Option Window) (routes : List (List ℕ)) (groups : List (List Member)) where
  -- two choices of least times agree at each leg
  pub AreLeastTimes-unique : (times others : Member → ℕ) → AreLeastTimes p windows routes groups times → AreLeastTimes p windows routes groups others →
      (m : Member) → IsMemberOf routes m → times m ≡ others m
  AreLeastTimes-unique times others first second m is = omega (arith, first.least others second.are m is, second.least times first.are m is)

  -- where a leg clashes there are no times, over any denominator
  pub no_times-IsClash : (m : Member) (value : ℕ) (latest : Option ℕ) → IsClash p windows routes groups m value latest → HaveTimes p windows routes groups → ⊥
  no_times-IsClash m value latest is have =
      past (window_of windows routes m) (subst (λ (o : Option ℕ). IfSome o (λ hi. hi < value)) is.latest_is is.past) (have.3.upper m is.member)
    where
      past : (o : Option Window) → IfSome (option_map (λ (w : Window). w.hi) o) (λ hi. hi < value) → IsSomeAnd o (λ w. have.1 m ≤ have.0 * w.hi) → ⊥
      past None late until = until
      past (Some w) late until =
          let least : have.0 * value ≤ have.1 m = is.lower have.0 have.1 have.3.lower in
          let more : have.0 * (w.hi + 1) ≤ have.0 * value = mul-le-mul_left have.0 (let e : w.hi + 1 ≤ value = omega (arith, late) in e) in
          omega (arith, least, more, until, have.2)

  -- a multiple is at most a number where its factor is at most the quotient
  whole-le : (d n q : ℕ) → 1 ≤ d → d * q ≤ n → q ≤ n / d
  whole-le d n q some le = let h : 0 < d = omega (arith, some) in (le-div_iff_mul-le h).1 (let e : q * d ≤ n = omega (arith, le) in e)

  le-whole : (d n q : ℕ) → 1 ≤ d → q ≤ n / d → d * q ≤ n
  le-whole d n q some le = let h : 0 < d = omega (arith, some) in omega (arith, (le-div_iff_mul-le h).0 le)

  -- times over a denominator, cut down to whole ones, are times
  pub AreTimes-whole : (d : ℕ) (times : Member → ℕ) → 1 ≤ d → AreTimes p windows routes groups d times → AreTimes p windows routes groups 1 (λ m. times m / d)
  AreTimes-whole d times some are = record {
    lower = record {
      start = λ m is. from (window_of windows routes m) (times m) (are.lower.start m is);
      onward = λ m is.
          let within : d * (times m / d) ≤ times m = le-whole d (times m) (times m / d) some (omega arith) in
          let rule : times m + d * step p (member_arc routes m) ≤ times (next m) = are.lower.onward m is in
          let sum : d * (times m / d + step p (member_arc routes m)) ≤ times (next m) = omega (arith, within, rule) in
          omega (arith, whole-le d (times (next m)) (times m / d + step p (member_arc routes m)) some sum);
      together = λ g e lt m n first second. ap (λ (k : ℕ). k / d) (are.lower.together g e lt m n first second);
    };
    upper = λ m is. until (window_of windows routes m) (times m) (are.upper m is);
  }
    where
      from : (o : Option Window) (n : ℕ) → IfSome o (λ w. d * w.lo ≤ n) → IfSome o (λ w. 1 * w.lo ≤ n / d)
      from None n before = tt
      from (Some w) n before = omega (arith, whole-le d n w.lo some before)

      until : (o : Option Window) (n : ℕ) → IsSomeAnd o (λ w. n ≤ d * w.hi) → IsSomeAnd o (λ w. n / d ≤ 1 * w.hi)
      until None n after = after
      until (Some w) n after =
          let within : d * (n / d) ≤ n = le-whole d n (n / d) some (omega arith) in
          ⊎_elim
          (λ (late : w.hi < n / d).
          let more : d * (w.hi + 1) ≤ d * (n / d) = mul-le-mul_left d (let e : w.hi + 1 ≤ n / d = omega (arith, late) in e) in
          absurd (omega (arith, more, within, after, some)))
          (λ (in_time : n / d ≤ w.hi). omega (arith, in_time))
          (cases_lt w.hi (n / d))

  -- moments that are settled while none waits are the least whole times
  pub AreLeastTimes-settled : (width : ℕ) (s : State) → AreRising p windows routes groups width (λ (m : Member). ⊥) s → s.waiting ≡ [] →
      AreLeastTimes p windows routes groups (value_at width s.values)
  AreLeastTimes-settled width s rising none = record {
    are = record {
      lower = record {
        start = λ m is. from (window_of windows routes m) (value_at width s.values m) (rising.are.between m is);
        onward = λ m onward.
            let is : IsMemberOf routes m = IsMemberOf-before routes m onward in
            ⊎_elim
            (λ (marked : waits_at width s.waits m ≡ true).
            let there : Contains [] m = subst (λ (ms : List Member). Contains ms m) none (rising.are.queued m is marked) in
            absurd (omega (arith, there.1)))
            (λ (unmarked : waits_at width s.waits m ≡ false). omega (arith, rising.settled m (λ never. never) unmarked onward))
            (cases_Bool (waits_at width s.waits m));
        together = λ g d lt. one_at groups g d lt (rising.equal g lt);
      };
      upper = λ m is. until (window_of windows routes m) (value_at width s.values m) (rising.are.between m is);
    };
    least = λ others are m is. omega (arith, rising.are.lower m is 1 others are.lower);
  }
    where
      from : (o : Option Window) (n : ℕ) → IsSomeAnd o (IsBetween n) → IfSome o (λ w. 1 * w.lo ≤ n)
      from None n inside = tt
      from (Some w) n inside = omega (arith, inside.0)

      until : (o : Option Window) (n : ℕ) → IsSomeAnd o (IsBetween n) → IsSomeAnd o (λ w. n ≤ 1 * w.hi)
      until None n inside = inside
      until (Some w) n inside = omega (arith, inside.1)

      one_at : (gs : List (List Member)) (g : ℕ) (d : List Member) → g < length gs → HaveOneTime (value_at width s.values) (get_or gs g []) →
          HaveOneTime (value_at width s.values) (get_or gs g d)
      one_at gs g d lt h = subst (HaveOneTime (value_at width s.values)) (read gs g d lt) h
        where
          read : (xs : List (List Member)) (k : ℕ) (e : List Member) → k < length xs → get_or xs k [] ≡ get_or xs k e
          read [] k e less = absurd (omega (arith, less))
          read (x ∷ xs) zero e less = refl
          read (x ∷ xs) (suc k) e less = read xs k e (omega (arith, less))

  -- choices that agree at each leg are times together
  pub AreLeastTimes-same : (times others : Member → ℕ) → ((m : Member) → IsMemberOf routes m → others m ≡ times m) → All (All (IsMemberOf routes)) groups →
      AreLeastTimes p windows routes groups times → AreLeastTimes p windows routes groups others
  AreLeastTimes-same times others same members least = record {
    are = record {
      lower = record {
        start = λ m is. subst (λ (n : ℕ). IfSome (window_of windows routes m) (λ w. 1 * w.lo ≤ n)) (sym (same m is)) (least.are.lower.start m is);
        onward = λ m is. omega (arith, same m (IsMemberOf-before routes m is), same (next m) is, least.are.lower.onward m is);
        together = λ g d lt m n first second.
            same m (All-contains (IsMemberOf routes) (get_or groups g d) m (members g d lt) first)
            ∙ least.are.lower.together g d lt m n first second
            ∙ sym (same n (All-contains (IsMemberOf routes) (get_or groups g d) n (members g d lt) second));
      };
      upper = λ m is. subst (λ (n : ℕ). IsSomeAnd (window_of windows routes m) (λ w. n ≤ 1 * w.hi)) (sym (same m is)) (least.are.upper m is);
    };
    least = λ any are m is. omega (arith, same m is, least.least any are m is);
  }

  -- a late leg is a clash
  pub IsClash-IsLate : (late : Late) → IsLate p windows routes groups late →
      IsClash p windows routes groups (record { shipment = late.leg.shipment; leg = late.leg.leg }) late.value (option_map (λ (w : Window). w.hi) (window_of windows routes late.leg))
  IsClash-IsLate late is = record {
    member = is.member;
    lower = is.lower;
    latest_is = refl;
    past = past (window_of windows routes late.leg) is.past;
  }
    where
      past : (o : Option Window) → IfSome o (λ w. w.hi < late.value) → IfSome (option_map (λ (w : Window). w.hi) o) (λ hi. hi < late.value)
      past None is_past = tt
      past (Some w) is_past = is_past
