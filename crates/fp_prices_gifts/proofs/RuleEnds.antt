-- The money rule with gifts holds at every class where it does at those at which runs of spans and gifts begin and end.
use Rattle.std.proofs.Common.{◌≡◌, ℕ, ◌+◌, ◌*◌, ◌<◌, ◌≤◌, Bool, true, false, ◌&&◌, ◌||◌, List, [], ◌∷◌, ◌++◌, ◌⊎◌, ⊎_elim, inl, inr, refl, sym, ap, ap₂, ◌∙◌, subst, arith}
use Rattle.std.specs.Prelude.{nat_eq, nat_le, nat_lt, not, if◌then◌else◌}
use Rattle.std.specs.List.{AllByRecursion}
use Rattle.std.proofs.lemmas.Bool.{cases_Bool, cases_lt, eq-eqb, eqb-true, false≢true, le-leb, le-ltb, lt-leb, lt-ltb, or_left, or_right}
use Rattle.std.proofs.lemmas.List.Sums.{sum_by-cons}
use Rattle.fp_base_lists.specs.Membership.{list_has}
use Rattle.fp_base_lists.proofs.Elements.{AllByRecursion-append}
use Rattle.fp_base_lists.proofs.Membership.{AllByRecursion-list_has, list_has-append, list_has-first, list_has-rest}
use Rattle.fp_model.specs.declared.parts.Leg.{Leg}
use Rattle.fp_model.specs.Problem.{Problem, arc_at}
use Rattle.fp_timenodes.specs.Floor.{floor_point}
use Rattle.fp_timenodes.proofs.Floors.{IsFloorPoint-floor_point, floor_greatest, floor_le}
use Rattle.fp_prices_spans.specs.Spans.{ClassSpan}
use Rattle.fp_prices_spans.specs.SpanPrices.{holds, is_held, money_at}
use Rattle.fp_prices_gifts.specs.declared.gifts.Gift.{Gift}
use Rattle.fp_prices_gifts.specs.Gifts.{KeepsAt, KeepsAtEnds, gives_at, least_at, most_at}

-- a run, of the arc, begins and ends at one of some times
abbrev pub EndsAmong : List ℕ → (arc own point until : ℕ) → Type 0
EndsAmong times arc own point until = own ≡ arc → (list_has times point ≡ true) × (list_has times until ≡ true)

module _ (times : List ℕ) (arc m : ℕ) where
  -- the last of the times that isn't after a moment
  abbrev last : ℕ
  last = floor_point times 1 m

  -- a time isn't after the moment exactly where it isn't after the last one
  not_after : (time : ℕ) → list_has times time ≡ true → nat_le time m ≡ nat_le time last
  not_after time there =
      ⊎_elim
      (λ (late : m < time). lt-leb time m late ∙ sym (lt-leb time last (omega (arith, late, floor_le times 1 m))))
      (λ (early : time ≤ m). le-leb time m early ∙ sym (le-leb time last (floor_greatest times 1 m time there (omega (arith, early)))))
      (cases_lt m time)

  is_before : (time : ℕ) → list_has times time ≡ true → nat_lt m time ≡ nat_lt last time
  is_before time there =
      ⊎_elim
      (λ (late : m < time). lt-ltb m time late ∙ sym (lt-ltb last time (omega (arith, late, floor_le times 1 m))))
      (λ (early : time ≤ m). le-ltb m time early ∙ sym (le-ltb last time (floor_greatest times 1 m time there (omega (arith, early)))))
      (cases_lt m time)

  abbrev here : Leg
  here = record { arc = arc; depart = m }

  abbrev there : Leg
  there = record { arc = arc; depart = last }

  -- a run has the class of the moment exactly where it has the class of the last time
  run-alike : (own point until : ℕ) → EndsAmong times arc own point until → (nat_eq own arc && (nat_le point m && nat_lt m until)) ≡ (nat_eq own arc && (nat_le point last && nat_lt last until))
  run-alike own point until ends =
      ⊎_elim
      (λ (same : nat_eq own arc ≡ true).
      let are = ends (eqb-true own arc same) in
      ap₂ (λ (a b : Bool). nat_eq own arc && (a && b)) (not_after point are.0) (is_before until are.1))
      (λ (other : nat_eq own arc ≡ false). rw other refl)
      (cases_Bool (nat_eq own arc))

  -- so the same spans hold for both
  held-alike : (spans : List ClassSpan) → AllByRecursion (λ (span : ClassSpan). EndsAmong times arc span.arc span.point span.until) spans → is_held spans here ≡ is_held spans there
  held-alike [] ends = refl
  held-alike (span ∷ spans) ends = ap₂ (λ (a b : Bool). a || b) (run-alike span.arc span.point span.until ends.0) (held-alike spans ends.1)

  money-alike : (spans : List ClassSpan) → AllByRecursion (λ (span : ClassSpan). EndsAmong times arc span.arc span.point span.until) spans → money_at spans here ≡ money_at spans there
  money-alike [] ends = refl
  money-alike (span ∷ spans) ends =
      sum_by-cons (λ (s : ClassSpan). if holds s here then s.money else 0) span spans
      ∙ ap₂ (λ (b : Bool) (n : ℕ). (if b then span.money else 0) + n) (run-alike span.arc span.point span.until ends.0) (money-alike spans ends.1)
      ∙ sym (sum_by-cons (λ (s : ClassSpan). if holds s there then s.money else 0) span spans)

  -- and the same gifts are given
  least-alike : (gifts : List Gift) → AllByRecursion (λ (gift : Gift). EndsAmong times arc gift.arc gift.point gift.until) gifts → least_at gifts here ≡ least_at gifts there
  least-alike [] ends = refl
  least-alike (gift ∷ gifts) ends =
      sum_by-cons (λ (g : Gift). if g.least && gives_at g here then g.amount else 0) gift gifts
      ∙ ap₂ (λ (b : Bool) (n : ℕ). (if gift.least && b then gift.amount else 0) + n) (run-alike gift.arc gift.point gift.until ends.0) (least-alike gifts ends.1)
      ∙ sym (sum_by-cons (λ (g : Gift). if g.least && gives_at g there then g.amount else 0) gift gifts)

  most-alike : (gifts : List Gift) → AllByRecursion (λ (gift : Gift). EndsAmong times arc gift.arc gift.point gift.until) gifts → most_at gifts here ≡ most_at gifts there
  most-alike [] ends = refl
  most-alike (gift ∷ gifts) ends =
      sum_by-cons (λ (g : Gift). if not g.least && gives_at g here then g.amount else 0) gift gifts
      ∙ ap₂ (λ (b : Bool) (n : ℕ). (if not gift.least && b then gift.amount else 0) + n) (run-alike gift.arc gift.point gift.until ends.0) (most-alike gifts ends.1)
      ∙ sym (sum_by-cons (λ (g : Gift). if not g.least && gives_at g there then g.amount else 0) gift gifts)

  -- so the rule holds at the moment where it does at the last time
  pub keeps-alike : (p : Problem) (spans : List ClassSpan) (gifts : List Gift) → AllByRecursion (λ (span : ClassSpan). EndsAmong times arc span.arc span.point span.until) spans →
      AllByRecursion (λ (gift : Gift). EndsAmong times arc gift.arc gift.point gift.until) gifts → KeepsAt p spans gifts there → KeepsAt p spans gifts here
  keeps-alike p spans gifts are given rule =
      let truck : ℕ = p.scale * (arc_at p arc).truck in
      let paid : (if is_held spans here then money_at spans here else truck) ≡ (if is_held spans there then money_at spans there else truck) =
      ap₂ (λ (b : Bool) (n : ℕ). if b then n else truck) (held-alike spans are) (money-alike spans are) in
      omega (arith, rule, paid, least-alike gifts given, most-alike gifts given)

-- the times at which runs of the arc begin and end
abbrev pub span_times : ℕ → List ClassSpan → List ℕ
span_times arc [] = []
span_times arc (span ∷ spans) = if nat_eq span.arc arc then span.point ∷ span.until ∷ span_times arc spans else span_times arc spans

abbrev pub gift_times : ℕ → List Gift → List ℕ
gift_times arc [] = []
gift_times arc (gift ∷ gifts) = if nat_eq gift.arc arc then gift.point ∷ gift.until ∷ gift_times arc gifts else gift_times arc gifts

-- a list with two more numbers, or without them
first-had : (b : Bool) (point until : ℕ) (rest : List ℕ) → b ≡ true → list_has (if b then point ∷ until ∷ rest else rest) point ≡ true
first-had true point until rest is = list_has-first point (until ∷ rest)
first-had false point until rest is = absurd (false≢true is)

second-had : (b : Bool) (point until : ℕ) (rest : List ℕ) → b ≡ true → list_has (if b then point ∷ until ∷ rest else rest) until ≡ true
second-had true point until rest is = list_has-rest point (until ∷ rest) until (list_has-first until rest)
second-had false point until rest is = absurd (false≢true is)

rest-had : (b : Bool) (point until : ℕ) (rest : List ℕ) (time : ℕ) → list_has rest time ≡ true → list_has (if b then point ∷ until ∷ rest else rest) time ≡ true
rest-had true point until rest time h = list_has-rest point (until ∷ rest) time (list_has-rest until rest time h)
rest-had false point until rest time h = h

-- what holds of both where they are there holds of the list where it does of the rest
all-had : (P : ℕ → Type 0) (b : Bool) (point until : ℕ) (rest : List ℕ) → (b ≡ true → P point × P until) → AllByRecursion P rest → AllByRecursion P (if b then point ∷ until ∷ rest else rest)
all-had P true point until rest both all = let two = both refl in (two.0, (two.1, all))
all-had P false point until rest both all = all

module _ (p : Problem) (spans : List ClassSpan) (gifts : List Gift) (arc : ℕ) where
  -- the rule at a class of the arc
  abbrev At : ℕ → Type 0
  At m = KeepsAt p spans gifts (record { arc = arc; depart = m })

  -- what is known at the ends of a run of the arc
  known-at : (own point until : ℕ) → KeepsAtEnds p spans gifts own point until → nat_eq own arc ≡ true → At 0 × At point × At until
  known-at own point until keeps same = subst (λ (a : ℕ). KeepsAtEnds p spans gifts a point until) (eqb-true own arc same) keeps

  spans-known : (some : List ClassSpan) → AllByRecursion (λ (s : ClassSpan). KeepsAtEnds p spans gifts s.arc s.point s.until) some → AllByRecursion At (span_times arc some)
  spans-known [] all = tt
  spans-known (s ∷ some) all =
      all-had At (nat_eq s.arc arc) s.point s.until (span_times arc some) (λ same. let at = known-at s.arc s.point s.until all.0 same in (at.1, at.2)) (spans-known some all.1)

  gifts-known : (some : List Gift) → AllByRecursion (λ (g : Gift). KeepsAtEnds p spans gifts g.arc g.point g.until) some → AllByRecursion At (gift_times arc some)
  gifts-known [] all = tt
  gifts-known (g ∷ some) all =
      all-had At (nat_eq g.arc arc) g.point g.until (gift_times arc some) (λ same. let at = known-at g.arc g.point g.until all.0 same in (at.1, at.2)) (gifts-known some all.1)

  -- all spans of the arc begin and end at such times
  spans-among : (times : List ℕ) (some : List ClassSpan) → ((t : ℕ) → list_has (span_times arc some) t ≡ true → list_has times t ≡ true) →
      AllByRecursion (λ (s : ClassSpan). EndsAmong times arc s.arc s.point s.until) some
  spans-among times [] sub = tt
  spans-among times (s ∷ some) sub = (
    λ same. (
      sub s.point (first-had (nat_eq s.arc arc) s.point s.until (span_times arc some) (eq-eqb s.arc arc same)),
      sub s.until (second-had (nat_eq s.arc arc) s.point s.until (span_times arc some) (eq-eqb s.arc arc same)),
    ),
    spans-among times some (λ t h. sub t (rest-had (nat_eq s.arc arc) s.point s.until (span_times arc some) t h)),
  )

  gifts-among : (times : List ℕ) (some : List Gift) → ((t : ℕ) → list_has (gift_times arc some) t ≡ true → list_has times t ≡ true) →
      AllByRecursion (λ (g : Gift). EndsAmong times arc g.arc g.point g.until) some
  gifts-among times [] sub = tt
  gifts-among times (g ∷ some) sub = (
    λ same. (
      sub g.point (first-had (nat_eq g.arc arc) g.point g.until (gift_times arc some) (eq-eqb g.arc arc same)),
      sub g.until (second-had (nat_eq g.arc arc) g.point g.until (gift_times arc some) (eq-eqb g.arc arc same)),
    ),
    gifts-among times some (λ t h. sub t (rest-had (nat_eq g.arc arc) g.point g.until (gift_times arc some) t h)),
  )

  -- some run is of the arc, so that the rule is known at 0, or none is
  spans-at_zero : (some : List ClassSpan) → AllByRecursion (λ (s : ClassSpan). KeepsAtEnds p spans gifts s.arc s.point s.until) some → At 0 ⊎ AllByRecursion (λ (s : ClassSpan). nat_eq s.arc arc ≡ false) some
  spans-at_zero [] all = inr tt
  spans-at_zero (s ∷ some) all =
      ⊎_elim
      (λ (same : nat_eq s.arc arc ≡ true). inl (known-at s.arc s.point s.until all.0 same).0)
      (λ (other : nat_eq s.arc arc ≡ false). ⊎_elim (λ (at : At 0). inl at) (λ none. inr (other, none)) (spans-at_zero some all.1))
      (cases_Bool (nat_eq s.arc arc))

  gifts-at_zero : (some : List Gift) → AllByRecursion (λ (g : Gift). KeepsAtEnds p spans gifts g.arc g.point g.until) some → At 0 ⊎ AllByRecursion (λ (g : Gift). nat_eq g.arc arc ≡ false) some
  gifts-at_zero [] all = inr tt
  gifts-at_zero (g ∷ some) all =
      ⊎_elim
      (λ (same : nat_eq g.arc arc ≡ true). inl (known-at g.arc g.point g.until all.0 same).0)
      (λ (other : nat_eq g.arc arc ≡ false). ⊎_elim (λ (at : At 0). inl at) (λ none. inr (other, none)) (gifts-at_zero some all.1))
      (cases_Bool (nat_eq g.arc arc))

  -- where none is, nothing is held and nothing given
  none-held : (some : List ClassSpan) (m : ℕ) → AllByRecursion (λ (s : ClassSpan). nat_eq s.arc arc ≡ false) some → is_held some (record { arc = arc; depart = m }) ≡ false
  none-held [] m none = refl
  none-held (s ∷ some) m none =
      ap₂ (λ (a b : Bool). (a && (nat_le s.point m && nat_lt m s.until)) || b) none.0 (none-held some m none.1)

  none-least : (some : List Gift) (m : ℕ) → AllByRecursion (λ (g : Gift). nat_eq g.arc arc ≡ false) some → least_at some (record { arc = arc; depart = m }) ≡ 0
  none-least [] m none = refl
  none-least (g ∷ some) m none =
      sum_by-cons (λ (h : Gift). if h.least && gives_at h (record { arc = arc; depart = m }) then h.amount else 0) g some
      ∙ ap₂ (λ (a : Bool) (n : ℕ). (if g.least && (a && (nat_le g.point m && nat_lt m g.until)) then g.amount else 0) + n) none.0 (none-least some m none.1) ∙ nothing g.least g.amount
    where
      nothing : (b : Bool) (amount : ℕ) → (if b && false then amount else 0) + 0 ≡ 0
      nothing true amount = refl
      nothing false amount = refl

  -- so the rule holds at every class of the arc
  pub keeps-arc : (m : ℕ) → AllByRecursion (λ (s : ClassSpan). KeepsAtEnds p spans gifts s.arc s.point s.until) spans →
      AllByRecursion (λ (g : Gift). KeepsAtEnds p spans gifts g.arc g.point g.until) gifts → At m
  keeps-arc m by_spans by_gifts =
      ⊎_elim
      with_zero
      (λ (no_spans : AllByRecursion (λ (s : ClassSpan). nat_eq s.arc arc ≡ false) spans).
      ⊎_elim
      with_zero
      (λ (no_gifts : AllByRecursion (λ (g : Gift). nat_eq g.arc arc ≡ false) gifts).
      let truck : ℕ = p.scale * (arc_at p arc).truck in
      let class : Leg = record { arc = arc; depart = m } in
      let paid : (if is_held spans class then money_at spans class else truck) ≡ truck = ap (λ (b : Bool). if b then money_at spans class else truck) (none-held spans m no_spans) in
      omega (arith, paid, none-least gifts m no_gifts))
      (gifts-at_zero gifts by_gifts))
      (spans-at_zero spans by_spans)
    where
      times : List ℕ
      times = 0 ∷ (span_times arc spans ++ gift_times arc gifts)

      in_front : (t : ℕ) → list_has (span_times arc spans) t ≡ true → list_has times t ≡ true
      in_front t h =
          list_has-rest 0 (span_times arc spans ++ gift_times arc gifts) t
          (list_has-append (span_times arc spans) (gift_times arc gifts) t ∙ or_left (list_has (span_times arc spans) t) (list_has (gift_times arc gifts) t) h)

      behind : (t : ℕ) → list_has (gift_times arc gifts) t ≡ true → list_has times t ≡ true
      behind t h =
          list_has-rest 0 (span_times arc spans ++ gift_times arc gifts) t
          (list_has-append (span_times arc spans) (gift_times arc gifts) t ∙ or_right (list_has (span_times arc spans) t) (list_has (gift_times arc gifts) t) h)

      with_zero : At 0 → At m
      with_zero zero_at =
          keeps-alike times arc m p spans gifts (spans-among times spans in_front) (gifts-among times gifts behind)
          (AllByRecursion-list_has At times (floor_point times 1 m)
          (zero_at, AllByRecursion-append At (span_times arc spans) (gift_times arc gifts) (spans-known spans by_spans) (gifts-known gifts by_gifts))
          (IsFloorPoint-floor_point times m (list_has-first 0 (span_times arc spans ++ gift_times arc gifts))).0)
