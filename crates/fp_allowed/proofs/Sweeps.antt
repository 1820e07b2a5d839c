-- Values of terminals that are bettered arc by arc: they stay good, and less is left each time.
use Rattle.std.proofs.Common.{◌≡◌, ℕ, ◌+◌, ◌*◌, ◌<◌, ◌≤◌, Bool, true, false, ◌||◌, List, [], ◌∷◌, length, get_or-set_same, get_or-set_other, ⊎_elim, refl, sym, ap, ◌∙◌, subst, arith}
use Rattle.std.specs.Prelude.{◌≢◌, Option, Some, None, MatchBool, IfSome, IsSomeAnd, Contains, sum_by, slice_set}
use Rattle.std.proofs.lemmas.List.{length-set}
use Rattle.std.proofs.lemmas.Bool.{cases_eq, cases_lt}
use Rattle.std.proofs.lemmas.List.Elements.{Contains-append_left, Contains-append_right}
use Rattle.std.proofs.lemmas.List.Sums.{sum_by-set}
use Rattle.fp_model.specs.declared.parts.Leg.{Leg}
use Rattle.fp_model.specs.declared.parts.Arc.{Arc}
use Rattle.fp_model.specs.Problem.{Problem, arc_at, no_arc}
use Rattle.fp_model.specs.Routes.{LeavesReady, step}
use Rattle.fp_allowed.specs.declared.free_moments.Asked.{Asked}
use Rattle.fp_allowed.specs.FreeMoments.{CanLeave, IsAsked, IsFirst, IsLast, LeavesFrom, LeavesInTime}
use Rattle.fp_allowed.specs.Sweeps.{AllBelow, AreOnward, AreReady, Betters, CanBeReady, GoesOn, HasAll, IsAtLeast, IsAtMost, IsOnward, IsSet, IsStableFrom, IsStableTo, asked_for, left_above, left_below, value_at}

module _ (Good : List (Option ℕ) → Type 0) (left : Option ℕ → ℕ) (Stable : List (Option ℕ) → ℕ → Type 0) where
  -- before the first arc
  pub betters_none : (values : List (Option ℕ)) → Betters Good left (AllBelow Stable 0) values values false
  betters_none values = record { good = λ good. good; less = (refl, λ a below. absurd (omega (arith, below))) }

  -- one arc more
  pub betters_more : (n : ℕ) (start mid new : List (Option ℕ)) (changed now : Bool) → Betters Good left (AllBelow Stable n) start mid changed → Betters Good left (λ values. Stable values n) mid new now →
      Betters Good left (AllBelow Stable (n + 1)) start new (changed || now)
  betters_more n start mid new changed now first second =
      record { good = λ good. second.good (first.good good); less = both changed now first.less second.less }
    where
      both : (changed now : Bool) → MatchBool changed (sum_by left mid < sum_by left start) ((mid ≡ start) × AllBelow Stable n start) →
          MatchBool now (sum_by left new < sum_by left mid) ((new ≡ mid) × Stable mid n) → MatchBool (changed || now) (sum_by left new < sum_by left start) ((new ≡ start) × AllBelow Stable (n + 1) start)
      both true true less more = let a : sum_by left new < sum_by left mid = more in let b : sum_by left mid < sum_by left start = less in omega (arith, a, b)
      both true false less same = subst (λ (l : List (Option ℕ)). sum_by left l < sum_by left start) (sym same.0) less
      both false true same less = subst (λ (l : List (Option ℕ)). sum_by left new < sum_by left l) same.0 less
      both false false one two = (
        two.0 ∙ one.0,
        λ a below.
            ⊎_elim
            (λ (earlier : a < n). one.1 a earlier)
            (λ (late : n ≤ a). let here : n ≡ a = omega (arith, late, below) in subst (λ (k : ℕ). Stable start k) here (subst (λ (l : List (Option ℕ)). Stable l n) one.0 two.1))
            (cases_lt a n),
      )

  -- all arcs
  pub betters_all : (n m : ℕ) (old new : List (Option ℕ)) (changed : Bool) → n ≡ m → Betters Good left (AllBelow Stable n) old new changed → Betters Good left (AllBelow Stable m) old new changed
  betters_all n m old new changed same is = subst (λ (k : ℕ). Betters Good left (AllBelow Stable k) old new changed) same is

-- the value of the terminal that is set, and those of the others
pub value_at-set_same : (values : List (Option ℕ)) (t : ℕ) (o : Option ℕ) → t < length values → value_at (slice_set values t o) t ≡ o
value_at-set_same values t o lt = get_or-set_same values t o None lt

pub value_at-set_other : (values : List (Option ℕ)) (t u : ℕ) (o : Option ℕ) → (u ≢ t) → value_at (slice_set values t o) u ≡ value_at values u
value_at-set_other values t u o apart = get_or-set_other values t u o None apart

-- less is left where a value is set to one of which less is left
set-less : (left : Option ℕ → ℕ) (values : List (Option ℕ)) (t : ℕ) (o : Option ℕ) → t < length values → left o < left (value_at values t) → sum_by left (slice_set values t o) < sum_by left values
set-less left values t o lt less = omega (arith, less, sum_by-set left values t o None lt)

below-less : (o : Option ℕ) (to : ℕ) → to < 4294967296 → (IsAtMost o to → ⊥) → left_below (Some to) < left_below o
below-less None to fits more = fits
below-less (Some v) to fits more =
    ⊎_elim (λ (less : to < v). less) (λ (le : v ≤ to). absurd (more le)) (cases_lt to v)

above-less : (o : Option ℕ) (to : ℕ) → to < 4294967296 → (IsAtLeast o to → ⊥) → left_above (Some to) < left_above o
above-less None to fits less = omega (arith, fits)
above-less (Some v) to fits less =
    ⊎_elim (λ (more : v < to). omega (arith, more, fits)) (λ (le : to ≤ v). absurd (less le)) (cases_lt v to)

-- legs that leave when they can from a moment on do so from an earlier one on
leaves_ready-earlier : (p : Problem) (ready earlier : ℕ) (legs : List Leg) → earlier ≤ ready → LeavesReady p 1 ready legs → LeavesReady p 1 earlier legs
leaves_ready-earlier p ready earlier [] le leaves = tt
leaves_ready-earlier p ready earlier (l ∷ legs) le leaves = let h : ready ≤ l.depart = leaves.0 in let e : earlier ≤ l.depart = omega (arith, le, h) in (e, leaves.1)

-- legs of which one more is the first
contains_more : (l first : Leg) (legs : List Leg) → Contains legs l → Contains (first ∷ legs) l
contains_more l first legs has = Contains-append_right (first ∷ []) legs l has

-- a value that is at most, or at least, some moment is so far a later one, or an earlier one
pub at-most_later : (o : Option ℕ) (n m : ℕ) → IsAtMost o n → n ≤ m → IsSomeAnd o (λ r. r ≤ m)
at-most_later None n m is le = absurd is
at-most_later (Some r) n m is le = let h : r ≤ n = is in let e : r ≤ m = omega (arith, h, le) in e

pub at-least_earlier : (o : Option ℕ) (n m : ℕ) → IsAtLeast o n → m ≤ n → IsSomeAnd o (λ u. m ≤ u)
at-least_earlier None n m is le = absurd is
at-least_earlier (Some u) n m is le = let h : n ≤ u = is in let e : m ≤ u = omega (arith, h, le) in e

module _ (q : Asked) (a : ℕ) (exists : a < length q.instance.now.arcs) where
  -- one leg by the arc, and then others that lead on from its head
  pub onward_cons : (m ready next : ℕ) (legs : List Leg) → CanLeave q a m → ready ≤ m → m + step q.instance.now a ≤ next → IsOnward q (arc_at q.instance.now a).to next legs →
      IsOnward q (arc_at q.instance.now a).from ready (record { arc = a; depart = m } ∷ legs)
  onward_cons m ready next legs can late after on =
      let le : m + 1 * step q.instance.now a ≤ next = omega (arith, after) in record {
        leads = (exists, refl, on.leads);
        ready = (late, leaves_ready-earlier q.instance.now next (m + 1 * step q.instance.now a) legs le on.ready);
        can = (can, on.can);
      }

  -- where the shipment can be ready at the tail and leave by the arc, it can then be ready at the head
  ready_next : (o : Option ℕ) (m : ℕ) → IfSome o (CanBeReady q (arc_at q.instance.now a).from) → LeavesFrom q a o m → CanBeReady q (arc_at q.instance.now a).to (m + step q.instance.now a)
  ready_next None m is leaves = absurd leaves.0
  ready_next (Some r) m is leaves = λ legs on.
      let all : HasAll q (record { arc = a; depart = m } ∷ legs) =
      is (record { arc = a; depart = m } ∷ legs) (onward_cons m r (m + step q.instance.now a) legs leaves.1 leaves.0 (omega arith) on) in
      record { legs = all.legs; onward = all.onward; has = λ l has. all.has l (contains_more l (record { arc = a; depart = m }) legs has) }

  -- where it can leave by the arc and go on from the head, it can go on from the tail
  onward_before : (o : Option ℕ) (m : ℕ) → IfSome o (GoesOn q (arc_at q.instance.now a).to) → LeavesInTime q a o m → GoesOn q (arc_at q.instance.now a).from m
  onward_before None m is leaves = absurd leaves.0
  onward_before (Some u) m is leaves = record {
    legs = record { arc = a; depart = m } ∷ is.legs;
    onward = onward_cons m m u is.legs leaves.1 (omega arith) leaves.0 is.onward;
  }

  release-less : (o : Option ℕ) (most next : ℕ) → IsSomeAnd o (λ r. r ≤ most) → (IsAtMost o next → ⊥) → next ≤ most
  release-less None most next is more = absurd is
  release-less (Some r) most next is more =
      let h : r ≤ most = is in
      ⊎_elim (λ (less : next < r). let e : next ≤ most = omega (arith, less, h) in e) (λ (le : r ≤ next). absurd (more le)) (cases_lt next r)

  -- the head's value lowered
  ready_set : (values : List (Option ℕ)) (m : ℕ) → (arc_at q.instance.now a).to < length values → LeavesFrom q a (value_at values (arc_at q.instance.now a).from) m →
      (IsAtMost (value_at values (arc_at q.instance.now a).to) (m + step q.instance.now a) → ⊥) → AreReady q values →
      AreReady q (slice_set values (arc_at q.instance.now a).to (Some (m + step q.instance.now a)))
  ready_set values m lt leaves more good =
      let to : ℕ = (arc_at q.instance.now a).to in
      let next : ℕ = m + step q.instance.now a in
      let new : List (Option ℕ) = slice_set values to (Some next) in record {
        one_each = length-set values to (Some next) ∙ good.one_each;
        release =
            ⊎_elim
            (λ (same : (asked_for q).from ≡ to).
            let le : next ≤ (asked_for q).release =
            release-less (value_at values to) (asked_for q).release next (subst (λ (t : ℕ). IsSomeAnd (value_at values t) (λ r. r ≤ (asked_for q).release)) same good.release) more in
            subst (λ (o : Option ℕ). IsSomeAnd o (λ r. r ≤ (asked_for q).release)) (sym (ap (value_at new) same ∙ value_at-set_same values to (Some next) lt)) le)
            (λ (apart : (asked_for q).from ≢ to).
            subst (λ (o : Option ℕ). IsSomeAnd o (λ r. r ≤ (asked_for q).release)) (sym (value_at-set_other values to (asked_for q).from (Some next) apart)) good.release)
            (cases_eq (asked_for q).from to);
        ready = λ t.
            ⊎_elim
            (λ (same : t ≡ to).
            subst (λ (u : ℕ). IfSome (value_at new u) (CanBeReady q u)) (sym same)
            (subst (λ (o : Option ℕ). IfSome o (CanBeReady q to)) (sym (value_at-set_same values to (Some next) lt))
            (ready_next (value_at values (arc_at q.instance.now a).from) m (good.ready (arc_at q.instance.now a).from) leaves)))
            (λ (apart : t ≢ to).
            subst (λ (o : Option ℕ). IfSome o (CanBeReady q t)) (sym (value_at-set_other values to t (Some next) apart)) (good.ready t))
            (cases_eq t to);
      }

  greatest-stays : (o : Option ℕ) (m : ℕ) → m < 4294967296 → IsSomeAnd o (λ u. 4294967295 ≤ u) → (IsAtLeast o m → ⊥) → ⊥
  greatest-stays None m fits is less = absurd is
  greatest-stays (Some u) m fits is less = let h : 4294967295 ≤ u = is in let e : m ≤ u = omega (arith, h, fits) in less e

  -- the tail's value raised
  onward_set : (values : List (Option ℕ)) (m : ℕ) → (arc_at q.instance.now a).from < length values → m < 4294967296 → LeavesInTime q a (value_at values (arc_at q.instance.now a).to) m →
      (IsAtLeast (value_at values (arc_at q.instance.now a).from) m → ⊥) → AreOnward q values → AreOnward q (slice_set values (arc_at q.instance.now a).from (Some m))
  onward_set values m lt fits leaves less good =
      let from : ℕ = (arc_at q.instance.now a).from in
      let new : List (Option ℕ) = slice_set values from (Some m) in record {
        one_each = length-set values from (Some m) ∙ good.one_each;
        there =
            ⊎_elim
            (λ (same : (asked_for q).to ≡ from).
            absurd
            (greatest-stays (value_at values from) m fits (subst (λ (t : ℕ). IsSomeAnd (value_at values t) (λ u. 4294967295 ≤ u)) same good.there) less))
            (λ (apart : (asked_for q).to ≢ from).
            subst (λ (o : Option ℕ). IsSomeAnd o (λ u. 4294967295 ≤ u)) (sym (value_at-set_other values from (asked_for q).to (Some m) apart)) good.there)
            (cases_eq (asked_for q).to from);
        onward = λ t.
            ⊎_elim
            (λ (same : t ≡ from).
            subst (λ (u : ℕ). IfSome (value_at new u) (GoesOn q u)) (sym same)
            (subst (λ (o : Option ℕ). IfSome o (GoesOn q from)) (sym (value_at-set_same values from (Some m) lt))
            (onward_before (value_at values (arc_at q.instance.now a).to) m (good.onward (arc_at q.instance.now a).to) leaves)))
            (λ (apart : t ≢ from).
            subst (λ (o : Option ℕ). IfSome o (GoesOn q t)) (sym (value_at-set_other values from t (Some m) apart)) (good.onward t))
            (cases_eq t from);
      }

  -- where no leg can leave by the arc, nothing is bettered
  pub betters_head-none : (values : List (Option ℕ)) → IsFirst (LeavesFrom q a (value_at values (arc_at q.instance.now a).from)) None →
      Betters (AreReady q) left_below (λ v. IsStableFrom q v a) values values false
  betters_head-none values none = record { good = λ good. good; less = (refl, λ m leaves. absurd (none m leaves)) }

  pub betters_tail-none : (values : List (Option ℕ)) → IsLast (LeavesInTime q a (value_at values (arc_at q.instance.now a).to)) None →
      Betters (AreOnward q) left_above (λ v. IsStableTo q v a) values values false
  betters_tail-none values none = record { good = λ good. good; less = (refl, λ m leaves. absurd (none m leaves)) }

  -- by the first leg that can leave the head's value is bettered, or it is stable
  pub betters_head : (values new : List (Option ℕ)) (m : ℕ) (changed : Bool) → (arc_at q.instance.now a).to < length values → m + step q.instance.now a < 4294967296 →
      IsFirst (LeavesFrom q a (value_at values (arc_at q.instance.now a).from)) (Some m) →
      IsSet IsAtMost values (arc_at q.instance.now a).to (m + step q.instance.now a) new changed → Betters (AreReady q) left_below (λ v. IsStableFrom q v a) values new changed
  betters_head values new m true lt fits first set = record {
    good = λ good. subst (λ (l : List (Option ℕ)). AreReady q l) (sym set.0) (ready_set values m lt first.0 set.1 good);
    less = subst (λ (l : List (Option ℕ)). sum_by left_below l < sum_by left_below values) (sym set.0)
        (set-less left_below values (arc_at q.instance.now a).to (Some (m + step q.instance.now a)) lt
        (below-less (value_at values (arc_at q.instance.now a).to) (m + step q.instance.now a) fits set.1));
  }
  betters_head values new m false lt fits first set = record {
    good = λ good. subst (λ (l : List (Option ℕ)). AreReady q l) (sym set.0) good;
    less = (
      set.0,
      λ n leaves.
          let le : m ≤ n = first.1 n leaves in
          at-most_later (value_at values (arc_at q.instance.now a).to) (m + step q.instance.now a) (n + step q.instance.now a) set.1 (omega (arith, le)),
    );
  }

  -- by the last leg that can leave the tail's value is bettered, or it is stable
  pub betters_tail : (values new : List (Option ℕ)) (m : ℕ) (changed : Bool) → (arc_at q.instance.now a).from < length values → m < 4294967296 →
      IsLast (LeavesInTime q a (value_at values (arc_at q.instance.now a).to)) (Some m) →
      IsSet IsAtLeast values (arc_at q.instance.now a).from m new changed → Betters (AreOnward q) left_above (λ v. IsStableTo q v a) values new changed
  betters_tail values new m true lt fits last set = record {
    good = λ good. subst (λ (l : List (Option ℕ)). AreOnward q l) (sym set.0) (onward_set values m lt fits last.0 set.1 good);
    less = subst (λ (l : List (Option ℕ)). sum_by left_above l < sum_by left_above values) (sym set.0)
        (set-less left_above values (arc_at q.instance.now a).from (Some m) lt (above-less (value_at values (arc_at q.instance.now a).from) m fits set.1));
  }
  betters_tail values new m false lt fits last set = record {
    good = λ good. subst (λ (l : List (Option ℕ)). AreOnward q l) (sym set.0) good;
    less = (set.0, λ n leaves. let le : n ≤ m = last.1 n leaves in at-least_earlier (value_at values (arc_at q.instance.now a).from) m n set.1 le);
  }

  -- the same at the ends and the sum that the code has
  pub betters_head-at : (ends : Arc) (next : ℕ) (values new : List (Option ℕ)) (m : ℕ) (changed : Bool) → IsAsked q → length values ≡ length q.instance.now.terminals → ends ≡ arc_at q.instance.now a →
      next ≡ m + step q.instance.now a → next < 4294967296 → IsFirst (LeavesFrom q a (value_at values ends.from)) (Some m) → IsSet IsAtMost values ends.to next new changed →
      Betters (AreReady q) left_below (λ v. IsStableFrom q v a) values new changed
  betters_head-at ends next values new m changed asked long is sum fits first set =
      let lt : (arc_at q.instance.now a).to < length values = omega (arith, long, (asked.fits.valid.parts.arcs a no_arc exists).to) in
      betters_head values new m changed lt (omega (arith, sum, fits)) (subst (λ (e : Arc). IsFirst (LeavesFrom q a (value_at values e.from)) (Some m)) is first)
      (subst (λ (n : ℕ). IsSet IsAtMost values (arc_at q.instance.now a).to n new changed) sum (subst (λ (e : Arc). IsSet IsAtMost values e.to next new changed) is set))

  pub betters_tail-at : (ends : Arc) (values new : List (Option ℕ)) (m : ℕ) (changed : Bool) → IsAsked q → length values ≡ length q.instance.now.terminals → ends ≡ arc_at q.instance.now a → m < 4294967296 →
      IsLast (LeavesInTime q a (value_at values ends.to)) (Some m) → IsSet IsAtLeast values ends.from m new changed → Betters (AreOnward q) left_above (λ v. IsStableTo q v a) values new changed
  betters_tail-at ends values new m changed asked long is fits last set =
      let lt : (arc_at q.instance.now a).from < length values = omega (arith, long, (asked.fits.valid.parts.arcs a no_arc exists).from) in
      betters_tail values new m changed lt fits (subst (λ (e : Arc). IsLast (LeavesInTime q a (value_at values e.to)) (Some m)) is last)
      (subst (λ (e : Arc). IsSet IsAtLeast values e.from m new changed) is set)

  pub betters_head-nowhere : (ends : Arc) (values : List (Option ℕ)) → ends ≡ arc_at q.instance.now a → IsFirst (LeavesFrom q a (value_at values ends.from)) None →
      Betters (AreReady q) left_below (λ v. IsStableFrom q v a) values values false
  betters_head-nowhere ends values is none = betters_head-none values (subst (λ (e : Arc). IsFirst (LeavesFrom q a (value_at values e.from)) None) is none)

  pub betters_tail-nowhere : (ends : Arc) (values : List (Option ℕ)) → ends ≡ arc_at q.instance.now a → IsLast (LeavesInTime q a (value_at values ends.to)) None →
      Betters (AreOnward q) left_above (λ v. IsStableTo q v a) values values false
  betters_tail-nowhere ends values is none = betters_tail-none values (subst (λ (e : Arc). IsLast (LeavesInTime q a (value_at values e.to)) None) is none)

  -- a leg by the arc with others before and after it
  pub has_leg : (o u : Option ℕ) (m : ℕ) → IfSome o (CanBeReady q (arc_at q.instance.now a).from) → IfSome u (GoesOn q (arc_at q.instance.now a).to) → LeavesFrom q a o m → LeavesInTime q a u m →
      HasAll q (record { arc = a; depart = m } ∷ [])
  has_leg None u m is on first last = absurd first.0
  has_leg (Some r) None m is on first last = absurd last.0
  has_leg (Some r) (Some v) m is on first last =
      let all : HasAll q (record { arc = a; depart = m } ∷ on.legs) = is (record { arc = a; depart = m } ∷ on.legs) (onward_cons m r v on.legs first.1 first.0 last.0 on.onward) in
      record { legs = all.legs; onward = all.onward; has = λ l has. all.has l (Contains-append_left (record { arc = a; depart = m } ∷ []) on.legs l has) }
