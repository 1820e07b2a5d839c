-- The first and the last moment of a kind, part by part of a window and by one arc.
use Rattle.std.proofs.Common.{◌≡◌, ℕ, ◌+◌, ◌<◌, ◌≤◌, min, true, false, List, ⊎_elim, sym, subst, arith}
use Rattle.std.specs.Prelude.{Option, Some, None, IsSomeAnd, IfSome}
use Rattle.std.proofs.lemmas.Bool.{both_ways, cases_lt}
use Rattle.fp_flatnet.specs.declared.window_tables.Window.{Window}
use Rattle.fp_model.specs.Routes.{step}
use Rattle.fp_tree.specs.declared.sides.Side.{Side}
use Rattle.fp_allowed.specs.declared.free_moments.Asked.{Asked}
use Rattle.fp_allowed.specs.FreeMoments.{CanLeave, IsFirst, IsFree, IsFreeFrom, IsFreeUntil, IsLast, LeavesFrom, LeavesInTime, open_window, own_sides}
use Rattle.fp_allowed.specs.Moments.{all_let}

-- the first moment of one kind is that of another that has the same moments
pub IsFirst-same : (P Q : ℕ → Type 0) (o : Option ℕ) → ((m : ℕ) → P m → Q m) → ((m : ℕ) → Q m → P m) → IsFirst P o → IsFirst Q o
IsFirst-same P Q None to back is = λ m has. is m (back m has)
IsFirst-same P Q (Some first) to back is = (to first is.0, λ m has. is.1 m (back m has))

-- and so is the last
pub IsLast-same : (P Q : ℕ → Type 0) (o : Option ℕ) → ((m : ℕ) → P m → Q m) → ((m : ℕ) → Q m → P m) → IsLast P o → IsLast Q o
IsLast-same P Q None to back is = λ m has. is m (back m has)
IsLast-same P Q (Some last) to back is = (to last is.0, λ m has. is.1 m (back m has))

module _ (w : Window) (arc : ℕ) (sides : List Side) where
  -- the next part is free from its first moment on
  pub first_found : (at lo last : ℕ) → at ≤ lo → w.lo ≤ lo → lo ≤ w.hi → lo ≤ last → ((m : ℕ) → lo ≤ m → m ≤ last → all_let arc m sides ≡ true) →
      ((m : ℕ) → IsFreeFrom w arc sides at m → lo ≤ m) → IsFirst (IsFreeFrom w arc sides at) (Some lo)
  first_found at lo last begun after before some alike earliest =
      ((begun, record { after = after; before = before; let_it = alike lo (omega arith) some }), earliest)

  -- it isn't free, and so no free moment is before what comes after it
  pub first_later : (at lo last : ℕ) → ((m : ℕ) → lo ≤ m → m ≤ last → all_let arc m sides ≡ false) → ((m : ℕ) → IsFreeFrom w arc sides at m → lo ≤ m) →
      (m : ℕ) → IsFreeFrom w arc sides at m → last + 1 ≤ m
  first_later at lo last alike earliest m has =
      ⊎_elim
      (λ (late : last < m). let e : last + 1 ≤ m = omega (arith, late) in e)
      (λ (early : m ≤ last). absurd (both_ways (all_let arc m sides) (alike m (earliest m has) early) has.1.let_it))
      (cases_lt last m)

  -- the next part is free up to its last moment
  pub last_found : (until lo last : ℕ) → w.lo ≤ lo → lo ≤ last → last ≤ min w.hi until → ((m : ℕ) → lo ≤ m → m ≤ last → all_let arc m sides ≡ true) →
      IsLast (λ m. (m < last + 1) × IsFreeUntil w arc sides until m) (Some last)
  last_found until lo last after some before alike =
      let hi : last ≤ w.hi = omega (arith, before) in
      let end : last ≤ until = omega (arith, before) in
      let begun : w.lo ≤ last = omega (arith, after, some) in
      let next : last < last + 1 = omega arith in
      ((next, (end, record { after = begun; before = hi; let_it = alike last some (omega arith) })), λ m has. let h : m < last + 1 = has.0 in omega (arith, h))

  -- it isn't free, and so the last free moment is still the one before it
  pub last_still : (until lo last : ℕ) (o : Option ℕ) → lo ≤ last → ((m : ℕ) → lo ≤ m → m ≤ last → all_let arc m sides ≡ false) → IsLast (λ m. (m < lo) × IsFreeUntil w arc sides until m) o →
      IsLast (λ m. (m < last + 1) × IsFreeUntil w arc sides until m) o
  last_still until lo last o some alike =
      IsLast-same (λ m. (m < lo) × IsFreeUntil w arc sides until m) (λ m. (m < last + 1) × IsFreeUntil w arc sides until m) o
      (λ m has. let h : m < lo = has.0 in let e : m < last + 1 = omega (arith, h, some) in (e, has.1))
      (λ m has.
      let h : m < last + 1 = has.0 in
      ⊎_elim
      (λ (early : m < lo). (early, has.1))
      (λ (late : lo ≤ m). absurd (both_ways (all_let arc m sides) (alike m late (omega (arith, h))) has.1.1.let_it))
      (cases_lt m lo))

  -- none is before the window
  pub last_none : (until lo : ℕ) → lo ≤ w.lo → IsLast (λ m. (m < lo) × IsFreeUntil w arc sides until m) None
  last_none until lo begins = λ m has. let h : m < lo = has.0 in let e : w.lo ≤ m = has.1.1.after in absurd (omega (arith, begins, h, e))

  -- all parts up to the window's end, or the moment, are gone through
  pub last_all : (until lo : ℕ) (o : Option ℕ) → min w.hi until < lo → IsLast (λ m. (m < lo) × IsFreeUntil w arc sides until m) o → IsLast (IsFreeUntil w arc sides until) o
  last_all until lo o past =
      IsLast-same (λ m. (m < lo) × IsFreeUntil w arc sides until m) (IsFreeUntil w arc sides until) o (λ m has. has.1)
      (λ m has. let end : m ≤ until = has.0 in let hi : m ≤ w.hi = has.1.before in let e : m < lo = omega (arith, past, end, hi) in (e, has))

module _ (q : Asked) (a : ℕ) (w : Window) (sides : List Side) (is : open_window q a ≡ Some w) (own : sides ≡ own_sides q a) where
  -- the shipment can leave at the free moments of the open window
  can_from : (m : ℕ) → IsFree w a sides m → CanLeave q a m
  can_from m free =
      subst (λ (o : Option Window). IsSomeAnd o (λ (w : Window). IsFree w a (own_sides q a) m)) (sym is) (subst (λ (l : List Side). IsFree w a l m) own free)

  can_to : (m : ℕ) → CanLeave q a m → IsFree w a sides m
  can_to m can =
      subst (λ (l : List Side). IsFree w a l m) (sym own) (subst (λ (o : Option Window). IsSomeAnd o (λ (w : Window). IsFree w a (own_sides q a) m)) is can)

  -- so the first one is that of the window
  pub first_leaves : (at : ℕ) (o : Option ℕ) → IsFirst (IsFreeFrom w a sides at) o → IsFirst (LeavesFrom q a (Some at)) o
  first_leaves at o = IsFirst-same (IsFreeFrom w a sides at) (LeavesFrom q a (Some at)) o (λ m has. (has.0, can_from m has.1)) (λ m has. (has.0, can_to m has.1))

  -- and so is the last
  pub last_leaves : (until at : ℕ) (o : Option ℕ) → at + step q.instance.now a ≡ until → IsLast (IsFreeUntil w a sides at) o → IsLast (LeavesInTime q a (Some until)) o
  last_leaves until at o less =
      IsLast-same (IsFreeUntil w a sides at) (LeavesInTime q a (Some until)) o
      (λ m has. let h : m ≤ at = has.0 in let e : m + step q.instance.now a ≤ until = omega (arith, h, less) in (e, can_from m has.1))
      (λ m has. let h : m + step q.instance.now a ≤ until = has.0 in let e : m ≤ at = omega (arith, h, less) in (e, can_to m has.1))

-- without an open window it can't leave
pub first_leaves-closed : (q : Asked) (a : ℕ) (ready : Option ℕ) → open_window q a ≡ None → IsFirst (LeavesFrom q a ready) None
first_leaves-closed q a ready is m has = subst (λ (o : Option Window). IsSomeAnd o (λ (w : Window). IsFree w a (own_sides q a) m)) is has.1

pub last_leaves-closed : (q : Asked) (a : ℕ) (until : Option ℕ) → open_window q a ≡ None → IsLast (LeavesInTime q a until) None
last_leaves-closed q a until is m has = subst (λ (o : Option Window). IsSomeAnd o (λ (w : Window). IsFree w a (own_sides q a) m)) is has.1

-- nor can it go on in time where the arc's step is too long
pub last_leaves-late : (q : Asked) (a until : ℕ) → until < step q.instance.now a → IsLast (LeavesInTime q a (Some until)) None
last_leaves-late q a until late m has = let h : m + step q.instance.now a ≤ until = has.0 in omega (arith, h, late)

-- the first free moment is in time where the window is
pub first_in_time : (w : Window) (a : ℕ) (sides : List Side) (at most : ℕ) (o : Option ℕ) → w.hi ≤ most → IsFirst (IsFreeFrom w a sides at) o → IfSome o (λ m. m ≤ most)
first_in_time w a sides at most None in_time is = tt
first_in_time w a sides at most (Some m) in_time is = let e : m ≤ w.hi = is.0.1.before in let h : m ≤ most = omega (arith, e, in_time) in h
