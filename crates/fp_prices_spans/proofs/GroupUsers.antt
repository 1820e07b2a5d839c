-- The shipments whose departures, at their whole moments, lie in a run of moments can leave in it.
use Rattle.std.proofs.Common.{◌≡◌, ℕ, ◌+◌, ◌*◌, ◌/◌, ◌≤◌, Bool, true, false, List, [], ◌∷◌, map, Option, Some, None, ⊎_elim, refl, subst, arith}
use Rattle.std.specs.Prelude.{IsSomeAnd, nat_le}
use Rattle.std.specs.List.{AllByRecursion, list_any}
use Rattle.std.proofs.lemmas.Bool.{and_from, and_parts, cases_Bool, false≢true, le-leb, leb-true, lt-ltb, ltb-true, or_cases}
use Rattle.fp_base_lists.specs.Numbered.{AllFrom}
use Rattle.fp_model.specs.declared.parts.Leg.{Leg}
use Rattle.fp_flatnet.specs.declared.window_tables.Window.{Window}
use Rattle.fp_flatnet.specs.Windows.{IsInside, LiesWithin, LiesWithinWhole, whole_legs}
use Rattle.fp_prices_spans.specs.declared.rules.moment_runs.MomentRun.{MomentRun}
use Rattle.fp_prices_spans.specs.MomentRuns.{can_leave, is_before, lies_in, meets}
use Rattle.fp_prices_spans.proofs.PassingUsers.{users_by}

-- an earlier moment is before the end too
before-earlier : (m n : ℕ) (end : Option ℕ) → m ≤ n → is_before n end ≡ true → is_before m end ≡ true
before-earlier m n None h before = refl
before-earlier m n (Some end) h before = lt-ltb m end (omega (arith, h, ltb-true n end before))

-- a window meets a run in which one of its whole moments lies
window-meets : (run : MomentRun) (m : ℕ) (o : Option Window) → lies_in run m ≡ true → IsSomeAnd o (IsInside 1 m) → meets run o ≡ true
window-meets run m None lies inside = absurd inside
window-meets run m (Some w) lies inside =
    let parts = and_parts (nat_le run.from m) (is_before m run.before) lies in
    let begun : run.from ≤ m = leb-true run.from m parts.0 in
    let since : 1 * w.lo ≤ m = inside.0 in
    let until : m ≤ 1 * w.hi = inside.1 in
    and_from (nat_le run.from w.hi) (is_before w.lo run.before) (le-leb run.from w.hi (omega (arith, begun, until))) (before-earlier w.lo m run.before (omega (arith, since)) parts.1)

-- departures by an arc that lie in a run
abbrev pub LieIn : MomentRun → (arc d : ℕ) → (Leg → Bool) → Type 0
LieIn run arc d test = (l : Leg) → test l ≡ true → (l.arc ≡ arc) × (lies_in run (l.depart / d) ≡ true)

user-leaves : (windows : ℕ → ℕ → Option Window) (run : MomentRun) (arc d : ℕ) (test : Leg → Bool) (k : ℕ) (legs : List Leg) → LieIn run arc d test → LiesWithinWhole windows d k legs →
    list_any test legs ≡ true → can_leave windows run arc k ≡ true
user-leaves windows run arc d test k [] lie within any = absurd (false≢true any)
user-leaves windows run arc d test k (l ∷ legs) lie within any =
    ⊎_elim
    (λ (here : test l ≡ true).
    let is = lie l here in
    window-meets run (l.depart / d) (windows k arc) is.1 (subst (λ (a : ℕ). IsSomeAnd (windows k a) (IsInside 1 (l.depart / d))) is.0 within.0))
    (λ (later : list_any test legs ≡ true). user-leaves windows run arc d test k legs lie within.1 later)
    (or_cases (test l) (list_any test legs) any)

-- where all that pass the test lie in a run, their users can leave in it
pub users-leave : (windows : ℕ → ℕ → Option Window) (run : MomentRun) (arc d : ℕ) (test : Leg → Bool) (i : ℕ) (routes : List (List Leg)) → LieIn run arc d test →
    AllFrom (LiesWithin windows 1) i (map (whole_legs d) routes) → AllByRecursion (λ k. can_leave windows run arc k ≡ true) (users_by test i routes)
users-leave windows run arc d test i [] lie within = tt
users-leave windows run arc d test i (legs ∷ routes) lie within =
    let others : List ℕ = users_by test (i + 1) routes in
    let rest : AllByRecursion (λ k. can_leave windows run arc k ≡ true) others = users-leave windows run arc d test (i + 1) routes lie within.1 in
    ⊎_elim
    (λ (uses : list_any test legs ≡ true).
    rw uses (user-leaves windows run arc d test i legs lie within.0 uses, rest))
    (λ (uses_not : list_any test legs ≡ false). rw uses_not rest)
    (cases_Bool (list_any test legs))
