-- The legs that wait.
use Rattle.std.proofs.Common.{◌≡◌, ◌∙◌, ℕ, suc, ◌+◌, ◌≤◌, Bool, true, false, List, [], ◌∷◌, ◌++◌, length, set, ⊎_elim, refl, sym, subst, arith, length-append, get_or-set_other, if◌then◌else◌}
use Rattle.std.specs.Prelude.{All, Contains}
use Rattle.std.proofs.lemmas.Bool.{cases_eq}
use Rattle.std.proofs.lemmas.List.Elements.{All-append, All-cons, All-nil, Contains-append_left, Contains-push}
use Rattle.fp_model.specs.declared.parts.Member.{Member}
use Rattle.fp_model.specs.Members.{IsMemberOf}
use Rattle.fp_dispatch.specs.Rising.{IsWide, place_of, queue_each, set_each, waits_at}
use Rattle.fp_dispatch.proofs.TableEntries.{place_of-same}

-- the legs that wait after one that waits or not has joined them
abbrev with_one : Bool → List Member → Member → List Member
with_one waited waiting m = if waited then waiting else waiting ++ (m ∷ [])

with_one-has : (waited : Bool) (waiting : List Member) (m n : Member) → Contains waiting n → Contains (with_one waited waiting m) n
with_one-has true waiting m n has = has
with_one-has false waiting m n has = Contains-append_left waiting (m ∷ []) n has

with_one-itself : (waited : Bool) (waiting : List Member) (m : Member) → (waited ≡ true → Contains waiting m) → Contains (with_one waited waiting m) m
with_one-itself true waiting m has = has refl
with_one-itself false waiting m has = Contains-push waiting m

with_one-each : (P : Member → Type 0) (waited : Bool) (waiting : List Member) (m : Member) → All P waiting → P m → All P (with_one waited waiting m)
with_one-each P true waiting m all one = all
with_one-each P false waiting m all one = All-append P waiting (m ∷ []) all (All-cons P m [] one (All-nil P))

with_one-length : (waited : Bool) (waiting : List Member) (m : Member) → length (with_one waited waiting m) ≤ length waiting + 1
with_one-length true waiting m = omega arith
with_one-length false waiting m = omega (arith, length-append waiting (m ∷ []))

-- no more join than there are legs
pub length-queue_each : (width : ℕ) (legs : List Member) (waits : List Bool) (waiting : List Member) →
    length (queue_each width legs waits waiting) ≤ length waiting + length legs
length-queue_each width [] waits waiting = omega arith
length-queue_each width (m ∷ legs) waits waiting =
    omega (
      arith,
      with_one-length (waits_at width waits m) waiting m,
      length-queue_each width legs (set waits (place_of width m) true) (with_one (waits_at width waits m) waiting m),
    )

-- what holds of those that wait and of the legs holds of those that wait then
pub queue_each-each : (P : Member → Type 0) (width : ℕ) (legs : List Member) (waits : List Bool) (waiting : List Member) →
    All P legs → All P waiting → All P (queue_each width legs waits waiting)
queue_each-each P width [] waits waiting all before = before
queue_each-each P width (m ∷ legs) waits waiting all before =
    queue_each-each P width legs (set waits (place_of width m) true) (with_one (waits_at width waits m) waiting m)
    (λ k d lt. all (suc k) d (omega (arith, lt))) (with_one-each P (waits_at width waits m) waiting m before (all 0 m (omega arith)))

-- the legs that are marked wait
abbrev pub AreQueued : List (List ℕ) → ℕ → List Bool → List Member → Type 0
AreQueued routes width waits waiting = (m : Member) → IsMemberOf routes m → waits_at width waits m ≡ true → Contains waiting m

-- so it is after legs have joined them
pub queue_each-AreQueued : (routes : List (List ℕ)) (width : ℕ) → IsWide routes width → (legs : List Member) (waits : List Bool) (waiting : List Member) →
    All (IsMemberOf routes) legs → AreQueued routes width waits waiting → AreQueued routes width (set_each width legs true waits) (queue_each width legs waits waiting)
queue_each-AreQueued routes width wide [] waits waiting members queued = queued
queue_each-AreQueued routes width wide (n ∷ legs) waits waiting members queued =
    queue_each-AreQueued routes width wide legs (set waits (place_of width n) true) (with_one (waits_at width waits n) waiting n)
    (λ k d lt. members (suc k) d (omega (arith, lt))) joined
  where
    is : IsMemberOf routes n
    is = members 0 n (omega arith)

    joined : AreQueued routes width (set waits (place_of width n) true) (with_one (waits_at width waits n) waiting n)
    joined m also marked =
        ⊎_elim
        (λ (same : place_of width m ≡ place_of width n).
        let one : n ≡ m = sym (place_of-same routes width m n wide also is same) in
        subst (Contains (with_one (waits_at width waits n) waiting n)) one (with_one-itself (waits_at width waits n) waiting n (queued n is)))
        (λ (other : place_of width m ≡ place_of width n → ⊥).
        with_one-has (waits_at width waits n) waiting n m
        (queued m also (sym (get_or-set_other waits (place_of width n) (place_of width m) true false other) ∙ marked)))
        (cases_eq (place_of width m) (place_of width n))
