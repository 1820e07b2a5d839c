-- What a search among the stamps of one terminal finds: some first stamps are not after a time, and
-- the others are.
use Rattle.std.proofs.Common.{◌≡◌, ℕ, zero, suc, ◌+◌, ◌-◌, ◌<◌, ◌≤◌, Bool, true, false, ◌&&◌, List, [], ◌∷◌, length, get_or, take, drop, reverse, ⊎_elim, refl, sym, ap, ◌∙◌, subst, arith}
use Rattle.std.specs.Prelude.{nat_le, nat_eq, Option, Some, None, MatchOption, option_map, unwrap_or}
use Rattle.std.specs.List.{find}
use Rattle.std.proofs.lemmas.Bool.{cases_Bool, cases_lt, leb-true, leb-false, le-leb, false_from_ne_true}
use Rattle.std.proofs.lemmas.Bool.Decides.{same_from_decides, Decides-and, Decides-eqb}
use Rattle.std.proofs.lemmas.List.{get_or-reverse, length-reverse, get_or-take, length-take-le, get_or-drop, length-drop}
use Rattle.fp_timenodes.specs.declared.timelines.Stamp.{Stamp}
use Rattle.fp_timenodes.specs.Floor.{floor_point, next_point, IsNextPoint}
use Rattle.fp_base_lists.specs.Membership.{list_has}
use Rattle.fp_timenodes.specs.Stamps.{points_of, IsStampCut}
use Rattle.fp_timenodes.proofs.Floors.{floor_below, floor_is}
use Rattle.fp_timenodes.proofs.Nexts.{next_is}
use Rattle.fp_timenodes.proofs.StampPlaces.{StandsAt, stamp-of, has-stamp}

-- no stamp that a list has at all
abbrev pub no_stamp : Stamp
no_stamp = record { at = 0; round = 0 }

-- the first that passes a test stands at this place
record IsFirst {X : Type 0} (p : X → Bool) (xs : List X) (d x : X) : Type 0 where
  place : ℕ
  within : place < length xs
  is : get_or xs place d ≡ x
  passes : p x ≡ true
  before : (k : ℕ) → k < place → p (get_or xs k d) ≡ false

-- what `find` finds, by places
found : {X : Type 0} (p : X → Bool) (xs : List X) (d : X) → MatchOption (find p xs) ((k : ℕ) → k < length xs → p (get_or xs k d) ≡ false) (IsFirst p xs d)
found p [] d = λ k h. absurd (omega arith)
found {X} p (x ∷ xs) d =
    ⊎_elim
    (λ (e : p x ≡ true). rw e (record { place = 0; within = omega arith; is = refl; passes = e; before = λ k h. absurd (omega arith) }))
    (λ (e : p x ≡ false). rw e (later e (find p xs) (found p xs d)))
    (cases_Bool (p x))
  where
    below : p x ≡ false → (n k : ℕ) → ((j : ℕ) → j < n → p (get_or xs j d) ≡ false) → k < suc n → p (get_or (x ∷ xs) k d) ≡ false
    below e n zero rest h = e
    below e n (suc k) rest h = rest k (omega arith)

    later : p x ≡ false → (o : Option X) → MatchOption o ((k : ℕ) → k < length xs → p (get_or xs k d) ≡ false) (IsFirst p xs d) → MatchOption o ((k : ℕ) → k < length (x ∷ xs) → p (get_or (x ∷ xs) k d) ≡ false) (IsFirst p (x ∷ xs) d)
    later e None none = λ k h. below e (length xs) k none (omega arith)
    later e (Some y) w = record {
      place = suc w.place;
      within = omega (arith, w.within);
      is = w.is;
      passes = w.passes;
      before = λ k h. below e w.place k w.before h;
    }

-- a stamp that is not after the time stands before the cut
before-cut : (stamps : List Stamp) (at cut k : ℕ) → IsStampCut stamps at cut → k < length stamps → (get_or stamps k no_stamp).at ≤ at → k < cut
before-cut stamps at cut k c h le =
    ⊎_elim (λ (l : k < cut). l) (λ (l : cut ≤ k). absurd (omega (arith, c.after k no_stamp l h))) (cases_lt k cut)

-- where no stamp before the cut is up to the round, no point is at or before the time
none-until : (stamps : List Stamp) (at round cut : ℕ) → IsStampCut stamps at cut → ((k : ℕ) → k < cut → round < (get_or stamps k no_stamp).round) →
    (q : ℕ) → list_has (points_of stamps round) q ≡ true → at < q
none-until stamps at round cut c none q there =
    let w : StandsAt stamps round q no_stamp = stamp-of stamps round q no_stamp there in
    ⊎_elim (λ (l : at < q). l)
    (λ (l : q ≤ at). absurd (omega (arith, w.until, none w.place (before-cut stamps at cut w.place c w.within (rw w.time l)))))
    (cases_lt at q)

-- the last stamp before the cut that is up to the round gives the greatest point not after the time
last-until : (stamps : List Stamp) (at round cut i : ℕ) → IsStampCut stamps at cut → i < cut → (get_or stamps i no_stamp).round ≤ round →
    ((k : ℕ) → i < k → k < cut → round < (get_or stamps k no_stamp).round) → floor_point (points_of stamps round) 1 at ≡ (get_or stamps i no_stamp).at
last-until stamps at round cut i c h le none =
    let it : ℕ = (get_or stamps i no_stamp).at in
    let early : it ≤ at = c.until i no_stamp (omega arith) h in
    floor_is (points_of stamps round) 1 at it (has-stamp stamps round i no_stamp (omega (arith, c.within)) le) (omega (arith, early))
    (λ q there late.
    let w : StandsAt stamps round q no_stamp = stamp-of stamps round q no_stamp there in
    let l : w.place < cut = before-cut stamps at cut w.place c w.within (rw w.time (let e : q ≤ at = omega (arith, late) in e)) in
    ⊎_elim
    (λ (after : i < w.place). absurd (omega (arith, w.until, none w.place after l)))
    (λ (before : w.place ≤ i). up-to w.place q w.time before)
    (cases_lt i w.place))
  where
    up-to : (k q : ℕ) → (get_or stamps k no_stamp).at ≡ q → k ≤ i → q ≤ (get_or stamps i no_stamp).at
    up-to k q e l =
        ⊎_elim
        (λ (less : k < i). omega (arith, c.ascending k i no_stamp less (omega (arith, c.within)), e))
        (λ (more : i ≤ k). let same : i ≡ k = omega arith in rw same (omega (arith, e)))
        (cases_lt k i)

-- what is found backwards among the stamps before the cut, 0 where nothing is, is the greatest
-- point not after the time
pub found-until : (stamps : List Stamp) (at round cut : ℕ) → IsStampCut stamps at cut →
    unwrap_or (option_map (λ s. s.at) (find (λ s. nat_le s.round round) (reverse (take cut stamps)))) 0 ≡ floor_point (points_of stamps round) 1 at
found-until stamps at round cut c = by-find (find up (reverse front)) (found up (reverse front) no_stamp)
  where
    up : Stamp → Bool
    up s = nat_le s.round round

    front : List Stamp
    front = take cut stamps

    long : length front ≡ cut
    long = length-take-le cut stamps c.within

    long-back : length (reverse front) ≡ cut
    long-back = length-reverse front ∙ long

    at-place : (k : ℕ) → k < cut → get_or (reverse front) (cut - 1 - k) no_stamp ≡ get_or stamps k no_stamp
    at-place k h =
        let here : length front - 1 - (cut - 1 - k) ≡ k = omega (arith, long) in
        get_or-reverse front (cut - 1 - k) no_stamp (omega (arith, long)) ∙ ap (λ (n : ℕ). get_or front n no_stamp) here ∙ get_or-take cut stamps k no_stamp h

    late : (k : ℕ) → k < cut → up (get_or (reverse front) (cut - 1 - k) no_stamp) ≡ false → round < (get_or stamps k no_stamp).round
    late k h e = leb-false (get_or stamps k no_stamp).round round (rw (at-place k h) at e)

    by-find : (o : Option Stamp) → MatchOption o ((k : ℕ) → k < length (reverse front) → up (get_or (reverse front) k no_stamp) ≡ false) (IsFirst up (reverse front) no_stamp) →
        unwrap_or (option_map (λ s. s.at) o) 0 ≡ floor_point (points_of stamps round) 1 at
    by-find None none =
        let early : (q : ℕ) → list_has (points_of stamps round) q ≡ true → at < q = none-until stamps at round cut c (λ k h. late k h (none (cut - 1 - k) (omega (arith, long-back)))) in
        omega (arith, floor_below (points_of stamps round) 1 at 0 (λ q there le. absurd (omega (arith, early q there))))
    by-find (Some s) w =
        let i : ℕ = cut - 1 - w.place in
        let h : i < cut = omega (arith, w.within, long-back) in
        let back : cut - 1 - i ≡ w.place = omega (arith, w.within, long-back) in
        let same : get_or stamps i no_stamp ≡ s = sym (at-place i h) ∙ ap (λ (n : ℕ). get_or (reverse front) n no_stamp) back ∙ w.is in
        let le : (get_or stamps i no_stamp).round ≤ round = rw same (leb-true s.round round w.passes) in
        ap (λ (t : Stamp). t.at) (sym same) ∙ sym (last-until stamps at round cut i c h le (λ k after within. late k within (w.before (cut - 1 - k) (omega arith))))

-- the first stamp from the cut on that is up to the round gives the next point
first-after : (stamps : List Stamp) (at round cut i : ℕ) → IsStampCut stamps at cut → cut ≤ i → i < length stamps → (get_or stamps i no_stamp).round ≤ round →
    ((k : ℕ) → cut ≤ k → k < i → round < (get_or stamps k no_stamp).round) → IsNextPoint (points_of stamps round) at (Some (get_or stamps i no_stamp).at)
first-after stamps at round cut i c from within le none = (
  has-stamp stamps round i no_stamp within le,
  c.after i no_stamp from within,
  λ q there after.
      let w : StandsAt stamps round q no_stamp = stamp-of stamps round q no_stamp there in
      ⊎_elim
      (λ (early : w.place < cut). absurd (omega (arith, c.until w.place no_stamp (omega arith) early, w.time)))
      (λ (late : cut ≤ w.place).
      ⊎_elim
      (λ (less : w.place < i). absurd (omega (arith, w.until, none w.place late less)))
      (λ (more : i ≤ w.place). from-on w.place q w.within w.time more)
      (cases_lt w.place i))
      (cases_lt w.place cut),
)
  where
    from-on : (k q : ℕ) → k < length stamps → (get_or stamps k no_stamp).at ≡ q → i ≤ k → (get_or stamps i no_stamp).at ≤ q
    from-on k q h e l =
        ⊎_elim
        (λ (less : i < k). omega (arith, c.ascending i k no_stamp less h, e))
        (λ (more : k ≤ i). let same : i ≡ k = omega arith in rw same (omega (arith, e)))
        (cases_lt i k)

-- what is found among the stamps from the cut on is the least point after the time
pub found-after : (stamps : List Stamp) (at round cut : ℕ) → IsStampCut stamps at cut →
    option_map (λ s. s.at) (find (λ s. nat_le s.round round) (drop cut stamps)) ≡ next_point (points_of stamps round) at
found-after stamps at round cut c = next_is (points_of stamps round) at (option_map (λ s. s.at) (find up (drop cut stamps))) (by-find (find up (drop cut stamps)) (found up (drop cut stamps) no_stamp))
  where
    up : Stamp → Bool
    up s = nat_le s.round round

    at-place : (k : ℕ) → cut ≤ k → get_or (drop cut stamps) (k - cut) no_stamp ≡ get_or stamps k no_stamp
    at-place k h =
        let here : cut + (k - cut) ≡ k = omega arith in
        get_or-drop cut stamps (k - cut) no_stamp ∙ ap (λ (n : ℕ). get_or stamps n no_stamp) here

    late : (k : ℕ) → cut ≤ k → up (get_or (drop cut stamps) (k - cut) no_stamp) ≡ false → round < (get_or stamps k no_stamp).round
    late k h e = leb-false (get_or stamps k no_stamp).round round (rw (at-place k h) at e)

    by-find : (o : Option Stamp) → MatchOption o ((k : ℕ) → k < length (drop cut stamps) → up (get_or (drop cut stamps) k no_stamp) ≡ false) (IsFirst up (drop cut stamps) no_stamp) →
        IsNextPoint (points_of stamps round) at (option_map (λ s. s.at) o)
    by-find None none = λ q there.
        let w : StandsAt stamps round q no_stamp = stamp-of stamps round q no_stamp there in
        ⊎_elim
        (λ (l : w.place < cut). omega (arith, c.until w.place no_stamp (omega arith) l, w.time))
        (λ (l : cut ≤ w.place). absurd (omega (arith, w.until, late w.place l (none (w.place - cut) (omega (arith, w.within, length-drop cut stamps))))))
        (cases_lt w.place cut)
    by-find (Some s) w =
        let i : ℕ = cut + w.place in
        let same : get_or stamps i no_stamp ≡ s = sym (get_or-drop cut stamps w.place no_stamp) ∙ w.is in
        let le : (get_or stamps i no_stamp).round ≤ round = rw same (leb-true s.round round w.passes) in
        subst (λ (t : Stamp). IsNextPoint (points_of stamps round) at (Some t.at)) same
        (first-after stamps at round cut i c (omega arith) (omega (arith, w.within, length-drop cut stamps)) le
        (λ k from before. late k from (w.before (k - cut) (omega (arith, before)))))

-- a stamp at the time itself is the last before the cut
last-at-time : (stamps : List Stamp) (at round cut : ℕ) → IsStampCut stamps at cut → (w : StandsAt stamps round at no_stamp) → w.place ≡ cut - 1
last-at-time stamps at round cut c w =
    let l : w.place < cut = before-cut stamps at cut w.place c w.within (rw w.time (omega arith)) in
    ⊎_elim
    (λ (less : w.place < cut - 1).
    absurd (omega (arith, w.time, c.ascending w.place (cut - 1) no_stamp less (omega (arith, c.within)), c.until (cut - 1) no_stamp (omega arith) (omega arith))))
    (λ (more : cut - 1 ≤ w.place). omega arith)
    (cases_lt w.place (cut - 1))

-- whether the time is a point shows at the last stamp before the cut
pub has-at-cut : (stamps : List Stamp) (at round cut : ℕ) → IsStampCut stamps at cut → 0 < cut →
    list_has (points_of stamps round) at ≡ (nat_eq (get_or stamps (cut - 1) no_stamp).at at && nat_le (get_or stamps (cut - 1) no_stamp).round round)
has-at-cut stamps at round cut c some =
    same_from_decides (list_has (points_of stamps round) at) (nat_eq last.at at && nat_le last.round round) (decides, there)
    (Decides-and (nat_eq last.at at) (nat_le last.round round) (Decides-eqb last.at at) (leb-true last.round round, le-leb last.round round))
  where
    last : Stamp
    last = get_or stamps (cut - 1) no_stamp

    decides : list_has (points_of stamps round) at ≡ true → (last.at ≡ at) × (last.round ≤ round)
    decides h =
        let w : StandsAt stamps round at no_stamp = stamp-of stamps round at no_stamp h in
        let place : w.place ≡ cut - 1 = last-at-time stamps at round cut c w in
        let same : get_or stamps w.place no_stamp ≡ last = ap (λ (k : ℕ). get_or stamps k no_stamp) place in
        (sym (ap (λ (s : Stamp). s.at) same) ∙ w.time, subst (λ (s : Stamp). s.round ≤ round) same w.until)

    there : (last.at ≡ at) × (last.round ≤ round) → list_has (points_of stamps round) at ≡ true
    there h = subst (λ (n : ℕ). list_has (points_of stamps round) n ≡ true) h.0 (has-stamp stamps round (cut - 1) no_stamp (omega (arith, c.within)) h.1)

-- and it is none where no stamp is before the cut
pub none-at-cut : (stamps : List Stamp) (at round : ℕ) → IsStampCut stamps at 0 → list_has (points_of stamps round) at ≡ false
none-at-cut stamps at round c =
    false_from_ne_true (list_has (points_of stamps round) at)
    (λ there. absurd (omega (arith, none-until stamps at round 0 c (λ k h. absurd (omega arith)) at there)))
