-- What one more stamp does to the points of a terminal.
use Rattle.std.proofs.Common.{◌≡◌, ℕ, ◌+◌, ◌-◌, ◌<◌, ◌≤◌, ◌≢◌, Bool, true, false, ◌||◌, ◌&&◌, List, ◌∷◌, ◌++◌, length, get_or, take, drop, map, filter, ⊎_elim, refl, sym, ap, ◌∙◌, subst, arith}
use Rattle.std.specs.Prelude.{nat_le, nat_eq, insert}
use Rattle.std.specs.List.{AllWithin}
use Rattle.std.proofs.Math.Bool.{or-false, or_assoc}
use Rattle.std.proofs.lemmas.Bool.{cases_Bool, cases_lt, cases_eq, and_parts, leb-true, eqb-true, both_ways}
use Rattle.std.proofs.lemmas.List.{take-append-drop, map-append}
use Rattle.std.proofs.lemmas.List.Edits.{length-insert, get_or-insert_below, get_or-insert_at, get_or-insert_above}
use Rattle.std.proofs.lemmas.List.Elements.{filter-append}
use Rattle.fp_timenodes.specs.declared.timelines.Stamp.{Stamp}
use Rattle.fp_base_lists.specs.Membership.{list_has}
use Rattle.fp_timenodes.specs.Stamps.{IsAscending, AreUpTo, points_of, IncludesPoint, IsStampCut}
use Rattle.fp_base_lists.proofs.Truth.{or_right_comm}
use Rattle.fp_base_lists.proofs.Membership.{list_has-append}
use Rattle.fp_timenodes.proofs.StampPlaces.{StandsAt, stamp-of, has-stamp}
use Rattle.fp_timenodes.proofs.StampSearch.{no_stamp}

points_of-append : (ss ts : List Stamp) (round : ℕ) → points_of (ss ++ ts) round ≡ points_of ss round ++ points_of ts round
points_of-append ss ts round =
    ap (map (λ (s : Stamp). s.at)) (filter-append (λ (s : Stamp). nat_le s.round round) ss ts) ∙
    map-append (λ (s : Stamp). s.at) (filter (λ (s : Stamp). nat_le s.round round) ss) (filter (λ (s : Stamp). nat_le s.round round) ts)

-- the points of one stamp and others
has-one-more : (s : Stamp) (stamps : List Stamp) (r q : ℕ) → list_has (points_of (s ∷ stamps) r) q ≡ ((nat_le s.round r && nat_eq s.at q) || list_has (points_of stamps r) q)
has-one-more s stamps r q =
    ⊎_elim (λ (e : nat_le s.round r ≡ true). rw e refl) (λ (e : nat_le s.round r ≡ false). rw e refl) (cases_Bool (nat_le s.round r))

-- a stamp that is put in gives its point from its round on
pub IncludesPoint-insert : (stamps : List Stamp) (cut : ℕ) (s : Stamp) → IncludesPoint stamps (insert stamps cut s) s.at s.round
IncludesPoint-insert stamps cut s r q =
    let front : List Stamp = take cut stamps in
    let back : List Stamp = drop cut stamps in
    let new = ap (λ (ps : List ℕ). list_has ps q) (points_of-append front (s ∷ back) r) ∙ list_has-append (points_of front r) (points_of (s ∷ back) r) q in
    let old = ap (λ (ps : List ℕ). list_has ps q) (sym (points_of-append front back r)) in
    let split = ap (λ (l : List Stamp). list_has (points_of l r) q) (take-append-drop cut stamps) in
    let whole = sym (list_has-append (points_of front r) (points_of back r) q) ∙ old ∙ split in
    new ∙ ap (λ (b : Bool). list_has (points_of front r) q || b) (has-one-more s back r q) ∙
    sym (or_assoc (list_has (points_of front r) q) (nat_le s.round r && nat_eq s.at q) (list_has (points_of back r) q)) ∙
    or_right_comm (list_has (points_of front r) q) (nat_le s.round r && nat_eq s.at q) (list_has (points_of back r) q) ∙
    ap (λ (b : Bool). b || (nat_le s.round r && nat_eq s.at q)) whole

-- a point that is there gives nothing new
pub IncludesPoint-there : (stamps : List Stamp) (at round : ℕ) → list_has (points_of stamps round) at ≡ true → IncludesPoint stamps stamps at round
IncludesPoint-there stamps at round there r q =
    ⊎_elim
    (λ (h : (nat_le round r && nat_eq at q) ≡ true). rw (h, there-at h) refl)
    (λ (h : (nat_le round r && nat_eq at q) ≡ false). rw h (sym (or-false (list_has (points_of stamps r) q))))
    (cases_Bool (nat_le round r && nat_eq at q))
  where
    there-at : (nat_le round r && nat_eq at q) ≡ true → list_has (points_of stamps r) q ≡ true
    there-at h =
        let parts = and_parts (nat_le round r) (nat_eq at q) h in
        let w : StandsAt stamps round at no_stamp = stamp-of stamps round at no_stamp there in
        subst (λ (n : ℕ). list_has (points_of stamps r) n ≡ true) (w.time ∙ eqb-true at q parts.1)
        (has-stamp stamps r w.place no_stamp w.within (omega (arith, w.until, leb-true round r parts.0)))

-- no stamp is later than the round, and the time is no point: then the stamps before the cut are
-- before the time
pub IsStampCut-absent : (stamps : List Stamp) (at round cut : ℕ) → IsStampCut stamps at cut → AreUpTo round stamps → list_has (points_of stamps round) at ≡ false → AllWithin (λ (s : Stamp). s.at < at) stamps 0 cut
IsStampCut-absent stamps at round cut c up absent k d from h =
    ⊎_elim
    (λ (same : (get_or stamps k d).at ≡ at).
    let within : k < length stamps = omega (arith, c.within) in
    let there = has-stamp stamps round k d within (up k d within) in
    absurd (both_ways (list_has (points_of stamps round) at) absent (subst (λ (n : ℕ). list_has (points_of stamps round) n ≡ true) same there)))
    (λ (other : (get_or stamps k d).at ≢ at). omega (arith, c.until k d from h, other))
    (cases_eq (get_or stamps k d).at at)

-- a stamp that is put in between the earlier and the later keeps the stamps ascending
pub IsAscending-insert : (stamps : List Stamp) (cut : ℕ) (s : Stamp) → IsStampCut stamps s.at cut → AllWithin (λ (t : Stamp). t.at < s.at) stamps 0 cut → IsAscending (insert stamps cut s)
IsAscending-insert stamps cut s c before i j d less h =
    ⊎_elim
    (λ (early : i < cut).
    rw (get_or-insert_below stamps cut s d i early c.within)
    (⊎_elim
    (λ (both : j < cut). rw (get_or-insert_below stamps cut s d j both c.within) (c.ascending i j d less (omega (arith, c.within))))
    (λ (late : cut ≤ j).
    ⊎_elim
    (λ (here : j ≡ cut). rw (here, get_or-insert_at stamps cut s d c.within) (before i d (omega arith) early))
    (λ (after : j ≢ cut). rw (shifted j (omega arith)) (c.ascending i (j - 1) d (omega arith) (omega (arith, long))))
    (cases_eq j cut))
    (cases_lt j cut)))
    (λ (late : cut ≤ i).
    rw (shifted j (omega arith))
    (⊎_elim
    (λ (here : i ≡ cut). rw (here, get_or-insert_at stamps cut s d c.within) (c.after (j - 1) d (omega arith) (omega (arith, long))))
    (λ (after : i ≢ cut). rw (shifted i (omega arith)) (c.ascending (i - 1) (j - 1) d (omega arith) (omega (arith, long))))
    (cases_eq i cut)))
    (cases_lt i cut)
  where
    long : length (insert stamps cut s) ≡ length stamps + 1
    long = length-insert stamps cut s c.within

    shifted : (k : ℕ) → cut < k → get_or (insert stamps cut s) k d ≡ get_or stamps (k - 1) d
    shifted k l =
        let back : k - 1 + 1 ≡ k = omega arith in
        ap (λ (n : ℕ). get_or (insert stamps cut s) n d) (sym back) ∙ get_or-insert_above stamps cut s d (k - 1) (omega arith) c.within
