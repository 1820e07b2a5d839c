-- The legs that are listed for a line are exactly those that go by it, by shipment.
use Rattle.std.proofs.Common.{◌≡◌, ◌≢◌, ℕ, zero, suc, ◌+◌, ◌<◌, ◌≤◌, Bool, true, false, cond, List, [], ◌∷◌, ◌++◌, length, get_or, ⊎_elim, refl, sym, ap, ap₂, subst, arith, eqb-true, eq-eqb}
use Rattle.std.specs.Prelude.{◌↔◌, AllPairs, Any, Contains, nat_eq}
use Rattle.std.specs.List.{AllByRecursion}
use Rattle.std.proofs.lemmas.Bool.{cases_Bool}
use Rattle.std.proofs.lemmas.List.Elements.{Contains-append_left, Contains-append_right}
use Rattle.fp_base_lists.proofs.Elements.{AllByRecursion-append, AllByRecursion-get_or, AllByRecursion-weaker}
use Rattle.fp_base_lists.proofs.Membership.{Contains-first}
use Rattle.fp_base_lists.proofs.Pairs.{AllPairs-append, AllPairs-nil, AllPairs-unique}
use Rattle.fp_model.specs.declared.parts.Member.{Member}
use Rattle.fp_yard.specs.Freight.{legs_by, members_by}
use Rattle.fp_yard.specs.Schedules.{GoesBy, IsFreight, IsFreightOf, IsSound, Schedule}
use Rattle.fp_yard.proofs.Departures.{HasLeg, HasLeg-freight, freight-leg, journey-exists}

-- a leg of the shipment k that goes by a line among lines of which the first has the number i
record StandsOn (line k i : ℕ) (lines : List ℕ) (m : Member) : Type 0 where
  shipment : m.shipment ≡ k
  place : ℕ
  leg : m.leg ≡ i + place
  within : place < length lines
  is : get_or lines place 0 ≡ line

-- the first line's own leg, where it is the line
here : (line k i l : ℕ) (lines : List ℕ) (b : Bool) → nat_eq l line ≡ b →
    AllByRecursion (StandsOn line k i (l ∷ lines)) (cond b (record { shipment = k; leg = i } ∷ []) [])
here line k i l lines true is = (record { shipment = refl; place = 0; leg = omega arith; within = omega arith; is = eqb-true l line is }, tt)
here line k i l lines false is = tt

stands-on : (line k i : ℕ) (lines : List ℕ) → AllByRecursion (StandsOn line k i lines) (legs_by line k i lines)
stands-on line k i [] = tt
stands-on line k i (l ∷ lines) =
    AllByRecursion-append (StandsOn line k i (l ∷ lines)) (cond (nat_eq l line) (record { shipment = k; leg = i } ∷ []) []) (legs_by line k (i + 1) lines)
    (here line k i l lines (nat_eq l line) refl)
    (AllByRecursion-weaker (StandsOn line k (i + 1) lines) (StandsOn line k i (l ∷ lines))
    (λ m on. record { shipment = on.shipment; place = suc on.place; leg = omega (arith, on.leg); within = omega (arith, on.within); is = on.is })
    (legs_by line k (i + 1) lines) (stands-on line k (i + 1) lines))

-- a leg by a line among journeys of which the first is that of the shipment k
record StandsIn (line k : ℕ) (journeys : List (List ℕ)) (m : Member) : Type 0 where
  place : ℕ
  shipment : m.shipment ≡ k + place
  exists : place < length journeys
  within : m.leg < length (get_or journeys place [])
  is : get_or (get_or journeys place []) m.leg 0 ≡ line

stands-in : (line k : ℕ) (journeys : List (List ℕ)) → AllByRecursion (StandsIn line k journeys) (members_by line k journeys)
stands-in line k [] = tt
stands-in line k (journey ∷ journeys) =
    AllByRecursion-append (StandsIn line k (journey ∷ journeys)) (legs_by line k 0 journey) (members_by line (k + 1) journeys)
    (AllByRecursion-weaker (StandsOn line k 0 journey) (StandsIn line k (journey ∷ journeys))
    (λ m on.
    let leg : on.place ≡ m.leg = omega (arith, on.leg) in
    record {
      place = 0;
      shipment = omega (arith, on.shipment);
      exists = omega arith;
      within = omega (arith, leg, on.within);
      is = subst (λ (i : ℕ). get_or journey i 0 ≡ line) leg on.is;
    })
    (legs_by line k 0 journey) (stands-on line k 0 journey))
    (AllByRecursion-weaker (StandsIn line (k + 1) journeys) (StandsIn line k (journey ∷ journeys))
    (λ m on. record { place = suc on.place; shipment = omega (arith, on.shipment); exists = omega (arith, on.exists); within = on.within; is = on.is })
    (members_by line (k + 1) journeys) (stands-in line (k + 1) journeys))

-- each leg that goes by the line is listed
listed-on : (line k i n : ℕ) (lines : List ℕ) → n < length lines → get_or lines n 0 ≡ line → Contains (legs_by line k i lines) (record { shipment = k; leg = i + n })
listed-on line k i n [] lt is = absurd (omega (arith, lt))
listed-on line k i zero (l ∷ lines) lt is =
    let rest : List Member = legs_by line k (i + 1) lines in
    subst (λ (b : Bool). Contains (cond b (record { shipment = k; leg = i } ∷ []) [] ++ rest) (record { shipment = k; leg = i + 0 })) (sym (eq-eqb l line is))
    (subst (λ (j : ℕ). Contains (record { shipment = k; leg = i } ∷ rest) (record { shipment = k; leg = j })) (omega arith) (Contains-first (record { shipment = k; leg = i }) rest))
listed-on line k i (suc n) (l ∷ lines) lt is =
    let rest : List Member = legs_by line k (i + 1) lines in
    subst (λ (j : ℕ). Contains (legs_by line k i (l ∷ lines)) (record { shipment = k; leg = j })) (omega arith)
    (Contains-append_right (cond (nat_eq l line) (record { shipment = k; leg = i } ∷ []) []) rest (record { shipment = k; leg = i + 1 + n })
    (listed-on line k (i + 1) n lines (omega (arith, lt)) is))

listed-in : (line k n leg : ℕ) (journeys : List (List ℕ)) → n < length journeys → leg < length (get_or journeys n []) → get_or (get_or journeys n []) leg 0 ≡ line →
    Contains (members_by line k journeys) (record { shipment = k + n; leg = leg })
listed-in line k n leg [] lt within is = absurd (omega (arith, lt))
listed-in line k zero leg (journey ∷ journeys) lt within is =
    subst (λ (m : Member). Contains (members_by line k (journey ∷ journeys)) m) (ap₂ (λ (a b : ℕ). record { shipment = a; leg = b }) (omega arith) (omega arith))
    (Contains-append_left (legs_by line k 0 journey) (members_by line (k + 1) journeys) (record { shipment = k; leg = 0 + leg }) (listed-on line k 0 leg journey within is))
listed-in line k (suc n) leg (journey ∷ journeys) lt within is =
    subst (λ (j : ℕ). Contains (members_by line k (journey ∷ journeys)) (record { shipment = j; leg = leg })) (omega arith)
    (Contains-append_right (legs_by line k 0 journey) (members_by line (k + 1) journeys) (record { shipment = k + 1 + n; leg = leg })
    (listed-in line (k + 1) n leg journeys (omega (arith, lt)) within is))

-- a line that is none of some lines has no leg by them
pub none-on : (line k i : ℕ) (lines : List ℕ) → ((n : ℕ) → n < length lines → get_or lines n 0 ≢ line) → legs_by line k i lines ≡ []
none-on line k i [] none = refl
none-on line k i (l ∷ lines) none =
    ⊎_elim
    (λ (yes : nat_eq l line ≡ true). absurd (none 0 (omega arith) (eqb-true l line yes)))
    (λ (no : nat_eq l line ≡ false).
    ap₂ (λ (b : Bool) (rest : List Member). cond b (record { shipment = k; leg = i } ∷ []) [] ++ rest) no
    (none-on line k (i + 1) lines (λ n lt. none (suc n) (omega (arith, lt)))))
    (cases_Bool (nat_eq l line))

-- lines that rise have one leg by a line at most

one-on : (line k i : ℕ) (lines : List ℕ) → ((m n : ℕ) → m < n → n < length lines → get_or lines m 0 < get_or lines n 0) → length (legs_by line k i lines) ≤ 1
one-on line k i [] rising = omega arith
one-on line k i (l ∷ lines) rising =
    ⊎_elim
    (λ (yes : nat_eq l line ≡ true).
    let rest : legs_by line k (i + 1) lines ≡ [] =
    none-on line k (i + 1) lines (λ n lt is. omega (arith, rising 0 (suc n) (omega arith) (omega (arith, lt)), eqb-true l line yes, is)) in
    let whole : legs_by line k i (l ∷ lines) ≡ record { shipment = k; leg = i } ∷ [] =
    ap₂ (λ (b : Bool) (ms : List Member). cond b (record { shipment = k; leg = i } ∷ []) [] ++ ms) yes rest in
    omega (arith, ap (λ (ms : List Member). length ms) whole))
    (λ (no : nat_eq l line ≡ false).
    let whole : legs_by line k i (l ∷ lines) ≡ legs_by line k (i + 1) lines =
    ap (λ (b : Bool). cond b (record { shipment = k; leg = i } ∷ []) [] ++ legs_by line k (i + 1) lines) no in
    omega (arith, ap (λ (ms : List Member). length ms) whole, one-on line k (i + 1) lines (λ m n less lt. rising (suc m) (suc n) (omega (arith, less)) (omega (arith, lt)))))
    (cases_Bool (nat_eq l line))

-- one leg comes before another by their shipments
abbrev Comes : Member → Member → Type 0
Comes m n = m.shipment < n.shipment

rising-in : (line k : ℕ) (journeys : List (List ℕ)) →
    ((p : ℕ) → p < length journeys → (m n : ℕ) → m < n → n < length (get_or journeys p []) → get_or (get_or journeys p []) m 0 < get_or (get_or journeys p []) n 0) →
    AllPairs Comes (members_by line k journeys)
rising-in line k [] rising = AllPairs-nil Comes
rising-in line k (journey ∷ journeys) rising =
    let first : List Member = legs_by line k 0 journey in
    let rest : List Member = members_by line (k + 1) journeys in
    AllPairs-append Comes first rest
    (λ i j d less lt. absurd (omega (arith, less, lt, one-on line k 0 journey (rising 0 (omega arith)))))
    (rising-in line (k + 1) journeys (λ p lt. rising (suc p) (omega (arith, lt))))
    (λ i d lt j e within.
    let on = AllByRecursion-get_or (StandsOn line k 0 journey) first i d (stands-on line k 0 journey) lt in
    let later = AllByRecursion-get_or (StandsIn line (k + 1) journeys) rest j e (stands-in line (k + 1) journeys) within in
    omega (arith, on.shipment, later.shipment))

-- the listed legs of a line are its freight
pub IsFreightOf-members : (s : Schedule) (line : ℕ) → IsSound s → IsFreightOf s line (members_by line 0 s.journeys)
IsFreightOf-members s line sound = record {
  rising = rising-in line 0 s.journeys (λ p lt. (sound.journeys p lt).rising);
  own = λ i d lt.
      let m : Member = get_or (members_by line 0 s.journeys) i d in
      let in_it = AllByRecursion-get_or (StandsIn line 0 s.journeys) (members_by line 0 s.journeys) i d (stands-in line 0 s.journeys) lt in
      let same : in_it.place ≡ m.shipment = omega (arith, in_it.shipment) in
      record {
        shipment = omega (arith, same, in_it.exists);
        leg = subst (λ (n : ℕ). m.leg < length (get_or s.journeys n [])) same in_it.within;
        goes = subst (λ (n : ℕ). get_or (get_or s.journeys n []) m.leg 0 ≡ line) same in_it.is;
      };
  every = λ m by.
      subst (λ (n : Member). Contains (members_by line 0 s.journeys) n) (ap (λ (n : ℕ). record m { shipment = n }) (omega arith))
      (listed-in line 0 m.shipment m.leg s.journeys by.shipment by.leg by.goes);
}

-- a line has one list of such legs
pub IsFreightOf-unique : (s : Schedule) (line : ℕ) (ms ns : List Member) → IsFreightOf s line ms → IsFreightOf s line ns → ms ≡ ns
IsFreightOf-unique s line ms ns first second =
    AllPairs-unique Comes (λ m n before after. omega (arith, before, after)) ms ns first.rising second.rising (λ i d lt. second.every (get_or ms i d) (first.own i d lt))
    (λ i d lt. first.every (get_or ns i d) (second.own i d lt))

-- their shipments are the freight of the line
pub IsFreight-members : (s : Schedule) (line k : ℕ) (members : List Member) → IsFreightOf s line members → IsFreight s line k ↔ Any (λ (m : Member). m.shipment ≡ k) members
IsFreight-members s line k members are = (
  (λ is.
      let leg : HasLeg s line k = HasLeg-freight s line k is in
      let m : Member = record { shipment = k; leg = leg.leg } in
      let by : GoesBy s line m = record { shipment = journey-exists s k leg.leg leg.within; leg = leg.within; goes = leg.is } in
      let at : Contains members m = are.every m by in (at.0, m, at.1, at.2, refl)),
  (λ any.
      let m : Member = any.1 in
      let by : GoesBy s line m = subst (GoesBy s line) any.3 (are.own any.0 m any.2) in
      subst (IsFreight s line) any.4 (freight-leg s line m.shipment m.leg by.leg by.goes)),
)
