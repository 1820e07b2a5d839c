-- Entries of tables at the places of legs.
use Rattle.std.proofs.Common.{◌≡◌, ◌∙◌, ℕ, suc, ◌+◌, ◌*◌, ◌<◌, ◌≤◌, ◌⊎◌, List, [], ◌∷◌, length, get_or, set, ⊎_elim, inl, inr, refl, sym, ap, ap₂, subst, arith, length-set, get_or-set_same, get_or-set_other}
use Rattle.std.specs.Prelude.{Contains}
use Rattle.std.proofs.lemmas.Bool.{cases_eq, cases_lt}
use Rattle.std.proofs.lemmas.Nat.{mul-add-lt}
use Rattle.fp_base_lists.proofs.Membership.{Contains-cons_cases, Contains-first}
use Rattle.fp_model.specs.declared.parts.Member.{Member}
use Rattle.fp_model.specs.Members.{IsMemberOf}
use Rattle.fp_dispatch.specs.Rising.{IsWide, place_of, set_each}

-- a leg's number is below the width
leg-narrow : (routes : List (List ℕ)) (width : ℕ) (m : Member) → IsWide routes width → IsMemberOf routes m → m.leg < width
leg-narrow routes width m wide is = omega (arith, wide m.shipment [] is.shipment, is.leg)

-- the place of a leg lies in the tables
pub place_of-lt : (routes : List (List ℕ)) (width : ℕ) (m : Member) → IsWide routes width → IsMemberOf routes m → place_of width m < length routes * width
place_of-lt routes width m wide is =
    let h : m.shipment * width + m.leg < width * length routes = mul-add-lt m.shipment width m.leg (length routes) is.shipment (leg-narrow routes width m wide is) in
    omega (arith, h)

-- members that agree in both parts are one
Member-same : (m n : Member) → m.shipment ≡ n.shipment → m.leg ≡ n.leg → m ≡ n
Member-same m n shipment leg = let make : ℕ → ℕ → Member = λ k i. record { shipment = k; leg = i } in ap₂ make shipment leg

-- two members are one or not
pub Member-cases : (m n : Member) → (m ≡ n) ⊎ (m ≡ n → ⊥)
Member-cases m n =
    ⊎_elim
    (λ (shipment : m.shipment ≡ n.shipment).
    ⊎_elim
    (λ (leg : m.leg ≡ n.leg). inl (Member-same m n shipment leg))
    (λ (apart : m.leg ≡ n.leg → ⊥). inr (λ e. apart (ap (λ (x : Member). x.leg) e)))
    (cases_eq m.leg n.leg))
    (λ (apart : m.shipment ≡ n.shipment → ⊥). inr (λ e. apart (ap (λ (x : Member). x.shipment) e)))
    (cases_eq m.shipment n.shipment)

-- a place in a later route is later
place-later : (width : ℕ) (m n : Member) → m.leg < width → m.shipment < n.shipment → place_of width m < place_of width n
place-later width m n narrow less =
    let h : m.shipment * width + m.leg < width * n.shipment = mul-add-lt m.shipment width m.leg n.shipment less narrow in
    omega (arith, h)

-- legs at one place are one
pub place_of-same : (routes : List (List ℕ)) (width : ℕ) (m n : Member) → IsWide routes width → IsMemberOf routes m → IsMemberOf routes n →
    place_of width m ≡ place_of width n → m ≡ n
place_of-same routes width m n wide is also same =
    let here : m.leg < width = leg-narrow routes width m wide is in
    let there : n.leg < width = leg-narrow routes width n wide also in
    ⊎_elim
    (λ (less : m.shipment < n.shipment). absurd (omega (arith, place-later width m n here less, same)))
    (λ (until : n.shipment ≤ m.shipment).
    ⊎_elim
    (λ (less : n.shipment < m.shipment). absurd (omega (arith, place-later width n m there less, same)))
    (λ (until_too : m.shipment ≤ n.shipment).
    let shipment : m.shipment ≡ n.shipment = omega (arith, until, until_too) in
    let rows : m.shipment * width ≡ n.shipment * width = ap (λ (k : ℕ). k * width) shipment in
    Member-same m n shipment (omega (arith, same, rows)))
    (cases_lt n.shipment m.shipment))
    (cases_lt m.shipment n.shipment)

-- an element of a list is one of a longer list
pub Contains-rest : {X : Type 0} (y : X) (ys : List X) (x : X) → Contains ys x → Contains (y ∷ ys) x
Contains-rest y ys x there = (suc there.0, omega (arith, there.1), there.2)

-- a table stays as long
pub length-set_each : {X : Type 0} (width : ℕ) (legs : List Member) (x : X) (table : List X) → length (set_each width legs x table) ≡ length table
length-set_each width [] x table = refl
length-set_each width (m ∷ legs) x table =
    length-set_each width legs x (set table (place_of width m) x) ∙ length-set table (place_of width m) x

-- an entry is as it was, or its place is that of one of the legs and it is the new one
pub set_each-cases : {X : Type 0} (width : ℕ) (legs : List Member) (x : X) (table : List X) (i : ℕ) (d : X) → i < length table →
    (get_or (set_each width legs x table) i d ≡ get_or table i d)
    ⊎ ((m : Member) × Contains legs m × (place_of width m ≡ i) × (get_or (set_each width legs x table) i d ≡ x))
set_each-cases width [] x table i d lt = inl refl
set_each-cases {X} width (m ∷ legs) x table i d lt =
    let new : List X = set table (place_of width m) x in
    ⊎_elim
    (λ (kept : get_or (set_each width legs x new) i d ≡ get_or new i d).
    ⊎_elim
    (λ (here : i ≡ place_of width m).
    let there : get_or new i d ≡ x =
    subst (λ (k : ℕ). get_or new k d ≡ x) (sym here) (get_or-set_same table (place_of width m) x d (omega (arith, lt, here))) in
    inr (m, Contains-first m legs, sym here, kept ∙ there))
    (λ (other : i ≡ place_of width m → ⊥). inl (kept ∙ get_or-set_other table (place_of width m) i x d other))
    (cases_eq i (place_of width m)))
    (λ (w : (n : Member) × Contains legs n × (place_of width n ≡ i) × (get_or (set_each width legs x new) i d ≡ x)).
    inr (w.0, Contains-rest m legs w.0 w.1, w.2, w.3))
    (set_each-cases width legs x new i d (omega (arith, lt, length-set table (place_of width m) x)))

-- an entry that is the new one already stays so
set_each-kept : {X : Type 0} (width : ℕ) (legs : List Member) (x : X) (table : List X) (i : ℕ) (d : X) → i < length table →
    get_or table i d ≡ x → get_or (set_each width legs x table) i d ≡ x
set_each-kept {X} width legs x table i d lt is =
    ⊎_elim
    (λ (kept : get_or (set_each width legs x table) i d ≡ get_or table i d). kept ∙ is)
    (λ (w : (m : Member) × Contains legs m × (place_of width m ≡ i) × (get_or (set_each width legs x table) i d ≡ x)). w.3)
    (set_each-cases width legs x table i d lt)

-- at the place of each of the legs stands the new entry
pub set_each-at : {X : Type 0} (width : ℕ) (legs : List Member) (x : X) (table : List X) (m : Member) (d : X) → Contains legs m →
    place_of width m < length table → get_or (set_each width legs x table) (place_of width m) d ≡ x
set_each-at width [] x table m d has lt = absurd (omega (arith, has.1))
set_each-at {X} width (n ∷ legs) x table m d has lt =
    let new : List X = set table (place_of width n) x in
    let long : length new ≡ length table = length-set table (place_of width n) x in
    ⊎_elim
    (λ (here : n ≡ m).
    let same : place_of width n ≡ place_of width m = ap (place_of width) here in
    let first : get_or new (place_of width n) d ≡ x = get_or-set_same table (place_of width n) x d (omega (arith, lt, same)) in
    set_each-kept width legs x new (place_of width m) d (omega (arith, lt, long)) (subst (λ (k : ℕ). get_or new k d ≡ x) same first))
    (λ (there : Contains legs m). set_each-at width legs x new m d there (omega (arith, lt, long)))
    (Contains-cons_cases n legs m has)
