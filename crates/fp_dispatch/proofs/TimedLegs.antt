-- Legs and routes that are added, one after the other.
use Rattle.std.proofs.Common.{◌≡◌, ◌∙◌, ℕ, zero, suc, ◌+◌, ◌*◌, ◌<◌, ◌≤◌, List, [], ◌∷◌, ◌++◌, length, get_or, take, refl, sym, ap, ap₂, subst, arith, ⊎_elim}
use Rattle.std.specs.Prelude.{All, Contains}
use Rattle.std.proofs.lemmas.Bool.{cases_eq}
use Rattle.std.proofs.lemmas.List.{map-append, take_more}
use Rattle.std.proofs.lemmas.List.Elements.{All-append, All-cons, All-nil, Contains-append_left, Contains-push}
use Rattle.fp_model.specs.declared.parts.Leg.{Leg}
use Rattle.fp_model.specs.declared.parts.Member.{Member}
use Rattle.fp_model.specs.Members.{IsMemberOf, arc_lists}
use Rattle.fp_model.specs.Numbered.{leg_at}
use Rattle.fp_model.specs.Routes.{arcs_of}
use Rattle.fp_dispatch.specs.Rising.{legs_below, value_at}
use Rattle.fp_dispatch.specs.Times.{departure}

-- one more leg
pub arcs_of-push : (legs : List Leg) (l : Leg) (route : List ℕ) (i : ℕ) → arcs_of legs ≡ take i route → i < length route → l.arc ≡ get_or route i 0 →
    arcs_of (legs ++ l ∷ []) ≡ take (i + 1) route
arcs_of-push legs l route i so_far lt arc =
    map-append (λ (x : Leg). x.arc) legs (l ∷ []) ∙ ap₂ (λ (ns : List ℕ) (a : ℕ). ns ++ a ∷ []) so_far arc ∙ sym (take_more route i 0 lt)

-- one more route
pub arc_lists-push : (plan : List (List Leg)) (legs : List Leg) (routes : List (List ℕ)) (k : ℕ) → arc_lists plan ≡ take k routes → k < length routes →
    arcs_of legs ≡ get_or routes k [] → arc_lists (plan ++ legs ∷ []) ≡ take (k + 1) routes
arc_lists-push plan legs routes k so_far lt arcs =
    map-append arcs_of plan (legs ∷ []) ∙ ap₂ (λ (ns : List (List ℕ)) (a : List ℕ). ns ++ a ∷ []) so_far arcs ∙ sym (take_more routes k [] lt)

-- the element before the last one, and the last one
push-before : {X : Type 0} (xs : List X) (x : X) (i : ℕ) (d : X) → i < length xs → get_or (xs ++ x ∷ []) i d ≡ get_or xs i d
push-before [] x i d lt = absurd (omega (arith, lt))
push-before (y ∷ xs) x zero d lt = refl
push-before (y ∷ xs) x (suc i) d lt = push-before xs x i d (omega (arith, lt))

push-last : {X : Type 0} (xs : List X) (x : X) (i : ℕ) (d : X) → i ≡ length xs → get_or (xs ++ x ∷ []) i d ≡ x
push-last [] x i d is = ap (λ (k : ℕ). get_or (x ∷ []) k d) is
push-last (y ∷ xs) x zero d is = absurd (omega (arith, is))
push-last (y ∷ xs) x (suc i) d is = push-last xs x i d (omega (arith, is))

-- the departures of one more route
pub departures-push : (plan : List (List Leg)) (legs : List Leg) (routes : List (List ℕ)) (values : List ℕ) (width k : ℕ) → length plan ≡ k →
    ((m : Member) → IsMemberOf routes m → m.shipment < k → departure plan m ≡ value_at width values m) →
    ((i : ℕ) → i < length (get_or routes k []) → (leg_at legs i).depart ≡ get_or values (k * width + i) 0) →
    (m : Member) → IsMemberOf routes m → m.shipment < k + 1 → departure (plan ++ legs ∷ []) m ≡ value_at width values m
departures-push plan legs routes values width k long before now m is lt =
    ⊎_elim
    (λ (same : m.shipment ≡ k).
    let leg : m.leg < length (get_or routes k []) = omega (arith, is.leg, ap (λ (j : ℕ). length (get_or routes j [])) same) in
    ap (λ (ls : List Leg). (leg_at ls m.leg).depart) (push-last plan legs m.shipment [] (omega (arith, same, long)))
    ∙ now m.leg leg ∙ ap (λ (j : ℕ). get_or values (j * width + m.leg) 0) (sym same))
    (λ (other : m.shipment ≡ k → ⊥).
    let earlier : m.shipment < k = omega (arith, lt, other) in
    ap (λ (ls : List Leg). (leg_at ls m.leg).depart) (push-before plan legs m.shipment [] (omega (arith, earlier, long))) ∙ before m is earlier)
    (cases_eq m.shipment k)

-- the first legs of a route are legs of the routes
pub legs_below-members : (routes : List (List ℕ)) (k n : ℕ) → k < length routes → n ≤ length (get_or routes k []) → All (IsMemberOf routes) (legs_below k n)
legs_below-members routes k zero shipment few = All-nil (IsMemberOf routes)
legs_below-members routes k (suc n) shipment few =
    let last : Member = record { shipment = k; leg = n } in
    All-append (IsMemberOf routes) (legs_below k n) (last ∷ []) (legs_below-members routes k n shipment (omega (arith, few)))
    (All-cons (IsMemberOf routes) last [] (record { shipment = shipment; leg = omega (arith, few) }) (All-nil (IsMemberOf routes)))

-- and they are all of them
pub legs_below-every : (k n i : ℕ) → i < n → Contains (legs_below k n) (record { shipment = k; leg = i })
legs_below-every k zero i lt = absurd (omega (arith, lt))
legs_below-every k (suc n) i lt =
    let last : Member = record { shipment = k; leg = n } in
    ⊎_elim
    (λ (same : i ≡ n).
    subst (λ (j : ℕ). Contains (legs_below k n ++ last ∷ []) (record { shipment = k; leg = j })) (sym same) (Contains-push (legs_below k n) last))
    (λ (other : i ≡ n → ⊥). Contains-append_left (legs_below k n) (last ∷ []) (record { shipment = k; leg = i }) (legs_below-every k n i (omega (arith, lt, other))))
    (cases_eq i n)
