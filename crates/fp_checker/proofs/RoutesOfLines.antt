-- The routes that leg lines tell, shipment by shipment.
use Rattle.std.proofs.Common.{◌≡◌, ℕ, zero, suc, ◌+◌, ◌<◌, true, false, cond, List, [], ◌∷◌, ◌++◌, length, get_or, set, take, ⊎_elim, refl, sym, ap, ap₂, ◌∙◌, subst, arith, eqb-true, eq-eqb}
use Rattle.std.specs.Prelude.{All, IsSomeAnd, Option, nat_eq}
use Rattle.std.specs.List.{AllByRecursion}
use Rattle.std.specs.declared.alloc.Global.{Global}
use Rattle.std.specs.declared.vec.Vec.{Vec}
use Rattle.std.proofs.lemmas.Bool.{cases_Bool, eqb-false}
use Rattle.std.proofs.lemmas.List.{get_or-set_other, get_or-set_same, length-set, take_more}
use Rattle.fp_model.specs.declared.parts.Leg.{Leg}
use Rattle.fp_model.specs.declared.parts.Shipment.{Shipment}
use Rattle.fp_base_lists.specs.Vectors.{lists_of}
use Rattle.fp_model.specs.Numbered.{route_at}
use Rattle.fp_base_lists.specs.Numbered.{AllFrom}
use Rattle.fp_flatnet.specs.declared.window_tables.Window.{Window}
use Rattle.fp_flatnet.specs.Windows.{IsInside, LiesWithin, PlanLiesWithin}
use Rattle.fp_timetable.specs.declared.lines.LegLine.{LegLine}
use Rattle.fp_timetable.specs.Lines.{line_leg, route_of, routes_from}
use Rattle.fp_checker.specs.Lines.{LeavesInside}
use Rattle.fp_timetable.proofs.ReadBack.{route_of-other, route_of-own}

-- one more line at the end
route_of-push_other : (lines : List LegLine) (l : LegLine) (k : ℕ) → nat_eq l.shipment k ≡ false → route_of (lines ++ (l ∷ [])) k ≡ route_of lines k
route_of-push_other [] l k h = route_of-other l [] k h
route_of-push_other (m ∷ lines) l k h =
    ap (λ (legs : List Leg). cond (nat_eq m.shipment k) (line_leg m ∷ legs) legs) (route_of-push_other lines l k h)

route_of-push_own : (lines : List LegLine) (l : LegLine) (k : ℕ) → nat_eq l.shipment k ≡ true → route_of (lines ++ (l ∷ [])) k ≡ route_of lines k ++ (line_leg l ∷ [])
route_of-push_own [] l k h = route_of-own l [] k h
route_of-push_own (m ∷ lines) l k h =
    ⊎_elim
    (λ (own : nat_eq m.shipment k ≡ true).
    route_of-own m (lines ++ (l ∷ [])) k own ∙ ap (λ (legs : List Leg). line_leg m ∷ legs) (route_of-push_own lines l k h)
    ∙ sym (ap (λ (legs : List Leg). legs ++ (line_leg l ∷ [])) (route_of-own m lines k own)))
    (λ (other : nat_eq m.shipment k ≡ false).
    route_of-other m (lines ++ (l ∷ [])) k other ∙ route_of-push_own lines l k h
    ∙ sym (ap (λ (legs : List Leg). legs ++ (line_leg l ∷ [])) (route_of-other m lines k other)))
    (cases_Bool (nat_eq m.shipment k))

-- routes that are those of the lines at each place
pub routes-same : (R : List (List Leg)) (lines : List LegLine) (i : ℕ) (shipments : List Shipment) → length R ≡ length shipments →
    ((k : ℕ) → k < length shipments → route_at R k ≡ route_of lines (i + k)) → R ≡ routes_from lines i shipments
routes-same [] lines i [] long each = refl
routes-same [] lines i (s ∷ shipments) long each = absurd (omega (arith, long))
routes-same (r ∷ R) lines i [] long each = absurd (omega (arith, long))
routes-same (r ∷ R) lines i (s ∷ shipments) long each =
    let same : i + 0 ≡ i = omega arith in
    ap₂ (λ (legs : List Leg) (routes : List (List Leg)). legs ∷ routes) (each 0 (omega arith) ∙ ap (route_of lines) same)
    (routes-same R lines (i + 1) shipments (omega (arith, long)) (λ k lt.
    let on : i + suc k ≡ i + 1 + k = omega arith in
    each (suc k) (omega (arith, lt)) ∙ ap (route_of lines) on))

-- the legs of routes that were gathered, at a place
lists_of-at : (routes : List (Vec Leg Global)) (k : ℕ) (d : Vec Leg Global) → k < length routes → route_at (lists_of routes) k ≡ (get_or routes k d).items
lists_of-at [] k d lt = absurd (omega (arith, lt))
lists_of-at (r ∷ routes) zero d lt = refl
lists_of-at (r ∷ routes) (suc k) d lt = lists_of-at routes k d (omega (arith, lt))

-- a leg more on the route of a line's shipment
pub gathered-more : (routes : List (Vec Leg Global)) (route new : Vec Leg Global) (lines : List LegLine) (i : ℕ) (d : LegLine) → i < length lines → (get_or lines i d).shipment < length routes →
    route ≡ get_or routes (get_or lines i d).shipment route → new.items ≡ route.items ++ (line_leg (get_or lines i d) ∷ []) →
    ((k : ℕ) → k < length routes → route_at (lists_of routes) k ≡ route_of (take i lines) k) →
    (k : ℕ) → k < length routes → route_at (lists_of (set routes (get_or lines i d).shipment new)) k ≡ route_of (take (i + 1) lines) k
gathered-more routes route new lines i d here exists read pushed each k lt =
    let l : LegLine = get_or lines i d in
    let more : take (i + 1) lines ≡ take i lines ++ (l ∷ []) = take_more lines i d here in
    let long : length (set routes l.shipment new) ≡ length routes = length-set routes l.shipment new in
    let at : route_at (lists_of (set routes l.shipment new)) k ≡ (get_or (set routes l.shipment new) k route).items =
    lists_of-at (set routes l.shipment new) k route (omega (arith, long, lt)) in
    ⊎_elim
    (λ (own : nat_eq l.shipment k ≡ true).
    let is : l.shipment ≡ k = eqb-true l.shipment k own in
    let put : get_or (set routes l.shipment new) k route ≡ new = subst (λ (n : ℕ). get_or (set routes l.shipment new) n route ≡ new) is (get_or-set_same routes l.shipment new route exists) in
    let before : route.items ≡ route_of (take i lines) k =
    ap (λ (r : Vec Leg Global). r.items) read ∙ sym (lists_of-at routes l.shipment route exists) ∙ subst (λ (n : ℕ). route_at (lists_of routes) n ≡ route_of (take i lines) n) (sym is) (each k lt) ∙ ap (route_of (take i lines)) is in
    at ∙ ap (λ (r : Vec Leg Global). r.items) put ∙ pushed ∙ ap (λ (legs : List Leg). legs ++ (line_leg l ∷ [])) before
    ∙ sym (ap (λ (xs : List LegLine). route_of xs k) more ∙ route_of-push_own (take i lines) l k own))
    (λ (other : nat_eq l.shipment k ≡ false).
    let kept : get_or (set routes l.shipment new) k route ≡ get_or routes k route = get_or-set_other routes l.shipment k new route (λ same. eqb-false l.shipment k other (sym same)) in
    at ∙ ap (λ (r : Vec Leg Global). r.items) kept ∙ sym (lists_of-at routes k route lt) ∙ each k lt
    ∙ sym (ap (λ (xs : List LegLine). route_of xs k) more ∙ route_of-push_other (take i lines) l k other))
    (cases_Bool (nat_eq l.shipment k))

-- lines that leave within their windows make routes that do
inside-route : (windows : ℕ → ℕ → Option Window) (lines : List LegLine) (k : ℕ) → AllByRecursion (LeavesInside windows) lines → LiesWithin windows 1 k (route_of lines k)
inside-route windows [] k all = tt
inside-route windows (l ∷ lines) k all =
    ⊎_elim
    (λ (own : nat_eq l.shipment k ≡ true).
    subst (LiesWithin windows 1 k) (sym (route_of-own l lines k own))
    (subst (λ (n : ℕ). IsSomeAnd (windows n l.arc) (IsInside 1 l.depart)) (eqb-true l.shipment k own) all.0, inside-route windows lines k all.1))
    (λ (other : nat_eq l.shipment k ≡ false). subst (LiesWithin windows 1 k) (sym (route_of-other l lines k other)) (inside-route windows lines k all.1))
    (cases_Bool (nat_eq l.shipment k))

pub inside-routes : (windows : ℕ → ℕ → Option Window) (lines : List LegLine) (i : ℕ) (shipments : List Shipment) → AllByRecursion (LeavesInside windows) lines →
    AllFrom (LiesWithin windows 1) i (routes_from lines i shipments)
inside-routes windows lines i [] all = tt
inside-routes windows lines i (s ∷ shipments) all = (inside-route windows lines i all, inside-routes windows lines (i + 1) shipments all)

-- and routes that do come from lines that do
line-of-route : (P : Leg → Type 0) (lines : List LegLine) (k j : ℕ) (d : LegLine) → j < length lines → (get_or lines j d).shipment ≡ k → AllByRecursion P (route_of lines k) → P (line_leg (get_or lines j d))
line-of-route P [] k j d lt own all = absurd (omega (arith, lt))
line-of-route P (l ∷ lines) k zero d lt own all = (subst (AllByRecursion P) (route_of-own l lines k (eq-eqb l.shipment k own)) all).0
line-of-route P (l ∷ lines) k (suc j) d lt own all =
    ⊎_elim
    (λ (h : nat_eq l.shipment k ≡ true). line-of-route P lines k j d (omega (arith, lt)) own (subst (AllByRecursion P) (route_of-own l lines k h) all).1)
    (λ (h : nat_eq l.shipment k ≡ false). line-of-route P lines k j d (omega (arith, lt)) own (subst (AllByRecursion P) (route_of-other l lines k h) all))
    (cases_Bool (nat_eq l.shipment k))

route-within : (windows : ℕ → ℕ → Option Window) (lines : List LegLine) (i k : ℕ) (shipments : List Shipment) → AllFrom (LiesWithin windows 1) i (routes_from lines i shipments) → k < length shipments →
    LiesWithin windows 1 (i + k) (route_of lines (i + k))
route-within windows lines i k [] all lt = absurd (omega (arith, lt))
route-within windows lines i zero (s ∷ shipments) all lt =
    let same : i ≡ i + 0 = omega arith in
    subst (λ (n : ℕ). LiesWithin windows 1 n (route_of lines n)) same all.0
route-within windows lines i (suc k) (s ∷ shipments) all lt =
    let on : i + 1 + k ≡ i + suc k = omega arith in
    subst (λ (n : ℕ). LiesWithin windows 1 n (route_of lines n)) on (route-within windows lines (i + 1) k shipments all.1 (omega (arith, lt)))

pub routes-inside : (windows : ℕ → ℕ → Option Window) (lines : List LegLine) (shipments : List Shipment) → All (λ (l : LegLine). l.shipment < length shipments) lines →
    PlanLiesWithin windows 1 (routes_from lines 0 shipments) → All (LeavesInside windows) lines
routes-inside windows lines shipments exist within j d lt =
    let k : ℕ = (get_or lines j d).shipment in
    let same : 0 + k ≡ k = omega arith in
    let route : LiesWithin windows 1 k (route_of lines k) =
    subst (λ (n : ℕ). LiesWithin windows 1 n (route_of lines n)) same (route-within windows lines 0 k shipments within (exist j d lt)) in
    line-of-route (λ (l : Leg). IsSomeAnd (windows k l.arc) (IsInside 1 l.depart)) lines k j d lt refl route
