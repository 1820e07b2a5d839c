-- The places of releases, due times and anchors give the initial points.
use Rattle.std.proofs.Common.{◌≡◌, ℕ, ◌≤◌, ◌<◌, true, false, List, [], ◌∷◌, ◌++◌, length, map, refl, sym, ap, ap₂, ◌∙◌, subst, arith, length-append}
use Rattle.std.specs.Prelude.{Bool, filter, All, ◌==◌, if◌then◌else◌}
use Rattle.std.proofs.lemmas.List.{get_or-map, length-map, map-append}
use Rattle.std.proofs.lemmas.List.Elements.{All-append, filter-append}
use Rattle.std.proofs.lemmas.List.Folds.{list_any-append}
use Rattle.std.proofs.Math.Bool.{or_comm}
use Rattle.fp_model.specs.declared.parts.Shipment.{Shipment}
use Rattle.fp_model.specs.Numbered.{no_shipment}
use Rattle.fp_model.specs.Problem.{Problem}
use Rattle.fp_timenodes.specs.declared.places.Place.{Place}
use Rattle.fp_base_lists.specs.Membership.{list_has}
use Rattle.fp_timenodes.specs.Points.{IsPlace, TimePoints, times_at}
use Rattle.fp_flatnet.specs.Belonging.{BelongsTo}
use Rattle.fp_flatnet.specs.Initial.{BeginAt, releases_at, dues_at, release_place, due_place}
use Rattle.fp_flatnet.specs.Tables.{WindowTable}

-- the places that have a point from the start
abbrev pub first_places : Problem → List Place → List Place
first_places p anchors = map release_place p.shipments ++ map due_place p.shipments ++ anchors

times-at-released : (ss : List Shipment) (terminal : ℕ) →
    times_at (map release_place ss) terminal ≡ map (λ (s : Shipment). s.release) (filter (λ (s : Shipment). s.from == terminal) ss)
times-at-released [] terminal = refl
times-at-released (s ∷ ss) terminal =
    elim (s.from == terminal) as (λ v.
    map (λ (x : Place). x.at) (if v then release_place s ∷ filter (λ (x : Place). x.terminal == terminal) (map release_place ss) else filter (λ (x : Place). x.terminal == terminal) (map release_place ss))
    ≡ map (λ (x : Shipment). x.release) (if v then s ∷ filter (λ (x : Shipment). x.from == terminal) ss else filter (λ (x : Shipment). x.from == terminal) ss))
    [ true ↦ ap (λ (ts : List ℕ). s.release ∷ ts) (times-at-released ss terminal) | false ↦ times-at-released ss terminal ]

times-at-due : (ss : List Shipment) (terminal : ℕ) →
    times_at (map due_place ss) terminal ≡ map (λ (s : Shipment). s.due) (filter (λ (s : Shipment). s.to == terminal) ss)
times-at-due [] terminal = refl
times-at-due (s ∷ ss) terminal =
    elim (s.to == terminal) as (λ v.
    map (λ (x : Place). x.at) (if v then due_place s ∷ filter (λ (x : Place). x.terminal == terminal) (map due_place ss) else filter (λ (x : Place). x.terminal == terminal) (map due_place ss))
    ≡ map (λ (x : Shipment). x.due) (if v then s ∷ filter (λ (x : Shipment). x.to == terminal) ss else filter (λ (x : Shipment). x.to == terminal) ss))
    [ true ↦ ap (λ (ts : List ℕ). s.due ∷ ts) (times-at-due ss terminal) | false ↦ times-at-due ss terminal ]

times_at-append : (xs ys : List Place) (terminal : ℕ) → times_at (xs ++ ys) terminal ≡ times_at xs terminal ++ times_at ys terminal
times_at-append xs ys terminal =
    ap (λ (places : List Place). map (λ (x : Place). x.at) places) (filter-append (λ (x : Place). x.terminal == terminal) xs ys)
    ∙ map-append (λ (x : Place). x.at) (filter (λ (x : Place). x.terminal == terminal) xs) (filter (λ (x : Place). x.terminal == terminal) ys)

-- these places are, at each terminal, the initial points
BeginAt-first_places : (p : Problem) (anchors : List Place) → BeginAt p anchors (record { terminals = length p.terminals; first = first_places p anchors; added = [] })
BeginAt-first_places p anchors = record {
  terminals = refl;
  same = λ terminal lt at.
      let ends : List Place = map release_place p.shipments ++ map due_place p.shipments in
      let split : times_at (first_places p anchors) terminal ≡ releases_at p terminal ++ dues_at p terminal ++ times_at anchors terminal =
      times_at-append ends anchors terminal
      ∙ ap (λ (ts : List ℕ). ts ++ times_at anchors terminal)
      (times_at-append (map release_place p.shipments) (map due_place p.shipments) terminal ∙ ap₂ (λ (xs ys : List ℕ). xs ++ ys) (times-at-released p.shipments terminal) (times-at-due p.shipments terminal)) in
      let times : List ℕ = times_at (first_places p anchors) terminal in
      let is_at : ℕ → Bool = λ q. q == at in
      list_any-append is_at times (0 ∷ [])
      ∙ or_comm (list_has times at) (list_has (0 ∷ []) at)
      ∙ sym (list_any-append is_at (0 ∷ []) times)
      ∙ ap (λ (ts : List ℕ). list_has (0 ∷ ts) at) split;
}

-- they are at terminals of the instance, and in time
first_places-are : (p : Problem) (table : WindowTable) → BelongsTo p table → All (IsPlace (length p.terminals)) (first_places p table.anchors)
first_places-are p table belongs =
    All-append (IsPlace (length p.terminals)) (map release_place p.shipments ++ map due_place p.shipments) table.anchors
    (All-append (IsPlace (length p.terminals)) (map release_place p.shipments) (map due_place p.shipments)
    (λ k d lt.
    let there : k < length p.shipments = omega (arith, lt, length-map p.shipments release_place) in
    let shipment = belongs.valid.parts.shipments k no_shipment there in
    rw (get_or-map release_place p.shipments k no_shipment d there) (shipment.from, omega (arith, shipment.window, shipment.within.due)))
    (λ k d lt.
    let there : k < length p.shipments = omega (arith, lt, length-map p.shipments due_place) in
    let shipment = belongs.valid.parts.shipments k no_shipment there in
    rw (get_or-map due_place p.shipments k no_shipment d there) (shipment.to, omega (arith, shipment.within.due))))
    belongs.places

-- the same of what the code has made
pub ArePlaces-first_places : (p : Problem) (table : WindowTable) (places : List Place) (terminals : List (List ℕ)) → BelongsTo p table →
    places ≡ first_places p table.anchors → terminals ≡ p.terminals → All (IsPlace (length terminals)) places
ArePlaces-first_places p table places terminals belongs same names =
    subst (λ (names : List (List ℕ)). All (IsPlace (length names)) places) (sym names)
    (subst (λ (xs : List Place). All (IsPlace (length p.terminals)) xs) (sym same) (first_places-are p table belongs))

pub BeginAt-places : (p : Problem) (anchors places : List Place) (terminals : List (List ℕ)) (points : TimePoints) →
    places ≡ first_places p anchors → terminals ≡ p.terminals → points ≡ record { terminals = length terminals; first = places; added = [] } → BeginAt p anchors points
BeginAt-places p anchors places terminals points same names made =
    let begun : List (List ℕ) → List Place → TimePoints = λ names xs. record { terminals = length names; first = xs; added = [] } in
    subst (λ (v : TimePoints). BeginAt p anchors v) (sym (made ∙ ap₂ begun names same)) (BeginAt-first_places p anchors)

-- there are two places for each shipment, and the anchors
pub length-places : (p : Problem) (table : WindowTable) (places : List Place) → BelongsTo p table → places ≡ first_places p table.anchors → length places ≤ 31000
length-places p table places belongs same =
    let ends : List Place = map release_place p.shipments ++ map due_place p.shipments in
    let long : length places ≡ length (first_places p table.anchors) = ap (λ (xs : List Place). length xs) same in
    omega (
      arith,
      long,
      length-append ends table.anchors,
      length-append (map release_place p.shipments) (map due_place p.shipments),
      length-map p.shipments release_place,
      length-map p.shipments due_place,
      belongs.valid.parts.few_shipments,
      belongs.few_anchors,
    )
