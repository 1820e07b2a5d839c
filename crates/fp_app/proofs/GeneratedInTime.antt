-- Each shipment of the generator can be carried in time: round the ring from its origin.
use Rattle.std.proofs.Common.{◌≡◌, ◌∙◌, ℕ, zero, suc, ◌+◌, ◌-◌, ◌*◌, ◌/◌, ◌%◌, ◌<◌, ◌≤◌, Bool, true, ◌||◌, eqb, ⊎_elim, List, [], ◌∷◌, length, replicate, get_or, refl, sym, ap, inl, inr, arith}
use Rattle.std.specs.Prelude.{All, IfSome, Option, Some, None}
use Rattle.std.specs.List.{enumerate_from, flat_map, list_any, range_with_len}
use Rattle.std.proofs.Math.Nat.{add-mul-mod_self_left, mod-add-div, mod-eq_of_lt}
use Rattle.std.proofs.lemmas.Bool.{and_from, cases_Bool, cases_lt, eq-eqb, or_left, or_right}
use Rattle.std.proofs.lemmas.List.Elements.{All-map}
use Rattle.std.proofs.lemmas.List.Folds.{list_any-append}
use Rattle.std.proofs.lemmas.List.FromFn.{get_or-map-range_with_len, length-map-range_with_len}
use Rattle.std.proofs.lemmas.Nat.{mod_below}
use Rattle.fp_base_lists.proofs.Maps.{get_or-map_default}
use Rattle.fp_model.specs.declared.parts.Arc.{Arc}
use Rattle.fp_model.specs.declared.parts.Shipment.{Shipment}
use Rattle.fp_model.specs.Numbered.{shipment_at, no_shipment}
use Rattle.fp_model.specs.Problem.{Problem, arc_at, hold_at, no_arc}
use Rattle.fp_model.specs.Times.{IsFastest}
use Rattle.fp_model.specs.Routes.{Leads, walk_time}
use Rattle.fp_records_fields.specs.Indexes.{same_ends}
use Rattle.fp_flatnet.specs.Verdicts.{IsBlocked}
use Rattle.fp_reader.specs.Generator.{draw_after, drawn_arc, drawn_arcs, drawn_shipment, ends_from, generated, number_after, ring_ends}
use Rattle.fp_reader.proofs.DrawnArcs.{arc_ends-drawn_arcs}
use Rattle.fp_reader.proofs.FirstEnds.{list_any-first_ends, same_ends-true}
use Rattle.fp_reader.proofs.Ranges.{flat_map-range_more}
use Rattle.fp_reader.proofs.SoundArcs.{draw_after-lt, length-drawn_arcs}

-- An arc leads from one terminal to another within a time.
pub record HasArc (p : Problem) (from to most : ℕ) : Type 0 where
  pub number : ℕ
  pub exists : number < length p.arcs
  pub from_is : (arc_at p number).from ≡ from
  pub to_is : (arc_at p number).to ≡ to
  pub short : (arc_at p number).time ≤ most

-- A walk leads from one terminal to another within a time.
pub record HasWalk (p : Problem) (here there most : ℕ) : Type 0 where
  pub arcs : List ℕ
  pub leads : Leads p here arcs there
  pub short : walk_time p arcs ≤ most

-- a walk of one arc more, where nothing is held
walk_time-more : (p : Problem) (a : ℕ) (arcs : List ℕ) → ((h : ℕ) → hold_at p h ≡ 0) → walk_time p (a ∷ arcs) ≤ (arc_at p a).time + walk_time p arcs
walk_time-more p a [] free = omega arith
walk_time-more p a (b ∷ arcs) free = omega (arith, free (arc_at p a).to)

-- the terminal so many steps on, from the next one
steps-on : (terminals g m : ℕ) → ((g + 1) % terminals + m) % terminals ≡ (g + suc m) % terminals
steps-on terminals g m =
    let whole : (g + 1) % terminals + m + terminals * ((g + 1) / terminals) ≡ g + suc m = omega (arith, mod-add-div (g + 1) terminals) in
    sym (add-mul-mod_self_left ((g + 1) % terminals + m) terminals ((g + 1) / terminals)) ∙ ap (λ (n : ℕ). n % terminals) whole

-- so many steps round a ring
around : (p : Problem) (terminals : ℕ) → 1 ≤ terminals → ((h : ℕ) → hold_at p h ≡ 0) → ((g : ℕ) → g < terminals → HasArc p g ((g + 1) % terminals) 300)
    → (m g : ℕ) → g < terminals → HasWalk p g ((g + m) % terminals) (300 * m)
around p terminals some free ring zero g within =
    let same : (g + 0) % terminals ≡ g = ap (λ (n : ℕ). n % terminals) (let none : g + 0 ≡ g = omega arith in none) ∙ mod-eq_of_lt within in
    record { arcs = []; leads = sym same; short = omega arith }
around p terminals some free ring (suc m) g within =
    let arc = ring g within in
    let rest = around p terminals some free ring m ((g + 1) % terminals) (mod_below (g + 1) terminals some) in
    let there : Leads p (arc_at p arc.number).to rest.arcs ((g + suc m) % terminals) =
    rw (arc.to_is, sym (steps-on terminals g m)) rest.leads in
    record {
      arcs = arc.number ∷ rest.arcs;
      leads = (arc.exists, arc.from_is, there);
      short = omega (arith, walk_time-more p arc.number rest.arcs free, arc.short, rest.short);
    }

-- the place of a pair of ends
pub record Place (es : List (ℕ × ℕ)) (e : ℕ × ℕ) : Type 0 where
  pub number : ℕ
  pub exists : number < length es
  pub is : (d : ℕ × ℕ) → get_or es number d ≡ e

place-of : (es : List (ℕ × ℕ)) (e : ℕ × ℕ) → list_any (same_ends e) es ≡ true → Place es e
place-of [] e found = cc found
place-of (f ∷ es) e found =
    elim (cases_Bool (same_ends e f)) [
      | inl t ↦ record { number = 0; exists = omega arith; is = λ d. sym (same_ends-true e f t) }
      | inr apart ↦
          let more = place-of es e (rw apart at found) in
          record { number = suc more.number; exists = omega (arith, more.exists); is = more.is }
    ]

-- a pair is the same as itself
same_ends-self : (e : ℕ × ℕ) → same_ends e e ≡ true
same_ends-self e = and_from (eqb e.0 e.0) (eqb e.1 e.1) (eq-eqb e.0 e.0 refl) (eq-eqb e.1 e.1 refl)

-- whether the ends from a terminal to the next are among those of the first terminals
abbrev is_joined : (terminals g count : ℕ) → Bool
is_joined terminals g count = list_any (same_ends (g, (g + 1) % terminals)) (flat_map (ends_from terminals) (range_with_len 0 count))

joined-more : (terminals g n : ℕ) → is_joined terminals g (suc n) ≡ (is_joined terminals g n || list_any (same_ends (g, (g + 1) % terminals)) (ends_from terminals n))
joined-more terminals g n =
    let test = same_ends (g, (g + 1) % terminals) in
    let one : n + 1 ≡ suc n = omega arith in
    ap (λ (k : ℕ). list_any test (flat_map (ends_from terminals) (range_with_len 0 k))) (sym one)
    ∙ ap (list_any test) (flat_map-range_more (ends_from terminals) n)
    ∙ list_any-append test (flat_map (ends_from terminals) (range_with_len 0 n)) (ends_from terminals n)

-- among its own
joined-own : (terminals g : ℕ) → list_any (same_ends (g, (g + 1) % terminals)) (ends_from terminals g) ≡ true
joined-own terminals g = or_left _ _ (same_ends-self (g, (g + 1) % terminals))

joined : (terminals n g : ℕ) → g < n → is_joined terminals g n ≡ true
joined terminals zero g less = absurd (omega (arith, less))
joined terminals (suc n) g less =
    joined-more terminals g n
    ∙ ⊎_elim (λ (before : g < n). or_left _ _ (joined terminals n g before))
    (λ (last : n ≤ g).
    let same : g ≡ n = omega (arith, less, last) in
    or_right _ _ (ap (λ (k : ℕ). list_any (same_ends (g, (g + 1) % terminals)) (ends_from terminals k)) (sym same) ∙ joined-own terminals g))
    (cases_lt g n)

-- an arc that is drawn takes at most 300
drawn-short : (x : ℕ) (es : List (ℕ × ℕ)) → All (λ (a : Arc). a.time ≤ 300) (drawn_arcs x es)
drawn-short x es =
    let f : ℕ × (ℕ × ℕ) → Arc = λ p. drawn_arc (number_after x (4 * p.0)) p.1 in
    All-map (λ (a : Arc). a.time ≤ 300) f (enumerate_from 0 es)
    (λ i d lt. let less = draw_after-lt (number_after x (4 * (get_or (enumerate_from 0 es) i d).0)) 0 241 (omega arith) in omega (arith, less))

-- from each terminal an arc leads to the next
ring-arc : (seed terminals shipments g : ℕ) → g < terminals → HasArc (generated seed terminals shipments) g ((g + 1) % terminals) 300
ring-arc seed terminals shipments g within =
    let es = ring_ends terminals in
    let arcs = drawn_arcs seed es in
    let place = place-of es (g, (g + 1) % terminals) (list_any-first_ends (flat_map (ends_from terminals) (range_with_len 0 terminals)) (g, (g + 1) % terminals) ∙ joined terminals terminals g within) in
    let ends : (let e : ℕ × ℕ = ((get_or arcs place.number no_arc).from, (get_or arcs place.number no_arc).to) in e) ≡ (g, (g + 1) % terminals) =
    sym (get_or-map_default (λ (a : Arc). (a.from, a.to)) arcs place.number no_arc)
    ∙ ap (λ (l : List (ℕ × ℕ)). get_or l place.number (0, 0)) (arc_ends-drawn_arcs seed es)
    ∙ place.is (0, 0) in
    let exists : place.number < length arcs = omega (arith, place.exists, length-drawn_arcs seed es) in
    record {
      number = place.number;
      exists = exists;
      from_is = ap (λ (e : ℕ × ℕ). e.0) ends;
      to_is = ap (λ (e : ℕ × ℕ). e.1) ends;
      short = drawn-short seed es place.number no_arc exists;
    }

replicate-at : (n i none : ℕ) → get_or (replicate n none) i none ≡ none
replicate-at zero i none = refl
replicate-at (suc n) zero none = refl
replicate-at (suc n) (suc i) none = replicate-at n i none

-- nothing is held
free : (seed terminals shipments h : ℕ) → hold_at (generated seed terminals shipments) h ≡ 0
free seed terminals shipments h = replicate-at terminals h 0

-- each shipment has a walk in time
drawn-walk : (seed terminals shipments k : ℕ) → 2 ≤ terminals → k < shipments
    → (let s = shipment_at (generated seed terminals shipments) k in (w : HasWalk (generated seed terminals shipments) s.from s.to (300 * terminals)) × (s.release + 300 * terminals ≤ s.due))
drawn-walk seed terminals shipments k two within =
    let p = generated seed terminals shipments in
    let x = number_after seed (4 * length (ring_ends terminals)) in
    let f : ℕ → Shipment = λ n. drawn_shipment terminals (number_after x (5 * n)) n in
    let is : shipment_at p k ≡ f k = get_or-map-range_with_len f 0 shipments k k no_shipment within (omega arith) in
    let y = number_after x (5 * k) in
    let walk = around p terminals (omega (arith, two)) (free seed terminals shipments) (ring-arc seed terminals shipments)
    (1 + draw_after y 1 (terminals - 1)) (draw_after y 0 terminals) (draw_after-lt y 0 terminals (omega (arith, two))) in
    let few = draw_after-lt y 1 (terminals - 1) (omega (arith, two)) in
    let step : draw_after y 0 terminals + (1 + draw_after y 1 (terminals - 1)) ≡ draw_after y 0 terminals + 1 + draw_after y 1 (terminals - 1) = omega arith in
    rw is (record { arcs = walk.arcs; leads = rw (sym step) walk.leads; short = omega (arith, walk.short, few) }, omega arith)

-- so no shipment of the generator is late
pub generated-never_blocked : (seed terminals shipments k : ℕ) (o : Option ℕ) → 2 ≤ terminals → IsBlocked (generated seed terminals shipments) k o → ⊥
generated-never_blocked seed terminals shipments k o two blocked = never o blocked.fastest blocked.late
  where
    x : ℕ
    x = number_after seed (4 * length (ring_ends terminals))

    within : k < shipments
    within = omega (arith, blocked.exists, length-map-range_with_len (λ (n : ℕ). drawn_shipment terminals (number_after x (5 * n)) n) 0 shipments)

    never : (o : Option ℕ) → IsFastest (generated seed terminals shipments) (shipment_at (generated seed terminals shipments) k) o
        → IfSome o (λ t. (shipment_at (generated seed terminals shipments) k).due < (shipment_at (generated seed terminals shipments) k).release + t) → ⊥
    never None none late = let walk = drawn-walk seed terminals shipments k two within in none walk.0.arcs walk.0.leads
    never (Some t) least late = let walk = drawn-walk seed terminals shipments k two within in omega (arith, late, walk.1, walk.0.short, least.least walk.0.arcs walk.0.leads)
