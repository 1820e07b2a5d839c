-- Shipments that are drawn.
use Rattle.std.proofs.Common.{◌≡◌, ◌≢◌, ◌∙◌, ℕ, ◌+◌, ◌-◌, ◌*◌, ◌%◌, ◌<◌, ◌≤◌, List, [], ◌∷◌, ◌++◌, map, get_or, ap, codes, refl, arith}
use Rattle.std.specs.Prelude.{All, AllPairs}
use Rattle.std.specs.List.{range_with_len}
use Rattle.std.proofs.lemmas.List.Elements.{All-map}
use Rattle.std.proofs.lemmas.List.FromFn.{get_or-map-range_with_len, length-map-range_with_len}
use Rattle.fp_model.specs.declared.limits.TheConstants.{MOST_SHIPMENTS, MOST_TERMINALS}
use Rattle.fp_model.specs.declared.parts.Shipment.{Shipment}
use Rattle.fp_model.specs.Problem.{IsShipment}
use Rattle.fp_reader.specs.Draws.{drawn, next_number}
use Rattle.fp_reader.specs.Generator.{draw_after, drawn_shipment, drawn_shipments, number_after, ordinal_name}
use Rattle.fp_reader.proofs.NumbersAfter.{number_after-more}
use Rattle.fp_reader.proofs.OrdinalNames.{ordinal_name-apart}
use Rattle.fp_reader.proofs.Ranges.{map-range_more}
use Rattle.fp_reader.proofs.RingEnds.{ring-pair}
use Rattle.fp_reader.proofs.SoundArcs.{draw_after-lt}

-- a shipment of a name and five draws in turn
pub drawn_shipment-from_draws : (terminals x number : ℕ) (name : List ℕ) (from on size release later second third fourth fifth : ℕ)
    → name ≡ ordinal_name (codes "S") number
    → from ≡ drawn x terminals → second ≡ next_number x
    → on ≡ drawn second (terminals - 1) → third ≡ next_number second
    → size ≡ drawn third 12 → fourth ≡ next_number third
    → release ≡ drawn fourth 5000 → fifth ≡ next_number fourth
    → later ≡ drawn fifth 2000
    → (let s : Shipment = record {
      name = name;
      from = from;
      to = (from + 1 + on) % terminals;
      size = 1 + size;
      release = release;
      due = release + 300 * terminals + later;
    } in s) ≡ drawn_shipment terminals x number
drawn_shipment-from_draws terminals x number name from on size release later second third fourth fifth named one to-second two to-third three to-fourth four to-fifth five =
    rw (named, one, two, three, four, five, to-fifth, to-fourth, to-third, to-second) refl

-- a shipment that is small
pub record IsLightShipment (terminals : ℕ) (s : Shipment) : Type 0 where
  pub sound : IsShipment terminals s
  pub size : s.size ≤ 12

-- of five draws
light-shipment : (terminals from on size release later : ℕ) (name : List ℕ) → 2 ≤ terminals → terminals ≤ MOST_TERMINALS
    → from < terminals → on < terminals - 1 → size < 12 → release < 5000 → later < 2000
    → IsLightShipment terminals (record {
      name = name;
      from = from;
      to = (from + 1 + on) % terminals;
      size = 1 + size;
      release = release;
      due = release + 300 * terminals + later;
    })
light-shipment terminals from on size release later name two few within less small soon near =
    let step : from + 1 + on ≡ from + (1 + on) = omega arith in
    let pair = ring-pair terminals from (1 + on) within (omega arith) (omega arith) in
    record {
      sound = record {
        within = record { size = (omega arith, omega arith); due = omega arith };
        from = within;
        to = rw step pair.to;
        ends = rw step pair.apart;
        window = omega arith;
      };
      size = omega arith;
    }

drawn_shipment-light : (terminals x number : ℕ) → 2 ≤ terminals → terminals ≤ MOST_TERMINALS → IsLightShipment terminals (drawn_shipment terminals x number)
drawn_shipment-light terminals x number two few =
    light-shipment terminals (draw_after x 0 terminals) (draw_after x 1 (terminals - 1)) (draw_after x 2 12) (draw_after x 3 5000) (draw_after x 4 2000)
    (ordinal_name (codes "S") number) two few
    (draw_after-lt x 0 terminals (omega arith)) (draw_after-lt x 1 (terminals - 1) (omega arith)) (draw_after-lt x 2 12 (omega arith))
    (draw_after-lt x 3 5000 (omega arith)) (draw_after-lt x 4 2000 (omega arith))

-- each of them
pub drawn_shipments-light : (terminals x shipments : ℕ) → 2 ≤ terminals → terminals ≤ MOST_TERMINALS → All (IsLightShipment terminals) (drawn_shipments terminals x shipments)
drawn_shipments-light terminals x shipments two few =
    let f : ℕ → Shipment = λ k. drawn_shipment terminals (number_after x (5 * k)) k in
    All-map (IsLightShipment terminals) f (range_with_len 0 shipments)
    (λ i d lt. drawn_shipment-light terminals (number_after x (5 * get_or (range_with_len 0 shipments) i d)) (get_or (range_with_len 0 shipments) i d) two few)

-- their names differ
pub drawn_shipments-differ : (terminals x shipments : ℕ) → shipments ≤ MOST_SHIPMENTS
    → AllPairs (λ (s t : Shipment). s.name ≢ t.name) (drawn_shipments terminals x shipments)
drawn_shipments-differ terminals x shipments few i j d before within =
    let f : ℕ → Shipment = λ k. drawn_shipment terminals (number_after x (5 * k)) k in
    let there : j < shipments = omega (arith, length-map-range_with_len f 0 shipments, within) in
    let earlier : get_or (map f (range_with_len 0 shipments)) i d ≡ f i = get_or-map-range_with_len f 0 shipments i i d (omega arith) (omega arith) in
    let later : get_or (map f (range_with_len 0 shipments)) j d ≡ f j = get_or-map-range_with_len f 0 shipments j j d there (omega arith) in
    rw (earlier, later) (ordinal_name-apart 83 i j before (omega arith))

-- one more shipment, of the next five draws
pub drawn_shipments-more : (terminals x number now next : ℕ) (shipments : List Shipment) (s : Shipment) (more : List Shipment)
    → shipments ≡ drawn_shipments terminals x number → now ≡ number_after x (5 * number)
    → s ≡ drawn_shipment terminals now number → next ≡ number_after now 5 → more ≡ shipments ++ (s ∷ [])
    → (more ≡ drawn_shipments terminals x (number + 1)) × (next ≡ number_after x (5 * (number + 1)))
drawn_shipments-more terminals x number now next shipments s more so-far after one five pushed =
    let draws : 5 * number + 5 ≡ 5 * (number + 1) = omega arith in (
      map-range_more (λ k. drawn_shipment terminals (number_after x (5 * k)) k) number shipments s more so-far
          (one ∙ ap (λ n. drawn_shipment terminals n number) after) pushed,
      five ∙ ap (λ n. number_after n 5) after ∙ number_after-more x (5 * number) 5 (5 * (number + 1)) draws,
    )
