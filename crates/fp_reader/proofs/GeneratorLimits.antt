-- What the generator gives is an instance.
use Rattle.std.proofs.Common.{◌≡◌, ◌≢◌, ℕ, ◌+◌, ◌*◌, ◌^◌, ◌<◌, ◌≤◌, List, length, map, replicate, get_or, codes, refl, arith}
use Rattle.std.specs.Prelude.{All, AllPairs, sum_by}
use Rattle.std.specs.Int.{div_ceil}
use Rattle.std.specs.List.{range_with_len}
use Rattle.std.proofs.Math.Nat.{mul-le-mul}
use Rattle.std.proofs.lemmas.List.{length-replicate}
use Rattle.std.proofs.lemmas.List.Elements.{All-map, All-replicate, All-weaker}
use Rattle.std.proofs.lemmas.List.FromFn.{get_or-map-range_with_len, get_or-range_with_len, length-map-range_with_len, length-range_with_len}
use Rattle.std.proofs.lemmas.List.Sums.{sum_by-le}
use Rattle.fp_base_lists.proofs.Ceilings.{div_ceil-least}
use Rattle.fp_model.specs.declared.limits.TheConstants.{GREATEST_HOLD, MOST_SHIPMENTS, MOST_TERMINALS, SCALE}
use Rattle.fp_model.specs.declared.parts.Arc.{Arc}
use Rattle.fp_model.specs.declared.parts.Shipment.{Shipment}
use Rattle.fp_model.specs.Names.{IsName}
use Rattle.fp_model.specs.Problem.{HasSoundParts, IsArc, IsShipment, IsValid, alone_cost, alone_total, weight_at}
use Rattle.fp_reader.specs.Generator.{drawn_arcs, drawn_shipment, drawn_shipments, generated, number_after, ordinal_name, ring_ends}
use Rattle.fp_reader.proofs.DrawnShipments.{IsLightShipment, drawn_shipments-differ, drawn_shipments-light}
use Rattle.fp_reader.proofs.FirstEnds.{first_ends-differ}
use Rattle.fp_reader.proofs.OrdinalNames.{IsName-ordinal_name, ordinal_name-apart}
use Rattle.fp_reader.proofs.RingEnds.{length-ring_ends, ring_ends-pairs}
use Rattle.fp_reader.proofs.SoundArcs.{IsLightArc, drawn_arcs-differ, drawn_arcs-light, length-drawn_arcs}

-- the names of terminals are names
names-fit : (terminals : ℕ) → terminals ≤ MOST_TERMINALS → All IsName (map (ordinal_name (codes "T")) (range_with_len 0 terminals))
names-fit terminals few =
    All-map IsName (ordinal_name (codes "T")) (range_with_len 0 terminals)
    (λ i d lt.
    let within : i < terminals = omega (arith, length-range_with_len 0 terminals, lt) in
    let number : get_or (range_with_len 0 terminals) i d ≡ 0 + i = get_or-range_with_len 0 terminals i d within in
    IsName-ordinal_name 84 (get_or (range_with_len 0 terminals) i d) refl (omega (arith, number)))

-- and they differ
names-differ : (terminals : ℕ) → terminals ≤ MOST_TERMINALS → AllPairs (λ m n. m ≢ n) (map (ordinal_name (codes "T")) (range_with_len 0 terminals))
names-differ terminals few i j d before within =
    let name = ordinal_name (codes "T") in
    let there : j < terminals = omega (arith, length-map-range_with_len name 0 terminals, within) in
    let earlier : get_or (map name (range_with_len 0 terminals)) i d ≡ name i = get_or-map-range_with_len name 0 terminals i i d (omega arith) (omega arith) in
    let later : get_or (map name (range_with_len 0 terminals)) j d ≡ name j = get_or-map-range_with_len name 0 terminals j j d there (omega arith) in
    rw (earlier, later) (ordinal_name-apart 84 i j before (omega arith))

-- what a small shipment costs alone over a cheap arc
light-alone : (terminals size : ℕ) (arc : Arc) → size ≤ 12 → IsLightArc terminals arc → alone_cost size arc ≤ 2424
light-alone terminals size arc small light =
    let trucks : div_ceil size arc.capacity ≤ 12 =
    div_ceil-least size arc.capacity 12 (omega (arith, light.sound.within.capacity)) (omega (arith, light.sound.within.capacity)) in
    let flow : arc.freight * size ≤ 2 * 12 = mul-le-mul light.freight small in
    let hired : arc.truck * div_ceil size arc.capacity ≤ 200 * 12 = mul-le-mul light.truck trucks in
    omega (arith, flow, hired)

-- the weight of light parts at a scale
light-weight : (terminals : ℕ) (arcs : List Arc) (shipments : List Shipment) → All (IsLightArc terminals) arcs → All (IsLightShipment terminals) shipments
    → length arcs ≤ 300 → length shipments ≤ 500 → alone_total arcs shipments ≤ 500 * (300 * 2424)
light-weight terminals arcs shipments light small few less =
    let each : All (λ (s : Shipment). sum_by (alone_cost s.size) arcs ≤ 300 * 2424) shipments =
    All-weaker (IsLightShipment terminals) (λ (s : Shipment). sum_by (alone_cost s.size) arcs ≤ 300 * 2424)
    (λ s l.
    let costs : sum_by (alone_cost s.size) arcs ≤ length arcs * 2424 =
    sum_by-le (alone_cost s.size) 2424 arcs
    (All-weaker (IsLightArc terminals) (λ (a : Arc). alone_cost s.size a ≤ 2424) (λ a h. light-alone terminals s.size a l.size h) arcs light) in
    omega (arith, costs))
    shipments small in
    let total : alone_total arcs shipments ≤ length shipments * (300 * 2424) = sum_by-le (λ (s : Shipment). sum_by (alone_cost s.size) arcs) (300 * 2424) shipments each in
    omega (arith, total)

-- what the generator gives is sound
generated-sound : (seed terminals shipments : ℕ) → 2 ≤ terminals → terminals ≤ MOST_TERMINALS → shipments ≤ MOST_SHIPMENTS
    → HasSoundParts (generated seed terminals shipments)
generated-sound seed terminals shipments two few less =
    let name = ordinal_name (codes "T") in
    let ends = ring_ends terminals in
    let x = number_after seed (4 * length ends) in
    let count : length (map name (range_with_len 0 terminals)) ≡ terminals = length-map-range_with_len name 0 terminals in
    record {
      few_terminals = omega (arith, count);
      few_arcs = omega (arith, length-drawn_arcs seed ends, length-ring_ends terminals);
      few_shipments = omega (arith, length-map-range_with_len (λ (k : ℕ). drawn_shipment terminals (number_after x (5 * k)) k) 0 shipments);
      names = names-fit terminals few;
      arcs = rw count (All-weaker (IsLightArc terminals) (IsArc terminals) (λ a l. l.sound) (drawn_arcs seed ends) (drawn_arcs-light seed terminals ends (ring_ends-pairs terminals two)));
      shipments = rw count (All-weaker (IsLightShipment terminals) (IsShipment terminals) (λ s l. l.sound) (drawn_shipments terminals x shipments) (drawn_shipments-light terminals x shipments two few));
      terminals_differ = names-differ terminals few;
      arcs_differ = drawn_arcs-differ seed ends (first_ends-differ _);
      shipments_differ = drawn_shipments-differ terminals x shipments less;
      one_each = omega (arith, count, length-replicate {A = ℕ} terminals 0);
      holds = All-replicate (λ h. h ≤ GREATEST_HOLD) terminals 0 (omega arith);
    }

-- and so it is an instance
generated-valid : (seed terminals shipments : ℕ) → 2 ≤ terminals → terminals ≤ MOST_TERMINALS → shipments ≤ MOST_SHIPMENTS
    → IsValid (generated seed terminals shipments)
generated-valid seed terminals shipments two few less =
    let ends = ring_ends terminals in
    let x = number_after seed (4 * length ends) in
    let arcs = drawn_arcs seed ends in
    let drawn = drawn_shipments terminals x shipments in
    let total : alone_total arcs drawn ≤ 500 * (300 * 2424) =
    light-weight terminals arcs drawn (drawn_arcs-light seed terminals ends (ring_ends-pairs terminals two)) (drawn_shipments-light terminals x shipments two few)
    (omega (arith, length-drawn_arcs seed ends, length-ring_ends terminals))
    (omega (arith, length-map-range_with_len (λ (k : ℕ). drawn_shipment terminals (number_after x (5 * k)) k) 0 shipments)) in
    let within : weight_at SCALE arcs drawn < 2 ^ 127 = omega (arith, total) in
    record { parts = generated-sound seed terminals shipments two few less; weight = within; scale = (omega arith, omega arith); fits = within }

-- parts that are those of the generator make an instance
pub parts-valid : (seed terminals shipments x : ℕ) (names : List (List ℕ)) (holds : List ℕ) (arcs : List Arc) (drawn : List Shipment)
    → 2 ≤ terminals → terminals ≤ MOST_TERMINALS → shipments ≤ MOST_SHIPMENTS
    → names ≡ map (ordinal_name (codes "T")) (range_with_len 0 terminals) → holds ≡ replicate terminals 0 → arcs ≡ drawn_arcs seed (ring_ends terminals)
    → x ≡ number_after seed (4 * length (ring_ends terminals)) → drawn ≡ drawn_shipments terminals x shipments
    → IsValid (record { terminals = names; holds = holds; arcs = arcs; shipments = drawn; scale = SCALE })
parts-valid seed terminals shipments x names holds arcs drawn two few less named held joined after carried =
    rw (named, held, joined, carried, after) (generated-valid seed terminals shipments two few less)
