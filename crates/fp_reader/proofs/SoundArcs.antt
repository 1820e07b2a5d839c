-- The arcs of the generator are sound.
use Rattle.std.proofs.Common.{◌≡◌, ◌≢◌, ◌∙◌, ℕ, ◌+◌, ◌*◌, ◌/◌, ◌<◌, ◌≤◌, List, [], ◌∷◌, length, sym, ap₂, arith}
use Rattle.std.specs.Prelude.{All, AllPairs}
use Rattle.std.specs.List.{enumerate_from}
use Rattle.std.proofs.lemmas.List.{length-map}
use Rattle.std.proofs.lemmas.List.Elements.{All-cons, All-head, All-map, All-nil, All-tail, All-weaker}
use Rattle.std.proofs.lemmas.List.FromFn.{length-enumerate_from}
use Rattle.std.proofs.lemmas.Nat.{mod_below}
use Rattle.fp_base_lists.proofs.Maps.{get_or-map_default}
use Rattle.fp_model.specs.declared.parts.Arc.{Arc}
use Rattle.fp_model.specs.Problem.{EndsDiffer, IsArc}
use Rattle.fp_records_fields.specs.Indexes.{arc_ends}
use Rattle.fp_reader.specs.Draws.{next_number}
use Rattle.fp_reader.specs.Generator.{draw_after, drawn_arc, drawn_arcs, number_after}
use Rattle.fp_reader.proofs.DrawnArcs.{arc_ends-drawn_arcs}
use Rattle.fp_reader.proofs.RingEnds.{IsPair}

-- a draw is one of the values
pub draw_after-lt : (x draws count : ℕ) → 0 < count → draw_after x draws count < count
draw_after-lt x draws count some = mod_below (next_number (number_after x draws) / 65536) count some

-- an arc between two terminals that costs little
pub record IsLightArc (terminals : ℕ) (arc : Arc) : Type 0 where
  pub sound : IsArc terminals arc
  pub truck : arc.truck ≤ 200
  pub freight : arc.freight ≤ 2

-- of four draws
light-arc : (terminals time capacity truck freight : ℕ) (ends : ℕ × ℕ) → time < 241 → capacity < 11 → truck < 101 → freight < 3 → IsPair terminals ends
    → IsLightArc terminals (record { from = ends.0; to = ends.1; time = 60 + time; capacity = 10 + capacity; truck = 100 + truck; freight = freight })
light-arc terminals time capacity truck freight ends short small cheap slight pair = record {
  sound = record {
    within = record {
      time = (omega arith, omega arith);
      capacity = (omega arith, omega arith);
      truck = omega arith;
      freight = omega arith;
    };
    from = pair.from;
    to = pair.to;
    ends = pair.apart;
  };
  truck = omega arith;
  freight = omega arith;
}

-- what holds of each element holds of each with its number
All-enumerate_from : {X : Type 0} (P : X → Type 0) (n : ℕ) (xs : List X) → All P xs → All (λ (p : ℕ × X). P p.1) (enumerate_from n xs)
All-enumerate_from {X} P n [] all = All-nil (λ (p : ℕ × X). P p.1)
All-enumerate_from {X} P n (x ∷ xs) all =
    All-cons (λ (p : ℕ × X). P p.1) (n, x) (enumerate_from (n + 1) xs) (All-head P x xs all) (All-enumerate_from P (n + 1) xs (All-tail P x xs all))

-- the arcs between two terminals each
pub drawn_arcs-light : (x terminals : ℕ) (es : List (ℕ × ℕ)) → All (IsPair terminals) es → All (IsLightArc terminals) (drawn_arcs x es)
drawn_arcs-light x terminals es pairs =
    let f : ℕ × (ℕ × ℕ) → Arc = λ p. drawn_arc (number_after x (4 * p.0)) p.1 in
    All-map (IsLightArc terminals) f (enumerate_from 0 es)
    (All-weaker (λ (p : ℕ × (ℕ × ℕ)). IsPair terminals p.1) (λ (p : ℕ × (ℕ × ℕ)). IsLightArc terminals (f p))
    (λ p pair.
    let n = number_after x (4 * p.0) in
    light-arc terminals (draw_after n 0 241) (draw_after n 1 11) (draw_after n 2 101) (draw_after n 3 3) p.1
    (draw_after-lt n 0 241 (omega arith)) (draw_after-lt n 1 11 (omega arith)) (draw_after-lt n 2 101 (omega arith)) (draw_after-lt n 3 3 (omega arith)) pair)
    (enumerate_from 0 es) (All-enumerate_from (IsPair terminals) 0 es pairs))

-- arcs whose pairs of ends differ have ends that differ
ends-differ : (arcs : List Arc) → AllPairs (λ a b. a ≢ b) (arc_ends arcs) → AllPairs EndsDiffer arcs
ends-differ arcs differ i j d before within from to =
    let f : Arc → ℕ × ℕ = λ a. (a.from, a.to) in
    let there : j < length (arc_ends arcs) = omega (arith, length-map arcs f, within) in
    differ i j (d.from, d.to) before there
    (get_or-map_default f arcs i d ∙ ap₂ (λ (a b : ℕ). (a, b)) from to ∙ sym (get_or-map_default f arcs j d))

pub drawn_arcs-differ : (x : ℕ) (es : List (ℕ × ℕ)) → AllPairs (λ a b. a ≢ b) es → AllPairs EndsDiffer (drawn_arcs x es)
drawn_arcs-differ x es differ = ends-differ (drawn_arcs x es) (rw (arc_ends-drawn_arcs x es) differ)

-- an arc for each pair of ends
pub length-drawn_arcs : (x : ℕ) (es : List (ℕ × ℕ)) → length (drawn_arcs x es) ≡ length es
length-drawn_arcs x es =
    length-map (enumerate_from 0 es) (λ (p : ℕ × (ℕ × ℕ)). drawn_arc (number_after x (4 * p.0)) p.1) ∙ length-enumerate_from 0 es
