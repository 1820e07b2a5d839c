-- The ends of the arcs of a ring.
use Rattle.std.proofs.Common.{◌≡◌, ◌≢◌, ◌∙◌, ℕ, zero, suc, ◌+◌, ◌-◌, ◌*◌, ◌/◌, ◌%◌, ◌<◌, ◌≤◌, [], ◌∷◌, ◌++◌, length, sym, arith, append_assoc}
use Rattle.std.specs.Prelude.{All}
use Rattle.std.specs.List.{flat_map, range_with_len}
use Rattle.std.proofs.Math.Nat.{mul-suc}
use Rattle.std.proofs.lemmas.List.Concat.{length-flat_map}
use Rattle.std.proofs.lemmas.List.Elements.{All-cons, All-nil}
use Rattle.std.proofs.lemmas.List.FromFn.{length-range_with_len}
use Rattle.std.proofs.lemmas.Nat.{mod_below}
use Rattle.fp_base_lists.proofs.Sums.{sum_by-const}
use Rattle.fp_reader.specs.Generator.{ends_from, ring_ends}
use Rattle.fp_reader.proofs.FirstEnds.{All-first_ends, length-first_ends}
use Rattle.fp_reader.proofs.Ranges.{All-flat_map_range, flat_map-range_more}

-- the ends so far and those of the next terminal, one after the other
pub ends-next : (terminals from : ℕ)
    → ((flat_map (ends_from terminals) (range_with_len 0 from) ++ ((from, (from + 1) % terminals) ∷ []))
    ++ ((from, (from + (terminals - 1)) % terminals) ∷ [])) ++ ((from, (from + terminals / 2) % terminals) ∷ [])
    ≡ flat_map (ends_from terminals) (range_with_len 0 (from + 1))
ends-next terminals from =
    let so-far = flat_map (ends_from terminals) (range_with_len 0 from) in
    append_assoc (so-far ++ ((from, (from + 1) % terminals) ∷ [])) ((from, (from + (terminals - 1)) % terminals) ∷ []) ((from, (from + terminals / 2) % terminals) ∷ [])
    ∙ append_assoc so-far ((from, (from + 1) % terminals) ∷ []) ((from, (from + (terminals - 1)) % terminals) ∷ (from, (from + terminals / 2) % terminals) ∷ [])
    ∙ sym (flat_map-range_more (ends_from terminals) from)

-- ends that are two of so many terminals
pub record IsPair (terminals : ℕ) (ends : ℕ × ℕ) : Type 0 where
  pub from : ends.0 < terminals
  pub to : ends.1 < terminals
  pub apart : ends.0 ≢ ends.1

-- a step that leads on, and not all the way round, is no number of rounds
not-round : (terminals step rounds : ℕ) → terminals * rounds ≡ step → 1 ≤ step → step < terminals → ⊥
not-round terminals step zero same some less = omega (arith, same)
not-round terminals step (suc rounds) same some less = omega (arith, same, mul-suc terminals rounds)

-- so it leads to another terminal
pub ring-pair : (terminals from step : ℕ) → from < terminals → 1 ≤ step → step < terminals → IsPair terminals (from, (from + step) % terminals)
ring-pair terminals from step within some less =
    let to : (from + step) % terminals < terminals = mod_below (from + step) terminals (omega arith) in
    record {
      from = within;
      to = to;
      apart = λ same.
          let rounds : terminals * ((from + step) / terminals) ≡ step = omega arith in
          not-round terminals step ((from + step) / terminals) rounds some less;
    }

ends_from-pairs : (terminals from : ℕ) → 2 ≤ terminals → from < terminals → All (IsPair terminals) (ends_from terminals from)
ends_from-pairs terminals from two within =
    All-cons (IsPair terminals) (from, (from + 1) % terminals) ((from, (from + (terminals - 1)) % terminals) ∷ (from, (from + terminals / 2) % terminals) ∷ [])
    (ring-pair terminals from 1 within (omega arith) (omega arith))
    (All-cons (IsPair terminals) (from, (from + (terminals - 1)) % terminals) ((from, (from + terminals / 2) % terminals) ∷ [])
    (ring-pair terminals from (terminals - 1) within (omega arith) (omega arith))
    (All-cons (IsPair terminals) (from, (from + terminals / 2) % terminals) []
    (ring-pair terminals from (terminals / 2) within (omega arith) (omega arith)) (All-nil (IsPair terminals))))

-- all ends of the ring are two terminals
pub ring_ends-pairs : (terminals : ℕ) → 2 ≤ terminals → All (IsPair terminals) (ring_ends terminals)
ring_ends-pairs terminals two =
    All-first_ends (IsPair terminals) (flat_map (ends_from terminals) (range_with_len 0 terminals))
    (All-flat_map_range (IsPair terminals) (ends_from terminals) terminals (λ from within. ends_from-pairs terminals from two within))

-- and they are at most three for each terminal
pub length-ring_ends : (terminals : ℕ) → length (ring_ends terminals) ≤ terminals * 3
length-ring_ends terminals =
    let each = range_with_len 0 terminals in
    omega (
      arith,
      length-first_ends (flat_map (ends_from terminals) each),
      length-flat_map (ends_from terminals) each,
      sum_by-const 3 each,
      length-range_with_len 0 terminals,
    )
