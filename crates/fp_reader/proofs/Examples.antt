-- Worked records: what they give, and the faults of others; and an instance that is generated from the seed 1, worked by hand,
-- with two terminals and a shipment.
use Rattle.std.proofs.Common.{◌≡◌, ℕ, ◌/◌, List, [], ◌∷◌, ◌++◌, map, refl, lit<}
use Rattle.std.specs.Prelude.{Option, Some, None, Ok, Err, codes}
use Rattle.std.specs.List.{range_with_len}
use Rattle.std.proofs.lemmas.Fmt.{decimal_digit}
use Rattle.fp_model.specs.Problem.{Problem}
use Rattle.fp_reader.specs.declared.reading.Tail.TheVariants.{Alone, Certificate}
use Rattle.fp_reader.specs.Faults.{record_code}
use Rattle.fp_reader.specs.Generator.{generated, number_after, ring_ends}
use Rattle.fp_reader.specs.Input.{input_of}

-- two terminals, the second with a hold of 7
terminals : List (List (List ℕ))
terminals = (codes "terminal" ∷ codes "A" ∷ []) ∷ (codes "terminal" ∷ codes "B" ∷ codes "007" ∷ []) ∷ []

-- an arc between two terminals, at a time and a freight cost
arc : List ℕ → List ℕ → List ℕ → List ℕ → List (List ℕ)
arc from to time freight = codes "arc" ∷ from ∷ to ∷ time ∷ codes "10" ∷ codes "100" ∷ freight ∷ []

-- a shipment from A to B of a size, released and due
shipment : List ℕ → List ℕ → List ℕ → List ℕ → List (List ℕ)
shipment name size release due = codes "shipment" ∷ name ∷ codes "A" ∷ codes "B" ∷ size ∷ release ∷ due ∷ []

-- the instance of two terminals, an arc and a shipment
small : Problem
small = record {
  terminals = codes "A" ∷ codes "B" ∷ [];
  holds = 0 ∷ 7 ∷ [];
  arcs = (record { from = 0; to = 1; time = 5; capacity = 10; truck = 100; freight = 1 }) ∷ [];
  shipments = (record { name = codes "A"; from = 0; to = 1; size = 4; release = 0; due = 9 }) ∷ [];
  scale = 1000000;
}

-- the records of the small instance
small_records : List (List (List ℕ))
small_records = terminals ++ (arc (codes "A") (codes "B") (codes "0005") (codes "1") ∷ shipment (codes "A") (codes "4") (codes "0") (codes "9") ∷ [])

-- a certificate's first record
answer : List (List ℕ)
answer = codes "answer" ∷ codes "direct" ∷ codes "0" ∷ []

-- a shipment may have a terminal's name, and a number may have leading zeros
small-instance : input_of Alone small_records ≡ Ok small
unfolding small_records terminals arc shipment small
small-instance = refl

-- a certificate ends the instance
certificate-ends : input_of Certificate (small_records ++ (answer ∷ small_records)) ≡ Ok small
unfolding small_records terminals arc shipment small answer
certificate-ends = refl

-- without one expected, its first record is of no kind
answer-no-kind : input_of Alone (terminals ++ (answer ∷ [])) ≡ Err (record { ordinal = 3; code = 1 })
unfolding terminals answer
answer-no-kind = refl

-- a weight of 1,000,000 * 65,536 * 10^36 is above the limit, though each record is without a fault
too-large : input_of Alone (terminals ++ (arc (codes "A") (codes "B") (codes "5") (codes "1000000000000000000")
    ∷ shipment (codes "S") (codes "1000000000000000000") (codes "0") (codes "9") ∷ []))
    ≡ Err (record { ordinal = 0; code = 12 })
unfolding terminals arc shipment
too-large = refl

-- the code of a record after the small instance
code_after : List (List ℕ) → Option ℕ
code_after fields = record_code small fields

-- a bad digit in the last field goes before a time out of its limits
digits-first : code_after (arc (codes "B") (codes "A") (codes "0") (codes "1x")) ≡ Some 4
unfolding code_after small arc
digits-first = refl

-- a freight cost above its limit goes before ends that are no terminals
range-first : code_after (arc (codes "C") (codes "D") (codes "5") (codes "1000000000000000001")) ≡ Some 5
unfolding code_after small arc
range-first = refl

-- one unknown terminal at both ends lacks a terminal first
lacks-first : code_after (arc (codes "D") (codes "D") (codes "5") (codes "1")) ≡ Some 7
unfolding code_after small arc
lacks-first = refl

-- the ends of an arc are ordered
arc-back : code_after (arc (codes "B") (codes "A") (codes "5") (codes "1")) ≡ None
unfolding code_after small arc
arc-back = refl

-- the same ends in the same order
arc-again : code_after (arc (codes "A") (codes "B") (codes "5") (codes "1")) ≡ Some 9
unfolding code_after small arc
arc-again = refl

-- an end that may be no name
bad-end : code_after (arc (codes "A") (codes "B C") (codes "0") (codes "1")) ≡ Some 3
unfolding code_after small arc
bad-end = refl

-- a shipment due before its release
due-first : code_after (shipment (codes "S") (codes "4") (codes "10") (codes "9")) ≡ Some 10
unfolding code_after small shipment
due-first = refl

-- a hold above its limit, and a terminal whose name is taken
hold-1001 : code_after (codes "terminal" ∷ codes "C" ∷ codes "1001" ∷ []) ≡ Some 5
unfolding code_after small
hold-1001 = refl

name-taken : code_after (codes "terminal" ∷ codes "A" ∷ codes "1000" ∷ []) ≡ Some 6
unfolding code_after small
name-taken = refl

-- what the first thirteen draws from the seed 1 are made of
first-draws : map (λ (n : ℕ). number_after 1 n / 65536) (range_with_len 1 13)
    ≡ 16838 ∷ 5758 ∷ 10113 ∷ 17515 ∷ 31051 ∷ 5627 ∷ 23010 ∷ 7419 ∷ 16212 ∷ 4086 ∷ 2749 ∷ 12767 ∷ 9084 ∷ []
first-draws = refl

-- of two terminals each has one arc, of three each has two, and of four each has three
rings : (ring_ends 2 ≡ (0, 1) ∷ (1, 0) ∷ [])
    × (ring_ends 3 ≡ (0, 1) ∷ (0, 2) ∷ (1, 2) ∷ (1, 0) ∷ (2, 0) ∷ (2, 1) ∷ [])
    × (ring_ends 4 ≡ (0, 1) ∷ (0, 3) ∷ (0, 2) ∷ (1, 2) ∷ (1, 0) ∷ (1, 3) ∷ (2, 3) ∷ (2, 1) ∷ (2, 0) ∷ (3, 0) ∷ (3, 2) ∷ (3, 1) ∷ [])
rings = (refl, refl, refl)

-- the arcs and the shipment that the seed gives
generated_small : Problem
generated_small = record {
  terminals = codes "T1" ∷ codes "T2" ∷ [];
  holds = 0 ∷ 0 ∷ [];
  arcs = (record { from = 0; to = 1; time = 269; capacity = 15; truck = 113; freight = 1 })
      ∷ (record { from = 1; to = 0; time = 263; capacity = 16; truck = 183; freight = 0 })
      ∷ [];
  shipments = (record { name = codes "S1"; from = 0; to = 1; size = 2; release = 2767; due = 4451 }) ∷ [];
  scale = 1000000;
}

small-generated : generated 1 2 1 ≡ generated_small
unfolding generated_small
small-generated = rw (decimal_digit 1 (lit< tt), decimal_digit 2 (lit< tt)) refl
