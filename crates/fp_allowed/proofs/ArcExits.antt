-- The allowed classes of an arc, from the first bits that are set among its numbers.
use Rattle.std.proofs.Common.{◌≡◌, ℕ, ◌+◌, ◌-◌, ◌<◌, ◌≤◌, Bool, true, List, length, ◌⊎◌, ⊎_elim, refl, sym, ap, ◌∙◌, arith}
use Rattle.std.specs.Prelude.{Some, None}
use Rattle.std.proofs.lemmas.Bool.{both_ways, cases_order}
use Rattle.fp_model.specs.declared.parts.Leg.{Leg}
use Rattle.fp_longestarcs.specs.Networks.{IsClass, IsNetwork, TimedNetwork, class_number, first_class, points_in, tail_in}
use Rattle.fp_longestarcs.proofs.ClassNumbers.{class-place, class-unique}
use Rattle.fp_allowed.specs.declared.exits.Leaving.TheVariants.{Nothing, One, Several}
use Rattle.fp_allowed.specs.Bits.{bit_of, row_allows}
use Rattle.fp_allowed.specs.Leaving.{IsFirstSet, IsRange, OneLeaves, Tells}
use Rattle.fp_allowed.proofs.ListedClasses.{class_by, class_by-number, IsClass-class_by}
use Rattle.fp_allowed.proofs.RowClasses.{is_class_parts, row_allows_from}

-- an allowed class of an arc
abbrev pub ByArc : TimedNetwork → List Bool → ℕ → Leg → Type 0
ByArc net row arc c = OneLeaves (row_allows net row) (λ k. k.arc ≡ arc) c

module _ (net : TimedNetwork) (row : List Bool) (arc start end : ℕ) (valid : IsNetwork net) (exists : arc < length net.tails) (range : IsRange net arc start end) where
  -- a set bit among the numbers is that of an allowed class
  pub class-of_bit : (n : ℕ) → start ≤ n → n < end → bit_of row n ≡ true → ByArc net row arc (class_by net arc (n - start)) × (class_number net (class_by net arc (n - start)) ≡ n)
  class-of_bit n after before set =
      let place : ℕ = n - start in
      let within : place < length (points_in net (tail_in net arc)) = omega (arith, range.begins, range.ends) in
      let number : class_number net (class_by net arc place) ≡ n = omega (arith, class_by-number net arc place valid exists within, range.begins) in
      let is : IsClass net (class_by net arc place) = IsClass-class_by net arc place exists within in (
        record {
          allowed_it = row_allows_from net row (class_by net arc place) is (ap (bit_of row) number ∙ set);
          leaves = refl;
        },
        number,
      )

  -- an allowed class of the arc has a set bit among the numbers
  pub bit-of_class : (c : Leg) → ByArc net row arc c → (start ≤ class_number net c) × (class_number net c < end) × (bit_of row (class_number net c) ≡ true)
  bit-of_class c by =
      let parts = is_class_parts net row c by.allowed_it in
      let place = (class-place net c valid parts.0).0 in
      let base : first_class net c.arc ≡ first_class net arc = ap (first_class net) by.leaves in
      let long : length (points_in net (tail_in net c.arc)) ≡ length (points_in net (tail_in net arc)) = ap (λ (a : ℕ). length (points_in net (tail_in net a))) by.leaves in
      (omega (arith, base, range.begins), omega (arith, base, long, place, range.ends), parts.1)

  -- two allowed classes with one number are the same
  same_class : (c e : Leg) → ByArc net row arc c → ByArc net row arc e → class_number net c ≡ class_number net e → c ≡ e
  same_class c e first second same =
      class-unique net c e valid (is_class_parts net row c first.allowed_it).0 (is_class_parts net row e second.allowed_it).0 same

  pub none_by : IsFirstSet row start end None → Tells net (row_allows net row) (λ c. c.arc ≡ arc) Nothing
  none_by none c by = let bit = bit-of_class c by in both_ways (bit_of row (class_number net c)) (none (class_number net c) bit.0 bit.1) bit.2

  pub one_by : (class : ℕ) → IsFirstSet row start end (Some class) → IsFirstSet row (class + 1) end None → Tells net (row_allows net row) (λ c. c.arc ≡ arc) (One class arc)
  one_by class first none =
      let found = class-of_bit class first.0 first.1 first.2 in
      let c : Leg = class_by net arc (class - start) in
      (c, found.0, found.1, refl, alone)
    where
      alone : (other : Leg) → ByArc net row arc other → other ≡ class_by net arc (class - start)
      alone other by =
          let found = class-of_bit class first.0 first.1 first.2 in
          let bit = bit-of_class other by in
          let number : ℕ = class_number net other in
          ⊎_elim
          (λ (same : number ≡ class). same_class other (class_by net arc (class - start)) by found.0 (same ∙ sym found.1))
          (λ (apart : (number < class) ⊎ (class < number)).
          ⊎_elim
          (λ (less : number < class). absurd (both_ways (bit_of row number) (first.3 number bit.0 less) bit.2))
          (λ (more : class < number). absurd (both_ways (bit_of row number) (none number (omega arith) bit.1) bit.2))
          apart)
          (cases_order number class)

  pub several_by : (class later : ℕ) → IsFirstSet row start end (Some class) → IsFirstSet row (class + 1) end (Some later) → Tells net (row_allows net row) (λ c. c.arc ≡ arc) Several
  several_by class later first second =
      let one = class-of_bit class first.0 first.1 first.2 in
      let two = class-of_bit later (omega (arith, first.0, second.0)) second.1 second.2 in
      (class_by net arc (class - start), class_by net arc (later - start), one.0, two.0, λ same. absurd (omega (arith, one.1, two.1, second.0, ap (class_number net) same)))
