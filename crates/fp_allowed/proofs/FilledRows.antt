-- A row filled arc by arc.
use Rattle.std.proofs.Common.{◌≡◌, ℕ, ◌+◌, ◌<◌, ◌≤◌, Bool, true, false, ◌&&◌, ◌||◌, List, length, replicate, ◌⊎◌, ⊎_elim, refl, sym, ap, ◌∙◌, arith}
use Rattle.std.specs.Prelude.{nat_eq, nat_lt}
use Rattle.std.proofs.lemmas.Bool.{cases_order, eq-eqb, le-ltb, lt-ltb, ne_eqb}
use Rattle.std.proofs.lemmas.List.{get_or-replicate, length-replicate}
use Rattle.fp_model.specs.declared.parts.Leg.{Leg}
use Rattle.fp_longestarcs.specs.Networks.{IsClass, IsNetwork, TimedNetwork, class_count, class_number}
use Rattle.fp_longestarcs.specs.Whole.{IsWholeNetwork}
use Rattle.fp_longestarcs.proofs.ClassNumbers.{number-within}
use Rattle.fp_longestarcs.proofs.HeadLists.{arc-count}
use Rattle.fp_tree.specs.declared.sides.Side.{Side}
use Rattle.fp_allowed.specs.Bits.{FillsArc, IsRowUnder, allowed_in, bit_of}
use Rattle.fp_allowed.specs.Settings.{Setting}

-- the bits of the classes of the arcs before a number are those of a test, and the others are not
-- set
pub record FilledBelow (net : TimedNetwork) (test : Leg → Bool) (arc : ℕ) (row : List Bool) : Type 0 where
  pub long : length row ≡ class_count net
  pub bits : (c : Leg) → IsClass net c → bit_of row (class_number net c) ≡ (nat_lt c.arc arc && test c)

-- no bit is set at first
pub filled_none : (net : TimedNetwork) (test : Leg → Bool) (row : List Bool) → IsNetwork net → row ≡ replicate (class_count net) false → FilledBelow net test 0 row
filled_none net test row valid is = rw is (record {
  long = length-replicate (class_count net) false;
  bits = λ c class.
      get_or-replicate (class_count net) (class_number net c) false false (number-within net c valid class) ∙
      ap (λ (b : Bool). b && test c) (sym (le-ltb c.arc 0 (omega arith)));
})

-- one arc more
pub filled_more : (net : TimedNetwork) (test : Leg → Bool) (arc : ℕ) (old new : List Bool) → FilledBelow net test arc old → FillsArc net arc test old new → FilledBelow net test (arc + 1) new
filled_more net test arc old new below fills = record {
  long = fills.long ∙ below.long;
  bits = λ c class. fills.bits c class ∙ ap (λ (b : Bool). b || (nat_eq c.arc arc && test c)) (below.bits c class) ∙ step c;
}
  where
    both : (t : Bool) → (true && t || (false && t)) ≡ t
    both true = refl
    both false = refl

    step : (c : Leg) → (nat_lt c.arc arc && test c || (nat_eq c.arc arc && test c)) ≡ (nat_lt c.arc (arc + 1) && test c)
    step c =
        ⊎_elim
        (λ (same : c.arc ≡ arc). rw (le-ltb c.arc arc (omega arith), eq-eqb c.arc arc same, lt-ltb c.arc (arc + 1) (omega arith)) refl)
        (λ (apart : (c.arc < arc) ⊎ (arc < c.arc)).
        ⊎_elim
        (λ (less : c.arc < arc). rw (lt-ltb c.arc arc less, ne_eqb c.arc arc (λ e. absurd (omega (arith, e, less))), lt-ltb c.arc (arc + 1) (omega arith)) (both (test c)))
        (λ (more : arc < c.arc). rw (le-ltb c.arc arc (omega arith), ne_eqb c.arc arc (λ e. absurd (omega (arith, e, more))), le-ltb c.arc (arc + 1) (omega arith)) refl)
        apart)
        (cases_order c.arc arc)

-- all arcs
pub filled_all : (s : Setting) (sides : List Side) (k arcs : ℕ) (row : List Bool) → IsWholeNetwork s.problem s.network → length s.problem.arcs ≤ arcs → FilledBelow s.network (allowed_in s sides k) arcs row →
    IsRowUnder s sides k row
filled_all s sides k arcs row whole all filled = record {
  long = filled.long;
  exact = λ c class.
      filled.bits c class ∙ ap (λ (b : Bool). b && allowed_in s sides k c) (lt-ltb c.arc arcs (omega (arith, class.0, arc-count s.problem s.network whole.arcs, all)));
}
