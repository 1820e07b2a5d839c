-- The spans, the gifts and the unit of a search are in range, and its prices hold.
use Rattle.std.proofs.Common.{ℕ, ◌-◌, ◌^◌, ◌<◌, false, List, [], ◌∷◌, length, replicate}
use Rattle.std.specs.Prelude.{All, IfSome, Option, None, Some}
use Rattle.std.specs.List.{AllZip}
use Rattle.std.proofs.lemmas.List.Elements.{All-cons, All-nil}
use Rattle.fp_model.specs.Problem.{Problem}
use Rattle.fp_prices.specs.Tables.{AreTables}
use Rattle.fp_prices_spans.specs.Spans.{ClassSpan}
use Rattle.fp_certificate_lines.specs.Ranges.{IsGiftInRange, IsSpanInRange, IsUnitInRange}
use Rattle.fp_flatnet.specs.Initial.{initial_points}
use Rattle.fp_flatnet.specs.Tables.{WindowTable, windows_in}
use Rattle.fp_duals_leaves.specs.SoundSpans.{AreSoundSpans}
use Rattle.fp_duals_leaves.proofs.SpansBeside.{paid-each}
use Rattle.fp_certificate_rules.specs.Prices.{ArePaid}
use Rattle.fp_certificate_rules.specs.Units.{IsUnit}
use Rattle.fp_duals_leaves.specs.Prices.{ArePrices, IsUnitOf, PriceLists}

-- what holds of a unit
of-unit : (p : Problem) (P : ℕ → Type 0) → ((u : ℕ) → IsUnitOf p u → P u) → (o : Option ℕ) → IfSome o (IsUnitOf p) → IfSome o P
of-unit p P told None is = tt
of-unit p P told (Some unit) is = told unit is

-- what follows, of pairs of elements of two lists, for the first of each pair, and for the second
each-first : {X Y : Type 0} (R : X → Y → Type 0) (P : X → Type 0) → ((x : X) (y : Y) → R x y → P x) → (xs : List X) (ys : List Y) → AllZip R xs ys → All P xs
each-first R P told [] ys are = All-nil P
each-first R P told (x ∷ xs) [] are = absurd are
each-first R P told (x ∷ xs) (y ∷ ys) are = All-cons P x xs (told x y are.0) (each-first R P told xs ys are.1)

each-second : {X Y : Type 0} (R : X → Y → Type 0) (P : Y → Type 0) → ((x : X) (y : Y) → R x y → P y) → (xs : List X) (ys : List Y) → AllZip R xs ys → All P ys
each-second R P told xs [] are = All-nil P
each-second R P told [] (y ∷ ys) are = absurd are
each-second R P told (x ∷ xs) (y ∷ ys) are = All-cons P y ys (told x y are.0) (each-second R P told xs ys are.1)

module _ (p : Problem) (table : WindowTable) (x : PriceLists) (are : ArePrices p table x) where
  pub unit-in_range : IfSome x.unit IsUnitInRange
  unit-in_range = of-unit p IsUnitInRange (λ u is. is.range) x.unit are.unit

  pub spans-in_range : All (All (IsSpanInRange p)) x.spans
  spans-in_range = each-first (AreSoundSpans p table) (All (IsSpanInRange p)) (λ spans gifts sound. sound.range) x.spans x.gifts are.sound

  pub gifts-in_range : All (All (IsGiftInRange p)) x.gifts
  gifts-in_range = each-second (AreSoundSpans p table) (All (IsGiftInRange p)) (λ spans gifts sound. sound.given) x.spans x.gifts are.sound

  pub spans-few : All (λ (spans : List ClassSpan). length spans < 2 ^ 32 - 1) x.spans
  spans-few = each-first (AreSoundSpans p table) (λ (spans : List ClassSpan). length spans < 2 ^ 32 - 1) (λ spans gifts sound. sound.few) x.spans x.gifts are.sound

  -- what is asked of the prices of a certificate none of whose tables is by moments
  pub record AreHeld : Type 0 where
    pub tables : AreTables p x.tables
    pub spans : ArePaid p (windows_in table) (initial_points p table.anchors) x.spans x.gifts (replicate (length x.tables) false)
    pub unit : IfSome x.unit (IsUnit p)

  pub prices-hold : AreHeld
  prices-hold = record { tables = are.tables.in_order; spans = paid-each p table x (replicate (length x.tables) false) are; unit = of-unit p (IsUnit p) (λ u is. is.divides) x.unit are.unit }
