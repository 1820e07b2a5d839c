-- The row of the classes that spans price, span by span.
use Rattle.std.proofs.Common.{◌≡◌, ℕ, ◌+◌, ◌<◌, Bool, true, false, ◌||◌, List, length, get_or, take, refl, sym, ap, ap₂, ◌∙◌}
use Rattle.std.specs.Prelude.{◌&&◌, not}
use Rattle.std.proofs.lemmas.List.Folds.{list_any_more}
use Rattle.fp_model.specs.declared.parts.Leg.{Leg}
use Rattle.fp_model.specs.Costs.{all_legs, has_leg}
use Rattle.fp_longestarcs.specs.Networks.{TimedNetwork, class_count}
use Rattle.fp_allowed.specs.Bits.{bit_of}
use Rattle.fp_allowed.specs.Listing.{class_at}
use Rattle.fp_prices_spans.specs.declared.values.class_ranges.ClassRange.{ClassRange}
use Rattle.fp_prices_spans.specs.ClassRanges.{IsRangeOf, in_range, is_spanned}
use Rattle.fp_prices_spans.specs.Spans.{ClassSpan}
use Rattle.fp_prices_spans.specs.SpanLists.{no_span}
use Rattle.fp_prices_spans.specs.SpanPrices.{holds, is_held}

either-and : (a b c : Bool) → ((a && c) || (b && c)) ≡ ((a || b) && c)
either-and true true true = refl
either-and true true false = refl
either-and true false true = refl
either-and true false false = refl
either-and false true true = refl
either-and false true false = refl
either-and false false true = refl
either-and false false false = refl

-- one more span
pub spanned-more : (net : TimedNetwork) (spans : List ClassSpan) (i : ℕ) (chains : List (List Leg)) (range : ClassRange) (old new : List Bool) → i < length spans → IsRangeOf net (get_or spans i no_span) range →
    ((n : ℕ) → n < class_count net → bit_of old n ≡ is_spanned (take i spans) chains (class_at net n)) →
    ((n : ℕ) → n < class_count net → bit_of new n ≡ (bit_of old n || (in_range range n && not (has_leg (class_at net n) (all_legs chains))))) →
    (n : ℕ) → n < class_count net → bit_of new n ≡ is_spanned (take (i + 1) spans) chains (class_at net n)
spanned-more net spans i chains range old new inside range_of so_far marked n within =
    let c : Leg = class_at net n in
    let free : Bool = not (has_leg c (all_legs chains)) in
    marked n within ∙ ap₂ (λ (a b : Bool). a || (b && free)) (so_far n within) (range_of.told n within)
    ∙ either-and (is_held (take i spans) c) (holds (get_or spans i no_span) c) free
    ∙ ap (λ (b : Bool). b && free) (sym (list_any_more (λ span. holds span c) spans i no_span inside))
