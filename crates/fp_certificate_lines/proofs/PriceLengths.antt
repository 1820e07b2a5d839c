-- How many bytes the lines of leaves and of narrowings have.
use Rattle.std.proofs.Common.{ℕ, ◌+◌, ◌<◌, ◌≤◌, ◌^◌, true, false, Bool, List, ◌∷◌, length, refl, arith}
use Rattle.std.specs.Prelude.{IfSome, Option, Some, None, codes, decimal}
use Rattle.fp_model.specs.declared.limits.TheConstants.{LAST_ROUND}
use Rattle.fp_prices.specs.declared.leaf_prices.Kind.{Kind}
use Rattle.fp_prices.specs.declared.leaf_prices.Kind.TheVariants.{Even, Linear, Table}
use Rattle.fp_prices.specs.declared.leaf_prices.LeafPrice.{LeafPrice}
use Rattle.fp_prices.specs.Shares.{ClassShare}
use Rattle.fp_prices.specs.Tables.{HasKind}
use Rattle.fp_records.specs.Text.{line_of}
use Rattle.fp_tree.specs.declared.layout.TheConstants.{MOST_SPLITS}
use Rattle.fp_certificate_lines.specs.declared.certificates.Narrowing.{Narrowing}
use Rattle.fp_certificate_lines.specs.declared.certificates.Valuation.{Valuation}
use Rattle.fp_certificate_lines.specs.Ranges.{IsLeafInRange, IsNarrowingInRange, largest_figure}
use Rattle.fp_certificate_lines.specs.Rows.{kind_text, last_number_fields, leaf_fields, mode_text, narrowing_fields, priced_fields}
use Rattle.fp_certificate_lines.proofs.LineLengths.{IsShortRow, field_bytes, figure-digits, line-bytes, round-digits, short-digits, time-digits, word}

-- the kind of prices, and whether forced classes are paid whole
kind-short : (tables : List (List ClassShare)) (kind : Kind) → length tables < 2 ^ 32 → HasKind tables kind → length (kind_text kind) ≤ 10
kind-short tables Linear few has = omega (arith, word (codes "linear") 6 refl)
kind-short tables Even few has = omega (arith, word (codes "even") 4 refl)
kind-short tables (Table id) few has = short-digits id (omega (arith, few, has.1))

mode-short : (forced : Bool) → length (mode_text forced) ≤ 6
mode-short true = omega (arith, word (codes "forced") 6 refl)
mode-short false = omega (arith, word (codes "plain") 5 refl)

-- a word, a price, and a number where there is one
priced-bytes : (tables : List (List ClassShare)) (w : List ℕ) (price : LeafPrice) (last : Option ℕ) → length tables < 2 ^ 32 → HasKind tables price.kind → price.round ≤ LAST_ROUND
    → length (line_of (priced_fields w price last)) ≤ length w + 24 + field_bytes (last_number_fields last)
priced-bytes tables w price last few kind round =
    omega (
      arith,
      line-bytes w (kind_text price.kind ∷ decimal price.round ∷ mode_text price.forced ∷ last_number_fields last),
      kind-short tables price.kind few kind,
      round-digits price.round round,
      mode-short price.forced,
    )

sides-short : (sides : Option ℕ) → IfSome sides (λ count. count ≤ MOST_SPLITS) → field_bytes (last_number_fields sides) ≤ 7
sides-short None few = omega arith
sides-short (Some count) few = omega (arith, time-digits count (omega (arith, few)))

-- a leaf's line
pub leaf-bytes : (tables : List (List ClassShare)) (v : Valuation) → length tables < 2 ^ 32 → IsLeafInRange tables v → IsShortRow 35 (leaf_fields v)
leaf-bytes tables v few r =
    omega (arith, priced-bytes tables (codes "leaf") v.price v.sides few r.kind r.round, word (codes "leaf") 4 refl, sides-short v.sides r.sides)

worth-short : (worth : Option ℕ) → IfSome worth (λ money. money ≤ largest_figure) → field_bytes (last_number_fields worth) ≤ 40
worth-short None small = omega arith
worth-short (Some money) small = omega (arith, figure-digits money small)

-- a narrowing's line
pub narrowing-bytes : (tables : List (List ClassShare)) (n : Narrowing) → length tables < 2 ^ 32 → IsNarrowingInRange tables n → IsShortRow 70 (narrowing_fields n)
narrowing-bytes tables n few r =
    omega (arith, priced-bytes tables (codes "narrow") n.price n.worth few r.kind r.round, word (codes "narrow") 6 refl, worth-short n.worth r.worth)
