-- The price of a leaf or a narrowing, and the number after it, are read back from their line.
use Rattle.std.proofs.Common.{◌≡◌, ℕ, ◌^◌, ◌<◌, ◌≤◌, Bool, true, false, List, length, refl, arith}
use Rattle.std.specs.Prelude.{Option, Some, None, IfSome, ◌||◌, codes, if◌then◌else◌}
use Rattle.std.specs.Str.{bytes_eq}
use Rattle.fp_model.specs.declared.limits.TheConstants.{LAST_ROUND}
use Rattle.fp_prices.specs.declared.leaf_prices.Kind.{Kind}
use Rattle.fp_prices.specs.declared.leaf_prices.Kind.TheVariants as price
use Rattle.fp_prices.specs.declared.leaf_prices.LeafPrice.{LeafPrice}
use Rattle.fp_prices.specs.Shares.{ClassShare}
use Rattle.fp_prices.specs.Tables.{HasKind}
use Rattle.fp_records_fields.specs.Fields.{is_number, is_within, number}
use Rattle.fp_records_fields.specs.Findings.{first_code}
use Rattle.fp_certificate_lines.specs.Ranges.{largest_figure}
use Rattle.fp_certificate_lines.specs.Rows.{kind_text, mode_text, priced_fields}
use Rattle.fp_certificate.specs.declared.drafts.Draft.{Draft}
use Rattle.fp_certificate.specs.declared.lines.sections.Section.TheVariants as section
use Rattle.fp_certificate.specs.Sections.{is_misplaced}
use Rattle.fp_certificate.specs.Trees.{last_number_in, price_faults, price_in}
use Rattle.fp_certificate.proofs.NumbersBack.{large-back, no-word, number-back, time-back, within-back}

-- the kind of prices as it is read
abbrev kind_read : List ℕ → Kind
kind_read word = if bytes_eq word (codes "linear") then price.Linear else if bytes_eq word (codes "even") then price.Even else price.Table (number word)

-- whether it is a word
abbrev is_kind_word : List ℕ → Bool
is_kind_word word = bytes_eq word (codes "linear") || bytes_eq word (codes "even")

record IsKindBack (tables : List (List ClassShare)) (kind : Kind) : Type 0 where
  is : (is_kind_word (kind_text kind) || is_number (kind_text kind)) ≡ true
  within : (is_kind_word (kind_text kind) || is_within 1 (length tables) (kind_text kind)) ≡ true
  same : kind_read (kind_text kind) ≡ kind

kind-back : (tables : List (List ClassShare)) (kind : Kind) → length tables < 10 ^ 64 → HasKind tables kind → IsKindBack tables kind
kind-back tables price.Linear few r = record { is = refl; within = refl; same = refl }
kind-back tables price.Even few r = record { is = refl; within = refl; same = refl }
kind-back tables (price.Table id) few r =
    let back = number-back id (omega (arith, r.1)) in
    let linear = no-word id (codes "linear") back refl in
    let even = no-word id (codes "even") back refl in
    record {
      is = rw (linear, even, back.is) refl;
      within = rw (linear, even, within-back 1 (length tables) id r.0 r.1 back) refl;
      same = rw (linear, even, back.value) refl;
    }

-- whether forced classes are paid whole is a word, and the word tells it
mode-is : (forced : Bool) → (bytes_eq (mode_text forced) (codes "plain") || bytes_eq (mode_text forced) (codes "forced")) ≡ true
mode-is true = refl
mode-is false = refl

mode-same : (forced : Bool) → bytes_eq (mode_text forced) (codes "forced") ≡ forced
mode-same true = refl
mode-same false = refl

-- a line has no fault, whatever its first word, and gives the price and the number that it was written for
pub record IsPriceBack (before : Draft) (most : ℕ) (fields : List (List ℕ)) (l : LeafPrice) (last : Option ℕ) : Type 0 where
  pub clean : first_code (price_faults most before fields) ≡ None
  pub same_price : price_in fields ≡ l
  pub same_last : last_number_in fields ≡ last

pub price-back : (before : Draft) (most : ℕ) (word : List ℕ) (l : LeafPrice) (last : Option ℕ) → most ≤ largest_figure → length before.certificate.tables < 10 ^ 64
    → HasKind before.certificate.tables l.kind → l.round ≤ LAST_ROUND → IfSome last (λ n. n ≤ most) → is_misplaced before section.Tree ≡ false
    → IsPriceBack before most (priced_fields word l last) l last
price-back before most word l None small few kind-fits round-fits last-fits placed =
    let kind = kind-back before.certificate.tables l.kind few kind-fits in
    let back = time-back l.round (omega (arith, round-fits)) in
    record {
      clean = rw (placed, kind.is, kind.within, mode-is l.forced, back.is, within-back 0 LAST_ROUND l.round (omega arith) round-fits back) refl;
      same_price = rw (kind.same, mode-same l.forced, back.value) refl;
      same_last = refl;
    }
price-back before most word l (Some n) small few kind-fits round-fits last-fits placed =
    let kind = kind-back before.certificate.tables l.kind few kind-fits in
    let back = time-back l.round (omega (arith, round-fits)) in
    let told = large-back n (omega (arith, last-fits, small)) in
    record {
      clean =
          rw (
            placed,
            kind.is,
            kind.within,
            mode-is l.forced,
            back.is,
            within-back 0 LAST_ROUND l.round (omega arith) round-fits back,
            told.is,
            within-back 0 most n (omega arith) last-fits told,
          ) refl;
      same_price = rw (kind.same, mode-same l.forced, back.value) refl;
      same_last = rw told.value refl;
    }
