-- What the line of a leaf or a narrowing tells is in range.
use Rattle.std.proofs.Common.{◌≡◌, ℕ, ◌≤◌, true, List, length, inl, inr}
use Rattle.std.specs.Prelude.{IfSome, None, ◌&&◌, ◌||◌, not, ◌==◌, codes}
use Rattle.std.proofs.lemmas.Bool.{and_parts, cases_Bool, not-false}
use Rattle.fp_model.specs.declared.limits.TheConstants.{LAST_ROUND}
use Rattle.fp_prices.specs.Shares.{ClassShare}
use Rattle.fp_prices.specs.Tables.{HasKind}
use Rattle.fp_records_fields.specs.Fields.{has_word, is_between, number_at}
use Rattle.fp_records_fields.specs.Findings.{first_code}
use Rattle.fp_records_fields.proofs.FaultTables.{IsClear-from_none}
use Rattle.fp_records_fields.proofs.Numerals.{is_between-limits}
use Rattle.fp_certificate.specs.declared.drafts.Draft.{Draft}
use Rattle.fp_certificate.specs.declared.lines.sections.Section.TheVariants as section
use Rattle.fp_certificate.specs.Sections.{is_misplaced}
use Rattle.fp_certificate.specs.Trees.{has_kind_word, has_price_digits, has_price_ranges, kind_in, lacks_last_number, last_number_in, price_faults}

-- the kind of prices
kind-range : (tables : List (List ClassShare)) (fields : List (List ℕ)) → (has_kind_word fields || is_between 1 (length tables) fields 1) ≡ true → HasKind tables (kind_in fields)
kind-range tables fields h = elim (cases_Bool (has_word (codes "linear") fields 1)) [
  | inl linear ↦ rw linear tt
  | inr other ↦ elim (cases_Bool (has_word (codes "even") fields 1)) [
    | inl even ↦ rw (other, even) tt
    | inr table ↦
        let limit : is_between 1 (length tables) fields 1 ≡ true = rw (other, table) at h in
        rw (other, table) (is_between-limits 1 (length tables) fields 1 limit)
  ]
]

-- the number after a price
last-number-range : (most : ℕ) (fields : List (List ℕ)) → (lacks_last_number fields || is_between 0 most fields 4) ≡ true → IfSome (last_number_in fields) (λ n. n ≤ most)
last-number-range most fields h = elim (cases_Bool (lacks_last_number fields)) [
  | inl lacks ↦ rw lacks tt
  | inr told ↦
      let limit : is_between 0 most fields 4 ≡ true = rw told at h in
      rw told (is_between-limits 0 most fields 4 limit).1
]

-- what the line of a leaf or a narrowing tells is in range
pub record IsPriceRead (tables : List (List ClassShare)) (most : ℕ) (fields : List (List ℕ)) : Type 0 where
  pub kind : HasKind tables (kind_in fields)
  pub round : number_at fields 2 ≤ LAST_ROUND
  pub last : IfSome (last_number_in fields) (λ n. n ≤ most)

-- so it is where the line has no fault
pub price-read : (before : Draft) (most : ℕ) (fields : List (List ℕ)) → first_code (price_faults most before fields) ≡ None → IsPriceRead before.certificate.tables most fields
price-read before most fields h =
    let tables = before.certificate.tables in
    let count = IsClear-from_none 22 (not (lacks_last_number fields || length fields == 5)) h in
    let digits = IsClear-from_none 23 (not (has_price_digits fields)) count.later in
    let order = IsClear-from_none 24 (is_misplaced before section.Tree) digits.later in
    let range = IsClear-from_none 28 (not (has_price_ranges (length tables) most fields)) order.later in
    let has_kind = has_kind_word fields || is_between 1 (length tables) fields 1 in
    let has_round = is_between 0 LAST_ROUND fields 2 in
    let limits = and_parts (has_kind && has_round) (lacks_last_number fields || is_between 0 most fields 4) (not-false (has_price_ranges (length tables) most fields) range.here) in
    let own = and_parts has_kind has_round limits.0 in
    record {
      kind = kind-range tables fields own.0;
      round = (is_between-limits 0 LAST_ROUND fields 2 own.1).1;
      last = last-number-range most fields limits.1;
    }
