-- Numbers that are written in decimal digits are read back, and their digits are plain.
use Rattle.std.proofs.Common.{◌≡◌, ℕ, ◌^◌, ◌<◌, ◌≤◌, true, false, leb, List, [], ◌∷◌, length, refl, arith}
use Rattle.std.specs.Prelude.{◌==◌, not, decimal}
use Rattle.std.specs.Char.{is_ascii_digit}
use Rattle.std.specs.List.{list_all}
use Rattle.std.specs.Str.{bytes_eq}
use Rattle.std.specs.Str.Parse.{AllDigits}
use Rattle.std.proofs.lemmas.Bool.{and_from, and_parts, both_ways, false_from_ne_true, le-leb, leb-true, ne_eqb, not_from_false}
use Rattle.std.proofs.lemmas.Fmt.{decimal_is_IsNumeral_wide}
use Rattle.std.proofs.lemmas.Slice.Eq.{bytes_eq-Decides}
use Rattle.std.proofs.lemmas.Str.Parse.{digit_from_value}
use Rattle.fp_model.specs.declared.limits.TheConstants.{LATEST}
use Rattle.fp_records_fields.specs.Fields.{is_number, is_within, number}
use Rattle.fp_records.specs.Fields.{is_empty}
use Rattle.fp_records.specs.Text.{is_plain, is_plain_field}
use Rattle.fp_certificate_lines.specs.Ranges.{largest_figure}

-- digits are such by their bytes
all-digits : (ds : List ℕ) → AllDigits 10 ds → list_all is_ascii_digit ds ≡ true
all-digits [] h = refl
all-digits (c ∷ cs) h =
    let range = digit_from_value c h.0 in
    and_from (is_ascii_digit c) (list_all is_ascii_digit cs)
    (and_from (leb 48 c) (leb c 57) (le-leb 48 c (omega (arith, range))) (le-leb c 57 (omega (arith, range)))) (all-digits cs h.1)

-- a byte that is none of a few is none of them by test
other : (b : ℕ) (n : ℕ) → (b ≡ n → ⊥) → (b == n) ≡ false
other b n differ = ne_eqb b n differ

-- a digit needs no quotes and is not stripped
plain-digit : (b : ℕ) → is_ascii_digit b ≡ true → is_plain b ≡ true
plain-digit b h =
    let parts = and_parts (leb 48 b) (leb b 57) h in
    let low = leb-true 48 b parts.0 in
    rw (other b 44 (λ e. omega arith), other b 34 (λ e. omega arith), other b 13 (λ e. omega arith), other b 10 (λ e. omega arith), other b 32 (λ e. omega arith), other b 9 (λ e. omega arith)) refl

plain-digits : (ds : List ℕ) → list_all is_ascii_digit ds ≡ true → list_all is_plain ds ≡ true
plain-digits [] h = refl
plain-digits (c ∷ cs) h =
    let parts = and_parts (is_ascii_digit c) (list_all is_ascii_digit cs) h in
    and_from (is_plain c) (list_all is_plain cs) (plain-digit c parts.0) (plain-digits cs parts.1)

-- a number is read back
pub record IsReadBack (n : ℕ) : Type 0 where
  pub is : is_number (decimal n) ≡ true
  pub value : number (decimal n) ≡ n
  pub plain : is_plain_field (decimal n) ≡ true

pub number-back : (n : ℕ) → n < 10 ^ 64 → IsReadBack n
number-back n small =
    let numeral = decimal_is_IsNumeral_wide n small in
    let digits = all-digits (decimal n) numeral.0.1 in
    let some : (length (decimal n) == 0) ≡ false = ne_eqb (length (decimal n)) 0 (λ e. omega (arith, numeral.0.0)) in
    record {
      is = and_from (not (length (decimal n) == 0)) (list_all is_ascii_digit (decimal n)) (not_from_false (length (decimal n) == 0) some) digits;
      value = numeral.1;
      plain = and_from (not (is_empty (decimal n))) (list_all is_plain (decimal n)) (not_from_false (is_empty (decimal n)) some) (plain-digits (decimal n) digits);
    }

-- a time, and the largest_figure number of a field
pub time-back : (n : ℕ) → n ≤ LATEST → IsReadBack n
time-back n h = number-back n (omega arith)

pub large-back : (n : ℕ) → n ≤ largest_figure → IsReadBack n
large-back n h = number-back n (omega arith)

-- it lies where the number lies
pub within-back : (low high n : ℕ) → low ≤ n → n ≤ high → IsReadBack n → is_within low high (decimal n) ≡ true
within-back low high n above below back =
    rw back.value (and_from (leb low n) (leb n high) (le-leb low n above) (le-leb n high below))

-- a number is no word
pub no-word : (n : ℕ) (word : List ℕ) → IsReadBack n → is_number word ≡ false → bytes_eq (decimal n) word ≡ false
no-word n word back not-number = false_from_ne_true (bytes_eq (decimal n) word) (λ same.
    let e : decimal n ≡ word = (bytes_eq-Decides (decimal n) word).0 same in
    both_ways (is_number word) not-number (rw (← e) back.is))
