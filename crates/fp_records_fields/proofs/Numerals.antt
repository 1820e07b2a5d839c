-- Digits and the numbers that they write.
use Rattle.std.proofs.Common.{◌≡◌, ℕ, ◌+◌, ◌-◌, ◌*◌, ◌<◌, ◌≤◌, true, false, ltb, leb, List, [], ◌∷◌, length, get_or, drop, refl, ap, arith, inl, inr}
use Rattle.std.specs.Prelude.{◌==◌, not}
use Rattle.std.specs.List.{list_all}
use Rattle.std.specs.Char.{digit_value, is_ascii_digit}
use Rattle.std.specs.Str.Parse.{digits_value_after}
use Rattle.std.proofs.lemmas.Bool.{and_parts, both_ways, cases_Bool, le-ltb, leb-true, lt-ltb}
use Rattle.std.proofs.lemmas.List.{drop_more}
use Rattle.std.proofs.lemmas.List.Folds.{list_all_at}
use Rattle.fp_records_fields.specs.Fields.{is_between, is_number, number_at}

-- more digits never make a number smaller
pub value-grows : (n : ℕ) (digits : List ℕ) → n ≤ digits_value_after 10 n digits
value-grows n [] = omega arith
value-grows n (c ∷ cs) = let more = value-grows (n * 10 + digit_value c) cs in omega (arith, more)

-- a digit's byte and its value
digit-byte : (c : ℕ) → is_ascii_digit c ≡ true → (48 ≤ c) × (c ≤ 57) × (digit_value c ≡ c - 48)
digit-byte c h =
    let parts = and_parts (leb 48 c) (leb c 57) h in
    let low = leb-true 48 c parts.0 in
    let high = leb-true c 57 parts.1 in
    let above : ltb c 48 ≡ false = le-ltb c 48 low in
    let below : ltb c 58 ≡ true = lt-ltb c 58 (omega arith) in
    (low, high, rw (above, below) refl)

-- each byte of a number is a digit
digit-at : (digits : List ℕ) (i : ℕ) → is_number digits ≡ true → i < length digits → is_ascii_digit (get_or digits i 0) ≡ true
digit-at digits i h lt =
    let all = (and_parts (not (length digits == 0)) (list_all is_ascii_digit digits) h).1 in
    elim (cases_Bool (is_ascii_digit (get_or digits i 0))) [
      | inl t ↦ t
      | inr n ↦ absurd (both_ways (list_all is_ascii_digit digits) (list_all_at is_ascii_digit digits i 0 lt n) all)
    ]

-- one more digit
pub value-step : (n : ℕ) (digits : List ℕ) (i : ℕ) → is_number digits ≡ true → i < length digits
    → digits_value_after 10 n (drop i digits) ≡ digits_value_after 10 (n * 10 + (get_or digits i 0 - 48)) (drop (i + 1) digits)
value-step n digits i h lt =
    let byte = digit-byte (get_or digits i 0) (digit-at digits i h lt) in
    rw (drop_more digits i 0 lt) (ap (λ (d : ℕ). digits_value_after 10 (n * 10 + d) (drop (i + 1) digits)) byte.2)

-- a number within its limits is between them
pub is_between-limits : (low high : ℕ) (fields : List (List ℕ)) (place : ℕ) → is_between low high fields place ≡ true
    → (low ≤ number_at fields place) × (number_at fields place ≤ high)
is_between-limits low high fields place h =
    let n = number_at fields place in
    let parts = and_parts (leb low n) (leb n high) h in
    (leb-true low n parts.0, leb-true n high parts.1)
