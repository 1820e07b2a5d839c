-- Names of a letter and an ordinal.
use Rattle.std.proofs.Common.{◌≡◌, ◌≢◌, ℕ, ◌+◌, ◌<◌, ◌≤◌, ◌^◌, true, List, [], ◌∷◌, length, refl, arith}
use Rattle.std.specs.Prelude.{All, IsTrue, decimal}
use Rattle.std.specs.Str.Parse.{AllDigits}
use Rattle.std.proofs.lemmas.Bool.{le-leb}
use Rattle.std.proofs.lemmas.Fmt.{decimal_injective, decimal_is_IsNumeral, length-decimal-le}
use Rattle.std.proofs.lemmas.List.Elements.{All-cons, All-nil}
use Rattle.std.proofs.lemmas.Str.Parse.{digit_from_value}
use Rattle.fp_model.specs.Names.{IsName, is_name_byte}
use Rattle.fp_reader.specs.Generator.{ordinal_name}

-- a digit may stand in a name
name-digit : (b : ℕ) → 48 ≤ b → b ≤ 57 → is_name_byte b ≡ true
name-digit b low high = rw (le-leb 48 b low, le-leb b 57 high) refl

name-digits : (digits : List ℕ) → AllDigits 10 digits → All (λ b. IsTrue (is_name_byte b)) digits
name-digits [] all = All-nil (λ b. IsTrue (is_name_byte b))
name-digits (b ∷ digits) all =
    let range = digit_from_value b all.0 in
    All-cons (λ c. IsTrue (is_name_byte c)) b digits (name-digit b (omega (arith, range)) (omega (arith, range))) (name-digits digits all.1)

-- a letter and an ordinal of at most four digits are a name
pub IsName-ordinal_name : (letter number : ℕ) → is_name_byte letter ≡ true → number < 1000 → IsName (ordinal_name (letter ∷ []) number)
IsName-ordinal_name letter number may few =
    let small : number + 1 < 2 ^ 64 = omega arith in
    let four : number + 1 < 10 ^ 4 = omega arith in
    let short : length (decimal (number + 1)) ≤ 4 = length-decimal-le 4 (number + 1) (omega arith) four small in
    let digits = (decimal_is_IsNumeral (number + 1) small).0.1 in
    record {
      some = omega arith;
      few = omega (arith, short);
      letters = All-cons (λ b. IsTrue (is_name_byte b)) letter (decimal (number + 1)) may (name-digits (decimal (number + 1)) digits);
    }

-- names of one letter and different ordinals differ
pub ordinal_name-apart : (letter m n : ℕ) → m < n → n < 1000 → ordinal_name (letter ∷ []) m ≢ ordinal_name (letter ∷ []) n
ordinal_name-apart letter m n before few same =
    let tails : decimal (m + 1) ≡ decimal (n + 1) = cc in
    let ordinals : m + 1 ≡ n + 1 = decimal_injective (m + 1) (n + 1) (omega arith) (omega arith) tails in
    omega (arith, ordinals)
