-- Greatest common divisors of many numbers.
use Rattle.std.proofs.Common.{◌≡◌, ℕ, zero, suc, ◌<◌, ◌≤◌, Bool, true, List, [], ◌∷◌, ◌++◌, Some, ⊎_elim, refl, sym, subst, ◌∙◌, arith}
use Rattle.std.specs.Prelude.{◌%◌, ◌==◌, All}
use Rattle.std.specs.Int.{IsGcd}
use Prim.Native.Nat.{◌∣◌}
use Rattle.std.proofs.lemmas.Bool.{cases_lt, cond-true, cond-false, false_from_ne_true, eq-eqb, eqb-true}
use Rattle.std.proofs.lemmas.List.Elements.{All-cons, All-head, All-tail, All-push, All-pop, All-nil, All-weaker}
use Rattle.std.proofs.lemmas.List.Sums.{AllPass-from_list_all, list_all-from_AllPass}
use Rattle.std.proofs.Math.Nat.{pos_of_dvd_of_pos}
use Rattle.std.proofs.lemmas.Nat.Gcd.{dvd_refl, dvd_trans, le_of_dvd, dvd_of_mod-eq-zero, mod-eq-zero_of_dvd}
use Rattle.fp_prices_knapsack.specs.Grains.{divides_each, greatest_until, common_divisor}

-- a number divides a first number and others, and each number that divides them all divides it
pub record IsGreatestDivisor (number : ℕ) (others : List ℕ) (divisor : ℕ) : Type 0 where
  pub some : 0 < divisor
  pub first : divisor ∣ number
  pub rest : All (λ n. divisor ∣ n) others
  pub greatest : (other : ℕ) → other ∣ number → All (λ n. other ∣ n) others → other ∣ divisor

-- one number more
pub IsGreatestDivisor-push : (number : ℕ) (others : List ℕ) (divisor n next : ℕ) → IsGreatestDivisor number others divisor → IsGcd divisor n next → IsGreatestDivisor number (others ++ n ∷ []) next
IsGreatestDivisor-push number others divisor n next is gcd = record {
  some = pos_of_dvd_of_pos gcd.0 is.some;
  first = dvd_trans next gcd.0 is.first;
  rest = All-push (λ m. next ∣ m) others n (All-weaker (λ m. divisor ∣ m) (λ m. next ∣ m) (λ m h. dvd_trans next gcd.0 h) others is.rest) gcd.1;
  greatest = λ other divides all.
      let parts = All-pop (λ m. other ∣ m) (others ++ n ∷ []) others (Some n) refl all in
      gcd.2 other (is.greatest other divides parts.0) parts.1;
}

-- a number that passes, above which none does
greatest_until-is : (bound at : ℕ) (test : ℕ → Bool) → 0 < at → at ≤ bound → test at ≡ true → ((m : ℕ) → at < m → test m ≡ true → ⊥) →
    greatest_until bound test ≡ at
greatest_until-is zero at test some within passes above = absurd (omega arith)
greatest_until-is (suc n) at test some within passes above =
    ⊎_elim
    (λ (less : at < suc n).
    cond-false (test (suc n)) (suc n) (greatest_until n test) (false_from_ne_true (test (suc n)) (above (suc n) less))
    ∙ greatest_until-is n at test some (omega arith) passes above)
    (λ (more : suc n ≤ at).
    let same : suc n ≡ at = omega arith in
    cond-true (test (suc n)) (suc n) (greatest_until n test) (subst (λ (m : ℕ). test m ≡ true) (sym same) passes) ∙ same)
    (cases_lt at (suc n))

-- a test that passes tells a common divisor, and the other way
divides_each-true : (divisor : ℕ) (numbers : List ℕ) → All (λ n. divisor ∣ n) numbers → divides_each divisor numbers ≡ true
divides_each-true divisor numbers all =
    list_all-from_AllPass (λ n. n % divisor == 0) numbers
    (All-weaker (λ n. divisor ∣ n) (λ n. (n % divisor == 0) ≡ true) (λ n h. eq-eqb (n % divisor) 0 (mod-eq-zero_of_dvd divisor h)) numbers all)

divides_each-tells : (divisor : ℕ) (numbers : List ℕ) → divides_each divisor numbers ≡ true → All (λ n. divisor ∣ n) numbers
divides_each-tells divisor numbers passes =
    All-weaker (λ n. (n % divisor == 0) ≡ true) (λ n. divisor ∣ n) (λ n h. dvd_of_mod-eq-zero divisor (eqb-true (n % divisor) 0 h)) numbers
    (AllPass-from_list_all (λ n. n % divisor == 0) numbers passes)

pub common_divisor-is : (number : ℕ) (others : List ℕ) (divisor : ℕ) → 0 < number → IsGreatestDivisor number others divisor →
    common_divisor number others ≡ divisor
unfolding common_divisor
common_divisor-is number others divisor positive is =
    greatest_until-is number divisor (λ d. divides_each d (number ∷ others)) is.some (le_of_dvd positive is.first)
    (divides_each-true divisor (number ∷ others) (All-cons (λ n. divisor ∣ n) number others is.first is.rest))
    (λ m above passes.
    let all : All (λ n. m ∣ n) (number ∷ others) = divides_each-tells m (number ∷ others) passes in
    let divides : m ∣ divisor = is.greatest m (All-head (λ n. m ∣ n) number others all) (All-tail (λ n. m ∣ n) number others all) in
    omega (arith, le_of_dvd is.some divides))
