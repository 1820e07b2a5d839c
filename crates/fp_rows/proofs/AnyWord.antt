-- Whether some word is not 0, by blocks and by the or of a block.
use Rattle.std.proofs.Common.{◌≡◌, ℕ, zero, suc, ◌+◌, ◌*◌, ◌≢◌, Bool, true, false, ◌||◌, List, [], ◌∷◌, take, drop, ⊎_elim, refl, sym, ap, ◌∙◌, arith}
use Rattle.std.specs.Prelude.{not, bit_or}
use Rattle.std.specs.List.{list_any}
use Rattle.std.specs.Simd.{first_chunks}
use Rattle.std.specs.Simd.Lanes.{fold_l}
use Rattle.std.proofs.Math.Bool.{or-false, or_assoc, or-true}
use Rattle.std.proofs.lemmas.Bool.{cases_eq, ne_eqb}
use Rattle.std.proofs.lemmas.List.{take-append-drop, drop-drop}
use Rattle.std.proofs.lemmas.List.Folds.{list_any-append}
use Rattle.std.proofs.lemmas.Nat.{le_or_l, le_or_r}
use Rattle.fp_rows.specs.Words.{is_set}

set-some : (n : ℕ) → n ≢ 0 → is_set n ≡ true
set-some n h = ap not (ne_eqb n 0 h)

-- an or is set where one of its parts is
is_set-or : (a b : ℕ) → is_set (bit_or a b) ≡ (is_set a || is_set b)
is_set-or a b =
    ⊎_elim
    (λ (za : a ≡ 0).
    ⊎_elim
    (λ (zb : b ≡ 0). rw (za, zb) refl)
    (λ (nb : b ≢ 0).
    let some : bit_or a b ≢ 0 = λ e. nb (omega (arith, e, le_or_r a b)) in
    set-some (bit_or a b) some ∙ rw (set-some b nb) (sym (or-true (is_set a))))
    (cases_eq b 0))
    (λ (na : a ≢ 0).
    let some : bit_or a b ≢ 0 = λ e. na (omega (arith, e, le_or_l a b)) in
    set-some (bit_or a b) some ∙ rw (set-some a na) refl)
    (cases_eq a 0)

-- the or of some words
pub set-fold : (a : ℕ) (words : List ℕ) → is_set (fold_l bit_or a words) ≡ (is_set a || list_any is_set words)
set-fold a [] = sym (or-false (is_set a))
set-fold a (w ∷ words) =
    set-fold (bit_or a w) words ∙ ap (λ (b : Bool). b || list_any is_set words) (is_set-or a w) ∙ or_assoc (is_set a) (is_set w) (list_any is_set words)

-- the whole blocks and the rest
pub any-blocks : (test : ℕ → Bool) (n count : ℕ) (xs : List ℕ) → (list_any (list_any test) (first_chunks n count xs) || list_any test (drop (count * n) xs)) ≡ list_any test xs
any-blocks test n zero xs = let e : zero * n ≡ 0 = omega arith in rw e refl
any-blocks test n (suc count) xs =
    let next : n + count * n ≡ suc count * n = omega arith in
    let rest = ap (λ (ys : List ℕ). list_any test ys) (ap (λ (i : ℕ). drop i xs) (sym next) ∙ sym (drop-drop (count * n) n xs)) in
    or_assoc (list_any test (take n xs)) (list_any (list_any test) (first_chunks n count (drop n xs))) (list_any test (drop (suc count * n) xs)) ∙
    ap (λ (b : Bool). list_any test (take n xs) || (list_any (list_any test) (first_chunks n count (drop n xs)) || b)) rest ∙
    ap (λ (b : Bool). list_any test (take n xs) || b) (any-blocks test n count (drop n xs)) ∙
    sym (list_any-append test (take n xs) (drop n xs)) ∙ ap (λ (ys : List ℕ). list_any test ys) (take-append-drop n xs)
