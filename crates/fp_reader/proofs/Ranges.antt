-- Lists that the numbers from 0 on give, one after the other.
use Rattle.std.proofs.Common.{◌≡◌, ◌∙◌, ℕ, zero, suc, ◌+◌, ◌<◌, List, [], ◌∷◌, ◌++◌, map, sym, ap, ap₂, arith}
use Rattle.std.specs.Prelude.{All}
use Rattle.std.specs.List.{flat_map, range_with_len}
use Rattle.std.proofs.lemmas.Grind.{flat_map-append}
use Rattle.std.proofs.lemmas.List.{append-nil}
use Rattle.std.proofs.lemmas.List.Elements.{All-append, All-nil, All-same}
use Rattle.std.proofs.lemmas.List.FromFn.{map-range_with_len_more}

-- what one more number gives
pub map-range_more : {X : Type 0} (f : ℕ → X) (n : ℕ) (xs : List X) (x : X) (more : List X) → xs ≡ map f (range_with_len 0 n) → x ≡ f n → more ≡ xs ++ (x ∷ [])
    → more ≡ map f (range_with_len 0 (n + 1))
map-range_more {X} f n xs x more so-far one pushed =
    let from-zero : 0 + n ≡ n = omega arith in
    pushed ∙ ap₂ (λ (l : List X) (y : X). l ++ (y ∷ [])) so-far one ∙ sym (map-range_with_len_more f 0 n n from-zero)

-- one more number of a range
range_with_len-suc : (a n : ℕ) → range_with_len a (suc n) ≡ range_with_len a n ++ ((a + n) ∷ [])
range_with_len-suc a zero =
    let e : a ≡ a + 0 = omega arith in
    ap (λ (k : ℕ). k ∷ []) e
range_with_len-suc a (suc n) =
    let e : a + 1 + n ≡ a + suc n = omega arith in
    ap (λ (l : List ℕ). a ∷ l) (range_with_len-suc (a + 1) n ∙ ap (λ (k : ℕ). range_with_len (a + 1) n ++ (k ∷ [])) e)

-- what one more number of a range from 0 gives
flat_map-range_suc : {X : Type 0} (f : ℕ → List X) (n : ℕ) → flat_map f (range_with_len 0 (suc n)) ≡ flat_map f (range_with_len 0 n) ++ f n
flat_map-range_suc {X} f n =
    let from-zero : 0 + n ≡ n = omega arith in
    ap (flat_map f) (range_with_len-suc 0 n)
    ∙ ap (λ (k : ℕ). flat_map f (range_with_len 0 n ++ (k ∷ []))) from-zero
    ∙ flat_map-append f (range_with_len 0 n) (n ∷ [])
    ∙ ap (λ (l : List X). flat_map f (range_with_len 0 n) ++ l) (append-nil (f n))

pub flat_map-range_more : {X : Type 0} (f : ℕ → List X) (n : ℕ) → flat_map f (range_with_len 0 (n + 1)) ≡ flat_map f (range_with_len 0 n) ++ f n
flat_map-range_more f n =
    let next : n + 1 ≡ suc n = omega arith in
    ap (λ (k : ℕ). flat_map f (range_with_len 0 k)) next ∙ flat_map-range_suc f n

-- what holds of all that each number of a range gives
pub All-flat_map_range : {X : Type 0} (P : X → Type 0) (f : ℕ → List X) (n : ℕ) → ((i : ℕ) → i < n → All P (f i)) → All P (flat_map f (range_with_len 0 n))
All-flat_map_range P f zero each = All-nil P
All-flat_map_range P f (suc n) each =
    All-same P (flat_map f (range_with_len 0 (suc n))) (flat_map f (range_with_len 0 n) ++ f n) (flat_map-range_suc f n)
    (All-append P (flat_map f (range_with_len 0 n)) (f n) (All-flat_map_range P f n (λ i lt. each i (omega (arith, lt)))) (each n (omega arith)))
