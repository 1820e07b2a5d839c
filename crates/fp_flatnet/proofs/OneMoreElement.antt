-- Lists that grow by one element, and what holds of their elements and numbers.
use Rattle.std.proofs.Common.{◌≡◌, ℕ, ◌+◌, ◌<◌, ◌≤◌, List, [], ◌∷◌, ◌++◌, length, map, sym, ap, ◌∙◌, subst, arith, ⊎_elim, length-append}
use Rattle.std.specs.Prelude.{slice_index_or}
use Rattle.std.proofs.lemmas.Bool.{cases_lt}
use Rattle.std.proofs.lemmas.List.{get_or_push, get_or_append_left, map-append}

-- what holds of each element and its number, and of one more
pub each_push : {X : Type 0} (P : ℕ → X → Type 0) (xs : List X) (x d : X) (n : ℕ) → length xs ≡ n → ((k : ℕ) → k < n → P k (slice_index_or xs k d)) → P n x →
    (k : ℕ) → k < n + 1 → P k (slice_index_or (xs ++ (x ∷ [])) k d)
each_push {X} P xs x d n long each last k lt =
    ⊎_elim
    (λ (before : k < n). subst (λ (y : X). P k y) (sym (get_or_append_left xs (x ∷ []) d k (omega (arith, before, long)))) (each k before))
    (λ (after : n ≤ k).
    let same : k ≡ n = omega arith in
    subst (λ (m : ℕ). P m (slice_index_or (xs ++ (x ∷ [])) m d)) (sym same) (subst (λ (y : X). P n y) (sym (get_or_push xs x d n long)) last))
    (cases_lt k n)

-- the same of the images of the elements
pub each_push_map : {X Y : Type 0} (f : X → Y) (P : ℕ → Y → Type 0) (xs more : List X) (x : X) (d : Y) (n : ℕ) → more ≡ xs ++ (x ∷ []) → length (map f xs) ≡ n →
    ((k : ℕ) → k < n → P k (slice_index_or (map f xs) k d)) → P n (f x) →
    (length (map f more) ≡ n + 1) × ((k : ℕ) → k < n + 1 → P k (slice_index_or (map f more) k d))
each_push_map {X} {Y} f P xs more x d n pushed long each last =
    let images : map f more ≡ map f xs ++ (f x ∷ []) = ap (λ (zs : List X). map f zs) pushed ∙ map-append f xs (x ∷ []) in
    let longer : length (map f more) ≡ n + 1 = ap (λ (zs : List Y). length zs) images ∙ length-append (map f xs) (f x ∷ []) ∙ ap (λ (m : ℕ). m + 1) long in
    (longer, λ k lt. subst (λ (zs : List Y). P k (slice_index_or zs k d)) (sym images) (each_push P (map f xs) (f x) d n long each last k lt))
