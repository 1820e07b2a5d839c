-- How fields are counted and taken, one at a time.
use Rattle.std.proofs.Common.{◌≡◌, ℕ, ◌+◌, ◌-◌, ◌<◌, ◌≤◌, Bool, true, false, List, [], ◌∷◌, ◌++◌, length, take, map, refl}
use Rattle.std.specs.Prelude.{Some, slice_get, zero, suc}
use Rattle.std.specs.List.{suffix_len}
use Rattle.std.proofs.Math.ListN.{get_or-map}
use Rattle.std.proofs.lemmas.List.{take_more, map-append, length-map}
use Rattle.std.proofs.lemmas.List.Sums.{suffix_len-take_yes, suffix_len-take_no}
use Rattle.std.proofs.lemmas.Option.{get_or_from_slice_get, slice_get_within}
use Rattle.csv.specs.Records.{field_at}

-- The word of the CSV library for the field at a place is std's.
pub field_at-slice_get : (fields : List (List ℕ)) (i : ℕ) → field_at fields i ≡ slice_get fields i
unfolding field_at
field_at-slice_get [] i = refl
field_at-slice_get (f ∷ fs) zero = refl
field_at-slice_get (f ∷ fs) (suc i) = field_at-slice_get fs i

-- The elements up to a place, and the one at it.
take-next : {A : Type 0} (xs : List A) (i : ℕ) (x : A) → slice_get xs i ≡ Some x → take (i + 1) xs ≡ take i xs ++ (x ∷ [])
take-next xs i x e = rw (take_more xs i x (slice_get_within xs i x e), get_or_from_slice_get xs i x x e) refl

-- What a function gives of those elements.
pub map-take-next : {A B : Type 0} (f : A → B) (xs : List A) (i : ℕ) (x : A) → slice_get xs i ≡ Some x
    → map f (take (i + 1) xs) ≡ map f (take i xs) ++ (f x ∷ [])
map-take-next f xs i x e = rw (take-next xs i x e) (map-append f (take i xs) (x ∷ []))

-- An element at the end whose value passes makes the end that passes longer by one.
pub suffix_len-passes : {A B : Type 0} (p : B → Bool) (f : A → B) (xs : List A) (n : ℕ) (x : A) → 0 < n → n ≤ length xs → slice_get xs (n - 1) ≡ Some x → p (f x) ≡ true
    → suffix_len p (take n (map f xs)) ≡ 1 + suffix_len p (take (n - 1) (map f xs))
suffix_len-passes p f xs n x some within at passes =
    suffix_len-take_yes p (map f xs) n (f x) some (rw length-map within) (rw (get_or-map f xs (n - 1) x, get_or_from_slice_get xs (n - 1) x x at) passes)

-- One whose value fails leaves no end that passes.
pub suffix_len-fails : {A B : Type 0} (p : B → Bool) (f : A → B) (xs : List A) (n : ℕ) (x : A) → 0 < n → n ≤ length xs → slice_get xs (n - 1) ≡ Some x → p (f x) ≡ false
    → suffix_len p (take n (map f xs)) ≡ 0
suffix_len-fails p f xs n x some within at fails =
    suffix_len-take_no p (map f xs) n (f x) some (rw length-map within) (rw (get_or-map f xs (n - 1) x, get_or_from_slice_get xs (n - 1) x x at) fails)
