-- Lists that a function makes of other lists.
use Rattle.std.proofs.Common.{◌≡◌, ℕ, zero, suc, ◌+◌, ◌<◌, ◌≤◌, List, [], ◌∷◌, ◌++◌, length, get_or, take, drop, map, refl, sym, ap, ◌∙◌, arith}
use Rattle.std.specs.List.{range_with_len, insert}
use Rattle.std.specs.declared.alloc.Global.{Global}
use Rattle.std.specs.declared.vec.Vec.{Vec}
use Rattle.std.proofs.lemmas.List.{map-append, take-map, drop-map, get_or-map}
use Rattle.fp_base_lists.specs.Vectors.{lists_of}

-- what f makes of the element at a number, where it makes the one default of the other
pub get_or-map_default : {X Y : Type 0} (f : X → Y) (xs : List X) (k : ℕ) (d : X) → get_or (map f xs) k (f d) ≡ f (get_or xs k d)
get_or-map_default f [] k d = refl
get_or-map_default f (x ∷ xs) zero d = refl
get_or-map_default f (x ∷ xs) (suc k) d = get_or-map_default f xs k d

-- what f makes of a list with one more element
pub map-insert : {X Y : Type 0} (f : X → Y) (xs : List X) (i : ℕ) (y : X) → map f (insert xs i y) ≡ insert (map f xs) i (f y)
map-insert {Y = Y} f xs i y =
    map-append f (take i xs) (y ∷ drop i xs) ∙
    ap (λ (l : List Y). l ++ map f (y ∷ drop i xs)) (sym (take-map f i xs)) ∙
    ap (λ (l : List Y). take i (map f xs) ++ f y ∷ l) (sym (drop-map f i xs))

-- functions that agree on a range make the same list of it
pub map-same_on_range : {X : Type 0} (f g : ℕ → X) (a n : ℕ) → ((i : ℕ) → a ≤ i → i < a + n → f i ≡ g i) →
    map f (range_with_len a n) ≡ map g (range_with_len a n)
map-same_on_range f g a zero same = refl
map-same_on_range {X = X} f g a (suc n) same =
    ap (λ (x : X). x ∷ map f (range_with_len (a + 1) n)) (same a (omega arith) (omega arith)) ∙
    ap (λ (l : List X). g a ∷ l) (map-same_on_range f g (a + 1) n (λ i from below. same i (omega arith) (omega arith)))

-- the list at a place among those that vectors hold
pub lists_of-get_or : {X : Type 0} (vectors : List (Vec X Global)) (i : ℕ) (d : Vec X Global) → i < length vectors →
    get_or (lists_of vectors) i [] ≡ (get_or vectors i d).items
lists_of-get_or {X} vectors i d lt = get_or-map (λ (v : Vec X Global). v.items) vectors i d [] lt
