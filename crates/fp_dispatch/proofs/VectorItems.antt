-- The lists that vectors in a list hold.
use Rattle.std.proofs.Common.{◌≡◌, ◌∙◌, ℕ, ◌+◌, ◌<◌, ◌≤◌, List, [], ◌∷◌, ◌++◌, length, get_or, take, drop, ⊎_elim, refl, sym, ap, arith}
use Rattle.std.proofs.Math.ListN.{length-map}
use Rattle.std.proofs.lemmas.Bool.{cases_eq}
use Rattle.std.proofs.lemmas.List.{get_or-map}
use Rattle.std.specs.declared.alloc.Global.{Global}
use Rattle.std.specs.declared.vec.Vec.{Vec}
use Rattle.fp_base_lists.specs.Vectors.{lists_of}

-- as many as there are vectors
pub length-lists_of : {X : Type 0} (vectors : List (Vec X Global)) → length (lists_of vectors) ≡ length vectors
length-lists_of {X} vectors = length-map vectors (λ (v : Vec X Global). v.items)

-- the list of the vector at a place
pub lists_of-item : {X : Type 0} (vectors : List (Vec X Global)) (k : ℕ) (v : Vec X Global) (d : List X) → k < length vectors → v ≡ get_or vectors k v →
    get_or (lists_of vectors) k d ≡ v.items
lists_of-item {X} vectors k v d lt is =
    get_or-map (λ (w : Vec X Global). w.items) vectors k v d lt ∙ ap (λ (w : Vec X Global). w.items) (sym is)

-- lists that are no longer than a bound, and one more
pub short-next : (routes : List (Vec ℕ Global)) (i most new : ℕ) (v : Vec ℕ Global) → i < length routes → v ≡ get_or routes i v → length v.items ≤ new →
    most ≤ new → ((k : ℕ) (d : List ℕ) → k < i → length (get_or (lists_of routes) k d) ≤ most) → (k : ℕ) (d : List ℕ) → k < i + 1 → length (get_or (lists_of routes) k d) ≤ new
short-next routes i most new v lt is short more before k d less =
    ⊎_elim
    (λ (same : k ≡ i).
    let here : get_or (lists_of routes) k d ≡ v.items = ap (λ (j : ℕ). get_or (lists_of routes) j d) same ∙ lists_of-item routes i v d lt is in
    omega (arith, ap (λ (ns : List ℕ). length ns) here, short))
    (λ (other : k ≡ i → ⊥). omega (arith, before k d (omega (arith, less, other)), more))
    (cases_eq k i)

-- a whole list that was written over another one
written-whole : {X : Type 0} (new old : List X) → length new ≡ length old → take (length old) (new ++ drop (length new) old) ≡ new
written-whole [] [] long = refl
written-whole [] (y ∷ old) long = absurd (omega (arith, long))
written-whole (x ∷ new) [] long = absurd (omega (arith, long))
written-whole {X} (x ∷ new) (y ∷ old) long = ap (λ (xs : List X). x ∷ xs) (written-whole new old (omega (arith, long)))

pub written_back : {X : Type 0} (new old : List X) (n : ℕ) → n ≡ length old → length new ≡ length old → take n (new ++ drop (length new) old) ≡ new
written_back {X} new old n is long = ap (λ (k : ℕ). take k (new ++ drop (length new) old)) is ∙ written-whole new old long
