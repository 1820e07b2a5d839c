-- Vectors that are written one after another.
use Rattle.std.proofs.Common.{◌≡◌, ℕ, ◌+◌, ◌<◌, ◌≤◌, List, [], ◌∷◌, length, get_or, set, map, ⊎_elim, sym, ap, ◌∙◌, arith}
use Rattle.std.specs.List.{range_with_len}
use Rattle.std.specs.declared.alloc.Global.{Global}
use Rattle.std.specs.declared.vec.Vec.{Vec}
use Rattle.std.proofs.Math.Seq.{map-set_same}
use Rattle.std.proofs.lemmas.Bool.{cases_eq}
use Rattle.std.proofs.lemmas.List.{get_or-set_same, get_or-set_other, length-map, get_or_default, same_lists}
use Rattle.std.proofs.lemmas.List.FromFn.{get_or-map-range_with_len, length-map-range_with_len}
use Rattle.fp_base_lists.specs.Vectors.{lists_of}
use Rattle.fp_base_lists.proofs.Maps.{lists_of-get_or}

-- the first vectors hold what a function gives at their places, and the others are as they were
pub record AreWritten (f : ℕ → List ℕ) (old now : List (Vec ℕ Global)) (n : ℕ) : Type 0 where
  pub written : (k : ℕ) (d : Vec ℕ Global) → k < n → (get_or now k d).items ≡ f k
  pub kept : (k : ℕ) (d : Vec ℕ Global) → n ≤ k → get_or now k d ≡ get_or old k d

-- the next one is written
pub written-more : (f : ℕ → List ℕ) (old now : List (Vec ℕ Global)) (i : ℕ) (v : Vec ℕ Global) → AreWritten f old now i → i < length now → v.items ≡ f i → AreWritten f old (set now i v) (i + 1)
written-more f old now i v are within holds = record {
  written = λ k d h.
      ⊎_elim
      (λ (same : k ≡ i). ap (λ (n : ℕ). (get_or (set now i v) n d).items) same ∙ ap (λ (w : Vec ℕ Global). w.items) (get_or-set_same now i v d within) ∙ holds ∙ ap f (sym same))
      (λ (other : k ≡ i → ⊥). ap (λ (w : Vec ℕ Global). w.items) (get_or-set_other now i k v d other) ∙ are.written k d (omega (arith, other)))
      (cases_eq k i);
  kept = λ k d h. let other : k ≡ i → ⊥ = λ e. absurd (omega arith) in get_or-set_other now i k v d other ∙ are.kept k d (omega arith);
}

-- or it holds that already
pub written-kept : (f : ℕ → List ℕ) (old now : List (Vec ℕ Global)) (i : ℕ) → AreWritten f old now i → i < length old → get_or (lists_of old) i [] ≡ f i → AreWritten f old now (i + 1)
written-kept f old now i are within holds = record {
  written = λ k d h.
      ⊎_elim
      (λ (same : k ≡ i).
      ap (λ (n : ℕ). (get_or now n d).items) same ∙ ap (λ (w : Vec ℕ Global). w.items) (are.kept i d (omega arith)) ∙ sym (lists_of-get_or old i d within) ∙ holds ∙ ap f (sym same))
      (λ (other : k ≡ i → ⊥). are.written k d (omega (arith, other)))
      (cases_eq k i);
  kept = λ k d h. are.kept k d (omega arith);
}

-- a vector in a list is a default for the list
some-vector : (vectors : List (Vec ℕ Global)) (k : ℕ) → k < length vectors → {x : List ℕ} → ((d : Vec ℕ Global) → get_or (lists_of vectors) k [] ≡ x) → get_or (lists_of vectors) k [] ≡ x
some-vector [] k h given = absurd (omega arith)
some-vector (v ∷ vectors) k h given = given v

-- all are written
pub written-all : (f : ℕ → List ℕ) (old now : List (Vec ℕ Global)) (n : ℕ) → AreWritten f old now n → length now ≡ n → lists_of now ≡ map f (range_with_len 0 n)
written-all f old now n are long =
    same_lists (lists_of now) (map f (range_with_len 0 n)) (length-map now (λ (v : Vec ℕ Global). v.items) ∙ long ∙ sym (length-map-range_with_len f 0 n))
    (λ k d h.
    let within : k < length now = omega (arith, length-map now (λ (v : Vec ℕ Global). v.items)) in
    get_or_default (lists_of now) k d [] h ∙ step k within ∙ sym (get_or-map-range_with_len f 0 n k k d (omega (arith, long)) (omega arith)))
  where
    step : (k : ℕ) → k < length now → get_or (lists_of now) k [] ≡ f k
    step k within = some-vector now k within (λ d. lists_of-get_or now k d within ∙ are.written k d (omega (arith, long)))

-- writing a vector that holds the same changes no list
pub same-written : (vectors : List (Vec ℕ Global)) (i : ℕ) (v d : Vec ℕ Global) → v.items ≡ (get_or vectors i d).items → lists_of (set vectors i v) ≡ lists_of vectors
same-written vectors i v d same = map-set_same (λ (w : Vec ℕ Global). w.items) vectors i v d same

-- a vector that is not written yet holds its old list
pub list-kept : (f : ℕ → List ℕ) (old now : List (Vec ℕ Global)) (i : ℕ) (d : Vec ℕ Global) → AreWritten f old now i → i < length old → (get_or now i d).items ≡ get_or (lists_of old) i []
list-kept f old now i d are within = ap (λ (v : Vec ℕ Global). v.items) (are.kept i d (omega arith)) ∙ sym (lists_of-get_or old i d within)
