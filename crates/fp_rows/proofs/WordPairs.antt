-- A list in which, place by place, the elements become a function of themselves and of another
-- list's.
use Rattle.std.proofs.Common.{◌≡◌, ℕ, suc, ◌+◌, ◌-◌, ◌<◌, ◌≤◌, ◌≢◌, List, [], ◌∷◌, length, get_or, set, ⊎_elim, refl, sym, ap, ◌∙◌, arith}
use Rattle.std.specs.Simd.Lanes.{zip2, put_chunk}
use Rattle.std.proofs.lemmas.Bool.{cases_lt, cases_eq}
use Rattle.std.proofs.lemmas.List.{length-set, get_or-set_same, get_or-set_other, ext_get_or}
use Rattle.std.proofs.lemmas.Simd.{length-put_chunk, get_or-zip2, get_or-put_chunk_below, get_or-put_chunk_at, get_or-put_chunk_above}

-- the first n elements are those of the function, and the others are as they were
pub record Combines (f : ℕ → ℕ → ℕ) (old other now : List ℕ) (n : ℕ) : Type 0 where
  pub long : length now ≡ length old
  pub done : (k : ℕ) → k < n → get_or now k 0 ≡ f (get_or old k 0) (get_or other k 0)
  pub left : (k : ℕ) → n ≤ k → get_or now k 0 ≡ get_or old k 0

-- some more elements at once
pub combines-chunk : (f : ℕ → ℕ → ℕ) (old other now ys : List ℕ) (n m : ℕ) → Combines f old other now n → length ys ≡ m → n + m ≤ length old →
    ((j : ℕ) → j < m → get_or ys j 0 ≡ f (get_or old (n + j) 0) (get_or other (n + j) 0)) → Combines f old other (put_chunk n now ys) (n + m)
combines-chunk f old other now ys n m c long room made = record {
  long = length-put_chunk n now ys ∙ c.long;
  done = λ k h.
      ⊎_elim
      (λ (early : k < n). get_or-put_chunk_below n now ys k 0 early ∙ c.done k early)
      (λ (here : n ≤ k).
      let at : n + (k - n) ≡ k = omega arith in
      ap (λ (i : ℕ). get_or (put_chunk n now ys) i 0) (sym at) ∙ get_or-put_chunk_at n now ys (k - n) 0 (omega (arith, long)) (omega (arith, long, c.long)) ∙
      made (k - n) (omega arith) ∙ ap (λ (i : ℕ). f (get_or old i 0) (get_or other i 0)) at)
      (cases_lt k n);
  left = λ k h. get_or-put_chunk_above n now ys k 0 (omega (arith, long)) ∙ c.left k (omega arith);
}

-- one more element
pub combines-one : (f : ℕ → ℕ → ℕ) (old other now : List ℕ) (n v : ℕ) → Combines f old other now n → n < length old → v ≡ f (get_or old n 0) (get_or other n 0) → Combines f old other (set now n v) (n + 1)
combines-one f old other now n v c room made = record {
  long = length-set now n v ∙ c.long;
  done = λ k h.
      ⊎_elim
      (λ (here : k ≡ n). rw here (get_or-set_same now n v 0 (omega (arith, c.long)) ∙ made))
      (λ (early : k ≢ n). get_or-set_other now n k v 0 early ∙ c.done k (omega arith))
      (cases_eq k n);
  left = λ k h. let late : k ≢ n = omega arith in get_or-set_other now n k v 0 late ∙ c.left k (omega arith);
}

-- a second list that is longer makes no more pairs
pub length-zip2-le : {X Y Z : Type 0} (f : X → Y → Z) (xs : List X) (ys : List Y) → length xs ≤ length ys → length (zip2 f xs ys) ≡ length xs
length-zip2-le f [] ys h = refl
length-zip2-le f (x ∷ xs) [] h = absurd (omega arith)
length-zip2-le f (x ∷ xs) (y ∷ ys) h = ap suc (length-zip2-le f xs ys (omega arith))

-- all of them
pub combines-all : (f : ℕ → ℕ → ℕ) (old other now : List ℕ) (n : ℕ) → Combines f old other now n → length old ≤ n → length old ≤ length other → now ≡ zip2 f old other
combines-all f old other now n c all enough =
    ext_get_or 0 now (zip2 f old other) long
    (λ i h. c.done i (omega (arith, c.long)) ∙ sym (get_or-zip2 f old other i 0 0 0 (omega (arith, c.long)) (omega (arith, c.long))))
  where
    long : length now ≡ length (zip2 f old other)
    long = c.long ∙ sym (length-zip2-le f old other enough)
