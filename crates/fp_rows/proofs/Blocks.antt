-- Blocks of eight elements, as vectors read and write them.
use Rattle.std.proofs.Common.{◌≡◌, ℕ, zero, suc, ◌+◌, ◌*◌, ◌<◌, ◌≤◌, List, [], length, get_or, take, drop, sym, ap, ◌∙◌, arith}
use Rattle.std.specs.Simd.{first_chunks}
use Rattle.std.specs.Simd.Lanes.{zip2, chunk, put_chunk}
use Rattle.std.proofs.lemmas.List.{drop-drop}
use Rattle.std.proofs.lemmas.Simd.{length-chunk, get_or-chunk, get_or-zip2, length-zip2}
use Rattle.fp_rows.proofs.WordPairs.{Combines, combines-chunk}

-- a block of the whole ones
pub get_or-first_chunks : (n count k : ℕ) (xs : List ℕ) → k < count → get_or (first_chunks n count xs) k [] ≡ chunk (n * k) n xs
get_or-first_chunks n zero k xs h = absurd (omega arith)
get_or-first_chunks n (suc count) zero xs h = let e : n * 0 ≡ 0 = omega arith in ap (λ (i : ℕ). take n (drop i xs)) (sym e)
get_or-first_chunks n (suc count) (suc k) xs h =
    let e : n + n * k ≡ n * suc k = omega arith in
    get_or-first_chunks n count k (drop n xs) (omega arith) ∙ ap (take n) (drop-drop (n * k) n xs) ∙ ap (λ (i : ℕ). take n (drop i xs)) e

-- a vector stored over the block from place n on, lane by lane a function of what was there and of
-- another vector
pub combines-lanes : (f g : ℕ → ℕ → ℕ) (old other now zs : List ℕ) (n : ℕ) → Combines f old other now n → length zs ≡ 8 → n + 8 ≤ length old →
    ((j : ℕ) → j < 8 → g (get_or old (n + j) 0) (get_or zs j 0) ≡ f (get_or old (n + j) 0) (get_or other (n + j) 0)) →
    Combines f old other (put_chunk n now (zip2 g (chunk n 8 now) zs)) (n + 8)
combines-lanes f g old other now zs n c long room made =
    combines-chunk f old other now (zip2 g (chunk n 8 now) zs) n 8 c (length-zip2 g (chunk n 8 now) zs (loaded ∙ sym long) ∙ loaded) room
    (λ j h.
    get_or-zip2 g (chunk n 8 now) zs j 0 0 0 (omega (arith, loaded)) (omega (arith, long)) ∙
    ap (λ (a : ℕ). g a (get_or zs j 0)) (get_or-chunk n 8 now j 0 h ∙ c.left (n + j) (omega arith)) ∙ made j h)
  where
    loaded : length (chunk n 8 now) ≡ 8
    loaded = length-chunk n 8 now (omega (arith, c.long))
