-- The bits of one more word are added to the counts.
use Rattle.std.proofs.Common.{◌≡◌, ℕ, zero, suc, ◌+◌, ◌-◌, ◌*◌, ◌<◌, ◌≤◌, Bool, false, min, List, [], ◌∷◌, ◌++◌, length, get_or, take, drop, map, refl, ap, ◌∙◌, subst, arith}
use Rattle.std.specs.Prelude.{nat_eq}
use Rattle.std.specs.Int.{bit_at, div_ceil}
use Rattle.std.specs.Simd.Lanes.{zip2, chunk, put_chunk}
use Rattle.std.proofs.lemmas.List.{get_or-map, length-map}
use Rattle.std.proofs.lemmas.List.FromFn.{length-map-range_with_len}
use Rattle.std.proofs.lemmas.Nat.Bits.{bit_at-lt}
use Rattle.std.proofs.lemmas.Simd.{length-chunk, get_or-chunk, get_or-zip2, put_chunk_is}
use Rattle.fp_rows.specs.Words.{bits, word_bits}
use Rattle.fp_rows.specs.Bits.{as_one, added_bits}
use Rattle.fp_rows.proofs.WordLanes.{get_or-word_bits}
use Rattle.fp_rows.proofs.BitsIn.{length-bits, get_or-bits}
use Rattle.fp_rows.proofs.WordPairs.{Combines, combines-chunk, combines-all, length-zip2-le}
use Rattle.fp_rows.proofs.RangeMasks.{bit_in-at}

-- a bit of 0 or 1 is that of its truth value
as_one-bit : (n : ℕ) → n < 2 → as_one (nat_eq n 1) ≡ n
as_one-bit zero h = refl
as_one-bit (suc zero) h = refl
as_one-bit (suc (suc n)) h = absurd (omega arith)

-- the counts from a word's first bit on, as far as there are counts
pub words-more : (old now words ys : List ℕ) (place m : ℕ) → length words ≡ div_ceil (length old) 64 → place < length words →
    Combines ◌+◌ old (map as_one (bits words (length old))) now (min (64 * place) (length old)) → m ≡ min (64 * place + 64) (length old) - 64 * place →
    ys ≡ zip2 ◌+◌ (chunk (64 * place) m now) (word_bits (get_or words place 0)) →
    Combines ◌+◌ old (map as_one (bits words (length old))) (take (64 * place) now ++ (ys ++ drop m (drop (64 * place) now))) (min (64 * (place + 1)) (length old))
words-more old now words ys place m enough h c size made =
    subst (λ (l : List ℕ). Combines ◌+◌ old others l (min (64 * (place + 1)) (length old))) stored
    (subst (λ (k : ℕ). Combines ◌+◌ old others (put_chunk n now ys) k) next (combines-chunk ◌+◌ old others now ys n m begun long (omega arith) added))
  where
    n : ℕ
    n = 64 * place

    others : List ℕ
    others = map as_one (bits words (length old))

    word : ℕ
    word = get_or words place 0

    inside : n < length old
    inside = omega (arith, enough, h)

    room : n + m ≤ length old
    room = omega (arith, inside, size)

    begun : Combines ◌+◌ old others now n
    begun = let e : min (64 * place) (length old) ≡ n = omega (arith, inside) in subst (λ (k : ℕ). Combines ◌+◌ old others now k) e c

    next : n + m ≡ min (64 * (place + 1)) (length old)
    next = omega (arith, inside, size)

    loaded : length (chunk n m now) ≡ m
    loaded = length-chunk n m now (omega (arith, room, begun.long))

    wide : length (word_bits word) ≡ 64
    wide = length-map-range_with_len (bit_at word) 0 64

    long : length ys ≡ m
    long = ap length made ∙ length-zip2-le ◌+◌ (chunk n m now) (word_bits word) (omega (arith, loaded, wide, size)) ∙ loaded

    stored : put_chunk n now ys ≡ take n now ++ (ys ++ drop m (drop n now))
    stored = put_chunk_is n now ys (omega (arith, long, room, begun.long)) ∙ ap (λ (k : ℕ). take n now ++ (ys ++ drop k (drop n now))) long

    added : (j : ℕ) → j < m → get_or ys j 0 ≡ get_or old (n + j) 0 + get_or others (n + j) 0
    added j k =
        let small : j < 64 = omega (arith, k, size) in
        let count = get_or-chunk n m now j 0 k ∙ begun.left (n + j) (omega arith) in
        let bit = get_or-map as_one (bits words (length old)) (n + j) false 0 (omega (arith, length-bits words (length old), k, room)) ∙
        ap as_one (get_or-bits words (length old) (n + j) false (omega (arith, k, room)) ∙ bit_in-at words place j small) ∙ as_one-bit (bit_at word j) (bit_at-lt word j) in
        omega (
          arith,
          ap (λ (l : List ℕ). get_or l j 0) made,
          get_or-zip2 ◌+◌ (chunk n m now) (word_bits word) j 0 0 0 (omega (arith, loaded, k)) (omega (arith, wide, small)),
          count,
          get_or-word_bits word j small,
          bit,
        )

-- once the words are done so are all counts
pub words-all : (old now words : List ℕ) (n : ℕ) → Combines ◌+◌ old (map as_one (bits words (length old))) now n → length old ≤ n → now ≡ added_bits old (bits words (length old))
words-all old now words n c all =
    combines-all ◌+◌ old (map as_one (bits words (length old))) now n c all (omega (arith, length-map (bits words (length old)) as_one, length-bits words (length old))) ∙ as-ones old (bits words (length old))
  where
    as-ones : (xs : List ℕ) (bs : List Bool) → zip2 ◌+◌ xs (map as_one bs) ≡ added_bits xs bs
    as-ones [] bs = refl
    as-ones (x ∷ xs) [] = refl
    as-ones (x ∷ xs) (b ∷ bs) = ap (λ (l : List ℕ). (x + as_one b) ∷ l) (as-ones xs bs)
