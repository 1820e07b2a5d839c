-- The users of each class, shipment by shipment.
use Rattle.std.proofs.Common.{◌≡◌, ℕ, zero, suc, ◌+◌, ◌*◌, ◌^◌, ◌<◌, ◌≤◌, Bool, true, false, List, [], ◌∷◌, ◌++◌, length, get_or, take, replicate, ⊎_elim, refl, sym, ap, ◌∙◌, arith}
use Rattle.std.specs.Prelude.{All, if◌then◌else◌}
use Rattle.std.proofs.lemmas.Bool.{cases_lt}
use Rattle.std.proofs.lemmas.List.{get_or-replicate, get_or_past, length-replicate, length-take, take_more}
use Rattle.fp_model.specs.declared.parts.Leg.{Leg}
use Rattle.fp_model.specs.declared.parts.Shipment.{Shipment}
use Rattle.fp_model.specs.Numbered.{no_shipment, shipment_at}
use Rattle.fp_model.specs.Problem.{Problem}
use Rattle.fp_longestarcs.specs.Networks.{IsClass, TimedNetwork, class_number}
use Rattle.fp_rows.specs.Bits.{added_bits}
use Rattle.fp_allowed.specs.Bits.{bit_of}
use Rattle.fp_prices.specs.Prices.{allowed_count, allowed_size}
use Rattle.fp_prices.specs.Rows.{AreRowsOf}

-- one more shipment
allowed_count-push : (allowed : ℕ → Bool) (i : ℕ) (shipments : List Shipment) (s : Shipment) →
    allowed_count allowed i (shipments ++ (s ∷ [])) ≡ allowed_count allowed i shipments + (if allowed (i + length shipments) then 1 else 0)
allowed_count-push allowed i [] s = let e : i + 0 ≡ i = omega arith in rw e (omega arith)
allowed_count-push allowed i (t ∷ shipments) s =
    let e : i + suc (length shipments) ≡ i + 1 + length shipments = omega arith in
    let rest : allowed_count allowed (i + 1) (shipments ++ (s ∷ [])) ≡ allowed_count allowed (i + 1) shipments + (if allowed (i + 1 + length shipments) then 1 else 0) = allowed_count-push allowed (i + 1) shipments s in
    rw e (omega (arith, rest))

allowed_size-push : (allowed : ℕ → Bool) (i : ℕ) (shipments : List Shipment) (s : Shipment) →
    allowed_size allowed i (shipments ++ (s ∷ [])) ≡ allowed_size allowed i shipments + (if allowed (i + length shipments) then s.size else 0)
allowed_size-push allowed i [] s = let e : i + 0 ≡ i = omega arith in rw e (omega arith)
allowed_size-push allowed i (t ∷ shipments) s =
    let e : i + suc (length shipments) ≡ i + 1 + length shipments = omega arith in
    let rest : allowed_size allowed (i + 1) (shipments ++ (s ∷ [])) ≡ allowed_size allowed (i + 1) shipments + (if allowed (i + 1 + length shipments) then s.size else 0) = allowed_size-push allowed (i + 1) shipments s in
    rw e (omega (arith, rest))

-- what bits add at each place
get_or-added : (counts : List ℕ) (row : List Bool) (n : ℕ) → length counts ≡ length row → get_or (added_bits counts row) n 0 ≡ get_or counts n 0 + (if bit_of row n then 1 else 0)
get_or-added [] [] n same = omega arith
get_or-added [] (b ∷ row) n same = absurd (omega arith)
get_or-added (k ∷ counts) [] n same = absurd (omega arith)
get_or-added (k ∷ counts) (b ∷ row) zero same = refl
get_or-added (k ∷ counts) (b ∷ row) (suc n) same = get_or-added counts row n (omega arith)

length-added : (counts : List ℕ) (row : List Bool) → length counts ≡ length row → length (added_bits counts row) ≡ length counts
length-added [] row same = refl
length-added (k ∷ counts) [] same = absurd (omega arith)
length-added (k ∷ counts) (b ∷ row) same = ap suc (length-added counts row (omega arith))

-- counts and sizes of so many classes, over the first shipments, which have these rows
pub record UsersOf (p : Problem) (rows : List (List Bool)) (classes i : ℕ) (counts sizes : List ℕ) : Type 0 where
  pub counts_long : length counts ≡ classes
  pub sizes_long : length sizes ≡ classes
  pub few : All (λ count. count ≤ i) counts
  pub small : All (λ sum. sum ≤ i * 10 ^ 18) sizes
  pub counted : (net : TimedNetwork) (allowed : ℕ → Leg → Bool) → AreRowsOf net allowed rows → (c : Leg) → IsClass net c → get_or counts (class_number net c) 0 ≡ allowed_count (λ j. allowed j c) 0 (take i p.shipments)
  pub summed : (net : TimedNetwork) (allowed : ℕ → Leg → Bool) → AreRowsOf net allowed rows → (c : Leg) → IsClass net c → get_or sizes (class_number net c) 0 ≡ allowed_size (λ j. allowed j c) 0 (take i p.shipments)

-- a zero at each place
zeros : (n i d : ℕ) → d ≡ 0 → get_or (replicate n 0) i d ≡ 0
zeros n i d is =
    ⊎_elim
    (λ (inside : i < n). get_or-replicate n i 0 d inside)
    (λ (past : n ≤ i). get_or_past (replicate n 0) i d (omega (arith, length-replicate {A = ℕ} n 0)) ∙ is)
    (cases_lt i n)

pub users_none : (p : Problem) (rows : List (List Bool)) (classes : ℕ) → UsersOf p rows classes 0 (replicate classes 0) (replicate classes 0)
users_none p rows classes = record {
  counts_long = length-replicate classes 0;
  sizes_long = length-replicate classes 0;
  few = λ k d h. let e : get_or (replicate classes 0) k d ≡ 0 = get_or-replicate classes k 0 d (omega (arith, h, length-replicate {A = ℕ} classes 0)) in omega (arith, e);
  small = λ k d h. let e : get_or (replicate classes 0) k d ≡ 0 = get_or-replicate classes k 0 d (omega (arith, h, length-replicate {A = ℕ} classes 0)) in omega (arith, e);
  counted = λ net allowed are c is. zeros classes (class_number net c) 0 refl;
  summed = λ net allowed are c is. zeros classes (class_number net c) 0 refl;
}

-- one shipment more
pub users_more : (p : Problem) (rows : List (List Bool)) (classes i : ℕ) (row : List Bool) (counts sizes sums : List ℕ) → i < length p.shipments → i < length rows → row ≡ get_or rows i [] → length row ≡ classes →
    (shipment_at p i).size ≤ 10 ^ 18 → UsersOf p rows classes i counts sizes → length sums ≡ length sizes →
    ((n : ℕ) → get_or sums n 0 ≡ get_or sizes n 0 + (if bit_of row n then (shipment_at p i).size else 0)) → UsersOf p rows classes (i + 1) (added_bits counts row) sums
users_more p rows classes i row counts sizes sums exists inside is long within so_far as_long added =
    record {
      counts_long = length-added counts row same ∙ so_far.counts_long;
      sizes_long = as_long ∙ so_far.sizes_long;
      few = λ k d h.
          let old : get_or counts k 0 ≤ i = so_far.few k 0 (omega (arith, h, length-added counts row same)) in
          let now : get_or (added_bits counts row) k d ≡ get_or (added_bits counts row) k 0 = get_or-any (added_bits counts row) k d 0 h in
          omega (arith, old, now, get_or-added counts row k same, one-most (bit_of row k) 1);
      small = λ k d h.
          let old : get_or sizes k 0 ≤ i * 10 ^ 18 = so_far.small k 0 (omega (arith, h, as_long)) in
          let now : get_or sums k d ≡ get_or sums k 0 = get_or-any sums k d 0 h in
          omega (arith, old, now, added k, one-most (bit_of row k) (shipment_at p i).size);
      counted = λ net allowed are c class.
          get_or-added counts row (class_number net c) same ∙ ap (λ (n : ℕ). n + (if bit_of row (class_number net c) then 1 else 0)) (so_far.counted net allowed are c class) ∙
          ap (λ (b : Bool). allowed_count (λ j. allowed j c) 0 (take i p.shipments) + (if b then 1 else 0)) (bit net allowed are c class) ∙
          ap (λ (n : ℕ). allowed_count (λ j. allowed j c) 0 (take i p.shipments) + (if allowed n c then 1 else 0)) (sym number) ∙
          sym (ap (allowed_count (λ j. allowed j c) 0) (take_more p.shipments i no_shipment exists) ∙ allowed_count-push (λ j. allowed j c) 0 (take i p.shipments) (shipment_at p i));
      summed = λ net allowed are c class.
          added (class_number net c) ∙ ap (λ (n : ℕ). n + (if bit_of row (class_number net c) then (shipment_at p i).size else 0)) (so_far.summed net allowed are c class) ∙
          ap (λ (b : Bool). allowed_size (λ j. allowed j c) 0 (take i p.shipments) + (if b then (shipment_at p i).size else 0)) (bit net allowed are c class) ∙
          ap (λ (n : ℕ). allowed_size (λ j. allowed j c) 0 (take i p.shipments) + (if allowed n c then (shipment_at p i).size else 0)) (sym number) ∙
          sym (ap (allowed_size (λ j. allowed j c) 0) (take_more p.shipments i no_shipment exists) ∙ allowed_size-push (λ j. allowed j c) 0 (take i p.shipments) (shipment_at p i));
    }
  where
    same : length counts ≡ length row
    same = so_far.counts_long ∙ sym long

    number : 0 + length (take i p.shipments) ≡ i
    number = omega (arith, length-take i p.shipments, exists)

    bit : (net : TimedNetwork) (allowed : ℕ → Leg → Bool) → AreRowsOf net allowed rows → (c : Leg) → IsClass net c → bit_of row (class_number net c) ≡ allowed i c
    bit net allowed are c class = ap (λ (r : List Bool). bit_of r (class_number net c)) is ∙ are.exact i c inside class

    one-most : (b : Bool) (n : ℕ) → (if b then n else 0) ≤ n
    one-most true n = omega arith
    one-most false n = omega arith

    get_or-any : (xs : List ℕ) (k d e : ℕ) → k < length xs → get_or xs k d ≡ get_or xs k e
    get_or-any [] k d e h = absurd (omega arith)
    get_or-any (x ∷ xs) zero d e h = refl
    get_or-any (x ∷ xs) (suc k) d e h = get_or-any xs k d e (omega arith)
