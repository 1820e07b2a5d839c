-- Tables with one item more.
use Rattle.std.proofs.Common.{◌≡◌, ℕ, suc, ◌+◌, ◌-◌, ◌*◌, ◌<◌, ◌≤◌, Bool, false, List, [], ◌++◌, length, take, drop, slice_index, get_or, ⊎_elim, sym, ap, ◌∙◌, subst, arith}
use Rattle.std.specs.Prelude.{◌/◌, replicate}
use borrow.Rule.Slice.PartMut.{put_mid, post_of}
use Rattle.std.proofs.Math.Nat.{mul-le-mul_right}
use Rattle.std.proofs.lemmas.Bool.{cases_lt}
use Rattle.std.proofs.lemmas.List.{take_all, take_at, drop_all, append-nil, length-append, length-replicate, length-drop, get_or_append_left, get_or-append-add}
use Rattle.fp_prices_knapsack.specs.declared.items.Item.{Item}
use Rattle.fp_prices_knapsack.specs.Sets.{item_at}
use Rattle.fp_prices_knapsack.specs.Loads.{takes, best_with, best_weight, takes_place, AreBest, AreTaken}
use Rattle.fp_prices_knapsack.proofs.BestWeights.{best_with-same, takes-same}

-- the best weights with one item more
pub AreBest-more : (items : List Item) (grain n grains : ℕ) (old new : List ℕ) → AreBest items grain n old → length new ≡ length old → grains ≡ (item_at items n).size / grain →
    ((load : ℕ) → load < length old → slice_index new load ≡ best_with (λ l. slice_index old l) grains (item_at items n).weight load) → AreBest items grain (n + 1) new
AreBest-more items grain n grains old new best len grains_is made =
    let next : suc n ≡ n + 1 = omega arith in
    subst (λ (count : ℕ). AreBest items grain count new) next (record {
      len = len ∙ best.len;
      are = λ load h.
          (let inside : load < length old = omega (arith, len) in
          made load inside
          ∙ ap (λ (g : ℕ). best_with (λ l. slice_index old l) g (item_at items n).weight load) grains_is
          ∙ best_with-same (λ l. slice_index old l) (best_weight items grain n) ((item_at items n).size / grain) (item_at items n).weight load (λ l below. best.are l (omega arith)));
    })

-- a row for one item more
pub AreTaken-more : (items : List Item) (grain n grains loads : ℕ) (best : List ℕ) (old row : List Bool) → AreBest items grain n best → length best ≡ loads → AreTaken items grain n loads old →
    length row ≡ loads → grains ≡ (item_at items n).size / grain →
    ((load : ℕ) → load < length best → get_or row load false ≡ takes (λ l. slice_index best l) grains (item_at items n).weight load) → AreTaken items grain (n + 1) loads (old ++ row)
AreTaken-more items grain n grains loads best old row are best_len taken len grains_is made = record {
  len = (let sum : length (old ++ row) ≡ length old + length row = length-append old row in omega (arith, sum, taken.len, len));
  are = λ place load below h.
      ⊎_elim
      (λ (before : place < n).
      let rows : (place + 1) * loads ≤ n * loads = mul-le-mul_right loads (omega arith) in
      get_or_append_left old row false (place * loads + load) (omega (arith, rows, taken.len, h)) ∙ taken.are place load before h)
      (λ (last : n ≤ place).
      let same : place ≡ n = omega arith in
      let at : place * loads + load ≡ length old + load = omega (arith, ap (λ (p : ℕ). p * loads) same, taken.len) in
      ap (λ (k : ℕ). get_or (old ++ row) k false) at
      ∙ get_or-append-add old row load false
      ∙ made load (omega (arith, best_len, h))
      ∙ ap (λ (g : ℕ). takes (λ l. slice_index best l) g (item_at items n).weight load) grains_is
      ∙ takes-same (λ l. slice_index best l) (best_weight items grain n) ((item_at items n).size / grain) (item_at items n).weight load (λ l low. are.are l (omega (arith, best_len, h)))
      ∙ ap (λ (p : ℕ). takes_place items grain p load) (sym same))
      (cases_lt place n);
}

-- a row written over what a vector got more
pub row-written : (old row whole resized : List Bool) (start loads len old_len : ℕ) → start ≡ length old → old_len ≡ length old →
    resized ≡ take (start + loads) old ++ replicate (start + loads - old_len) false → whole ≡ resized → length row ≡ loads → len ≡ length resized →
    take len (put_mid start (length whole - start) whole row ++ drop (length (put_mid start (length whole - start) whole row)) resized) ≡ old ++ row
row-written old row whole resized start loads len old_len start_is old_is resized_is whole_is row_len len_is =
    let kept : whole ≡ old ++ replicate (start + loads - old_len) false =
    whole_is ∙ resized_is ∙ ap (λ (l : List Bool). l ++ replicate (start + loads - old_len) false) (take_all (start + loads) old (omega arith)) in
    let whole_len : length whole ≡ start + loads =
    ap length kept ∙ length-append old (replicate (start + loads - old_len) false) ∙ (let e : length old + length (replicate (start + loads - old_len) false) ≡ start + loads = omega (arith, length-replicate (start + loads - old_len) false) in e) in
    let front : take start whole ≡ old = ap (take start) kept ∙ take_at old (replicate (start + loads - old_len) false) start (sym start_is) in
    let past : post_of start (length whole - start) whole ≡ [] = drop_all (length whole - start) (drop start whole) (omega (arith, length-drop start whole)) in
    let written : put_mid start (length whole - start) whole row ≡ old ++ row =
    ap (λ (l : List Bool). l ++ (row ++ post_of start (length whole - start) whole)) front ∙ ap (λ (l : List Bool). old ++ (row ++ l)) past ∙ ap (λ (l : List Bool). old ++ l) (append-nil row) in
    let written_len : length (put_mid start (length whole - start) whole row) ≡ len =
    ap length written ∙ length-append old row ∙ (let e : length old + length row ≡ len = omega (arith, whole_len, ap length whole_is) in e) in
    take_at (put_mid start (length whole - start) whole row) (drop (length (put_mid start (length whole - start) whole row)) resized) len written_len ∙ written
