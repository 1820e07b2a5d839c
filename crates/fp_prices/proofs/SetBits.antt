-- Loops that go from one set bit of a row to the next.
use Rattle.std.proofs.Common.{◌≡◌, ℕ, ◌+◌, ◌<◌, ◌≤◌, Bool, true, false, List, ◌++◌, length, get_or, set, take, ⊎_elim, ◌⊎◌, refl, sym, ap, ◌∙◌, subst, arith}
use Rattle.std.specs.Prelude.{Some, None, if◌then◌else◌}
use Rattle.std.proofs.lemmas.Bool.{both_ways, cases_lt, cases_order, cond-true, cond-false}
use Rattle.std.proofs.lemmas.List.{get_or-set_other, get_or-set_same, get_or_past, length-set}
use Rattle.std.proofs.Math.Seq.{take-append_seam}
use Rattle.fp_rows.specs.Bits.{first_true_from}
use Rattle.fp_allowed.specs.Bits.{bit_of}
use Rattle.fp_allowed.specs.Leaving.{IsFirstSet}
use Rattle.fp_allowed.proofs.FirstBits.{first_set_none, first_set_some}

-- a vector whose items were lent whole has what was written
pub whole_write : {X : Type 0} (n : ℕ) (xs ys : List X) → n ≡ length xs → take n (xs ++ ys) ≡ xs
whole_write n xs ys same = ap (λ (m : ℕ). take m (xs ++ ys)) same ∙ take-append_seam xs ys

-- a place is the first one from another on whose bit is set
pub record IsNextSet (row : List Bool) (next place : ℕ) : Type 0 where
  pub from : next ≤ place
  pub within : place < length row
  pub set_it : bit_of row place ≡ true
  pub between : (n : ℕ) → next ≤ n → n < place → bit_of row n ≡ false

-- a bit that is set is one of the row's
pub set-within : (row : List Bool) (n : ℕ) → bit_of row n ≡ true → n < length row
set-within row n is =
    ⊎_elim
    (λ (less : n < length row). less)
    (λ (past : length row ≤ n). absurd (both_ways (bit_of row n) (get_or_past row n false past) is))
    (cases_lt n (length row))

pub next-set : (row : List Bool) (next place : ℕ) → Some place ≡ first_true_from row next → IsNextSet row next place
next-set row next place is =
    let first : IsFirstSet row next (place + 1) (Some place) = first_set_some row next (place + 1) place is (omega arith) in
    record { from = first.0; within = set-within row place first.2; set_it = first.2; between = first.3 }

-- from a place on no bit is set
pub none-set : (row : List Bool) (next : ℕ) → None ≡ first_true_from row next → (n : ℕ) → next ≤ n → bit_of row n ≡ false
none-set row next is n from = let none : IsFirstSet row next (n + 1) None = first_set_none row next (n + 1) is in none n from (omega arith)

-- the entries below a place are rewritten where their bit is set, and the others are as before
pub record AreRewritten {X : Type 0} (f : ℕ → X → X) (d : X) (row : List Bool) (old now : List X) (next : ℕ) : Type 0 where
  pub within : next ≤ length row
  pub long : length now ≡ length old
  pub below : (n : ℕ) → n < next → get_or now n d ≡ (if bit_of row n then f n (get_or old n d) else get_or old n d)
  pub after : (n : ℕ) → next ≤ n → get_or now n d ≡ get_or old n d

module _ {X : Type 0} (f : ℕ → X → X) (d : X) (row : List Bool) (old : List X) where
  pub rewritten_none : AreRewritten f d row old old 0
  rewritten_none = record { within = omega arith; long = refl; below = λ n h. absurd (omega arith); after = λ n h. refl }

  -- one more is rewritten
  pub rewritten_more : (now : List X) (next place : ℕ) (v : X) → AreRewritten f d row old now next → IsNextSet row next place → length row ≤ length old → v ≡ f place (get_or old place d) →
      AreRewritten f d row old (set now place v) (place + 1)
  rewritten_more now next place v so_far at room is = record {
    within = omega (arith, at.within);
    long = length-set now place v ∙ so_far.long;
    below = λ n h.
        ⊎_elim
        (λ (same : n ≡ place).
        let read : get_or (set now place v) place d ≡ v = get_or-set_same now place v d (omega (arith, at.within, so_far.long)) in
        subst (λ (m : ℕ). get_or (set now place v) m d ≡ (if bit_of row m then f m (get_or old m d) else get_or old m d)) (sym same)
        (read ∙ is ∙ sym (cond-true (bit_of row place) (f place (get_or old place d)) (get_or old place d) at.set_it)))
        (λ (apart : (n < place) ⊎ (place < n)).
        let other : n ≡ place → ⊥ = λ e. absurd (omega arith) in
        get_or-set_other now place n v d other ∙
        ⊎_elim
        (λ (early : n < next). so_far.below n early)
        (λ (late : next ≤ n). so_far.after n late ∙ sym (cond-false (bit_of row n) (f n (get_or old n d)) (get_or old n d) (at.between n late (omega arith))))
        (cases_lt n next))
        (cases_order n place);
    after = λ n h. let other : n ≡ place → ⊥ = λ e. absurd (omega arith) in get_or-set_other now place n v d other ∙ so_far.after n (omega (arith, at.from));
  }

  -- all are, where no bit is set from the place on
  pub rewritten_all : (now : List X) (next : ℕ) → AreRewritten f d row old now next → ((n : ℕ) → next ≤ n → bit_of row n ≡ false) → (n : ℕ) →
      get_or now n d ≡ (if bit_of row n then f n (get_or old n d) else get_or old n d)
  rewritten_all now next so_far none n =
      ⊎_elim
      (λ (early : n < next). so_far.below n early)
      (λ (late : next ≤ n). so_far.after n late ∙ sym (cond-false (bit_of row n) (f n (get_or old n d)) (get_or old n d) (none n late)))
      (cases_lt n next)
