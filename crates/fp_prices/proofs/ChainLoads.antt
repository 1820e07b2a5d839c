-- Loads and bits of chains, class by class and chain by chain.
use Rattle.std.proofs.Common.{◌≡◌, ℕ, ◌+◌, ◌<◌, Bool, true, false, ◌||◌, List, length, get_or, set, take, ⊎_elim, refl, sym, ap, ◌∙◌, subst, arith}
use Rattle.std.specs.Prelude.{if◌then◌else◌, nat_eq}
use Rattle.std.proofs.Math.Bool.{or-false}
use Rattle.std.proofs.lemmas.Bool.{cases_eq, cond-false, cond-true, eq-eqb, ne_eqb, or_right}
use Rattle.std.proofs.lemmas.List.{get_or-set_other, get_or-set_same, length-set}
use Rattle.fp_base_lists.proofs.Distinct.{list_has-take_distinct}
use Rattle.fp_base_lists.proofs.Membership.{list_has-take_more}
use Rattle.fp_base_lists.specs.Distinct.{AreDistinct}
use Rattle.fp_base_lists.specs.Membership.{list_has}
use Rattle.fp_allowed.specs.Bits.{bit_of}

-- loads and bits with those of the classes with some numbers added
pub record AreAdded (size : ℕ) (numbers : List ℕ) (old_loads now_loads : List ℕ) (old_row now_row : List Bool) : Type 0 where
  pub loads_long : length now_loads ≡ length old_loads
  pub row_long : length now_row ≡ length old_row
  pub loads : (n : ℕ) → get_or now_loads n 0 ≡ get_or old_loads n 0 + (if list_has numbers n then size else 0)
  pub told : (n : ℕ) → bit_of now_row n ≡ (bit_of old_row n || list_has numbers n)

-- one more class of a chain
pub added_more : (size : ℕ) (numbers : List ℕ) (i x load : ℕ) (loads now : List ℕ) (row bits : List Bool) → AreDistinct numbers → i < length numbers → x ≡ get_or numbers i 0 → x < length loads → x < length row →
    AreAdded size (take i numbers) loads now row bits → load ≡ get_or now x 0 + size → AreAdded size (take (i + 1) numbers) loads (set now x load) row (set bits x true)
added_more size numbers i x load loads now row bits apart inside x_is in_loads in_row so_far load_is = record {
  loads_long = length-set now x load ∙ so_far.loads_long;
  row_long = length-set bits x true ∙ so_far.row_long;
  loads = λ n.
      ⊎_elim
      (λ (here : x ≡ n).
      let none : list_has (take i numbers) x ≡ false = ap (list_has (take i numbers)) x_is ∙ list_has-take_distinct numbers i apart inside in
      let old : get_or now x 0 ≡ get_or loads x 0 = so_far.loads x ∙ (let e : get_or loads x 0 + (if list_has (take i numbers) x then size else 0) ≡ get_or loads x 0 = omega (arith, cond-false {A = ℕ} (list_has (take i numbers) x) size 0 none) in e) in
      let told : list_has (take (i + 1) numbers) x ≡ true = more x ∙ or_right (list_has (take i numbers) x) (nat_eq x x) (eq-eqb x x refl) in
      subst (λ (m : ℕ). get_or (set now x load) m 0 ≡ get_or loads m 0 + (if list_has (take (i + 1) numbers) m then size else 0)) here
      (omega (arith, get_or-set_same now x load 0 (omega (arith, in_loads, so_far.loads_long)), load_is, old, cond-true {A = ℕ} (list_has (take (i + 1) numbers) x) size 0 told)))
      (λ (other : x ≡ n → ⊥).
      let kept : get_or (set now x load) n 0 ≡ get_or now n 0 = get_or-set_other now x n load 0 (λ e. other (sym e)) in
      kept ∙ so_far.loads n ∙ ap (λ (b : Bool). get_or loads n 0 + (if b then size else 0)) (sym (same n other)))
      (cases_eq x n);
  told = λ n.
      ⊎_elim
      (λ (here : x ≡ n).
      let told : list_has (take (i + 1) numbers) x ≡ true = more x ∙ or_right (list_has (take i numbers) x) (nat_eq x x) (eq-eqb x x refl) in
      subst (λ (m : ℕ). bit_of (set bits x true) m ≡ (bit_of row m || list_has (take (i + 1) numbers) m)) here
      (get_or-set_same bits x true false (omega (arith, in_row, so_far.row_long)) ∙ sym (or_right (bit_of row x) (list_has (take (i + 1) numbers) x) told)))
      (λ (other : x ≡ n → ⊥).
      get_or-set_other bits x n true false (λ e. other (sym e)) ∙ so_far.told n ∙ ap (λ (b : Bool). bit_of row n || b) (sym (same n other)))
      (cases_eq x n);
}
  where
    more : (n : ℕ) → list_has (take (i + 1) numbers) n ≡ (list_has (take i numbers) n || nat_eq x n)
    more n = list_has-take_more numbers i n inside ∙ ap (λ (m : ℕ). list_has (take i numbers) n || nat_eq m n) (sym x_is)

    same : (n : ℕ) → (x ≡ n → ⊥) → list_has (take (i + 1) numbers) n ≡ list_has (take i numbers) n
    same n other = more n ∙ ap (λ (b : Bool). list_has (take i numbers) n || b) (ne_eqb x n other) ∙ or-false (list_has (take i numbers) n)

-- before a class of a chain is added it has its old load
pub added_before : (size : ℕ) (numbers : List ℕ) (i : ℕ) (loads now : List ℕ) (row bits : List Bool) → AreDistinct numbers → i < length numbers → AreAdded size (take i numbers) loads now row bits →
    get_or now (get_or numbers i 0) 0 ≡ get_or loads (get_or numbers i 0) 0
added_before size numbers i loads now row bits apart inside so_far =
    let x : ℕ = get_or numbers i 0 in
    so_far.loads x ∙ (let e : get_or loads x 0 + (if list_has (take i numbers) x then size else 0) ≡ get_or loads x 0 = omega (arith, cond-false {A = ℕ} (list_has (take i numbers) x) size 0 (list_has-take_distinct numbers i apart inside)) in e)
