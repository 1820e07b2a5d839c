-- Sides that come to others, and what they ask together.
use Rattle.std.proofs.Common.{◌≡◌, ℕ, zero, suc, ◌-◌, ◌<◌, Bool, true, false, List, [], ◌∷◌, ◌++◌, length, append-nil, get_or, set, take, refl, sym, ap, ◌∙◌, subst, arith}
use Rattle.std.specs.Prelude.{◌&&◌, None, Option}
use Rattle.std.specs.List.{cons_option, list_all}
use Rattle.std.proofs.lemmas.Bool.{false≢true}
use Rattle.std.proofs.Math.Bool.{and-true}
use Rattle.std.proofs.lemmas.List.{length-append, length-set, set-get_or, take-append-le, take_all}
use Rattle.std.proofs.lemmas.List.Elements.{filter_map-append}
use Rattle.std.proofs.lemmas.List.Folds.{list_all-append}
use Rattle.fp_tree.specs.declared.sides.Side.{Side}
use Rattle.fp_tree.specs.Sides.{way_of, ways_of}
use Rattle.fp_allowed.specs.Allowed.{meets}
use Rattle.fp_prices_gifts.specs.GiftNumbers.{better, number_by}
use Rattle.fp_checker.specs.declared.rules.narrow_sides.Change.TheVariants.{Added, Replaced}
use Rattle.fp_checker.specs.LeafWays.{Implies, IsAdded}
use Rattle.fp_checker.proofs.TruckNumbers.{number-implied, number-more, number-set}

-- three tests, joined either way
pub and-last : (x l y : Bool) → (x && (l && y)) ≡ ((x && l) && y)
and-last true l y = refl
and-last false l y = refl

-- a test that implies another stands for both
set-here : (y x l : Bool) → (y && x) ≡ y → (y && l) ≡ ((x && l) && y)
set-here true true true h = refl
set-here true true false h = refl
set-here true false l h = absurd (false≢true h)
set-here false true true h = refl
set-here false true false h = refl
set-here false false l h = refl

list_all-set : (p : Side → Bool) (sides : List Side) (i : ℕ) (side d : Side) → i < length sides → (p side && p (get_or sides i d)) ≡ p side → list_all p (set sides i side) ≡ (list_all p sides && p side)
list_all-set p [] i side d lt h = absurd (omega (arith, lt))
list_all-set p (x ∷ xs) zero side d lt h = set-here (p side) (p x) (list_all p xs) h
list_all-set p (x ∷ xs) (suc i) side d lt h = ap (λ (b : Bool). p x && b) (list_all-set p xs i side d (omega (arith, lt)) h) ∙ and-last (p x) (list_all p xs) (p side)

set-twice : (sides : List Side) (i : ℕ) (side before : Side) → set (set sides i side) i before ≡ set sides i before
set-twice [] i side before = refl
set-twice (x ∷ xs) zero side before = refl
set-twice (x ∷ xs) (suc i) side before = ap (λ (rest : List Side). x ∷ rest) (set-twice xs i side before)

-- where neither of two sides asks a shipment to go by an arc, one in the place of the other changes nothing of what is asked
ways-set : (k : ℕ) (sides : List Side) (i : ℕ) (side d : Side) → way_of k side ≡ None → way_of k (get_or sides i d) ≡ None → ways_of k (set sides i side) ≡ ways_of k sides
ways-set k [] i side d one other = refl
ways-set k (x ∷ xs) zero side d one other = ap (λ (o : Option ℕ). cons_option o (ways_of k xs)) (one ∙ sym other)
ways-set k (x ∷ xs) (suc i) side d one other = ap (cons_option (way_of k x)) (ways-set k xs i side d one other)

-- one that asks for none adds none
ways-none : (k : ℕ) (sides : List Side) (side : Side) → way_of k side ≡ None → ways_of k sides ≡ ways_of k sides ++ ways_of k (side ∷ [])
ways-none k sides side none = sym (ap (λ (o : Option ℕ). ways_of k sides ++ cons_option o []) none ∙ append-nil (ways_of k sides))

-- one in the place of another that it implies
pub added-replaced : (old : List Side) (place : ℕ) (side before : Side) → place < length old → before ≡ get_or old place before → Implies side before → IsAdded old side (set old place side) (Replaced place before)
added-replaced old place side before lt is implied = record {
  inside = omega (arith, lt, length-set old place side);
  back = set-twice old place side before ∙ ap (λ (s : Side). set old place s) is ∙ set-get_or old place before;
  legs = λ k e. list_all-set (meets k e) old place side before lt (subst (λ (s : Side). (meets k e side && meets k e s) ≡ meets k e side) is (implied.legs k e));
  numbers = λ gift.
      number-set old place side before gift lt (subst (λ (s : Side). better gift.least (number_by gift side) (number_by gift s) ≡ number_by gift side) is (implied.numbers gift));
  ways = λ k. ways-set k old place side before (implied.asks_none k) (subst (λ (s : Side). way_of k s ≡ None) is (implied.nor_other k)) ∙ ways-none k old side (implied.asks_none k);
}

-- a test that is implied by another is met where that is
implied-here : (x y l : Bool) → (x && y) ≡ x → (x && l) ≡ ((x && l) && y)
implied-here true true true h = refl
implied-here true true false h = refl
implied-here true false l h = absurd (false≢true h)
implied-here false y l h = refl

list_all-implied : (p : Side → Bool) (sides : List Side) (i : ℕ) (side d : Side) → i < length sides → (p (get_or sides i d) && p side) ≡ p (get_or sides i d) → list_all p sides ≡ (list_all p sides && p side)
list_all-implied p [] i side d lt h = absurd (omega (arith, lt))
list_all-implied p (x ∷ xs) zero side d lt h = implied-here (p x) (p side) (list_all p xs) h
list_all-implied p (x ∷ xs) (suc i) side d lt h = ap (λ (b : Bool). p x && b) (list_all-implied p xs i side d (omega (arith, lt)) h) ∙ and-last (p x) (list_all p xs) (p side)

-- one that is implied by another, which stays
pub added-implied : (old : List Side) (place : ℕ) (side before : Side) → place < length old → before ≡ get_or old place before → Implies before side → IsAdded old side old (Replaced place before)
added-implied old place side before lt is implied = record {
  inside = lt;
  back = ap (λ (s : Side). set old place s) is ∙ set-get_or old place before;
  legs = λ k e. list_all-implied (meets k e) old place side before lt (subst (λ (s : Side). (meets k e s && meets k e side) ≡ meets k e s) is (implied.legs k e));
  numbers = λ gift.
      number-implied old place side before gift lt (subst (λ (s : Side). better gift.least (number_by gift s) (number_by gift side) ≡ number_by gift s) is (implied.numbers gift));
  ways = λ k. ways-none k old side (implied.nor_other k);
}

-- one behind the others
pub added-last : (old : List Side) (side : Side) → IsAdded old side (old ++ side ∷ []) Added
added-last old side = record {
  inside = tt;
  back = ap (λ (n : ℕ). take n (old ++ side ∷ [])) long ∙ take-append-le (length old) old (side ∷ []) (omega arith) ∙ take_all (length old) old (omega arith);
  legs = λ k e. list_all-append (meets k e) old (side ∷ []) ∙ ap (λ (b : Bool). list_all (meets k e) old && b) (and-true (meets k e side));
  numbers = λ gift. number-more old side gift;
  ways = λ k. filter_map-append (way_of k) old (side ∷ []);
}
  where
    long : length (old ++ side ∷ []) - 1 ≡ length old
    long = omega (arith, length-append old (side ∷ []))
