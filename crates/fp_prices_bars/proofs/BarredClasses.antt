-- The classes of a shipment that are barred, class by class.
use Rattle.std.proofs.Common.{◌≡◌, ℕ, ◌+◌, ◌<◌, ◌≤◌, Bool, true, false, ◌&&◌, ◌||◌, ◌⊎◌, ⊎_elim, List, refl, sym, ap, ◌∙◌, arith}
use Rattle.std.specs.Prelude.{nat_eq, nat_lt, not}
use Rattle.std.proofs.lemmas.Bool.{cases_order, eq-eqb, le-ltb, lt-ltb, ne_eqb}
use Rattle.fp_model.specs.declared.parts.Leg.{Leg}
use Rattle.fp_model.specs.Problem.{Problem}
use Rattle.fp_longestarcs.specs.Classes.{class_of}
use Rattle.fp_longestarcs.specs.Networks.{TimedNetwork, class_count, class_number, points_in}
use Rattle.fp_longestarcs.specs.Whole.{IsWholeNetwork}
use Rattle.fp_longestarcs.proofs.ClassNumbers.{number-within}
use Rattle.fp_tree.specs.declared.sides.Side.{Side}
use Rattle.fp_allowed.specs.Allowed.{exit_of, meets_all}
use Rattle.fp_prices_bars.specs.BarRuns.{BarAlso}
use Rattle.fp_prices_bars.proofs.ClassEnds.{moment-class}

-- what two tests bar one after the other, one bars that is true where one of them is
in-one : (met own first second : Bool) → ((met && not (own && first)) && not (own && second)) ≡ (met && not (own && (first || second)))
in-one false own first second = refl
in-one true false first second = refl
in-one true true false second = refl
in-one true true true second = refl

or-false : (b : Bool) → (b || false) ≡ b
or-false true = refl
or-false false = refl

and-false : (b : Bool) → (b && false) ≡ false
and-false true = refl
and-false false = refl

module _ (f : ℕ → Bool) (i : ℕ) where
  -- the barred ones below the next number, if this one is barred
  below-more : f i ≡ true → (n : ℕ) → (nat_lt n (i + 1) && f n) ≡ ((nat_lt n i && f n) || nat_eq n i)
  below-more barred n =
      ⊎_elim
      (λ (same : n ≡ i). rw (lt-ltb n (i + 1) (omega (arith, same)), le-ltb n i (omega (arith, same)), eq-eqb n i same) (ap f same ∙ barred))
      (λ (apart : (n < i) ⊎ (i < n)).
      ⊎_elim
      (λ (less : n < i). rw (lt-ltb n (i + 1) (omega (arith, less)), lt-ltb n i less, ne_eqb n i (λ e. omega (arith, less, e))) (sym (or-false (f n))))
      (λ (more : i < n). rw (le-ltb n (i + 1) (omega (arith, more)), le-ltb n i (omega (arith, more)), ne_eqb n i (λ e. omega (arith, more, e))) refl)
      apart)
      (cases_order n i)

  -- and if it isn't
  below-same : f i ≡ false → (n : ℕ) → (nat_lt n (i + 1) && f n) ≡ (nat_lt n i && f n)
  below-same free n =
      ⊎_elim
      (λ (same : n ≡ i). rw (lt-ltb n (i + 1) (omega (arith, same)), le-ltb n i (omega (arith, same))) (ap f same ∙ free))
      (λ (apart : (n < i) ⊎ (i < n)).
      ⊎_elim
      (λ (less : n < i). rw (lt-ltb n (i + 1) (omega (arith, less)), lt-ltb n i less) refl)
      (λ (more : i < n). rw (le-ltb n (i + 1) (omega (arith, more)), le-ltb n i (omega (arith, more))) refl)
      apart)
      (cases_order n i)

module _ (p : Problem) (net : TimedNetwork) (shipment : ℕ) (f : ℕ → Bool) (old : List Side) where
  -- the number of the class of a departure
  abbrev number : Leg → ℕ
  number l = class_number net (class_of p (points_in net) 1 l)

  pub bars-more : (i : ℕ) (mid new : List Side) → f i ≡ true → BarAlso p net shipment (λ n. nat_lt n i && f n) old mid → BarAlso p net shipment (λ n. nat_eq n i) mid new → BarAlso p net shipment (λ n. nat_lt n (i + 1) && f n) old new
  bars-more i mid new barred so_far one = λ k l exists small.
      one k l exists small ∙ ap (λ (b : Bool). b && not (nat_eq k shipment && nat_eq (number l) i)) (so_far k l exists small)
      ∙ in-one (meets_all k old (exit_of p l)) (nat_eq k shipment) (nat_lt (number l) i && f (number l)) (nat_eq (number l) i)
      ∙ ap (λ (b : Bool). meets_all k old (exit_of p l) && not (nat_eq k shipment && b)) (sym (below-more f i barred (number l)))

  pub bars-same : (i : ℕ) (mid : List Side) → f i ≡ false → BarAlso p net shipment (λ n. nat_lt n i && f n) old mid → BarAlso p net shipment (λ n. nat_lt n (i + 1) && f n) old mid
  bars-same i mid free so_far = λ k l exists small.
      so_far k l exists small ∙ ap (λ (b : Bool). meets_all k old (exit_of p l) && not (nat_eq k shipment && b)) (sym (below-same f i free (number l)))

  -- all classes
  pub bars-all : (i : ℕ) (mid : List Side) → IsWholeNetwork p net → class_count net ≤ i → BarAlso p net shipment (λ n. nat_lt n i && f n) old mid → BarAlso p net shipment f old mid
  bars-all i mid whole all so_far = λ k l exists small.
      so_far k l exists small
      ∙ ap (λ (b : Bool). meets_all k old (exit_of p l) && not (nat_eq k shipment && (b && f (number l))))
      (lt-ltb (number l) i (omega (arith, all, number-within net (class_of p (points_in net) 1 l) whole.valid (moment-class p net whole l exists))))
