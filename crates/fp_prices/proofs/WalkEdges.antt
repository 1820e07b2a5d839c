-- The classes of a walk in the graph of a network's points, edge by edge.
use Rattle.std.proofs.Common.{◌≡◌, ℕ, ◌<◌, ◌≤◌, List, [], ◌∷◌, ◌++◌, sym, ap, ◌∙◌, refl, arith, ⊎_elim}
use Rattle.std.specs.Prelude.{nat_lt}
use Rattle.std.proofs.lemmas.Bool.{cases_lt, cond-true, cond-false, le-ltb, lt-ltb}
use Rattle.fp_model.specs.declared.parts.Leg.{Leg}
use Rattle.fp_longestarcs.specs.Networks.{TimedNetwork, IsClass, IsNetwork, class_count, class_number}
use Rattle.fp_longestarcs.proofs.ClassNumbers.{number-within}
use Rattle.fp_allowed.specs.Listing.{class_at}
use Rattle.fp_allowed.proofs.ListedClasses.{class_at-number}
use Rattle.fp_prices.specs.LeastWalks.{classes_on}

-- the edge of a class has that class
classes_on-first : (net : TimedNetwork) (e : ℕ) (edges : List ℕ) → e < class_count net → classes_on net (e ∷ edges) ≡ class_at net e ∷ classes_on net edges
classes_on-first net e edges h = cond-true (nat_lt e (class_count net)) (class_at net e ∷ classes_on net edges) (classes_on net edges) (lt-ltb e (class_count net) h)

-- a holding edge has none
pub classes_on-holding : (net : TimedNetwork) (e : ℕ) (edges : List ℕ) → class_count net ≤ e → classes_on net (e ∷ edges) ≡ classes_on net edges
classes_on-holding net e edges h = cond-false (nat_lt e (class_count net)) (class_at net e ∷ classes_on net edges) (classes_on net edges) (le-ltb e (class_count net) h)

-- the edge that has a class's number
pub classes_on-class : (net : TimedNetwork) (c : Leg) (e : ℕ) (edges : List ℕ) → IsNetwork net → IsClass net c → class_number net c ≡ e → classes_on net (e ∷ edges) ≡ c ∷ classes_on net edges
classes_on-class net c e edges valid is number =
    classes_on-first net e edges (omega (arith, number, number-within net c valid is)) ∙
    ap (λ (l : Leg). l ∷ classes_on net edges) (ap (class_at net) (sym number) ∙ class_at-number net c valid is)

-- the classes of a walk and of one more edge
pub classes_on-append : (net : TimedNetwork) (edges more : List ℕ) → classes_on net (edges ++ more) ≡ classes_on net edges ++ classes_on net more
classes_on-append net [] more = refl
classes_on-append net (e ∷ edges) more =
    ⊎_elim
    (λ (h : e < class_count net).
    classes_on-first net e (edges ++ more) h ∙ ap (λ (l : List Leg). class_at net e ∷ l) (classes_on-append net edges more) ∙
    sym (ap (λ (l : List Leg). l ++ classes_on net more) (classes_on-first net e edges h)))
    (λ (h : class_count net ≤ e).
    classes_on-holding net e (edges ++ more) h ∙ classes_on-append net edges more ∙
    sym (ap (λ (l : List Leg). l ++ classes_on net more) (classes_on-holding net e edges h)))
    (cases_lt e (class_count net))
