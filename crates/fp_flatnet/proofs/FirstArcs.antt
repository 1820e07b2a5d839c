-- The first arcs that begin walks of least time, as one more arc is looked at.
use Rattle.std.proofs.Common.{◌≡◌, ◌≢◌, ℕ, ◌+◌, ◌<◌, ◌≤◌, true, false, Some, None, Option, List, length, sym, subst, arith, ⊎_elim, get_or-set_other, get_or-set_same}
use Rattle.std.specs.Prelude.{is_some, slice_index_or, slice_set, nat_eq}
use Rattle.std.proofs.lemmas.Bool.{cases_lt}
use Rattle.std.proofs.lemmas.Bool.Decides.{eqb_tells}
use Rattle.fp_model.specs.Problem.{Problem, arc_at}
use Rattle.fp_flatnet.specs.Directs.{BeginsLeast, BeginsFirst, IsFirstBelow}

-- an arc that begins no least walk changes nothing
below-stays : (p : Problem) (there n here : ℕ) (o : Option ℕ) → IsFirstBelow p there n here o → (BeginsLeast p here there n → ⊥) → IsFirstBelow p there (n + 1) here o
below-stays p there n here (Some a) first not = first
below-stays p there n here None none not =
    λ a lt begins.
    ⊎_elim
    (λ (before : a < n). none a before begins)
    (λ (after : n ≤ a).
    let same : a ≡ n = omega arith in
    not (subst (λ (b : ℕ). BeginsLeast p here there b) same begins))
    (cases_lt a n)

-- nor does an arc after the first that does
pub below-there : (p : Problem) (there n here : ℕ) (o : Option ℕ) → is_some o ≡ true → IsFirstBelow p there n here o → IsFirstBelow p there (n + 1) here o
below-there p there n here (Some a) some first = first
below-there p there n here None some first = cc

-- the first arc that does is found
pub below-found : (p : Problem) (there n here : ℕ) (o : Option ℕ) → is_some o ≡ false → IsFirstBelow p there n here o → BeginsLeast p here there n → BeginsFirst p here there n
below-found p there n here (Some a) none first begins = cc
below-found p there n here None none first begins = record { begins = begins; first = first }

-- where there was none and this arc does not, there is none
pub below-none : (p : Problem) (there n here : ℕ) (o : Option ℕ) → is_some o ≡ false → IsFirstBelow p there n here o → (BeginsLeast p here there n → ⊥) → IsFirstBelow p there (n + 1) here None
below-none p there n here (Some a) none first not = cc
below-none p there n here None none first not = below-stays p there n here None first not

-- after an arc was looked at, each entry is right up to and with the arc
pub first-set : (p : Problem) (there n : ℕ) (onward : List (Option ℕ)) (o : Option ℕ) (count : ℕ) → count ≤ length onward →
    ((here : ℕ) → here < count → IsFirstBelow p there n here (slice_index_or onward here None)) → IsFirstBelow p there (n + 1) (arc_at p n).from o →
    (here : ℕ) → here < count → IsFirstBelow p there (n + 1) here (slice_index_or (slice_set onward (arc_at p n).from o) here None)
first-set p there n onward o count long each new here lt =
    let tail : ℕ = (arc_at p n).from in
    ⊎_elim
    (λ (same : (nat_eq here tail ≡ true) × (here ≡ tail)).
    let inside : tail < length onward = omega (arith, lt, long, same.1) in
    subst (λ (h : ℕ). IsFirstBelow p there (n + 1) h (slice_index_or (slice_set onward tail o) h None)) (sym same.1)
    (subst (λ (x : Option ℕ). IsFirstBelow p there (n + 1) tail x) (sym (get_or-set_same onward tail o None inside)) new))
    (λ (other : (nat_eq here tail ≡ false) × (here ≢ tail)).
    subst (λ (x : Option ℕ). IsFirstBelow p there (n + 1) here x) (sym (get_or-set_other onward tail here o None other.1))
    (below-stays p there n here (slice_index_or onward here None) (each here lt) (λ begins. other.1 (sym begins.leads.1))))
    (eqb_tells here tail)

-- once all arcs were looked at
pub first-whole : (p : Problem) (there n here : ℕ) (o : Option ℕ) → length p.arcs ≤ n → IsFirstBelow p there n here o → IsFirstBelow p there (length p.arcs) here o
first-whole p there n here None all none = λ a lt begins. none a (omega (arith, lt, all)) begins
first-whole p there n here (Some a) all first = first
