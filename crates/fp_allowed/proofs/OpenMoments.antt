-- Whether all sides let a leg leave is found side by side, and only concerned sides count.
use Rattle.std.proofs.Common.{◌≡◌, ◌≢◌, ℕ, ◌+◌, ◌<◌, Bool, true, false, ◌&&◌, ◌||◌, List, [], ◌∷◌, length, drop, get_or, ⊎_elim, refl, sym, ap, ◌∙◌, add-one, drop-cons}
use Rattle.std.specs.Prelude.{nat_eq, not}
use Rattle.std.proofs.Math.Bool.{and_assoc}
use Rattle.std.proofs.lemmas.Bool.{and_right, cases_Bool, eq-eqb, or_right}
use Rattle.std.proofs.lemmas.Bool.Decides.{eqb_tells}
use Rattle.fp_model.specs.declared.parts.Leg.{Leg}
use Rattle.fp_model.specs.Problem.{Problem}
use Rattle.fp_tree.specs.declared.sides.Side.{Side}
use Rattle.fp_tree.specs.declared.sides.Side.TheVariants.{Without, Only, Before, From, AtMost, MoreThan, Through, Outside}
use Rattle.fp_allowed.specs.Allowed.{exit_of, is_rival, meets, meets_all, tails_of}
use Rattle.fp_allowed.specs.Moments.{all_let, barring, bars, concerned, concerns, is_barred, is_barring, lets}

-- neither of two tests passes where not one of them does
or_parts_false : (a b : Bool) → (a || b) ≡ false → (a ≡ false) × (b ≡ false)
or_parts_false true b none = cc none
or_parts_false false b none = (refl, none)

-- one side more, where what is left after it is what it leaves of what was left before
pub all_let_step : (arc m : ℕ) (sides : List Side) (i : ℕ) (d : Side) (before after : Bool) → i < length sides → after ≡ (before && lets arc m (get_or sides i d)) →
    (after && all_let arc m (drop (i + 1) sides)) ≡ (before && all_let arc m (drop i sides))
all_let_step arc m sides i d before after h is =
    let rest : Bool = all_let arc m (drop (i + 1) sides) in
    let here : drop i sides ≡ get_or sides i d ∷ drop (i + 1) sides = rw add-one (drop-cons sides i d h) in
    ap (λ (b : Bool). b && rest) is ∙ and_assoc before (lets arc m (get_or sides i d)) rest ∙ ap (λ (l : List Side). before && all_let arc m l) (sym here)

-- one side more, where it answers at a moment as at the first
pub part_step : (arc lo m : ℕ) (sides : List Side) (i : ℕ) (d : Side) (free : Bool) → i < length sides → lets arc m (get_or sides i d) ≡ lets arc lo (get_or sides i d) →
    (free && all_let arc m (drop i sides)) ≡ all_let arc m sides → (free && lets arc lo (get_or sides i d) && all_let arc m (drop (i + 1) sides)) ≡ all_let arc m sides
part_step arc lo m sides i d free h alike so_far =
    all_let_step arc m sides i d free (free && lets arc lo (get_or sides i d)) h (ap (λ (b : Bool). free && b) (sym alike)) ∙ so_far

-- a leg that leaves its arc's tail, which a side doesn't bar, meets that side where the side does not concern it, or lets it
meets-concerned : (p : Problem) (k : ℕ) (c : Leg) (side : Side) → bars p k c.arc side ≡ false → meets k (exit_of p c) side ≡ (not (concerns p k (tails_of p c.arc) side) || lets c.arc c.depart side)
meets-concerned p k c (Without shipment arc) free =
    ⊎_elim
    (λ (own : (nat_eq k shipment ≡ true) × (k ≡ shipment)).
    ⊎_elim
    (λ (same : (nat_eq c.arc arc ≡ true) × (c.arc ≡ arc)). rw (own.0, same.0, eq-eqb (tails_of p c.arc) (tails_of p arc) (ap (tails_of p) same.1)) refl)
    (λ (other : (nat_eq c.arc arc ≡ false) × (c.arc ≢ arc)). rw (own.0, other.0) (sym (or_right (not (nat_eq (tails_of p c.arc) (tails_of p arc))) true refl)))
    (eqb_tells c.arc arc))
    (λ (other : (nat_eq k shipment ≡ false) × (k ≢ shipment)). rw other.0 refl)
    (eqb_tells k shipment)
meets-concerned p k c (Only shipment arc tail) free = refl
meets-concerned p k c (Before shipment terminal at) free = refl
meets-concerned p k c (From shipment terminal at) free = refl
meets-concerned p k c (AtMost arc point until trucks) free =
    ⊎_elim
    (λ (none : nat_eq trucks 0 ≡ true).
    ⊎_elim
    (λ (same : (nat_eq c.arc arc ≡ true) × (c.arc ≡ arc)). rw (none, same.0, eq-eqb (tails_of p c.arc) (tails_of p arc) (ap (tails_of p) same.1)) refl)
    (λ (other : (nat_eq c.arc arc ≡ false) × (c.arc ≢ arc)). rw (none, other.0) (sym (or_right (not (nat_eq (tails_of p c.arc) (tails_of p arc))) true refl)))
    (eqb_tells c.arc arc))
    (λ (some : nat_eq trucks 0 ≡ false). rw some refl)
    (cases_Bool (nat_eq trucks 0))
meets-concerned p k c (MoreThan arc point until trucks) free = refl
meets-concerned p k c (Through shipment arc) free = rw free refl
meets-concerned p k c (Outside shipment arc point until) free =
    ⊎_elim
    (λ (own : nat_eq k shipment ≡ true).
    ⊎_elim
    (λ (same : (nat_eq c.arc arc ≡ true) × (c.arc ≡ arc)). rw (own, same.0, eq-eqb (tails_of p c.arc) (tails_of p arc) (ap (tails_of p) same.1)) refl)
    (λ (other : (nat_eq c.arc arc ≡ false) × (c.arc ≢ arc)). rw (own, other.0) (sym (or_right (not (nat_eq (tails_of p c.arc) (tails_of p arc))) true refl)))
    (eqb_tells c.arc arc))
    (λ (other : nat_eq k shipment ≡ false). rw other refl)
    (cases_Bool (nat_eq k shipment))

-- so it meets all sides where the concerned ones let it
pub meets_all-concerned : (p : Problem) (k : ℕ) (c : Leg) (sides : List Side) → is_barred p k c.arc sides ≡ false → meets_all k sides (exit_of p c) ≡ all_let c.arc c.depart (concerned p k (tails_of p c.arc) sides)
meets_all-concerned p k c [] free = refl
meets_all-concerned p k c (side ∷ sides) free =
    let both = or_parts_false (bars p k c.arc side) (is_barred p k c.arc sides) free in
    let rest : meets_all k sides (exit_of p c) ≡ all_let c.arc c.depart (concerned p k (tails_of p c.arc) sides) = meets_all-concerned p k c sides both.1 in
    ⊎_elim
    (λ (own : concerns p k (tails_of p c.arc) side ≡ true).
    rw (meets-concerned p k c side both.0, own, rest) refl)
    (λ (other : concerns p k (tails_of p c.arc) side ≡ false).
    rw (meets-concerned p k c side both.0, other, rest) refl)
    (cases_Bool (concerns p k (tails_of p c.arc) side))

-- a side that may bar no arc bars none
bars-barring : (p : Problem) (k arc : ℕ) (side : Side) → is_barring k side ≡ false → bars p k arc side ≡ false
bars-barring p k arc (Without shipment other) none = refl
bars-barring p k arc (Only shipment other tail) none = refl
bars-barring p k arc (Before shipment terminal at) none = refl
bars-barring p k arc (From shipment terminal at) none = refl
bars-barring p k arc (AtMost other point until trucks) none = refl
bars-barring p k arc (MoreThan other point until trucks) none = refl
bars-barring p k arc (Through shipment other) none = ap (λ (b : Bool). b && is_rival p arc other) none
bars-barring p k arc (Outside shipment other point until) none = refl

-- so an arc is barred by all sides where it is by those that may
pub is_barred-barring : (p : Problem) (k arc : ℕ) (sides : List Side) → is_barred p k arc (barring k sides) ≡ is_barred p k arc sides
is_barred-barring p k arc [] = refl
is_barred-barring p k arc (side ∷ sides) =
    ⊎_elim
    (λ (own : is_barring k side ≡ true). rw (own, is_barred-barring p k arc sides) refl)
    (λ (other : is_barring k side ≡ false). rw (other, is_barred-barring p k arc sides, bars-barring p k arc side other) refl)
    (cases_Bool (is_barring k side))

-- a leg by an arc that a side bars doesn't meet that side
meets-barred : (p : Problem) (k : ℕ) (c : Leg) (side : Side) → bars p k c.arc side ≡ true → meets k (exit_of p c) side ≡ false
meets-barred p k c (Without shipment arc) barred = cc barred
meets-barred p k c (Only shipment arc tail) barred = cc barred
meets-barred p k c (Before shipment terminal at) barred = cc barred
meets-barred p k c (From shipment terminal at) barred = cc barred
meets-barred p k c (AtMost arc point until trucks) barred = cc barred
meets-barred p k c (MoreThan arc point until trucks) barred = cc barred
meets-barred p k c (Through shipment arc) barred = ap not barred
meets-barred p k c (Outside shipment arc point until) barred = cc barred

-- so it doesn't meet all of them
pub meets_all-barred : (p : Problem) (k : ℕ) (c : Leg) (sides : List Side) → is_barred p k c.arc sides ≡ true → meets_all k sides (exit_of p c) ≡ false
meets_all-barred p k c [] barred = cc barred
meets_all-barred p k c (side ∷ sides) barred =
    ⊎_elim
    (λ (here : bars p k c.arc side ≡ true). rw (meets-barred p k c side here) refl)
    (λ (away : bars p k c.arc side ≡ false).
    let later : is_barred p k c.arc sides ≡ true = sym (ap (λ (b : Bool). b || is_barred p k c.arc sides) away) ∙ barred in
    and_right (meets k (exit_of p c) side) (meets_all k sides (exit_of p c)) (meets_all-barred p k c sides later))
    (cases_Bool (bars p k c.arc side))
