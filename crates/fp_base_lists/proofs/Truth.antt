-- What truth values are to each other, and the cases of an option.
use Rattle.std.proofs.Common.{◌≡◌, Bool, true, false, ◌||◌, Option, None, Some, ◌⊎◌, inl, inr, refl, sym, ap, ◌∙◌}
use Rattle.std.proofs.Math.Bool.{or_assoc, or_comm}

-- tests that pass Bool-from_both are equal
pub Bool-from_both : (a b : Bool) → (a ≡ true → b ≡ true) → (b ≡ true → a ≡ true) → a ≡ b
Bool-from_both true b to from = sym (to refl)
Bool-from_both false true to from = from refl
Bool-from_both false false to from = refl

-- of three tests the last two may change places
pub or_right_comm : (a b c : Bool) → ((a || b) || c) ≡ ((a || c) || b)
or_right_comm a b c = or_assoc a b c ∙ ap (λ (t : Bool). a || t) (or_comm b c) ∙ sym (or_assoc a c b)

-- an option has nothing or a value
pub option-cases : {X : Type 0} (o : Option X) → (o ≡ None) ⊎ ((x : X) × (o ≡ Some x))
option-cases None = inl refl
option-cases (Some x) = inr (x, refl)
