-- What the results of tests tell.
use Rattle.std.proofs.Common.{◌≡◌, ℕ, Bool, true, false, List, [], ◌∷◌, length, refl, ap, sym, ◌∙◌, arith}
use Rattle.std.specs.Prelude.{◌==◌, ◌↔◌, IsTrue, MatchOption, None, Option, Some, Result, Ok, Err, is_some, not}
use Rattle.std.proofs.lemmas.Bool.{eqb-true, false≢true}
use Rattle.fp_timenodes.specs.declared.places.Added.{Added}
use Rattle.fp_timenodes.specs.declared.places.Added.TheVariants as added
use Rattle.fp_checker.specs.declared.rejections.Rejected.{Rejected}
use Rattle.fp_checker.specs.declared.rejections.Rejected.TheVariants.{Part}

-- the number of a rejected part
pub Part_injective : {X : Type 0} (n m : ℕ) → ◌≡◌ {A = Result X Rejected} (Err (Part n)) (Err (Part m)) → m ≡ n
Part_injective n m e = cc

-- a test that false_refutes refutes what would make it pass
pub false_refutes : {P : Type 0} (b : Bool) → b ≡ false → (P → b ≡ true) → P → ⊥
false_refutes b h pass p = false≢true (sym h ∙ pass p)

-- an error is the same error under any other kind of result
pub Err_any : {X Y : Type 0} (e f : Rejected) → ◌≡◌ {A = Result X Rejected} (Err e) (Err f) → ◌≡◌ {A = Result Y Rejected} (Err e) (Err f)
Err_any {X} e f same = ap (λ (x : Rejected). Err x) (same-error same)
  where
    same-error : ◌≡◌ {A = Result X Rejected} (Err e) (Err f) → e ≡ f
    same-error h = cc

-- what was added as new was not there
pub New-not_There : {E : Type 0} (r : Result Added E) (a : Added) → r ≡ Ok a → a ≡ added.New → r ≡ Ok added.There → ⊥
New-not_There r a is new there = new-or-there (cc)
  where
    new-or-there : added.New ≡ added.There → ⊥
    new-or-there e = cc

-- a list of no length has nothing
pub nothing-in : {X : Type 0} (xs : List X) → (length xs == 0) ≡ true → xs ≡ []
nothing-in [] h = refl
nothing-in (x ∷ xs) h = absurd (omega (arith, eqb-true (length (x ∷ xs)) 0 h))

-- a rule is kept exactly where no fault is found, since what is found refutes it
pub none-kept : {X : Type 0} (Kept : Type 0) (Broken : X → Type 0) (r : Option X) (none : Bool) → is_some r ≡ not none → MatchOption r Kept Broken → ((x : X) → Broken x → Kept → ⊥) → (IsTrue none ↔ Kept)
none-kept Kept Broken None true e kept refutes = (λ _. kept, λ _. refl)
none-kept Kept Broken None false e kept refutes = absurd (false≢true e)
none-kept Kept Broken (Some x) true e broken refutes = absurd (false≢true (sym e))
none-kept Kept Broken (Some x) false e broken refutes = (λ h. absurd (false≢true h), λ kept. absurd (refutes x broken kept))
