-- Arguments without defaults: nothing is filled in for them after the words.
use Rattle.std.proofs.Common.{◌≡◌, ◌∙◌, List, [], ◌∷◌, ◌++◌, refl, ap, sym, inl, inr}
use Rattle.std.specs.Prelude.{fold}
use Rattle.std.proofs.lemmas.Bool.{cases_Bool}
use Rattle.std.proofs.lemmas.List.{append-nil}
use Rattle.clap.specs.Walk.{Row, Rule, has_row, with_default}
use Rattle.clap.specs.Faults.{defaults_fault}

abbrev pub NoDefaults : List Rule → Type 0
NoDefaults [] = Unit {0}
NoDefaults (a ∷ rules) = (a.defaults ≡ []) × NoDefaults rules

with_default-none : (found : List Row) (a : Rule) → a.defaults ≡ [] → with_default found a ≡ found
with_default-none found a none =
    elim (cases_Bool (has_row a.id found)) [
      | inl t ↦ rw t refl
      | inr f ↦ rw (f, none) refl
    ]

-- before others
pub fold-with_default-more : (found : List Row) (rules more : List Rule) → NoDefaults rules → fold with_default found (rules ++ more) ≡ fold with_default found more
fold-with_default-more found [] more none = refl
fold-with_default-more found (a ∷ rules) more none = ap (λ (r : List Row). fold with_default r (rules ++ more)) (with_default-none found a none.0) ∙ fold-with_default-more found rules more none.1

pub defaults_fault-more : (found : List Row) (rules more : List Rule) → NoDefaults rules → defaults_fault found (rules ++ more) ≡ defaults_fault found more
unfolding defaults_fault
defaults_fault-more found [] more none = refl
defaults_fault-more found (a ∷ rules) more none =
    elim (cases_Bool (has_row a.id found)) [
      | inl t ↦ rw (with_default-none found a none.0, t) (defaults_fault-more found rules more none.1)
      | inr f ↦ rw (with_default-none found a none.0, f, none.0) (defaults_fault-more found rules more none.1)
    ]

-- alone
pub fold-with_default : (found : List Row) (rules : List Rule) → NoDefaults rules → fold with_default found rules ≡ found
fold-with_default found rules none = ap (fold with_default found) (sym (append-nil rules)) ∙ fold-with_default-more found rules [] none

pub defaults_fault-none : (found : List Row) (rules : List Rule) → NoDefaults rules → defaults_fault found rules ≡ []
unfolding defaults_fault
defaults_fault-none found rules none = ap (defaults_fault found) (sym (append-nil rules)) ∙ defaults_fault-more found rules [] none
