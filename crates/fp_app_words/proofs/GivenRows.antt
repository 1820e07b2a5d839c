-- The rows of what words gave, before any default.
use Rattle.std.proofs.Common.{◌≡◌, ℕ, Bool, false, List, [], ◌∷◌, ◌++◌, map, refl, ap, inl, inr}
use Rattle.std.specs.Prelude.{Some, None, ◌||◌}
use Rattle.std.specs.Str.{bytes_eq}
use Rattle.std.proofs.lemmas.Bool.{cases_Bool, or_parts}
use Rattle.clap.specs.Walk.{Row, first_of, has_row, reading_by, with_values, without}
use Rattle.clap.specs.Simple.{new_rule}
use Rattle.clap.specs.Takes.{is_given as is_used}
use Rattle.clap.specs.declared.parser.matches.ValueSource.TheVariants.{CommandLine}
use Rattle.fp_app_words.specs.Commands.{was_given}
use Rattle.fp_app_words.specs.Options.{Given, is_given, value_given}

-- the row of what was given
abbrev pub row : Given → Row
row g = record { id = g.0; values = g.1 ∷ []; count = None; source = Some CommandLine; reading = reading_by (new_rule g.0) }

abbrev pub rows : List Given → List Row
rows given = map row given

pub has_row-rows : (given : List Given) (name : List ℕ) → has_row name (rows given) ≡ is_given given name
has_row-rows [] name = refl
has_row-rows (g ∷ given) name = ap (λ (b : Bool). bytes_eq g.0 name || b) (has_row-rows given name)

pub without-new : (given : List Given) (name : List ℕ) → is_given given name ≡ false → without name (rows given) ≡ rows given
without-new [] name e = refl
without-new (g ∷ given) name e =
    let parts = or_parts (bytes_eq g.0 name) (is_given given name) e in
    rw parts.0 (ap (λ (rs : List Row). row g ∷ rs) (without-new given name parts.1))

pub with_values-new : (given : List Given) (name value : List ℕ) → is_given given name ≡ false →
    with_values name (reading_by (new_rule name)) CommandLine (value ∷ []) (rows given) ≡ rows (given ++ (name, value) ∷ [])
with_values-new [] name value e = refl
with_values-new (g ∷ given) name value e =
    let parts = or_parts (bytes_eq g.0 name) (is_given given name) e in
    rw parts.0 (ap (λ (rs : List Row). row g ∷ rs) (with_values-new given name value parts.1))

-- what was given counts as used
pub is_used-rows : (given : List Given) (name : List ℕ) → is_used name (rows given) ≡ is_given given name
is_used-rows [] name = refl
is_used-rows (g ∷ given) name =
    elim (cases_Bool (bytes_eq g.0 name)) [
      | inl t ↦ rw t refl
      | inr f ↦ rw f (is_used-rows given name)
    ]

-- and as given by the words
pub was_given-rows : (given : List Given) (name : List ℕ) → was_given name (rows given) ≡ is_given given name
was_given-rows [] name = refl
was_given-rows (g ∷ given) name =
    elim (cases_Bool (bytes_eq g.0 name)) [
      | inl t ↦ rw t refl
      | inr f ↦ rw f (was_given-rows given name)
    ]

-- the value of what was given is that in its row
pub first_of-rows : (given : List Given) (name : List ℕ) → first_of name (rows given) ≡ value_given given name
first_of-rows [] name = refl
first_of-rows (g ∷ given) name =
    elim (cases_Bool (bytes_eq g.0 name)) [
      | inl t ↦ rw t refl
      | inr f ↦ rw f (first_of-rows given name)
    ]
