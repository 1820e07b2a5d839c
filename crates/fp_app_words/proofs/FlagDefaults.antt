-- The defaults of flags: a flag that wasn't given gets a row, which no one takes for the words'.
use Rattle.std.proofs.Common.{◌≡◌, ◌∙◌, ℕ, false, List, [], ◌∷◌, ◌++◌, map, refl, ap₂, inl, inr}
use Rattle.std.specs.Prelude.{Option, codes, fold}
use Rattle.std.specs.Str.{bytes_eq}
use Rattle.std.proofs.lemmas.Bool.{cases_Bool, or_parts}
use Rattle.clap.specs.Kinds.{or_else}
use Rattle.clap.specs.Walk.{Row, default_rows, first_of, has_row, reading_by, with_default}
use Rattle.clap.specs.Faults.{default_fault, defaults_fault}
use Rattle.fp_app_words.specs.Commands.{was_given}
use Rattle.fp_app_words.specs.Options.{Given, is_among, is_given, value_given}
use Rattle.fp_app_words.proofs.GivenRows.{first_of-rows, rows, was_given-rows}
use Rattle.fp_app_words.proofs.NoDefaults.{defaults_fault-more}
use Rattle.fp_app_words.proofs.OptionRules.{flag, flag_rules, options-no_defaults, rule, rules, slots, slots-no_defaults}

-- a default is a good value
fault-one : (found : List Row) (name : List ℕ) → default_fault found (flag name) ≡ []
fault-one found name =
    elim (cases_Bool (has_row name found)) [
      | inl t ↦ rw t refl
      | inr f ↦ rw f refl
    ]

fault-flags : (found : List Row) (flags : List (List ℕ)) → defaults_fault found (flag_rules flags) ≡ []
unfolding defaults_fault
fault-flags found [] = refl
fault-flags found (name ∷ flags) = ap₂ or_else (fault-one found name) (fault-flags (with_default found (flag name)) flags)

pub defaults_fault-rules : (found : List Row) (place : Option (List ℕ)) (names flags : List (List ℕ)) → defaults_fault found (rules place names flags) ≡ []
defaults_fault-rules found place names flags =
    defaults_fault-more found (slots place) (map rule names ++ flag_rules flags) (slots-no_defaults place)
    ∙ defaults_fault-more found (map rule names) (flag_rules flags) (options-no_defaults names) ∙ fault-flags found flags

-- the rows where a flag of this name gets its default
abbrev off : List ℕ → List Row → List Row
off name found = default_rows name (reading_by (flag name)) (codes "false" ∷ []) found

first_of-off : (found : List Row) (name other : List ℕ) → has_row name found ≡ false → bytes_eq name other ≡ false → first_of other (off name found) ≡ first_of other found
first_of-off [] name other new differs = rw differs refl
first_of-off (r ∷ found) name other new differs =
    let parts = or_parts (bytes_eq r.id name) (has_row name found) new in
    elim (cases_Bool (bytes_eq r.id other)) [
      | inl t ↦ rw (parts.0, t) refl
      | inr f ↦ rw (parts.0, f) (first_of-off found name other parts.1 differs)
    ]

was_given-off : (found : List Row) (name other : List ℕ) → has_row name found ≡ false → was_given other (off name found) ≡ was_given other found
was_given-off [] name other new =
    elim (cases_Bool (bytes_eq name other)) [
      | inl t ↦ rw t refl
      | inr f ↦ rw f refl
    ]
was_given-off (r ∷ found) name other new =
    let parts = or_parts (bytes_eq r.id name) (has_row name found) new in
    elim (cases_Bool (bytes_eq r.id other)) [
      | inl t ↦ rw (parts.0, t) refl
      | inr f ↦ rw (parts.0, f) (was_given-off found name other parts.1)
    ]

first_of-one : (found : List Row) (name other : List ℕ) → bytes_eq name other ≡ false → first_of other (with_default found (flag name)) ≡ first_of other found
first_of-one found name other differs =
    elim (cases_Bool (has_row name found)) [
      | inl t ↦ rw t refl
      | inr f ↦ rw f (first_of-off found name other f differs)
    ]

was_given-one : (found : List Row) (name other : List ℕ) → was_given other (with_default found (flag name)) ≡ was_given other found
was_given-one found name other =
    elim (cases_Bool (has_row name found)) [
      | inl t ↦ rw t refl
      | inr f ↦ rw f (was_given-off found name other f)
    ]

first_of-flags : (found : List Row) (flags : List (List ℕ)) (other : List ℕ) → is_among flags other ≡ false → first_of other (fold with_default found (flag_rules flags)) ≡ first_of other found
first_of-flags found [] other unlike = refl
first_of-flags found (name ∷ flags) other unlike =
    let parts = or_parts (bytes_eq name other) (is_among flags other) unlike in
    first_of-flags (with_default found (flag name)) flags other parts.1 ∙ first_of-one found name other parts.0

was_given-flags : (found : List Row) (flags : List (List ℕ)) (other : List ℕ) → was_given other (fold with_default found (flag_rules flags)) ≡ was_given other found
was_given-flags found [] other = refl
was_given-flags found (name ∷ flags) other = was_given-flags (with_default found (flag name)) flags other ∙ was_given-one found name other

-- What a parse finds where this was given: its rows, and those of the flags that weren't.
abbrev pub all_rows : List (List ℕ) → List Given → List Row
all_rows flags given = fold with_default (rows given) (flag_rules flags)

-- in which an option with a value, which no flag is named as, has the value that was given
pub first_of-all_rows : (flags : List (List ℕ)) (given : List Given) (name : List ℕ) → is_among flags name ≡ false → first_of name (all_rows flags given) ≡ value_given given name
first_of-all_rows flags given name unlike = first_of-flags (rows given) flags name unlike ∙ first_of-rows given name

-- and what was given is told from what wasn't
pub was_given-all_rows : (flags : List (List ℕ)) (given : List Given) (name : List ℕ) → was_given name (all_rows flags given) ≡ is_given given name
was_given-all_rows flags given name = was_given-flags (rows given) flags name ∙ was_given-rows given name
