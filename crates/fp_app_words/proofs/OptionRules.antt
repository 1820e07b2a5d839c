-- The rules of options and flags, and of a place that a word may fill: how clap finds them, and what a use
-- of one comes to.
use Rattle.std.proofs.Common.{◌≡◌, ◌∙◌, ℕ, true, false, List, [], ◌∷◌, ◌++◌, map, refl, sym, ap, inl, inr}
use Rattle.std.specs.Prelude.{Option, Some, None, IfSome, codes, not, ◌&&◌}
use Rattle.std.specs.List.{list_any}
use Rattle.std.specs.Str.{bytes_eq}
use Rattle.std.proofs.lemmas.Bool.{cases_Bool}
use Rattle.std.proofs.lemmas.Slice.Eq.{bytes_eq-Decides}
use Rattle.clap.specs.Walk.{Row, Rule, arg_by_id, arg_by_index, arg_by_long, arg_by_short, has_row, used}
use Rattle.clap.specs.Simple.{filled, with_index}
use Rattle.clap.specs.Takes.{is_given as is_used}
use Rattle.clap.specs.Faults.{use_fault}
use Rattle.fp_app_words.specs.Commands.{flag_rule, free_place_rule, option_rule}
use Rattle.fp_app_words.specs.Options.{Given, is_among, is_given}
use Rattle.fp_app_words.proofs.GivenRows.{has_row-rows, rows, with_values-new, without-new}
use Rattle.fp_app_words.proofs.NoDefaults.{NoDefaults}

-- an option with a value and a flag, as they are built
abbrev pub rule : List ℕ → Rule
rule name = with_index 1 (filled (option_rule name))

abbrev pub flag : List ℕ → Rule
flag name = with_index 1 (filled (flag_rule name))

abbrev pub flag_rules : List (List ℕ) → List Rule
flag_rules flags = map flag flags

-- a place that a word may fill, as it is built, where there is one
abbrev pub slot : List ℕ → Rule
slot name = with_index 1 (filled (free_place_rule name))

abbrev pub slots : Option (List ℕ) → List Rule
slots None = []
slots (Some name) = slot name ∷ []

abbrev pub rules : Option (List ℕ) → (names flags : List (List ℕ)) → List Rule
rules place names flags = slots place ++ (map rule names ++ flag_rules flags)

-- no option and no flag is named as the place
abbrev pub IsApart : Option (List ℕ) → (names flags : List (List ℕ)) → Type 0
IsApart place names flags = IfSome place (λ n. (is_among names n ≡ false) × (is_among flags n ≡ false))

same : (a b : List ℕ) → bytes_eq a b ≡ true → a ≡ b
same a b t = (bytes_eq-Decides a b).0 t

-- the option of a name is found by it
by_long-among : (names flags : List (List ℕ)) (name : List ℕ) → is_among names name ≡ true → arg_by_long (rules None names flags) name ≡ Some (rule name)
by_long-among [] flags name e = cc e
by_long-among (n ∷ names) flags name e =
    elim (cases_Bool (bytes_eq n name)) [
      | inl t ↦ rw t (ap (λ (x : List ℕ). Some (rule x)) (same n name t))
      | inr f ↦ rw f (by_long-among names flags name (rw f at e))
    ]

pub arg_by_long-among : (place : Option (List ℕ)) (names flags : List (List ℕ)) (name : List ℕ) → is_among names name ≡ true → arg_by_long (rules place names flags) name ≡ Some (rule name)
arg_by_long-among None names flags name e = by_long-among names flags name e
arg_by_long-among (Some at) names flags name e = by_long-among names flags name e

by_id-among : (names flags : List (List ℕ)) (name : List ℕ) → is_among names name ≡ true → arg_by_id (rules None names flags) name ≡ Some (rule name)
by_id-among [] flags name e = cc e
by_id-among (n ∷ names) flags name e =
    elim (cases_Bool (bytes_eq n name)) [
      | inl t ↦ rw t (ap (λ (x : List ℕ). Some (rule x)) (same n name t))
      | inr f ↦ rw f (by_id-among names flags name (rw f at e))
    ]

-- names of which one is among some and the other isn't differ
pub differs-among : (names : List (List ℕ)) (at name : List ℕ) → is_among names at ≡ false → is_among names name ≡ true → bytes_eq at name ≡ false
differs-among names at name out in_names =
    elim (cases_Bool (bytes_eq at name)) [
      | inl t ↦ let g = ap (is_among names) (same at name t) in let h = sym out ∙ g ∙ in_names in cc h
      | inr f ↦ f
    ]

pub arg_by_id-among : (place : Option (List ℕ)) (names flags : List (List ℕ)) (name : List ℕ) → IsApart place names flags → is_among names name ≡ true → arg_by_id (rules place names flags) name ≡ Some (rule name)
arg_by_id-among None names flags name apart e = by_id-among names flags name e
arg_by_id-among (Some at) names flags name apart e = rw (differs-among names at name apart.0 e) (by_id-among names flags name e)

-- the flag of a name too, where no option with a value has it
by_long-flag : (names flags : List (List ℕ)) (name : List ℕ) → is_among names name ≡ false → is_among flags name ≡ true → arg_by_long (rules None names flags) name ≡ Some (flag name)
by_long-flag [] [] name u e = cc e
by_long-flag [] (n ∷ flags) name u e =
    elim (cases_Bool (bytes_eq n name)) [
      | inl t ↦ rw t (ap (λ (x : List ℕ). Some (flag x)) (same n name t))
      | inr f ↦ rw f (by_long-flag [] flags name u (rw f at e))
    ]
by_long-flag (n ∷ names) flags name u e =
    elim (cases_Bool (bytes_eq n name)) [
      | inl t ↦ let g = rw t at u in cc g
      | inr f ↦ rw f (by_long-flag names flags name (rw f at u) e)
    ]

pub arg_by_long-flag : (place : Option (List ℕ)) (names flags : List (List ℕ)) (name : List ℕ) → is_among names name ≡ false → is_among flags name ≡ true → arg_by_long (rules place names flags) name ≡ Some (flag name)
arg_by_long-flag None names flags name u e = by_long-flag names flags name u e
arg_by_long-flag (Some at) names flags name u e = by_long-flag names flags name u e

by_long-unknown : (names flags : List (List ℕ)) (name : List ℕ) → is_among names name ≡ false → is_among flags name ≡ false → arg_by_long (rules None names flags) name ≡ None
by_long-unknown [] [] name u e = refl
by_long-unknown [] (n ∷ flags) name u e =
    elim (cases_Bool (bytes_eq n name)) [
      | inl t ↦ let g = rw t at e in cc g
      | inr f ↦ rw f (by_long-unknown [] flags name u (rw f at e))
    ]
by_long-unknown (n ∷ names) flags name u e =
    elim (cases_Bool (bytes_eq n name)) [
      | inl t ↦ let g = rw t at u in cc g
      | inr f ↦ rw f (by_long-unknown names flags name (rw f at u) e)
    ]

pub arg_by_long-unknown : (place : Option (List ℕ)) (names flags : List (List ℕ)) (name : List ℕ) → is_among names name ≡ false → is_among flags name ≡ false → arg_by_long (rules place names flags) name ≡ None
arg_by_long-unknown None names flags name u e = by_long-unknown names flags name u e
arg_by_long-unknown (Some at) names flags name u e = by_long-unknown names flags name u e

-- none has a short name
by_short-none : (names flags : List (List ℕ)) (x : ℕ) → arg_by_short (rules None names flags) x ≡ None
by_short-none [] [] x = refl
by_short-none [] (n ∷ flags) x = by_short-none [] flags x
by_short-none (n ∷ names) flags x = by_short-none names flags x

pub arg_by_short-none : (place : Option (List ℕ)) (names flags : List (List ℕ)) (x : ℕ) → arg_by_short (rules place names flags) x ≡ None
arg_by_short-none None names flags x = by_short-none names flags x
arg_by_short-none (Some at) names flags x = by_short-none names flags x

-- and no option has a place
pub arg_by_index-none : (names flags : List (List ℕ)) (i : ℕ) → arg_by_index (rules None names flags) i ≡ None
arg_by_index-none [] [] i = refl
arg_by_index-none [] (n ∷ flags) i = arg_by_index-none [] flags i
arg_by_index-none (n ∷ names) flags i = arg_by_index-none names flags i

-- the one place is the first
pub arg_by_index-first : (at : List ℕ) (names flags : List (List ℕ)) → arg_by_index (rules (Some at) names flags) 1 ≡ Some (slot at)
arg_by_index-first at names flags = refl

pub arg_by_index-second : (at : List ℕ) (names flags : List (List ℕ)) → arg_by_index (rules (Some at) names flags) 2 ≡ None
arg_by_index-second at names flags = arg_by_index-none names flags 2

-- a first use of an option
pub use_fault-new : (given : List Given) (name value : List ℕ) → is_given given name ≡ false → use_fault false (rule name) (value ∷ []) (rows given) ≡ []
use_fault-new given name value e = let new : has_row name (rows given) ≡ false = has_row-rows given name ∙ e in rw new refl

pub used-new : (given : List Given) (name value : List ℕ) → is_given given name ≡ false → used (rule name) (value ∷ []) (rows given) ≡ rows (given ++ (name, value) ∷ [])
used-new given name value e = rw (without-new given name e) (with_values-new given name value e)

-- a second one
pub use_fault-old : (given : List Given) (name value : List ℕ) → is_given given name ≡ true → use_fault false (rule name) (value ∷ []) (rows given) ≡ [] → ⊥
use_fault-old given name value e f = let old : has_row name (rows given) ≡ true = has_row-rows given name ∙ e in let g = rw old at f in cc g

-- the same of a flag
pub flag_fault-new : (given : List Given) (name : List ℕ) → is_given given name ≡ false → use_fault false (flag name) [] (rows given) ≡ []
flag_fault-new given name e = let new : has_row name (rows given) ≡ false = has_row-rows given name ∙ e in rw new refl

pub flag_used-new : (given : List Given) (name : List ℕ) → is_given given name ≡ false → used (flag name) [] (rows given) ≡ rows (given ++ (name, codes "true") ∷ [])
flag_used-new given name e = rw (without-new given name e) (with_values-new given name (codes "true") e)

pub flag_fault-old : (given : List Given) (name : List ℕ) → is_given given name ≡ true → use_fault false (flag name) [] (rows given) ≡ [] → ⊥
flag_fault-old given name e f = let old : has_row name (rows given) ≡ true = has_row-rows given name ∙ e in let g = rw old at f in cc g

-- options with values have no defaults
pub options-no_defaults : (names : List (List ℕ)) → NoDefaults (map rule names)
options-no_defaults [] = tt
options-no_defaults (name ∷ names) = (refl, options-no_defaults names)

-- nor has the place
pub slots-no_defaults : (place : Option (List ℕ)) → NoDefaults (slots place)
slots-no_defaults None = tt
slots-no_defaults (Some at) = (refl, tt)

-- and none is required
none-required : (found : List Row) (names flags : List (List ℕ)) → list_any (λ (a : Rule). a.required && not (is_used a.id found)) (rules None names flags) ≡ false
none-required found [] [] = refl
none-required found [] (name ∷ flags) = none-required found [] flags
none-required found (name ∷ names) flags = none-required found names flags

pub required-none : (found : List Row) (place : Option (List ℕ)) (names flags : List (List ℕ)) → list_any (λ (a : Rule). a.required && not (is_used a.id found)) (rules place names flags) ≡ false
required-none found None names flags = none-required found names flags
required-none found (Some at) names flags = none-required found names flags
