-- A word that is no option goes to the place of its number, whatever rules there are.
use Rattle.std.proofs.Common.{◌≡◌, ℕ, false, List, [], ◌∷◌, refl, inl, inr}
use Rattle.std.specs.Prelude.{Option, Some, None, slice_get}
use Rattle.std.specs.Str.{chars}
use Rattle.std.proofs.lemmas.Bool.{cases_Bool}
use Rattle.clap.specs.Lexer.{long_of, short_of}
use Rattle.clap.specs.Walk.{Row, Rule, arg_by_index, bundle_met, idle, to_positional, value, walked}
use Rattle.clap.specs.Simple.{Shape}
use Rattle.clap.specs.Faults.{flags_fault, step_fault}
use Rattle.fp_app_words.specs.Commands.{bare, is_dashes}
use Rattle.fp_app_words.specs.Options.{is_option_word}
use Rattle.fp_app_words.proofs.BareWords.{leaf}
use Rattle.fp_app_words.proofs.Walks.{held, state_at, turn}

pub is_dashes-plain : (word : List ℕ) → is_option_word word ≡ false → is_dashes word ≡ false
is_dashes-plain word plain =
    elim (cases_Bool (is_dashes word)) [
      | inl t ↦ let g = rw t at plain in cc g
      | inr f ↦ f
    ]

module _ (command : List ℕ) (all : List Rule) where
  abbrev here : Shape
  here = record (leaf (bare command)) { rules = all }

  pub record Goes (k : ℕ) (found : List Row) (p : Option (List ℕ × List (List ℕ))) (word : List ℕ) : Type 0 where
    pub fault : turn here (state_at k found p idle) word ≡ step_fault here k (held found p) value
    pub next : walked all [] (state_at k found p idle) word ≡ to_positional all (arg_by_index all k) word (state_at k found p idle) (held found p)

  goes-flags : (k : ℕ) (found : List Row) (p : Option (List ℕ × List (List ℕ))) (word flags : List ℕ) (c : Option ℕ) → is_option_word word ≡ false → is_dashes word ≡ false → long_of word ≡ None → short_of word ≡ Some flags → slice_get (chars flags) 0 ≡ c →
      Goes k found p word
  unfolding walked flags_fault bundle_met chars
  goes-flags k found p word [] None plain d l s e = record { fault = rw (d, l, s) refl; next = rw (d, l, s) refl }
  goes-flags k found p word [] (Some y) plain d l s e = cc e
  goes-flags k found p word (x ∷ xs) None plain d l s e = record { fault = rw (d, l, s, e) refl; next = rw (d, l, s, e) refl }
  goes-flags k found p word (x ∷ xs) (Some y) plain d l s e = let g = rw (d, l, s, e) at plain in cc g

  goes-short : (k : ℕ) (found : List Row) (p : Option (List ℕ × List (List ℕ))) (word : List ℕ) (t : Option (List ℕ)) → is_option_word word ≡ false → is_dashes word ≡ false → long_of word ≡ None → short_of word ≡ t → Goes k found p word
  unfolding walked
  goes-short k found p word None plain d l s = record { fault = rw (d, l, s) refl; next = rw (d, l, s) refl }
  goes-short k found p word (Some flags) plain d l s = goes-flags k found p word flags _ plain d l s refl

  pub goes : (k : ℕ) (found : List Row) (p : Option (List ℕ × List (List ℕ))) (word : List ℕ) (t : Option (List ℕ × Option (List ℕ))) → is_option_word word ≡ false → long_of word ≡ t → Goes k found p word
  goes k found p word None plain l = goes-short k found p word (short_of word) plain (is_dashes-plain word plain) l refl
  goes k found p word (Some v) plain l = let g = rw (is_dashes-plain word plain, l) at plain in cc g
