-- What clap makes of the words after a subcommand that takes none.
use Rattle.std.proofs.Common.{◌≡◌, ℕ, false, List, [], ◌∷◌, refl}
use Rattle.std.specs.Prelude.{Option, Some, None, codes, slice_get}
use Rattle.std.specs.Str.{bytes_eq, chars}
use Rattle.clap.specs.Lexer.{long_of, short_of}
use Rattle.clap.specs.Kinds.{Kinds}
use Rattle.clap.specs.Walk.{bundle_met, nothing_held, walk_from}
use Rattle.clap.specs.Simple.{Shape, built_leaf, inherited}
use Rattle.clap.specs.Faults.{defaults_fault, flags_fault, turn_fault, walk_fault}
use Rattle.fp_app_words.specs.Commands.{above, bare}
use Rattle.fp_app_words.proofs.FirstWords.{or_else-left, rest_faults}

-- a subcommand as it is built under the command
abbrev pub leaf : Shape → Shape
leaf s = built_leaf (inherited (above []).top s)

-- no words
pub rest_faults-none : (name : List ℕ) → rest_faults (leaf (bare name)) [] ≡ []
unfolding walk_fault defaults_fault
rest_faults-none name = refl

module _ (name word : List ℕ) (plain : bytes_eq word (codes "--") ≡ false) where
  abbrev turn : Kinds
  turn = turn_fault (leaf (bare name)) [] (walk_from nothing_held) word

  turn-flags : (flags : List ℕ) (c : Option ℕ) → long_of word ≡ None → short_of word ≡ Some flags → slice_get (chars flags) 0 ≡ c → turn ≡ [] → ⊥
  unfolding flags_fault bundle_met
  turn-flags [] c l s e f = let g = rw (plain, l, s) at f in cc g
  turn-flags (x ∷ xs) None l s e f = let g = rw (plain, l, s, e) at f in cc g
  turn-flags (x ∷ xs) (Some y) l s e f = let g = rw (plain, l, s, e) at f in cc g

  turn-short : (t : Option (List ℕ)) → long_of word ≡ None → short_of word ≡ t → turn ≡ [] → ⊥
  turn-short None l s f = let g = rw (plain, l, s) at f in cc g
  turn-short (Some flags) l s f = turn-flags flags _ l s refl f

  turn-long : (t : Option (List ℕ × Option (List ℕ))) → long_of word ≡ t → turn ≡ [] → ⊥
  turn-long None l f = turn-short (short_of word) l refl f
  turn-long (Some (long, v)) l f = let g = rw (plain, l) at f in cc g

-- a word
pub rest_faults-some : (name word : List ℕ) (words : List (List ℕ)) → bytes_eq word (codes "--") ≡ false → rest_faults (leaf (bare name)) (word ∷ words) ≡ [] → ⊥
unfolding walk_fault
rest_faults-some name word words plain f = turn-long name word plain (long_of word) refl (or_else-left _ _ (or_else-left _ _ f))
