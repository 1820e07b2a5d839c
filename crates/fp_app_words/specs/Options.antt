-- Options: words `--NAME VALUE` or `--NAME=VALUE`, and flags, words `--NAME`, in any order, each name
-- at most once; and where there is a place for one, at most one other word among them.
use Rattle.std.specs.Prelude.{ℕ, Bool, true, false, List, [], ◌∷◌, ◌++◌, codes, None, Some, if◌then◌else◌, find, is_some, option_and_then, option_map, slice_get}
use Rattle.std.specs.declared.option.Option.{Option}
use Rattle.std.specs.List.{list_any}
use Rattle.std.specs.Str.{bytes_eq, chars}
use Rattle.clap.specs.Lexer.{long_of, short_of}
use Rattle.fp_app_words.specs.declared.orders.Order.{Order}
use Rattle.fp_app_words.specs.Commands.{is_dashes}
use Rattle.fp_app_words.specs.Settings.{Options, names_of}

-- an option that was given: its name and its value, which for a flag is `true`
abbrev pub Given : Type 0
Given = List ℕ × List ℕ

-- what the next word is: an option, or the value of the option of this name
pub data Role : Type 0 where
  option : Role
  value_of : List ℕ → Role

-- one of the options has this name
abbrev pub is_among : List (List ℕ) → List ℕ → Bool
is_among names name = list_any (λ n. bytes_eq n name) names

-- the option of this name was given
abbrev pub is_given : List Given → List ℕ → Bool
is_given given name = list_any (λ (g : Given). bytes_eq g.0 name) given

-- a value for an option that wasn't given yet
abbrev pub with_value : List Given → List ℕ → List ℕ → Option (List Given)
with_value given name value = if is_given given name then None else Some (given ++ (name, value) ∷ [])

-- a word that is an option, by its name and the value that it has in it
abbrev pub option_at : (names flags : List (List ℕ)) → (Role → List Given → Option (List Given)) → List Given → List ℕ → Option (List ℕ) → Option (List Given)
option_at names flags next given name None =
    if is_among names name then next (value_of name) given
    else if is_among flags name then option_and_then (next option) (with_value given name (codes "true"))
    else None
option_at names flags next given name (Some value) = if is_among names name then option_and_then (next option) (with_value given name value) else None

-- the first character after a hyphen is one
abbrev pub has_first_char : Option (List ℕ) → Bool
has_first_char None = false
has_first_char (Some text) = is_some (slice_get (chars text) 0)

-- the word is `--`, `--x` or `-x`, and so no value
abbrev pub is_option_word : List ℕ → Bool
is_option_word word = if is_dashes word then true else if is_some (long_of word) then true else has_first_char (short_of word)

-- a word that isn't `--NAME`, in the place for one, where there is one: it isn't `--` or `-x`
abbrev pub place_at : Option (List ℕ) → (Role → List Given → Option (List Given)) → List Given → List ℕ → Option (List Given)
place_at None next given word = None
place_at (Some name) next given word = if is_option_word word then None else option_and_then (next option) (with_value given name word)

-- a word that is an option, or one in the place
abbrev pub word_at : Option (List ℕ) → (names flags : List (List ℕ)) → (Role → List Given → Option (List Given)) → List Given → List ℕ → Option (List ℕ × Option (List ℕ)) → Option (List Given)
word_at place names flags next given word None = place_at place next given word
word_at place names flags next given word (Some (name, value)) = option_at names flags next given name value

-- the options that words give, and the word in the place, in their order, if they give options and flags
-- of these names, at most a word in the place and nothing else
abbrev pub options_from : Option (List ℕ) → (names flags : List (List ℕ)) → Role → List Given → List (List ℕ) → Option (List Given)
options_from place names flags option given [] = Some given
options_from place names flags (value_of name) given [] = None
options_from place names flags option given (word ∷ words) = word_at place names flags (λ role more. options_from place names flags role more words) given word (long_of word)
options_from place names flags (value_of name) given (word ∷ words) =
    if is_option_word word then None else option_and_then (λ more. options_from place names flags option more words) (with_value given name word)

abbrev pub options_of : Options → List (List ℕ) → Option (List Given)
options_of options words = options_from options.place (names_of options.settings) options.flags option [] words

-- the value of the option of this name, if it was given
abbrev pub value_given : List Given → List ℕ → Option (List ℕ)
value_given given name = option_map (λ (g : Given). g.1) (find (λ (g : Given). bytes_eq g.0 name) given)

-- what words order by those of these options that they give
abbrev pub by_options : Options → (List Given → Option Order) → List (List ℕ) → Option Order
by_options options order words = option_and_then order (options_of options words)
