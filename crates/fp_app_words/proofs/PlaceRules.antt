-- The rules of places: how clap finds them, and which are missing.
use Rattle.std.proofs.Common.{◌≡◌, ◌∙◌, ℕ, Bool, true, false, List, [], ◌∷◌, refl, ap, inl, inr}
use Rattle.std.specs.Prelude.{None, ◌+◌, min, not, ◌&&◌}
use Rattle.std.specs.List.{list_any}
use Rattle.std.specs.Str.{bytes_eq}
use Rattle.std.proofs.lemmas.Bool.{cases_Bool}
use Rattle.std.proofs.lemmas.Slice.Eq.{bytes_eq-Decides}
use Rattle.std.proofs.Math.Bool.{or-true}
use Rattle.clap.specs.Lexer.{usize_max}
use Rattle.clap.specs.Walk.{Rule, arg_by_long, arg_by_short}
use Rattle.clap.specs.Simple.{filled, with_index}
use Rattle.clap.specs.Takes.{is_given as is_used}
use Rattle.fp_app_words.specs.Commands.{place_rule}
use Rattle.fp_app_words.specs.Options.{Given, is_among, is_given}
use Rattle.fp_app_words.proofs.GivenRows.{is_used-rows, rows}
use Rattle.fp_app_words.proofs.NoDefaults.{NoDefaults}

-- the place of this number as it is built, and the number of the next one
abbrev pub place : ℕ → List ℕ → Rule
place k name = with_index k (filled (place_rule name))

abbrev pub after : ℕ → ℕ
after k = min (k + 1) usize_max

-- places as they are built, from this number on
abbrev pub places : ℕ → List (List ℕ) → List Rule
places k [] = []
places k (name ∷ names) = place k name ∷ places (after k) names

pub places-no_defaults : (k : ℕ) (names : List (List ℕ)) → NoDefaults (places k names)
places-no_defaults k [] = tt
places-no_defaults k (name ∷ names) = (refl, places-no_defaults (after k) names)

-- no place is an option
pub arg_by_long-places : (k : ℕ) (names : List (List ℕ)) (name : List ℕ) → arg_by_long (places k names) name ≡ None
arg_by_long-places k [] name = refl
arg_by_long-places k (n ∷ names) name = arg_by_long-places (after k) names name

pub arg_by_short-places : (k : ℕ) (names : List (List ℕ)) (x : ℕ) → arg_by_short (places k names) x ≡ None
arg_by_short-places k [] x = refl
arg_by_short-places k (n ∷ names) x = arg_by_short-places (after k) names x

-- whether clap misses one of the places
abbrev pub misses : List Rule → List Given → Bool
misses rules given = list_any (λ (a : Rule). a.required && not (is_used a.id (rows given))) rules

pub misses-none : (k : ℕ) (names : List (List ℕ)) (given : List Given) → ((name : List ℕ) → is_among names name ≡ true → is_given given name ≡ true) → misses (places k names) given ≡ false
misses-none k [] given all = refl
misses-none k (n ∷ names) given all =
    let itself : bytes_eq n n ≡ true = (bytes_eq-Decides n n).1 refl in
    let used : is_used n (rows given) ≡ true = is_used-rows given n ∙ all n (rw itself refl) in
    rw used (misses-none (after k) names given (λ name among. all name (rw among (or-true (bytes_eq n name)))))

pub misses-some : (k : ℕ) (names : List (List ℕ)) (given : List Given) (name : List ℕ) → is_among names name ≡ true → is_given given name ≡ false → misses (places k names) given ≡ true
misses-some k [] given name among new = cc among
misses-some k (n ∷ names) given name among new =
    elim (cases_Bool (bytes_eq n name)) [
      | inl t ↦
          let unused : is_used n (rows given) ≡ false = is_used-rows given n ∙ ap (is_given given) ((bytes_eq-Decides n name).0 t) ∙ new in
          rw unused refl
      | inr f ↦ rw (misses-some (after k) names given name (rw f at among) new) (or-true (not (is_used n (rows given))))
    ]
