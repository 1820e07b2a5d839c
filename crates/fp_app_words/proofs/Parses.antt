-- Any forms, and subcommands that read them.
use Rattle.std.proofs.Common.{◌≡◌, ◌∙◌, ℕ, true, false, List, [], ◌∷◌, refl, sym, ap, inl, inr}
use Rattle.std.specs.Prelude.{Some, None, option_and_then, ◌||◌}
use Rattle.std.specs.List.{list_any}
use Rattle.std.specs.Str.{bytes_eq}
use Rattle.std.proofs.lemmas.Bool.{cases_Bool, or_parts}
use Rattle.std.proofs.lemmas.Slice.Eq.{bytes_eq-Decides}
use Rattle.clap.specs.Walk.{answers_to}
use Rattle.clap.specs.Simple.{Shape, label_of, rows_at}
use Rattle.fp_app_words.specs.declared.orders.Order.{Order}
use Rattle.fp_app_words.specs.Words.{Form, alone, order_by}
use Rattle.fp_app_words.specs.Commands.{bare, entered_order, is_dashes}
use Rattle.fp_app_words.proofs.FirstWords.{entry, entry-named, faults, faults-named, faults-unnamed, named, rest_faults}
use Rattle.fp_app_words.proofs.BareWords.{leaf, rest_faults-none, rest_faults-some}

-- A subcommand reads the words of a form. Words of which one is `--` never come to the parse.
pub record Reads (form : Form) (s : Shape) : Type 0 where
  pub name : s.name ≡ form.name
  pub aliases : s.aliases ≡ []
  pub plain : is_dashes form.name ≡ false
  pub passed : (words : List (List ℕ)) → list_any is_dashes words ≡ false → rest_faults s words ≡ [] → form.order words ≡ entered_order (rows_at s words)
  pub failed : (words : List (List ℕ)) → list_any is_dashes words ≡ false → (rest_faults s words ≡ [] → ⊥) → form.order words ≡ None
  pub dashes : (words : List (List ℕ)) → list_any is_dashes words ≡ true → form.order words ≡ None

-- each subcommand reads the words of the form in its place
abbrev pub AllRead : List Form → List Shape → Type 0
AllRead [] [] = Unit {0}
AllRead (form ∷ forms) (s ∷ subs) = Reads form s × AllRead forms subs
AllRead _ _ = ⊥

-- What a first word chooses: a form and its subcommand, or neither.
pub data Choice (forms : List Form) (subs : List Shape) (word : List ℕ) : Type 0 where
  neither : named word subs ≡ None → ((words : List (List ℕ)) → order_by forms word words ≡ None) → Choice forms subs word
  both : (form : Form) (s : Shape) → named word subs ≡ Some s → s.name ≡ word → Reads form s → ((words : List (List ℕ)) → order_by forms word words ≡ form.order words) → Choice forms subs word

choice-more : (form : Form) (forms : List Form) (s : Shape) (subs : List Shape) (word : List ℕ) → bytes_eq form.name word ≡ false → answers_to word (label_of s) ≡ false → Choice forms subs word
    → Choice (form ∷ forms) (s ∷ subs) word
choice-more form forms s subs word other mute (neither unnamed unread) = neither (rw mute unnamed) (λ words. rw other (unread words))
choice-more form forms s subs word other mute (both f t found same reads first) = both f t (rw mute found) same reads (λ words. rw other (first words))

pub choice : (forms : List Form) (subs : List Shape) (word : List ℕ) → AllRead forms subs → Choice forms subs word
choice [] [] word all = neither refl (λ words. refl)
choice [] (s ∷ subs) word all = absurd all
choice (form ∷ forms) [] word all = absurd all
choice (form ∷ forms) (s ∷ subs) word all =
    elim (cases_Bool (bytes_eq form.name word)) [
      | inl t ↦
          let answers : answers_to word (label_of s) ≡ true = ap (λ (n : List ℕ). bytes_eq n word || list_any (λ alias. bytes_eq alias word) s.aliases) all.0.name ∙ rw t refl in
          both form s (rw answers refl) (all.0.name ∙ (bytes_eq-Decides form.name word).0 t) all.0 (λ words. rw t refl)
      | inr f ↦
          let mute : answers_to word (label_of s) ≡ false = ap (λ (n : List ℕ). bytes_eq n word || list_any (λ alias. bytes_eq alias word) s.aliases) all.0.name ∙ rw (f, all.0.aliases) refl in
          choice-more form forms s subs word f mute (choice forms subs word all.1)
    ]

-- the words from the first on, by what the first chooses
pub passed-choice : (some : List Form) (subs : List Shape) (word : List ℕ) (words : List (List ℕ)) → Choice some subs word → is_dashes word ≡ false → list_any is_dashes words ≡ false
    → faults subs (word ∷ words) ≡ [] → order_by some word words ≡ option_and_then entered_order (entry subs (word ∷ words))
passed-choice some subs word words (neither unnamed unread) plain clean none = absurd (faults-unnamed subs word words unnamed plain none)
passed-choice some subs word words (both form s found same reads first) plain clean none =
    first words ∙ reads.passed words clean (sym (faults-named subs s word found same words) ∙ none) ∙ ap (option_and_then entered_order) (sym (entry-named subs s word found same words))

pub failed-choice : (some : List Form) (subs : List Shape) (word : List ℕ) (words : List (List ℕ)) → Choice some subs word → list_any is_dashes words ≡ false
    → (faults subs (word ∷ words) ≡ [] → ⊥) → order_by some word words ≡ None
failed-choice some subs word words (neither unnamed unread) clean fails = unread words
failed-choice some subs word words (both form s found same reads first) clean fails =
    first words ∙ reads.failed words clean (λ none. fails (faults-named subs s word found same words ∙ none))

-- words of which one is `--`
pub dashes-by : (forms : List Form) (subs : List Shape) (word : List ℕ) (words : List (List ℕ)) → AllRead forms subs → (is_dashes word || list_any is_dashes words) ≡ true → order_by forms word words ≡ None
dashes-by [] [] word words all e = refl
dashes-by [] (s ∷ subs) word words all e = absurd all
dashes-by (form ∷ forms) [] word words all e = absurd all
dashes-by (form ∷ forms) (s ∷ subs) word words all e =
    elim (cases_Bool (bytes_eq form.name word)) [
      | inl t ↦
          let plain : is_dashes word ≡ false = ap is_dashes (sym ((bytes_eq-Decides form.name word).0 t)) ∙ all.0.plain in
          rw t (all.0.dashes words (rw plain at e))
      | inr f ↦ rw f (dashes-by forms subs word words all.1 e)
    ]

-- a command that takes no words, whose subcommand orders it whatever was found
pub alone-reads : (name : List ℕ) (order : Order) → is_dashes name ≡ false → entered_order (rows_at (leaf (bare name)) []) ≡ Some order → Reads (record { name = name; order = alone order }) (leaf (bare name))
alone-reads name order plain gives = record {
  name = refl;
  aliases = refl;
  plain = plain;
  passed = passes;
  failed = fails;
  dashes = refuses;
}
  where
    passes : (words : List (List ℕ)) → list_any is_dashes words ≡ false → rest_faults (leaf (bare name)) words ≡ [] → alone order words ≡ entered_order (rows_at (leaf (bare name)) words)
    passes [] clean none = sym gives
    passes (word ∷ words) clean none = absurd (rest_faults-some name word words (or_parts (is_dashes word) (list_any is_dashes words) clean).0 none)

    fails : (words : List (List ℕ)) → list_any is_dashes words ≡ false → (rest_faults (leaf (bare name)) words ≡ [] → ⊥) → alone order words ≡ None
    fails [] clean some = absurd (some (rest_faults-none name))
    fails (word ∷ words) clean some = refl

    refuses : (words : List (List ℕ)) → list_any is_dashes words ≡ true → alone order words ≡ None
    refuses [] e = cc e
    refuses (word ∷ words) e = refl
