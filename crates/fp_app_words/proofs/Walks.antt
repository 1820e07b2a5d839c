-- What clap's walk over the words after a subcommand's name comes to, against what the words give.
use Rattle.std.proofs.Common.{◌≡◌, ◌∙◌, ℕ, false, List, [], ◌∷◌, refl, sym, ap}
use Rattle.std.specs.Prelude.{Option, Some, None, fold}
use Rattle.clap.specs.Kinds.{Kinds, or_else}
use Rattle.clap.specs.Walk.{Held, Row, Waiting, Walk, finished, settled, walked}
use Rattle.clap.specs.Simple.{Shape}
use Rattle.clap.specs.Faults.{check_fault, defaults_fault, settle_fault, turn_fault, walk_fault}
use Rattle.fp_app_words.specs.Options.{Given}
use Rattle.fp_app_words.proofs.FirstWords.{or_else-left}
use Rattle.fp_app_words.proofs.GivenRows.{rows}

-- a state between two words
abbrev pub held : List Row → Option (List ℕ × List (List ℕ)) → Held
held found pending = record { rows = found; pending = pending; skip = 0 }

abbrev pub state_at : ℕ → List Row → Option (List ℕ × List (List ℕ)) → Waiting → Walk
state_at position found pending waiting = record { held = held found pending; waiting = waiting; position = position; is_trailing = false; stopped = None }

module _ (s : Shape) where
  abbrev pub turn : Walk → List ℕ → Kinds
  turn w word = turn_fault s [] w word

  -- the faults of the rest of the words, and what is held at their end
  abbrev pub end_fault : Held → Kinds
  end_fault h = or_else (settle_fault s.rules s.args_override_self h) (or_else (defaults_fault (settled s.rules h).rows s.rules) (check_fault s (finished s.rules h) false))

  abbrev pub end_of : Walk → List (List ℕ) → Held
  end_of w words = (fold (walked s.rules []) w words).held

  abbrev pub tail_fault : Walk → List (List ℕ) → Kinds
  tail_fault w words = or_else (walk_fault s [] w words) (end_fault (end_of w words))

  -- the walk fails where the words give nothing that the subcommand takes, and else finds what they give, before any
  -- default
  abbrev pub Agrees : Option (List Given) → Walk → List (List ℕ) → Type 0
  Agrees None w words = tail_fault w words ≡ [] → ⊥
  Agrees (Some given) w words = (tail_fault w words ≡ []) × ((settled s.rules (end_of w words)).rows ≡ rows given)

  pub agrees-skip : (o : Option (List Given)) (a b : Walk) (word : List ℕ) (words : List (List ℕ)) → turn a word ≡ [] → walked s.rules [] a word ≡ b → Agrees o b words → Agrees o a (word ∷ words)
  unfolding walk_fault
  agrees-skip None a b word words t e h =
      let same : tail_fault a (word ∷ words) ≡ tail_fault (walked s.rules [] a word) words = rw t refl in
      λ f. h (sym (ap (λ (w : Walk). tail_fault w words) e) ∙ sym same ∙ f)
  agrees-skip (Some given) a b word words t e h =
      let same : tail_fault a (word ∷ words) ≡ tail_fault (walked s.rules [] a word) words = rw t refl in
      (same ∙ ap (λ (w : Walk). tail_fault w words) e ∙ h.0, ap (λ (w : Walk). (settled s.rules (end_of w words)).rows) e ∙ h.1)

  pub agrees-stop : (a : Walk) (word : List ℕ) (words : List (List ℕ)) → (turn a word ≡ [] → ⊥) → Agrees None a (word ∷ words)
  unfolding walk_fault
  agrees-stop a word words fails = λ f. fails (or_else-left _ _ (or_else-left _ _ f))
