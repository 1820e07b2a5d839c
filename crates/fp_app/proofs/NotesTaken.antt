-- What a sink took of the notes on a search, look by look.
use Rattle.std.proofs.Common.{◌≡◌, ◌∙◌, ℕ, ◌+◌, Bool, true, false, List, [], ◌∷◌, ◌++◌, length, take, refl, sym, ap, subst, inl, inr, length-append, arith}
use Rattle.std.specs.Prelude.{MatchBool, None, Option, Some}
use Rattle.std.specs.Io.KnownBytes.{Appends}
use Rattle.std.proofs.Math.Seq.{drop-append_seam, take-append-add, take-append_seam, take-length}
use Rattle.std.proofs.lemmas.Bool.{false≢true}
use Rattle.std.proofs.lemmas.List.{append-nil}
use Rattle.fp_ends.specs.Moves.{AppendsFront}
use Rattle.fp_ends.proofs.KnownBytes.{Appends_more}
use Rattle.fp_model.specs.Problem.{Problem}
use Rattle.fp_flatnet.specs.Tables.{WindowTable}
use Rattle.fp_app_words.specs.declared.orders.Order.{Order}
use Rattle.fp_app_words.specs.declared.orders.Order.TheVariants as order
use Rattle.fp_app.specs.declared.notes.Figures.{Figures}
use Rattle.fp_app.specs.declared.notes.Noted.{Noted}
use Rattle.fp_app.specs.Notes.{HasNoted, HasTold, IsClosed, IsLook, IsNoWorse, IsNoteText, IsQuiet, MayNote, Note, NotesOf, TookNotes, figures_of, newest}

-- known bytes grow by nothing
Appends-nothing : (known : Option (List ℕ)) → Appends known known []
Appends-nothing None = tt
Appends-nothing (Some xs) = sym (append-nil xs)

-- and by a text and a front of another after it
Appends-front : (a b c : Option (List ℕ)) (n : ℕ) (text own : List ℕ) → Appends a b text → Appends b c (take n own) → Appends a c (take (length text + n) (text ++ own))
Appends-front a b c n text own first second =
    Appends_more a b c (length text) n (text ++ own) (subst (Appends a b) (sym (take-append_seam text own)) first)
    (subst (Appends b c) (sym (ap (λ (t : List ℕ). take n t) (drop-append_seam text own))) second)

-- the whole of a text is a front of it
whole-front : (a b : Option (List ℕ)) (text : List ℕ) → Appends a b text → AppendsFront a b text
whole-front a b text is = (length text, omega arith, subst (Appends a b) (sym (take-length text)) is)

-- so is a text and a front of another after it
front-after : (a b c : Option (List ℕ)) (text own : List ℕ) → Appends a b text → AppendsFront b c own → AppendsFront a c (text ++ own)
front-after a b c text own first (n, le, second) = (length text + n, omega (arith, le, length-append text own), Appends-front a b c n text own first second)

-- what is known while notes are written is known afterwards
front-of : (b : Bool) (A : Type 0) (start now : Option (List ℕ)) (text : List ℕ) → MatchBool b (A × Appends start now text) (AppendsFront start now text) → AppendsFront start now text
front-of true A start now text is = whole-front start now text is.1
front-of false A start now text is = is

while-open : (b : Bool) (P Q : Type 0) → b ≡ true → MatchBool b P Q → P
while-open b P Q open_now is = subst (λ (x : Bool). MatchBool x P Q) open_now is

module _ (p : Problem) (table : WindowTable) where
  -- before the first note
  pub notes-begin : (start : Option (List ℕ)) (wants : Bool) → HasNoted p table start start (record { is_open = wants; last = None; looks = 0 })
  notes-begin start true = record { notes = []; text = []; are = refl; took = (refl, Appends-nothing start) }
  notes-begin start false = record { notes = []; text = []; are = refl; took = whole-front start start [] (Appends-nothing start) }

  -- and after one look more
  module _ (start mid new : Option (List ℕ)) (before after : Noted) (has : HasNoted p table start mid before) where
    quiet-more : IsQuiet before after mid new → HasNoted p table start new after
    quiet-more is = record {
      notes = has.notes;
      text = has.text;
      are = has.are;
      took = subst (λ (b : Bool). MatchBool b ((newest has.notes ≡ after.last) × Appends start new has.text) (AppendsFront start new has.text)) (sym is.is_open)
          (subst (λ (o : Option Figures). MatchBool before.is_open ((newest has.notes ≡ o) × Appends start new has.text) (AppendsFront start new has.text)) (sym is.last)
          (subst (λ (k : Option (List ℕ)). MatchBool before.is_open ((newest has.notes ≡ before.last) × Appends start k has.text) (AppendsFront start k has.text)) (sym is.took) has.took));
    }

    closed-more : IsClosed after mid new → HasNoted p table start new after
    closed-more is = record {
      notes = has.notes;
      text = has.text;
      are = has.are;
      took = subst (λ (b : Bool). MatchBool b ((newest has.notes ≡ after.last) × Appends start new has.text) (AppendsFront start new has.text)) (sym is.is_open)
          (subst (λ (k : Option (List ℕ)). AppendsFront start k has.text) (sym is.took) (front-of before.is_open (newest has.notes ≡ before.last) start mid has.text has.took));
    }

    told-took : (b : Bool) (n : Note) (own : List ℕ) → Appends start mid has.text → MatchBool b ((after.last ≡ Some (figures_of n)) × Appends mid new own) (AppendsFront mid new own) →
        MatchBool b ((Some (figures_of n) ≡ after.last) × Appends start new (has.text ++ own)) (AppendsFront start new (has.text ++ own))
    told-took true n own taken is = (
      sym is.0,
      subst (Appends start new) (take-append-add has.text own (length own) ∙ ap (λ (t : List ℕ). has.text ++ t) (take-length own))
          (Appends-front start mid new (length own) has.text own taken (subst (Appends mid new) (sym (take-length own)) is.1)),
    )
    told-took false n own taken is = front-after start mid new has.text own taken is

    told-more : HasTold p table before after mid new → HasNoted p table start new after
    told-more is =
        let own = while-open before.is_open ((newest has.notes ≡ before.last) × Appends start mid has.text) (AppendsFront start mid has.text) is.was_open has.took in
        record {
          notes = is.note ∷ has.notes;
          text = has.text ++ is.text;
          are = (
            is.is,
            subst (λ (o : Option Figures). IsNoWorse o is.note.cost is.note.bound) (sym own.0) is.no_worse,
            (has.text, is.text, has.are, subst (λ (o : Option Figures). IsNoteText p o is.note is.text) (sym own.0) is.own, refl),
          );
          took = told-took after.is_open is.note is.text own.1 is.took;
        }

    pub notes-more : IsLook p table before after mid new → HasNoted p table start new after
    notes-more (inl is) = quiet-more is
    notes-more (inr (inl is)) = closed-more is
    notes-more (inr (inr is)) = told-more is

  -- where none are written nothing is taken
  pub look-shut : (before after : Noted) (old new : Option (List ℕ)) → before.is_open ≡ false → IsLook p table before after old new → (after.is_open ≡ false) × (new ≡ old)
  look-shut before after old new shut (inl is) = (is.is_open ∙ shut, is.took)
  look-shut before after old new shut (inr (inl is)) = (is.is_open, is.took)
  look-shut before after old new shut (inr (inr is)) = absurd (false≢true (sym shut ∙ is.was_open))

  -- in the end
  pub notes-taken : (start now : Option (List ℕ)) (state : Noted) → HasNoted p table start now state → TookNotes p table start now
  notes-taken start now state has = record { notes = has.notes; text = has.text; are = has.are; took = front-of state.is_open (newest has.notes ≡ state.last) start now has.text has.took }

  pub may-note : (start now : Option (List ℕ)) (state : Noted) (wants : Bool) → HasNoted p table start now state → (wants ≡ false → (state.is_open ≡ false) × (now ≡ start)) →
      MayNote wants (TookNotes p table start now) start now
  may-note start now state true has quiet = inr (refl, notes-taken start now state has)
  may-note start now state false has quiet = inl (quiet refl).1

-- nothing is noted where nothing is taken
pub notes-same : (o : Option Order) (input : List ℕ) (known : Option (List ℕ)) → NotesOf o input known known
notes-same None input known = refl
notes-same (Some (order.Plan budget scale spans seconds notes)) input known = inl refl
notes-same (Some (order.Improve budget scale spans seconds notes)) input known = inl refl
notes-same (Some (order.Replan budget spans seconds notes)) input known = inl refl
notes-same (Some (order.Quote budget spans seconds notes None)) input known = inl refl
notes-same (Some (order.Quote budget spans seconds notes (Some name))) input known = inl refl
notes-same (Some order.Direct) input known = refl
notes-same (Some order.Check) input known = refl
notes-same (Some (order.Bound option seconds)) input known = refl
notes-same (Some (order.Trial seed terminals shipments)) input known = refl
notes-same (Some (order.Yard seed)) input known = refl
notes-same (Some (order.Fleet trucks)) input known = refl
