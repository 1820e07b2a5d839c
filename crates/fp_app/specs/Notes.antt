-- What is noted of a search while it goes on, and when that is true.
-- The problem: Boland, Hewitt, Marshall and Savelsbergh, "The Continuous-Time Service Network
-- Design Problem", Operations Research 65, 2017.
use Rattle.std.specs.Prelude.{ℕ, ◌≤◌, ◌≡◌, ◌⊎◌, ⊤, Bool, true, false, ltb, List, [], ◌∷◌, ◌++◌, Option, None, Some, Ok, MatchBool, codes, decimal}
use Rattle.std.specs.Io.KnownBytes.{Appends}
use Rattle.fp_ends.specs.Moves.{AppendsFront}
use Rattle.fp_model.specs.declared.parts.Leg.{Leg}
use Rattle.fp_model.specs.Costs.{cost}
use Rattle.fp_model.specs.Plans.{IsPlan}
use Rattle.fp_model.specs.Problem.{Problem}
use Rattle.fp_records.specs.Text.{line_of}
use Rattle.fp_flatnet.specs.Tables.{WindowTable, windows_in}
use Rattle.fp_flatnet.specs.Windows.{PlanLiesWithin}
use Rattle.fp_certificate_rules.specs.Claims.{NoPlanWithinCheaper}
use Rattle.fp_session.specs.declared.progress.Progress.{Progress}
use Rattle.fp_session.specs.Sessions.{SessionModel, cheapest_of}
use Rattle.fp_records_fields.specs.NamedParts.{shipment_named}
use Rattle.fp_replan.specs.Quotes.{without_last}
use Rattle.fp_replan_quotes.specs.LastShipments.{with_last}
use Rattle.fp_app_words.specs.declared.orders.Order.{Order}
use Rattle.fp_app_words.specs.declared.orders.Order.TheVariants as order
use Rattle.fp_replan_present.specs.Rests.{left_problem}
use Rattle.fp_app_tails.specs.declared.answers.Scale.TheVariants as asked
use Rattle.fp_app_tails.specs.Tails.{DayInstance, KeptInstance, day_in, kept_in, tells_day_in}
use Rattle.fp_app.specs.Inputs.{CertifiedInstance, certified_at, has_tail_in, instance_at, named_in, quoted_in}
use Rattle.fp_app.specs.TailAnswers.{GivesOfTail}
use Rattle.fp_app.specs.Wanted.{AreWindowsFor, Wanted, every, going_on, keeping}
use Rattle.fp_app.specs.declared.notes.Figures.{Figures}
use Rattle.fp_app.specs.declared.notes.Noted.{Noted}
use Rattle.fp_app.specs.declared.shown.Shown.TheVariants as shown
use Rattle.fp_app.specs.Texts.{IsText}

-- how many rounds and splits there were, a plan with what it costs, and a bound
pub record Note : Type 0 where
  pub rounds : ℕ
  pub branches : ℕ
  pub cost : ℕ
  pub bound : ℕ
  pub plan : List (List Leg)

-- the line of a note
abbrev pub note_line : (rounds branches cost bound : ℕ) → List ℕ
note_line rounds branches cost bound = line_of (codes "note" ∷ decimal rounds ∷ decimal branches ∷ decimal cost ∷ decimal bound ∷ [])

-- a note is true of the plans within the windows: its plan is one of them at its cost, and none costs less
-- than its bound, over any denominator
pub record IsNote (p : Problem) (table : WindowTable) (n : Note) : Type 0 where
  pub plan : IsPlan p 1 n.plan
  pub within : PlanLiesWithin (windows_in table) 1 n.plan
  pub cost : n.cost ≡ cost p n.plan
  pub bound : NoPlanWithinCheaper p (windows_in table) n.bound

-- no dearer than what was noted before, and with no lower bound
abbrev pub IsNoWorse : Option Figures → (cost bound : ℕ) → Type 0
IsNoWorse None cost bound = ⊤
IsNoWorse (Some before) cost bound = (cost ≤ before.cost) × (before.bound ≤ bound)

-- cheaper than what was noted before, if anything was
abbrev pub is_cheaper : Option Figures → ℕ → Bool
is_cheaper None cost = true
is_cheaper (Some before) cost = ltb cost before.cost

-- a plan as an answer of the kind `direct`, or nothing
abbrev pub IsPlanText : Problem → List (List Leg) → Bool → List ℕ → Type 0
IsPlanText p plan is_told text = MatchBool is_told (IsText (shown.Direct p plan) text) (text ≡ [])

-- what a search has in hand makes a note: its rounds and splits aside, its plan at this cost, and this bound
pub record IsNoteOf (m : SessionModel) (x : Progress) : Type 0 where
  pub plan : IsPlan m.instance 1 (cheapest_of m)
  pub within : PlanLiesWithin (windows_in m.windows) 1 (cheapest_of m)
  pub cost : x.cost ≡ cost m.instance (cheapest_of m)
  pub bound : NoPlanWithinCheaper m.instance (windows_in m.windows) x.bound

-- the text of a note: where its plan is cheaper than what was noted before that plan first, as an answer of
-- the kind `direct`; and its line
pub record IsNoteText (p : Problem) (before : Option Figures) (n : Note) (text : List ℕ) : Type 0 where
  pub answer : List ℕ
  pub plan : IsPlanText p n.plan (is_cheaper before n.cost) answer
  pub line : text ≡ answer ++ note_line n.rounds n.branches n.cost n.bound

-- the figures of a note, and of the newest of some, which stands first
abbrev pub figures_of : Note → Figures
figures_of n = record { cost = n.cost; bound = n.bound }

abbrev pub newest : List Note → Option Figures
newest [] = None
newest (n ∷ earlier) = Some (figures_of n)

-- the text of notes, of which the newest stands first: each is true, and no worse than the one before
abbrev pub AreNotes : Problem → WindowTable → List Note → List ℕ → Type 0
AreNotes p table [] text = text ≡ []
AreNotes p table (n ∷ earlier) text =
    IsNote p table n × IsNoWorse (newest earlier) n.cost n.bound
    × ((before : List ℕ) × (own : List ℕ) × AreNotes p table earlier before × IsNoteText p (newest earlier) n own × (text ≡ before ++ own))

-- a sink took a front of the text of notes
pub record TookNotes (p : Problem) (table : WindowTable) (old new : Option (List ℕ)) : Type 0 where
  pub notes : List Note
  pub text : List ℕ
  pub are : AreNotes p table notes text
  pub took : AppendsFront old new text

-- what is known of a sink and of what is noted last: while notes are written, it took the whole text of
-- those that there were, and afterwards a front of it
pub record HasNoted (p : Problem) (table : WindowTable) (old new : Option (List ℕ)) (state : Noted) : Type 0 where
  pub notes : List Note
  pub text : List ℕ
  pub are : AreNotes p table notes text
  pub took : MatchBool state.is_open ((newest notes ≡ state.last) × Appends old new text) (AppendsFront old new text)

-- nothing is noted, or nothing any more
pub record IsQuiet (before after : Noted) (old new : Option (List ℕ)) : Type 0 where
  pub is_open : after.is_open ≡ before.is_open
  pub last : after.last ≡ before.last
  pub took : new ≡ old

pub record IsClosed (after : Noted) (old new : Option (List ℕ)) : Type 0 where
  pub is_open : after.is_open ≡ false
  pub took : new ≡ old

-- one note more, or a front of it and no further one
pub record HasTold (p : Problem) (table : WindowTable) (before after : Noted) (old new : Option (List ℕ)) : Type 0 where
  pub was_open : before.is_open ≡ true
  pub note : Note
  pub text : List ℕ
  pub is : IsNote p table note
  pub no_worse : IsNoWorse before.last note.cost note.bound
  pub own : IsNoteText p before.last note text
  pub took : MatchBool after.is_open ((after.last ≡ Some (figures_of note)) × Appends old new text) (AppendsFront old new text)

-- one look at a search
abbrev pub IsLook : Problem → WindowTable → (before after : Noted) → (old new : Option (List ℕ)) → Type 0
IsLook p table before after old new = IsQuiet before after old new ⊎ (IsClosed after old new ⊎ HasTold p table before after old new)

-- a search of an instance for wanted plans was noted: it's true of the plans within their windows, so of the
-- wanted ones
abbrev pub IsNotedFor : Problem → Wanted → (old new : Option (List ℕ)) → Type 0
IsNotedFor p wanted old new = (table : WindowTable) × AreWindowsFor p wanted table × TookNotes p table old new

-- nothing was written, or, where notes are wanted, these
abbrev pub MayNote : (wants : Bool) → Type 0 → (old new : Option (List ℕ)) → Type 0
MayNote wants noted old new = (new ≡ old) ⊎ ((wants ≡ true) × noted)

-- of two searches, without the last shipment and with it, one after the other
abbrev pub AreQuoteNotes : Problem → (old new : Option (List ℕ)) → Type 0
AreQuoteNotes p old new =
    (between : Option (List ℕ)) × MayNote true (IsNotedFor (without_last p) every old between) old between × MayNote true (IsNotedFor p every between new) between new

-- of a search among the plans that keep legs, or of what is left of a day where one is told
abbrev pub AreTailNotes : List ℕ → (old new : Option (List ℕ)) → Type 0
AreTailNotes input old new =
    MatchBool (tells_day_in input)
    ((x : DayInstance) × (day_in input ≡ Ok x) × IsNotedFor (left_problem x.instance x.day) (going_on x.instance x.day) old new)
    ((x : KeptInstance) × (kept_in input ≡ Ok x) × IsNotedFor x.instance (keeping x.kept) old new)

-- of a search among all plans of an instance at a scale, or of what is to be planned after kept legs or in a day
abbrev pub AreImproveNotes : ℕ → List ℕ → (old new : Option (List ℕ)) → Type 0
AreImproveNotes n input old new =
    MatchBool (has_tail_in input)
    (GivesOfTail (asked.Of n) input (λ p wanted c. IsNotedFor p wanted old new))
    ((x : CertifiedInstance) × (certified_at n input ≡ Ok x) × IsNotedFor x.instance every old new)

-- what is noted while an order is done
abbrev pub NotesOf : Option Order → List ℕ → (old new : Option (List ℕ)) → Type 0
NotesOf (Some (order.Plan budget scale spans seconds notes)) input old new =
    MayNote notes ((p : Problem) × (instance_at scale input ≡ Ok p) × IsNotedFor p every old new) old new
NotesOf (Some (order.Improve budget n spans seconds notes)) input old new =
    MayNote notes (AreImproveNotes n input old new) old new
NotesOf (Some (order.Replan budget spans seconds notes)) input old new =
    MayNote notes (AreTailNotes input old new) old new
NotesOf (Some (order.Quote budget spans seconds notes None)) input old new =
    MayNote notes ((p : Problem) × (quoted_in input ≡ Ok p) × AreQuoteNotes p old new) old new
NotesOf (Some (order.Quote budget spans seconds notes (Some name))) input old new =
    MayNote notes ((p : Problem) × (k : ℕ) × (named_in name input ≡ Ok p) × (shipment_named p name ≡ Some k) × AreQuoteNotes (with_last p k) old new) old new
NotesOf _ input old new = new ≡ old
