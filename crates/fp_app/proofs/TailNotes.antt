-- What `replan` notes, by what the records after the instance tell.
use Rattle.std.proofs.Common.{◌≡◌, ℕ, Bool, true, false, List, subst, inl, inr}
use Rattle.std.specs.Prelude.{Ok, Option}
use Rattle.fp_model.specs.Problem.{Problem}
use Rattle.fp_replan.specs.declared.kept.Kept.{Kept}
use Rattle.fp_replan_present.specs.Days.{Day}
use Rattle.fp_replan_present.specs.declared.rests.Rest.{Rest}
use Rattle.fp_replan_present.specs.Rests.{IsRest, left_problem}
use Rattle.fp_flatnet.specs.Tables.{WindowTable}
use Rattle.fp_app_tails.specs.Windows.{AreDayWindows}
use Rattle.fp_records.specs.Fields.{records_of}
use Rattle.fp_app_tails.specs.Tails.{day_in, day_told, kept_in, kept_told, tells_day, tells_day_in}
use Rattle.fp_app.specs.Notes.{AreTailNotes, IsNotedFor, MayNote, TookNotes}
use Rattle.fp_app.specs.Wanted.{going_on, keeping}

abbrev Records : Type 0
Records = List (List (List ℕ))

module _ (wants : Bool) (input : List ℕ) (lines : Records) (same : lines ≡ records_of input) (p : Problem) (old new : Option (List ℕ)) where
  pub kept-noted : (kept : List Kept) → tells_day lines ≡ false → kept_told lines ≡ Ok (record { instance = p; kept = kept }) → MayNote wants (IsNotedFor p (keeping kept) old new) old new → MayNote wants (AreTailNotes input old new) old new
  kept-noted kept told read (inl none) = inl none
  kept-noted kept told read (inr noted) =
      let tells : tells_day_in input ≡ false = subst (λ (ls : Records). tells_day ls ≡ false) same told in
      let own : kept_in input ≡ Ok (record { instance = p; kept = kept }) = subst (λ (ls : Records). kept_told ls ≡ Ok (record { instance = p; kept = kept })) same read in
      inr (noted.0, rw tells (record { instance = p; kept = kept }, own, noted.1))

  pub day-noted : (day : Day) → tells_day lines ≡ true → day_told lines ≡ Ok (record { instance = p; day = day }) → MayNote wants (IsNotedFor (left_problem p day) (going_on p day) old new) old new → MayNote wants (AreTailNotes input old new) old new
  day-noted day told read (inl none) = inl none
  day-noted day told read (inr noted) =
      let tells : tells_day_in input ≡ true = subst (λ (ls : Records). tells_day ls ≡ true) same told in
      let own : day_in input ≡ Ok (record { instance = p; day = day }) = subst (λ (ls : Records). day_told ls ≡ Ok (record { instance = p; day = day })) same read in
      inr (noted.0, rw tells (record { instance = p; day = day }, own, noted.1))

-- what is noted of a search of what is left of a day
pub day-took : (wants : Bool) (p : Problem) (day : Day) (rest : Rest) (table : WindowTable) (old new : Option (List ℕ)) → IsRest p day rest → AreDayWindows p day rest.instance table → MayNote wants (TookNotes rest.instance table old new) old new →
    MayNote wants (IsNotedFor (left_problem p day) (going_on p day) old new) old new
day-took wants p day rest table old new is windows (inl same) = inl same
day-took wants p day rest table old new is windows (inr took) =
    inr (took.0, (table, subst (λ (q : Problem). AreDayWindows p day q table) is.instance windows, subst (λ (q : Problem). TookNotes q table old new) is.instance took.1))
