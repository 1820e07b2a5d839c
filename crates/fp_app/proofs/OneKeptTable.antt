-- The kept windows of an instance are one table, and so are the windows of what is left of a day.
use Rattle.std.proofs.Common.{◌≡◌, ◌≢◌, ◌∙◌, ℕ, ◌<◌, true, false, List, [], ◌∷◌, length, sym, ap, subst, inl, inr}
use Rattle.std.specs.Prelude.{Option, Some, None, ◌⊎◌, cond}
use Rattle.std.specs.List.{AllByRecursion}
use Rattle.std.proofs.lemmas.Bool.{cases_Bool}
use Rattle.std.proofs.lemmas.Bool.Decides.{eqb_tells}
use Rattle.fp_base_lists.specs.Membership.{list_has}
use Rattle.fp_base_lists.proofs.Membership.{list_has-cons_cases, list_has-first, list_has-rest}
use Rattle.fp_model.specs.declared.parts.Leg.{Leg}
use Rattle.fp_model.specs.declared.parts.Shipment.{Shipment}
use Rattle.fp_model.specs.Numbered.{shipment_at}
use Rattle.fp_model.specs.Problem.{Problem, arc_at}
use Rattle.fp_model.specs.Routes.{arcs_of}
use Rattle.fp_flatnet.specs.declared.window_tables.Window.{Window}
use Rattle.fp_flatnet.specs.Tables.{WindowTable, windows_in}
use Rattle.fp_replan.specs.declared.kept.Kept.{Kept}
use Rattle.fp_replan.specs.KeptLegs.{kept_of}
use Rattle.fp_replan.specs.KeptWindows.{IsKeptRow, StaysOff, window_at}
use Rattle.fp_replan_present.specs.Days.{Day}
use Rattle.fp_replan_present.specs.Rests.{gone_at, left_gone, left_kept}
use Rattle.fp_app_tails.specs.Windows.{AreDayWindows, AreKeptWindowsOf}
use Rattle.fp_app.proofs.OneTable.{IsWindowOrNone_unique, same-tables}

-- what has not a number has it not in its rest
list_has-none_rest : (m : ℕ) (numbers : List ℕ) (n : ℕ) → list_has (m ∷ numbers) n ≡ false → list_has numbers n ≡ false
list_has-none_rest m numbers n none =
    elim (cases_Bool (list_has numbers n)) [
      | inl has ↦ let e : true ≡ false = sym (list_has-rest m numbers n has) ∙ none in cc e
      | inr lacks ↦ lacks
    ]

-- the window of a kept leg's arc
kept-same : (one two : ℕ → Option Window) (a : ℕ) (legs : List Leg) → list_has (arcs_of legs) a ≡ true → AllByRecursion (λ (l : Leg). one l.arc ≡ Some (window_at l.depart)) legs →
    AllByRecursion (λ (l : Leg). two l.arc ≡ Some (window_at l.depart)) legs → one a ≡ two a
kept-same one two a [] has first second = cc has
kept-same one two a (l ∷ legs) has first second =
    elim (list_has-cons_cases l.arc (arcs_of legs) a has) [
      | inl same ↦ subst (λ (n : ℕ). one n ≡ two n) same (first.0 ∙ sym second.0)
      | inr later ↦ kept-same one two a legs later first.1 second.1
    ]

-- no window of an arc that touches the tail of a kept leg, unless it stays off all of them
abbrev Leaving : Problem → ℕ → Option Window → List Leg → Type 0
Leaving p a w legs = AllByRecursion (λ (l : Leg). (arc_at p a).from ≡ (arc_at p l.arc).from → a ≢ l.arc → w ≡ None) legs

abbrev Entering : Problem → ℕ → Option Window → List Leg → Type 0
Entering p a w legs = AllByRecursion (λ (l : Leg). (arc_at p a).to ≡ (arc_at p l.arc).from → w ≡ None) legs

touched-same : (p : Problem) (a : ℕ) (one two : Option Window) (legs : List Leg) → list_has (arcs_of legs) a ≡ false → Leaving p a one legs → Leaving p a two legs → Entering p a one legs → Entering p a two legs →
    (one ≡ two) ⊎ AllByRecursion (StaysOff p a) legs
touched-same p a one two [] none leave_one leave_two enter_one enter_two = inr tt
touched-same p a one two (l ∷ legs) none leave_one leave_two enter_one enter_two =
    elim (eqb_tells (arc_at p a).from (arc_at p l.arc).from) [
      | inl from ↦ inl (leave_one.0 from.1 (λ same. other-arc same) ∙ sym (leave_two.0 from.1 (λ same. other-arc same)))
      | inr not_from ↦ elim (eqb_tells (arc_at p a).to (arc_at p l.arc).from) [
        | inl to ↦ inl (enter_one.0 to.1 ∙ sym (enter_two.0 to.1))
        | inr not_to ↦ elim (touched-same p a one two legs (list_has-none_rest l.arc (arcs_of legs) a none) leave_one.1 leave_two.1 enter_one.1 enter_two.1) [
          | inl same ↦ inl same
          | inr off ↦ inr ((not_from.1, not_to.1), off)
        ]
      ]
    ]
  where
    other-arc : a ≡ l.arc → ⊥
    other-arc same =
        let has : list_has (l.arc ∷ arcs_of legs) l.arc ≡ true = list_has-first l.arc (arcs_of legs) in
        let e : true ≡ false = sym has ∙ subst (λ (n : ℕ). list_has (l.arc ∷ arcs_of legs) n ≡ false) same none in
        cc e

-- a row of kept windows is one
IsKeptRow-one : (p : Problem) (s : Shipment) (legs : List Leg) (one two : ℕ → Option Window) (a : ℕ) → IsKeptRow p s legs one → IsKeptRow p s legs two → a < length p.arcs → one a ≡ two a
IsKeptRow-one p s legs one two a first second exists =
    elim (cases_Bool (list_has (arcs_of legs) a)) [
      | inl has ↦ kept-same one two a legs has first.kept second.kept
      | inr none ↦
          elim (touched-same p a (one a) (two a) legs none (first.leaving a exists) (second.leaving a exists) (first.entering a exists none) (second.entering a exists none)) [
            | inl same ↦ same
            | inr off ↦ IsWindowOrNone_unique p s a (one a) (two a) (first.other a exists off) (second.other a exists off)
          ]
    ]

pub AreKeptWindowsOf-unique : (p : Problem) (kept : List Kept) (one two : WindowTable) → AreKeptWindowsOf p kept one → AreKeptWindowsOf p kept two → one ≡ two
AreKeptWindowsOf-unique p kept one two first second =
    same-tables p one two first.belongs second.belongs (first.anchored ∙ sym second.anchored)
    (λ k a ship arc. IsKeptRow-one p (shipment_at p k) (kept_of kept k) (windows_in one k) (windows_in two k) a (first.exact k ship) (second.exact k ship) arc)

pub AreDayWindows-unique : (p : Problem) (day : Day) (q : Problem) (one two : WindowTable) → AreDayWindows p day q one → AreDayWindows p day q two → one ≡ two
AreDayWindows-unique p day q one two first second =
    same-tables q one two first.belongs second.belongs (first.anchored ∙ sym second.anchored)
    (λ k a ship arc.
    let own : first.exact.base k a ≡ second.exact.base k a =
    IsKeptRow-one q (shipment_at q k) (kept_of (left_kept p day) k) (first.exact.base k) (second.exact.base k) a (first.exact.kept_windows k ship) (second.exact.kept_windows k ship) arc in
    first.exact.shut k a ship arc ∙ ap (cond (list_has (gone_at (left_gone p day) k) (arc_at q a).to) None) own ∙ sym (second.exact.shut k a ship arc))
