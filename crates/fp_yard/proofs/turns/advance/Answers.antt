use Rattle.std.proofs.Common.{◌≡◌, ◌∙◌, ◌∷◌, ◌++◌, ℕ, List, [], set, sym, ap, subst}
use Rattle.std.proofs.lemmas.List.{get_or_default}
use Rattle.fp_yard.specs.declared.events.Event.{Event}
use Rattle.fp_yard.specs.declared.events.EventKind.{EventKind}
use Rattle.fp_yard.specs.declared.events.EventKind.TheVariants.{Departs, Arrives}
use Rattle.fp_yard.specs.Enabled.{AreEnabledBut}
use Rattle.fp_yard.specs.Events.{AreEnabled, event_at, no_event}
use Rattle.fp_yard.proofs.Changes.{enabled-arrived, enabled-departed}
use Rattle.fp_yard.proofs.turns.advance.Goals as goal

pub add_missing-requires-clause-but : goal.add_missing-requires-clause-but
add_missing-requires-clause-but c legs freight =
    let s = c.args.yard.now.schedule in
    let events : List Event = c.args.events.now.items in
    let before : List Event = c.requires.were.before in
    let e : Event = c.index.result.now in
    let line : ℕ = e.line in
    let gone : Event = record { line = line; kind = Arrives } in
    let is : event_at events c.args.place ≡ gone =
    sym (c.index.ensures ∙ get_or_default events c.args.place e no_event c.requires.place) ∙ ap (λ (k : EventKind). record { line = line; kind = k }) c.in-Arrives.is in
    let happened : before ++ gone ∷ [] ≡ c.args.yard.now.history = sym (c.requires.were.now ∙ ap (λ (x : Event). before ++ x ∷ []) is) in
    subst (λ (h : List Event). AreEnabledBut s h legs c.remove.new.self.items) happened
    (subst (λ (xs : List Event). AreEnabledBut s (before ++ gone ∷ []) legs xs) (sym c.remove.ensures.items)
    (enabled-arrived s before events c.args.place line legs c.requires.were.are c.requires.place is freight))

pub returns-in-Departs : goal.returns-in-Departs
returns-in-Departs c =
    let s = c.args.yard.now.schedule in
    let events : List Event = c.args.events.now.items in
    let before : List Event = c.requires.were.before in
    let e : Event = c.index.result.now in
    let line : ℕ = e.line in
    let gone : Event = record { line = line; kind = Departs } in
    let is : event_at events c.args.place ≡ gone =
    sym (c.index.ensures ∙ get_or_default events c.args.place e no_event c.requires.place) ∙ ap (λ (k : EventKind). record { line = line; kind = k }) c.in-Departs.is in
    let happened : before ++ gone ∷ [] ≡ c.args.yard.now.history = sym (c.requires.were.now ∙ ap (λ (x : Event). before ++ x ∷ []) is) in
    subst (λ (h : List Event). AreEnabled s h (set events c.args.place (record { line = line; kind = Arrives }))) happened
    (enabled-departed s before events c.args.place line c.requires.were.legal c.requires.were.are c.requires.place is)
