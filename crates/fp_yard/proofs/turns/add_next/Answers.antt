use Rattle.std.proofs.Common.{◌≡◌, ◌<◌, ℕ, List, length, refl, sym, subst}
use Rattle.std.proofs.lemmas.Bool.{false≢true}
use Rattle.fp_yard.specs.declared.events.Event.{Event}
use Rattle.fp_yard.specs.Enabled.{HasAdded, IsPlaceOf}
use Rattle.fp_yard.specs.Events.{event_at}
use Rattle.fp_yard.proofs.Changes.{added-listed, added-new, added-none}
use Rattle.fp_yard.proofs.turns.add_next.Goals as goal

pub returns-then-stands_at : goal.returns-then-stands_at
returns-then-stands_at c =
    let stands = subst (λ (xs : List Event). (c.place_of-place.result < length xs) × ((event_at xs c.place_of-place.result).line ≡ c.args.line)) c.deref-2.ensures.value
    (c.if-stands_at.ensures.0 refl) in
    added-listed c.args.yard.now.schedule c.args.yard.now.history c.args.events.now.items c.args.line c.place_of-place.result c.requires.legal c.requires.are stands.0 stands.1

pub returns-in_default : goal.returns-in_default
returns-in_default c =
    added-none c.args.yard.now.schedule c.args.yard.now.history c.args.events.now.items (λ (l : ℕ). l ≡ c.args.line) c.requires.are c.in_default.ensures.event

pub returns : goal.returns
returns c =
    let s = c.args.yard.now.schedule in
    let h = c.args.yard.now.history in
    let events : List Event = c.args.events.now.items in
    let place : ℕ = c.place_of-place.result in
    let is : IsPlaceOf events c.args.line place = subst (λ (xs : List Event). IsPlaceOf xs c.args.line place) c.deref.ensures.value c.place_of-place.ensures in
    let free : place < length events → (event_at events place).line ≡ c.args.line → ⊥ = λ lt same.
    false≢true
    (c.if-stands_at.ensures.1 (subst (λ (xs : List Event). (place < length xs) × ((event_at xs place).line ≡ c.args.line)) (sym c.deref-2.ensures.value) (lt, same))) in
    subst (λ (xs : List Event). HasAdded s h (λ (l : ℕ). l ≡ c.args.line) events xs) (sym c.in_ok-insert.ensures.items)
    (added-new s h events c.args.line place c.in-Some.event c.requires.legal c.requires.are is free c.in-Some.ensures.event.0 c.in-Some.ensures.event.1)
