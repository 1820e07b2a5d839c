use Rattle.std.proofs.Common.{◌≡◌, ◌∙◌, ◌+◌, ◌∷◌, ◌≤◌, ℕ, List, drop, get_or, length, sym, ap, subst, add-one, arith}
use Rattle.std.proofs.Math.Seq.{drop-cons}
use Rattle.std.proofs.lemmas.List.{drop_all}
use Rattle.fp_model.specs.declared.parts.Member.{Member}
use Rattle.fp_yard.specs.Enabled.{AreEnabledBut}
use Rattle.fp_yard.proofs.Changes.{but-fewer, but-none}
use Rattle.fp_yard.proofs.turns.add_missing.Goals as goal

-- stands for no leg
abbrev no_member : Member
no_member = record { shipment = 0; leg = 0 }

pub loop-leg-init : goal.loop-leg-init
loop-leg-init c =
    c.requires.but c.freight-leg-items.result.now c.freight-leg-items.ensures.legs

pub loop-leg-preserved : goal.loop-leg-preserved
loop-leg-preserved c =
    let s = c.args.yard.now.schedule in
    let h = c.args.yard.now.history in
    let legs : List Member = c.freight-leg-items.result.now in
    let i : ℕ = c.loop-leg.leg-index in
    let front : drop i legs ≡ get_or legs i no_member ∷ drop (i + 1) legs =
    drop-cons legs i no_member c.loop-leg-test.true ∙ ap (λ (n : ℕ). get_or legs i no_member ∷ drop n legs) (sym (add-one i)) in
    but-fewer s h c.loop-leg.events.items c.add_after.new.events.items (get_or legs i no_member) (drop (i + 1) legs) c.in_ok-add_after.ensures
    (subst (λ (ms : List Member). AreEnabledBut s h ms c.loop-leg.events.items) front c.loop-leg.invariant)

pub returns : goal.returns
returns c =
    let legs : List Member = c.freight-leg-items.result.now in
    let end : length legs ≤ c.loop-leg.leg-index = omega (arith, c.loop-leg-test.false) in
    but-none c.args.yard.now.schedule c.args.yard.now.history c.loop-leg.events.items
    (subst (λ (ms : List Member). AreEnabledBut c.args.yard.now.schedule c.args.yard.now.history ms c.loop-leg.events.items) (drop_all c.loop-leg.leg-index legs end) c.loop-leg.invariant)
