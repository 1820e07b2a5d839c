use Rattle.std.proofs.Common.{◌≡◌, ◌∙◌, ◌++◌, ◌∷◌, [], ℕ, List, take, sym, ap, append_assoc}
use Rattle.std.specs.Prelude.{slice_index_or}
use Rattle.std.proofs.lemmas.List.{take_more}
use Rattle.fp_model.specs.declared.parts.Arc.{Arc}
use Rattle.fp_model.specs.declared.parts.Leg.{Leg}
use Rattle.fp_model.specs.Numbered.{no_leg}
use Rattle.fp_model.specs.Problem.{arc_at}
use Rattle.fp_replan.specs.KeptLegs.{places_seen}
use Rattle.fp_replan.proofs.KeptBeginnings.{places_seen-push}
use Rattle.fp_replan.proofs.onward.terminals_with.Goals as goal

pub loop-leg-preserved : goal.loop-leg-preserved
loop-leg-preserved c =
    let p = c.args.instance.now in
    let legs = c.args.legs.now in
    let i = c.loop-leg.leg-index in
    let l : Leg = slice_index_or legs i no_leg in
    let seen : List ℕ = places_seen p c.args.origin (take i legs) in
    let to : c.arc.result.to ≡ (arc_at p l.arc).to = ap (λ (a : Arc). a.to) c.arc.ensures.same in
    c.in_ok-push-2.ensures.items
    ∙ ap (λ (ts : List ℕ). ts ++ (c.arc.result.to ∷ [])) c.loop-leg.invariant
    ∙ append_assoc c.args.terminals.now seen (c.arc.result.to ∷ [])
    ∙ ap (λ (t : ℕ). c.args.terminals.now ++ (seen ++ (t ∷ []))) to
    ∙ ap (λ (ts : List ℕ). c.args.terminals.now ++ ts) (sym (places_seen-push p c.args.origin (take i legs) l))
    ∙ ap (λ (ls : List Leg). c.args.terminals.now ++ places_seen p c.args.origin ls) (sym (take_more legs i no_leg c.loop-leg-test.true))
