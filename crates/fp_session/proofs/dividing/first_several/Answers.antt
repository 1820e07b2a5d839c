-- A chain that doesn't end with several ways to go ends elsewhere.
use Rattle.std.proofs.Common.{◌≡◌, ℕ, ◌⊎◌, inl, inr, below_more, sym, ap, ◌∙◌}
use Rattle.std.specs.Prelude.{None}
use Rattle.std.proofs.lemmas.Option.{none-some}
use Rattle.fp_model.specs.Numbered.{shipment_at}
use Rattle.fp_allowed.specs.declared.chain_ends.ChainEnd.{ChainEnd}
use Rattle.fp_allowed.specs.declared.chain_ends.ChainEnd.TheVariants as end
use Rattle.fp_allowed.specs.Bits.{allowed_in}
use Rattle.fp_allowed.specs.Chains.{EndsAs, IsForced}
use Rattle.fp_allowed.specs.ForcedChains.{ForcedChain}
use Rattle.fp_allowed.specs.Listing.{classes_at}
use Rattle.fp_prices.specs.Rounds.{LeafModel}
use Rattle.fp_session.specs.Dividing.{EndsElsewhere, several_terminal}
use Rattle.fp_session.proofs.dividing.first_several.Goals as goal

elsewhere : (l : LeafModel) (k : ℕ) (chain : ForcedChain) → IsForced l.setting.problem l.setting.network (allowed_in l.setting l.sides k) (shipment_at l.setting.problem k) chain →
    several_terminal chain.end ≡ None → EndsElsewhere l k
elsewhere l k chain is none = record { chain = classes_at l.setting.network chain.classes; forced = is.forced; ends = by_end chain.end none is.ends }
  where
    by_end : (e : ChainEnd) → several_terminal e ≡ None → EndsAs l.setting.problem (allowed_in l.setting l.sides k) (shipment_at l.setting.problem k) (classes_at l.setting.network chain.classes) e →
        EndsAs l.setting.problem (allowed_in l.setting l.sides k) (shipment_at l.setting.problem k) (classes_at l.setting.network chain.classes) end.Reached
        ⊎ ((terminal : ℕ) × EndsAs l.setting.problem (allowed_in l.setting l.sides k) (shipment_at l.setting.problem k) (classes_at l.setting.network chain.classes) (end.Stuck terminal))
    by_end end.Reached other ends = inl ends
    by_end (end.Several terminal) other ends = absurd (none-some terminal (sym other))
    by_end (end.Stuck terminal) other ends = inr (terminal, ends)

pub loop-shipment-preserved : goal.loop-shipment-preserved
loop-shipment-preserved c =
    below_more _ _ c.loop-shipment.invariant (elsewhere c.args.leaf.now c.loop-shipment.shipment c.in_ok-chain.chain c.in_ok-chain.ensures (sym (ap (λ (x : ForcedChain). several_terminal x.end) c.chain-in-loop-shipment.view_is) ∙ sym c.several_end.ensures ∙ c.in-None.is))
