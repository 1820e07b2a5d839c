-- A shipment's forced chain has one end.
use Rattle.std.proofs.Common.{◌≡◌, ◌≢◌, ℕ, ◌<◌, List, length, Bool, true, ⊎_elim, sym, ◌∙◌, subst}
use Rattle.std.specs.Prelude.{Contains}
use Rattle.std.proofs.lemmas.List.Elements.{All-contains, All-from_recursion}
use Rattle.fp_model.specs.declared.parts.Leg.{Leg}
use Rattle.fp_model.specs.declared.parts.Shipment.{Shipment}
use Rattle.fp_model.specs.Numbered.{shipment_at}
use Rattle.fp_model.specs.Problem.{Problem}
use Rattle.fp_allowed.specs.declared.chain_ends.ChainEnd.TheVariants.{Reached, Several, Stuck}
use Rattle.fp_allowed.specs.Allowed.{IsForcedChain, tails_of}
use Rattle.fp_allowed.specs.Bits.{allowed_in}
use Rattle.fp_allowed.specs.Chains.{EndsAs, IsForced, NoneLeaves, SeveralLeave, terminals_left}
use Rattle.fp_allowed.specs.ForcedChains.{ForcedChain}
use Rattle.fp_allowed.specs.Listing.{classes_at}
use Rattle.fp_allowed.specs.Choices.{OneAtMost}
use Rattle.fp_prices.specs.Rounds.{LeafModel}
use Rattle.fp_prices.proofs.OneValue.{chain-unique}
use Rattle.fp_session_branching.specs.Candidates.{EndsInSeveral}

-- a chain that ends at a terminal that several classes leave doesn't end otherwise
pub not-reached : (p : Problem) (allowed : Leg → Bool) (s : Shipment) (chain : List Leg) (terminal : ℕ) → EndsAs p allowed s chain (Several terminal) → EndsAs p allowed s chain Reached → ⊥
not-reached p allowed s chain terminal several reached = several.1 (sym several.0 ∙ reached)

pub not-stuck : (p : Problem) (allowed : Leg → Bool) (s : Shipment) (chain : List Leg) (terminal other : ℕ) → EndsAs p allowed s chain (Several terminal) → EndsAs p allowed s chain (Stuck other) → ⊥
not-stuck p allowed s chain terminal other several stuck =
    let same : other ≡ terminal = sym stuck.0 ∙ several.0 in
    ⊎_elim
    (λ (met : Contains (terminals_left p chain) other).
    All-contains (λ t. t ≢ terminal) (terminals_left p chain) other (All-from_recursion (λ t. t ≢ terminal) (terminals_left p chain) several.2) met same)
    (λ (none : NoneLeaves p allowed other). none several.3.one several.3.one_allowed (several.3.one_leaves ∙ sym same))
    stuck.2

-- where several classes leave a terminal, more than one does
pub several-more : (p : Problem) (allowed : Leg → Bool) (terminal : ℕ) → SeveralLeave p allowed terminal → OneAtMost allowed (λ c. tails_of p c.arc ≡ terminal) → ⊥
several-more p allowed terminal several one = several.differ (one several.one several.two (record { allowed_it = several.one_allowed; leaves = several.one_leaves }) (record { allowed_it = several.two_allowed; leaves = several.two_leaves }))

-- at a leaf, where the shipment's chain is this one, a terminal where it ends otherwise isn't one that several classes leave
pub one-chain : (l : LeafModel) (k terminal : ℕ) (chain : List Leg) → IsForcedChain l.setting.problem (allowed_in l.setting l.sides k) (shipment_at l.setting.problem k) chain →
    EndsInSeveral l k terminal → EndsAs l.setting.problem (allowed_in l.setting l.sides k) (shipment_at l.setting.problem k) chain (Several terminal)
one-chain l k terminal chain forced several =
    subst (λ (legs : List Leg). EndsAs l.setting.problem (allowed_in l.setting l.sides k) (shipment_at l.setting.problem k) legs (Several terminal))
    (chain-unique l.setting.problem (allowed_in l.setting l.sides k) true (shipment_at l.setting.problem k) several.chain chain several.forced forced) several.ends

module _ (l : LeafModel) (k : ℕ) (chain : ForcedChain) (is : IsForced l.setting.problem l.setting.network (allowed_in l.setting l.sides k) (shipment_at l.setting.problem k) chain) where
  abbrev own : Problem
  own = l.setting.problem

  abbrev allowed : Leg → Bool
  allowed = allowed_in l.setting l.sides k

  abbrev found : List Leg
  found = classes_at l.setting.network chain.classes

  -- a chain that is found to end at a terminal that several classes leave
  pub found-several : (terminal : ℕ) → k < length own.shipments → chain.end ≡ Several terminal → EndsInSeveral l k terminal
  found-several terminal exists end = record {
    exists = exists;
    chain = found;
    forced = is.forced;
    ends = subst (EndsAs own allowed (shipment_at own k) found) end is.ends;
  }

  -- and one that is found to end otherwise
  pub found-reached : chain.end ≡ Reached → (terminal : ℕ) → EndsInSeveral l k terminal → ⊥
  found-reached end terminal several =
      not-reached own allowed (shipment_at own k) found terminal (one-chain l k terminal found is.forced several) (subst (EndsAs own allowed (shipment_at own k) found) end is.ends)

  pub found-stuck : (other : ℕ) → chain.end ≡ Stuck other → (terminal : ℕ) → EndsInSeveral l k terminal → ⊥
  found-stuck other end terminal several =
      not-stuck own allowed (shipment_at own k) found terminal other (one-chain l k terminal found is.forced several) (subst (EndsAs own allowed (shipment_at own k) found) end is.ends)

  -- where no two classes leave, it doesn't end at a terminal that several leave
  pub found-one : (here : ℕ) → chain.end ≡ Several here → OneAtMost allowed (λ c. tails_of own c.arc ≡ here) → ⊥
  found-one here end one =
      let ends : EndsAs own allowed (shipment_at own k) found (Several here) = subst (EndsAs own allowed (shipment_at own k) found) end is.ends in
      several-more own allowed here ends.3 one
