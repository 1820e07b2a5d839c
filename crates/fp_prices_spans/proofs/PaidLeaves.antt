-- Whether a span of a leaf pays where it is charged, by what is told of it over a pricing, an instance and windows of the leaf.
use Rattle.std.proofs.Common.{◌≡◌, ℕ, List, [], Bool, subst}
use Rattle.std.specs.Prelude.{IsTrue, ◌↔◌}
use Rattle.fp_model.specs.declared.parts.Leg.{Leg}
use Rattle.fp_model.specs.Problem.{Problem}
use Rattle.fp_flatnet.specs.Tables.{WindowTable, windows_in}
use Rattle.fp_timenodes.specs.Points.{TimePoints, points_at}
use Rattle.fp_prices.specs.declared.leaf_prices.Kind.TheVariants.{Linear}
use Rattle.fp_prices.specs.LeafPricings.{AreChainsOf, PricingModel, allowed_at}
use Rattle.fp_prices.specs.Rounds.{LeafModel}
use Rattle.fp_prices_spans.specs.SpanCharges.{ChargePays}
use Rattle.fp_prices_spans.specs.SpanLeaves.{IsCharged}
use Rattle.fp_prices_spans.specs.Spans.{ClassSpan}

-- a span pays where it is charged, by the leaf's windows and the points as of a round
abbrev pub PaysWhereCharged : LeafModel → TimePoints → (round : ℕ) → (chains : List (List Leg)) → ClassSpan → Type 0
PaysWhereCharged leaf points round chains span =
    IsCharged leaf.setting.problem (allowed_at leaf) chains span →
    ChargePays leaf.setting.problem (windows_in leaf.setting.windows) (λ terminal. points_at points terminal round) span

-- a pricing of the leaf tells whether a span is charged there
abbrev TellsCharged : PricingModel → ClassSpan → Bool → Type 0
TellsCharged m span b =
    (chains : List (List Leg)) → AreChainsOf m.leaf m.forced chains → IsTrue b ↔ IsCharged m.leaf.setting.problem (allowed_at m.leaf) chains span

pub charged-told : (m : PricingModel) (leaf : LeafModel) (forced : Bool) (span : ClassSpan) (b : Bool) → m ≡ record { leaf = leaf; tables = []; kind = Linear; forced = forced } → TellsCharged m span b →
    (chains : List (List Leg)) → AreChainsOf leaf forced chains → IsTrue b ↔ IsCharged leaf.setting.problem (allowed_at leaf) chains span
charged-told m leaf forced span b same told = subst (λ (o : PricingModel). TellsCharged o span b) same told

-- a test by the leaf's instance and windows tells whether a span's charge pays
pub pays-told : (leaf : LeafModel) (points : TimePoints) (round : ℕ) (span : ClassSpan) (b : Bool) (p : Problem) (table : WindowTable) → p ≡ leaf.setting.problem → table ≡ leaf.setting.windows →
    IsTrue b ↔ ChargePays p (windows_in table) (λ terminal. points_at points terminal round) span →
    IsTrue b ↔ ChargePays leaf.setting.problem (windows_in leaf.setting.windows) (λ terminal. points_at points terminal round) span
pays-told leaf points round span b p table same_problem same_table told =
    subst (λ (q : Problem). IsTrue b ↔ ChargePays q (windows_in leaf.setting.windows) (λ terminal. points_at points terminal round) span) same_problem
    (subst (λ (t : WindowTable). IsTrue b ↔ ChargePays p (windows_in t) (λ terminal. points_at points terminal round) span) same_table told)
