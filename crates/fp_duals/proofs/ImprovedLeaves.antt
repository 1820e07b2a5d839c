-- What follows from an improvement for those who keep its price and the tables.
use Rattle.std.proofs.Common.{◌≡◌, ℕ, List, [], ◌∷◌, ◌++◌, ⊎_elim, sym, ◌∙◌}
use Rattle.std.specs.Prelude.{Option}
use Rattle.std.proofs.lemmas.List.{append-nil}
use Rattle.fp_model.specs.declared.parts.Leg.{Leg}
use Rattle.fp_model.specs.Problem.{Problem}
use Rattle.fp_flatnet.specs.declared.window_tables.Window.{Window}
use Rattle.fp_tree.specs.declared.sides.Side.{Side}
use Rattle.fp_prices.specs.declared.leaf_prices.Kind.{Kind}
use Rattle.fp_prices.specs.declared.leaf_prices.Kind.TheVariants.{Linear, Even}
use Rattle.fp_prices.specs.declared.leaf_prices.LeafPrice.{LeafPrice}
use Rattle.fp_prices.specs.EarnedLeaves.{IsEarnedLeaf}
use Rattle.fp_prices.specs.Shares.{ClassShare}
use Rattle.fp_prices.proofs.TableAppends.{IsLeafValue-append}
use Rattle.fp_duals.specs.Starts.{IsStartKind}
use Rattle.fp_duals.specs.Improvements.{AddsTable, IsPriced}

module _ (p : Problem) (windows : ℕ → ℕ → Option Window) (points : ℕ → List ℕ) (sides : List Side) (before after : List (List ClassShare)) (inherited : Kind) (round : ℕ) (price : LeafPrice) (value : ℕ) (walks : List (List Leg))
    (is : IsPriced p windows points sides before after inherited round price value walks) where
  -- the leaf is earned
  pub IsPriced-earned : IsEarnedLeaf p windows points sides after price.kind price.forced
  IsPriced-earned = record {
    value = value;
    is = is.is_value;
    linear = λ f other leaf. is.best.linear f other (IsLeafValue-append p windows points sides [] Linear f other tt before leaf);
    even = λ f other leaf. is.best.even f other (IsLeafValue-append p windows points sides [] Even f other tt before leaf);
  }

  -- the tables that were there stay, in front
  pub record HasMore : Type 0 where
    pub more : List (List ClassShare)
    pub appended : after ≡ before ++ more

  pub IsPriced-more : HasMore
  IsPriced-more =
      ⊎_elim (λ (same : (after ≡ before) × IsStartKind inherited price.kind). let none : HasMore = record { more = []; appended = same.0 ∙ sym (append-nil before) } in none)
      (λ (adds : AddsTable p windows points sides before after inherited price.kind value). let one : HasMore = record { more = adds.table ∷ []; appended = adds.last } in one) is.added
