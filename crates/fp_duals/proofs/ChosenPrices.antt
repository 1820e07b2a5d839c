-- The prices that are chosen for a leaf: the best start, or a table that is better.
use Rattle.std.proofs.Common.{◌≡◌, ℕ, ◌+◌, ◌≤◌, List, [], ◌∷◌, ◌++◌, length, inr, sym, ap, ◌∙◌, subst, arith}
use Rattle.std.specs.Prelude.{Option, None, Some, IfSome}
use Rattle.std.proofs.lemmas.List.{length-append}
use Rattle.fp_prices.specs.declared.leaf_prices.Kind.{Kind}
use Rattle.fp_prices.specs.declared.leaf_prices.Kind.TheVariants.{Table}
use Rattle.fp_prices.specs.Rounds.{LeafModel}
use Rattle.fp_prices.specs.Shares.{ClassShare}
use Rattle.fp_duals.specs.declared.candidates.Candidate.{Candidate}
use Rattle.fp_duals.specs.declared.starts.Start.{Start}
use Rattle.fp_duals.specs.Candidates.{IsBetter}
use Rattle.fp_duals.specs.Choices.{IsChoice}
use Rattle.fp_duals.specs.PriceLines.{line_total}
use Rattle.fp_duals.specs.Starts.{IsBestStart, IsStart}
use Rattle.fp_duals.proofs.PriceLines.{total-more}

-- a table that was found is better
pub better-told : (leaf : LeafModel) (tables : List (List ClassShare)) (room : ℕ) (start : Start) (o : Option Candidate) (c : Candidate) → o ≡ Some c → IfSome o (IsBetter leaf tables room start) → IsBetter leaf tables room start c
better-told leaf tables room start o c is better = subst (λ (found : Option Candidate). IfSome found (IsBetter leaf tables room start)) is better

-- one that is better with fewer price lines is so with more
pub better-room : (leaf : LeafModel) (tables : List (List ClassShare)) (lines room : ℕ) (start : Start) (o : Option Candidate) → lines ≤ room → IfSome o (IsBetter leaf tables lines start) → IfSome o (IsBetter leaf tables room start)
better-room leaf tables lines room start None le better = better
better-room leaf tables lines room start (Some c) le better = record { candidate = better.candidate; fits = omega (arith, better.fits, le); above = better.above }

-- the price lines with a table that was found
pub better-lines : (leaf : LeafModel) (before after : List (List ClassShare)) (room : ℕ) (start : Start) (c : Candidate) → IsBetter leaf before room start c → after ≡ before ++ (c.table ∷ []) → line_total after ≤ line_total before + room
better-lines leaf before after room start c better last = omega (arith, ap line_total last, total-more before c.table, better.fits)

-- a table that is better than the best start, and is added
pub better-choice : (leaf : LeafModel) (before after : List (List ClassShare)) (inherited : Kind) (room : ℕ) (start : Start) (c : Candidate) → IsBestStart leaf before inherited start → IsBetter leaf before room start c → after ≡ before ++ (c.table ∷ []) →
    IsChoice leaf before after inherited c.start
better-choice leaf before after inherited room start c best better last = record {
  start = subst (λ (tables : List (List ClassShare)). IsStart leaf tables c.start) (sym last) better.candidate.start;
  best = record {
    linear = λ f other is. omega (arith, best.best.linear f other is, better.above);
    even = λ f other is. omega (arith, best.best.even f other is, better.above);
    inherited = λ f other is. omega (arith, best.best.inherited f other is, better.above);
  };
  above = record { whole = best.above.whole; value = best.above.value; below = omega (arith, best.above.below, better.above) };
  added = inr (record {
    table = c.table;
    last = last;
    some = better.candidate.some;
    named = better.candidate.named ∙ ap Table long;
    above = record {
      linear = λ f other is. omega (arith, best.best.linear f other is, better.above);
      even = λ f other is. omega (arith, best.best.even f other is, better.above);
      inherited = λ f other is. omega (arith, best.best.inherited f other is, better.above);
    };
  });
}
  where
    long : length before + 1 ≡ length after
    long = omega (arith, length-append before (c.table ∷ []), ap length last)
