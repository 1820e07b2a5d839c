-- A branching that was tried, and what is kept of the leaves below it.
use Rattle.std.proofs.Common.{◌≡◌, ℕ, ◌≤◌, List, [], ◌∷◌, ◌++◌, length, refl, sym, ap, ap₂, ◌∙◌, subst, arith, append-nil}
use Rattle.std.specs.Prelude.{IfSome, None, Option, Some}
use Rattle.std.proofs.lemmas.List.{length-append}
use Rattle.fp_model.specs.Problem.{Problem}
use Rattle.fp_tree.specs.declared.sides.Side.{Side}
use Rattle.fp_tree.specs.declared.sides.Split.{Split}
use Rattle.fp_tree.specs.Sides.{Fork, first, first_of_split, second, second_of_split}
use Rattle.fp_prices.specs.Shares.{ClassShare}
use Rattle.fp_prices_gifts.specs.declared.gifts.Gift.{Gift}
use Rattle.fp_prices_spans.specs.Spans.{ClassSpan}
use Rattle.fp_duals_leaves.specs.Prices.{ArePrices, HaveGrown, PriceLists, with_more}
use Rattle.fp_flatnet.specs.Tables.{WindowTable}
use Rattle.fp_duals_leaves.proofs.SpansBeside.{given-length}
use Rattle.fp_session_history.specs.Notes.{History}
use Rattle.fp_session.specs.declared.branchings.Branching.{Branching}
use Rattle.fp_session.specs.declared.choices.Chosen.{Chosen}
use Rattle.fp_session.specs.declared.kept.Below.{Below}
use Rattle.fp_session.specs.declared.kept.Kept.{Kept}
use Rattle.fp_session.specs.declared.searches.Search.{Search}
use Rattle.fp_session.specs.Choices.{AreKeptBelow, IsBranching, IsChosen, fork_by}
use Rattle.fp_session.specs.Nodes.{IsKept}
use Rattle.fp_session.specs.Searches.{IsSearch, history}
use Rattle.fp_session.proofs.Improvements.{IsKept-grown}

-- a list without elements
none-of : {X : Type 0} (xs : List X) → length xs ≤ 0 → xs ≡ []
none-of [] few = refl
none-of (x ∷ xs) few = absurd (omega (arith, few))

-- prices that have grown by no table are as they were
pub same-few : (p : Problem) (table : WindowTable) (before after : PriceLists) → ArePrices p table before → HaveGrown p table before after → length after.tables ≤ length before.tables → after ≡ before
same-few p table before after are grown few =
    let no_tables : grown.tables ≡ [] = none-of grown.tables (omega (arith, few, ap (λ (x : PriceLists). length x.tables) grown.is, length-append before.tables grown.tables)) in
    let no_spans : grown.spans ≡ [] =
    none-of grown.spans (omega (arith, few, grown.prices.beside, are.beside, ap (λ (x : PriceLists). length x.spans) grown.is, length-append before.spans grown.spans)) in
    let no_gifts : grown.gifts ≡ [] =
    none-of grown.gifts
    (omega (arith, few, given-length p table after grown.prices, given-length p table before are, ap (λ (x : PriceLists). length x.gifts) grown.is, length-append before.gifts grown.gifts)) in
    grown.is ∙ ap₂ (λ (ts : List (List ClassShare)) (ss : List (List ClassSpan)). with_more before ts ss grown.gifts) no_tables no_spans
    ∙ ap (λ (gs : List (List Gift)). with_more before [] [] gs) no_gifts
    ∙ ap (λ (ts : List (List ClassShare)). let x : PriceLists = record { tables = ts; spans = before.spans ++ []; gifts = before.gifts ++ []; unit = before.unit } in x) (append-nil before.tables)
    ∙ ap₂ (λ (ss : List (List ClassSpan)) (gs : List (List Gift)). let x : PriceLists = record { tables = before.tables; spans = ss; gifts = gs; unit = before.unit } in x) (append-nil before.spans) (append-nil before.gifts)

-- what is so of a value, where there is one, by another fact of it
some-by : {X : Type 0} (o : Option X) (P Q : X → Type 0) → ((x : X) → P x → Q x) → IfSome o P → IfSome o Q
some-by None P Q weaker is = tt
some-by (Some x) P Q weaker is = weaker x is

-- what a trial told is kept by the prices that there were, where it took no further table
pub chosen-tried : (s : Search) (before after : PriceLists) (sides : List Side) (b : Branching) (found : Below) (chosen : Chosen) (had has : ℕ) → IsSearch s before →
    HaveGrown s.instance s.windows before after → AreKeptBelow (history s after) sides (fork_by b) found → IsBranching (history s before) sides b → chosen.branching ≡ b →
    IfSome chosen.below (λ told. (has ≤ had) × (told ≡ found)) → (has ≤ had → length after.tables ≤ length before.tables) → IsChosen (history s before) sides chosen
chosen-tried s before after sides b found chosen had has is grown kept branching same told few = record {
  branching = subst (IsBranching (history s before) sides) (sym same) branching;
  below = some-by chosen.below (λ t. (has ≤ had) × (t ≡ found)) (AreKeptBelow (history s before) sides (fork_by chosen.branching)) own told;
}
  where
    own : (t : Below) → (has ≤ had) × (t ≡ found) → AreKeptBelow (history s before) sides (fork_by chosen.branching) t
    own t is_found =
        subst (AreKeptBelow (history s before) sides (fork_by chosen.branching)) (sym is_found.1)
        (subst (λ (d : Branching). AreKeptBelow (history s before) sides (fork_by d) found) (sym same)
        (subst (λ (x : PriceLists). AreKeptBelow (history s x) sides (fork_by b) found) (same-few s.instance s.windows before after is.prices grown (few is_found.0)) kept))

-- what is kept of both leaves below a split, one after the other
pub kept-both : (s : Search) (between after : PriceLists) (sides : List Side) (split : Split) (tail : ℕ) (one other : Side) (a b : Kept) → one ≡ first_of_split split → other ≡ second_of_split split tail →
    ArePrices s.instance s.windows between → HaveGrown s.instance s.windows between after → IsKept (history s between) (sides ++ (one ∷ [])) a.payload a.value →
    IsKept (history s after) (sides ++ (other ∷ [])) b.payload b.value → AreKeptBelow (history s after) sides (record { split = split; tail = tail }) (record { first = a; second = b })
kept-both s between after sides split tail one other a b is_first is_second are grown first_kept second_kept = record {
  first = subst (λ (side : Side). IsKept (history s after) (sides ++ (side ∷ [])) a.payload a.value) is_first (IsKept-grown s between after (sides ++ (one ∷ [])) a are grown first_kept);
  second = subst (λ (side : Side). IsKept (history s after) (sides ++ (side ∷ [])) b.payload b.value) is_second second_kept;
}

-- what a trial told of one side, where it told it
pub told-first : (h : History) (sides : List Side) (f : Fork) (o : Option Below) (b : Below) (side : Side) → o ≡ Some b → side ≡ first f → IfSome o (AreKeptBelow h sides f) →
    IsKept h (sides ++ (side ∷ [])) b.first.payload b.first.value
told-first h sides f o b side is way kept =
    subst (λ (x : Side). IsKept h (sides ++ (x ∷ [])) b.first.payload b.first.value) (sym way) (subst (λ (q : Option Below). IfSome q (AreKeptBelow h sides f)) is kept).first

pub told-second : (h : History) (sides : List Side) (f : Fork) (o : Option Below) (b : Below) (side : Side) → o ≡ Some b → side ≡ second f → IfSome o (AreKeptBelow h sides f) →
    IsKept h (sides ++ (side ∷ [])) b.second.payload b.second.value
told-second h sides f o b side is way kept =
    subst (λ (x : Side). IsKept h (sides ++ (x ∷ [])) b.second.payload b.second.value) (sym way) (subst (λ (q : Option Below). IfSome q (AreKeptBelow h sides f)) is kept).second
