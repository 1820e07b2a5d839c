-- What a search has earned stays earned: when a note is added, when tables are, and when the
-- incumbent becomes cheaper.
use Rattle.std.proofs.Common.{◌≡◌, ℕ, suc, ◌+◌, ◌<◌, ◌≤◌, Bool, List, [], ◌∷◌, ◌++◌, length, sym, subst, arith}
use Rattle.std.specs.Prelude.{Option}
use Rattle.std.proofs.lemmas.List.Elements.{All-push, All-weaker}
use Rattle.std.proofs.lemmas.List.Quantifiers.{all_pairs_push}
use Rattle.fp_base_lists.specs.Numbered.{AllFrom}
use Rattle.fp_model.specs.Problem.{Problem}
use Rattle.fp_flatnet.specs.declared.window_tables.Window.{Window}
use Rattle.fp_flatnet.specs.Tables.{windows_in}
use Rattle.fp_tree.specs.declared.sides.Side.{Side}
use Rattle.fp_prices.specs.declared.leaf_prices.Kind.{Kind}
use Rattle.fp_prices.specs.declared.leaf_prices.Kind.TheVariants.{Even, Linear}
use Rattle.fp_prices.specs.Leaves.{IsLeafValue}
use Rattle.fp_prices.specs.Shares.{ClassShare}
use Rattle.fp_prices.specs.Tables.{HasKind}
use Rattle.fp_prices_spans.specs.SpanKinds.{spans_beside}
use Rattle.fp_prices_spans.specs.SpanLeaves.{IsSpanLeafEmpty}
use Rattle.fp_prices_spans.specs.Spans.{ClassSpan}
use Rattle.fp_prices_spans.proofs.SpanAppends.{beside-append}
use Rattle.fp_prices_gifts.specs.declared.gifts.Gift.{Gift}
use Rattle.fp_prices_gifts.specs.GiftKinds.{IsPricedValue}
use Rattle.fp_prices_gifts.proofs.GiftAppends.{gift_values-append}
use Rattle.fp_certificate_lines.specs.declared.certificates.Valuation.{Valuation}
use Rattle.fp_certificate_lines.specs.Valuations.{sides_valued}
use Rattle.fp_session_history.specs.declared.notes.SplitNote.{SplitNote}
use Rattle.fp_session_history.specs.Notes.{History, Refinement, last_round, points_of, with_note, with_tables}
use Rattle.fp_session_history.specs.PrintedLeaves.{IsEmptyAt}
use Rattle.fp_session_history.specs.Splits.{IsEarnedAt, IsEarnedSplit}
use Rattle.fp_session_history.specs.Traces.{IsEarnedRound, IsEarnedTrace}
use Rattle.fp_session_history.proofs.PointsKept.{points_of-with_note}

module _ (h : History) (n : Refinement) (sides : List Side) (v : Valuation) (less : v.price.round < n.round) where
  -- a leaf that was earned as of an earlier round stays so
  abbrev pub IsEarnedAt-with_note : IsEarnedAt h sides v → IsEarnedAt (with_note h n) sides v
  IsEarnedAt-with_note leaf =
      let p = h.problem in
      let windows = windows_in h.windows in
      let same : points_of h v.price.round ≡ points_of (with_note h n) v.price.round = sym (points_of-with_note h n v.price.round less) in
      record {
        value = leaf.value;
        is = subst (λ (qs : ℕ → List ℕ). IsPricedValue p windows qs (sides_valued v sides) h.tables h.spans h.gifts v.price.kind v.price.forced leaf.value) same leaf.is;
        linear = subst (λ (qs : ℕ → List ℕ). (f : Bool) (other : ℕ) → IsLeafValue p windows qs sides [] Linear f other → other ≤ leaf.value) same leaf.linear;
        even = subst (λ (qs : ℕ → List ℕ). (f : Bool) (other : ℕ) → IsLeafValue p windows qs sides [] Even f other → other ≤ leaf.value) same leaf.even;
        linear_under = subst (λ (qs : ℕ → List ℕ). (f : Bool) (other : ℕ) → IsLeafValue p windows qs (sides_valued v sides) [] Linear f other → other ≤ leaf.value) same leaf.linear_under;
        even_under = subst (λ (qs : ℕ → List ℕ). (f : Bool) (other : ℕ) → IsLeafValue p windows qs (sides_valued v sides) [] Even f other → other ≤ leaf.value) same leaf.even_under;
      }

  -- and so does one that was empty
  pub IsEmptyAt-with_note : IsEmptyAt h sides v → IsEmptyAt (with_note h n) sides v
  IsEmptyAt-with_note leaf = record {
    empty = subst (λ (qs : ℕ → List ℕ). IsSpanLeafEmpty h.problem (windows_in h.windows) qs sides (spans_beside h.spans v.price.kind)) (sym (points_of-with_note h n v.price.round less)) leaf.empty;
    whole = leaf.whole;
  }

-- one that was empty stays so when tables are added too, with spans beside them
pub IsEmptyAt-with_tables : (h : History) (more : List (List ClassShare)) (spans : List (List ClassSpan)) (gifts : List (List Gift)) (sides : List Side) (v : Valuation) → length h.spans ≡ length h.tables →
    HasKind h.tables v.price.kind → IsEmptyAt h sides v → IsEmptyAt (with_tables h more spans gifts) sides v
IsEmptyAt-with_tables h more spans gifts sides v beside has leaf = record {
  empty = subst (IsSpanLeafEmpty h.problem (windows_in h.windows) (points_of h v.price.round) sides) (sym (beside-append h.tables h.spans spans v.price.kind beside has)) leaf.empty;
  whole = leaf.whole;
}

-- a leaf that was earned stays so when tables are added, with spans and gifts beside them
abbrev pub IsEarnedAt-with_tables : (h : History) (more : List (List ClassShare)) (spans : List (List ClassSpan)) (gifts : List (List Gift)) (sides : List Side) (v : Valuation) → length h.spans ≡ length h.tables →
    length h.gifts ≡ length h.tables → HasKind h.tables v.price.kind → IsEarnedAt h sides v → IsEarnedAt (with_tables h more spans gifts) sides v
IsEarnedAt-with_tables h more spans gifts sides v beside given has leaf = record {
  value = leaf.value;
  is = gift_values-append h.problem (windows_in h.windows) (points_of h v.price.round) (sides_valued v sides) h.tables more h.spans spans h.gifts gifts v.price.kind v.price.forced leaf.value beside given has leaf.is;
  linear = leaf.linear;
  even = leaf.even;
  linear_under = leaf.linear_under;
  even_under = leaf.even_under;
}

module _ (h : History) (started ended : ℕ) (sides : List Side) (note : SplitNote) (split : IsEarnedSplit h started ended sides note) where
  -- a split stays earned when a note is added
  pub IsEarnedSplit-with_note : (n : Refinement) → note.valuation.price.round < n.round → IsEarnedSplit (with_note h n) started ended sides note
  IsEarnedSplit-with_note n less = record { leaf = IsEarnedAt-with_note h n sides note.valuation less split.leaf; below = split.below; first = split.first; last = split.last }

  -- when tables are
  pub IsEarnedSplit-with_tables : (more : List (List ClassShare)) (spans : List (List ClassSpan)) (gifts : List (List Gift)) → length h.spans ≡ length h.tables → length h.gifts ≡ length h.tables → HasKind h.tables note.valuation.price.kind →
      IsEarnedSplit (with_tables h more spans gifts) started ended sides note
  IsEarnedSplit-with_tables more spans gifts beside given has = record {
    leaf = IsEarnedAt-with_tables h more spans gifts sides note.valuation beside given has split.leaf;
    below = split.below;
    first = split.first;
    last = split.last;
  }

  -- and when the incumbent becomes cheaper
  pub IsEarnedSplit-cheaper : (cheaper : ℕ) → cheaper ≤ ended → IsEarnedSplit h started cheaper sides note
  IsEarnedSplit-cheaper cheaper le = record { leaf = split.leaf; below = split.below; first = split.first; last = omega (arith, le, split.last) }

-- what holds of each element by its number, and of one more
AllFrom_push : {X : Type 0} (P : ℕ → X → Type 0) (i : ℕ) (xs : List X) (x : X) → AllFrom P i xs → P (i + length xs) x → AllFrom P i (xs ++ x ∷ [])
AllFrom_push {X} P i [] x all one = let same : i + 0 ≡ i = omega arith in (subst (λ (k : ℕ). P k x) same one, tt)
AllFrom_push {X} P i (y ∷ xs) x all one =
    let on : i + suc (length xs) ≡ i + 1 + length xs = omega arith in
    (all.0, AllFrom_push P (i + 1) xs x all.1 (subst (λ (k : ℕ). P k x) on one))

-- what holds of each element by a number below another, weakened
AllFrom_weaker_below : {X : Type 0} (P Q : ℕ → X → Type 0) (i end : ℕ) (xs : List X) → i + length xs ≤ end → ((k : ℕ) (x : X) → k < end → P k x → Q k x) → AllFrom P i xs → AllFrom Q i xs
AllFrom_weaker_below P Q i end [] le weaker all = tt
AllFrom_weaker_below P Q i end (x ∷ xs) le weaker all =
    (weaker i x (omega (arith, le)) all.0, AllFrom_weaker_below P Q (i + 1) end xs (omega (arith, le)) weaker all.1)

module _ (h : History) (started ended : ℕ) (trace : IsEarnedTrace h started ended) where
  -- a trace stays earned with one more note that is earned over the points as of the last round,
  -- with the incumbent of the moment
  pub IsEarnedTrace-with_note : (n : Refinement) → n.round ≡ last_round h + 1 → n.incumbent ≡ ended → ended ≤ started → IsEarnedRound h.problem h.windows h.unit (points_of h (last_round h)) n →
      IsEarnedTrace (with_note h n) started ended
  IsEarnedTrace-with_note n next now le round = record {
    rounds = AllFrom_push (λ k (m : Refinement). m.round ≡ k) 1 h.trace n trace.rounds (omega (arith, next));
    earned = AllFrom_push (λ k (m : Refinement). IsEarnedRound h.problem h.windows h.unit (points_of (with_note h n) k) m) 0 h.trace n
        (AllFrom_weaker_below (λ k (m : Refinement). IsEarnedRound h.problem h.windows h.unit (points_of h k) m) (λ k (m : Refinement). IsEarnedRound h.problem h.windows h.unit (points_of (with_note h n) k) m) 0 (last_round h) h.trace
        (omega arith) (λ k m lt. kept k m (omega (arith, lt, next))) trace.earned)
        (let same : 0 + length h.trace ≡ last_round h = omega arith in
        subst (λ (k : ℕ). IsEarnedRound h.problem h.windows h.unit (points_of (with_note h n) k) n) (sym same) (kept (last_round h) n (omega (arith, next)) round));
    falling = all_pairs_push (λ (m k : Refinement). k.incumbent ≤ m.incumbent) h.trace n trace.falling (λ k d lt. omega (arith, now, trace.last k d lt));
    first = All-push (λ (m : Refinement). m.incumbent ≤ started) h.trace n trace.first (omega (arith, now, le));
    last = All-push (λ (m : Refinement). ended ≤ m.incumbent) h.trace n trace.last (omega (arith, now));
  }
    where
      kept : (k : ℕ) (m : Refinement) → k < n.round → IsEarnedRound h.problem h.windows h.unit (points_of h k) m → IsEarnedRound h.problem h.windows h.unit (points_of (with_note h n) k) m
      kept k m less round_of = subst (λ (points : ℕ → List ℕ). IsEarnedRound h.problem h.windows h.unit points m) (sym (points_of-with_note h n k less)) round_of

  -- tables have no say in it
  pub IsEarnedTrace-with_tables : (more : List (List ClassShare)) (spans : List (List ClassSpan)) (gifts : List (List Gift)) → IsEarnedTrace (with_tables h more spans gifts) started ended
  IsEarnedTrace-with_tables more spans gifts = record { rounds = trace.rounds; earned = trace.earned; falling = trace.falling; first = trace.first; last = trace.last }

  -- and it stays earned when the incumbent becomes cheaper
  pub IsEarnedTrace-cheaper : (cheaper : ℕ) → cheaper ≤ ended → IsEarnedTrace h started cheaper
  IsEarnedTrace-cheaper cheaper le = record {
    rounds = trace.rounds;
    earned = trace.earned;
    falling = trace.falling;
    first = trace.first;
    last = All-weaker (λ (m : Refinement). ended ≤ m.incumbent) (λ (m : Refinement). cheaper ≤ m.incumbent) (λ m at. omega (arith, le, at)) h.trace trace.last;
  }
