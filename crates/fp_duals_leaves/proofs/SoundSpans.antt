-- Spans and gifts that pass the tests are sound.
use Rattle.std.proofs.Common.{◌≡◌, ℕ, ◌-◌, ◌^◌, ◌<◌, Bool, true, false, List, [], ◌∷◌, length, get_or, refl, sym, subst, arith, rules}
use Rattle.std.specs.Prelude.{◌==◌, ◌↔◌, All, IfOk, IsTrue, Option, Result, Ok, Err}
use Rattle.std.specs.Bool.{OnTrue}
use Rattle.std.specs.List.{AllZip}
use Rattle.std.specs.declared.alloc.AllocError.{AllocError}
use Rattle.std.proofs.lemmas.Bool.{eqb-true}
use Rattle.std.proofs.lemmas.List.Elements.{All-get_or, All-weaker}
use Rattle.fp_model.specs.Problem.{IsArc, IsValid, Problem, arc_at, no_arc}
use Rattle.fp_timenodes.specs.Points.{TimePoints}
use Rattle.fp_flatnet.specs.declared.window_tables.Window.{Window}
use Rattle.fp_flatnet.specs.Belonging.{BelongsTo}
use Rattle.fp_flatnet.specs.Initial.{BeginAt, initial_points}
use Rattle.fp_flatnet.specs.Tables.{WindowTable, windows_in}
use Rattle.fp_allowed.specs.SamePoints.{AgreeOnPoints}
use Rattle.fp_prices_gifts.specs.declared.gifts.Gift.{Gift}
use Rattle.fp_prices_gifts.specs.GiftLeaves.{KeepGiftRules}
use Rattle.fp_prices_gifts.specs.Gifts.{AreGifts}
use Rattle.fp_prices_gifts.proofs.GiftBounds.{rules-without_gifts, sound_gifts-keep_rules}
use Rattle.fp_prices_knapsack.specs.Charges.{Pays}
use Rattle.fp_prices_spans.specs.MomentRuns.{end_of, first_points, group_weights, runs_from}
use Rattle.fp_prices_spans.specs.SpanCharges.{ArePaidSpans, ChargePays, items_of}
use Rattle.fp_prices_spans.specs.SpanLists.{AreSpans, IsSpanOf}
use Rattle.fp_prices_spans.specs.Spans.{ClassSpan}
use Rattle.fp_prices_spans.proofs.SameFirst.{first_from-same, paid-same}
use Rattle.fp_prices_spans.proofs.SoundSpans.{sound_spans-keep_rules}
use Rattle.fp_certificate_lines.specs.Ranges.{IsGiftInRange, IsSpanInRange}
use Rattle.fp_certificate_lines.proofs.SpanRanges.{IsSpanInRange-of}
use Rattle.fp_certificate_rules.specs.Prices.{ArePaidBeside, ArePaidWithGifts}
use Rattle.fp_duals_leaves.specs.SoundSpans.{AreSoundSpans}

-- spans in range are of arcs and shipments that exist
pub ranged-of : (p : Problem) (spans : List ClassSpan) → All (IsSpanInRange p) spans → All (IsSpanOf p) spans
ranged-of p spans range = All-weaker (IsSpanInRange p) (IsSpanOf p) (IsSpanInRange-of p) spans range

-- and gifts in range of arcs that exist
pub given-of : (p : Problem) (gifts : List Gift) → All (IsGiftInRange p) gifts → All (λ (gift : Gift). gift.arc < length p.arcs) gifts
given-of p gifts range = All-weaker (IsGiftInRange p) (λ (gift : Gift). gift.arc < length p.arcs) (λ gift is. is.arc) gifts range

module _ (p : Problem) (windows : ℕ → ℕ → Option Window) (first other : ℕ → List ℕ) (valid : IsValid p) (agree : AgreeOnPoints p first other) where
  -- charges that pay by first points pay by others that are the same at each terminal
  charges-same : (spans : List ClassSpan) → All (IsSpanOf p) spans → All (ChargePays p windows first) spans → All (ChargePays p windows other) spans
  charges-same spans exist pay k d lt =
      let span : ClassSpan = get_or spans k d in
      let tail : (arc_at p span.arc).from < length p.terminals = (All-get_or (IsArc (length p.terminals)) p.arcs span.arc no_arc (exist k d lt).arc valid.parts.arcs).from in
      let alike : end_of p first span ≡ end_of p other span = first_from-same (first (arc_at p span.arc).from) (other (arc_at p span.arc).from) span.until (agree (arc_at p span.arc).from tail) in
      let here : ChargePays p windows first span = pay k d lt in
      record {
        parts = here.parts;
        enough = here.enough;
        pay = subst
            (λ (end : Option ℕ). AllZip (λ run part. Pays (items_of p (group_weights windows span run)) (arc_at p span.arc).capacity span.money part) (runs_from span.point span.groups end) here.parts)
            alike here.pay;
      }

  -- so are spans and gifts that are paid
  beside-same : (spans : List ClassSpan) (gifts : List Gift) → All (IsSpanOf p) spans → ArePaidBeside p windows first spans gifts → ArePaidBeside p windows other spans gifts
  beside-same spans [] exist are = paid-same p windows first other spans valid agree exist are
  beside-same spans (gift ∷ gifts) exist are = record {
    ordered = are.ordered;
    light = are.light;
    given = are.given;
    paid = charges-same spans exist are.paid;
  }

module _ (p : Problem) (windows : ℕ → ℕ → Option Window) (first : ℕ → List ℕ) where
  -- spans and gifts that are paid can price leaves, and keep their rules
  paid-spans : (spans : List ClassSpan) (gifts : List Gift) → All (IsSpanOf p) spans → ArePaidBeside p windows first spans gifts → AreSpans p spans
  paid-spans spans [] exist are = record { ordered = are.list.ordered; exist = exist; light = are.list.light }
  paid-spans spans (gift ∷ gifts) exist are = record { ordered = are.ordered; exist = exist; light = are.light }

  paid-gifts : (spans : List ClassSpan) (gifts : List Gift) → All (λ (gift : Gift). gift.arc < length p.arcs) gifts → ArePaidBeside p windows first spans gifts → AreGifts p gifts
  paid-gifts spans [] exist are = record { exist = exist; light = search rules }
  paid-gifts spans (gift ∷ gifts) exist are = record { exist = exist; light = are.given.light }

  paid-keep : (spans : List ClassSpan) (gifts : List Gift) → IsValid p → All (IsSpanOf p) spans → ArePaidBeside p windows first spans gifts → KeepGiftRules p windows first spans gifts
  paid-keep spans [] valid exist are = rules-without_gifts p windows first spans (sound_spans-keep_rules p windows first spans valid exist are.list are.paid)
  paid-keep spans (gift ∷ gifts) valid exist are = sound_gifts-keep_rules p windows first spans (gift ∷ gifts) valid exist are.ordered are.given are.paid

-- spans in range are of arcs that exist
pub arcs-of : (p : Problem) (spans : List ClassSpan) → All (IsSpanInRange p) spans → All (λ (span : ClassSpan). span.arc < length p.arcs) spans
arcs-of p spans range = All-weaker (IsSpanInRange p) (λ (span : ClassSpan). span.arc < length p.arcs) (λ span is. is.arc) spans range

module _ (p : Problem) (windows : ℕ → ℕ → Option Window) (first : ℕ → List ℕ) (spans : List ClassSpan) where
  -- where there are no gifts, spans that are paid are so beside them
  pub paid-alone : (gifts : List Gift) (r : Result Bool AllocError) → gifts ≡ [] → IfOk r (λ paid. IsTrue paid ↔ ArePaidSpans p windows first spans) → IfOk r (λ paid. OnTrue paid (ArePaidBeside p windows first spans gifts))
  paid-alone gifts r none told = subst (λ (gs : List Gift). IfOk r (λ paid. OnTrue paid (ArePaidBeside p windows first spans gs))) (sym none) (alone r told)
    where
      alone : (o : Result Bool AllocError) → IfOk o (λ paid. IsTrue paid ↔ ArePaidSpans p windows first spans) → IfOk o (λ paid. OnTrue paid (ArePaidSpans p windows first spans))
      alone (Err e) is = tt
      alone (Ok true) is = is.0 refl
      alone (Ok false) is = tt

  -- and where there are some, both are paid together
  pub paid-beside : (gifts : List Gift) → (gifts ≡ [] → ⊥) → ArePaidWithGifts p windows first spans gifts → ArePaidBeside p windows first spans gifts
  paid-beside [] some are = absurd (some refl)
  paid-beside (gift ∷ gifts) some are = are

-- spans and gifts that are paid by the points with which an instance and its windows begin
pub tested-sound : (p : Problem) (table : WindowTable) (v : TimePoints) (spans : List ClassSpan) (gifts : List Gift) → BelongsTo p table → BeginAt p table.anchors v → All (IsSpanInRange p) spans → All (IsGiftInRange p) gifts →
    length spans < 2 ^ 32 - 1 → ArePaidBeside p (windows_in table) (first_points v) spans gifts → AreSoundSpans p table spans gifts
tested-sound p table v spans gifts belongs begins range given few paid =
    let exist : All (IsSpanOf p) spans = ranged-of p spans range in
    let initial : ArePaidBeside p (windows_in table) (initial_points p table.anchors) spans gifts =
    beside-same p (windows_in table) (first_points v) (initial_points p table.anchors) belongs.valid begins.same spans gifts exist paid in
    record {
      list = paid-spans p (windows_in table) (initial_points p table.anchors) spans gifts exist initial;
      gifts = paid-gifts p (windows_in table) (initial_points p table.anchors) spans gifts (given-of p gifts given) initial;
      rules = paid-keep p (windows_in table) (initial_points p table.anchors) spans gifts belongs.valid exist initial;
      range = range;
      given = given;
      few = few;
      paid = initial;
    }

-- what the last test of spans and gifts in range tells
pub paid-told : (p : Problem) (table : WindowTable) (v : TimePoints) (spans : List ClassSpan) (gifts : List Gift) (r : Result Bool AllocError) → BelongsTo p table → BeginAt p table.anchors v → All (IsSpanInRange p) spans →
    All (IsGiftInRange p) gifts → length spans < 2 ^ 32 - 1 → IfOk r (λ paid. OnTrue paid (ArePaidBeside p (windows_in table) (first_points v) spans gifts)) →
    IfOk r (λ sound. OnTrue sound (AreSoundSpans p table spans gifts))
paid-told p table v spans gifts (Err e) belongs begins range given few told = tt
paid-told p table v spans gifts (Ok true) belongs begins range given few told = tested-sound p table v spans gifts belongs begins range given few told
paid-told p table v spans gifts (Ok false) belongs begins range given few told = tt

-- no spans and no gifts at all are sound
pub no_spans-sound : (p : Problem) (table : WindowTable) → AreSoundSpans p table [] []
no_spans-sound p table = record {
  list = record { ordered = record { ascend = search rules; weights = search rules; moments = search rules }; exist = search rules; light = search rules };
  gifts = record { exist = search rules; light = search rules };
  rules = rules-without_gifts p (windows_in table) (initial_points p table.anchors) [] (record { money = tt; sets = tt });
  range = search rules;
  given = search rules;
  few = search rules;
  paid = record { list = record { ordered = record { ascend = search rules; weights = search rules; moments = search rules }; light = search rules; money = tt }; paid = search rules };
}

-- a list of no length has nothing
pub nothing-in : {X : Type 0} (xs : List X) → (length xs == 0) ≡ true → xs ≡ []
nothing-in [] h = refl
nothing-in (x ∷ xs) h = absurd (omega (arith, eqb-true (length (x ∷ xs)) 0 h))
