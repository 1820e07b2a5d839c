-- What the fields of a line tell is in range.
use Rattle.std.proofs.Common.{◌≡◌, ℕ, ◌+◌, ◌^◌, ◌<◌, ◌≤◌, Bool, true, false, List, [], ◌∷◌, ◌++◌, length, arith, inl, inr}
use Rattle.std.specs.Prelude.{All, IfSome, Option, ◌&&◌, codes, nat_lt}
use Rattle.std.proofs.lemmas.Bool.{and_parts, cases_Bool, ltb-true, not-false}
use Rattle.std.proofs.lemmas.List.Elements.{All-push, All-weaker}
use Rattle.fp_model.specs.declared.limits.TheConstants.{GREATEST_SCALE, LATEST, LONGEST_FASTEST}
use Rattle.fp_model.specs.Problem.{Problem, weight_at}
use Rattle.fp_prices.specs.declared.leaf_prices.Kind.{Kind}
use Rattle.fp_prices.specs.declared.leaf_prices.Kind.TheVariants as price
use Rattle.fp_prices.specs.declared.tables.Weight.{Weight}
use Rattle.fp_prices.specs.Shares.{ClassShare}
use Rattle.fp_prices_gifts.specs.declared.gifts.Gift.{Gift}
use Rattle.fp_prices_spans.specs.Spans.{ClassSpan}
use Rattle.fp_prices.specs.Tables.{HasKind}
use Rattle.fp_records_fields.specs.Fields.{is_between, number_at, has_word}
use Rattle.fp_records_fields.proofs.Numerals.{is_between-limits}
use Rattle.fp_certificate_lines.specs.declared.certificates.Answer.{Answer}
use Rattle.fp_certificate_lines.specs.declared.certificates.Node.{Node}
use Rattle.fp_certificate_lines.specs.declared.certificates.Node.TheVariants.{Branch}
use Rattle.fp_certificate_lines.specs.declared.certificates.Node.TheVariants as node
use Rattle.fp_certificate.specs.declared.drafts.Draft.{Draft}
use Rattle.fp_certificate.specs.Answers.{has_bad_scale, has_time_in_range, time_in}
use Rattle.fp_certificate_lines.specs.Ranges.{IsAnswerInRange, IsGiftInRange, IsGroupInRange, IsInRange, IsNodeInRange, IsScaleInRange, IsShareInRange, IsSpanInRange, IsUnitInRange, IsWeightInRange}
use Rattle.fp_certificate_lines.specs.Statements.{Statement}
use Rattle.fp_certificate.specs.Tables.{and_group, and_last_group, and_span_weight, and_weight, has_span, with_last, with_weight}
use Rattle.fp_certificate.specs.Timetables.{ends_in_range}
use Rattle.fp_certificate.proofs.LineRanges.{All-with_last}
use Rattle.fp_certificate.proofs.TableCounts.{length-with_last}

-- with another answer
pub with-answer : (p : Problem) (c : Statement) (a : Answer) → IsAnswerInRange p a → IsInRange p c → IsInRange p (record c { answer = a })
with-answer p c a h r = record {
  answer = h;
  scale = r.scale;
  unit = r.unit;
  legs = r.legs;
  trucks = r.trucks;
  points = r.points;
  tables = r.tables;
  spans = r.spans;
  beside = r.beside;
  gifts = r.gifts;
  given = r.given;
  timed = r.timed;
  tree = r.tree;
}

-- with another scale and another unit
pub with-scales : (p : Problem) (c : Statement) (scale unit : Option ℕ) → IfSome scale (IsScaleInRange p) → IfSome unit IsUnitInRange → IsInRange p c
    → IsInRange p (record c { scale = scale; unit = unit })
with-scales p c scale unit h g r = record {
  answer = r.answer;
  scale = h;
  unit = g;
  legs = r.legs;
  trucks = r.trucks;
  points = r.points;
  tables = r.tables;
  spans = r.spans;
  beside = r.beside;
  gifts = r.gifts;
  given = r.given;
  timed = r.timed;
  tree = r.tree;
}

-- with one more node
pub IsInRange-with_node : (p : Problem) (c : Statement) (n : Node) → IsNodeInRange p c.tables n → IsInRange p c → IsInRange p (record c { tree = c.tree ++ (n ∷ []) })
IsInRange-with_node p c n h r = record {
  answer = r.answer;
  scale = r.scale;
  unit = r.unit;
  legs = r.legs;
  trucks = r.trucks;
  points = r.points;
  tables = r.tables;
  spans = r.spans;
  beside = r.beside;
  gifts = r.gifts;
  given = r.given;
  timed = r.timed;
  tree = All-push (IsNodeInRange p c.tables) c.tree n r.tree h;
}

-- a table that exists still does where there are more
pub kind-grows : (few many : List (List ClassShare)) (kind : Kind) → length few ≤ length many → HasKind few kind → HasKind many kind
kind-grows few many price.Linear le h = tt
kind-grows few many price.Even le h = tt
kind-grows few many (price.Table id) le h = (h.0, omega (arith, h.1))

pub node-grows : (p : Problem) (few many : List (List ClassShare)) (n : Node) → length few ≤ length many → IsNodeInRange p few n → IsNodeInRange p many n
node-grows p few many (Branch split) le h = h
node-grows p few many (node.Leaf v) le h = record { kind = kind-grows few many v.price.kind le h.kind; round = h.round; sides = h.sides }
node-grows p few many (node.Narrow n) le h = record { kind = kind-grows few many n.price.kind le h.kind; round = h.round; worth = h.worth }

-- with other tables, and what stands beside them, no fewer than before
pub IsInRange-with_lists : (p : Problem) (c : Statement) (tables : List (List ClassShare)) (spans : List (List ClassSpan)) (gifts : List (List Gift)) (moments : List Bool)
    → length c.tables ≤ length tables → length spans ≡ length tables → length gifts ≡ length tables → length moments ≡ length tables
    → All (All (IsShareInRange p)) tables → All (All (IsSpanInRange p)) spans → All (All (IsGiftInRange p)) gifts → IsInRange p c
    → IsInRange p (record c { tables = tables; spans = spans; gifts = gifts; moments = moments })
IsInRange-with_lists p c tables spans gifts moments le beside given timed h t g r = record {
  answer = r.answer;
  scale = r.scale;
  unit = r.unit;
  legs = r.legs;
  trucks = r.trucks;
  points = r.points;
  tables = h;
  spans = t;
  beside = beside;
  gifts = g;
  given = given;
  timed = timed;
  tree = All-weaker (IsNodeInRange p c.tables) (IsNodeInRange p tables) (λ n. node-grows p c.tables tables n le) c.tree r.tree;
}

-- with a changed last table, of which the shares are in range again
pub with-last-table : (p : Problem) (c : Statement) (f : List ClassShare → List ClassShare) → ((table : List ClassShare) → All (IsShareInRange p) table → All (IsShareInRange p) (f table))
    → IsInRange p c → IsInRange p (record c { tables = with_last f c.tables })
with-last-table p c f changes r =
    let stays : length (with_last f c.tables) ≡ length c.tables = length-with_last f c.tables in
    IsInRange-with_lists p c (with_last f c.tables) c.spans c.gifts c.moments (omega arith) (omega (arith, r.beside)) (omega (arith, r.given)) (omega (arith, r.timed))
    (All-with_last (All (IsShareInRange p)) (All (IsShareInRange p)) f c.tables (λ table all. all) changes r.tables) r.spans r.gifts r

-- with a changed last list of spans, which are in range again
pub with-last-spans : (p : Problem) (c : Statement) (f : List ClassSpan → List ClassSpan) → ((list : List ClassSpan) → All (IsSpanInRange p) list → All (IsSpanInRange p) (f list))
    → IsInRange p c → IsInRange p (record c { spans = with_last f c.spans })
with-last-spans p c f changes r =
    let stays : length (with_last f c.spans) ≡ length c.spans = length-with_last f c.spans in
    IsInRange-with_lists p c c.tables (with_last f c.spans) c.gifts c.moments (omega arith) (omega (arith, r.beside)) r.given r.timed r.tables
    (All-with_last (All (IsSpanInRange p)) (All (IsSpanInRange p)) f c.spans (λ list all. all) changes r.spans) r.gifts r

-- with a changed last list of gifts, which are in range again
pub with-last-gifts : (p : Problem) (c : Statement) (f : List Gift → List Gift) → ((list : List Gift) → All (IsGiftInRange p) list → All (IsGiftInRange p) (f list))
    → IsInRange p c → IsInRange p (record c { gifts = with_last f c.gifts })
with-last-gifts p c f changes r =
    let stays : length (with_last f c.gifts) ≡ length c.gifts = length-with_last f c.gifts in
    IsInRange-with_lists p c c.tables c.spans (with_last f c.gifts) c.moments (omega arith) r.beside (omega (arith, r.given)) r.timed r.tables r.spans
    (All-with_last (All (IsGiftInRange p)) (All (IsGiftInRange p)) f c.gifts (λ list all. all) changes r.gifts) r

-- with one more weight
pub weight-ranged : (p : Problem) (before : Draft) (w : Weight) → IsWeightInRange p w → IsInRange p before.certificate → IsInRange p (with_weight before w).certificate
weight-ranged p before w fits r =
    let share : (x : ClassShare) → IsShareInRange p x → IsShareInRange p (and_weight w x) = λ x s. record {
      arc = s.arc;
      point = s.point;
      price = s.price;
      weights = All-push (IsWeightInRange p) x.weights w s.weights fits;
    } in
    let span : (x : ClassSpan) → IsSpanInRange p x → IsSpanInRange p (and_span_weight w x) = λ x s. record {
      arc = s.arc;
      point = s.point;
      some = s.some;
      until = s.until;
      money = s.money;
      charge = s.charge;
      weights = All-push (IsWeightInRange p) x.weights w s.weights fits;
      groups = s.groups;
    } in
    elim (cases_Bool (has_span before.certificate.spans)) [
      | inl some ↦ rw some (with-last-spans p before.certificate (with_last (and_span_weight w))
          (λ list all. All-with_last (IsSpanInRange p) (IsSpanInRange p) (and_span_weight w) list (λ x s. s) span all) r)
      | inr none ↦ rw none (with-last-table p before.certificate (with_last (and_weight w))
          (λ table all. All-with_last (IsShareInRange p) (IsShareInRange p) (and_weight w) table (λ x s. s) share all) r)
    ]

-- with one more group
pub group-ranged : (p : Problem) (c : Statement) (m : ℕ) → IsGroupInRange m → IsInRange p c → IsInRange p (record c { spans = and_last_group m c.spans })
group-ranged p c m fits r =
    let span : (x : ClassSpan) → IsSpanInRange p x → IsSpanInRange p (and_group m x) = λ x s. record {
      arc = s.arc;
      point = s.point;
      some = s.some;
      until = s.until;
      money = s.money;
      charge = s.charge;
      weights = s.weights;
      groups = All-push IsGroupInRange x.groups m s.groups fits;
    } in
    with-last-spans p c (with_last (and_group m)) (λ list all. All-with_last (IsSpanInRange p) (IsSpanInRange p) (and_group m) list (λ x s. s) span all) r

-- the fastest time of an infeasible answer
pub time-range : (fields : List (List ℕ)) → has_time_in_range fields ≡ true → IfSome (time_in fields) (λ t. t ≤ LONGEST_FASTEST)
time-range fields h = elim (cases_Bool (has_word (codes "none") fields 3)) [
  | inl none ↦ rw none tt
  | inr some ↦
      let limit : is_between 0 LONGEST_FASTEST fields 3 ≡ true = rw some at h in
      rw some (is_between-limits 0 LONGEST_FASTEST fields 3 limit).1
]

-- a scale
pub scale-range : (p : Problem) (fields : List (List ℕ)) → has_bad_scale p fields ≡ false → IsScaleInRange p (number_at fields 1)
scale-range p fields h =
    let limits = is_between 1 GREATEST_SCALE fields 1 in
    let weight = weight_at (number_at fields 1) p.arcs p.shipments in
    let parts = and_parts limits (nat_lt weight (2 ^ 127)) (not-false (limits && nat_lt weight (2 ^ 127)) h) in
    let range = is_between-limits 1 GREATEST_SCALE fields 1 parts.0 in
    record { least = range.0; most = range.1; fits = ltb-true weight (2 ^ 127) parts.1 }

-- the end of a run
pub end-range : (fields : List (List ℕ)) (start place : ℕ) → ends_in_range fields start place ≡ true → (number_at fields start < number_at fields place) × (number_at fields place ≤ LATEST + 1)
end-range fields start place h =
    let limits = is_between-limits (number_at fields start + 1) (LATEST + 1) fields place h in
    (omega (arith, limits.0), limits.1)
