-- A line gives at most one more table, share or span.
use Rattle.std.proofs.Common.{◌≡◌, ℕ, ◌+◌, ◌<◌, ◌≤◌, List, [], ◌∷◌, ◌++◌, length, refl, ap, arith, inl, inr}
use Rattle.std.specs.Prelude.{All, Option, Some, None, suc}
use Rattle.std.proofs.lemmas.Bool.{cases_Bool}
use Rattle.std.proofs.lemmas.List.{length_push}
use Rattle.std.proofs.lemmas.List.Elements.{All-push, All-weaker}
use Rattle.fp_model.specs.Problem.{Problem}
use Rattle.fp_prices.specs.declared.tables.Weight.{Weight}
use Rattle.fp_prices.specs.Shares.{ClassShare}
use Rattle.fp_prices_spans.specs.Spans.{ClassSpan}
use Rattle.fp_records_fields.specs.Fields.{number_at}
use Rattle.fp_certificate.specs.declared.drafts.Draft.{Draft}
use Rattle.fp_certificate.specs.declared.lines.kinds.LineKind.{LineKind}
use Rattle.fp_certificate.specs.declared.lines.kinds.LineKind.TheVariants.{Direct, Optimal, Unfinished, Infeasible, Scale, Leg, Truck, Point, Table, Share, Span, ByArc, ByTime, ByTrucks, ByWay, Leaf, Narrow, End}
use Rattle.fp_certificate.specs.declared.lines.kinds.LineKind.TheVariants as kind
use Rattle.fp_certificate.specs.Kinds.{kind_of}
use Rattle.fp_certificate.specs.Reading.{with_kind, with_kind_of, with_line}
use Rattle.fp_certificate.specs.Tables.{and_group, and_share, and_span, and_span_weight, and_weight, has_span, share_in, span_in, weight_in, with_last, with_weight}
use Rattle.fp_certificate.proofs.LineRanges.{All-with_last}

-- a changed last element keeps the length
pub length-with_last : {A : Type 0} (f : A → A) (xs : List A) → length (with_last f xs) ≡ length xs
length-with_last f [] = refl
length-with_last f (x ∷ []) = refl
length-with_last f (x ∷ y ∷ xs) = ap (λ (n : ℕ). suc n) (length-with_last f (y ∷ xs))

-- how many tables a draft has
abbrev pub table_count : Draft → ℕ
table_count d = length d.certificate.tables

-- a weight gives no table
weight-count : (before : Draft) (w : Weight) → table_count (with_weight before w) ≡ table_count before
weight-count before w = elim (cases_Bool (has_span before.certificate.spans)) [
  | inl some ↦ rw some refl
  | inr none ↦ rw none (length-with_last (with_last (and_weight w)) before.certificate.tables)
]

kind-count : (p : Problem) (before : Draft) (kind : LineKind) (fields : List (List ℕ)) → table_count (with_kind p before kind fields) ≤ table_count before + 1
kind-count p before Direct fields = omega arith
kind-count p before Optimal fields = omega arith
kind-count p before Unfinished fields = omega arith
kind-count p before Infeasible fields = omega arith
kind-count p before Scale fields = omega arith
kind-count p before kind.Unit fields = omega arith
kind-count p before Leg fields = omega arith
kind-count p before Truck fields = omega arith
kind-count p before Point fields = omega arith
kind-count p before Table fields = omega (arith, length_push before.certificate.tables [])
kind-count p before Share fields = omega (arith, length-with_last (and_share (share_in p fields)) before.certificate.tables)
kind-count p before Span fields = omega arith
kind-count p before kind.Weight fields = omega (arith, weight-count before (weight_in p fields))
kind-count p before kind.Group fields = omega arith
kind-count p before kind.Gift fields = omega arith
kind-count p before ByArc fields = omega arith
kind-count p before ByTime fields = omega arith
kind-count p before ByTrucks fields = omega arith
kind-count p before ByWay fields = omega arith
kind-count p before Leaf fields = omega arith
kind-count p before Narrow fields = omega arith
kind-count p before End fields = omega arith

maybe-count : (p : Problem) (before : Draft) (kind : Option LineKind) (fields : List (List ℕ)) → table_count (with_kind_of p before kind fields) ≤ table_count before + 1
maybe-count p before None fields = omega arith
maybe-count p before (Some kind) fields = kind-count p before kind fields

pub line-count : (p : Problem) (before : Draft) (fields : List (List ℕ)) → table_count (with_line p before fields) ≤ table_count before + 1
line-count p before fields = maybe-count p before (kind_of fields) fields

-- there are fewer lists, and fewer elements in each of them, than so many
pub record AreFewerThan (A : Type 0) (n : ℕ) (lists : List (List A)) : Type 0 where
  pub few_lists : length lists < n
  pub few_elements : All (λ (list : List A). length list < n) lists

-- fewer than so many are fewer than more
pub fewer-than : {A : Type 0} (m n : ℕ) (lists : List (List A)) → m ≤ n → AreFewerThan A m lists → AreFewerThan A n lists
fewer-than {A} m n lists le few = record {
  few_lists = omega (arith, few.few_lists);
  few_elements = All-weaker (λ (list : List A). length list < m) (λ (list : List A). length list < n) (λ list lt. omega arith) lists few.few_elements;
}

-- one more list, which is empty
one-more : {A : Type 0} (n : ℕ) (lists : List (List A)) → AreFewerThan A n lists → AreFewerThan A (n + 1) (lists ++ ([] ∷ []))
one-more {A} n lists few =
    let more = fewer-than n (n + 1) lists (omega arith) few in
    record {
      few_lists = omega (arith, few.few_lists, length_push lists []);
      few_elements = All-push (λ (list : List A). length list < n + 1) lists [] more.few_elements (omega arith);
    }

-- a changed last list has at most one element more
last-fewer : {A : Type 0} (n : ℕ) (f : List A → List A) (lists : List (List A)) → ((list : List A) → length (f list) ≤ length list + 1)
    → AreFewerThan A n lists → AreFewerThan A (n + 1) (with_last f lists)
last-fewer {A} n f lists grows few = record {
  few_lists = omega (arith, few.few_lists, length-with_last f lists);
  few_elements = All-with_last (λ (list : List A). length list < n) (λ (list : List A). length list < n + 1) f lists
      (λ list lt. omega arith) (λ list lt. omega (arith, grows list)) few.few_elements;
}

-- tables and lists of spans are fewer than so many, and so are the shares and the spans of each
pub record AreCounted (n : ℕ) (tables : List (List ClassShare)) (spans : List (List ClassSpan)) : Type 0 where
  pub few_shares : AreFewerThan ClassShare n tables
  pub few_spans : AreFewerThan ClassSpan n spans

-- fewer than so many are fewer than more
pub counted-more : (m n : ℕ) (tables : List (List ClassShare)) (spans : List (List ClassSpan)) → m ≤ n → AreCounted m tables spans → AreCounted n tables spans
counted-more m n tables spans le few = record { few_shares = fewer-than m n tables le few.few_shares; few_spans = fewer-than m n spans le few.few_spans }

-- a line that gives neither a table nor a share nor a span
kept : (before : Draft) (n : ℕ) → AreCounted n before.certificate.tables before.certificate.spans → AreCounted (n + 1) before.certificate.tables before.certificate.spans
kept before n few = counted-more n (n + 1) before.certificate.tables before.certificate.spans (omega arith) few

-- a weight
weight-fewer : (before : Draft) (n : ℕ) (w : Weight) → AreCounted n before.certificate.tables before.certificate.spans
    → AreCounted (n + 1) (with_weight before w).certificate.tables (with_weight before w).certificate.spans
weight-fewer before n w few =
    let more = kept before n few in
    elim (cases_Bool (has_span before.certificate.spans)) [
      | inl some ↦ rw some (record {
        few_shares = more.few_shares;
        few_spans = last-fewer n (with_last (and_span_weight w)) before.certificate.spans (λ list. omega (arith, length-with_last (and_span_weight w) list)) few.few_spans;
      })
      | inr none ↦ rw none (record {
        few_shares = last-fewer n (with_last (and_weight w)) before.certificate.tables (λ list. omega (arith, length-with_last (and_weight w) list)) few.few_shares;
        few_spans = more.few_spans;
      })
    ]

kind-fewer : (p : Problem) (before : Draft) (n : ℕ) (kind : LineKind) (fields : List (List ℕ)) → AreCounted n before.certificate.tables before.certificate.spans
    → AreCounted (n + 1) (with_kind p before kind fields).certificate.tables (with_kind p before kind fields).certificate.spans
kind-fewer p before n Direct fields few = kept before n few
kind-fewer p before n Optimal fields few = kept before n few
kind-fewer p before n Unfinished fields few = kept before n few
kind-fewer p before n Infeasible fields few = kept before n few
kind-fewer p before n Scale fields few = kept before n few
kind-fewer p before n kind.Unit fields few = kept before n few
kind-fewer p before n Leg fields few = kept before n few
kind-fewer p before n Truck fields few = kept before n few
kind-fewer p before n Point fields few = kept before n few
kind-fewer p before n Table fields few = record {
  few_shares = one-more n before.certificate.tables few.few_shares;
  few_spans = one-more n before.certificate.spans few.few_spans;
}
kind-fewer p before n Share fields few = record {
  few_shares = last-fewer n (and_share (share_in p fields)) before.certificate.tables (λ table. omega (arith, length_push table (share_in p fields))) few.few_shares;
  few_spans = (kept before n few).few_spans;
}
kind-fewer p before n Span fields few = record {
  few_shares = (kept before n few).few_shares;
  few_spans = last-fewer n (and_span (span_in p fields)) before.certificate.spans (λ list. omega (arith, length_push list (span_in p fields))) few.few_spans;
}
kind-fewer p before n kind.Weight fields few = weight-fewer before n (weight_in p fields) few
kind-fewer p before n kind.Group fields few = record {
  few_shares = (kept before n few).few_shares;
  few_spans = last-fewer n (with_last (and_group (number_at fields 1))) before.certificate.spans (λ list. omega (arith, length-with_last (and_group (number_at fields 1)) list)) few.few_spans;
}
kind-fewer p before n kind.Gift fields few = kept before n few
kind-fewer p before n ByArc fields few = kept before n few
kind-fewer p before n ByTime fields few = kept before n few
kind-fewer p before n ByTrucks fields few = kept before n few
kind-fewer p before n ByWay fields few = kept before n few
kind-fewer p before n Leaf fields few = kept before n few
kind-fewer p before n Narrow fields few = kept before n few
kind-fewer p before n End fields few = kept before n few

maybe-fewer : (p : Problem) (before : Draft) (n : ℕ) (kind : Option LineKind) (fields : List (List ℕ)) → AreCounted n before.certificate.tables before.certificate.spans
    → AreCounted (n + 1) (with_kind_of p before kind fields).certificate.tables (with_kind_of p before kind fields).certificate.spans
maybe-fewer p before n None fields few = kept before n few
maybe-fewer p before n (Some kind) fields few = kind-fewer p before n kind fields few

-- a line gives at most one more table, one more share or one more span
pub line-fewer : (p : Problem) (before : Draft) (n : ℕ) (fields : List (List ℕ)) → AreCounted n before.certificate.tables before.certificate.spans
    → AreCounted (n + 1) (with_line p before fields).certificate.tables (with_line p before fields).certificate.spans
line-fewer p before n fields few = maybe-fewer p before n (kind_of fields) fields few
