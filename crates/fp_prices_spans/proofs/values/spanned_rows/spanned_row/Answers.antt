use Rattle.std.proofs.Common.{◌≡◌, ℕ, ◌<◌, Bool, false, List, length, get_or, ap, ◌∙◌, subst, arith}
use Rattle.std.proofs.lemmas.List.{get_or-replicate, get_or_read, length-replicate, take_all}
use Rattle.fp_longestarcs.specs.Networks.{TimedNetwork, class_count}
use Rattle.fp_allowed.specs.Bits.{bit_of}
use Rattle.fp_allowed.specs.Listing.{class_at}
use Rattle.fp_prices.specs.Rounds.{LeafModel}
use Rattle.fp_prices_spans.specs.ClassRanges.{IsRangeOf, is_spanned}
use Rattle.fp_prices_spans.specs.Spans.{ClassSpan}
use Rattle.fp_prices_spans.specs.SpanLists.{no_span}
use Rattle.fp_prices_spans.proofs.SpannedRows.{spanned-more}
use Rattle.fp_prices_spans.proofs.values.spanned_rows.spanned_row.Goals as goal

pub loop-span-init : goal.loop-span-init
loop-span-init c =
    let same : c.network.result.now ≡ c.args.pricing.now.leaf.setting.network = c.network.ensures.same ∙ c.round-round.ensures.network ∙ ap (λ (l : LeafModel). l.setting.network) c.leaf.ensures in
    let count : c.classes.result ≡ class_count c.args.pricing.now.leaf.setting.network = c.classes.ensures.count ∙ ap (λ (n : TimedNetwork). class_count n) same in
    record {
      long = ap (λ (r : List Bool). length r) c.in_ok-row.ensures ∙ length-replicate c.classes.result false ∙ count;
      told = λ chains are n within. ap (λ (r : List Bool). bit_of r n) c.in_ok-row.ensures ∙ get_or-replicate c.classes.result n false false (omega (arith, within, count));
    }

pub mark-requires-clause-within : goal.mark-requires-clause-within
mark-requires-clause-within c =
    let same : c.network-in-loop-span.result.now ≡ c.args.pricing.now.leaf.setting.network =
    c.network-in-loop-span.ensures.same ∙ c.round-round.ensures.network ∙ ap (λ (l : LeafModel). l.setting.network) c.leaf.ensures in
    omega (arith, c.range_of-range.ensures.within, ap (λ (n : TimedNetwork). class_count n) same)

pub loop-span-preserved : goal.loop-span-preserved
loop-span-preserved c =
    let spans : List ClassSpan = c.args.spans.now in
    let i : ℕ = c.loop-span.span-index in
    let inside : i < length spans = omega arith in
    let same : c.network-in-loop-span.result.now ≡ c.args.pricing.now.leaf.setting.network =
    c.network-in-loop-span.ensures.same ∙ c.round-round.ensures.network ∙ ap (λ (l : LeafModel). l.setting.network) c.leaf.ensures in
    let range : IsRangeOf c.args.pricing.now.leaf.setting.network (get_or spans i no_span) c.range_of-range.result =
    subst (λ (s : ClassSpan). IsRangeOf c.args.pricing.now.leaf.setting.network s c.range_of-range.result) (get_or_read spans i c.span-item.result inside c.span-item.is no_span)
    (subst (λ (n : TimedNetwork). IsRangeOf n c.span-item.result c.range_of-range.result) same c.range_of-range.ensures) in
    record {
      long = c.mark.ensures.long ∙ c.loop-span.invariant.long;
      told = λ chains are.
          spanned-more c.args.pricing.now.leaf.setting.network spans i chains c.range_of-range.result c.loop-span.row c.mark.new.row inside range (c.loop-span.invariant.told chains are) (c.mark.ensures.told chains are);
    }

pub returns : goal.returns
returns c =
    let whole = take_all c.loop-span.span-index c.args.spans.now (omega arith) in
    record {
      long = c.loop-span.invariant.long;
      told = λ chains are n within. c.loop-span.invariant.told chains are n within ∙ ap (λ (l : List ClassSpan). is_spanned l chains (class_at c.args.pricing.now.leaf.setting.network n)) whole;
    }
