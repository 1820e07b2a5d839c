use Rattle.std.proofs.Common.{◌≡◌, ℕ, ◌*◌, ◌<◌, ◌≤◌, List, [], ◌∷◌, ◌++◌, length, take, sym, ap, ◌∙◌, subst, arith}
use Rattle.std.specs.BinaryHeap.{heap_items}
use Rattle.std.proofs.lemmas.Bool.{false≢true}
use Rattle.std.proofs.lemmas.List.{get_or_read}
use Rattle.fp_model.specs.Problem.{arc_at}
use Rattle.fp_prices_spans.specs.HeldMoney.{TellMoney}
use Rattle.fp_prices_spans.specs.SpanLists.{no_span, span_at}
use Rattle.fp_prices_spans.specs.SpanPrices.{money_at}
use Rattle.fp_prices_spans.specs.Spans.{ClassSpan}
use Rattle.fp_prices_spans.proofs.SpanSweeps.{start_of, swept-all, swept-next, swept-over, swept-start, turned}
use Rattle.fp_prices_spans.proofs.rules.money_rule.first_over.Goals as goal

pub loop-number-init : goal.loop-number-init
loop-number-init c = swept-start c.args.instance.now c.args.spans.now c.requires.ordered (heap_items c.new-held.result.ends) c.new-held.result.total c.new-held.ensures

pub take-requires : goal.take-requires
take-requires c =
    let p = c.args.instance.now in
    let spans : List ClassSpan = c.args.spans.now in
    let n : ℕ = c.loop-number.number in
    let first : ℕ = c.loop-number.first in
    let swept = c.loop-number.invariant in
    let inside : n < length spans = omega arith in
    let next : c.index-spans-number.result ≡ span_at spans n = get_or_read spans n c.index-spans-number.result inside c.index-spans-number.is no_span in
    let last : c.index-spans-first.result ≡ span_at spans first = get_or_read spans first c.index-spans-first.result (omega (arith, inside, swept.inside)) c.index-spans-first.is no_span in
    let told =
    turned p spans c.requires.ordered n first (heap_items c.loop-number.held.ends) c.loop-number.held.total swept inside c.index-spans-first.result c.index-spans-number.result
    (heap_items c.turn.new.self.ends) c.turn.new.self.total last next (c.turn.ensures (take n spans)) in
    told.counted

pub returns-then-not-branch : goal.returns-then-not-branch
returns-then-not-branch c =
    let p = c.args.instance.now in
    let spans : List ClassSpan = c.args.spans.now in
    let n : ℕ = c.loop-number.number in
    let first : ℕ = c.loop-number.first in
    let swept = c.loop-number.invariant in
    let inside : n < length spans = omega arith in
    let next : c.index-spans-number.result ≡ span_at spans n = get_or_read spans n c.index-spans-number.result inside c.index-spans-number.is no_span in
    let last : c.index-spans-first.result ≡ span_at spans first = get_or_read spans first c.index-spans-first.result (omega (arith, inside, swept.inside)) c.index-spans-first.is no_span in
    let told =
    turned p spans c.requires.ordered n first (heap_items c.loop-number.held.ends) c.loop-number.held.total swept inside c.index-spans-first.result c.index-spans-number.result
    (heap_items c.turn.new.self.ends) c.turn.new.self.total last next (c.turn.ensures (take n spans)) in
    let most : c.most_money.result ≡ p.scale * (arc_at p c.index-spans-number.result.arc).truck =
    c.most_money.ensures ∙ ap (λ (s : ClassSpan). p.scale * (arc_at p s.arc).truck) c.span.view_is in
    swept-over p spans c.requires.ordered n first (heap_items c.loop-number.held.ends) c.loop-number.held.total swept inside c.first_beside-first.result c.first_beside-first.ensures
    (λ within.
    let here : money_at (take n spans ++ c.index-spans-number.result ∷ []) (start_of c.index-spans-number.result) ≤ p.scale * (arc_at p c.index-spans-number.result.arc).truck =
    subst (λ (s : ClassSpan). money_at (take n spans ++ s ∷ []) (start_of s) ≤ p.scale * (arc_at p s.arc).truck) (sym next) within in
    false≢true (sym c.if-not-branch.true ∙ (c.in_ok-take.ensures.within (take n spans) told).1 (omega (arith, here, most))))

pub loop-number-preserved : goal.loop-number-preserved
loop-number-preserved c =
    let p = c.args.instance.now in
    let spans : List ClassSpan = c.args.spans.now in
    let n : ℕ = c.loop-number.number in
    let first : ℕ = c.loop-number.first in
    let swept = c.loop-number.invariant in
    let inside : n < length spans = omega arith in
    let next : c.index-spans-number.result ≡ span_at spans n = get_or_read spans n c.index-spans-number.result inside c.index-spans-number.is no_span in
    let last : c.index-spans-first.result ≡ span_at spans first = get_or_read spans first c.index-spans-first.result (omega (arith, inside, swept.inside)) c.index-spans-first.is no_span in
    let told =
    turned p spans c.requires.ordered n first (heap_items c.loop-number.held.ends) c.loop-number.held.total swept inside c.index-spans-first.result c.index-spans-number.result
    (heap_items c.turn.new.self.ends) c.turn.new.self.total last next (c.turn.ensures (take n spans)) in
    let most : c.most_money.result ≡ p.scale * (arc_at p c.index-spans-number.result.arc).truck =
    c.most_money.ensures ∙ ap (λ (s : ClassSpan). p.scale * (arc_at p s.arc).truck) c.span.view_is in
    let here : money_at (take n spans ++ c.index-spans-number.result ∷ []) (start_of c.index-spans-number.result) ≤ p.scale * (arc_at p c.index-spans-number.result.arc).truck =
    omega (arith, (c.in_ok-take.ensures.within (take n spans) told).0 c.if-not-branch.false, most) in
    swept-next p spans c.requires.ordered n first (heap_items c.loop-number.held.ends) c.loop-number.held.total swept inside c.first_beside-first.result c.first_beside-first.ensures
    (heap_items c.take.new.self.ends) c.take.new.self.total
    (subst (λ (s : ClassSpan). money_at (take n spans ++ s ∷ []) (start_of s) ≤ p.scale * (arc_at p s.arc).truck) next here)
    (subst (λ (s : ClassSpan). TellMoney (take n spans ++ s ∷ []) s.arc s.point (heap_items c.take.new.self.ends) c.take.new.self.total) next
    (c.in_ok-take.ensures.tells (take n spans) told c.if-not-branch.false))

pub returns : goal.returns
returns c =
    let spans : List ClassSpan = c.args.spans.now in
    let n : ℕ = c.loop-number.number in
    let all : n ≡ length spans = omega arith in
    swept-all c.args.instance.now spans c.requires.ordered n c.loop-number.first (heap_items c.loop-number.held.ends) c.loop-number.held.total all c.loop-number.invariant
