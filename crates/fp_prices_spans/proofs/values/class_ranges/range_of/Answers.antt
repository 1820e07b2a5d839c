use Rattle.std.proofs.Common.{◌≡◌, ℕ, ◌+◌, ◌<◌, List, length, sym, ap, ◌∙◌, subst, arith}
use Rattle.fp_base_lists.specs.Ascending.{IsPlaceIn}
use Rattle.fp_model.specs.declared.parts.Arc.{Arc}
use Rattle.fp_longestarcs.specs.Networks.{first_class, points_in, tail_in}
use Rattle.fp_longestarcs.proofs.HeadLists.{arc-count}
use Rattle.fp_allowed.specs.Listing.{class_at}
use Rattle.fp_prices_spans.specs.SpanPrices.{holds}
use Rattle.fp_prices_spans.specs.Spans.{ClassSpan}
use Rattle.fp_prices_spans.proofs.Between.{between}
use Rattle.fp_prices_spans.proofs.RangeClasses.{AreClassesOf, classes-of, range-told}
use Rattle.fp_prices_spans.proofs.values.class_ranges.range_of.Goals as goal

pub overflow_cast-from : goal.overflow_cast-from
overflow_cast-from c =
    let arc : c.span.inside.arc ≡ c.args.span.now.arc = ap (λ (s : ClassSpan). s.arc) c.span.view_is in
    let exists : c.span.inside.arc < length c.args.instance.now.arcs = omega (arith, arc, c.requires.arc) in
    let are : AreClassesOf c.args.network.now c.span.inside.arc c.class-first.result c.points-points.result.now =
    classes-of c.args.instance.now c.args.network.now c.span.inside.arc c.class-first.result c.points-points.result.now c.requires.whole exists c.class-first.ensures.number
    (c.points-points.ensures.same ∙ ap (λ (a : Arc). points_in c.args.network.now a.from) c.arc.ensures.same) in
    omega (arith, are.within, are.few, c.place_among-from.ensures.parts.within)

pub overflow_cast-until : goal.overflow_cast-until
overflow_cast-until c =
    let arc : c.span.inside.arc ≡ c.args.span.now.arc = ap (λ (s : ClassSpan). s.arc) c.span.view_is in
    let exists : c.span.inside.arc < length c.args.instance.now.arcs = omega (arith, arc, c.requires.arc) in
    let are : AreClassesOf c.args.network.now c.span.inside.arc c.class-first.result c.points-points.result.now =
    classes-of c.args.instance.now c.args.network.now c.span.inside.arc c.class-first.result c.points-points.result.now c.requires.whole exists c.class-first.ensures.number
    (c.points-points.ensures.same ∙ ap (λ (a : Arc). points_in c.args.network.now a.from) c.arc.ensures.same) in
    omega (arith, are.within, are.few, c.place_among-until.ensures.parts.within)

pub overflow_add-result : goal.overflow_add-result
overflow_add-result c =
    let arc : c.span.inside.arc ≡ c.args.span.now.arc = ap (λ (s : ClassSpan). s.arc) c.span.view_is in
    let exists : c.span.inside.arc < length c.args.instance.now.arcs = omega (arith, arc, c.requires.arc) in
    let are : AreClassesOf c.args.network.now c.span.inside.arc c.class-first.result c.points-points.result.now =
    classes-of c.args.instance.now c.args.network.now c.span.inside.arc c.class-first.result c.points-points.result.now c.requires.whole exists c.class-first.ensures.number
    (c.points-points.ensures.same ∙ ap (λ (a : Arc). points_in c.args.network.now a.from) c.arc.ensures.same) in
    omega (arith, are.within, are.few, c.place_among-from.ensures.parts.within)

pub overflow_add-result-2 : goal.overflow_add-result-2
overflow_add-result-2 c =
    let arc : c.span.inside.arc ≡ c.args.span.now.arc = ap (λ (s : ClassSpan). s.arc) c.span.view_is in
    let exists : c.span.inside.arc < length c.args.instance.now.arcs = omega (arith, arc, c.requires.arc) in
    let are : AreClassesOf c.args.network.now c.span.inside.arc c.class-first.result c.points-points.result.now =
    classes-of c.args.instance.now c.args.network.now c.span.inside.arc c.class-first.result c.points-points.result.now c.requires.whole exists c.class-first.ensures.number
    (c.points-points.ensures.same ∙ ap (λ (a : Arc). points_in c.args.network.now a.from) c.arc.ensures.same) in
    omega (arith, are.within, are.few, c.place_among-from.ensures.parts.within, c.place_among-until.ensures.parts.within, c.max.ensures)

pub returns : goal.returns
returns c =
    let net = c.args.network.now in
    let span : ClassSpan = c.args.span.now in
    let arc : c.span.inside.arc ≡ span.arc = ap (λ (s : ClassSpan). s.arc) c.span.view_is in
    let exists : c.span.inside.arc < length c.args.instance.now.arcs = omega (arith, arc, c.requires.arc) in
    let are : AreClassesOf net c.span.inside.arc c.class-first.result c.points-points.result.now =
    classes-of c.args.instance.now net c.span.inside.arc c.class-first.result c.points-points.result.now c.requires.whole exists c.class-first.ensures.number
    (c.points-points.ensures.same ∙ ap (λ (a : Arc). points_in net a.from) c.arc.ensures.same) in
    let points : c.points-points.result.now ≡ points_in net (tail_in net span.arc) = are.points ∙ ap (λ (a : ℕ). points_in net (tail_in net a)) arc in
    let begin : c.class-first.result ≡ first_class net span.arc = are.begin ∙ ap (λ (a : ℕ). first_class net a) arc in
    let from_is : IsPlaceIn (points_in net (tail_in net span.arc)) span.point c.place_among-from.result =
    subst (λ (l : List ℕ). IsPlaceIn l span.point c.place_among-from.result) points
    (subst (λ (q : ℕ). IsPlaceIn c.points-points.result.now q c.place_among-from.result) (ap (λ (s : ClassSpan). s.point) c.span.view_is) c.place_among-from.ensures.parts) in
    let until_is : IsPlaceIn (points_in net (tail_in net span.arc)) span.until c.place_among-until.result =
    subst (λ (l : List ℕ). IsPlaceIn l span.until c.place_among-until.result) points
    (subst (λ (q : ℕ). IsPlaceIn c.points-points.result.now q c.place_among-until.result) (ap (λ (s : ClassSpan). s.until) c.span.view_is) c.place_among-until.ensures.parts) in
    let inside : span.arc < length net.tails = omega (arith, c.requires.arc, arc-count c.args.instance.now net c.requires.whole.arcs) in
    let long : length c.points-points.result.now ≡ length (points_in net (tail_in net span.arc)) = ap (λ (l : List ℕ). length l) points in
    record {
      order = omega (arith, c.max.ensures);
      within = omega (arith, are.within, c.place_among-from.ensures.parts.within, c.place_among-until.ensures.parts.within, c.max.ensures);
      told = λ n within.
          subst (λ (first : ℕ). between (first + c.place_among-from.result) (first + c.max.result) n ≡ holds span (class_at net n)) (sym begin)
          (range-told net c.requires.whole.valid span inside c.place_among-from.result c.place_among-until.result c.max.result from_is until_is (omega (arith, c.max.ensures)) (λ k low high. omega (arith, low, high, c.max.ensures))
          (omega (arith, long, c.place_among-from.ensures.parts.within, c.place_among-until.ensures.parts.within, c.max.ensures)) n within);
    }
