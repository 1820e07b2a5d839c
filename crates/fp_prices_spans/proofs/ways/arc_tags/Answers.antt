use Rattle.std.proofs.Common.{rules, ◌≡◌, ℕ, ◌+◌, ◌<◌, ◌≤◌, List, [], ◌∷◌, ◌++◌, length, ⊎_elim, ap, ◌∙◌, subst, arith}
use Rattle.std.specs.Prelude.{Option, None}
use Rattle.std.proofs.lemmas.Bool.{cases_lt}
use Rattle.std.proofs.lemmas.List.{get_or_append_left, get_or_push, length-append}
use Rattle.fp_longestarcs.specs.Networks.{TimedNetwork}
use Rattle.fp_labels.specs.TaggedWalks.{tag_of}
use Rattle.fp_prices_spans.specs.TaggedEdges.{AreArcTags, arc_tag}
use Rattle.fp_prices_spans.proofs.ways.arc_tags.Goals as goal

pub loop-edge-init : goal.loop-edge-init
loop-edge-init c = record { count = search rules; each = λ n below. absurd (omega (arith, below)) }

-- one edge more has its tag
tags-more : (net : TimedNetwork) (edges : ℕ) (tags new : List (Option ℕ)) (tag : Option ℕ) → tag ≡ arc_tag net edges → new ≡ tags ++ (tag ∷ []) → AreArcTags net edges tags → AreArcTags net (edges + 1) new
tags-more net edges tags new tag is pushed are = record {
  count = ap (λ (l : List (Option ℕ)). length l) pushed ∙ length-append tags (tag ∷ []) ∙ ap (λ (n : ℕ). n + 1) are.count;
  each = λ n below.
      ap (λ (l : List (Option ℕ)). tag_of l n) pushed
      ∙ ⊎_elim
      (λ (before : n < edges). get_or_append_left tags (tag ∷ []) None n (omega (arith, before, are.count)) ∙ are.each n before)
      (λ (not : edges ≤ n).
      let here : length tags ≡ n = omega (arith, not, below, are.count) in
      get_or_push tags tag None n here ∙ is ∙ ap (arc_tag net) (let e : edges ≡ n = omega (arith, not, below) in e))
      (cases_lt n edges);
}

pub loop-edge-preserved : goal.loop-edge-preserved
loop-edge-preserved c =
    tags-more c.args.network.now c.loop-edge.edge c.loop-edge.tags.items c.push.new.self.items c.arc_tag.result c.arc_tag.ensures c.in_ok-push.ensures.items c.loop-edge.invariant

pub returns : goal.returns
returns c =
    let all : c.loop-edge.edge ≡ c.args.edges = omega (arith, c.loop-edge-test.false, c.loop-edge.auto.edge-end) in
    subst (λ (n : ℕ). AreArcTags c.args.network.now n c.loop-edge.tags.items) all c.loop-edge.invariant
