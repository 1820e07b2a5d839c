-- The walks from the lower layer of a graph in two layers to the upper one are the walks of the graph that have an edge with the tag.
use Rattle.std.proofs.Common.{◌≡◌, ℕ, ◌+◌, ◌-◌, ◌<◌, ◌≤◌, true, false, cond, List, [], ◌∷◌, ◌++◌, length, ⊎_elim, inl, inr, refl, sym, ap, ◌∙◌, subst, arith}
use Rattle.std.specs.Prelude.{Bool, Option, None, Some}
use Rattle.std.proofs.lemmas.Bool.{cases_lt, eqb-true, eq-eqb, false≢true}
use Rattle.std.proofs.lemmas.List.{get_or_append_left, get_or-append-add}
use Rattle.fp_base_lists.specs.Elements.{AnyByRecursion}
use Rattle.fp_labels.specs.declared.graphs.Edge.{Edge}
use Rattle.fp_labels.specs.Graphs.{HasEnds, edge_at, no_edge}
use Rattle.fp_labels.specs.Walks.{Leads, cost_of}
use Rattle.fp_labels.specs.TaggedWalks.{HasTag, IsTaggedDistance, tag_of}
use Rattle.fp_labels.specs.Layers.{AreLayered, is_tag, upper_edge}
use Rattle.fp_labels.proofs.CopiedWalks.{AreCopies, IsCopy, Prices, copies-back, copies-cost, copies-open, copies-tags}

module _ (nodes tag : ℕ) (edges layered : List Edge) (costs : List (Option ℕ)) (tags : List (Option ℕ))
    (are : AreLayered nodes tag edges tags layered) (ends : HasEnds nodes edges) (costs_len : length costs ≡ length edges) (tags_len : length tags ≡ length edges) where
  abbrev over : Prices
  over = record { costs = costs; tags = tags }

  abbrev both : Prices
  both = record { costs = costs ++ costs; tags = tags ++ tags }

  -- the copies of an edge have its cost and its tag
  lower-copy : (e : ℕ) → e < length edges → IsCopy over both e e
  lower-copy e below =
      let in_costs : e < length costs = omega (arith, costs_len) in
      let in_tags : e < length tags = omega (arith, tags_len) in
      record {
        cost = sym (get_or_append_left costs costs None e in_costs);
        tag = sym (get_or_append_left tags tags None e in_tags);
      }

  upper-copy : (e : ℕ) → e < length edges → IsCopy over both e (length edges + e)
  upper-copy e below =
      record {
        cost = sym (get_or-append-add costs costs e None) ∙ ap (λ (n : ℕ). cost_of (costs ++ costs) (n + e)) costs_len;
        tag = sym (get_or-append-add tags tags e None) ∙ ap (λ (n : ℕ). tag_of (tags ++ tags) (n + e)) tags_len;
      }

  -- an edge has the tag where the test says so
  tag-is : (e : ℕ) → is_tag (tag_of tags e) tag ≡ true → HasTag tags tag e
  tag-is e is = own (tag_of tags e) is
    where
      own : (o : Option ℕ) → is_tag o tag ≡ true → o ≡ Some tag
      own None none = absurd (false≢true none)
      own (Some n) same = ap (λ (m : ℕ). Some m) (eqb-true n tag same)

  tag-is-not : (e : ℕ) → is_tag (tag_of tags e) tag ≡ false → HasTag tags tag e → ⊥
  tag-is-not e is has = false≢true (sym is ∙ ap (λ (o : Option ℕ). is_tag o tag) has ∙ eq-eqb tag tag refl)

  -- where the lower copy of an edge leads
  lower-to : (e : ℕ) → e < length edges → (has : Bool) → is_tag (tag_of tags e) tag ≡ has → (edge_at layered e).to ≡ cond has (nodes + (edge_at edges e).to) (edge_at edges e).to
  lower-to e below has is = ap (λ (x : Edge). x.to) (are.lower e below) ∙ ap (λ (b : Bool). cond b (nodes + (edge_at edges e).to) (edge_at edges e).to) is

  -- an edge past the lower copies is an upper copy
  upper-of : (copy : ℕ) → copy < length layered → length edges ≤ copy → (e : ℕ) × (e < length edges) × (length edges + e ≡ copy) × (edge_at layered copy ≡ upper_edge nodes (edge_at edges e))
  upper-of copy inside past =
      let e : ℕ = copy - length edges in
      let below : e < length edges = omega (arith, inside, are.len, past) in
      let same : length edges + e ≡ copy = omega (arith, past) in
      (e, below, same, ap (λ (n : ℕ). edge_at layered n) (sym same) ∙ are.upper e below)

  -- a walk has a copy from one place to a node's copy in the upper layer
  abbrev Lifted : List ℕ → ℕ → ℕ → Type 0
  Lifted walk place there = (copies : List ℕ) × Leads layered place copies (nodes + there) × AreCopies over both walk copies

  -- a walk has a copy in the upper layer
  lift-upper : (walk : List ℕ) (place here there : ℕ) → place ≡ nodes + here → Leads edges here walk there → Lifted walk place there
  lift-upper [] place here there at leads = ([], at ∙ ap (λ (n : ℕ). nodes + n) leads, tt)
  lift-upper (e ∷ walk) place here there at leads =
      let copy = are.upper e leads.0 in
      let rest = lift-upper walk (edge_at layered (length edges + e)).to (edge_at edges e).to there (ap (λ (x : Edge). x.to) copy) leads.2 in (
        (length edges + e) ∷ rest.0,
        (omega (arith, leads.0, are.len), ap (λ (x : Edge). x.from) copy ∙ ap (λ (n : ℕ). nodes + n) leads.1 ∙ sym at, rest.1),
        (upper-copy e leads.0, rest.2),
      )

  -- a walk with an edge of the tag has one from the lower layer to the upper one
  lift-lower : (walk : List ℕ) (place here there : ℕ) → place ≡ here → Leads edges here walk there → AnyByRecursion (HasTag tags tag) walk → Lifted walk place there
  lift-lower [] place here there at leads any = absurd any
  lift-lower (e ∷ walk) place here there at leads any =
      by_tag (λ next later. lift-lower walk (edge_at layered e).to (edge_at edges e).to there next leads.2 later) (is_tag (tag_of tags e) tag) refl
    where
      longer : Lifted walk (edge_at layered e).to there → Lifted (e ∷ walk) place there
      longer rest = (
        e ∷ rest.0,
        (omega (arith, leads.0, are.len), ap (λ (x : Edge). x.from) (are.lower e leads.0) ∙ leads.1 ∙ sym at, rest.1),
        (lower-copy e leads.0, rest.2),
      )

      by_tag : ((edge_at layered e).to ≡ (edge_at edges e).to → AnyByRecursion (HasTag tags tag) walk → Lifted walk (edge_at layered e).to there) →
          (is : Bool) → is_tag (tag_of tags e) tag ≡ is → Lifted (e ∷ walk) place there
      by_tag lifted true is = longer (lift-upper walk (edge_at layered e).to (edge_at edges e).to there (lower-to e leads.0 true is) leads.2)
      by_tag lifted false is = longer (lifted (lower-to e leads.0 false is)
          (⊎_elim (λ (here : HasTag tags tag e). absurd (tag-is-not e is here)) (λ (later : AnyByRecursion (HasTag tags tag) walk). later) any))

  -- a walk in the upper layer is a copy
  project-upper : (copies : List ℕ) (place here there : ℕ) → place ≡ nodes + here → Leads layered place copies (nodes + there) →
      (walk : List ℕ) × Leads edges here walk there × AreCopies over both walk copies
  project-upper [] place here there at leads = ([], omega (arith, at, leads), tt)
  project-upper (copy ∷ copies) place here there at leads =
      ⊎_elim
      (λ (low : copy < length edges).
      let from : (edge_at layered copy).from ≡ (edge_at edges copy).from = ap (λ (x : Edge). x.from) (are.lower copy low) in
      absurd (omega (arith, at, leads.1, from, (ends copy no_edge low).0)))
      (λ (high : length edges ≤ copy).
      let up = upper-of copy leads.0 high in
      let from : (edge_at layered copy).from ≡ nodes + (edge_at edges up.0).from = ap (λ (x : Edge). x.from) up.3 in
      let rest = project-upper copies (edge_at layered copy).to (edge_at edges up.0).to there (ap (λ (x : Edge). x.to) up.3) leads.2 in (
        up.0 ∷ rest.0,
        (up.1, omega (arith, at, leads.1, from), rest.1),
        (subst (λ (n : ℕ). IsCopy over both up.0 n) up.2 (upper-copy up.0 up.1), rest.2),
      ))
      (cases_lt copy (length edges))

  -- a walk is a copy of a walk that has an edge with the tag
  abbrev Projected : List ℕ → ℕ → ℕ → Type 0
  Projected copies here there = (walk : List ℕ) × Leads edges here walk there × AreCopies over both walk copies × AnyByRecursion (HasTag tags tag) walk

  -- a walk from the lower layer to the upper one is a copy of one that has an edge with the tag
  project-lower : (copies : List ℕ) (place here there : ℕ) → place ≡ here → here < nodes → Leads layered place copies (nodes + there) → Projected copies here there
  project-lower [] place here there at inside leads = absurd (omega (arith, at, inside, leads))
  project-lower (copy ∷ copies) place here there at inside leads =
      ⊎_elim
      (low (λ next below. project-lower copies (edge_at layered copy).to (edge_at edges copy).to there next (ends copy no_edge below).1 leads.2))
      high
      (cases_lt copy (length edges))
    where
      high : length edges ≤ copy → Projected (copy ∷ copies) here there
      high past =
          let up = upper-of copy leads.0 past in
          let from : (edge_at layered copy).from ≡ nodes + (edge_at edges up.0).from = ap (λ (x : Edge). x.from) up.3 in
          absurd (omega (arith, at, inside, leads.1, from))

      low : ((edge_at layered copy).to ≡ (edge_at edges copy).to → copy < length edges → Projected copies (edge_at edges copy).to there) → copy < length edges → Projected (copy ∷ copies) here there
      low later below = by_tag (is_tag (tag_of tags copy) tag) refl
        where
          from : (edge_at edges copy).from ≡ here
          from = sym (ap (λ (x : Edge). x.from) (are.lower copy below)) ∙ leads.1 ∙ at

          by_tag : (has : Bool) → is_tag (tag_of tags copy) tag ≡ has → Projected (copy ∷ copies) here there
          by_tag true has =
              let rest = project-upper copies (edge_at layered copy).to (edge_at edges copy).to there (lower-to copy below true has) leads.2 in
              (copy ∷ rest.0, (below, from, rest.1), (lower-copy copy below, rest.2), inl (tag-is copy has))
          by_tag false has =
              let rest = later (lower-to copy below false has) below in
              (copy ∷ rest.0, (below, from, rest.1), (lower-copy copy below, rest.2), inr rest.3)

  -- so the least cost from the lower layer to the upper one of walks with some tags is that of the walks that have the tag too
  pub layered-exact : (rest : List ℕ) (start end : ℕ) → start < nodes → (o : Option ℕ) → IsTaggedDistance layered (costs ++ costs) (tags ++ tags) rest start (nodes + end) o →
      IsTaggedDistance edges costs tags (tag ∷ rest) start end o
  layered-exact rest start end inside None none = λ walk leads is_open tagged.
      let lifted = lift-lower walk start start end refl leads tagged.0 in
      none lifted.0 lifted.1 (copies-open over both walk lifted.0 lifted.2 is_open) (copies-tags over both walk lifted.0 rest lifted.2 tagged.1)
  layered-exact rest start end inside (Some n) least =
      let down = project-lower least.walk start start end refl inside least.goes.leads in
      let back = copies-back over both down.0 least.walk down.2 in
      record {
        walk = down.0;
        goes = record {
          leads = down.1;
          open_edges = copies-open both over least.walk down.0 back least.goes.open_edges;
          costs_so = copies-cost over both down.0 least.walk down.2 ∙ least.goes.costs_so;
        };
        tagged = (down.3, copies-tags both over least.walk down.0 rest back least.tagged);
        least = λ other leads is_open tagged.
            (let lifted = lift-lower other start start end refl leads tagged.0 in
            let least_cost = least.least lifted.0 lifted.1 (copies-open over both other lifted.0 lifted.2 is_open) (copies-tags over both other lifted.0 rest lifted.2 tagged.1) in
            subst (λ (m : ℕ). n ≤ m) (sym (copies-cost over both other lifted.0 lifted.2)) least_cost);
      }
