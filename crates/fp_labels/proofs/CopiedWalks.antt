-- A walk whose edges are copies of another walk's, with the same costs and tags: it is open where that is, costs the same and has
-- the same tags.
use Rattle.std.proofs.Common.{◌≡◌, ℕ, List, [], ◌∷◌, ⊎_elim, inl, inr, sym, ap, ◌∙◌, subst, arith}
use Rattle.std.specs.Prelude.{Option, IsSome, unwrap_or}
use Rattle.std.proofs.lemmas.List.Sums.{sum_by-cons}
use Rattle.fp_base_lists.specs.Elements.{AnyByRecursion}
use Rattle.fp_base_lists.proofs.Elements.{AllByRecursion-weaker}
use Rattle.fp_labels.specs.Walks.{IsOpen, cost_of, walk_cost}
use Rattle.fp_labels.specs.TaggedWalks.{HasTag, HasTags, tag_of}

-- the costs and the tags of edges
pub record Prices : Type 0 where
  pub costs : List (Option ℕ)
  pub tags : List (Option ℕ)

-- an edge has the cost and the tag that a copy of it has
pub record IsCopy (over copied : Prices) (e copy : ℕ) : Type 0 where
  pub cost : cost_of over.costs e ≡ cost_of copied.costs copy
  pub tag : tag_of over.tags e ≡ tag_of copied.tags copy

-- each edge of one walk is a copy of the edge of another at the same place
abbrev pub AreCopies : Prices → Prices → List ℕ → List ℕ → Type 0
AreCopies over copied [] [] = Unit {0}
AreCopies over copied [] (copy ∷ copies) = ⊥
AreCopies over copied (e ∷ walk) [] = ⊥
AreCopies over copied (e ∷ walk) (copy ∷ copies) = IsCopy over copied e copy × AreCopies over copied walk copies

-- what is a copy can be copied back
pub copies-back : (over copied : Prices) (walk copies : List ℕ) → AreCopies over copied walk copies → AreCopies copied over copies walk
copies-back over copied [] [] are = tt
copies-back over copied [] (copy ∷ copies) are = absurd are
copies-back over copied (e ∷ walk) [] are = absurd are
copies-back over copied (e ∷ walk) (copy ∷ copies) are =
    (record { cost = sym are.0.cost; tag = sym are.0.tag }, copies-back over copied walk copies are.1)

-- copies of open edges are open
pub copies-open : (over copied : Prices) (walk copies : List ℕ) → AreCopies over copied walk copies → IsOpen over.costs walk → IsOpen copied.costs copies
copies-open over copied [] [] are is_open = tt
copies-open over copied [] (copy ∷ copies) are is_open = absurd are
copies-open over copied (e ∷ walk) [] are is_open = absurd are
copies-open over copied (e ∷ walk) (copy ∷ copies) are is_open =
    (subst (λ (o : Option ℕ). IsSome o) are.0.cost is_open.0, copies-open over copied walk copies are.1 is_open.1)

-- copies cost the same
pub copies-cost : (over copied : Prices) (walk copies : List ℕ) → AreCopies over copied walk copies → walk_cost over.costs walk ≡ walk_cost copied.costs copies
copies-cost over copied [] [] are = omega arith
copies-cost over copied [] (copy ∷ copies) are = absurd are
copies-cost over copied (e ∷ walk) [] are = absurd are
copies-cost over copied (e ∷ walk) (copy ∷ copies) are =
    omega (
      arith,
      ap (λ (o : Option ℕ). unwrap_or o 0) are.0.cost,
      sum_by-cons (λ n. unwrap_or (cost_of over.costs n) 0) e walk,
      sum_by-cons (λ n. unwrap_or (cost_of copied.costs n) 0) copy copies,
      copies-cost over copied walk copies are.1,
    )

-- a tag of some edge is the tag of some copy
pub copies-tag : (over copied : Prices) (walk copies : List ℕ) (tag : ℕ) → AreCopies over copied walk copies → AnyByRecursion (HasTag over.tags tag) walk → AnyByRecursion (HasTag copied.tags tag) copies
copies-tag over copied [] [] tag are any = any
copies-tag over copied [] (copy ∷ copies) tag are any = absurd are
copies-tag over copied (e ∷ walk) [] tag are any = absurd are
copies-tag over copied (e ∷ walk) (copy ∷ copies) tag are any =
    ⊎_elim
    (λ (here : HasTag over.tags tag e). inl (sym are.0.tag ∙ here))
    (λ (later : AnyByRecursion (HasTag over.tags tag) walk). inr (copies-tag over copied walk copies tag are.1 later))
    any

-- so copies have the tags that the edges have
pub copies-tags : (over copied : Prices) (walk copies wanted : List ℕ) → AreCopies over copied walk copies → HasTags over.tags wanted walk → HasTags copied.tags wanted copies
copies-tags over copied walk copies wanted are =
    AllByRecursion-weaker (λ tag. AnyByRecursion (HasTag over.tags tag) walk) (λ tag. AnyByRecursion (HasTag copied.tags tag) copies)
    (λ tag any. copies-tag over copied walk copies tag are any) wanted
