-- The items of a group, weight by weight.
use Rattle.std.proofs.Common.{◌≡◌, ℕ, ◌+◌, ◌<◌, Bool, true, false, List, [], ◌∷◌, ◌++◌, length, take, ap, ◌∙◌}
use Rattle.std.specs.Prelude.{filter}
use Rattle.std.proofs.lemmas.Bool.{cond-false, cond-true}
use Rattle.std.proofs.lemmas.List.{append-nil, map-append}
use Rattle.std.proofs.lemmas.List.Elements.{filter_more}
use Rattle.fp_model.specs.Problem.{Problem}
use Rattle.fp_prices.specs.declared.tables.Weight.{Weight}
use Rattle.fp_prices_spans.specs.SpanCharges.{item_of, items_of}
use Rattle.fp_prices_spans.proofs.PlaceSets.{no_weight, weight_at}

module _ (p : Problem) (test : Weight → Bool) (weights : List Weight) (i : ℕ) (inside : i < length weights) where
  -- one more weight that passes is one more item
  pub items-with : test (weight_at weights i) ≡ true → items_of p (filter test (take (i + 1) weights)) ≡ items_of p (filter test (take i weights)) ++ item_of p (weight_at weights i) ∷ []
  items-with passes =
      let w : Weight = weight_at weights i in
      ap (items_of p) (filter_more test weights i no_weight inside ∙ ap (λ (l : List Weight). filter test (take i weights) ++ l) (cond-true (test w) (w ∷ []) [] passes))
      ∙ map-append (item_of p) (filter test (take i weights)) (w ∷ [])

  -- one that doesn't is none
  pub items-without : test (weight_at weights i) ≡ false → items_of p (filter test (take (i + 1) weights)) ≡ items_of p (filter test (take i weights))
  items-without fails =
      let w : Weight = weight_at weights i in
      ap (items_of p) (filter_more test weights i no_weight inside ∙ ap (λ (l : List Weight). filter test (take i weights) ++ l) (cond-false (test w) (w ∷ []) [] fails) ∙ append-nil (filter test (take i weights)))
