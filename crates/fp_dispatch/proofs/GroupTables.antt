-- The table of the numbers of the groups, group by group.
use Rattle.std.proofs.Common.{◌≡◌, ◌∙◌, ℕ, ◌+◌, ◌*◌, ◌<◌, Option, Some, None, List, [], length, get_or, refl, sym, subst, arith, ⊎_elim}
use Rattle.std.specs.Prelude.{All, Contains, MatchOption}
use Rattle.std.proofs.lemmas.Bool.{cases_eq}
use Rattle.fp_model.specs.declared.parts.Member.{Member}
use Rattle.fp_model.specs.Members.{IsMemberOf}
use Rattle.fp_dispatch.specs.Rising.{AreGroupNumbers, IsWide, place_of, set_each}
use Rattle.fp_dispatch.proofs.TableEntries.{place_of-lt, place_of-same, set_each-at, set_each-cases}
use Rattle.std.proofs.lemmas.List.Elements.{All-contains}

module _ (routes : List (List ℕ)) (groups : List (List Member)) (width number : ℕ) (table : List (Option ℕ)) (wide : IsWide routes width)
    (long : length table ≡ length routes * width) (members : All (IsMemberOf routes) (get_or groups number [])) where
  -- the table with the number of one more group
  pub AreGroupNumbers-next : AreGroupNumbers routes groups width number table →
      AreGroupNumbers routes groups width (number + 1) (set_each width (get_or groups number []) (Some number) table)
  AreGroupNumbers-next before m is = by (get_or new (place_of width m) None) refl
    where
      new : List (Option ℕ)
      new = set_each width (get_or groups number []) (Some number) table

      place : place_of width m < length table
      place = omega (arith, place_of-lt routes width m wide is, long)

      kept-none : (o : Option ℕ) → o ≡ None → MatchOption o ((g : ℕ) → g < number → Contains (get_or groups g []) m → ⊥) (λ g. (g < number) × Contains (get_or groups g []) m) →
          (g : ℕ) → g < number → Contains (get_or groups g []) m → ⊥
      kept-none None e fact = fact
      kept-none (Some h) e fact = absurd (let x : ◌≡◌ {A = Option ℕ} (Some h) None = e in cc)

      kept-some : (o : Option ℕ) (h : ℕ) → o ≡ Some h → MatchOption o ((g : ℕ) → g < number → Contains (get_or groups g []) m → ⊥) (λ g. (g < number) × Contains (get_or groups g []) m) →
          (h < number) × Contains (get_or groups h []) m
      kept-some None h e fact = absurd (let x : ◌≡◌ {A = Option ℕ} None (Some h) = e in cc)
      kept-some (Some i) h e fact = let same : i ≡ h = cc in subst (λ (j : ℕ). (j < number) × Contains (get_or groups j []) m) same fact

      by : (o : Option ℕ) → get_or new (place_of width m) None ≡ o →
          MatchOption o ((g : ℕ) → g < number + 1 → Contains (get_or groups g []) m → ⊥) (λ g. (g < number + 1) × Contains (get_or groups g []) m)
      by None e = λ g lt has.
          ⊎_elim
          (λ (same : g ≡ number).
          let here : Contains (get_or groups number []) m = subst (λ (j : ℕ). Contains (get_or groups j []) m) same has in
          let there : get_or new (place_of width m) None ≡ Some number = set_each-at width (get_or groups number []) (Some number) table m None here place in
          absurd (let x : ◌≡◌ {A = Option ℕ} None (Some number) = sym e ∙ there in cc))
          (λ (other : g ≡ number → ⊥).
          ⊎_elim
          (λ (kept : get_or new (place_of width m) None ≡ get_or table (place_of width m) None).
          kept-none (get_or table (place_of width m) None) (sym kept ∙ e) (before m is) g (omega (arith, lt, other)) has)
          (λ (w : (n : Member) × Contains (get_or groups number []) n × (place_of width n ≡ place_of width m) × (get_or new (place_of width m) None ≡ Some number)).
          absurd (let x : ◌≡◌ {A = Option ℕ} None (Some number) = sym e ∙ w.3 in cc))
          (set_each-cases width (get_or groups number []) (Some number) table (place_of width m) None place))
          (cases_eq g number)
      by (Some h) e =
          ⊎_elim
          (λ (kept : get_or new (place_of width m) None ≡ get_or table (place_of width m) None).
          let old : (h < number) × Contains (get_or groups h []) m = kept-some (get_or table (place_of width m) None) h (sym kept ∙ e) (before m is) in
          (omega (arith, old.0), old.1))
          (λ (w : (n : Member) × Contains (get_or groups number []) n × (place_of width n ≡ place_of width m) × (get_or new (place_of width m) None ≡ Some number)).
          let x : ◌≡◌ {A = Option ℕ} (Some number) (Some h) = sym w.3 ∙ e in
          let number_is : number ≡ h = cc in
          let also : IsMemberOf routes w.0 = All-contains (IsMemberOf routes) (get_or groups number []) w.0 members w.1 in
          let one : w.0 ≡ m = place_of-same routes width w.0 m wide also is w.2 in
          (omega (arith, number_is), subst (λ (j : ℕ). Contains (get_or groups j []) m) number_is (subst (Contains (get_or groups number [])) one w.1)))
          (set_each-cases width (get_or groups number []) (Some number) table (place_of width m) None place)
