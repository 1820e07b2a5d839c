-- The list of too short legs, one leg after the other.
use Rattle.std.proofs.Common.{◌≡◌, ◌∙◌, ℕ, ◌+◌, ◌<◌, ◌≤◌, ◌⊎◌, List, [], ◌∷◌, ◌++◌, length, get_or, ⊎_elim, inl, inr, refl, sym, ap, ap₂, subst, arith}
use Rattle.std.specs.Prelude.{Contains}
use Rattle.std.proofs.lemmas.Bool.{cases_eq}
use Rattle.std.proofs.lemmas.List.Elements.{All-append, All-cons, All-nil, All-weaker, Contains-append_left, Contains-push}
use Rattle.std.proofs.lemmas.List.Quantifiers.{all_pairs_push}
use Rattle.fp_base_lists.proofs.Pairs.{AllPairs-nil}
use Rattle.fp_model.specs.declared.parts.Leg.{Leg}
use Rattle.fp_model.specs.declared.parts.Member.{Member}
use Rattle.fp_model.specs.Members.{MemberComesBefore}
use Rattle.fp_model.specs.Numbered.{route_at}
use Rattle.fp_model.specs.Problem.{Problem}
use Rattle.fp_shortarcs.specs.declared.shorts.Short.{Short}
use Rattle.fp_shortarcs.specs.Listing.{AreTooShortBefore}
use Rattle.fp_shortarcs.specs.TooShort.{AreTooShort, ComesBefore, IsShort, IsTooShort, member_of, short_of}

-- the leg of a shipment with a number
abbrev leg_named : ℕ → ℕ → Member
leg_named k i = record { shipment = k; leg = i }

-- what is listed comes before the leg
abbrev IsBefore : ℕ → ℕ → Short → Type 0
IsBefore k i t = MemberComesBefore (member_of t) (leg_named k i)

-- what comes before a leg and what is that leg come before the next one, and nothing else does
before-one_more : (k i : ℕ) (m : Member) → MemberComesBefore m (leg_named k i) → MemberComesBefore m (leg_named k (i + 1))
before-one_more k i m before =
    ⊎_elim (λ (h : m.shipment < k). inl h) (λ (h : (m.shipment ≡ k) × (m.leg < i)). inr (h.0, omega (arith, h.1))) before

itself-one_more : (k i : ℕ) → MemberComesBefore (leg_named k i) (leg_named k (i + 1))
itself-one_more k i = inr (refl, omega arith)

one_more-cases : (k i : ℕ) (m : Member) → MemberComesBefore m (leg_named k (i + 1)) → MemberComesBefore m (leg_named k i) ⊎ (m ≡ leg_named k i)
one_more-cases k i m before =
    ⊎_elim
    (λ (h : m.shipment < k). inl (inl h))
    (λ (h : (m.shipment ≡ k) × (m.leg < i + 1)).
    ⊎_elim
    (λ (same : m.leg ≡ i). inr (ap₂ (λ (a b : ℕ). leg_named a b) h.0 same))
    (λ (other : m.leg ≡ i → ⊥). inl (inr (h.0, omega (arith, h.1, other))))
    (cases_eq m.leg i))
    before

module _ (p : Problem) (points : ℕ → List ℕ) (walks : List (List Leg)) where
  -- no leg comes before the first one of the first shipment
  pub before-none : AreTooShortBefore p points walks (leg_named 0 0) []
  before-none = record {
    each = All-nil (IsShort p points walks);
    before = All-nil (IsBefore 0 0);
    ascending = AllPairs-nil ComesBefore;
    every = λ n before is. absurd (none n before);
  }
    where
      none : (n : Member) → MemberComesBefore n (leg_named 0 0) → ⊥
      none n before = ⊎_elim (λ (h : n.shipment < 0). omega (arith, h)) (λ (h : (n.shipment ≡ 0) × (n.leg < 0)). omega (arith, h.1)) before

  -- a leg that is too short joins the list
  pub before-push : (k i : ℕ) (shorts : List Short) (s : Short) → AreTooShortBefore p points walks (leg_named k i) shorts →
      IsTooShort p points walks (leg_named k i) → s ≡ short_of p walks (leg_named k i) → AreTooShortBefore p points walks (leg_named k (i + 1)) (shorts ++ (s ∷ []))
  before-push k i shorts s are is same = record {
    each = All-append (IsShort p points walks) shorts (s ∷ []) are.each
        (All-cons (IsShort p points walks) s [] (subst (λ (t : Short). IsShort p points walks t) (sym same) (record { leg = is; place = refl })) (All-nil (IsShort p points walks)));
    before = All-append (IsBefore k (i + 1)) shorts (s ∷ []) (All-weaker (IsBefore k i) (IsBefore k (i + 1)) (λ t. before-one_more k i (member_of t)) shorts are.before)
        (All-cons (IsBefore k (i + 1)) s [] (subst (λ (t : Short). IsBefore k (i + 1) t) (sym same) (itself-one_more k i)) (All-nil (IsBefore k (i + 1))));
    ascending = all_pairs_push ComesBefore shorts s are.ascending (λ j d lt. subst (λ (t : Short). ComesBefore (get_or shorts j d) t) (sym same) (are.before j d lt));
    every = λ n before there.
        ⊎_elim
        (λ (earlier : MemberComesBefore n (leg_named k i)). Contains-append_left shorts (s ∷ []) (short_of p walks n) (are.every n earlier there))
        (λ (here : n ≡ leg_named k i).
        let e : s ≡ short_of p walks n = same ∙ ap (short_of p walks) (sym here) in
        subst (λ (t : Short). Contains (shorts ++ (s ∷ [])) t) e (Contains-push shorts s))
        (one_more-cases k i n before);
  }

  -- a leg that is not too short leaves it
  pub before-skip : (k i : ℕ) (shorts : List Short) → AreTooShortBefore p points walks (leg_named k i) shorts →
      (IsTooShort p points walks (leg_named k i) → ⊥) → AreTooShortBefore p points walks (leg_named k (i + 1)) shorts
  before-skip k i shorts are not_short = record {
    each = are.each;
    before = All-weaker (IsBefore k i) (IsBefore k (i + 1)) (λ t. before-one_more k i (member_of t)) shorts are.before;
    ascending = are.ascending;
    every = λ n before there.
        ⊎_elim
        (λ (earlier : MemberComesBefore n (leg_named k i)). are.every n earlier there)
        (λ (here : n ≡ leg_named k i). absurd (not_short (subst (λ (m : Member). IsTooShort p points walks m) here there)))
        (one_more-cases k i n before);
  }

  -- from the last leg of a shipment it goes on to the first one of the next
  pub before-next : (k i : ℕ) (shorts : List Short) → AreTooShortBefore p points walks (leg_named k i) shorts → length (route_at walks k) ≤ i + 1 →
      AreTooShortBefore p points walks (leg_named (k + 1) 0) shorts
  before-next k i shorts are last = record {
    each = are.each;
    before = All-weaker (IsBefore k i) (IsBefore (k + 1) 0)
        (λ t before. ⊎_elim (λ (h : t.shipment < k). inl (omega (arith, h))) (λ (h : (t.shipment ≡ k) × (t.leg < i)). inl (omega (arith, h.0))) before) shorts are.before;
    ascending = are.ascending;
    every = λ n before there. are.every n (earlier n before there) there;
  }
    where
      earlier : (n : Member) → MemberComesBefore n (leg_named (k + 1) 0) → IsTooShort p points walks n → MemberComesBefore n (leg_named k i)
      earlier n before is =
          ⊎_elim
          (λ (h : n.shipment < k + 1).
          ⊎_elim
          (λ (same : n.shipment ≡ k).
          let more : n.leg + 1 < length (route_at walks k) = subst (λ (j : ℕ). n.leg + 1 < length (route_at walks j)) same is.onward.leg in
          inr (same, omega (arith, more, last)))
          (λ (other : n.shipment ≡ k → ⊥). inl (omega (arith, h, other)))
          (cases_eq n.shipment k))
          (λ (h : (n.shipment ≡ k + 1) × (n.leg < 0)). absurd (omega (arith, h.1)))
          before

  -- after the last shipment they are all of them
  pub AreTooShort-before : (k : ℕ) (shorts : List Short) → AreTooShortBefore p points walks (leg_named k 0) shorts → length walks ≤ k → AreTooShort p points walks shorts
  AreTooShort-before k shorts are last = record {
    each = are.each;
    ascending = are.ascending;
    every = λ n there. are.every n (inl (omega (arith, there.onward.shipment, last))) there;
  }
