-- Spans in order are gone through by the classes at which they begin.
use Rattle.std.proofs.Common.{◌≡◌, ℕ, ◌+◌, ◌*◌, ◌<◌, ◌≤◌, true, false, List, [], ◌∷◌, ◌++◌, length, take, drop, inl, inr, ⊎_elim, ◌⊎◌, refl, sym, ap, ◌∙◌, subst, arith, get_or-take, get_or-drop, length-drop, length-take-le}
use Rattle.std.specs.Prelude.{All, AllPairs, if◌then◌else◌}
use Rattle.std.proofs.lemmas.Bool.{cases_Bool, cases_lt}
use Rattle.std.proofs.lemmas.List.{take_all, take_more}
use Rattle.std.proofs.lemmas.List.Elements.{All-from_get_or, All-get_or, All-nil}
use Rattle.std.proofs.lemmas.List.Sums.{sum_by-take-drop, sum_by-take-le}
use Rattle.fp_model.specs.declared.parts.Leg.{Leg}
use Rattle.fp_model.specs.Problem.{Problem, arc_at}
use Rattle.fp_prices_spans.specs.HeldMoney.{AreSwept, BeginTogether, End, IsFirstBeside, TellMoney}
use Rattle.fp_prices_spans.specs.Spans.{ClassSpan}
use Rattle.fp_prices_spans.specs.SpanPrices.{holds, money_at}
use Rattle.fp_prices_spans.specs.SpanLists.{IsFirstOver, StandsBefore, no_span, span_at}
use Rattle.fp_prices_spans.specs.SpanRules.{KeepsMoneyRule}
use Rattle.fp_prices_spans.proofs.MoneySums.{holds-true, IsHeldBy}
use Rattle.fp_prices_spans.proofs.NoMoney.{money-none}

-- the class at which a span begins
abbrev pub start_of : ClassSpan → Leg
start_of span = record { arc = span.arc; depart = span.point }

module _ (p : Problem) (spans : List ClassSpan) (ordered : AllPairs StandsBefore spans) where
  abbrev at : ℕ → ClassSpan
  at k = span_at spans k

  -- a span doesn't begin before an earlier one
  arcs-rise : (i j : ℕ) → i < j → j < length spans → ((at i).arc < (at j).arc) ⊎ (((at i).arc ≡ (at j).arc) × ((at i).point ≤ (at j).point))
  arcs-rise i j lt inside =
      ⊎_elim
      (λ (less : (at i).arc < (at j).arc). inl less)
      (λ same. inr (same.0, ⊎_elim (λ (less : (at i).point < (at j).point). (omega (arith, less))) (λ also. omega (arith, also.0)) same.1))
      (ordered i j no_span lt inside)

  -- a span that begins later than another doesn't hold where that begins, nor do those after it
  later-holds : (first n k : ℕ) → first < n → n ≤ k → k < length spans → (BeginTogether (at first) (at n) → ⊥) → holds (at k) (start_of (at first)) ≡ false
  later-holds first n k lt le inside apart =
      ⊎_elim
      (λ (yes : holds (at k) (start_of (at first)) ≡ true).
      let held : IsHeldBy (at k) (start_of (at first)) = holds-true (at k) (start_of (at first)) yes in
      let arc : (at k).arc ≡ (at first).arc = held.arc in
      let from : (at k).point ≤ (at first).point = held.from in
      let one = arcs-rise first n lt (omega (arith, le, inside)) in
      let two : ((at n).arc < (at k).arc) ⊎ (((at n).arc ≡ (at k).arc) × ((at n).point ≤ (at k).point)) =
      ⊎_elim
      (λ (less : n < k). arcs-rise n k less inside)
      (λ (ge : k ≤ n). let same : k ≡ n = omega (arith, ge, le) in inr (ap (λ (i : ℕ). (at i).arc) (sym same), omega (arith, ap (λ (i : ℕ). (at i).point) same)))
      (cases_lt n k) in
      absurd
      (⊎_elim
      (λ (a : (at first).arc < (at n).arc).
      ⊎_elim (λ (b : (at n).arc < (at k).arc). omega (arith, a, b, arc)) (λ (b : ((at n).arc ≡ (at k).arc) × ((at n).point ≤ (at k).point)). omega (arith, a, b.0, arc)) two)
      (λ (a : ((at first).arc ≡ (at n).arc) × ((at first).point ≤ (at n).point)).
      ⊎_elim
      (λ (b : (at n).arc < (at k).arc). omega (arith, a.0, b, arc))
      (λ (b : ((at n).arc ≡ (at k).arc) × ((at n).point ≤ (at k).point)). apart (record { arc = a.0; point = omega (arith, a.1, b.1, from) }))
      two)
      one))
      (λ (no : holds (at k) (start_of (at first)) ≡ false). no)
      (cases_Bool (holds (at k) (start_of (at first))))

  -- so all the money there is that of the spans before it
  settled-money : (first n : ℕ) → first < n → n ≤ length spans → (n < length spans → BeginTogether (at first) (at n) → ⊥) → money_at spans (start_of (at first)) ≡ money_at (take n spans) (start_of (at first))
  settled-money first n lt le apart =
      let none : money_at (drop n spans) (start_of (at first)) ≡ 0 =
      money-none (drop n spans) (start_of (at first))
      (λ k within.
      let inside : n + k < length spans = omega (arith, within, length-drop n spans) in
      ap (λ (s : ClassSpan). holds s (start_of (at first))) (get_or-drop n spans k no_span) ∙ later-holds first n (n + k) lt (omega arith) inside (apart (omega (arith, inside)))) in
      omega (arith, none, sum_by-take-drop (λ (s : ClassSpan). if holds s (start_of (at first)) then s.money else 0) spans n)

  -- spans that begin together keep the rule alike
  keeps-together : (given : List ClassSpan) (s t : ClassSpan) → BeginTogether s t → KeepsMoneyRule p given s → KeepsMoneyRule p given t
  keeps-together given s t same keeps =
      subst (λ (point : ℕ). money_at given (record { arc = t.arc; depart = point }) ≤ p.scale * (arc_at p t.arc).truck) same.point
      (subst (λ (arc : ℕ). money_at given (record { arc = arc; depart = s.point }) ≤ p.scale * (arc_at p arc).truck) same.arc keeps)

  -- where the next span begins later, or there is none, all keep the rule that were gone through
  pub settled-all : (n first : ℕ) (ends : List End) (total : ℕ) → AreSwept p spans n first ends total → n ≤ length spans → (n < length spans → BeginTogether (at first) (at n) → ⊥) →
      All (KeepsMoneyRule p spans) (take n spans)
  settled-all n first ends total swept le apart =
      All-from_get_or (KeepsMoneyRule p spans) (take n spans) no_span
      (λ k within.
      let lt : k < n = omega (arith, within, length-take-le n spans le) in
      subst (KeepsMoneyRule p spans) (sym (get_or-take n spans k no_span lt))
      (⊎_elim
      (λ (below : k < first).
      subst (KeepsMoneyRule p spans) (get_or-take first spans k no_span below)
      (All-get_or (KeepsMoneyRule p spans) (take first spans) k no_span (omega (arith, below, swept.inside, length-take-le first spans (omega (arith, swept.inside, le)))) swept.settled))
      (λ (from : first ≤ k).
      keeps-together spans (at first) (at k) (swept.together k from lt)
      (omega (arith, swept.within, settled-money first n (omega (arith, from, lt)) le apart)))
      (cases_lt k first)))

  -- before the first span
  pub swept-start : (ends : List End) (total : ℕ) → ((arc from : ℕ) → TellMoney [] arc from ends total) → AreSwept p spans 0 0 ends total
  swept-start ends total told = record {
    inside = omega arith;
    settled = All-nil (KeepsMoneyRule p spans);
    together = λ k from lt. absurd (omega (arith, lt));
    within = omega arith;
    held = told (at 0).arc (at 0).point;
  }

  module _ (n first : ℕ) (ends : List End) (total : ℕ) (swept : AreSwept p spans n first ends total) (inside : n < length spans) where
    -- the next span begins no sooner than the first of those that begin together
    pub next-point : (at first).arc ≡ (at n).arc → (at first).point ≤ (at n).point
    next-point same =
        ⊎_elim
        (λ (lt : first < n). ⊎_elim (λ (less : (at first).arc < (at n).arc). (let le : (at first).point ≤ (at n).point = omega (arith, less, same) in le)) (λ also. also.1) (arcs-rise first n lt inside))
        (λ (ge : n ≤ first). let is : first ≡ n = omega (arith, ge, swept.inside) in omega (arith, ap (λ (i : ℕ). (at i).point) is))
        (cases_lt first n)

    -- where it is of another arc, no span before it has money there
    pub next-arc : ((at first).arc ≡ (at n).arc → ⊥) → (m : ℕ) → money_at (take n spans) (record { arc = (at n).arc; depart = m }) ≡ 0
    next-arc other m =
        let c : Leg = record { arc = (at n).arc; depart = m } in
        money-none (take n spans) c
        (λ k within.
        let lt : k < n = omega (arith, within, length-take-le n spans (omega (arith, inside))) in
        ap (λ (s : ClassSpan). holds s c) (get_or-take n spans k no_span lt)
        ∙ ⊎_elim
        (λ (yes : holds (at k) c ≡ true).
        let held : IsHeldBy (at k) c = holds-true (at k) c yes in
        let arc : (at k).arc ≡ (at n).arc = held.arc in
        absurd
        (⊎_elim
        (λ (below : k < first).
        let le : first ≤ n = swept.inside in
        let one = arcs-rise k first below (omega (arith, le, inside)) in
        ⊎_elim
        (λ (strict : first < n).
        let two = arcs-rise first n strict inside in
        ⊎_elim
        (λ (a : (at k).arc < (at first).arc). ⊎_elim (λ (b : (at first).arc < (at n).arc). omega (arith, a, b, arc)) (λ (b : ((at first).arc ≡ (at n).arc) × ((at first).point ≤ (at n).point)). other b.0) two)
        (λ (a : ((at k).arc ≡ (at first).arc) × ((at k).point ≤ (at first).point)). other (sym a.0 ∙ arc))
        one)
        (λ (ge : n ≤ first). other (ap (λ (i : ℕ). (at i).arc) (let is : first ≡ n = omega (arith, ge, le) in is)))
        (cases_lt first n))
        (λ (from : first ≤ k). let same = swept.together k from lt in other (same.arc ∙ arc))
        (cases_lt k first)))
        (λ (no : holds (at k) c ≡ false). no)
        (cases_Bool (holds (at k) c)))

    -- so the spans so far are counted at the next one, where that turns to its arc
    pub turned : (last next : ClassSpan) (left : List End) (sum : ℕ) → last ≡ at first → next ≡ at n →
        (TellMoney (take n spans) last.arc last.point ends total → (last.arc ≡ next.arc → last.point ≤ next.point) →
        ((last.arc ≡ next.arc → ⊥) → (m : ℕ) → money_at (take n spans) (record { arc = next.arc; depart = m }) ≡ 0) → TellMoney (take n spans) next.arc next.point left sum) →
        TellMoney (take n spans) next.arc next.point left sum
    turned last next left sum last_is next_is turn =
        let last_arc : last.arc ≡ (at first).arc = ap (λ (s : ClassSpan). s.arc) last_is in
        let next_arc : next.arc ≡ (at n).arc = ap (λ (s : ClassSpan). s.arc) next_is in
        turn (subst (λ (s : ClassSpan). TellMoney (take n spans) s.arc s.point ends total) (sym last_is) swept.held)
        (λ same.
        let le : (at first).point ≤ (at n).point = next-point (sym last_arc ∙ same ∙ next_arc) in
        omega (arith, le, ap (λ (s : ClassSpan). s.point) last_is, ap (λ (s : ClassSpan). s.point) next_is))
        (λ other m.
        subst (λ (arc : ℕ). money_at (take n spans) (record { arc = arc; depart = m }) ≡ 0) (sym next_arc)
        (next-arc (λ same. other (last_arc ∙ same ∙ sym next_arc)) m))

    -- with the next span they are the first ones, one more
    one-more : take (n + 1) spans ≡ take n spans ++ at n ∷ []
    one-more = take_more spans n no_span inside

    module _ (new : ℕ) (beside : IsFirstBeside spans first n new) where
      -- it begins together with the first beside it, and those before that keep the rule
      first-is : (BeginTogether (at new) (at n)) × (new ≤ n) × All (KeepsMoneyRule p spans) (take new spans) × ((k : ℕ) → new ≤ k → k < n → BeginTogether (at new) (at k))
      first-is =
          ⊎_elim
          (λ (yes : BeginTogether (at first) (at n) × (new ≡ first)).
          let back : first ≡ new = sym yes.1 in (
            subst (λ (i : ℕ). BeginTogether (at i) (at n)) back yes.0,
            omega (arith, yes.1, swept.inside),
            subst (λ (i : ℕ). All (KeepsMoneyRule p spans) (take i spans)) back swept.settled,
            λ k from lt. subst (λ (i : ℕ). BeginTogether (at i) (at k)) back (swept.together k (omega (arith, from, yes.1)) lt),
          ))
          (λ (no : (BeginTogether (at first) (at n) → ⊥) × (new ≡ n)).
          let back : n ≡ new = sym no.1 in (
            subst (λ (i : ℕ). BeginTogether (at i) (at n)) back (record { arc = refl; point = refl }),
            omega (arith, no.1),
            subst (λ (i : ℕ). All (KeepsMoneyRule p spans) (take i spans)) back (settled-all n first ends total swept (omega (arith, inside)) (λ _. no.0)),
            λ k from lt. absurd (omega (arith, from, lt, no.1)),
          ))
          beside

      -- the spans are gone through up to the next one, where they have no more money than they may
      pub swept-next : (more : List End) (sum : ℕ) → money_at (take n spans ++ at n ∷ []) (start_of (at n)) ≤ p.scale * (arc_at p (at n).arc).truck →
          TellMoney (take n spans ++ at n ∷ []) (at n).arc (at n).point more sum → AreSwept p spans (n + 1) new more sum
      swept-next more sum within told =
          let is = first-is in
          let back : BeginTogether (at n) (at new) = record { arc = sym is.0.arc; point = sym is.0.point } in
          record {
            inside = omega (arith, is.1);
            settled = is.2;
            together = λ k from lt.
                ⊎_elim (λ (less : k < n). is.3 k from less) (λ (ge : n ≤ k). subst (λ (i : ℕ). BeginTogether (at new) (at i)) (let same : n ≡ k = omega (arith, ge, lt) in same) is.0) (cases_lt k n);
            within = keeps-together (take (n + 1) spans) (at n) (at new) back (subst (λ (given : List ClassSpan). KeepsMoneyRule p given (at n)) (sym one-more) within);
            held = subst (λ (point : ℕ). TellMoney (take (n + 1) spans) (at new).arc point more sum) (sym is.0.point)
                (subst (λ (arc : ℕ). TellMoney (take (n + 1) spans) arc (at n).point more sum) (sym is.0.arc)
                (subst (λ (given : List ClassSpan). TellMoney given (at n).arc (at n).point more sum) (sym one-more) told));
          }

      -- where they have more, the first beside it is the first that breaks the rule
      pub swept-over : (money_at (take n spans ++ at n ∷ []) (start_of (at n)) ≤ p.scale * (arc_at p (at n).arc).truck → ⊥) → IsFirstOver p spans new
      swept-over over =
          let is = first-is in
          record {
            exists = omega (arith, is.1, inside);
            over = λ keeps.
                let all : KeepsMoneyRule p spans (at n) = keeps-together spans (at new) (at n) is.0 keeps in
                let part : money_at (take (n + 1) spans) (start_of (at n)) ≤ money_at spans (start_of (at n)) = sum_by-take-le (λ (s : ClassSpan). if holds s (start_of (at n)) then s.money else 0) spans (n + 1) in
                over (subst (λ (given : List ClassSpan). KeepsMoneyRule p given (at n)) one-more (omega (arith, all, part)));
            before = is.2;
          }

  -- where all were gone through, all keep the rule
  pub swept-all : (n first : ℕ) (ends : List End) (total : ℕ) → n ≡ length spans → AreSwept p spans n first ends total → All (KeepsMoneyRule p spans) spans
  swept-all n first ends total is swept =
      subst (All (KeepsMoneyRule p spans)) (take_all n spans (omega (arith, is))) (settled-all n first ends total swept (omega (arith, is)) (λ lt. absurd (omega (arith, lt, is))))
