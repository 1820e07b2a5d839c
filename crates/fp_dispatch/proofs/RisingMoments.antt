-- Moments stay what no choice comes before, and within their windows, while legs are raised and
-- looked at.
use Rattle.std.proofs.Common.{◌≡◌, ◌∙◌, ℕ, zero, suc, ◌+◌, ◌*◌, ◌<◌, ◌≤◌, ◌⊎◌, Bool, true, false, Option, Some, None, List, [], ◌∷◌, ◌++◌, length, get_or, set, ⊎_elim, inl, inr, refl, sym, ap, subst, arith, length-set, get_or-set_same, get_or-set_other}
use Rattle.std.specs.Prelude.{All, Contains, IsSomeAnd}
use Rattle.std.proofs.lemmas.Bool.{cases_eq, false≢true}
use Rattle.std.proofs.lemmas.List.Elements.{All-contains, Contains-append_left, Contains-push, Contains-push_cases}
use Rattle.fp_model.specs.declared.limits.TheConstants.{LATEST}
use Rattle.fp_model.specs.declared.parts.Member.{Member}
use Rattle.fp_model.specs.Members.{IsMemberOf, member_arc}
use Rattle.fp_model.specs.Problem.{Problem}
use Rattle.fp_model.specs.Routes.{step}
use Rattle.fp_flatnet.specs.declared.window_tables.Window.{Window}
use Rattle.fp_dispatch.specs.Rising.{AreEqualUntil, AreLower, AreRising, IsBetween, IsLower, IsSettled, IsWide, State, measure, most_members, place_of, raised, room, set_each, value_at, waits_at}
use Rattle.fp_dispatch.specs.Times.{HaveOneTime, next, window_of}
use Rattle.fp_dispatch.proofs.RoomLeft.{measure-lt, room-lt}
use Rattle.fp_dispatch.proofs.TableEntries.{Member-cases, length-set_each, place_of-lt, place_of-same, set_each-at, set_each-cases}
use Rattle.fp_dispatch.proofs.WaitingLegs.{length-queue_each, queue_each-AreQueued, queue_each-each}

-- what follows from two facts of what is there
some-both : {X : Type 0} (P Q R : X → Type 0) → ((x : X) → P x → Q x → R x) → (o : Option X) → IsSomeAnd o P → IsSomeAnd o Q → IsSomeAnd o R
some-both P Q R both None first second = first
some-both P Q R both (Some x) first second = both x first second

-- the leg before one of a route is one of it
pub IsMemberOf-before : (routes : List (List ℕ)) (m : Member) → IsMemberOf routes (next m) → IsMemberOf routes m
IsMemberOf-before routes m is = record { shipment = is.shipment; leg = omega (arith, is.leg) }

module _ (routes : List (List ℕ)) (width : ℕ) (wide : IsWide routes width) where
  -- the moment of a leg after others were raised is as it was, or the leg is one of these
  value-cases : (values : List ℕ) (legs : List Member) (to : ℕ) → length values ≡ length routes * width → All (IsMemberOf routes) legs →
      (m : Member) → IsMemberOf routes m →
      (value_at width (set_each width legs to values) m ≡ value_at width values m)
      ⊎ (Contains legs m × (value_at width (set_each width legs to values) m ≡ to))
  value-cases values legs to long members m is =
      ⊎_elim
      (λ (kept : value_at width (set_each width legs to values) m ≡ value_at width values m). inl kept)
      (λ (w : (n : Member) × Contains legs n × (place_of width n ≡ place_of width m) × (value_at width (set_each width legs to values) m ≡ to)).
      let also : IsMemberOf routes w.0 = All-contains (IsMemberOf routes) legs w.0 members w.1 in
      let one : w.0 ≡ m = place_of-same routes width w.0 m wide also is w.2 in
      inr (subst (Contains legs) one w.1, w.3))
      (set_each-cases width legs to values (place_of width m) 0 (omega (arith, place_of-lt routes width m wide is, long)))

  -- a leg that doesn't wait then isn't one of the raised, and did not wait before
  not_raised : (waits : List Bool) (legs : List Member) → length waits ≡ length routes * width →
      (m : Member) → IsMemberOf routes m → waits_at width (set_each width legs true waits) m ≡ false →
      (Contains legs m → ⊥) × (waits_at width waits m ≡ false)
  not_raised waits legs long m is unmarked = (
    (λ has. false≢true (sym unmarked ∙ set_each-at width legs true waits m false has (omega (arith, place_of-lt routes width m wide is, long)))),
    ⊎_elim
        (λ (kept : waits_at width (set_each width legs true waits) m ≡ waits_at width waits m). sym kept ∙ unmarked)
        (λ (w : (n : Member) × Contains legs n × (place_of width n ≡ place_of width m) × (waits_at width (set_each width legs true waits) m ≡ true)).
        absurd (false≢true (sym unmarked ∙ w.3)))
        (set_each-cases width legs true waits (place_of width m) false (omega (arith, place_of-lt routes width m wide is, long))),
  )

-- what legs need to be raised to a moment: they are legs of the routes, none stands after it, each
-- can leave at it, and no choice comes before it at any of them
pub record CanRise (p : Problem) (windows : ℕ → ℕ → Option Window) (routes : List (List ℕ)) (groups : List (List Member)) (width : ℕ) (s : State) (legs : List Member) (to : ℕ) : Type 0 where
  pub members : All (IsMemberOf routes) legs
  pub toward : (m : Member) → Contains legs m → value_at width s.values m ≤ to
  pub fits : All (λ m. IsSomeAnd (window_of windows routes m) (λ w. to ≤ w.hi)) legs
  pub lower : (m : Member) → Contains legs m → IsLower p windows routes groups m to

module _ (p : Problem) (windows : ℕ → ℕ → Option Window) (routes : List (List ℕ)) (groups : List (List Member)) (width : ℕ) (wide : IsWide routes width) where
  -- then the moments are still what they have to be
  pub AreLower-raised : (s : State) (legs : List Member) (to : ℕ) → AreLower p windows routes groups width s → CanRise p windows routes groups width s legs to →
      AreLower p windows routes groups width (raised width legs to s)
  AreLower-raised s legs to are can = record {
    values = length-set_each width legs to s.values ∙ are.values;
    waits = length-set_each width legs true s.waits ∙ are.waits;
    between = λ m is.
        ⊎_elim
        (λ (kept : value_at width (set_each width legs to s.values) m ≡ value_at width s.values m).
        subst (λ (v : ℕ). IsSomeAnd (window_of windows routes m) (IsBetween v)) (sym kept) (are.between m is))
        (λ (new : Contains legs m × (value_at width (set_each width legs to s.values) m ≡ to)).
        subst (λ (v : ℕ). IsSomeAnd (window_of windows routes m) (IsBetween v)) (sym new.1)
        (some-both (IsBetween (value_at width s.values m)) (λ (w : Window). to ≤ w.hi) (IsBetween to)
        (λ w first second. (omega (arith, first.0, can.toward m new.0), second))
        (window_of windows routes m) (are.between m is)
        (All-contains (λ (n : Member). IsSomeAnd (window_of windows routes n) (λ w. to ≤ w.hi)) legs m can.fits new.0)))
        (value-cases routes width wide s.values legs to are.values can.members m is);
    lower = λ m is.
        ⊎_elim
        (λ (kept : value_at width (set_each width legs to s.values) m ≡ value_at width s.values m).
        subst (IsLower p windows routes groups m) (sym kept) (are.lower m is))
        (λ (new : Contains legs m × (value_at width (set_each width legs to s.values) m ≡ to)).
        subst (IsLower p windows routes groups m) (sym new.1) (can.lower m new.0))
        (value-cases routes width wide s.values legs to are.values can.members m is);
    queued = queue_each-AreQueued routes width wide legs s.waits s.waiting can.members are.queued;
    members = queue_each-each (IsMemberOf routes) width legs s.waits s.waiting can.members are.members;
  }

  -- groups that the raised legs hold whole or not at all keep one moment
  pub HaveOneTime-raised : (s : State) (legs group : List Member) (to : ℕ) → AreLower p windows routes groups width s → CanRise p windows routes groups width s legs to →
      All (IsMemberOf routes) group →
      (((m : Member) → Contains group m → Contains legs m)
      ⊎ (((m : Member) → Contains group m → Contains legs m → ⊥) × HaveOneTime (value_at width s.values) group)) →
      HaveOneTime (value_at width (set_each width legs to s.values)) group
  HaveOneTime-raised s legs group to are can members either m n first second =
      let is : IsMemberOf routes m = All-contains (IsMemberOf routes) group m members first in
      let also : IsMemberOf routes n = All-contains (IsMemberOf routes) group n members second in
      ⊎_elim
      (λ (whole : (o : Member) → Contains group o → Contains legs o).
      set_each-at width legs to s.values m 0 (whole m first) (omega (arith, place_of-lt routes width m wide is, are.values))
      ∙ sym (set_each-at width legs to s.values n 0 (whole n second) (omega (arith, place_of-lt routes width n wide also, are.values))))
      (λ (none : ((o : Member) → Contains group o → Contains legs o → ⊥) × HaveOneTime (value_at width s.values) group).
      let stays : (o : Member) → IsMemberOf routes o → Contains group o → value_at width (set_each width legs to s.values) o ≡ value_at width s.values o =
      λ o at has.
      ⊎_elim
      (λ (kept : value_at width (set_each width legs to s.values) o ≡ value_at width s.values o). kept)
      (λ (new : Contains legs o × (value_at width (set_each width legs to s.values) o ≡ to)). absurd (none.0 o has new.0))
      (value-cases routes width wide s.values legs to are.values can.members o at) in
      stays m is first ∙ none.1 m n first second ∙ sym (stays n also second))
      either

  -- a leg that waited no more is taken off, and the others are as they were
  pub AreRising-taken : (s : State) (rest : List Member) (leg : Member) → s.waiting ≡ rest ++ leg ∷ [] → AreRising p windows routes groups width (λ (m : Member). ⊥) s →
      AreRising p windows routes groups width (λ (m : Member). m ≡ leg)
      (record { values = s.values; waits = set s.waits (place_of width leg) false; waiting = rest })
  AreRising-taken s rest leg is rising =
      let legs : All (IsMemberOf routes) (rest ++ leg ∷ []) = subst (All (IsMemberOf routes)) is rising.are.members in
      let taken : IsMemberOf routes leg = All-contains (IsMemberOf routes) (rest ++ leg ∷ []) leg legs (Contains-push rest leg) in
      record {
        are = record {
          values = rising.are.values;
          waits = length-set s.waits (place_of width leg) false ∙ rising.are.waits;
          between = rising.are.between;
          lower = rising.are.lower;
          queued = λ m member marked.
              ⊎_elim
              (λ (same : place_of width m ≡ place_of width leg).
              absurd (false≢true (sym (subst (λ (i : ℕ). get_or (set s.waits (place_of width leg) false) i false ≡ false) (sym same)
              (get_or-set_same s.waits (place_of width leg) false false (omega (arith, place_of-lt routes width leg wide taken, rising.are.waits)))) ∙ marked)))
              (λ (other : place_of width m ≡ place_of width leg → ⊥).
              let before : waits_at width s.waits m ≡ true = sym (get_or-set_other s.waits (place_of width leg) (place_of width m) false false other) ∙ marked in
              ⊎_elim
              (λ (there : Contains rest m). there)
              (λ (here : leg ≡ m). absurd (other (ap (place_of width) (sym here))))
              (Contains-push_cases rest leg m (subst (λ (ms : List Member). Contains ms m) is (rising.are.queued m member before))))
              (cases_eq (place_of width m) (place_of width leg));
          members = λ k d lt.
              All-contains (IsMemberOf routes) (rest ++ leg ∷ []) (get_or rest k d) legs
              (Contains-append_left rest (leg ∷ []) (get_or rest k d) (k, lt, same_read rest k d lt));
        };
        equal = rising.equal;
        settled = λ m other unmarked onward.
            let member : IsMemberOf routes m = IsMemberOf-before routes m onward in
            let apart : place_of width m ≡ place_of width leg → ⊥ = λ same. other (place_of-same routes width m leg wide member taken same) in
            rising.settled m (λ never. never)
            (sym (get_or-set_other s.waits (place_of width leg) (place_of width m) false false apart) ∙ unmarked) onward;
      }
    where
      same_read : (ms : List Member) (k : ℕ) (d : Member) → k < length ms → get_or ms k (get_or ms k d) ≡ get_or ms k d
      same_read [] k d lt = absurd (omega (arith, lt))
      same_read (m ∷ ms) zero d lt = refl
      same_read (m ∷ ms) (suc k) d lt = same_read ms k d (omega (arith, lt))

  -- where the next leg leaves late enough, a leg is settled
  pub AreRising-settled : (s : State) (leg : Member) → AreRising p windows routes groups width (λ (m : Member). m ≡ leg) s → IsSettled p routes width s.values leg →
      AreRising p windows routes groups width (λ (m : Member). ⊥) s
  AreRising-settled s leg rising here = record {
    are = rising.are;
    equal = rising.equal;
    settled = λ m never unmarked.
        ⊎_elim
        (λ (same : m ≡ leg). subst (IsSettled p routes width s.values) (sym same) here)
        (λ (other : m ≡ leg → ⊥). rising.settled m other unmarked)
        (Member-cases m leg);
  }

  -- so it is after its next leg was raised with others to the moment that it demands
  pub AreRising-raised : (s : State) (leg : Member) (legs : List Member) (to : ℕ) →
      AreRising p windows routes groups width (λ (m : Member). m ≡ leg) s → CanRise p windows routes groups width s legs to →
      to ≡ value_at width s.values leg + step p (member_arc routes leg) → Contains legs (next leg) →
      AreEqualUntil groups width (length groups) (set_each width legs to s.values) →
      AreRising p windows routes groups width (λ (m : Member). ⊥) (raised width legs to s)
  AreRising-raised s leg legs to rising can demanded has equal = record {
    are = AreLower-raised s legs to rising.are can;
    equal = equal;
    settled = λ m never unmarked onward.
        let member : IsMemberOf routes m = IsMemberOf-before routes m onward in
        let fact : (Contains legs m → ⊥) × (waits_at width s.waits m ≡ false) = not_raised routes width wide s.waits legs rising.are.waits m member unmarked in
        let stays : value_at width (set_each width legs to s.values) m ≡ value_at width s.values m =
        ⊎_elim
        (λ (kept : value_at width (set_each width legs to s.values) m ≡ value_at width s.values m). kept)
        (λ (new : Contains legs m × (value_at width (set_each width legs to s.values) m ≡ to)). absurd (fact.0 new.0))
        (value-cases routes width wide s.values legs to rising.are.values can.members m member) in
        ⊎_elim
        (λ (same : m ≡ leg).
        let there : Contains legs (next m) = subst (λ (n : Member). Contains legs (next n)) (sym same) has in
        let lifted : value_at width (set_each width legs to s.values) (next m) ≡ to =
        set_each-at width legs to s.values (next m) 0 there (omega (arith, place_of-lt routes width (next m) wide onward, rising.are.values)) in
        let demands : to ≡ value_at width s.values m + step p (member_arc routes m) =
        subst (λ (n : Member). to ≡ value_at width s.values n + step p (member_arc routes n)) (sym same) demanded in
        omega (arith, stays, lifted, demands))
        (λ (other : m ≡ leg → ⊥).
        let before : value_at width s.values m + step p (member_arc routes m) ≤ value_at width s.values (next m) = rising.settled m other fact.1 onward in
        ⊎_elim
        (λ (kept : value_at width (set_each width legs to s.values) (next m) ≡ value_at width s.values (next m)). omega (arith, stays, before, kept))
        (λ (new : Contains legs (next m) × (value_at width (set_each width legs to s.values) (next m) ≡ to)).
        omega (arith, stays, before, new.1, can.toward (next m) new.0))
        (value-cases routes width wide s.values legs to rising.are.values can.members (next m) onward))
        (Member-cases m leg);
  }

  -- with one leg that rose the room falls, and so does what is left to do
  pub measure-raised : (s : State) (legs : List Member) (to : ℕ) (leg : Member) → AreLower p windows routes groups width s → CanRise p windows routes groups width s legs to →
      Contains legs leg → value_at width s.values leg < to → to ≤ LATEST → length legs ≤ most_members groups →
      measure groups (raised width legs to s) < measure groups s
  measure-raised s legs to leg are can has less in_time few =
      let is : IsMemberOf routes leg = All-contains (IsMemberOf routes) legs leg can.members has in
      let place : place_of width leg < length s.values = omega (arith, place_of-lt routes width leg wide is, are.values) in
      let lifted : value_at width (set_each width legs to s.values) leg ≡ to = set_each-at width legs to s.values leg 0 has place in
      let later : room (set_each width legs to s.values) < room s.values =
      room-lt s.values (set_each width legs to s.values) (place_of width leg) (length-set_each width legs to s.values)
      (λ i lt.
      ⊎_elim
      (λ (kept : get_or (set_each width legs to s.values) i 0 ≡ get_or s.values i 0). omega (arith, kept))
      (λ (w : (m : Member) × Contains legs m × (place_of width m ≡ i) × (get_or (set_each width legs to s.values) i 0 ≡ to)).
      omega (arith, w.3, subst (λ (k : ℕ). get_or s.values k 0 ≤ to) w.2 (can.toward w.0 w.1)))
      (set_each-cases width legs to s.values i 0 lt))
      place (omega (arith, lifted, less)) (omega (arith, lifted, in_time)) in
      measure-lt groups s (raised width legs to s) later (omega (arith, length-queue_each width legs s.waits s.waiting, few))
