-- The classes of an arc that have a moment at which all sides let a leg leave, part by part of a
-- window, are the allowed ones.
use Rattle.std.proofs.Common.{◌≡◌, ℕ, ◌+◌, ◌<◌, ◌≤◌, Bool, true, false, ◌&&◌, ◌||◌, List, length, ⊎_elim, sym, ap, ◌∙◌, subst, arith}
use Rattle.std.specs.Prelude.{nat_eq, nat_le, Option, Some, IsSomeAnd}
use Rattle.std.specs.Bool.{Decides}
use Rattle.std.proofs.lemmas.Bool.{and_from, and_parts, cases_Bool, cases_lt, eq-eqb, eqb-true, le-leb, leb-true, or_cases, or_left, or_right}
use Rattle.std.proofs.lemmas.Bool.Decides.{same_from_decides}
use Rattle.fp_base_lists.proofs.CountsBelow.{some_below-true, some_below-witness}
use Rattle.fp_base_lists.specs.Membership.{list_has}
use Rattle.fp_model.specs.declared.parts.Leg.{Leg}
use Rattle.fp_model.specs.Problem.{Problem}
use Rattle.fp_timenodes.specs.Floor.{floor_point}
use Rattle.fp_flatnet.specs.declared.window_tables.Window.{Window}
use Rattle.fp_tree.specs.declared.sides.Side.{Side}
use Rattle.fp_allowed.specs.Allowed.{exit_of, is_allowed, meets_all, tails_of}
use Rattle.fp_allowed.specs.Moments.{all_let, concerned, has_open, is_barred, is_between}
use Rattle.fp_allowed.proofs.AllowedClasses.{HasMoment, is_allowed_from, is_allowed_parts}
use Rattle.fp_allowed.proofs.ClassesBetween.{HasOpen, is_between-decides}
use Rattle.fp_allowed.proofs.OpenMoments.{meets_all-concerned}

-- a moment of the class of a point, from one up to and without another, at which all of the sides
-- let a leg by the arc leave
pub record HasLet (qs : List ℕ) (arc : ℕ) (sides : List Side) (from to q : ℕ) : Type 0 where
  pub moment : ℕ
  pub falls : floor_point qs 1 moment ≡ q
  pub after : from ≤ moment
  pub before : moment < to
  pub let_it : all_let arc moment sides ≡ true

has_open-decides : (qs : List ℕ) (arc : ℕ) (sides : List Side) (from to q : ℕ) → Decides (has_open qs arc sides from to q) (HasLet qs arc sides from to q)
has_open-decides qs arc sides from to q = (there, back)
  where
    test : ℕ → Bool
    test m = nat_eq (floor_point qs 1 m) q && nat_le from m && all_let arc m sides

    there : has_open qs arc sides from to q ≡ true → HasLet qs arc sides from to q
    there h =
        let some = some_below-witness to test h in
        let all = and_parts (nat_eq (floor_point qs 1 some.0) q && nat_le from some.0) (all_let arc some.0 sides) some.2 in
        let parts = and_parts (nat_eq (floor_point qs 1 some.0) q) (nat_le from some.0) all.0 in
        record {
          moment = some.0;
          falls = eqb-true (floor_point qs 1 some.0) q parts.0;
          after = leb-true from some.0 parts.1;
          before = some.1;
          let_it = all.1;
        }

    back : HasLet qs arc sides from to q → has_open qs arc sides from to q ≡ true
    back has =
        some_below-true to has.moment test has.before
        (and_from (nat_eq (floor_point qs 1 has.moment) q && nat_le from has.moment) (all_let arc has.moment sides)
        (and_from (nat_eq (floor_point qs 1 has.moment) q) (nat_le from has.moment) (eq-eqb (floor_point qs 1 has.moment) q has.falls) (le-leb from has.moment has.after)) has.let_it)

-- one part of a window more, in which all moments are alike
pub has_open-part : (qs : List ℕ) (arc : ℕ) (sides : List Side) (from q : ℕ) (part : Window) (free : Bool) → list_has qs q ≡ true → from ≤ part.lo → part.lo ≤ part.hi →
    ((m : ℕ) → part.lo ≤ m → m ≤ part.hi → all_let arc m sides ≡ free) →
    (has_open qs arc sides from part.lo q || (free && is_between qs (Some part) q)) ≡ has_open qs arc sides from (part.hi + 1) q
has_open-part qs arc sides from q part free there begun some alike =
    same_from_decides (has_open qs arc sides from part.lo q || (free && is_between qs (Some part) q)) (has_open qs arc sides from (part.hi + 1) q)
    (to, back) (has_open-decides qs arc sides from (part.hi + 1) q)
  where
    between : Decides (is_between qs (Some part) q) (HasOpen qs q (Some part))
    between = is_between-decides qs q (Some part) there some

    to : (has_open qs arc sides from part.lo q || (free && is_between qs (Some part) q)) ≡ true → HasLet qs arc sides from (part.hi + 1) q
    to h =
        ⊎_elim
        (λ (earlier : has_open qs arc sides from part.lo q ≡ true).
        let has = (has_open-decides qs arc sides from part.lo q).0 earlier in
        record { moment = has.moment; falls = has.falls; after = has.after; before = omega (arith, has.before, some); let_it = has.let_it })
        (λ (now : (free && is_between qs (Some part) q) ≡ true).
        let parts = and_parts free (is_between qs (Some part) q) now in
        let has = between.0 parts.1 in
        let inside = and_parts (nat_le part.lo has.moment) (nat_le has.moment part.hi) has.is_in in
        let late : part.lo ≤ has.moment = leb-true part.lo has.moment inside.0 in
        let early : has.moment ≤ part.hi = leb-true has.moment part.hi inside.1 in
        record { moment = has.moment; falls = has.falls; after = omega (arith, begun, late); before = omega (arith, early); let_it = alike has.moment late early ∙ parts.0 })
        (or_cases (has_open qs arc sides from part.lo q) (free && is_between qs (Some part) q) h)

    back : HasLet qs arc sides from (part.hi + 1) q → (has_open qs arc sides from part.lo q || (free && is_between qs (Some part) q)) ≡ true
    back has =
        ⊎_elim
        (λ (earlier : has.moment < part.lo).
        or_left (has_open qs arc sides from part.lo q) (free && is_between qs (Some part) q)
        ((has_open-decides qs arc sides from part.lo q).1 (record { moment = has.moment; falls = has.falls; after = has.after; before = earlier; let_it = has.let_it })))
        (λ (late : part.lo ≤ has.moment).
        let early : has.moment ≤ part.hi = omega (arith, has.before) in
        or_right (has_open qs arc sides from part.lo q) (free && is_between qs (Some part) q)
        (and_from free (is_between qs (Some part) q) (sym (alike has.moment late early) ∙ has.let_it)
        (between.1 (record {
          moment = has.moment;
          falls = has.falls;
          is_in = and_from (nat_le part.lo has.moment) (nat_le has.moment part.hi) (le-leb part.lo has.moment late) (le-leb has.moment part.hi early);
        }))))
        (cases_lt has.moment part.lo)

-- a class is allowed exactly where it has such a moment in its window under the concerned sides
pub has_open-allowed : (p : Problem) (windows : ℕ → ℕ → Option Window) (points : ℕ → List ℕ) (sides own : List Side) (k : ℕ) (c : Leg) (w : Window) → c.arc < length p.arcs → windows k c.arc ≡ Some w →
    own ≡ concerned p k (tails_of p c.arc) sides → is_barred p k c.arc sides ≡ false → has_open (points (tails_of p c.arc)) c.arc own w.lo (w.hi + 1) c.depart ≡ is_allowed p windows points sides k c
has_open-allowed p windows points sides own k c w exists is own_is free =
    same_from_decides (has_open qs c.arc own w.lo (w.hi + 1) c.depart) (is_allowed p windows points sides k c) (has_open-decides qs c.arc own w.lo (w.hi + 1) c.depart) (
      λ h. there (subst (λ (o : Option Window). IsSomeAnd o (HasMoment p points sides k c)) is (is_allowed_parts p windows points sides k c h).1),
      λ has. is_allowed_from p windows points sides k c exists (subst (λ (o : Option Window). IsSomeAnd o (HasMoment p points sides k c)) (sym is) (back has)),
    )
  where
    qs : List ℕ
    qs = points (tails_of p c.arc)

    -- a moment meets all sides where the concerned ones let it
    met : (m : ℕ) → meets_all k sides (exit_of p (record { arc = c.arc; depart = m })) ≡ all_let c.arc m own
    met m = meets_all-concerned p k (record { arc = c.arc; depart = m }) sides free ∙ ap (λ (l : List Side). all_let c.arc m l) (sym own_is)

    there : HasMoment p points sides k c w → HasLet qs c.arc own w.lo (w.hi + 1) c.depart
    there has = record { moment = has.moment; falls = has.falls; after = has.after; before = omega (arith, has.before); let_it = sym (met has.moment) ∙ has.met }

    back : HasLet qs c.arc own w.lo (w.hi + 1) c.depart → HasMoment p points sides k c w
    back has = record { moment = has.moment; falls = has.falls; after = has.after; before = omega (arith, has.before); met = met has.moment ∙ has.let_it }

-- none has such a moment before the window
pub has_open-none : (qs : List ℕ) (arc : ℕ) (sides : List Side) (from q : ℕ) → has_open qs arc sides from from q ≡ false
has_open-none qs arc sides from q =
    ⊎_elim
    (λ (some : has_open qs arc sides from from q ≡ true). let has = (has_open-decides qs arc sides from from q).0 some in absurd (omega (arith, has.after, has.before)))
    (λ (none : has_open qs arc sides from from q ≡ false). none)
    (cases_Bool (has_open qs arc sides from from q))
