-- The classes of an arc that have a moment in a window are those between the points of its first and
-- its last moment.
use Rattle.std.proofs.Common.{◌≡◌, ℕ, ◌<◌, ◌≤◌, true, List, ⊎_elim, arith}
use Rattle.std.specs.Prelude.{nat_le, Option, Some, None, IfSome}
use Rattle.std.specs.Bool.{Decides}
use Rattle.std.proofs.lemmas.Bool.{and_from, and_parts, cases_lt, false≢true, le-leb, leb-true}
use Rattle.fp_timenodes.specs.Floor.{floor_point}
use Rattle.fp_base_lists.specs.Membership.{list_has}
use Rattle.fp_timenodes.proofs.Floors.{floor_le, floor_greatest, floor_itself, floor_mono}
use Rattle.fp_flatnet.specs.declared.window_tables.Window.{Window}
use Rattle.fp_allowed.specs.Moments.{is_between, is_open}

-- a moment of the class of a point lies in a window, if there is one
pub record HasOpen (qs : List ℕ) (q : ℕ) (o : Option Window) : Type 0 where
  pub moment : ℕ
  pub falls : floor_point qs 1 moment ≡ q
  pub is_in : is_open o moment ≡ true

-- a point is between exactly where its class has a moment in the window
pub is_between-decides : (qs : List ℕ) (q : ℕ) (o : Option Window) → list_has qs q ≡ true → IfSome o (λ w. w.lo ≤ w.hi) → Decides (is_between qs o q) (HasOpen qs q o)
is_between-decides qs q None there some = (λ h. absurd (false≢true h), λ has. absurd (false≢true has.is_in))
is_between-decides qs q (Some w) there some = (to, from)
  where
    to : is_between qs (Some w) q ≡ true → HasOpen qs q (Some w)
    to h =
        let parts = and_parts (nat_le (floor_point qs 1 w.lo) q) (nat_le q (floor_point qs 1 w.hi)) h in
        let least : floor_point qs 1 w.lo ≤ q = leb-true (floor_point qs 1 w.lo) q parts.0 in
        let most : q ≤ floor_point qs 1 w.hi = leb-true q (floor_point qs 1 w.hi) parts.1 in
        let until : q ≤ w.hi = omega (arith, most, floor_le qs 1 w.hi) in
        ⊎_elim
        (λ (late : w.lo < q). record {
          moment = q;
          falls = floor_itself qs q there;
          is_in = and_from (nat_le w.lo q) (nat_le q w.hi) (le-leb w.lo q (omega arith)) (le-leb q w.hi until);
        })
        (λ (early : q ≤ w.lo). record {
          moment = w.lo;
          falls = omega (arith, least, floor_greatest qs 1 w.lo q there (omega arith));
          is_in = and_from (nat_le w.lo w.lo) (nat_le w.lo w.hi) (le-leb w.lo w.lo (omega arith)) (le-leb w.lo w.hi some);
        })
        (cases_lt w.lo q)

    from : HasOpen qs q (Some w) → is_between qs (Some w) q ≡ true
    from has =
        let m : ℕ = has.moment in
        let parts = and_parts (nat_le w.lo m) (nat_le m w.hi) has.is_in in
        let after : w.lo ≤ m = leb-true w.lo m parts.0 in
        let before : m ≤ w.hi = leb-true m w.hi parts.1 in
        let least : floor_point qs 1 w.lo ≤ q = omega (arith, has.falls, floor_mono qs 1 w.lo m (omega arith)) in
        let most : q ≤ floor_point qs 1 w.hi = omega (arith, has.falls, floor_mono qs 1 m w.hi (omega arith)) in
        and_from (nat_le (floor_point qs 1 w.lo) q) (nat_le q (floor_point qs 1 w.hi)) (le-leb (floor_point qs 1 w.lo) q least) (le-leb q (floor_point qs 1 w.hi) most)
