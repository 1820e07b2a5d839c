-- A row of moments, filled by a window and cleared side by side.
use Rattle.std.proofs.Common.{◌≡◌, ℕ, ◌+◌, ◌-◌, ◌<◌, ◌≤◌, Bool, true, false, ◌&&◌, cond, List, length, drop, get_or, ⊎_elim, refl, sym, ap, ◌∙◌, arith}
use Rattle.std.specs.Prelude.{not, nat_le, nat_lt, Some}
use Rattle.std.proofs.lemmas.Bool.{and_from, and_left, and_right, cases_lt, le-leb, le-ltb, lt-leb, lt-ltb}
use Rattle.std.proofs.lemmas.List.{drop_all}
use Rattle.std.proofs.Math.Bool.{and-true}
use Rattle.fp_flatnet.specs.declared.window_tables.Window.{Window}
use Rattle.fp_rows.specs.Bits.{count_true, with_range}
use Rattle.fp_tree.specs.declared.sides.Side.{Side}
use Rattle.fp_allowed.specs.declared.departures_left.TheConstants.{MOMENTS}
use Rattle.fp_allowed.specs.Bits.{bit_of}
use Rattle.fp_base_lists.specs.Below.{count_below}
use Rattle.fp_allowed.specs.Moments.{all_let, in_range, is_open, lets}
use Rattle.fp_base_lists.proofs.CountsBelow.{count_below-more, count_below-same}
use Rattle.fp_allowed.proofs.CountsBelow.{count_true-below}
use Rattle.fp_allowed.proofs.OpenMoments.{all_let_step}
use Rattle.fp_allowed.proofs.RowBits.{bit_of-with_range, length-with_range}

-- the bits and the sides that are left, from one on, tell what the window and all sides tell
pub record MomentsLeft (w : Window) (arc : ℕ) (sides : List Side) (i : ℕ) (row : List Bool) : Type 0 where
  pub long : length row ≡ MOMENTS
  pub bits : (m : ℕ) → m < MOMENTS → (bit_of row m && all_let arc m (drop i sides)) ≡ (is_open (Some w) m && all_let arc m sides)

-- a range up to and with a number
until-with : (m n : ℕ) → nat_lt m (n + 1) ≡ nat_le m n
until-with m n =
    ⊎_elim
    (λ (late : n < m). lt-late late)
    (λ (early : m ≤ n). lt-ltb m (n + 1) (omega arith) ∙ sym (le-leb m n early))
    (cases_lt n m)
  where
    lt-late : n < m → nat_lt m (n + 1) ≡ nat_le m n
    lt-late late = le-ltb m (n + 1) (omega arith) ∙ sym (lt-leb m n late)

filled-anew : (b : Bool) → cond b true false ≡ b
filled-anew true = refl
filled-anew false = refl

module _ (w : Window) (arc : ℕ) (sides : List Side) where
  -- at first the bits are those of the window
  pub moments_first : (old cleared filled : List Bool) → w.lo ≤ w.hi → w.hi < MOMENTS → length old ≡ MOMENTS → cleared ≡ with_range old 0 MOMENTS false → filled ≡ with_range cleared w.lo (w.hi + 1) true →
      MomentsLeft w arc sides 0 filled
  moments_first old cleared filled some in_time long cleared_is filled_is =
      let from_start : 0 ≤ MOMENTS = omega arith in
      let whole : MOMENTS ≤ length old = omega (arith, long) in
      let cleared_long : length cleared ≡ MOMENTS = ap (λ (r : List Bool). length r) cleared_is ∙ length-with_range old 0 MOMENTS false from_start whole ∙ long in
      let order : w.lo ≤ w.hi + 1 = omega arith in
      let within : w.hi + 1 ≤ length cleared = omega (arith, cleared_long, in_time) in
      record {
        long = ap (λ (r : List Bool). length r) filled_is ∙ length-with_range cleared w.lo (w.hi + 1) true order within ∙ cleared_long;
        bits = λ m h.
            let inside : in_range 0 MOMENTS m ≡ true = and_from (nat_le 0 m) (nat_lt m MOMENTS) (le-leb 0 m (omega arith)) (lt-ltb m MOMENTS h) in
            let unset : bit_of cleared m ≡ false =
            ap (λ (r : List Bool). bit_of r m) cleared_is ∙ bit_of-with_range old 0 MOMENTS false from_start whole m ∙ ap (λ (b : Bool). cond b false (bit_of old m)) inside in
            let set : bit_of filled m ≡ is_open (Some w) m =
            ap (λ (r : List Bool). bit_of r m) filled_is ∙ bit_of-with_range cleared w.lo (w.hi + 1) true order within m ∙
            ap (λ (b : Bool). cond (in_range w.lo (w.hi + 1) m) true b) unset ∙ filled-anew (in_range w.lo (w.hi + 1) m) ∙
            ap (λ (b : Bool). nat_le w.lo m && b) (until-with m w.hi) in
            ap (λ (b : Bool). b && all_let arc m sides) set;
      }

  -- one side more
  pub moments_more : (i : ℕ) (d : Side) (old new : List Bool) (from to : ℕ) → i < length sides → MomentsLeft w arc sides i old → from ≤ to → to ≤ MOMENTS →
      ((m : ℕ) → m < MOMENTS → in_range from to m ≡ not (lets arc m (get_or sides i d))) → new ≡ with_range old from to false → MomentsLeft w arc sides (i + 1) new
  moments_more i d old new from to h left order within forbids is =
      let in_row : to ≤ length old = omega (arith, within, left.long) in
      record {
        long = ap (λ (r : List Bool). length r) is ∙ length-with_range old from to false order in_row ∙ left.long;
        bits = λ m early.
            let cut : bit_of new m ≡ (bit_of old m && lets arc m (get_or sides i d)) =
            ap (λ (r : List Bool). bit_of r m) is ∙ bit_of-with_range old from to false order in_row m ∙
            ap (λ (b : Bool). cond b false (bit_of old m)) (forbids m early) ∙ cut-off (bit_of old m) (lets arc m (get_or sides i d)) in
            all_let_step arc m sides i d (bit_of old m) (bit_of new m) h cut ∙ left.bits m early;
      }
    where
      cut-off : (b t : Bool) → cond (not t) false b ≡ (b && t)
      cut-off true true = refl
      cut-off true false = refl
      cut-off false true = refl
      cut-off false false = refl

  -- a moment after the window is not open, and one up to its end is where the window has begun
  closed-after : (m : ℕ) → w.hi + 1 ≤ m → (is_open (Some w) m && all_let arc m sides) ≡ false
  closed-after m late = and_left (is_open (Some w) m) (all_let arc m sides) (and_right (nat_le w.lo m) (nat_le m w.hi) (lt-leb m w.hi (omega arith)))

  open-until : (m : ℕ) → m < w.hi + 1 → (is_open (Some w) m && all_let arc m sides) ≡ (nat_le w.lo m && all_let arc m sides)
  open-until m early = ap (λ (b : Bool). b && all_let arc m sides) (ap (λ (b : Bool). nat_le w.lo m && b) (le-leb m w.hi (omega arith)) ∙ and-true (nat_le w.lo m))

  -- the moments that are open are those of the window
  open-counted : w.hi < MOMENTS → count_below MOMENTS (λ m. is_open (Some w) m && all_let arc m sides) ≡ count_below (w.hi + 1) (λ m. nat_le w.lo m && all_let arc m sides)
  open-counted in_time =
      let test : ℕ → Bool = λ m. is_open (Some w) m && all_let arc m sides in
      let apart : w.hi + 1 + (MOMENTS - (w.hi + 1)) ≡ MOMENTS = omega arith in
      ap (λ (n : ℕ). count_below n test) (sym apart) ∙ count_below-more (w.hi + 1) (MOMENTS - (w.hi + 1)) test closed-after ∙
      count_below-same (w.hi + 1) test (λ m. nat_le w.lo m && all_let arc m sides) open-until

  -- where all sides were taken, the bits are the open moments
  bits-open : (i : ℕ) (row : List Bool) → length sides ≤ i → MomentsLeft w arc sides i row → (m : ℕ) → m < MOMENTS → bit_of row m ≡ (is_open (Some w) m && all_let arc m sides)
  bits-open i row all left m h =
      sym (and-true (bit_of row m)) ∙ ap (λ (l : List Side). bit_of row m && all_let arc m l) (sym (drop_all i sides all)) ∙ left.bits m h

  -- so in the end they are counted
  pub moments_counted : (i : ℕ) (row : List Bool) → w.hi < MOMENTS → length sides ≤ i → MomentsLeft w arc sides i row →
      count_true row ≡ count_below (w.hi + 1) (λ m. nat_le w.lo m && all_let arc m sides)
  moments_counted i row in_time all left =
      count_true-below row ∙ ap (λ (n : ℕ). count_below n (bit_of row)) left.long ∙
      count_below-same MOMENTS (bit_of row) (λ m. is_open (Some w) m && all_let arc m sides) (bits-open i row all left) ∙ open-counted in_time
