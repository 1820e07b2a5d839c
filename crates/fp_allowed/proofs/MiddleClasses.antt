-- The middle allowed class of an arc, and a split that parts the allowed classes of a terminal.
use Rattle.std.proofs.Common.{◌≡◌, ℕ, ◌+◌, ◌-◌, ◌/◌, ◌<◌, ◌≤◌, Bool, true, false, List, length, get_or, ⊎_elim, refl, sym, ap, ◌∙◌, arith}
use Rattle.std.proofs.lemmas.Bool.{both_ways, cases_lt}
use Rattle.std.specs.Prelude.{unwrap_or, Option, Some, None}
use Rattle.fp_longestarcs.specs.Networks.{IsNetwork, TimedNetwork, class_number, points_in, tail_in}
use Rattle.fp_longestarcs.proofs.ClassNumbers.{tail-points}
use Rattle.fp_allowed.specs.Bits.{bit_of, row_allows}
use Rattle.fp_allowed.specs.Choices.{IsMiddle, IsParted, OneAtMost}
use Rattle.fp_allowed.specs.Leaving.{IsFirstSet, IsRange}
use Rattle.fp_allowed.proofs.ArcExits.{bit-of_class, class-of_bit, none_by, one_by}
use Rattle.fp_allowed.proofs.ListedClasses.{class_by}

-- a place after one where a bit is set, at which a bit is set
pub record IsLater (row : List Bool) (first end n : ℕ) : Type 0 where
  pub after : first < n
  pub before : n < end
  pub set : bit_of row n ≡ true

pub later_or : (row : List Bool) (first end from second : ℕ) (o : Option ℕ) → IsLater row first end second → first < from → IsFirstSet row from end o → IsLater row first end (unwrap_or o second)
later_or row first end from second None later after none = later
later_or row first end from second (Some n) later after is = record { after = omega (arith, after, is.0); before = is.1; set = is.2 }

-- the last place of a range at which a bit is set
pub record IsLastSet (row : List Bool) (first end last : ℕ) : Type 0 where
  pub from : first ≤ last
  pub before : last < end
  pub set : bit_of row last ≡ true
  pub none : (n : ℕ) → last < n → n < end → bit_of row n ≡ false

module _ (net : TimedNetwork) (row : List Bool) (arc start end : ℕ) (valid : IsNetwork net) (exists : arc < length net.tails) (range : IsRange net arc start end) where
  pub none_at_most : IsFirstSet row start end None → OneAtMost (row_allows net row) (λ c. c.arc ≡ arc)
  none_at_most none c e one two = absurd (none_by net row arc start end valid exists range none c one)

  pub one_at_most : (first : ℕ) → IsFirstSet row start end (Some first) → IsFirstSet row (first + 1) end None → OneAtMost (row_allows net row) (λ c. c.arc ≡ arc)
  one_at_most first is none c e one two =
      let tells = one_by net row arc start end valid exists range first is none in
      tells.4 c one ∙ sym (tells.4 e two)

  -- the point of a later allowed class parts it from the first one
  pub parted_at : (first n tail : ℕ) → IsFirstSet row start end (Some first) → IsLater row first end n → tail ≡ tail_in net arc →
      IsParted (row_allows net row) (λ c. c.arc ≡ arc) (get_or (points_in net tail) (n - start) 0)
  parted_at first n tail is later leaves =
      let qs : List ℕ = points_in net (tail_in net arc) in
      let one = class-of_bit net row arc start end valid exists range first is.0 is.1 is.2 in
      let two = class-of_bit net row arc start end valid exists range n (omega (arith, is.0, later.after)) later.before later.set in
      let inside : n - start < length qs = omega (arith, later.before, range.begins, range.ends, is.0, later.after) in
      let order : get_or qs (first - start) 0 < get_or qs (n - start) 0 =
      (tail-points net arc valid exists).ascending (first - start) (n - start) 0 (omega (arith, is.0, later.after)) inside in
      rw leaves (record {
        one = class_by net arc (first - start);
        two = class_by net arc (n - start);
        one_leaves = one.0;
        two_leaves = two.0;
        before = order;
        from = refl;
      })

  -- the point of the first allowed class from the middle of the first and the last on is that of
  -- the middle one
  pub middle_at : (first last second tail : ℕ) (o : Option ℕ) → IsFirstSet row start end (Some first) → IsLastSet row first end last → IsFirstSet row (first + (last - first + 1) / 2) end o → tail ≡ tail_in net arc →
      IsMiddle net (row_allows net row) arc (get_or (points_in net tail) (unwrap_or o second - start) 0)
  middle_at first last second tail None is ends none leaves =
      absurd (both_ways (bit_of row last) (none last (let e : first + (last - first + 1) / 2 ≤ last = omega (arith, ends.from) in e) ends.before) ends.set)
  middle_at first last second tail (Some n) is ends found leaves =
      let one = class-of_bit net row arc start end valid exists range first is.0 is.1 is.2 in
      let two = class-of_bit net row arc start end valid exists range last (omega (arith, is.0, ends.from)) ends.before ends.set in
      let three = class-of_bit net row arc start end valid exists range n (omega (arith, is.0, found.0)) found.1 found.2 in
      let low : ℕ = class_number net (class_by net arc (first - start)) in
      let high : ℕ = class_number net (class_by net arc (last - start)) in
      let half : (low + high + 1) / 2 ≡ first + (last - first + 1) / 2 =
      ap (λ (m : ℕ). m / 2) (let e : low + high + 1 ≡ first + last + 1 = omega (arith, one.1, two.1) in e) ∙ (let e : (first + last + 1) / 2 ≡ first + (last - first + 1) / 2 = omega (arith, ends.from) in e) in
      rw leaves (record {
        first = class_by net arc (first - start);
        last = class_by net arc (last - start);
        middle = class_by net arc (n - start);
        first_by = one.0;
        last_by = two.0;
        middle_by = three.0;
        between = λ other by.
            let bit = bit-of_class net row arc start end valid exists range other by in
            let number : ℕ = class_number net other in (
              ⊎_elim (λ (less : number < first). absurd (both_ways (bit_of row number) (is.3 number bit.0 less) bit.2)) (λ (more : first ≤ number). omega (arith, one.1, more)) (cases_lt number first),
              ⊎_elim (λ (more : last < number). absurd (both_ways (bit_of row number) (ends.none number more bit.1) bit.2)) (λ (less : number ≤ last). omega (arith, two.1, less)) (cases_lt last number),
            );
        half = omega (arith, half, three.1, found.0);
        least = λ other by late.
            let bit = bit-of_class net row arc start end valid exists range other by in
            let number : ℕ = class_number net other in
            ⊎_elim (λ (less : number < n). absurd (both_ways (bit_of row number) (found.3 number (omega (arith, half, late)) less) bit.2)) (λ (more : n ≤ number). omega (arith, three.1, more)) (cases_lt number n);
        point = refl;
      })
