-- Three terminals, of which the third has the points 8 and 9 from the start, and round 1 added 4 to
-- the second.
use Rattle.std.proofs.Common.{◌≡◌, false, [], ◌∷◌, refl}
use Rattle.std.specs.Prelude.{Some, None}
use Rattle.fp_timenodes.specs.Floor.{floor_point, next_point}
use Rattle.fp_base_lists.specs.Membership.{list_has}
use Rattle.fp_timenodes.specs.Points.{TimePoints, points_at, greatest_round}

after_a_round : TimePoints
after_a_round = record {
  terminals = 3;
  first = record { terminal = 2; at = 8 } ∷ record { terminal = 2; at = 9 } ∷ [];
  added = record { terminal = 1; at = 4; round = 1 } ∷ [];
}

zero_everywhere : floor_point (points_at after_a_round 0 0) 1 7 ≡ 0
unfolding after_a_round
zero_everywhere = refl

places_of_the_start : next_point (points_at after_a_round 2 0) 8 ≡ Some 9
unfolding after_a_round
places_of_the_start = refl

halves_between_points : floor_point (points_at after_a_round 2 0) 2 17 ≡ 8
unfolding after_a_round
halves_between_points = refl

floor_before_the_round : floor_point (points_at after_a_round 1 0) 1 5 ≡ 0
unfolding after_a_round
floor_before_the_round = refl

floor_from_the_round : floor_point (points_at after_a_round 1 1) 1 5 ≡ 4
unfolding after_a_round
floor_from_the_round = refl

next_before_the_round : next_point (points_at after_a_round 1 0) 0 ≡ None
unfolding after_a_round
next_before_the_round = refl

next_from_the_round : next_point (points_at after_a_round 1 1) 0 ≡ Some 4
unfolding after_a_round
next_from_the_round = refl

not_there_before_the_round : list_has (points_at after_a_round 1 0) 4 ≡ false
unfolding after_a_round
not_there_before_the_round = refl

last_of_the_rounds : greatest_round after_a_round.added ≡ 1
unfolding after_a_round
last_of_the_rounds = refl
