-- The points of one terminal, in ascending order, each with the round that added it.
use Rattle.std.specs.Prelude.{ℕ, ◌≡◌, ◌<◌, ◌≤◌, ◌||◌, ◌&&◌, ◌==◌, List, map, filter, length, nat_le, All}
use Rattle.std.specs.List.{AllPairs, AllWithin}
use Rattle.fp_timenodes.specs.declared.timelines.Stamp.{Stamp}
use Rattle.fp_base_lists.specs.Membership.{list_has}

-- each stamp is before those that follow it
abbrev pub IsAscending : List Stamp → Type 0
IsAscending stamps = AllPairs (λ (s t : Stamp). s.at < t.at) stamps

-- the times of the stamps whose round is at most this one
abbrev pub points_of : List Stamp → ℕ → List ℕ
points_of stamps round = map (λ s. s.at) (filter (λ s. nat_le s.round round) stamps)

-- no stamp is of a later round
abbrev pub AreUpTo : ℕ → List Stamp → Type 0
AreUpTo round stamps = All (λ (s : Stamp). s.round ≤ round) stamps

-- so many of the stamps are not after the time, and the others follow them
pub record IsStampCut (stamps : List Stamp) (at cut : ℕ) : Type 0 where
  pub ascending : IsAscending stamps
  pub within : cut ≤ length stamps
  pub until : AllWithin (λ s. s.at ≤ at) stamps 0 cut
  pub after : AllWithin (λ s. at < s.at) stamps cut (length stamps)

-- the new stamps have the old points, and from the round on this one too
abbrev pub IncludesPoint : List Stamp → List Stamp → ℕ → ℕ → Type 0
IncludesPoint old new at round =
    (r q : ℕ) → list_has (points_of new r) q ≡ (list_has (points_of old r) q || (nat_le round r && at == q))
