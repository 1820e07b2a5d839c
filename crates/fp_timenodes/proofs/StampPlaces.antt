-- What is found among the stamps of one terminal.
use Rattle.std.proofs.Common.{◌≡◌, ℕ, zero, suc, ◌<◌, ◌≤◌, true, false, List, [], ◌∷◌, length, get_or, ⊎_elim, arith}
use Rattle.std.specs.Prelude.{nat_le}
use Rattle.std.proofs.lemmas.Bool.{cases_Bool, leb-true, le-leb}
use Rattle.fp_timenodes.specs.declared.timelines.Stamp.{Stamp}
use Rattle.fp_base_lists.specs.Membership.{list_has}
use Rattle.fp_timenodes.specs.Stamps.{points_of}
use Rattle.fp_base_lists.proofs.Membership.{list_has-rest, list_has-first, list_has-cons_cases}

-- a stamp up to the round gives a point
pub has-stamp : (stamps : List Stamp) (round k : ℕ) (d : Stamp) → k < length stamps → (get_or stamps k d).round ≤ round → list_has (points_of stamps round) (get_or stamps k d).at ≡ true
has-stamp [] round k d h le = absurd (omega arith)
has-stamp (s ∷ stamps) round zero d h le = rw (le-leb s.round round le) (list_has-first s.at (points_of stamps round))
has-stamp (s ∷ stamps) round (suc k) d h le =
    let rest : list_has (points_of stamps round) (get_or stamps k d).at ≡ true = has-stamp stamps round k d (omega arith) le in
    ⊎_elim
    (λ (e : nat_le s.round round ≡ true). rw e (list_has-rest s.at (points_of stamps round) (get_or stamps k d).at rest))
    (λ (e : nat_le s.round round ≡ false). rw e rest)
    (cases_Bool (nat_le s.round round))

-- a stamp of this time up to this round, and where it stands
pub record StandsAt (stamps : List Stamp) (round at : ℕ) (d : Stamp) : Type 0 where
  pub place : ℕ
  pub within : place < length stamps
  pub time : (get_or stamps place d).at ≡ at
  pub until : (get_or stamps place d).round ≤ round

-- each point is that of a stamp
pub stamp-of : (stamps : List Stamp) (round at : ℕ) (d : Stamp) → list_has (points_of stamps round) at ≡ true → StandsAt stamps round at d
stamp-of [] round at d h = cc
stamp-of (s ∷ stamps) round at d h =
    ⊎_elim
    (λ (e : nat_le s.round round ≡ true).
    ⊎_elim
    (λ (same : s.at ≡ at). record { place = 0; within = omega arith; time = same; until = leb-true s.round round e })
    (λ (rest : list_has (points_of stamps round) at ≡ true). later (stamp-of stamps round at d rest))
    (list_has-cons_cases s.at (points_of stamps round) at (rw e at h)))
    (λ (e : nat_le s.round round ≡ false). later (stamp-of stamps round at d (rw e at h)))
    (cases_Bool (nat_le s.round round))
  where
    later : StandsAt stamps round at d → StandsAt (s ∷ stamps) round at d
    later w = record { place = suc w.place; within = omega (arith, w.within); time = w.time; until = w.until }
