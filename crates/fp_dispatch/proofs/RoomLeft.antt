-- The room that is left for moments, and what falls as legs are looked at.
use Rattle.std.proofs.Common.{◌≡◌, ℕ, zero, suc, ◌+◌, ◌*◌, ◌<◌, ◌≤◌, List, [], ◌∷◌, length, get_or, arith}
use Rattle.std.proofs.Math.Nat.{mul-le-mul_left}
use Rattle.fp_model.specs.declared.limits.TheConstants.{LATEST}
use Rattle.fp_model.specs.declared.parts.Member.{Member}
use Rattle.fp_dispatch.specs.Rising.{State, measure, most_members, room}

-- later moments leave no more room
pub room_mono : (values later : List ℕ) → length later ≡ length values → ((i : ℕ) → i < length values → get_or values i 0 ≤ get_or later i 0) → room later ≤ room values
room_mono [] [] long rise = omega arith
room_mono [] (w ∷ later) long rise = absurd (omega (arith, long))
room_mono (v ∷ values) [] long rise = absurd (omega (arith, long))
room_mono (v ∷ values) (w ∷ later) long rise =
    omega (arith, rise 0 (omega arith), room_mono values later (omega (arith, long)) (λ i lt. rise (suc i) (omega (arith, lt))))

-- and less, where one is later and not after the latest time
pub room-lt : (values later : List ℕ) (at : ℕ) → length later ≡ length values → ((i : ℕ) → i < length values → get_or values i 0 ≤ get_or later i 0) →
    at < length values → get_or values at 0 < get_or later at 0 → get_or later at 0 ≤ LATEST → room later < room values
room-lt [] later at long rise lt less in_time = absurd (omega (arith, lt))
room-lt (v ∷ values) [] at long rise lt less in_time = absurd (omega (arith, long))
room-lt (v ∷ values) (w ∷ later) zero long rise lt less in_time =
    omega (arith, less, in_time, room_mono values later (omega (arith, long)) (λ i h. rise (suc i) (omega (arith, h))))
room-lt (v ∷ values) (w ∷ later) (suc at) long rise lt less in_time =
    omega (arith, rise 0 (omega arith), room-lt values later at (omega (arith, long)) (λ i h. rise (suc i) (omega (arith, h))) (omega (arith, lt)) less in_time)

pub most_members-some : (groups : List (List Member)) → 1 ≤ most_members groups
most_members-some [] = omega arith
most_members-some (group ∷ groups) = omega (arith, most_members-some groups)

-- no group has more members
pub length-le-most_members : (groups : List (List Member)) (g : ℕ) → length (get_or groups g []) ≤ most_members groups
length-le-most_members [] g = omega arith
length-le-most_members (group ∷ groups) zero = omega (arith, most_members-some groups)
length-le-most_members (group ∷ groups) (suc g) = omega (arith, length-le-most_members groups g)

-- less room counts for more than a group of legs that join those that wait
pub measure-lt : (groups : List (List Member)) (s t : State) → room t.values < room s.values → length t.waiting ≤ length s.waiting + most_members groups →
    measure groups t < measure groups s
measure-lt groups s t less joined =
    let h : (most_members groups + 1) * (room t.values + 1) ≤ (most_members groups + 1) * room s.values =
    mul-le-mul_left (most_members groups + 1) (let e : room t.values + 1 ≤ room s.values = omega (arith, less) in e) in
    omega (arith, h, joined)
