-- What a list of too short legs has so far.
use Rattle.std.specs.Prelude.{ℕ, ◌<◌, ◌≡◌, List, All, AllPairs, Contains, Option, MatchOption}
use Rattle.fp_model.specs.declared.parts.Leg.{Leg}
use Rattle.fp_model.specs.declared.parts.Member.{Member}
use Rattle.fp_model.specs.Members.{MemberComesBefore}
use Rattle.fp_model.specs.Problem.{Problem, arc_at}
use Rattle.fp_timenodes.specs.declared.places.Place.{Place}
use Rattle.fp_longestarcs.specs.Classes.{head_of}
use Rattle.fp_shortarcs.specs.declared.shorts.Short.{Short}
use Rattle.fp_shortarcs.specs.TooShort.{ComesBefore, IsShort, IsTooShort, member_of, reach_of, short_of}

-- the place that a class does not reach, or that there is none
abbrev pub IsMissed : Problem → (ℕ → List ℕ) → Leg → Option Place → Type 0
IsMissed p points c o =
    MatchOption o (head_of p points c < reach_of p c → ⊥)
    (λ place. (head_of p points c < reach_of p c) × (place ≡ record { terminal = (arc_at p c.arc).to; at = reach_of p c }))

-- the too short legs that come before a leg
pub record AreTooShortBefore (p : Problem) (points : ℕ → List ℕ) (walks : List (List Leg)) (m : Member) (shorts : List Short) : Type 0 where
  pub each : All (IsShort p points walks) shorts
  pub before : All (λ s. MemberComesBefore (member_of s) m) shorts
  pub ascending : AllPairs ComesBefore shorts
  pub every : (n : Member) → MemberComesBefore n m → IsTooShort p points walks n → Contains shorts (short_of p walks n)
