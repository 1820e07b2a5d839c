-- There is one list of all too short legs.
use Rattle.std.proofs.Common.{◌≡◌, ℕ, List, [], ◌∷◌, sym, subst}
use Rattle.std.specs.Prelude.{All, Contains}
use Rattle.std.proofs.lemmas.List.Elements.{All-weaker}
use Rattle.fp_base_lists.proofs.Pairs.{AllPairs-unique}
use Rattle.fp_model.specs.declared.parts.Leg.{Leg}
use Rattle.fp_model.specs.Problem.{Problem}
use Rattle.fp_relaxmodel.proofs.UniqueGroups.{StartsBefore-apart}
use Rattle.fp_shortarcs.specs.declared.shorts.Short.{Short}
use Rattle.fp_shortarcs.specs.TooShort.{AreTooShort, ComesBefore, IsShort, member_of}

-- the legs of one list are among those of any other
among-shorts : (p : Problem) (points : ℕ → List ℕ) (walks : List (List Leg)) (shorts others : List Short) → AreTooShort p points walks shorts → AreTooShort p points walks others →
    All (Contains others) shorts
among-shorts p points walks shorts others first second =
    All-weaker (IsShort p points walks) (Contains others) (λ s is. subst (Contains others) (sym is.place) (second.every (member_of s) is.leg)) shorts first.each

-- so the lists are equal
pub shorts-unique : (p : Problem) (points : ℕ → List ℕ) (walks : List (List Leg)) (shorts others : List Short) → AreTooShort p points walks shorts → AreTooShort p points walks others →
    shorts ≡ others
shorts-unique p points walks shorts others first second =
    AllPairs-unique ComesBefore (λ s t. StartsBefore-apart (member_of s ∷ []) (member_of t ∷ [])) shorts others first.ascending second.ascending
    (among-shorts p points walks shorts others first second) (among-shorts p points walks others shorts second first)
