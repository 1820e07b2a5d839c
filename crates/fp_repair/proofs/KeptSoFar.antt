-- The groups that are kept while the groups are gone through: those that change nothing are left
-- out of the list at hand.
use Rattle.std.proofs.Common.{◌≡◌, ℕ, ◌<◌, Option, List, [], ◌∷◌, ◌++◌, length, inl, inr, refl, sym, ap₂, ◌∙◌, subst, take, arith, append_assoc}
use Rattle.std.proofs.Math.Seq.{take-append_seam}
use Rattle.std.proofs.lemmas.List.{map-append}
use Rattle.std.specs.declared.alloc.Global.{Global}
use Rattle.std.specs.declared.vec.Vec.{Vec}
use Rattle.fp_base_lists.specs.Vectors.{lists_of}
use Rattle.fp_model.specs.declared.parts.Leg.{Leg}
use Rattle.fp_model.specs.declared.parts.Member.{Member}
use Rattle.fp_model.specs.Members.{AreGroupsOf}
use Rattle.fp_model.specs.Problem.{Problem}
use Rattle.fp_flatnet.specs.declared.window_tables.Window.{Window}
use Rattle.fp_dispatch.specs.Answers.{IsEarliest}
use Rattle.fp_dispatch.specs.Times.{HaveTimes}
use Rattle.fp_repair.specs.KeptGroups.{AreKeptAfter, AreKeptGroups, IsKeptPlan}
use Rattle.fp_repair.proofs.StricterGroups.{AreGroupsOf-append_left, AreGroupsOf-without, AreStricter, AreStricter-lone, AreStricter-more, AreStricter-push, HaveTimes-stricter, IsEarliest-stricter}

-- the lists that vectors hold, after one more
pub lists_of-push : (items : List (Vec Member Global)) (group : Vec Member Global) → lists_of (items ++ (group ∷ [])) ≡ lists_of items ++ (group.items ∷ [])
lists_of-push items group = map-append (λ (v : Vec Member Global). v.items) items (group ∷ [])

-- a list after one more element and without it
pub pop-push : {X : Type 0} (before : List X) (x : X) (after left : List X) (n : ℕ) → after ≡ before ++ (x ∷ []) → n ≡ length before → left ≡ take n after → left ≡ before
pop-push before x after left n pushed count popped =
    popped ∙ ap₂ take count pushed ∙ take-append_seam before (x ∷ [])

-- an empty list
pub length-zero : {X : Type 0} (xs : List X) → length xs ≡ 0 → xs ≡ []
length-zero [] none = refl
length-zero (x ∷ xs) none = absurd (omega (arith, none))

-- before the groups that are left, those that are kept are as strict as the list at hand
pub record AreKeptSoFar (p : Problem) (windows : ℕ → ℕ → Option Window) (routes : List (List ℕ)) (groups rest kept : List (List Member)) : Type 0 where
  pub before : List (List Member)
  pub onward : (all : List (List Member)) → AreKeptAfter p windows routes before rest all → AreKeptGroups p windows routes groups all
  pub stricter : AreStricter before kept
  pub back : AreStricter kept before
  pub are : AreGroupsOf routes (kept ++ rest)

module _ (p : Problem) (windows : ℕ → ℕ → Option Window) (routes : List (List ℕ)) (groups : List (List Member)) where
  -- at the start
  pub so_far-start : AreGroupsOf routes groups → AreKeptSoFar p windows routes groups groups []
  so_far-start are = record { before = []; onward = λ all kept. kept; stricter = λ times together. together; back = λ times together. together; are = are }

  -- a group is next
  pub so_far-next : (items : List (Vec Member Global)) (group : Vec Member Global) (rest : List (Vec Member Global)) (kept : List (List Member)) → items ≡ group ∷ rest →
      AreKeptSoFar p windows routes groups (lists_of items) kept → AreKeptSoFar p windows routes groups (group.items ∷ lists_of rest) kept
  so_far-next items group rest kept next so_far = subst (λ (gs : List (Vec Member Global)). AreKeptSoFar p windows routes groups (lists_of gs) kept) next so_far

  module _ (group : List Member) (rest kept : List (List Member)) (so_far : AreKeptSoFar p windows routes groups (group ∷ rest) kept) where
    -- the groups at hand with the next one are groups of the routes
    pub so_far-groups : AreGroupsOf routes (kept ++ (group ∷ []))
    so_far-groups =
        AreGroupsOf-append_left routes (kept ++ (group ∷ [])) rest
        (subst (AreGroupsOf routes) (sym (append_assoc kept (group ∷ []) rest)) so_far.are)

    -- after a group of one leg
    pub so_far-lone : length group < 2 → HaveTimes p windows routes kept → AreKeptSoFar p windows routes groups rest kept
    so_far-lone lone have = record {
      before = so_far.before ++ (group ∷ []);
      onward = λ all are. so_far.onward all (inl (
        HaveTimes-stricter p windows routes kept (so_far.before ++ (group ∷ [])) (AreStricter-lone kept so_far.before group lone so_far.back) have,
        are,
      ));
      stricter = λ times together. so_far.stricter times (AreStricter-more so_far.before (group ∷ []) times together);
      back = AreStricter-lone kept so_far.before group lone so_far.back;
      are = AreGroupsOf-without routes kept group rest so_far.are;
    }

    -- after a group with which there are times
    pub so_far-kept : HaveTimes p windows routes (kept ++ (group ∷ [])) → AreKeptSoFar p windows routes groups rest (kept ++ (group ∷ []))
    so_far-kept have = record {
      before = so_far.before ++ (group ∷ []);
      onward = λ all are. so_far.onward all (inl (
        HaveTimes-stricter p windows routes (kept ++ (group ∷ [])) (so_far.before ++ (group ∷ [])) (AreStricter-push kept so_far.before group so_far.back) have,
        are,
      ));
      stricter = AreStricter-push so_far.before kept group so_far.stricter;
      back = AreStricter-push kept so_far.before group so_far.back;
      are = subst (AreGroupsOf routes) (sym (append_assoc kept (group ∷ []) rest)) so_far.are;
    }

    -- after a group with which there are none
    pub so_far-clash : (HaveTimes p windows routes (kept ++ (group ∷ [])) → ⊥) → AreKeptSoFar p windows routes groups rest kept
    so_far-clash clash = record {
      before = so_far.before;
      onward = λ all are. so_far.onward all (inr (
        (λ have. clash (HaveTimes-stricter p windows routes (so_far.before ++ (group ∷ [])) (kept ++ (group ∷ [])) (AreStricter-push so_far.before kept group so_far.stricter) have)),
        are,
      ));
      stricter = so_far.stricter;
      back = so_far.back;
      are = AreGroupsOf-without routes kept group rest so_far.are;
    }

  -- at the end the plan at hand is the one with the kept groups
  pub so_far-end : (kept : List (List Member)) (legs : List (List Leg)) → AreKeptSoFar p windows routes groups [] kept → IsEarliest p windows routes kept legs →
      IsKeptPlan p windows routes groups legs
  so_far-end kept legs so_far is = record {
    kept = so_far.before;
    are = so_far.onward so_far.before refl;
    earliest = IsEarliest-stricter p windows routes kept so_far.before so_far.back so_far.stricter legs is;
  }
