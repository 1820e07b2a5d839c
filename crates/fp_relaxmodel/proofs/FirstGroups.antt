-- The groups of legs: that of the first leg, and then those of the legs that have another class.
use Rattle.std.proofs.Common.{◌≡◌, ◌∙◌, true, false, List, [], ◌∷◌, ◌++◌, map, ⊎_elim, refl, sym, ap, ap₂, subst, append_assoc, true≢false}
use Rattle.std.specs.Prelude.{filter, not}
use Rattle.std.specs.List.{list_any}
use Rattle.std.proofs.lemmas.Bool.{cases_Bool, cond-true, cond-false, or_cases, or_left, or_right}
use Rattle.std.proofs.lemmas.List.{append-nil}
use Rattle.fp_model.specs.declared.parts.Leg.{Leg}
use Rattle.fp_model.specs.declared.parts.Member.{Member}
use Rattle.fp_model.specs.Costs.{same_leg}
use Rattle.fp_model.proofs.Distinct.{same_leg-true}
use Rattle.fp_relaxmodel.specs.Grouping.{Met, after, with_member}
use Rattle.fp_model.specs.Members.{NamedLeg, members_among}
use Rattle.fp_model.proofs.Members.{members_among-other, members_among-same}

-- a leg has the class
abbrev pub Occurs : Leg → List NamedLeg → Type 0
Occurs c legs = list_any (λ (x : NamedLeg). same_leg c x.leg) legs ≡ true

-- those of the legs that have another class
abbrev pub others : Leg → List NamedLeg → List NamedLeg
others c legs = filter (λ (x : NamedLeg). not (same_leg c x.leg)) legs

-- a group with its members among legs added
abbrev pub grown : List NamedLeg → Met → Met
grown legs g = record { class = g.class; members = g.members ++ members_among legs g.class }

pub others-same : (c : Leg) (x : NamedLeg) (legs : List NamedLeg) → same_leg c x.leg ≡ true → others c (x ∷ legs) ≡ others c legs
others-same c x legs e = cond-false (not (same_leg c x.leg)) (x ∷ others c legs) (others c legs) (ap not e)

pub others-other : (c : Leg) (x : NamedLeg) (legs : List NamedLeg) → same_leg c x.leg ≡ false → others c (x ∷ legs) ≡ x ∷ others c legs
others-other c x legs e = cond-true (not (same_leg c x.leg)) (x ∷ others c legs) (others c legs) (ap not e)

-- legs add to the first group what has its class, and to the later ones what has not
after-first : (legs : List NamedLeg) (g : Met) (groups : List Met) → after legs (g ∷ groups) ≡ grown legs g ∷ after (others g.class legs) groups
after-first [] g groups = ap (λ (ms : List Member). record { class = g.class; members = ms } ∷ groups) (sym (append-nil g.members))
after-first (x ∷ legs) g groups =
    let whole : List Member → List NamedLeg → List Met = λ ms rest. record { class = g.class; members = ms } ∷ after rest groups in
    ⊎_elim
    (λ (e : same_leg g.class x.leg ≡ true).
    let more : Met = record { class = g.class; members = g.members ++ (x.member ∷ []) } in
    let put : with_member x.leg x.member (g ∷ groups) ≡ more ∷ groups = cond-true (same_leg g.class x.leg) _ _ e in
    let members : (g.members ++ (x.member ∷ [])) ++ members_among legs g.class ≡ g.members ++ members_among (x ∷ legs) g.class =
    append_assoc g.members (x.member ∷ []) (members_among legs g.class) ∙ ap (λ (ms : List Member). g.members ++ ms) (sym (members_among-same g.class x legs e)) in
    ap (after legs) put ∙ after-first legs more groups ∙ ap₂ whole members (sym (others-same g.class x legs e)))
    (λ (e : same_leg g.class x.leg ≡ false).
    let put : with_member x.leg x.member (g ∷ groups) ≡ g ∷ with_member x.leg x.member groups = cond-false (same_leg g.class x.leg) _ _ e in
    let members : g.members ++ members_among legs g.class ≡ g.members ++ members_among (x ∷ legs) g.class =
    ap (λ (ms : List Member). g.members ++ ms) (sym (members_among-other g.class x legs e)) in
    ap (after legs) put ∙ after-first legs g (with_member x.leg x.member groups)
    ∙ ap (λ (ms : List Member). record { class = g.class; members = ms } ∷ after (x ∷ others g.class legs) groups) members
    ∙ ap (whole (g.members ++ members_among (x ∷ legs) g.class)) (sym (others-other g.class x legs e)))
    (cases_Bool (same_leg g.class x.leg))

-- so the group of the first leg comes first
pub after-cons : (x : NamedLeg) (legs : List NamedLeg) → after (x ∷ legs) [] ≡ record { class = x.leg; members = x.member ∷ members_among legs x.leg } ∷ after (others x.leg legs) []
after-cons x legs = after-first legs (record { class = x.leg; members = x.member ∷ [] }) []

-- a class that the others have is another one
same-class : (k l : Leg) → same_leg k l ≡ true → (c : Leg) → same_leg c k ≡ same_leg c l
same-class k l e c = ap (same_leg c) (same_leg-true k l e)

pub occurs-from_others : (k c : Leg) (legs : List NamedLeg) → Occurs k (others c legs) → (same_leg c k ≡ false) × Occurs k legs
occurs-from_others k c [] there = absurd (true≢false (sym there))
occurs-from_others k c (x ∷ legs) there =
    let later : Occurs k (others c legs) → (same_leg c k ≡ false) × Occurs k (x ∷ legs) = λ h.
    let rest : (same_leg c k ≡ false) × Occurs k legs = occurs-from_others k c legs h in
    (rest.0, or_right (same_leg k x.leg) (list_any (λ (y : NamedLeg). same_leg k y.leg) legs) rest.1) in
    ⊎_elim
    (λ (e : same_leg c x.leg ≡ true). later (subst (Occurs k) (others-same c x legs e) there))
    (λ (e : same_leg c x.leg ≡ false).
    ⊎_elim
    (λ (h : same_leg k x.leg ≡ true). (same-class k x.leg h c ∙ e, or_left (same_leg k x.leg) (list_any (λ (y : NamedLeg). same_leg k y.leg) legs) h))
    (λ (h : Occurs k (others c legs)). later h)
    (or_cases (same_leg k x.leg) (list_any (λ (y : NamedLeg). same_leg k y.leg) (others c legs)) (subst (Occurs k) (others-other c x legs e) there)))
    (cases_Bool (same_leg c x.leg))

-- another class of the legs is one of the others
pub occurs-others : (k c : Leg) (legs : List NamedLeg) → same_leg c k ≡ false → Occurs k legs → Occurs k (others c legs)
occurs-others k c [] differ there = there
occurs-others k c (x ∷ legs) differ there =
    ⊎_elim
    (λ (h : same_leg k x.leg ≡ true).
    let e : same_leg c x.leg ≡ false = sym (same-class k x.leg h c) ∙ differ in
    subst (Occurs k) (sym (others-other c x legs e)) (or_left (same_leg k x.leg) (list_any (λ (y : NamedLeg). same_leg k y.leg) (others c legs)) h))
    (λ (h : Occurs k legs).
    let rest : Occurs k (others c legs) = occurs-others k c legs differ h in
    ⊎_elim
    (λ (e : same_leg c x.leg ≡ true). subst (Occurs k) (sym (others-same c x legs e)) rest)
    (λ (e : same_leg c x.leg ≡ false).
    subst (Occurs k) (sym (others-other c x legs e)) (or_right (same_leg k x.leg) (list_any (λ (y : NamedLeg). same_leg k y.leg) (others c legs)) rest))
    (cases_Bool (same_leg c x.leg)))
    (or_cases (same_leg k x.leg) (list_any (λ (y : NamedLeg). same_leg k y.leg) legs) there)

-- and its members are among them
pub members-others : (k c : Leg) (legs : List NamedLeg) → same_leg c k ≡ false → members_among (others c legs) k ≡ members_among legs k
members-others k c [] differ = refl
members-others k c (x ∷ legs) differ =
    let rest : members_among (others c legs) k ≡ members_among legs k = members-others k c legs differ in
    ⊎_elim
    (λ (h : same_leg k x.leg ≡ true).
    let e : same_leg c x.leg ≡ false = sym (same-class k x.leg h c) ∙ differ in
    ap (λ (xs : List NamedLeg). members_among xs k) (others-other c x legs e) ∙ members_among-same k x (others c legs) h
    ∙ ap (λ (ms : List Member). x.member ∷ ms) rest ∙ sym (members_among-same k x legs h))
    (λ (h : same_leg k x.leg ≡ false).
    let without : members_among (others c (x ∷ legs)) k ≡ members_among (others c legs) k =
    ⊎_elim
    (λ (e : same_leg c x.leg ≡ true). ap (λ (xs : List NamedLeg). members_among xs k) (others-same c x legs e))
    (λ (e : same_leg c x.leg ≡ false). ap (λ (xs : List NamedLeg). members_among xs k) (others-other c x legs e) ∙ members_among-other k x (others c legs) h)
    (cases_Bool (same_leg c x.leg)) in
    without ∙ rest ∙ sym (members_among-other k x legs h))
    (cases_Bool (same_leg k x.leg))
