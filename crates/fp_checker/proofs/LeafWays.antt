-- The steps of a way to a leaf, and what its sides ask.
use Rattle.std.proofs.Common.{◌≡◌, ℕ, ◌+◌, ◌*◌, ◌<◌, ◌≤◌, ⊎_elim, Bool, true, false, cond, List, [], ◌∷◌, ◌++◌, map, length, append-nil, get_or, take, refl, sym, ap, ◌∙◌, subst, arith}
use Rattle.std.specs.Prelude.{◌&&◌, Option}
use Rattle.std.proofs.Math.Bool.{and-true}
use Rattle.std.proofs.Math.ListN.{get_or-map}
use Rattle.std.proofs.Math.Nat.{eq-or-lt_of_le, min-le_left, min-le_right}
use Rattle.std.proofs.lemmas.List.{append_assoc, get_or-take, get_or_append_left, get_or_push, length-append, length-map, length-take, map-append, take-append-le, take_all, take_more}
use Rattle.std.proofs.lemmas.List.Elements.{filter_map-append}
use Rattle.std.proofs.lemmas.List.Folds.{list_all-append}
use Rattle.std.specs.declared.alloc.Global.{Global}
use Rattle.std.specs.declared.vec.Vec.{Vec}
use Rattle.fp_tree.specs.declared.sides.Side.{Side}
use Rattle.fp_tree.specs.declared.ways.Step.{Step}
use Rattle.fp_tree.specs.Sides.{Exit, second, way_of, ways_of}
use Rattle.fp_tree.specs.Ways.{fork_at, pending_after, pending_on, side_of, way_sides}
use Rattle.fp_tree.proofs.Steps.{IsTurned-pending}
use Rattle.fp_allowed.specs.Allowed.{meets, meets_all}
use Rattle.fp_prices_gifts.specs.declared.gifts.Gift.{Gift}
use Rattle.fp_prices_gifts.specs.GiftNumbers.{better, gift_number, number_by}
use Rattle.fp_checker.specs.declared.rules.leaf_ways.Entry.{Entry}
use Rattle.fp_checker.specs.declared.rules.narrow_sides.Change.{Change}
use Rattle.fp_checker.specs.declared.rules.leaf_ways.TheConstants.{SPACING}
use Rattle.fp_checker.specs.LeafWays.{AreCheckpoints, AskAlike, ComesBy, IsAdded}
use Rattle.fp_checker.proofs.NarrowSides.{and-last}
use Rattle.fp_checker.proofs.TruckNumbers.{better-last, better-none, number-more}

-- one entry more
pub comes-more : (old mid new : List Side) (entries : List Entry) (e : Entry) → ComesBy old entries mid → IsAdded mid (side_of e.step) new e.change → ComesBy old (entries ++ e ∷ []) new
comes-more old mid new [] e is added = (new, subst (λ (m : List Side). IsAdded m (side_of e.step) new e.change) is added, refl)
comes-more old mid new (x ∷ entries) e is added = (is.0, is.1, comes-more is.0 mid new entries e is.2 added)

-- one less
pub comes-less : (old new : List Side) (entries : List Entry) (e : Entry) → ComesBy old (entries ++ e ∷ []) new → (mid : List Side) × ComesBy old entries mid × IsAdded mid (side_of e.step) new e.change
comes-less old new [] e is = (old, refl, subst (λ (n : List Side). IsAdded old (side_of e.step) n e.change) (sym is.2) is.1)
comes-less old new (x ∷ entries) e is =
    let rest = comes-less is.0 new entries e is.2 in
    (rest.0, (is.0, is.1, rest.1), rest.2)

-- what the sides ask is what the first ones and those of the steps ask
comes-alike : (old new : List Side) (entries : List Entry) → ComesBy old entries new → (k : ℕ) (x : Exit) → meets_all k new x ≡ (meets_all k old x && meets_all k (way_sides (map (λ (e : Entry). e.step) entries)) x)
comes-alike old new [] is k x = ap (λ (sides : List Side). meets_all k sides x) is ∙ sym (and-true (meets_all k old x))
comes-alike old new (e ∷ entries) is k x =
    let rest : Bool = meets_all k (way_sides (map (λ (y : Entry). y.step) entries)) x in
    comes-alike is.0 new entries is.2 k x ∙ ap (λ (b : Bool). b && rest) (is.1.legs k x) ∙ sym (and-last (meets_all k old x) (meets k x (side_of e.step)) rest)

-- so are the numbers of trucks that they tell
comes-numbers : (old new : List Side) (entries : List Entry) → ComesBy old entries new → (gift : Gift) →
    gift_number new gift ≡ better gift.least (gift_number old gift) (gift_number (way_sides (map (λ (e : Entry). e.step) entries)) gift)
comes-numbers old new [] is gift = ap (λ (sides : List Side). gift_number sides gift) is ∙ sym (better-none gift.least (gift_number old gift))
comes-numbers old new (e ∷ entries) is gift =
    let rest : Option ℕ = gift_number (way_sides (map (λ (y : Entry). y.step) entries)) gift in
    comes-numbers is.0 new entries is.2 gift
    ∙ ap (λ (o : Option ℕ). better gift.least o rest) (is.1.numbers gift)
    ∙ sym (better-last gift.least (gift_number old gift) (number_by gift (side_of e.step)) rest)

-- and so are the arcs that they ask shipments to go by
comes-ways : (old new : List Side) (entries : List Entry) → ComesBy old entries new → (k : ℕ) → ways_of k new ≡ ways_of k old ++ ways_of k (way_sides (map (λ (e : Entry). e.step) entries))
comes-ways old new [] is k = ap (ways_of k) is ∙ sym (append-nil (ways_of k old))
comes-ways old new (e ∷ entries) is k =
    let rest : List Side = way_sides (map (λ (y : Entry). y.step) entries) in
    let side : Side = side_of e.step in
    comes-ways is.0 new entries is.2 k ∙ ap (λ (ways : List ℕ). ways ++ ways_of k rest) (is.1.ways k) ∙ append_assoc (ways_of k old) (ways_of k (side ∷ [])) (ways_of k rest)
    ∙ ap (λ (ways : List ℕ). ways_of k old ++ ways) (sym (filter_map-append (way_of k) (side ∷ []) rest))

pub asks-alike : (new : List Side) (entries : List Entry) → ComesBy [] entries new → AskAlike new (way_sides (map (λ (e : Entry). e.step) entries))
asks-alike new entries is = record { legs = λ k x. comes-alike [] new entries is k x; numbers = λ gift. comes-numbers [] new entries is gift; ways = λ k. comes-ways [] new entries is k }

-- what one side more asks, of those of the first entries
pub asks-first : (old new : List Side) (entries : List Entry) (i : ℕ) (e : Entry) (change : Change) → i < length entries → get_or entries i e ≡ e → AskAlike old (take i (way_sides (map (λ (y : Entry). y.step) entries))) →
    IsAdded old (side_of e.step) new change → AskAlike new (take (i + 1) (way_sides (map (λ (y : Entry). y.step) entries)))
asks-first old new entries i e change lt at alike added =
    let steps : List Step = map (λ (y : Entry). y.step) entries in
    let way : List Side = way_sides steps in
    let side : Side = side_of e.step in
    let long : i < length way = omega (arith, lt, length-map steps side_of, length-map entries (λ (y : Entry). y.step)) in
    let is : get_or way i side ≡ side = get_or-map side_of steps i e.step ∙ ap side_of (get_or-map (λ (y : Entry). y.step) entries i e ∙ ap (λ (y : Entry). y.step) at) in
    let more : take (i + 1) way ≡ take i way ++ (side ∷ []) = take_more way i side long ∙ ap (λ (s : Side). take i way ++ (s ∷ [])) is in
    record {
      legs = λ k x.
          let last : meets_all k (take (i + 1) way) x ≡ (meets_all k (take i way) x && meets k x side) =
          ap (λ (l : List Side). meets_all k l x) more ∙ list_all-append (meets k x) (take i way) (side ∷ []) ∙ ap (λ (b : Bool). meets_all k (take i way) x && b) (and-true (meets k x side)) in
          added.legs k x ∙ ap (λ (b : Bool). b && meets k x side) (alike.legs k x) ∙ sym last;
      numbers = λ gift.
          let last : gift_number (take (i + 1) way) gift ≡ better gift.least (gift_number (take i way) gift) (number_by gift side) =
          ap (λ (l : List Side). gift_number l gift) more ∙ number-more (take i way) side gift in
          added.numbers gift ∙ ap (λ (o : Option ℕ). better gift.least o (number_by gift side)) (alike.numbers gift) ∙ sym last;
      ways = λ k.
          added.ways k ∙ ap (λ (ways : List ℕ). ways ++ ways_of k (side ∷ [])) (alike.ways k) ∙ sym (ap (ways_of k) more ∙ filter_map-append (way_of k) (take i way) (side ∷ []));
    }

-- a last step by a second side leaves the trees to come as they are
passed-after : (before : List Side) (way : List Step) (s : Step) → s.later ≡ true → pending_after before (way ++ s ∷ []) ≡ pending_after before way
passed-after before [] s by_second = ap (λ (later : Bool). cond later [] ((before ++ (second (fork_at s) ∷ [])) ∷ [])) by_second
passed-after before (x ∷ way) s by_second =
    ap (λ (sides : List (List Side)). sides ++ cond x.later [] ((before ++ (second (fork_at x) ∷ [])) ∷ [])) (passed-after (before ++ (side_of x ∷ [])) way s by_second)

pub pending-passed : (way : List Step) (s : Step) → s.later ≡ true → pending_on (way ++ s ∷ []) ≡ pending_on way
pending-passed way s by_second = passed-after [] way s by_second

-- one by a first side turns to the next tree
pub pending-turned : (way : List Step) (s : Step) → s.later ≡ false →
    let turned : Step = record { split = s.split; tail = s.tail; later = true } in pending_on (way ++ s ∷ []) ≡ way_sides (way ++ turned ∷ []) ∷ pending_on (way ++ turned ∷ [])
pending-turned way s by_first =
    let turned : Step = record { split = s.split; tail = s.tail; later = true } in
    IsTurned-pending (way ++ s ∷ []) (way ++ turned ∷ []) (record { kept = way; step = s; passed = []; old_is = refl; by_first = by_first; by_second = tt; new_is = refl })

-- the sides of a way with a step more begin with those of the way
take-more : (n : ℕ) (steps : List Step) (s : Step) → n ≤ length steps → take n (way_sides (steps ++ s ∷ [])) ≡ take n (way_sides steps)
take-more n steps s le = ap (take n) (map-append side_of steps (s ∷ [])) ∙ take-append-le n (way_sides steps) (side_of s ∷ []) (omega (arith, le, length-map steps side_of))

-- checkpoints stay so with a step more
pub checkpoints-more : (checkpoints : List (Vec Side Global)) (steps : List Step) (s : Step) → length checkpoints * SPACING ≤ length steps → AreCheckpoints checkpoints steps → AreCheckpoints checkpoints (steps ++ s ∷ [])
checkpoints-more checkpoints steps s few are = λ i d lt.
    subst (AskAlike (get_or checkpoints i d).items) (sym (take-more ((i + 1) * SPACING) steps s (omega (arith, few, lt)))) (are i d lt)

-- and with one less
pub checkpoints-less : (checkpoints : List (Vec Side Global)) (steps : List Step) (s : Step) → length checkpoints * SPACING ≤ length steps → AreCheckpoints checkpoints (steps ++ s ∷ []) → AreCheckpoints checkpoints steps
checkpoints-less checkpoints steps s few are = λ i d lt.
    subst (AskAlike (get_or checkpoints i d).items) (take-more ((i + 1) * SPACING) steps s (omega (arith, few, lt))) (are i d lt)

-- so do the first ones
pub checkpoints-first : (n : ℕ) (checkpoints : List (Vec Side Global)) (steps : List Step) → AreCheckpoints checkpoints steps → AreCheckpoints (take n checkpoints) steps
checkpoints-first n checkpoints steps are = λ i d lt.
    subst (λ (v : Vec Side Global). AskAlike v.items (take ((i + 1) * SPACING) (way_sides steps))) (sym (get_or-take n checkpoints i d (omega (arith, lt, length-take n checkpoints, min-le_left n (length checkpoints)))))
    (are i d (omega (arith, lt, length-take n checkpoints, min-le_right n (length checkpoints))))

-- and with one more, of sides that ask what the whole way does
pub checkpoints-last : (checkpoints : List (Vec Side Global)) (last : Vec Side Global) (steps : List Step) → (length checkpoints + 1) * SPACING ≡ length steps → AskAlike last.items (way_sides steps) → AreCheckpoints checkpoints steps →
    AreCheckpoints (checkpoints ++ last ∷ []) steps
checkpoints-last checkpoints last steps due alike are = λ i d lt.
    ⊎_elim (λ (at : i ≡ length checkpoints). here i d at) (λ (before : i < length checkpoints). front i d before)
    (eq-or-lt_of_le {n = i} {m = length checkpoints} (omega (arith, lt, length-append checkpoints (last ∷ []))))
  where
    front : (i : ℕ) (d : Vec Side Global) → i < length checkpoints → AskAlike (get_or (checkpoints ++ last ∷ []) i d).items (take ((i + 1) * SPACING) (way_sides steps))
    front i d before = subst (λ (v : Vec Side Global). AskAlike v.items (take ((i + 1) * SPACING) (way_sides steps))) (sym (get_or_append_left checkpoints (last ∷ []) d i before)) (are i d before)

    here : (i : ℕ) (d : Vec Side Global) → i ≡ length checkpoints → AskAlike (get_or (checkpoints ++ last ∷ []) i d).items (take ((i + 1) * SPACING) (way_sides steps))
    here i d at =
        subst (λ (v : Vec Side Global). AskAlike v.items (take ((i + 1) * SPACING) (way_sides steps))) (sym (get_or_push checkpoints last d i (sym at)))
        (subst (AskAlike last.items) (sym (take_all ((i + 1) * SPACING) (way_sides steps) (omega (arith, at, due, length-map steps side_of)))) alike)
