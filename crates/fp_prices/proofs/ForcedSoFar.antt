-- The forced chains of all shipments, shipment by shipment.
use Rattle.std.proofs.Common.{◌≡◌, ℕ, zero, suc, ◌+◌, ◌*◌, ◌^◌, ◌<◌, ◌≤◌, Bool, true, false, ◌||◌, List, [], ◌∷◌, ◌++◌, length, get_or, take, replicate, map, ⊎_elim, refl, sym, ap, ◌∙◌, subst, arith}
use Rattle.std.specs.Prelude.{All, if◌then◌else◌, nat_eq, IfOk, Result, Ok, Err}
use Rattle.std.specs.declared.alloc.AllocError.{AllocError}
use Rattle.std.specs.List.{AllByRecursion}
use Rattle.std.proofs.Math.Bool.{or-false}
use Rattle.std.proofs.lemmas.Bool.{cases_eq, cases_lt, eq-eqb, false_from_ne_true, ne_eqb}
use Rattle.std.proofs.lemmas.List.{get_or-replicate, get_or_past, length-append, length-replicate, length-take, take_all, take_more}
use Rattle.std.proofs.lemmas.List.Elements.{recursion_from_All}
use Rattle.std.proofs.lemmas.List.Folds.{list_any-append}
use Rattle.fp_base_lists.proofs.Numbered.{AllZipFrom-push}
use Rattle.fp_model.specs.declared.parts.Leg.{Leg}
use Rattle.fp_model.specs.declared.parts.Shipment.{Shipment}
use Rattle.fp_model.specs.Costs.{all_legs, has_leg, load, same_leg}
use Rattle.fp_model.specs.Numbered.{no_shipment, shipment_at}
use Rattle.fp_base_lists.specs.Numbered.{AllZipFrom}
use Rattle.fp_model.specs.Routes.{arcs_of}
use Rattle.fp_base_lists.specs.Distinct.{AreDistinct}
use Rattle.fp_base_lists.proofs.Distinct.{AreDistinct-from_map}
use Rattle.fp_model.proofs.Distinct.{same_leg-refl, same_leg-true}
use Rattle.fp_base_lists.specs.Membership.{list_has}
use Rattle.fp_flatnet.specs.Tables.{windows_in}
use Rattle.fp_longestarcs.specs.Networks.{IsClass, IsNetwork, TimedNetwork, class_count, class_number, points_in}
use Rattle.fp_tree.specs.declared.sides.Side.{Side}
use Rattle.fp_allowed.specs.Allowed.{IsForcedChain}
use Rattle.fp_allowed.specs.Bits.{allowed_in, bit_of}
use Rattle.fp_allowed.specs.Chains.{IsForced}
use Rattle.fp_allowed.specs.ForcedChains.{ForcedChain}
use Rattle.fp_allowed.specs.Listing.{class_at, classes_at}
use Rattle.fp_allowed.specs.Settings.{Setting}
use Rattle.fp_allowed.proofs.AllowedClasses.{is_allowed_parts}
use Rattle.fp_allowed.proofs.ListedClasses.{class_at-number}
use Rattle.fp_prices.specs.declared.classes.bases.ForcedClasses.{ForcedClasses}
use Rattle.fp_prices.specs.Forced.{AreForcedOf, AreRowsUnder}
use Rattle.fp_prices.specs.Leaves.{IsChain}
use Rattle.fp_prices.proofs.NumberedClasses.{number-class}
use Rattle.fp_prices.proofs.SmallBounds.{chain-arcs}

-- a load with one more chain
load-push : (shipments : List Shipment) (chains : List (List Leg)) (s : Shipment) (chain : List Leg) (c : Leg) → length chains ≡ length shipments →
    load (shipments ++ (s ∷ [])) (chains ++ (chain ∷ [])) c ≡ load shipments chains c + (if has_leg c chain then s.size else 0)
load-push [] [] s chain c same = omega arith
load-push [] (x ∷ chains) s chain c same = absurd (omega arith)
load-push (t ∷ shipments) [] s chain c same = absurd (omega arith)
load-push (t ∷ shipments) (x ∷ chains) s chain c same = omega (arith, load-push shipments chains s chain c (omega arith))

-- the legs with those of one more chain
legs-push : (chains : List (List Leg)) (chain : List Leg) (c : Leg) → has_leg c (all_legs (chains ++ (chain ∷ []))) ≡ (has_leg c (all_legs chains) || has_leg c chain)
legs-push [] chain c = list_any-append (same_leg c) chain [] ∙ or-false (has_leg c chain)
legs-push (x ∷ chains) chain c =
    list_any-append (same_leg c) x (all_legs (chains ++ (chain ∷ []))) ∙ ap (λ (b : Bool). has_leg c x || b) (legs-push chains chain c) ∙
    or-assoc (has_leg c x) (has_leg c (all_legs chains)) (has_leg c chain) ∙ ap (λ (b : Bool). b || has_leg c chain) (sym (list_any-append (same_leg c) x (all_legs chains)))
  where
    or-assoc : (a b d : Bool) → (a || (b || d)) ≡ ((a || b) || d)
    or-assoc true b d = refl
    or-assoc false b d = refl

-- what holds of the legs of chains and of one more chain
legs-all-push : (P : Leg → Type 0) (chains : List (List Leg)) (chain : List Leg) → AllByRecursion P (all_legs chains) → AllByRecursion P chain → AllByRecursion P (all_legs (chains ++ (chain ∷ [])))
legs-all-push P [] chain all one = append-all chain [] one tt
  where
    append-all : (xs ys : List Leg) → AllByRecursion P xs → AllByRecursion P ys → AllByRecursion P (xs ++ ys)
    append-all [] ys a b = b
    append-all (x ∷ xs) ys a b = (a.0, append-all xs ys a.1 b)
legs-all-push P (x ∷ chains) chain all one = append-all x (all_legs (chains ++ (chain ∷ []))) (front x all) (legs-all-push P chains chain (back x all) one)
  where
    append-all : (xs ys : List Leg) → AllByRecursion P xs → AllByRecursion P ys → AllByRecursion P (xs ++ ys)
    append-all [] ys a b = b
    append-all (y ∷ xs) ys a b = (a.0, append-all xs ys a.1 b)

    front : (xs : List Leg) → AllByRecursion P (xs ++ all_legs chains) → AllByRecursion P xs
    front [] a = tt
    front (y ∷ xs) a = (a.0, front xs a.1)

    back : (xs : List Leg) → AllByRecursion P (xs ++ all_legs chains) → AllByRecursion P (all_legs chains)
    back [] a = a
    back (y ∷ xs) a = back xs a.1

-- a class is among the classes with some numbers where its number is among them
has-number : (net : TimedNetwork) (numbers : List ℕ) (c : Leg) → IsNetwork net → IsClass net c → All (λ n. n < class_count net) numbers → has_leg c (classes_at net numbers) ≡ list_has numbers (class_number net c)
has-number net numbers c valid is within = go numbers (recursion_from_All (λ n. n < class_count net) numbers within)
  where
    one : (n : ℕ) → n < class_count net → same_leg c (class_at net n) ≡ nat_eq n (class_number net c)
    one n h =
        let at = number-class net n valid h in
        ⊎_elim
        (λ (same : n ≡ class_number net c).
        let e : class_at net n ≡ c = ap (class_at net) same ∙ class_at-number net c valid is in
        ap (same_leg c) e ∙ same_leg-refl c ∙ sym (eq-eqb n (class_number net c) same))
        (λ (other : n ≡ class_number net c → ⊥).
        false_from_ne_true (same_leg c (class_at net n)) (λ t. other (sym at.1 ∙ ap (class_number net) (sym (same_leg-true c (class_at net n) t)))) ∙ sym (ne_eqb n (class_number net c) other))
        (cases_eq n (class_number net c))

    go : (ns : List ℕ) → AllByRecursion (λ n. n < class_count net) ns → has_leg c (classes_at net ns) ≡ list_has ns (class_number net c)
    go [] all = refl
    go (n ∷ ns) all = ap (λ (b : Bool). b || has_leg c (classes_at net ns)) (one n all.0) ∙ ap (λ (b : Bool). nat_eq n (class_number net c) || b) (go ns all.1)

-- the classes with numbers are the network's
are-classes : (net : TimedNetwork) (numbers : List ℕ) → IsNetwork net → AllByRecursion (λ n. n < class_count net) numbers → AllByRecursion (IsClass net) (classes_at net numbers)
are-classes net [] valid all = tt
are-classes net (n ∷ numbers) valid all = ((number-class net n valid all.0).0, are-classes net numbers valid all.1)

-- the chains of the shipments so far
pub record ForcedSoFar (s : Setting) (rows : List (List Bool)) (i : ℕ) (forced : ForcedClasses) : Type 0 where
  pub chains : List (List Leg)
  pub long : length chains ≡ i
  pub forced_all : (sides : List Side) → AreRowsUnder s sides rows → AllZipFrom (λ k. IsChain s.problem (allowed_in s sides k) true) 0 (take i s.problem.shipments) chains
  pub classes : AllByRecursion (IsClass s.network) (all_legs chains)
  pub loads_long : length forced.loads.items ≡ class_count s.network
  pub row_long : length forced.row ≡ class_count s.network
  pub small : All (λ load. load ≤ i * 10 ^ 18) forced.loads.items
  pub loads : (c : Leg) → IsClass s.network c → get_or forced.loads.items (class_number s.network c) 0 ≡ load (take i s.problem.shipments) chains c
  pub told : (c : Leg) → IsClass s.network c → bit_of forced.row (class_number s.network c) ≡ has_leg c (all_legs chains)

-- what no chain loads
pub record AreUnloaded (s : Setting) (forced : ForcedClasses) : Type 0 where
  pub loads_long : length forced.loads.items ≡ class_count s.network
  pub row_long : length forced.row ≡ class_count s.network
  pub loads : (n : ℕ) → get_or forced.loads.items n 0 ≡ 0
  pub told : (n : ℕ) → bit_of forced.row n ≡ false

AreUnloaded-replicate : (s : Setting) (forced : ForcedClasses) → forced.loads.items ≡ replicate (class_count s.network) 0 → forced.row ≡ replicate (class_count s.network) false → AreUnloaded s forced
AreUnloaded-replicate s forced loads_are row_is = record {
  loads_long = ap (λ (l : List ℕ). length l) loads_are ∙ length-replicate {A = ℕ} (class_count s.network) 0;
  row_long = ap (λ (l : List Bool). length l) row_is ∙ length-replicate (class_count s.network) false;
  loads = λ n. ap (λ (l : List ℕ). get_or l n 0) loads_are ∙ zeros (class_count s.network) n 0 refl;
  told = λ n. ap (λ (l : List Bool). bit_of l n) row_is ∙ falses (class_count s.network) n;
}
  where
    zeros : (n i d : ℕ) → d ≡ 0 → get_or (replicate n 0) i d ≡ 0
    zeros n i d is =
        ⊎_elim (λ (inside : i < n). get_or-replicate n i 0 d inside) (λ (past : n ≤ i). get_or_past (replicate n 0) i d (omega (arith, length-replicate {A = ℕ} n 0)) ∙ is) (cases_lt i n)

    falses : (n i : ℕ) → bit_of (replicate n false) i ≡ false
    falses n i =
        ⊎_elim (λ (inside : i < n). get_or-replicate n i false false inside) (λ (past : n ≤ i). get_or_past (replicate n false) i false (omega (arith, length-replicate {A = Bool} n false))) (cases_lt i n)

-- at first there is none
pub so_far_none : (s : Setting) (rows : List (List Bool)) (forced : ForcedClasses) → forced.loads.items ≡ replicate (class_count s.network) 0 → forced.row ≡ replicate (class_count s.network) false → ForcedSoFar s rows 0 forced
so_far_none s rows forced loads_are row_is =
    let none = AreUnloaded-replicate s forced loads_are row_is in
    record {
      chains = [];
      long = refl;
      forced_all = λ sides are. tt;
      classes = tt;
      loads_long = none.loads_long;
      row_long = none.row_long;
      small = λ k d h.
          let inside : k < class_count s.network = omega (arith, h, none.loads_long) in
          let e : get_or forced.loads.items k d ≡ 0 = ap (λ (l : List ℕ). get_or l k d) loads_are ∙ get_or-replicate (class_count s.network) k 0 d inside in omega (arith, e);
      loads = λ c is. none.loads (class_number s.network c);
      told = λ c is. none.told (class_number s.network c);
    }

-- the numbers of a forced chain are apart
pub numbers-apart : (s : Setting) (sides : List Side) (k : ℕ) (chain : ForcedChain) → IsForced s.problem s.network (allowed_in s sides k) (shipment_at s.problem k) chain → AreDistinct chain.classes
numbers-apart s sides k chain is =
    let arc : ℕ → ℕ = λ n. (class_at s.network n).arc in
    let apart : AreDistinct (arcs_of (classes_at s.network chain.classes)) =
    (chain-arcs s.problem (allowed_in s sides k) true (shipment_at s.problem k) (classes_at s.network chain.classes) (λ c h. (is_allowed_parts s.problem (windows_in s.windows) (points_in s.network) sides k c h).0) is.forced).1 in
    AreDistinct-from_map arc chain.classes (subst AreDistinct (joined chain.classes) apart)
  where
    joined : (numbers : List ℕ) → arcs_of (classes_at s.network numbers) ≡ map (λ n. (class_at s.network n).arc) numbers
    joined [] = refl
    joined (n ∷ numbers) = ap (λ (l : List ℕ). (class_at s.network n).arc ∷ l) (joined numbers)

-- one more chain
pub so_far_more : (s : Setting) (rows : List (List Bool)) (i : ℕ) (old new : ForcedClasses) (numbers : List ℕ) → IsNetwork s.network → i < length s.problem.shipments → (shipment_at s.problem i).size ≤ 10 ^ 18 →
    ForcedSoFar s rows i old → All (λ n. n < class_count s.network) numbers →
    ((sides : List Side) → AreRowsUnder s sides rows → IsForcedChain s.problem (allowed_in s sides i) (shipment_at s.problem i) (classes_at s.network numbers)) →
    length new.loads.items ≡ length old.loads.items → length new.row ≡ length old.row →
    ((n : ℕ) → get_or new.loads.items n 0 ≡ get_or old.loads.items n 0 + (if list_has numbers n then (shipment_at s.problem i).size else 0)) →
    ((n : ℕ) → bit_of new.row n ≡ (bit_of old.row n || list_has numbers n)) → ForcedSoFar s rows (i + 1) new
so_far_more s rows i old new numbers valid exists within so_far in_net forced loads_long row_long loads_are bits_are = record {
  chains = so_far.chains ++ (classes_at s.network numbers ∷ []);
  long = (let e : length (so_far.chains ++ (classes_at s.network numbers ∷ [])) ≡ i + 1 = omega (arith, length-append so_far.chains (classes_at s.network numbers ∷ []), so_far.long) in e);
  forced_all = λ sides are.
      subst (λ (l : List Shipment). AllZipFrom (λ k. IsChain s.problem (allowed_in s sides k) true) 0 l (so_far.chains ++ (classes_at s.network numbers ∷ []))) (sym more)
      (AllZipFrom-push (λ k. IsChain s.problem (allowed_in s sides k) true) 0 (take i s.problem.shipments) so_far.chains (shipment_at s.problem i) (classes_at s.network numbers) (so_far.forced_all sides are)
      (subst (λ (k : ℕ). IsForcedChain s.problem (allowed_in s sides k) (shipment_at s.problem i) (classes_at s.network numbers)) (sym number) (forced sides are)));
  classes = legs-all-push (IsClass s.network) so_far.chains (classes_at s.network numbers) so_far.classes (are-classes s.network numbers valid (recursion_from_All (λ n. n < class_count s.network) numbers in_net));
  loads_long = loads_long ∙ so_far.loads_long;
  row_long = row_long ∙ so_far.row_long;
  small = λ k d h.
      let before : get_or old.loads.items k 0 ≤ i * 10 ^ 18 = so_far.small k 0 (omega (arith, h, loads_long)) in
      let any : get_or new.loads.items k d ≡ get_or new.loads.items k 0 = get_or-any new.loads.items k d 0 h in
      omega (arith, before, any, loads_are k, at-most (list_has numbers k) (shipment_at s.problem i).size, within);
  loads = λ c is.
      loads_are (class_number s.network c) ∙ ap (λ (n : ℕ). n + (if list_has numbers (class_number s.network c) then (shipment_at s.problem i).size else 0)) (so_far.loads c is) ∙
      ap (λ (b : Bool). load (take i s.problem.shipments) so_far.chains c + (if b then (shipment_at s.problem i).size else 0)) (sym (has-number s.network numbers c valid is in_net)) ∙
      sym (ap (λ (l : List Shipment). load l (so_far.chains ++ (classes_at s.network numbers ∷ [])) c) more ∙
      load-push (take i s.problem.shipments) so_far.chains (shipment_at s.problem i) (classes_at s.network numbers) c (omega (arith, so_far.long, length-take i s.problem.shipments, exists)));
  told = λ c is.
      bits_are (class_number s.network c) ∙ ap (λ (b : Bool). b || list_has numbers (class_number s.network c)) (so_far.told c is) ∙
      ap (λ (b : Bool). has_leg c (all_legs so_far.chains) || b) (sym (has-number s.network numbers c valid is in_net)) ∙ sym (legs-push so_far.chains (classes_at s.network numbers) c);
}
  where
    more : take (i + 1) s.problem.shipments ≡ take i s.problem.shipments ++ (shipment_at s.problem i ∷ [])
    more = take_more s.problem.shipments i no_shipment exists

    number : 0 + length (take i s.problem.shipments) ≡ i
    number = omega (arith, length-take i s.problem.shipments, exists)

    at-most : (b : Bool) (n : ℕ) → (if b then n else 0) ≤ n
    at-most true n = omega arith
    at-most false n = omega arith

    get_or-any : (xs : List ℕ) (k d e : ℕ) → k < length xs → get_or xs k d ≡ get_or xs k e
    get_or-any [] k d e h = absurd (omega arith)
    get_or-any (x ∷ xs) zero d e h = refl
    get_or-any (x ∷ xs) (suc k) d e h = get_or-any xs k d e (omega arith)

-- all chains
pub so_far_all : (s : Setting) (rows : List (List Bool)) (i : ℕ) (forced : ForcedClasses) → ForcedSoFar s rows i forced → length s.problem.shipments ≤ i → AreForcedOf s rows true forced
so_far_all s rows i forced so_far all =
    let whole : take i s.problem.shipments ≡ s.problem.shipments = take_all i s.problem.shipments all in
    record {
      chains = so_far.chains;
      are_chains = λ sides are. subst (λ (l : List Shipment). AllZipFrom (λ k. IsChain s.problem (allowed_in s sides k) true) 0 l so_far.chains) whole (so_far.forced_all sides are);
      are = record {
        loads_long = so_far.loads_long;
        row_long = so_far.row_long;
        classes = so_far.classes;
        loads = λ c is. so_far.loads c is ∙ ap (λ (l : List Shipment). load l so_far.chains c) whole;
        told = so_far.told;
      };
    }

-- no chain of any shipment
none_forced : (s : Setting) (rows : List (List Bool)) (forced : ForcedClasses) → forced.loads.items ≡ replicate (class_count s.network) 0 → forced.row ≡ replicate (class_count s.network) false → AreForcedOf s rows false forced
none_forced s rows forced loads_are row_is =
    let start = AreUnloaded-replicate s forced loads_are row_is in
    let chains : List (List Leg) = map (λ (x : Shipment). []) s.problem.shipments in
    record {
      chains = chains;
      are_chains = λ sides are. empty 0 s.problem.shipments sides;
      are = record {
        loads_long = start.loads_long;
        row_long = start.row_long;
        classes = subst (AllByRecursion (IsClass s.network)) (sym (no-legs s.problem.shipments)) tt;
        loads = λ c is. start.loads (class_number s.network c) ∙ sym (no-load s.problem.shipments c);
        told = λ c is. start.told (class_number s.network c) ∙ sym (ap (has_leg c) (no-legs s.problem.shipments));
      };
    }
  where
    empty : (i : ℕ) (shipments : List Shipment) (sides : List Side) → AllZipFrom (λ k. IsChain s.problem (allowed_in s sides k) false) i shipments (map (λ (x : Shipment). []) shipments)
    empty i [] sides = tt
    empty i (x ∷ shipments) sides = (refl, empty (i + 1) shipments sides)

    no-legs : (shipments : List Shipment) → all_legs (map (λ (x : Shipment). []) shipments) ≡ []
    no-legs [] = refl
    no-legs (x ∷ shipments) = no-legs shipments

    no-load : (shipments : List Shipment) (c : Leg) → load shipments (map (λ (x : Shipment). []) shipments) c ≡ 0
    no-load [] c = refl
    no-load (x ∷ shipments) c = omega (arith, no-load shipments c)

-- where none is forced, and memory was found
pub none_forced_ok : (s : Setting) (rows : List (List Bool)) (classes : ℕ) (forced : Bool) (r : Result ForcedClasses AllocError) → forced ≡ false → classes ≡ class_count s.network →
    IfOk r (λ f. f.loads.items ≡ replicate classes 0) → IfOk r (λ f. f.row ≡ replicate classes false) → IfOk r (AreForcedOf s rows forced)
none_forced_ok s rows classes forced (Ok f) plain count loads row =
    subst (λ (b : Bool). AreForcedOf s rows b f) (sym plain) (none_forced s rows f (loads ∙ ap (λ (n : ℕ). replicate n 0) count) (row ∙ ap (λ (n : ℕ). replicate n false) count))
none_forced_ok s rows classes forced (Err e) plain count loads row = tt
