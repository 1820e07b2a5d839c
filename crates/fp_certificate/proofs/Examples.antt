-- What reading says of a worked certificate and of altered ones.
use Rattle.std.proofs.Common.{◌≡◌, ℕ, false, true, List, [], ◌∷◌, ◌++◌, refl}
use Rattle.std.specs.Prelude.{Result, Ok, Err, None, Some, codes}
use Rattle.fp_prices.specs.declared.leaf_prices.Kind.TheVariants.{Even, Linear}
use Rattle.fp_records_fields.specs.Faults.{Fault}
use Rattle.fp_tree.specs.declared.sides.Split.TheVariants.{ByTrucks}
use Rattle.fp_certificate.specs.Reading.{certificate_of}
use Rattle.fp_certificate_lines.specs.declared.certificates.Node.TheVariants.{Branch, Leaf, Narrow}
use Rattle.fp_certificate_lines.specs.Statements.{Statement}
use Rattle.fp_certificate_lines.proofs.Examples.{answer, best, last, leaf, leg, records, small, truck, whole}

-- what they give after four records of an instance
abbrev read : List (List (List ℕ)) → Result Statement Fault
read lines = certificate_of small 5 lines

-- the fault with a code of the record with an ordinal
abbrev bad : (ordinal code : ℕ) → Result Statement Fault
bad ordinal code = Err (record { ordinal = ordinal; code = code })

reads : read whole ≡ Ok best
reads = refl

-- a line of no kind
no-kind : read (records answer (codes "lag" ∷ codes "S1" ∷ codes "A" ∷ codes "B" ∷ codes "0" ∷ codes "5" ∷ []) truck (leaf (codes "linear") (codes "forced"))) ≡ bad 6 21
no-kind = refl

-- an answer of no kind
no-answer : read (records (codes "answer" ∷ codes "bound" ∷ codes "104" ∷ []) (leg (codes "0")) truck (leaf (codes "linear") (codes "forced"))) ≡ bad 5 21
no-answer = refl

few-fields : read (records answer (leg (codes "0")) truck (codes "leaf" ∷ codes "linear" ∷ codes "0" ∷ [])) ≡ bad 8 22
few-fields = refl

-- neither a number
no-number : read (records answer (codes "leg" ∷ codes "S1" ∷ codes "A" ∷ codes "B" ∷ codes "0" ∷ codes "5x" ∷ []) truck (leaf (codes "linear") (codes "forced"))) ≡ bad 6 23
no-number = refl

-- nor a word
no-word : read (records answer (leg (codes "0")) truck (leaf (codes "linear") (codes "loose"))) ≡ bad 8 23
no-word = refl

-- a leg after a truck
changed-places : read (records answer truck (leg (codes "0")) (leaf (codes "linear") (codes "forced"))) ≡ bad 7 24
changed-places = refl

-- a shipment that isn't there
no-shipment : read (records answer (codes "leg" ∷ codes "S9" ∷ codes "A" ∷ codes "B" ∷ codes "0" ∷ codes "5" ∷ []) truck (leaf (codes "linear") (codes "forced"))) ≡ bad 6 25
no-shipment = refl

-- ends that no arc joins
no-arc : read (records answer (codes "leg" ∷ codes "S1" ∷ codes "B" ∷ codes "A" ∷ codes "0" ∷ codes "5" ∷ []) truck (leaf (codes "linear") (codes "forced"))) ≡ bad 6 25
no-arc = refl

late : read (records answer (leg (codes "100001")) truck (leaf (codes "linear") (codes "forced"))) ≡ bad 6 28
late = refl

no-table : read (records answer (leg (codes "0")) truck (leaf (codes "7") (codes "plain"))) ≡ bad 8 28
no-table = refl

no-end : read (answer ∷ leg (codes "0") ∷ truck ∷ leaf (codes "linear") (codes "forced") ∷ []) ≡ bad 9 26
no-end = refl

after-end : read (whole ++ (last ∷ [])) ≡ bad 10 27
after-end = refl

-- a line after the end has no other code, though it is of no kind
after-end-alone : read (whole ++ ((codes "lag" ∷ []) ∷ [])) ≡ bad 10 27
after-end-alone = refl

-- no certificate at all
nothing : read [] ≡ bad 5 26
nothing = refl

abbrev scale : List ℕ → List (List ℕ)
scale n = codes "scale" ∷ n ∷ []

scale-zero : read (answer ∷ scale (codes "0") ∷ []) ≡ bad 6 28
scale-zero = refl

scale-twice : read (answer ∷ scale (codes "1") ∷ scale (codes "1") ∷ []) ≡ bad 7 24
scale-twice = refl

-- a scale above its limit, and one of many digits
scale-above : read (answer ∷ scale (codes "1000000001") ∷ []) ≡ bad 6 28
scale-above = refl

-- nothing stands under an infeasible answer, and no scale under a direct one
after-infeasible : read ((codes "answer" ∷ codes "infeasible" ∷ codes "S1" ∷ codes "none" ∷ []) ∷ leg (codes "0") ∷ []) ≡ bad 6 24
after-infeasible = refl

after-direct : read ((codes "answer" ∷ codes "direct" ∷ codes "104" ∷ []) ∷ scale (codes "1") ∷ []) ≡ bad 6 24
after-direct = refl

-- a table's number is the next, whatever its digits
table-next : read (answer ∷ (codes "table" ∷ codes "001" ∷ []) ∷ (codes "table" ∷ codes "3" ∷ []) ∷ []) ≡ bad 7 24
table-next = refl

-- a table by moments has the word as a third field, which is another table than without it
reads-moments : read (answer ∷ (codes "table" ∷ codes "1" ∷ codes "moments" ∷ []) ∷ (codes "table" ∷ codes "2" ∷ []) ∷ last ∷ [])
    ≡ Ok (record best {
      legs = [];
      trucks = [];
      tables = [] ∷ ([] ∷ []);
      spans = [] ∷ ([] ∷ []);
      gifts = [] ∷ ([] ∷ []);
      moments = true ∷ (false ∷ []);
      tree = [];
    })
reads-moments = refl

-- no other word stands there, and nothing after it
other-word : read (answer ∷ (codes "table" ∷ codes "1" ∷ codes "moment" ∷ []) ∷ []) ≡ bad 6 23
other-word = refl

after-word : read (answer ∷ (codes "table" ∷ codes "1" ∷ codes "moments" ∷ codes "1" ∷ []) ∷ []) ≡ bad 6 22
after-word = refl

-- a weight without a share in its table
no-share : read (answer ∷ (codes "table" ∷ codes "1" ∷ []) ∷ (codes "share" ∷ codes "A" ∷ codes "B" ∷ codes "0" ∷ codes "0" ∷ [])
    ∷ (codes "table" ∷ codes "2" ∷ []) ∷ (codes "weight" ∷ codes "S1" ∷ codes "1" ∷ []) ∷ []) ≡ bad 9 24
no-share = refl

abbrev unit : List ℕ → List (List ℕ)
unit n = codes "unit" ∷ n ∷ []

-- a unit is at least 1 and at most 2^127 - 1, and there is one
reads-unit : read (answer ∷ scale (codes "7") ∷ unit (codes "50") ∷ last ∷ [])
    ≡ Ok (record best { scale = Some 7; unit = Some 50; legs = []; trucks = []; tree = [] })
reads-unit = refl

unit-zero : read (answer ∷ unit (codes "0") ∷ []) ≡ bad 6 28
unit-zero = refl

unit-above : read (answer ∷ unit (codes "170141183460469231731687303715884105728") ∷ []) ≡ bad 6 28
unit-above = refl

unit-twice : read (answer ∷ unit (codes "1") ∷ unit (codes "1") ∷ []) ≡ bad 7 24
unit-twice = refl

-- it stands after the scale and before the legs, and not under a direct answer
unit-early : read (answer ∷ unit (codes "1") ∷ scale (codes "1") ∷ []) ≡ bad 7 24
unit-early = refl

unit-late : read (answer ∷ leg (codes "0") ∷ unit (codes "1") ∷ []) ≡ bad 7 24
unit-late = refl

unit-direct : read ((codes "answer" ∷ codes "direct" ∷ codes "104" ∷ []) ∷ unit (codes "1") ∷ []) ≡ bad 6 24
unit-direct = refl

abbrev table : List (List ℕ)
table = codes "table" ∷ codes "1" ∷ []

abbrev share : List (List ℕ)
share = codes "share" ∷ codes "A" ∷ codes "B" ∷ codes "7" ∷ codes "20" ∷ []

abbrev span : List ℕ → List ℕ → List (List ℕ)
span until charge = codes "span" ∷ codes "A" ∷ codes "B" ∷ codes "7" ∷ until ∷ codes "100" ∷ charge ∷ []

abbrev weight : List ℕ → List (List ℕ)
weight w = codes "weight" ∷ codes "S1" ∷ w ∷ []

abbrev group : List ℕ → List (List ℕ)
group moment = codes "group" ∷ moment ∷ []

-- a weight is that of the share or the span before it
reads-span : read (answer ∷ table ∷ share ∷ weight (codes "3") ∷ span (codes "9") (codes "5") ∷ weight (codes "4") ∷ last ∷ [])
    ≡ Ok (record best {
      legs = [];
      trucks = [];
      tables = ((record { arc = 0; point = 7; v = 20; weights = (record { shipment = 0; w = 3 }) ∷ [] }) ∷ []) ∷ [];
      spans = ((record { arc = 0; point = 7; until = 9; money = 100; charge = 5; weights = (record { shipment = 0; w = 4 }) ∷ []; groups = [] }) ∷ []) ∷ [];
      gifts = [] ∷ [];
      moments = false ∷ [];
      tree = [];
    })
reads-span = refl

-- the shares of a table stand before its spans
share-after-span : read (answer ∷ table ∷ span (codes "9") (codes "5") ∷ share ∷ []) ≡ bad 8 24
share-after-span = refl

-- a span stands in a table
span-alone : read (answer ∷ span (codes "9") (codes "5") ∷ []) ≡ bad 6 24
span-alone = refl

-- it ends after its point, and at most at 100,001
span-empty : read (answer ∷ table ∷ span (codes "7") (codes "5") ∷ []) ≡ bad 7 28
span-empty = refl

span-last : read (answer ∷ table ∷ span (codes "100001") (codes "5") ∷ []) ≡ bad 8 26
span-last = refl

span-past : read (answer ∷ table ∷ span (codes "100002") (codes "5") ∷ []) ≡ bad 7 28
span-past = refl

span-charge : read (answer ∷ table ∷ span (codes "9") (codes "170141183460469231731687303715884105728") ∷ []) ≡ bad 7 28
span-charge = refl

-- a weight in neither a share nor a span of its table
no-span : read (answer ∷ table ∷ span (codes "9") (codes "5") ∷ (codes "table" ∷ codes "2" ∷ []) ∷ weight (codes "1") ∷ []) ≡ bad 9 24
no-span = refl

-- groups are those of the span before them
reads-groups : read (answer ∷ table ∷ span (codes "9") (codes "5") ∷ group (codes "8") ∷ span (codes "11") (codes "5") ∷ weight (codes "4") ∷ group (codes "8") ∷ group (codes "10") ∷ last ∷ [])
    ≡ Ok (record best {
      legs = [];
      trucks = [];
      tables = [] ∷ [];
      spans = ((record { arc = 0; point = 7; until = 9; money = 100; charge = 5; weights = []; groups = 8 ∷ [] })
          ∷ (record { arc = 0; point = 7; until = 11; money = 100; charge = 5; weights = (record { shipment = 0; w = 4 }) ∷ []; groups = 8 ∷ 10 ∷ [] }) ∷ []) ∷ [];
      gifts = [] ∷ [];
      moments = false ∷ [];
      tree = [];
    })
reads-groups = refl

-- in which order the moments stand isn't asked here, but each is at most 100,000
groups-fall : read (answer ∷ table ∷ span (codes "9") (codes "5") ∷ group (codes "100000") ∷ group (codes "8") ∷ []) ≡ bad 10 26
groups-fall = refl

group-past : read (answer ∷ table ∷ span (codes "9") (codes "5") ∷ group (codes "100001") ∷ []) ≡ bad 8 28
group-past = refl

-- no weight stands after a group of its span
weight-after-group : read (answer ∷ table ∷ span (codes "9") (codes "5") ∷ group (codes "8") ∷ weight (codes "1") ∷ []) ≡ bad 9 24
weight-after-group = refl

-- a group stands in a span, and in no share
group-of-share : read (answer ∷ table ∷ share ∷ group (codes "8") ∷ []) ≡ bad 8 24
group-of-share = refl

group-of-table : read (answer ∷ table ∷ span (codes "9") (codes "5") ∷ (codes "table" ∷ codes "2" ∷ []) ∷ group (codes "8") ∷ []) ≡ bad 9 24
group-of-table = refl

abbrev gift : List ℕ → List ℕ → List ℕ → List (List ℕ)
gift until side amount = codes "gift" ∷ codes "A" ∷ codes "B" ∷ codes "0" ∷ until ∷ side ∷ amount ∷ []

-- gifts are those of their table, after its spans
reads-gifts : read (answer ∷ table ∷ span (codes "9") (codes "5") ∷ weight (codes "4") ∷ group (codes "8") ∷ gift (codes "11") (codes "least") (codes "60") ∷ gift (codes "8") (codes "most") (codes "7")
    ∷ (codes "table" ∷ codes "2" ∷ []) ∷ gift (codes "100001") (codes "most") (codes "170141183460469231731687303715884105727") ∷ last ∷ [])
    ≡ Ok (record best {
      legs = [];
      trucks = [];
      tables = [] ∷ ([] ∷ []);
      spans = ((record { arc = 0; point = 7; until = 9; money = 100; charge = 5; weights = (record { shipment = 0; w = 4 }) ∷ []; groups = 8 ∷ [] }) ∷ []) ∷ ([] ∷ []);
      gifts = ((record { arc = 0; point = 0; until = 11; least = true; amount = 60 }) ∷ (record { arc = 0; point = 0; until = 8; least = false; amount = 7 }) ∷ [])
          ∷ (((record { arc = 0; point = 0; until = 100001; least = false; amount = 170141183460469231731687303715884105727 }) ∷ []) ∷ []);
      moments = false ∷ (false ∷ []);
      tree = [];
    })
reads-gifts = refl

abbrev given : List (List ℕ)
given = gift (codes "11") (codes "least") (codes "60")

-- a gift stands in a table, and no other line of the table after it
gift-alone : read (answer ∷ given ∷ []) ≡ bad 6 24
gift-alone = refl

gift-late : read (answer ∷ table ∷ leaf (codes "linear") (codes "forced") ∷ given ∷ []) ≡ bad 8 24
gift-late = refl

share-after-gift : read (answer ∷ table ∷ given ∷ share ∷ []) ≡ bad 8 24
share-after-gift = refl

span-after-gift : read (answer ∷ table ∷ given ∷ span (codes "9") (codes "5") ∷ []) ≡ bad 8 24
span-after-gift = refl

weight-after-gift : read (answer ∷ table ∷ share ∷ given ∷ weight (codes "1") ∷ []) ≡ bad 9 24
weight-after-gift = refl

span-weight-after-gift : read (answer ∷ table ∷ span (codes "9") (codes "5") ∷ given ∷ weight (codes "1") ∷ []) ≡ bad 9 24
span-weight-after-gift = refl

group-after-gift : read (answer ∷ table ∷ span (codes "9") (codes "5") ∷ given ∷ group (codes "8") ∷ []) ≡ bad 9 24
group-after-gift = refl

-- its side is one of two words
gift-side : read (answer ∷ table ∷ gift (codes "11") (codes "both") (codes "60") ∷ []) ≡ bad 7 23
gift-side = refl

-- it ends after its point, and at most at 100,001
gift-empty : read (answer ∷ table ∷ gift (codes "0") (codes "least") (codes "60") ∷ []) ≡ bad 7 28
gift-empty = refl

gift-past : read (answer ∷ table ∷ gift (codes "100002") (codes "least") (codes "60") ∷ []) ≡ bad 7 28
gift-past = refl

gift-above : read (answer ∷ table ∷ gift (codes "11") (codes "least") (codes "170141183460469231731687303715884105728") ∷ []) ≡ bad 7 28
gift-above = refl

gift-fields : read (answer ∷ table ∷ (codes "gift" ∷ codes "A" ∷ codes "B" ∷ codes "0" ∷ codes "11" ∷ codes "least" ∷ []) ∷ []) ≡ bad 7 22
gift-fields = refl

gift-ends : read (answer ∷ table ∷ (codes "gift" ∷ codes "B" ∷ codes "A" ∷ codes "0" ∷ codes "11" ∷ codes "least" ∷ codes "60" ∷ []) ∷ []) ≡ bad 7 25
gift-ends = refl

abbrev by_trucks : List ℕ → List ℕ → List (List ℕ)
by_trucks until most = codes "split" ∷ codes "trucks" ∷ codes "A" ∷ codes "B" ∷ codes "3" ∷ until ∷ most ∷ []

-- a split by trucks, of the trucks that leave by an arc in a run of times
reads-by-trucks : read (records answer (leg (codes "0")) truck (by_trucks (codes "9") (codes "4294967295"))) ≡ Ok (record best { tree = Branch (ByTrucks 0 3 9 4294967295) ∷ [] })
reads-by-trucks = refl

by-trucks-above : read (answer ∷ by_trucks (codes "9") (codes "4294967296") ∷ []) ≡ bad 6 28
by-trucks-above = refl

by-trucks-empty : read (answer ∷ by_trucks (codes "3") (codes "1") ∷ []) ≡ bad 6 28
by-trucks-empty = refl

by-trucks-past : read (answer ∷ by_trucks (codes "100002") (codes "1") ∷ []) ≡ bad 6 28
by-trucks-past = refl

by-trucks-number : read (answer ∷ by_trucks (codes "9") (codes "x") ∷ []) ≡ bad 6 23
by-trucks-number = refl

by-truck : read (answer ∷ (codes "split" ∷ codes "truck" ∷ codes "A" ∷ codes "B" ∷ codes "3" ∷ codes "9" ∷ codes "1" ∷ []) ∷ []) ≡ bad 6 21
by-truck = refl

-- a leaf that is valued under its first sides alone
abbrev sides : List ℕ → List (List ℕ)
sides count = codes "leaf" ∷ codes "linear" ∷ codes "0" ∷ codes "forced" ∷ count ∷ []

reads-sides : read (records answer (leg (codes "0")) truck (sides (codes "0")))
    ≡ Ok (record best { tree = Leaf (record { price = record { kind = Linear; round = 0; forced = true }; sides = Some 0 }) ∷ [] })
reads-sides = refl

sides-most : read (answer ∷ sides (codes "100000") ∷ []) ≡ bad 7 26
sides-most = refl

sides-past : read (answer ∷ sides (codes "100001") ∷ []) ≡ bad 6 28
sides-past = refl

-- the number has no sign and at least a digit
sides-sign : read (answer ∷ sides (codes "-1") ∷ []) ≡ bad 6 23
sides-sign = refl

sides-none : read (answer ∷ sides [] ∷ []) ≡ bad 6 23
sides-none = refl

-- it is the last field
sides-twice : read (answer ∷ (codes "leaf" ∷ codes "linear" ∷ codes "0" ∷ codes "forced" ∷ codes "0" ∷ codes "0" ∷ []) ∷ []) ≡ bad 6 22
sides-twice = refl

-- a narrowing before a leaf, with the worth from which on it bars classes, or without
abbrev narrowing : List ℕ → List (List ℕ)
narrowing worth = codes "narrow" ∷ codes "linear" ∷ codes "0" ∷ codes "forced" ∷ worth ∷ []

reads-narrowing : read (answer ∷ narrowing (codes "170141183460469231731687303715884105727") ∷ (codes "narrow" ∷ codes "even" ∷ codes "4000" ∷ codes "plain" ∷ []) ∷ leaf (codes "linear") (codes "forced") ∷ last ∷ [])
    ≡ Ok (record best {
      legs = [];
      trucks = [];
      tree = Narrow (record { price = record { kind = Linear; round = 0; forced = true }; worth = Some 170141183460469231731687303715884105727 })
          ∷ Narrow (record { price = record { kind = Even; round = 4000; forced = false }; worth = None }) ∷ best.tree;
    })
reads-narrowing = refl

worth-past : read (answer ∷ narrowing (codes "170141183460469231731687303715884105728") ∷ []) ≡ bad 6 28
worth-past = refl

worth-none : read (answer ∷ narrowing [] ∷ []) ≡ bad 6 23
worth-none = refl

narrowing-table : read (answer ∷ (codes "narrow" ∷ codes "1" ∷ codes "0" ∷ codes "plain" ∷ []) ∷ []) ≡ bad 6 28
narrowing-table = refl

narrowing-early : read (answer ∷ narrowing (codes "1") ∷ leg (codes "0") ∷ []) ≡ bad 7 24
narrowing-early = refl

-- the name goes before the range
name-first : read (answer ∷ (codes "point" ∷ codes "C" ∷ codes "0" ∷ codes "4001" ∷ []) ∷ []) ≡ bad 6 25
name-first = refl

-- a round above its limit
round-above : read (answer ∷ (codes "point" ∷ codes "A" ∷ codes "0" ∷ codes "4001" ∷ []) ∷ []) ≡ bad 6 28
round-above = refl
