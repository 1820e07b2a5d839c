-- A worked certificate and its lines.
use Rattle.std.proofs.Common.{◌≡◌, ℕ, List, [], ◌∷◌, refl}
use Rattle.std.specs.Fmt.{digits}
use Rattle.std.specs.Prelude.{Option, None, Some, codes, false, true}
use Rattle.fp_model.specs.Problem.{Problem}
use Rattle.fp_prices.specs.declared.leaf_prices.Kind.TheVariants.{Linear, Table}
use Rattle.fp_tree.specs.declared.sides.Split.TheVariants.{ByTrucks, ByWay}
use Rattle.fp_tree.specs.declared.sides.Side.{Side}
use Rattle.fp_tree.specs.declared.sides.Side.TheVariants.{Only, Without}
use Rattle.fp_certificate_lines.specs.declared.certificates.Answer.TheVariants.{Optimal}
use Rattle.fp_certificate_lines.specs.declared.certificates.Node.TheVariants.{Leaf}
use Rattle.fp_certificate_lines.specs.Moments.{by_moments}
use Rattle.fp_certificate_lines.specs.Rows.{kind_text, leaf_fields, narrowing_fields, rows_of, split_fields, tables_rows}
use Rattle.fp_certificate_lines.specs.Statements.{Statement}
use Rattle.fp_certificate_lines.specs.Valuations.{sides_valued}

-- one arc from A to B, and one shipment over it
abbrev pub small : Problem
small = record {
  terminals = codes "A" ∷ codes "B" ∷ [];
  holds = 0 ∷ 0 ∷ [];
  arcs = (record { from = 0; to = 1; time = 5; capacity = 10; truck = 100; freight = 1 }) ∷ [];
  shipments = (record { name = codes "S1"; from = 0; to = 1; size = 4; release = 0; due = 10 }) ∷ [];
  scale = 1000000;
}

-- its plan costs 104, and one leaf tells that none costs less
abbrev pub best : Statement
best = record {
  answer = Optimal 104;
  scale = None;
  unit = None;
  legs = (record { shipment = 0; arc = 0; depart = 0; arrive = 5 }) ∷ [];
  trucks = (record { arc = 0; depart = 0; trucks = 1; load = 4 }) ∷ [];
  points = [];
  tables = [];
  spans = [];
  gifts = [];
  moments = [];
  tree = Leaf (record { price = record { kind = Linear; round = 0; forced = true }; sides = None }) ∷ [];
}

abbrev pub answer : List (List ℕ)
answer = codes "answer" ∷ codes "optimal" ∷ codes "104" ∷ []

abbrev pub leg : List ℕ → List (List ℕ)
leg depart = codes "leg" ∷ codes "S1" ∷ codes "A" ∷ codes "B" ∷ depart ∷ codes "5" ∷ []

abbrev pub truck : List (List ℕ)
truck = codes "truck" ∷ codes "A" ∷ codes "B" ∷ codes "0" ∷ codes "1" ∷ codes "4" ∷ []

abbrev pub leaf : List ℕ → List ℕ → List (List ℕ)
leaf kind mode = codes "leaf" ∷ kind ∷ codes "0" ∷ mode ∷ []

abbrev pub last : List (List ℕ)
last = codes "end" ∷ []

-- its five records, of which the first four can be changed
abbrev pub records : (a b c d : List (List ℕ)) → List (List (List ℕ))
records a b c d = a ∷ b ∷ c ∷ d ∷ last ∷ []

abbrev pub whole : List (List (List ℕ))
whole = records answer (leg (codes "0")) truck (leaf (codes "linear") (codes "forced"))

writes : rows_of small best ≡ whole
unfolding digits
writes = refl

-- tables are numbered from 1, and weights follow their shares
numbered : tables_rows small [] [] [] 1 ([] ∷ ((record { arc = 0; point = 7; v = 20; weights = (record { shipment = 0; w = 3 }) ∷ [] }) ∷ []) ∷ [])
    ≡ (codes "table" ∷ codes "1" ∷ []) ∷ (codes "table" ∷ codes "2" ∷ []) ∷ (codes "share" ∷ codes "A" ∷ codes "B" ∷ codes "7" ∷ codes "20" ∷ [])
    ∷ (codes "weight" ∷ codes "S1" ∷ codes "3" ∷ []) ∷ []
unfolding digits
numbered = refl

-- spans follow the shares of their table
beside : tables_rows small ([] ∷ (record { arc = 0; point = 7; until = 9; money = 100; charge = 5; weights = (record { shipment = 0; w = 3 }) ∷ []; groups = [] } ∷ []) ∷ []) [] [] 1
    ([] ∷ ((record { arc = 0; point = 7; v = 20; weights = [] }) ∷ []) ∷ [])
    ≡ (codes "table" ∷ codes "1" ∷ []) ∷ (codes "table" ∷ codes "2" ∷ []) ∷ (codes "share" ∷ codes "A" ∷ codes "B" ∷ codes "7" ∷ codes "20" ∷ [])
    ∷ (codes "span" ∷ codes "A" ∷ codes "B" ∷ codes "7" ∷ codes "9" ∷ codes "100" ∷ codes "5" ∷ []) ∷ (codes "weight" ∷ codes "S1" ∷ codes "3" ∷ []) ∷ []
unfolding digits
beside = refl

-- groups follow the weights of their span
grouped : tables_rows small ((record { arc = 0; point = 0; until = 9; money = 100; charge = 0; weights = (record { shipment = 0; w = 3 }) ∷ []; groups = 4 ∷ 6 ∷ [] } ∷ []) ∷ []) [] [] 1 ([] ∷ [])
    ≡ (codes "table" ∷ codes "1" ∷ []) ∷ (codes "span" ∷ codes "A" ∷ codes "B" ∷ codes "0" ∷ codes "9" ∷ codes "100" ∷ codes "0" ∷ [])
    ∷ (codes "weight" ∷ codes "S1" ∷ codes "3" ∷ []) ∷ (codes "group" ∷ codes "4" ∷ []) ∷ (codes "group" ∷ codes "6" ∷ []) ∷ []
unfolding digits
grouped = refl

-- gifts follow the spans of their table, whether it has spans or none
given : tables_rows small ((record { arc = 0; point = 0; until = 9; money = 40; charge = 0; weights = []; groups = 4 ∷ [] } ∷ []) ∷ ([] ∷ []))
    ((record { arc = 0; point = 0; until = 11; least = true; amount = 60 } ∷ []) ∷ ((record { arc = 0; point = 3; until = 8; least = false; amount = 5 } ∷ []) ∷ [])) [] 1 ([] ∷ ([] ∷ []))
    ≡ (codes "table" ∷ codes "1" ∷ []) ∷ (codes "span" ∷ codes "A" ∷ codes "B" ∷ codes "0" ∷ codes "9" ∷ codes "40" ∷ codes "0" ∷ []) ∷ (codes "group" ∷ codes "4" ∷ [])
    ∷ (codes "gift" ∷ codes "A" ∷ codes "B" ∷ codes "0" ∷ codes "11" ∷ codes "least" ∷ codes "60" ∷ []) ∷ (codes "table" ∷ codes "2" ∷ [])
    ∷ (codes "gift" ∷ codes "A" ∷ codes "B" ∷ codes "3" ∷ codes "8" ∷ codes "most" ∷ codes "5" ∷ []) ∷ []
unfolding digits
given = refl

-- the line of a table by moments says so
timed : tables_rows small [] [] (false ∷ true ∷ []) 1 ([] ∷ ([] ∷ []))
    ≡ (codes "table" ∷ codes "1" ∷ []) ∷ (codes "table" ∷ codes "2" ∷ codes "moments" ∷ []) ∷ []
unfolding digits
timed = refl

-- leaves are priced by moments by such a table, and by no other kind of prices
timed-kind : by_moments (false ∷ true ∷ []) (Table 2) ≡ true
timed-kind = refl

timed-other : by_moments (false ∷ true ∷ []) (Table 1) ≡ false
timed-other = refl

timed-none : by_moments (false ∷ true ∷ []) (Table 3) ≡ false
timed-none = refl

-- a split by trucks names no shipment
by-trucks : split_fields small (ByTrucks 0 2 9 1) ≡ codes "split" ∷ codes "trucks" ∷ codes "A" ∷ codes "B" ∷ codes "2" ∷ codes "9" ∷ codes "1" ∷ []
unfolding digits
by-trucks = refl

-- one by a way does
by-way : split_fields small (ByWay 0 0) ≡ codes "split" ∷ codes "way" ∷ codes "S1" ∷ codes "A" ∷ codes "B" ∷ []
by-way = refl

-- a leaf that is valued under its first sides alone tells how many these are
valued-first : leaf_fields (record { price = record { kind = Linear; round = 0; forced = true }; sides = Some 2 })
    ≡ codes "leaf" ∷ codes "linear" ∷ codes "0" ∷ codes "forced" ∷ codes "2" ∷ []
unfolding digits
valued-first = refl

-- a narrowing names from which worth on it bars classes, or doesn't
narrowed : narrowing_fields (record { price = record { kind = Table 3; round = 2; forced = false }; worth = None })
    ≡ codes "narrow" ∷ codes "3" ∷ codes "2" ∷ codes "plain" ∷ []
unfolding digits
narrowed = refl

narrowed-from : narrowing_fields (record { price = record { kind = Linear; round = 0; forced = true }; worth = Some 104 })
    ≡ codes "narrow" ∷ codes "linear" ∷ codes "0" ∷ codes "forced" ∷ codes "104" ∷ []
unfolding digits
narrowed-from = refl

-- the first of the sides on its way, and all of them where it has no more
abbrev one_side : Side
one_side = Without 0 4

abbrev other_side : Side
other_side = Only 1 2 0

abbrev valued_under : Option ℕ → List Side → List Side
valued_under sides way = sides_valued (record { price = record { kind = Linear; round = 0; forced = true }; sides = sides }) way

under-all : valued_under None (one_side ∷ other_side ∷ []) ≡ one_side ∷ other_side ∷ []
under-all = refl

under-none : valued_under (Some 0) (one_side ∷ other_side ∷ []) ≡ []
under-none = refl

under-first : valued_under (Some 1) (one_side ∷ other_side ∷ []) ≡ one_side ∷ []
under-first = refl

under-more : valued_under (Some 5) (one_side ∷ other_side ∷ []) ≡ one_side ∷ other_side ∷ []
under-more = refl

by-table : kind_text (Table 12) ≡ codes "12"
unfolding digits
by-table = refl
