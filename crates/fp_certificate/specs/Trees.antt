-- The lines of a tree and of the end: their faults in the order in which they are looked for, and
-- what they give.
use Rattle.std.specs.Prelude.{ℕ, List, [], ◌∷◌, ◌++◌, length, Bool, ◌&&◌, ◌||◌, not, ◌==◌, if◌then◌else◌, None, Option, Some, codes}
use Rattle.fp_model.specs.declared.limits.TheConstants.{LAST_ROUND}
use Rattle.fp_model.specs.Problem.{Problem}
use Rattle.fp_prices.specs.declared.leaf_prices.Kind.{Kind}
use Rattle.fp_prices.specs.declared.leaf_prices.Kind.TheVariants.{Linear, Even, Table}
use Rattle.fp_prices.specs.declared.leaf_prices.LeafPrice.{LeafPrice}
use Rattle.fp_records_fields.specs.Findings.{finding}
use Rattle.fp_records_fields.specs.Findings.{Finding}
use Rattle.fp_records_fields.specs.Fields.{has_number, is_between, number_at, has_word}
use Rattle.fp_tree.specs.declared.layout.TheConstants.{MOST_SPLITS}
use Rattle.fp_tree.specs.declared.sides.Split.TheVariants.{ByArc, ByTime, ByTrucks, ByWay}
use Rattle.fp_certificate_lines.specs.Ranges.{largest_count, largest_figure}
use Rattle.fp_certificate_lines.specs.declared.certificates.Node.{Node}
use Rattle.fp_certificate_lines.specs.declared.certificates.Node.TheVariants.{Branch, Leaf, Narrow}
use Rattle.fp_certificate.specs.declared.drafts.Draft.{Draft}
use Rattle.fp_certificate.specs.declared.lines.sections.Section.TheVariants as section
use Rattle.fp_certificate.specs.Sections.{is_misplaced}
use Rattle.fp_records_fields.specs.NamedParts.{arc_in, lacks_arc, lacks_shipment, lacks_terminal, shipment_in, terminal_in}
use Rattle.fp_certificate.specs.Timetables.{ends_in_range, is_time}

-- the faults of `split,arc,SHIPMENT,FROM,TO`
abbrev pub by_arc_faults : Problem → Draft → List (List ℕ) → List Finding
by_arc_faults p before fields =
    finding 22 (not (length fields == 5))
    ∷ finding 24 (is_misplaced before section.Tree)
    ∷ finding 25 (lacks_shipment p fields 2 || lacks_arc p fields 3 4)
    ∷ []

-- the node of such a line
abbrev pub by_arc_in : Problem → List (List ℕ) → Node
by_arc_in p fields = Branch (ByArc (shipment_in p fields 2) (arc_in p fields 3 4))

-- the faults of `split,time,SHIPMENT,TERMINAL,AT`
abbrev pub by_time_faults : Problem → Draft → List (List ℕ) → List Finding
by_time_faults p before fields =
    finding 22 (not (length fields == 5))
    ∷ finding 23 (not (has_number fields 4))
    ∷ finding 24 (is_misplaced before section.Tree)
    ∷ finding 25 (lacks_shipment p fields 2 || lacks_terminal p fields 3)
    ∷ finding 28 (not (is_time fields 4))
    ∷ []

-- the node of such a line
abbrev pub by_time_in : Problem → List (List ℕ) → Node
by_time_in p fields = Branch (ByTime (shipment_in p fields 2) (terminal_in p fields 3) (number_at fields 4))

-- the faults of `split,trucks,FROM,TO,POINT,UNTIL,N`
abbrev pub by_trucks_faults : Problem → Draft → List (List ℕ) → List Finding
by_trucks_faults p before fields =
    finding 22 (not (length fields == 7))
    ∷ finding 23 (not (has_number fields 4 && has_number fields 5 && has_number fields 6))
    ∷ finding 24 (is_misplaced before section.Tree)
    ∷ finding 25 (lacks_arc p fields 2 3)
    ∷ finding 28 (not (is_time fields 4 && ends_in_range fields 4 5 && is_between 0 largest_count fields 6))
    ∷ []

-- the node of such a line
abbrev pub by_trucks_in : Problem → List (List ℕ) → Node
by_trucks_in p fields = Branch (ByTrucks (arc_in p fields 2 3) (number_at fields 4) (number_at fields 5) (number_at fields 6))

-- the faults of `split,way,SHIPMENT,FROM,TO`: those of a split by an arc
abbrev pub by_way_faults : Problem → Draft → List (List ℕ) → List Finding
by_way_faults p before fields = by_arc_faults p before fields

-- the node of such a line
abbrev pub by_way_in : Problem → List (List ℕ) → Node
by_way_in p fields = Branch (ByWay (shipment_in p fields 2) (arc_in p fields 3 4))

-- whether the kind of prices is a word
abbrev pub has_kind_word : List (List ℕ) → Bool
has_kind_word fields = has_word (codes "linear") fields 1 || has_word (codes "even") fields 1

-- whether a line ends with its price, and has no number after it: a leaf is valued under all of its sides then, and a narrowing
-- bars classes from the claim on
abbrev pub lacks_last_number : List (List ℕ) → Bool
lacks_last_number fields = length fields == 4

-- whether the kind, the round, the mode and the number after them are such
abbrev pub has_price_digits : List (List ℕ) → Bool
has_price_digits fields =
    (has_kind_word fields || has_number fields 1)
    && has_number fields 2
    && (has_word (codes "plain") fields 3 || has_word (codes "forced") fields 3)
    && (lacks_last_number fields || has_number fields 4)

-- whether a price's table exists, where it is by one, among so many tables, its round is in range, and the number after it is
-- at most so large
abbrev pub has_price_ranges : (tables most : ℕ) → List (List ℕ) → Bool
has_price_ranges tables most fields =
    (has_kind_word fields || is_between 1 tables fields 1)
    && is_between 0 LAST_ROUND fields 2
    && (lacks_last_number fields || is_between 0 most fields 4)

-- the faults of `WORD,KIND,ROUND,MODE` and of `WORD,KIND,ROUND,MODE,NUMBER` with a number up to so large
abbrev pub price_faults : ℕ → Draft → List (List ℕ) → List Finding
price_faults most before fields =
    finding 22 (not (lacks_last_number fields || length fields == 5))
    ∷ finding 23 (not (has_price_digits fields))
    ∷ finding 24 (is_misplaced before section.Tree)
    ∷ finding 28 (not (has_price_ranges (length before.certificate.tables) most fields))
    ∷ []

-- the faults of `leaf,KIND,ROUND,MODE` and `leaf,KIND,ROUND,MODE,SIDES`
abbrev pub leaf_faults : Draft → List (List ℕ) → List Finding
leaf_faults before fields = price_faults MOST_SPLITS before fields

-- the faults of `narrow,KIND,ROUND,MODE` and `narrow,KIND,ROUND,MODE,WORTH`
abbrev pub narrowing_faults : Draft → List (List ℕ) → List Finding
narrowing_faults before fields = price_faults largest_figure before fields

-- the kind of prices
abbrev pub kind_in : List (List ℕ) → Kind
kind_in fields =
    if has_word (codes "linear") fields 1 then Linear
    else if has_word (codes "even") fields 1 then Even
    else Table (number_at fields 1)

-- the price of a line
abbrev pub price_in : List (List ℕ) → LeafPrice
price_in fields = record { kind = kind_in fields; round = number_at fields 2; forced = has_word (codes "forced") fields 3 }

-- the number after it, where there is one
abbrev pub last_number_in : List (List ℕ) → Option ℕ
last_number_in fields = if lacks_last_number fields then None else Some (number_at fields 4)

-- the node of a leaf's line: the number tells under how many of its sides it is valued
abbrev pub leaf_in : List (List ℕ) → Node
leaf_in fields = Leaf (record { price = price_in fields; sides = last_number_in fields })

-- the narrowing of its line: the number tells from which worth on it bars classes
abbrev pub narrowing_in : List (List ℕ) → Node
narrowing_in fields = Narrow (record { price = price_in fields; worth = last_number_in fields })

-- a draft with one more node
abbrev pub with_node : Draft → Node → Draft
with_node before node =
    record { certificate = record before.certificate { tree = before.certificate.tree ++ (node ∷ []) }; latest = Some section.Tree }

-- the faults of `end`
abbrev pub end_faults : Draft → List (List ℕ) → List Finding
end_faults before fields = finding 22 (not (length fields == 1)) ∷ finding 24 (is_misplaced before section.End) ∷ []

-- a draft that has ended
abbrev pub with_end : Draft → Draft
with_end before = record before { latest = Some section.End }
