-- The tables of a certificate are read back from their lines, each with the spans and the gifts beside it and whether it is by moments.
use Rattle.std.proofs.Common.{◌≡◌, ◌∙◌, ℕ, ◌+◌, ◌^◌, ◌-◌, ◌<◌, ◌≤◌, Bool, false, List, [], ◌∷◌, ◌++◌, length, map, refl, sym, ap, subst, append_assoc, arith, lit≤, inl, inr}
use Rattle.std.specs.Prelude.{◌⊎◌, All, not}
use Rattle.std.specs.List.{AllByRecursion, flat_map, fold}
use Rattle.std.proofs.Math.Seq.{get_or-append_seam}
use Rattle.std.proofs.lemmas.Bool.{ne_eqb}
use Rattle.std.proofs.lemmas.List.{append-nil, length_push}
use Rattle.std.proofs.lemmas.List.Elements.{All-head, All-tail, recursion_from_All}
use Rattle.fp_model.specs.Problem.{IsValid, Problem}
use Rattle.fp_prices.specs.declared.tables.Weight.{Weight}
use Rattle.fp_prices.specs.Shares.{ClassShare}
use Rattle.fp_prices_gifts.specs.declared.gifts.Gift.{Gift}
use Rattle.fp_prices_gifts.specs.GiftKinds.{gifts_of_table}
use Rattle.fp_prices_spans.specs.SpanKinds.{spans_of_table}
use Rattle.fp_prices_spans.specs.Spans.{ClassSpan}
use Rattle.fp_records.specs.Fields.{is_empty}
use Rattle.fp_certificate.specs.declared.lines.sections.Section.{Section}
use Rattle.fp_certificate.specs.declared.lines.sections.Section.TheVariants as section
use Rattle.fp_certificate.specs.Sections.{is_forbidden, place_of}
use Rattle.fp_certificate_lines.specs.Moments.{moments_of_table}
use Rattle.fp_certificate_lines.specs.Ranges.{IsGiftInRange, IsGroupInRange, IsShareInRange, IsSpanInRange, IsWeightInRange}
use Rattle.fp_certificate_lines.specs.Rows.{beside_rows, gift_fields, group_fields, share_fields, share_rows, span_fields, span_rows, table_fields, tables_rows, weight_fields}
use Rattle.fp_certificate_lines.specs.Statements.{Statement}
use Rattle.fp_certificate.specs.Gifts.{and_gift}
use Rattle.fp_certificate.specs.Tables.{and_group, and_share, and_span, and_span_weight, and_weight, has_gift, has_group, has_span, is_grouped, lacks_last, last_is, with_last}
use Rattle.fp_certificate.proofs.LinesBack.{IsStep, gift-step, group-step, share-step, span-step, span-weight-step, table-step, weight-step}
use Rattle.fp_certificate.proofs.SegmentsBack.{ReadsTo, at, one-line, has_ended_at-before_end, is_misplaced_after-later}

-- lists of which the last is this one
abbrev ending : {A : Type 0} → List (List A) → List A → List (List A)
ending lists list = lists ++ (list ∷ [])

-- the last element of a list with one more
with_last-push : {A : Type 0} (f : A → A) (xs : List A) (x : A) → with_last f (xs ++ (x ∷ [])) ≡ xs ++ (f x ∷ [])
with_last-push f [] x = refl
with_last-push f (a ∷ []) x = refl
with_last-push {A} f (a ∷ b ∷ xs) x = ap (λ (ys : List A). a ∷ ys) (with_last-push f (b ∷ xs) x)

-- the last element of the last list
last-changed : {A : Type 0} (f : A → A) (lists : List (List A)) (list : List A) (x : A)
    → with_last (with_last f) (ending lists (list ++ (x ∷ []))) ≡ ending lists (list ++ (f x ∷ []))
last-changed {A} f lists list x =
    with_last-push (with_last f) lists (list ++ (x ∷ [])) ∙ ap (λ (ys : List A). ending lists ys) (with_last-push f list x)

-- a list with one more element is not empty
some-pushed : {A : Type 0} (xs : List A) (x : A) → is_empty (xs ++ (x ∷ [])) ≡ false
some-pushed xs x = ne_eqb (length (xs ++ (x ∷ []))) 0 (λ e. omega (arith, length_push xs x))

-- the last list decides
lacks_last-ending : {A : Type 0} (lists : List (List A)) (list : List A) → lacks_last (ending lists list) ≡ is_empty list
lacks_last-ending [] list = refl
lacks_last-ending (a ∷ []) list = refl
lacks_last-ending (a ∷ b ∷ lists) list = lacks_last-ending (b ∷ lists) list

-- it has an element where one was added
lacks_last-pushed : {A : Type 0} (lists : List (List A)) (list : List A) (x : A) → lacks_last (ending lists (list ++ (x ∷ []))) ≡ false
lacks_last-pushed lists list x = lacks_last-ending lists (list ++ (x ∷ [])) ∙ some-pushed list x

-- whether the last element passes a test, with one more
last_is-push : {A : Type 0} (test : A → Bool) (xs : List A) (x : A) → last_is test (xs ++ (x ∷ [])) ≡ test x
last_is-push test [] x = refl
last_is-push test (a ∷ []) x = refl
last_is-push test (a ∷ b ∷ xs) x = last_is-push test (b ∷ xs) x

-- the last span of the last table decides whether a group has been read
has_group-ending : (lists : List (List ClassSpan)) (list : List ClassSpan) (x : ClassSpan) → x.groups ≡ [] → has_group (ending lists (list ++ (x ∷ []))) ≡ false
has_group-ending lists list x none =
    last_is-push (λ (l : List ClassSpan). last_is is_grouped l) lists (list ++ (x ∷ []))
    ∙ last_is-push is_grouped list x
    ∙ ap (λ (groups : List ℕ). not (is_empty groups)) none

-- elements of the last of some lists, each of a line and the lines of its parts, are read: its line
-- begins it, and the lines of its parts fill it. `put` is the statement so far with such lists, and `c`
-- the whole one
record AreRead (p : Problem) (E : Type 0) (put : List (List E) → Statement) (fields : E → List (List ℕ)) (bare : E → E) (rows : E → List (List (List ℕ))) (Fits : E → Type 0) (c : Statement) : Type 0 where
  begins : (lists : List (List E)) (list : List E) (x : E) → Fits x → (g : Section) → place_of g ≤ 6
      → IsStep p (at (put (ending lists list)) g) (fields x) (at (put (ending lists (list ++ (bare x ∷ [])))) section.Tables)
  fills : (rest : List (List (List ℕ))) (lists : List (List E)) (list : List E) (x : E) → Fits x → ReadsTo p 6 rest (put (ending lists (list ++ (x ∷ [])))) c
      → ReadsTo p 6 (rows x ++ rest) (put (ending lists (list ++ (bare x ∷ [])))) c

-- parts of the last element, each of one line, while the element is open for such parts
parts-back : (p : Problem) {E T : Type 0} (put : List (List E) → Statement) (fields : T → List (List ℕ)) (grown : E → T → E) (IsOpen : E → Type 0) (Fits : T → Type 0)
    → ((lists : List (List E)) (list : List E) (x : E) (t : T) → IsOpen x → Fits t → (g : Section) → place_of g ≤ 6
    → IsStep p (at (put (ending lists (list ++ (x ∷ [])))) g) (fields t) (at (put (ending lists (list ++ (grown x t ∷ [])))) section.Tables))
    → ((x : E) (t : T) → IsOpen x → IsOpen (grown x t))
    → (c : Statement) (rest : List (List (List ℕ))) (lists : List (List E)) (list : List E) (ts : List T) (x : E)
    → IsOpen x → AllByRecursion Fits ts → ReadsTo p 6 rest (put (ending lists (list ++ (fold grown x ts ∷ [])))) c
    → ReadsTo p 6 (map fields ts ++ rest) (put (ending lists (list ++ (x ∷ [])))) c
parts-back p put fields grown IsOpen Fits step stays c rest lists list [] x open_still all after = after
parts-back p put fields grown IsOpen Fits step stays c rest lists list (t ∷ ts) x open_still all after =
    one-line p 6 section.Tables (fields t) (put (ending lists (list ++ (x ∷ [])))) (put (ending lists (list ++ (grown x t ∷ [])))) c
    (map fields ts ++ rest) (lit≤ tt) (λ g le. step lists list x t open_still all.0 g le)
    (parts-back p put fields grown IsOpen Fits step stays c rest lists list ts (grown x t) (stays x t open_still) all.1 after)

-- elements of the last list, each with its parts
elements-back : (p : Problem) {E : Type 0} (put : List (List E) → Statement) (fields : E → List (List ℕ)) (bare : E → E) (rows : E → List (List (List ℕ))) (Fits : E → Type 0) (c : Statement)
    → AreRead p E put fields bare rows Fits c → (rest : List (List (List ℕ))) (lists : List (List E)) (xs list : List E)
    → All Fits xs → ReadsTo p 6 rest (put (ending lists (list ++ xs))) c
    → ReadsTo p 6 (flat_map (λ x. fields x ∷ rows x) xs ++ rest) (put (ending lists list)) c
elements-back p {E} put fields bare rows Fits c are rest lists [] list all after =
    subst (λ (ys : List E). ReadsTo p 6 rest (put (ending lists ys)) c) (append-nil list) after
elements-back p {E} put fields bare rows Fits c are rest lists (x ∷ xs) list all after =
    let lines : E → List (List (List ℕ)) = λ y. fields y ∷ rows y in
    let others = flat_map lines xs in
    let fits = All-head Fits x xs all in
    let next = elements-back p put fields bare rows Fits c are rest lists xs (list ++ (x ∷ [])) (All-tail Fits x xs all)
    (subst (λ (ys : List E). ReadsTo p 6 rest (put (ending lists ys)) c) (sym (append_assoc list (x ∷ []) xs)) after) in
    subst (λ (all_lines : List (List (List ℕ))). ReadsTo p 6 all_lines (put (ending lists list)) c) (sym (append_assoc (lines x) others rest))
    (one-line p 6 section.Tables (fields x) (put (ending lists list)) (put (ending lists (list ++ (bare x ∷ [])))) c
    (rows x ++ (others ++ rest)) (lit≤ tt) (λ g le. are.begins lists list x fits g le) (are.fills (others ++ rest) lists list x fits next))

-- a share without weights, and with one more; a span without weights and groups, and with one more of
-- them
abbrev bare-share : ClassShare → ClassShare
bare-share x = record x { weights = [] }

abbrev bare-span : ClassSpan → ClassSpan
bare-span x = record x { weights = []; groups = [] }

abbrev share-weighed : ClassShare → Weight → ClassShare
share-weighed x w = and_weight w x

abbrev span-weighed : ClassSpan → Weight → ClassSpan
span-weighed x w = and_span_weight w x

abbrev span-grouped : ClassSpan → ℕ → ClassSpan
span-grouped x m = and_group m x

share-whole : (ws : List Weight) (x : ClassShare) → fold share-weighed x ws ≡ record x { weights = x.weights ++ ws }
share-whole [] x = ap (λ (us : List Weight). record x { weights = us }) (sym (append-nil x.weights))
share-whole (w ∷ ws) x = share-whole ws (and_weight w x) ∙ ap (λ (us : List Weight). record x { weights = us }) (append_assoc x.weights (w ∷ []) ws)

weights-whole : (ws : List Weight) (x : ClassSpan) → fold span-weighed x ws ≡ record x { weights = x.weights ++ ws }
weights-whole [] x = ap (λ (us : List Weight). record x { weights = us }) (sym (append-nil x.weights))
weights-whole (w ∷ ws) x = weights-whole ws (and_span_weight w x) ∙ ap (λ (us : List Weight). record x { weights = us }) (append_assoc x.weights (w ∷ []) ws)

groups-whole : (ms : List ℕ) (x : ClassSpan) → fold span-grouped x ms ≡ record x { groups = x.groups ++ ms }
groups-whole [] x = ap (λ (us : List ℕ). record x { groups = us }) (sym (append-nil x.groups))
groups-whole (m ∷ ms) x = groups-whole ms (and_group m x) ∙ ap (λ (us : List ℕ). record x { groups = us }) (append_assoc x.groups (m ∷ []) ms)

-- a statement with other tables, and with other spans
abbrev with-tables : Statement → List (List ClassShare) → Statement
with-tables s tables = record s { tables = tables }

abbrev with-spans : Statement → List (List ClassSpan) → Statement
with-spans s spans = record s { spans = spans }

-- the lines of a share's weights, and of a span's weights and groups
abbrev share-parts : Problem → ClassShare → List (List (List ℕ))
share-parts p x = map (weight_fields p) x.weights

abbrev span-parts : Problem → ClassSpan → List (List (List ℕ))
span-parts p x = map (weight_fields p) x.weights ++ map group_fields x.groups

-- shares, in a table that has no span and no gift yet
shares-read : (p : Problem) (s c : Statement) → IsValid p → is_forbidden s.answer section.Tables ≡ false → has_span s.spans ≡ false → has_gift s.gifts ≡ false
    → AreRead p ClassShare (with-tables s) (share_fields p) bare-share (share-parts p) (IsShareInRange p) c
shares-read p s c v free none ungiven = record {
  begins = λ lists list x fits g le. subst (λ (ts : List (List ClassShare)). IsStep p (at (with-tables s (ending lists list)) g) (share_fields p x) (at (with-tables s ts) section.Tables))
      (with_last-push (and_share (bare-share x)) lists list)
      (share-step p (at (with-tables s (ending lists list)) g) x v fits (has_ended_at-before_end g (omega arith)) (is_misplaced_after-later g section.Tables s.answer refl le free)
      (some-pushed lists list) none ungiven);
  fills = λ rest lists list x fits after.
      parts-back p (with-tables s) (weight_fields p) share-weighed (λ y. Unit {0}) (IsWeightInRange p) weighed (λ y w open_still. tt) c rest lists list x.weights (bare-share x) tt
      (recursion_from_All (IsWeightInRange p) x.weights fits.weights)
      (subst (λ (y : ClassShare). ReadsTo p 6 rest (with-tables s (ending lists (list ++ (y ∷ [])))) c) (sym (share-whole x.weights (bare-share x))) after);
}
  where
    weighed : (lists : List (List ClassShare)) (list : List ClassShare) (x : ClassShare) (w : Weight) → Unit {0} → IsWeightInRange p w → (g : Section) → place_of g ≤ 6
        → IsStep p (at (with-tables s (ending lists (list ++ (x ∷ [])))) g) (weight_fields p w) (at (with-tables s (ending lists (list ++ (share-weighed x w ∷ [])))) section.Tables)
    weighed lists list x w open_still r g le =
        subst (λ (ts : List (List ClassShare)). IsStep p (at (with-tables s (ending lists (list ++ (x ∷ [])))) g) (weight_fields p w) (at (with-tables s ts) section.Tables))
        (last-changed (and_weight w) lists list x)
        (weight-step p (at (with-tables s (ending lists (list ++ (x ∷ [])))) g) w v r (has_ended_at-before_end g (omega arith)) (is_misplaced_after-later g section.Tables s.answer refl le free)
        (lacks_last-pushed lists list x) none ungiven)

-- spans, in a table that has no gift yet
spans-read : (p : Problem) (s c : Statement) → IsValid p → is_forbidden s.answer section.Tables ≡ false → has_gift s.gifts ≡ false
    → AreRead p ClassSpan (with-spans s) (span_fields p) bare-span (span-parts p) (IsSpanInRange p) c
spans-read p s c v free ungiven = record {
  begins = λ lists list x fits g le. subst (λ (ls : List (List ClassSpan)). IsStep p (at (with-spans s (ending lists list)) g) (span_fields p x) (at (with-spans s ls) section.Tables))
      (with_last-push (and_span (bare-span x)) lists list)
      (span-step p (at (with-spans s (ending lists list)) g) x v fits (has_ended_at-before_end g (omega arith)) (is_misplaced_after-later g section.Tables s.answer refl le free)
      (some-pushed lists list) ungiven);
  fills = λ rest lists list x fits after.
      let weights = map (weight_fields p) x.weights in
      let groups = map group_fields x.groups in
      let ungrouped : ClassSpan = record x { groups = [] } in
      let grouping : ReadsTo p 6 (groups ++ rest) (with-spans s (ending lists (list ++ (ungrouped ∷ [])))) c =
      parts-back p (with-spans s) group_fields span-grouped (λ y. Unit {0}) IsGroupInRange grouped (λ y m open_still. tt) c rest lists list x.groups ungrouped tt
      (recursion_from_All IsGroupInRange x.groups fits.groups)
      (subst (λ (y : ClassSpan). ReadsTo p 6 rest (with-spans s (ending lists (list ++ (y ∷ [])))) c) (sym (groups-whole x.groups ungrouped)) after) in
      subst (λ (lines : List (List (List ℕ))). ReadsTo p 6 lines (with-spans s (ending lists (list ++ (bare-span x ∷ [])))) c) (sym (append_assoc weights groups rest))
      (parts-back p (with-spans s) (weight_fields p) span-weighed (λ y. y.groups ≡ []) (IsWeightInRange p) weighed (λ y w open_still. open_still) c (groups ++ rest) lists list x.weights (bare-span x) refl
      (recursion_from_All (IsWeightInRange p) x.weights fits.weights)
      (subst (λ (y : ClassSpan). ReadsTo p 6 (groups ++ rest) (with-spans s (ending lists (list ++ (y ∷ [])))) c) (sym (weights-whole x.weights (bare-span x))) grouping));
}
  where
    weighed : (lists : List (List ClassSpan)) (list : List ClassSpan) (x : ClassSpan) (w : Weight) → x.groups ≡ [] → IsWeightInRange p w → (g : Section) → place_of g ≤ 6
        → IsStep p (at (with-spans s (ending lists (list ++ (x ∷ [])))) g) (weight_fields p w) (at (with-spans s (ending lists (list ++ (span-weighed x w ∷ [])))) section.Tables)
    weighed lists list x w open_still r g le =
        subst (λ (ls : List (List ClassSpan)). IsStep p (at (with-spans s (ending lists (list ++ (x ∷ [])))) g) (weight_fields p w) (at (with-spans s ls) section.Tables))
        (last-changed (and_span_weight w) lists list x)
        (span-weight-step p (at (with-spans s (ending lists (list ++ (x ∷ [])))) g) w v r (has_ended_at-before_end g (omega arith)) (is_misplaced_after-later g section.Tables s.answer refl le free)
        (ap (λ (b : Bool). not b) (lacks_last-pushed lists list x)) (has_group-ending lists list x open_still) ungiven)

    grouped : (lists : List (List ClassSpan)) (list : List ClassSpan) (x : ClassSpan) (m : ℕ) → Unit {0} → IsGroupInRange m → (g : Section) → place_of g ≤ 6
        → IsStep p (at (with-spans s (ending lists (list ++ (x ∷ [])))) g) (group_fields m) (at (with-spans s (ending lists (list ++ (span-grouped x m ∷ [])))) section.Tables)
    grouped lists list x m open_still r g le =
        subst (λ (ls : List (List ClassSpan)). IsStep p (at (with-spans s (ending lists (list ++ (x ∷ [])))) g) (group_fields m) (at (with-spans s ls) section.Tables))
        (last-changed (and_group m) lists list x)
        (group-step p (at (with-spans s (ending lists (list ++ (x ∷ [])))) g) m r (has_ended_at-before_end g (omega arith)) (is_misplaced_after-later g section.Tables s.answer refl le free)
        (ap (λ (b : Bool). not b) (lacks_last-pushed lists list x)) ungiven)

-- a statement with other gifts
abbrev with-gifts : Statement → List (List Gift) → Statement
with-gifts s gifts = record s { gifts = gifts }

-- the gifts of the last list, each of one line
gifts-back : (p : Problem) (s c : Statement) → IsValid p → is_forbidden s.answer section.Tables ≡ false → (rest : List (List (List ℕ))) (lists : List (List Gift)) (gifts list : List Gift)
    → All (IsGiftInRange p) gifts → ReadsTo p 6 rest (with-gifts s (ending lists (list ++ gifts))) c
    → ReadsTo p 6 (map (gift_fields p) gifts ++ rest) (with-gifts s (ending lists list)) c
gifts-back p s c v free rest lists [] list all after = subst (λ (ys : List Gift). ReadsTo p 6 rest (with-gifts s (ending lists ys)) c) (append-nil list) after
gifts-back p s c v free rest lists (x ∷ gifts) list all after =
    let next = gifts-back p s c v free rest lists gifts (list ++ (x ∷ [])) (All-tail (IsGiftInRange p) x gifts all)
    (subst (λ (ys : List Gift). ReadsTo p 6 rest (with-gifts s (ending lists ys)) c) (sym (append_assoc list (x ∷ []) gifts)) after) in
    one-line p 6 section.Tables (gift_fields p x) (with-gifts s (ending lists list)) (with-gifts s (ending lists (list ++ (x ∷ [])))) c (map (gift_fields p) gifts ++ rest) (lit≤ tt)
    (λ g le. subst (λ (ls : List (List Gift)). IsStep p (at (with-gifts s (ending lists list)) g) (gift_fields p x) (at (with-gifts s ls) section.Tables))
    (with_last-push (and_gift x) lists list)
    (gift-step p (at (with-gifts s (ending lists list)) g) x v (All-head (IsGiftInRange p) x gifts all) (has_ended_at-before_end g (omega arith)) (is_misplaced_after-later g section.Tables s.answer refl le free)
    (some-pushed lists list)))
    next

-- with other tables, and other spans and gifts
abbrev with : Statement → List (List ClassShare) → List (List ClassSpan) → List (List Gift) → Statement
with s tables spans gifts = record s { tables = tables; spans = spans; gifts = gifts }

-- with other tables by moments
abbrev with-moments : Statement → List Bool → Statement
with-moments s moments = record s { moments = moments }

-- the same tables, spans, gifts, and tables by moments
moved : (p : Problem) (rest : List (List (List ℕ))) (s c : Statement) (ts us : List (List ClassShare)) (ls ms : List (List ClassSpan)) (gs hs : List (List Gift)) (bs ds : List Bool)
    → ts ≡ us → ls ≡ ms → gs ≡ hs → bs ≡ ds → ReadsTo p 6 rest (with (with-moments s ds) us ms hs) c → ReadsTo p 6 rest (with (with-moments s bs) ts ls gs) c
moved p rest s c ts us ls ms gs hs bs ds tables spans gifts moments after =
    subst (λ (t : List (List ClassShare)). ReadsTo p 6 rest (with (with-moments s bs) t ls gs) c) (sym tables)
    (subst (λ (l : List (List ClassSpan)). ReadsTo p 6 rest (with (with-moments s bs) us l gs) c) (sym spans)
    (subst (λ (g : List (List Gift)). ReadsTo p 6 rest (with (with-moments s bs) us ms g) c) (sym gifts)
    (subst (λ (b : List Bool). ReadsTo p 6 rest (with (with-moments s b) us ms hs) c) (sym moments) after)))

-- the shares of a table, and the spans and the gifts beside it, after the line of the table
table-back : (p : Problem) (s c : Statement) (table : List ClassShare) (spans : List ClassSpan) (gifts : List Gift) (rest : List (List (List ℕ))) → IsValid p
    → is_forbidden s.answer section.Tables ≡ false → All (IsShareInRange p) table → All (IsSpanInRange p) spans → All (IsGiftInRange p) gifts
    → ReadsTo p 6 rest (with s (ending s.tables table) (ending s.spans spans) (ending s.gifts gifts)) c
    → ReadsTo p 6 (flat_map (share_rows p) table ++ (flat_map (span_rows p) spans ++ (map (gift_fields p) gifts ++ rest))) (with s (ending s.tables []) (ending s.spans []) (ending s.gifts [])) c
table-back p s c table spans gifts rest v free shares-fit spans-fit gifts-fit after =
    let given = map (gift_fields p) gifts ++ rest in
    let priced = with s (ending s.tables table) (ending s.spans spans) s.gifts in
    let full = with s (ending s.tables table) s.spans (ending s.gifts []) in
    let fresh = with s s.tables (ending s.spans []) (ending s.gifts []) in
    let none : has_span fresh.spans ≡ false = ap (λ (b : Bool). not b) (lacks_last-ending s.spans []) in
    let ungiven : has_gift fresh.gifts ≡ false = ap (λ (b : Bool). not b) (lacks_last-ending s.gifts []) in
    let last : ReadsTo p 6 given (with s (ending s.tables table) (ending s.spans spans) (ending s.gifts [])) c = gifts-back p priced c v free rest s.gifts gifts [] gifts-fit after in
    let beside : ReadsTo p 6 (flat_map (span_rows p) spans ++ given) (with s (ending s.tables table) (ending s.spans []) (ending s.gifts [])) c =
    elements-back p (with-spans full) (span_fields p) bare-span (span-parts p) (IsSpanInRange p) c (spans-read p full c v free ungiven) given s.spans spans [] spans-fit last in
    elements-back p (with-tables fresh) (share_fields p) bare-share (share-parts p) (IsShareInRange p) c (shares-read p fresh c v free none ungiven)
    (flat_map (span_rows p) spans ++ given) s.tables table [] shares-fit beside

-- there are as many lists of spans and of gifts as tables, and for each table it is told whether it is by moments
abbrev pub AreLevel : List (List ClassShare) → List (List ClassSpan) → List (List Gift) → List Bool → Type 0
AreLevel tables spans gifts moments = (length spans ≡ length tables) × (length gifts ≡ length tables) × (length moments ≡ length tables)

-- tables, spans and gifts are in range
abbrev pub AreFit : Problem → List (List ClassShare) → List (List ClassSpan) → List (List Gift) → Type 0
AreFit p tables spans gifts = All (All (IsShareInRange p)) tables × All (All (IsSpanInRange p)) spans × All (All (IsGiftInRange p)) gifts

-- tables that are numbered from the next on, with the lists of spans and of gifts that are left
numbered-back : (p : Problem) (c : Statement) (rest : List (List (List ℕ))) (every : List (List ClassSpan)) (whole : List (List Gift)) (told : List Bool) → IsValid p
    → (tables : List (List ClassShare)) (spans : List (List ClassSpan)) (gifts : List (List Gift)) (moments : List Bool) (s : Statement) (id : ℕ)
    → id ≡ length s.tables + 1 → AreLevel s.tables s.spans s.gifts s.moments → s.spans ++ spans ≡ every → s.gifts ++ gifts ≡ whole → s.moments ++ moments ≡ told
    → AreLevel tables spans gifts moments → id + length tables < 10 ^ 64 → AreFit p tables spans gifts → is_forbidden s.answer section.Tables ≡ false
    → ReadsTo p 6 rest (with (with-moments s (s.moments ++ moments)) (s.tables ++ tables) (s.spans ++ spans) (s.gifts ++ gifts)) c
    → ReadsTo p 6 (tables_rows p every whole told id tables ++ rest) s c
numbered-back p c rest every whole told v [] [] [] [] s id next level together given timed beside few fit free after =
    moved p rest s c s.tables (s.tables ++ []) s.spans (s.spans ++ []) s.gifts (s.gifts ++ []) s.moments (s.moments ++ [])
    (sym (append-nil s.tables)) (sym (append-nil s.spans)) (sym (append-nil s.gifts)) (sym (append-nil s.moments)) after
numbered-back p c rest every whole told v [] [] [] (b ∷ moments) s id next level together given timed beside few fit free after = absurd (omega (arith, beside.2))
numbered-back p c rest every whole told v [] [] (others ∷ gifts) moments s id next level together given timed beside few fit free after = absurd (omega (arith, beside.1))
numbered-back p c rest every whole told v [] (list ∷ spans) gifts moments s id next level together given timed beside few fit free after = absurd (omega (arith, beside.0))
numbered-back p c rest every whole told v (table ∷ tables) [] gifts moments s id next level together given timed beside few fit free after = absurd (omega (arith, beside.0))
numbered-back p c rest every whole told v (table ∷ tables) (list ∷ spans) [] moments s id next level together given timed beside few fit free after = absurd (omega (arith, beside.1))
numbered-back p c rest every whole told v (table ∷ tables) (list ∷ spans) (own ∷ gifts) [] s id next level together given timed beside few fit free after = absurd (omega (arith, beside.2))
numbered-back p c rest every whole told v (table ∷ tables) (list ∷ spans) (own ∷ gifts) (b ∷ moments) s id next level together given timed beside few fit free after =
    let shares = flat_map (share_rows p) table in
    let runs = flat_map (span_rows p) list in
    let gives = map (gift_fields p) own in
    let others = tables_rows p every whole told (id + 1) tables in
    let begun = with-moments s (s.moments ++ (b ∷ [])) in
    let more = with begun (ending s.tables table) (ending s.spans list) (ending s.gifts own) in
    let fresh = with begun (ending s.tables []) (ending s.spans []) (ending s.gifts []) in
    let place : id - 1 ≡ length s.spans = omega (arith, level.0) in
    let spot : id - 1 ≡ length s.gifts = omega (arith, level.1) in
    let point : id - 1 ≡ length s.moments = omega (arith, level.2) in
    let held : spans_of_table every id ≡ list = rw (← together, place) (get_or-append_seam s.spans list spans []) in
    let mine : gifts_of_table whole id ≡ own = rw (← given, spot) (get_or-append_seam s.gifts own gifts []) in
    let said : moments_of_table told id ≡ b = rw (← timed, point) (get_or-append_seam s.moments b moments false) in
    let still : AreLevel (ending s.tables table) (ending s.spans list) (ending s.gifts own) begun.moments = (
      omega (arith, level.0, length_push s.tables table, length_push s.spans list),
      omega (arith, level.1, length_push s.tables table, length_push s.gifts own),
      omega (arith, level.2, length_push s.tables table, length_push s.moments b),
    ) in
    let later : ReadsTo p 6 (others ++ rest) more c =
    numbered-back p c rest every whole told v tables spans gifts moments more (id + 1) (omega (arith, length_push s.tables table)) still
    (append_assoc s.spans (list ∷ []) spans ∙ together) (append_assoc s.gifts (own ∷ []) gifts ∙ given) (append_assoc s.moments (b ∷ []) moments ∙ timed)
    (omega (arith, beside.0), omega (arith, beside.1), omega (arith, beside.2)) (omega arith)
    (All-tail (All (IsShareInRange p)) table tables fit.0, All-tail (All (IsSpanInRange p)) list spans fit.1, All-tail (All (IsGiftInRange p)) own gifts fit.2) free
    (moved p rest s c (ending s.tables table ++ tables) (s.tables ++ (table ∷ tables)) (ending s.spans list ++ spans) (s.spans ++ (list ∷ spans)) (ending s.gifts own ++ gifts) (s.gifts ++ (own ∷ gifts))
    (begun.moments ++ moments) (s.moments ++ (b ∷ moments))
    (append_assoc s.tables (table ∷ []) tables) (append_assoc s.spans (list ∷ []) spans) (append_assoc s.gifts (own ∷ []) gifts) (append_assoc s.moments (b ∷ []) moments) after) in
    let inside = table-back p begun c table list own (others ++ rest) v free (All-head (All (IsShareInRange p)) table tables fit.0)
    (All-head (All (IsSpanInRange p)) list spans fit.1) (All-head (All (IsGiftInRange p)) own gifts fit.2) later in
    let lines : ((shares ++ (runs ++ gives)) ++ others) ++ rest ≡ shares ++ (runs ++ (gives ++ (others ++ rest))) =
    append_assoc (shares ++ (runs ++ gives)) others rest
    ∙ append_assoc shares (runs ++ gives) (others ++ rest)
    ∙ ap (λ (l : List (List (List ℕ))). shares ++ l) (append_assoc runs gives (others ++ rest)) in
    subst (λ (m : Bool). ReadsTo p 6 (table_fields id m ∷ (((shares ++ beside_rows p (spans_of_table every id) (gifts_of_table whole id)) ++ others) ++ rest)) s c) (sym said)
    (subst (λ (ls : List ClassSpan). ReadsTo p 6 (table_fields id b ∷ (((shares ++ beside_rows p ls (gifts_of_table whole id)) ++ others) ++ rest)) s c) (sym held)
    (subst (λ (gs : List Gift). ReadsTo p 6 (table_fields id b ∷ (((shares ++ beside_rows p list gs) ++ others) ++ rest)) s c) (sym mine)
    (one-line p 6 section.Tables (table_fields id b) s fresh c (((shares ++ (runs ++ gives)) ++ others) ++ rest) (lit≤ tt)
    (λ g le. table-step p (at s g) id b next (omega arith) (has_ended_at-before_end g (omega arith)) (is_misplaced_after-later g section.Tables s.answer refl le free))
    (subst (λ (ls : List (List (List ℕ))). ReadsTo p 6 ls fresh c) (sym lines) inside))))

-- a statement has no tables yet, and nothing beside them
abbrev pub HasNoTables : Statement → Type 0
HasNoTables s = (s.tables ≡ []) × (s.spans ≡ []) × (s.gifts ≡ []) × (s.moments ≡ [])

-- all tables
pub tables-back : (p : Problem) (s c : Statement) (tables : List (List ClassShare)) (spans : List (List ClassSpan)) (gifts : List (List Gift)) (moments : List Bool) (rest : List (List (List ℕ)))
    → IsValid p → HasNoTables s → AreLevel tables spans gifts moments → length tables < 2 ^ 32 - 1 → AreFit p tables spans gifts
    → (is_forbidden s.answer section.Tables ≡ false) ⊎ ((tables ≡ []) × (spans ≡ []) × (gifts ≡ []) × (moments ≡ []))
    → ReadsTo p 6 rest (record s { tables = tables; spans = spans; gifts = gifts; moments = moments }) c → ReadsTo p 6 (tables_rows p spans gifts moments 1 tables ++ rest) s c
tables-back p s c tables spans gifts moments rest v none beside few fit (inl free) after =
    let start : 1 ≡ length s.tables + 1 = rw none.0 refl in
    let level : AreLevel s.tables s.spans s.gifts s.moments = (rw (none.0, none.1) refl, rw (none.0, none.2) refl, rw (none.0, none.3) refl) in
    let no-tables : s.tables ++ tables ≡ tables = rw none.0 refl in
    let no-spans : s.spans ++ spans ≡ spans = rw none.1 refl in
    let no-gifts : s.gifts ++ gifts ≡ gifts = rw none.2 refl in
    let no-moments : s.moments ++ moments ≡ moments = rw none.3 refl in
    numbered-back p c rest spans gifts moments v tables spans gifts moments s 1 start level no-spans no-gifts no-moments beside (omega arith) fit free
    (moved p rest s c (s.tables ++ tables) tables (s.spans ++ spans) spans (s.gifts ++ gifts) gifts (s.moments ++ moments) moments no-tables no-spans no-gifts no-moments after)
tables-back p s c tables spans gifts moments rest v none beside few fit (inr empty) after =
    subst (λ (ts : List (List ClassShare)). ReadsTo p 6 (tables_rows p spans gifts moments 1 ts ++ rest) s c) (sym empty.0)
    (moved p rest s c s.tables tables s.spans spans s.gifts gifts s.moments moments (none.0 ∙ sym empty.0) (none.1 ∙ sym empty.1) (none.2 ∙ sym empty.2) (none.3 ∙ sym empty.3) after)
