-- Moves of known bytes, one after the other.
use Rattle.std.proofs.Common.{refl, ◌≡◌, ℕ, List, [], ◌++◌, append_assoc, ap, sym, ◌∙◌, None, Some, Option, Err, length, take, drop, ◌≤◌, ◌<◌, ◌+◌, ◌-◌, min, arith, length-append, length-drop}
use Rattle.std.proofs.lemmas.List.{take-append-drop, drop-drop, drop_all, append-nil}
use Rattle.std.proofs.Math.Seq.{take-add}
use Rattle.std.specs.Io.KnownBytes.{Appends, Consumes}
use Rattle.fp_ends.specs.Moves.{ExplainsEnd, ExplainsPiece, IsWholeInput, TellsInput}
use Rattle.fp_ends.specs.declared.reading.ReadEnd.{ReadEnd}
use Rattle.fp_ends.specs.declared.reading.ReadEnd.TheVariants.{ReadFault, TooLong, NoMemory}

pub Consumes-append : (a b c : Option (List ℕ)) (xs ys : List ℕ) → Consumes a b xs → Consumes b c ys → Consumes a c (xs ++ ys)
Consumes-append None b c xs ys first second = tt
Consumes-append (Some u) None c xs ys first second = absurd first
Consumes-append (Some u) (Some v) None xs ys first second = absurd second
Consumes-append (Some u) (Some v) (Some w) xs ys first second =
    first ∙ ap (λ t. xs ++ t) second ∙ sym (append_assoc xs ys w)

Appends-append : (a b c : Option (List ℕ)) (xs ys : List ℕ) → Appends a b xs → Appends b c ys → Appends a c (xs ++ ys)
Appends-append None b c xs ys first second = tt
Appends-append (Some u) None c xs ys first second = absurd first
Appends-append (Some u) (Some v) None xs ys first second = absurd second
Appends-append (Some u) (Some v) (Some w) xs ys first second =
    second ∙ ap (λ t. t ++ ys) first ∙ append_assoc u xs ys

-- One more write of a text's front.
pub Appends_more : (a b c : Option (List ℕ)) (i n : ℕ) (text : List ℕ) → Appends a b (take i text) → Appends b c (take n (drop i text)) → Appends a c (take (i + n) text)
Appends_more a b c i n text first second =
    rw (take-add i n text) (Appends-append a b c (take i text) (take n (drop i text)) first second)

-- What a copy of the front of the rest gave and what is left then make up the rest.
pub drop-copy_front : (at n most : ℕ) (bytes rest old new : List ℕ) → rest ≡ drop at bytes → 1 ≤ most → n ≡ min most (min (length old) (length rest)) → take n new ≡ take n rest → length new ≡ length old →
    (drop at bytes ≡ take n new ++ drop (at + n) bytes) × (n ≡ 0 → 0 < length new → drop (at + n) bytes ≡ [])
drop-copy_front at n most bytes rest old new is step count front len = (
  sym is ∙ sym (take-append-drop n rest) ∙ ap (λ t. t ++ drop n rest) (sym front) ∙ ap (λ t. take n new ++ drop n t) is ∙ ap (λ t. take n new ++ t) (drop-drop n at bytes),
  λ none room. drop_all (at + n) bytes (omega (arith, length-drop at bytes, ap length is)),
)

-- What an error of one read says of the whole.
pub ExplainsPiece-ExplainsEnd : (limit room : ℕ) (left : Option (List ℕ)) (old new taken : List ℕ) (e : ReadEnd) → length old ≤ limit → room ≡ limit - length old → ExplainsPiece room left old new taken (Err e) → ExplainsEnd limit left (old ++ taken) (Err e)
ExplainsPiece-ExplainsEnd limit room left old new taken ReadFault within is came = rw (came, append-nil) within
ExplainsPiece-ExplainsEnd limit room left old new taken TooLong within is came = absurd came
ExplainsPiece-ExplainsEnd limit room left old new taken NoMemory within is came = omega (arith, length-append old taken)

pub ExplainsPiece-IsWholeInput : (limit room : ℕ) (before after : Option (List ℕ)) (old new taken : List ℕ) (e : ReadEnd) → ExplainsPiece room after old new taken (Err e) → IsWholeInput limit before after (Err e)
ExplainsPiece-IsWholeInput limit room before after old new taken ReadFault came = tt
ExplainsPiece-IsWholeInput limit room before after old new taken TooLong came = absurd came
ExplainsPiece-IsWholeInput limit room before after old new taken NoMemory came = tt

-- Where more than the limit was taken, more was there.
pub Consumes_longer : (limit : ℕ) (before after : Option (List ℕ)) (taken : List ℕ) → Consumes before after taken → limit < length taken → (input : List ℕ) × TellsInput before input × (limit < length input)
Consumes_longer limit None after taken took long = (taken, tt, long)
Consumes_longer limit (Some u) None taken took long = absurd took
Consumes_longer limit (Some u) (Some v) taken took long = (u, refl, omega (arith, ap length took, length-append taken v))
