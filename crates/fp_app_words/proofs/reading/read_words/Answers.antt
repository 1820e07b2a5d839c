use Rattle.std.proofs.Common.{◌≡◌, ◌∙◌, sym, ap, subst, refl, true, [], ◌∷◌, inl, inr}
use Rattle.std.specs.Prelude.{Option, option_and_then}
use Rattle.clap.specs.Kinds.{IsAmong, Kinds}
use Rattle.clap.specs.Words.{App, fault_of, is_simple, is_simple_and_free, subcommand_of, subcommand_rows_of}
use Rattle.clap.specs.declared.error.kind.ErrorKind.{ErrorKind}
use Rattle.fp_app_words.specs.Commands.{app, entered_order}
use Rattle.fp_app_words.specs.declared.orders.Order.{Order}
use Rattle.fp_app_words.specs.Words.{Orders, texts}
use Rattle.fp_app_words.proofs.Forms.{order_of-dashes, order_of-failed, order_of-passed}
use Rattle.fp_app_words.proofs.reading.read_words.Goals as goal

app-simple : is_simple app ≡ true
app-simple = refl

app-free : is_simple_and_free app ≡ true
app-free = refl

among-none : (k : ErrorKind) (ks : Kinds) → IsAmong k ks → ks ≡ [] → ⊥
among-none k [] among e = among
among-none k (x ∷ xs) among e = cc e

pub returns-in-Ok-try_get_matches_from-clause-order : goal.returns-in-Ok-try_get_matches_from-clause-order
returns-in-Ok-try_get_matches_from-clause-order c =
    let words = texts c.args.words.now in
    let clean = sym c.has_dashes.ensures ∙ c.if-has_dashes.false in
    let same = c.in-Ok.ensures in
    let passed : fault_of app words ≡ [] = sym (ap (λ (a : App). fault_of a words) same) ∙ c.in-Ok-try_get_matches_from.ensures.kinds (ap is_simple_and_free same ∙ app-free) in
    let entered : subcommand_rows_of c.in-Ok-try_get_matches_from.matches ≡ subcommand_of app words =
    (c.in-Ok-try_get_matches_from.ensures.matches (ap is_simple same ∙ app-simple)).1 ∙ ap (λ (a : App). subcommand_of a words) same in
    subst (λ (o : Option Order). Orders o c.order_entered.result) (sym (order_of-passed c.args.words.now clean passed ∙ ap (option_and_then entered_order) (sym entered))) c.order_entered.ensures.order

pub returns-clause-order : goal.returns-clause-order
returns-clause-order c =
    let words = texts c.args.words.now in
    let clean = sym c.has_dashes.ensures ∙ c.if-has_dashes.false in
    let same = c.in-Ok.ensures in
    let kinds = c.in-Err.ensures.kinds (ap is_simple_and_free same ∙ app-free) in
    let fails : fault_of app words ≡ [] → ⊥ =
    λ none. elim kinds [
      | inl memory ↦ c.in_default-kind.not-OutOfMemory (c.kind.ensures ∙ memory)
      | inr among ↦ among-none _ _ among (ap (λ (a : App). fault_of a words) same ∙ none)
    ] in
    order_of-failed c.args.words.now clean fails

pub returns-then-has_dashes-clause-order : goal.returns-then-has_dashes-clause-order
returns-then-has_dashes-clause-order c = order_of-dashes c.args.words.now (sym c.has_dashes.ensures ∙ c.if-has_dashes.true)
