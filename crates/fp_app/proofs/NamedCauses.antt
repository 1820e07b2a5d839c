-- What `quote NAME` shows, by its status.
use Rattle.std.proofs.Common.{◌≡◌, ◌∙◌, ℕ, Bool, List, refl, sym, ap, inl, inr, ◌⊎◌}
use Rattle.std.specs.Prelude.{Ok, Option, Some}
use Rattle.fp_model.specs.declared.parts.Leg.{Leg}
use Rattle.fp_model.specs.Plans.{PlanExists}
use Rattle.fp_model.specs.Problem.{Problem}
use Rattle.fp_records_fields.specs.NamedParts.{shipment_named}
use Rattle.fp_session_history.specs.declared.budgets.Budget.{Budget}
use Rattle.fp_session_history.specs.Solutions.{Solution}
use Rattle.fp_certificate_lines.specs.declared.certificates.Answer.{Answer}
use Rattle.fp_certificate_lines.specs.declared.certificates.Answer.TheVariants.{Optimal}
use Rattle.fp_certificate_lines.specs.declared.certificates.Spent.{Spent}
use Rattle.fp_certificate_rules.specs.Plans.{routes_of}
use Rattle.fp_replan.specs.Quotes.{without_last}
use Rattle.fp_replan_quotes.specs.LastShipments.{with_last}
use Rattle.fp_replan_quotes.specs.Starts.{start_of}
use Rattle.fp_app_words.specs.declared.orders.Order.TheVariants.{Quote}
use Rattle.fp_app.specs.declared.shown.Shown.{Shown}
use Rattle.fp_app.specs.declared.shown.Shown.TheVariants as shown
use Rattle.fp_app.specs.declared.shown.Status.TheVariants as status
use Rattle.fp_app.specs.Causes.{ShowsNone}
use Rattle.fp_app.specs.Inputs.{OfNamed, named_in}
use Rattle.fp_app.specs.NamedCauses.{NamedStatus, ShowsNamed, ShowsNamedExact, ShowsNamedOpen}
use Rattle.fp_app.specs.NamedQuotes.{IsNamedQuote, ShowsNamedQuote}
use Rattle.fp_app.specs.Quotes.{IsUnfinished}
use Rattle.fp_app.specs.Searches.{Allowance, IsBoundBelow}
use Rattle.fp_app.specs.Shown.{both_status, search_status, status_of}
use Rattle.fp_app.specs.Wanted.{every, every_from}
use Rattle.fp_app.proofs.BegunSearches.{enough-from}
use Rattle.fp_app.proofs.NamedClaims.{figures-from}
use Rattle.fp_app.proofs.ReadCauses.{MatchResult_shows}
use Rattle.fp_app.proofs.SearchEnds.{SearchEnd, both-no_other, optimal, search-end, unfinished}

-- the plan with which the second search began
abbrev begun : (p : Problem) (k : ℕ) (allowed : Allowance) (before after : Solution) (more : ℕ) → IsNamedQuote p k allowed before after more → List (List Leg)
begun p k allowed before after more told = start_of (with_last p k) (routes_of (without_last (with_last p k)) before.certificate) told.quote.direct

-- a bound among plans from one on is one among all
every-below : (p : Problem) (plan : List (List Leg)) (allowed : Allowance) (cost bound : ℕ) (spent : Spent) → IsBoundBelow p (every_from plan) allowed cost bound spent → IsBoundBelow p every allowed cost bound spent
every-below p plan allowed cost bound spent is = record { plans = is.plans; below = is.below; flat = is.flat; scarce = λ enough. is.scarce (enough-from p every plan allowed spent enough) }

-- where a plan with the shipment is shown there is one of the instance as it was read
named-exists : (p : Problem) (k : ℕ) (allowed : Allowance) (before after : Solution) (more : ℕ) → IsNamedQuote p k allowed before after more → PlanExists p
named-exists p k allowed before after more told =
    let cost = (figures-from (with_last p k) (begun p k allowed before after more told) allowed after told.quote.with_it).cost_is in
    let other = told.plans.back cost.0 cost.1 cost.3 in
    (cost.0, other.0, cost.2, other.1)

-- two searches, of which the second began with a plan in hand
module _ (w q : Problem) (plan : List (List Leg)) (allowed : Allowance) (before after : Solution) where
  abbrev First : Answer
  First = before.certificate.answer

  abbrev Second : Answer
  Second = after.certificate.answer

  -- both are optimal where they are done
  both-optimal : (X : Type 0) → SearchEnd w every allowed First → SearchEnd q (every_from plan) allowed Second → both_status First Second ≡ status.Done → ((least most : ℕ) → First ≡ Optimal least → Second ≡ Optimal most → X) → X
  both-optimal X (optimal least first none) (optimal most second fewer) done each = each least most first second
  both-optimal X (optimal least first none) (unfinished cost bound spent second bounds) done each =
      let e : status.Unfinished ≡ status.Done = sym (ap search_status second) ∙ sym (ap (λ (x : Answer). both_status x Second) first) ∙ done in cc e
  both-optimal X (unfinished cost bound spent first bounds) other done each = let e : status.Unfinished ≡ status.Done = sym (ap (λ (x : Answer). both_status x Second) first) ∙ done in cc e

  -- and one is open where they are unfinished
  one-open : SearchEnd w every allowed First → SearchEnd q (every_from plan) allowed Second → both_status First Second ≡ status.Unfinished → IsUnfinished w allowed before ⊎ IsUnfinished q allowed after
  one-open (optimal least first none) (optimal most second fewer) ends =
      let e : status.Done ≡ status.Unfinished = sym (ap search_status second) ∙ sym (ap (λ (x : Answer). both_status x Second) first) ∙ ends in cc e
  one-open (optimal least first none) (unfinished cost bound spent second bounds) ends =
      inr (record { cost = cost; bound = bound; spent = spent; answer = second; bounds = every-below q plan allowed cost bound spent bounds })
  one-open (unfinished cost bound spent first bounds) other ends = inl (record { cost = cost; bound = bound; spent = spent; answer = first; bounds = bounds })

-- no plan is neither
none-done : status.Infeasible ≡ status.Done → ⊥
none-done e = cc e

none-open : status.Infeasible ≡ status.Unfinished → ⊥
none-open e = cc e

module _ (allowed : Allowance) (name input : List ℕ) (p : Problem) (read : named_in name input ≡ Ok p) where
  shows-named : (q : Problem) (before after : Solution) (more : ℕ) → ShowsNamedQuote allowed name p (shown.NamedQuote q before after more) → ShowsNamed allowed name input (shown.NamedQuote q before after more)
  shows-named q before after more told = record {
    instance = p;
    number = told.0;
    before = before;
    after = after;
    more = more;
    read = read;
    named = told.1;
    shows = ap (λ (x : Problem). shown.NamedQuote x before after more) told.2;
    quoted = told.3;
  }

  first-end : (q : Problem) (before after : Solution) (more : ℕ) (told : ShowsNamedQuote allowed name p (shown.NamedQuote q before after more)) → SearchEnd (without_last (with_last p told.0)) every allowed before.certificate.answer
  first-end q before after more told = search-end (without_last (with_last p told.0)) every allowed before.certificate.answer told.3.quote.without.says

  second-end : (q : Problem) (before after : Solution) (more : ℕ) (told : ShowsNamedQuote allowed name p (shown.NamedQuote q before after more)) →
      SearchEnd (with_last p told.0) (every_from (begun p told.0 allowed before after more told.3)) allowed after.certificate.answer
  second-end q before after more told = search-end (with_last p told.0) (every_from (begun p told.0 allowed before after more told.3)) allowed after.certificate.answer told.3.quote.with_it.says

  extra-done : (s : Shown) → ShowsNamedQuote allowed name p s → status_of s ≡ status.Done → ShowsNamedExact allowed name input s
  unfolding shows-named
  extra-done (shown.NamedQuote q before after more) told done =
      both-optimal (without_last (with_last p told.0)) (with_last p told.0) (begun p told.0 allowed before after more told.3) allowed before after (ShowsNamedExact allowed name input (shown.NamedQuote q before after more))
      (first-end q before after more told) (second-end q before after more told) done
      (λ least most first second. record { extra = shows-named q before after more told; least = least; most = most; without = first; with_it = second; exact = (told.3.exact least most first second).0 })
  extra-done (shown.Infeasible q shipment time) told done = absurd (none-done done)
  extra-done _ told done = absurd told

  extra-open : (s : Shown) → ShowsNamedQuote allowed name p s → status_of s ≡ status.Unfinished → ShowsNamedOpen allowed name input s
  unfolding shows-named
  extra-open (shown.NamedQuote q before after more) told ends =
      record {
        extra = shows-named q before after more told;
        one_unfinished = one-open (without_last (with_last p told.0)) (with_last p told.0) (begun p told.0 allowed before after more told.3) allowed before after
            (first-end q before after more told) (second-end q before after more told) ends;
      }
  extra-open (shown.Infeasible q shipment time) told ends = absurd (none-open ends)
  extra-open _ told ends = absurd told

  extra-none : (budget : Budget) (spans : Bool) (seconds : Option ℕ) (notes : Bool) (s : Shown) → ShowsNamedQuote allowed name p s → status_of s ≡ status.Infeasible → ShowsNone (Quote budget spans seconds notes (Some name)) input s
  extra-none budget spans seconds notes (shown.Infeasible q shipment time) told none = record {
    instance = p;
    shipment = shipment;
    time = time;
    read = read;
    shows = ap (λ (x : Problem). shown.Infeasible x shipment time) told.0;
    blocked = told.1;
    none = told.2;
  }
  extra-none budget spans seconds notes (shown.NamedQuote q before after more) told none =
      absurd (both-no_other before.certificate.answer after.certificate.answer status.Infeasible (λ e. cc e) (λ e. cc e) none)
  extra-none budget spans seconds notes _ told none = absurd told

pub named-done : (allowed : Allowance) (name input : List ℕ) (s : Shown) → OfNamed name input s (λ p. ShowsNamedQuote allowed name p s) → status_of s ≡ status.Done → ShowsNamedExact allowed name input s
named-done allowed name input s told done =
    MatchResult_shows status.Done (named_in name input) (named_in name input) (λ p. ShowsNamedQuote allowed name p s) s (ShowsNamedExact allowed name input s) (λ e. cc e) refl done told
    (λ p is shows. extra-done allowed name input p is s shows done)

pub named-open : (allowed : Allowance) (name input : List ℕ) (s : Shown) → OfNamed name input s (λ p. ShowsNamedQuote allowed name p s) → status_of s ≡ status.Unfinished → ShowsNamedOpen allowed name input s
named-open allowed name input s told ends =
    MatchResult_shows status.Unfinished (named_in name input) (named_in name input) (λ p. ShowsNamedQuote allowed name p s) s (ShowsNamedOpen allowed name input s) (λ e. cc e) refl ends told
    (λ p is shows. extra-open allowed name input p is s shows ends)

pub named-none : (allowed : Allowance) (budget : Budget) (spans : Bool) (seconds : Option ℕ) (notes : Bool) (name input : List ℕ) (s : Shown) → OfNamed name input s (λ p. ShowsNamedQuote allowed name p s) → status_of s ≡ status.Infeasible →
    ShowsNone (Quote budget spans seconds notes (Some name)) input s
named-none allowed budget spans seconds notes name input s told none =
    MatchResult_shows status.Infeasible (named_in name input) (named_in name input) (λ p. ShowsNamedQuote allowed name p s) s (ShowsNone (Quote budget spans seconds notes (Some name)) input s) (λ e. cc e) refl none told
    (λ p is shows. extra-none allowed name input p is budget spans seconds notes s shows none)

-- the status of two searches
module _ (p : Problem) (k : ℕ) (name : List ℕ) (allowed : Allowance) (before after : Solution) (more : ℕ) (named : shipment_named p name ≡ Some k) (told : IsNamedQuote p k allowed before after more) where
  abbrev Without : Answer
  Without = before.certificate.answer

  abbrev With : Answer
  With = after.certificate.answer

  both-ends : SearchEnd (without_last (with_last p k)) every allowed Without → SearchEnd (with_last p k) (every_from (begun p k allowed before after more told)) allowed With → NamedStatus name p allowed (both_status Without With)
  both-ends (optimal least first none) (optimal most second fewer) =
      inl (ap (λ (x : Answer). both_status x With) first ∙ ap search_status second, named-exists p k allowed before after more told)
  both-ends (optimal least first none) (unfinished cost bound spent second bounds) =
      inr (inl (
        ap (λ (x : Answer). both_status x With) first ∙ ap search_status second,
        named-exists p k allowed before after more told,
        (k, spent, named, λ enough. bounds.scarce (enough-from (with_last p k) every (begun p k allowed before after more told) allowed spent enough.1)),
      ))
  both-ends (unfinished cost bound spent first bounds) other =
      inr (inl (ap (λ (x : Answer). both_status x With) first, named-exists p k allowed before after more told, (k, spent, named, λ enough. bounds.scarce enough.0)))

pub named-status : (allowed : Allowance) (name : List ℕ) (p : Problem) (s : Shown) → ShowsNamedQuote allowed name p s → NamedStatus name p allowed (status_of s)
named-status allowed name p (shown.NamedQuote q before after more) told =
    both-ends p told.0 name allowed before after more told.1 told.3 (search-end (without_last (with_last p told.0)) every allowed before.certificate.answer told.3.quote.without.says)
    (search-end (with_last p told.0) (every_from (begun p told.0 allowed before after more told.3)) allowed after.certificate.answer told.3.quote.with_it.says)
named-status allowed name p (shown.Infeasible q shipment time) told = inr (inr (refl, told.2))
named-status allowed name p _ told = absurd told
