-- What `quote` shows, by its status.
use Rattle.std.proofs.Common.{◌≡◌, ◌∙◌, ℕ, Bool, List, refl, sym, ap, inl, inr}
use Rattle.std.specs.Prelude.{None, Ok, Option}
use Rattle.fp_model.specs.Problem.{Problem}
use Rattle.fp_session_history.specs.declared.budgets.Budget.{Budget}
use Rattle.fp_session_history.specs.Solutions.{Solution}
use Rattle.fp_certificate_lines.specs.declared.certificates.Answer.{Answer}
use Rattle.fp_replan.specs.Quotes.{without_last}
use Rattle.fp_app_words.specs.declared.orders.Order.TheVariants.{Quote}
use Rattle.fp_app.specs.declared.shown.Shown.{Shown}
use Rattle.fp_app.specs.declared.shown.Shown.TheVariants as shown
use Rattle.fp_app.specs.declared.shown.Status.TheVariants as status
use Rattle.fp_app.specs.Causes.{QuoteStatus, ShowsExactExtra, ShowsExtra, ShowsNone, ShowsOpenExtra}
use Rattle.fp_app.specs.Inputs.{OfQuoted, quoted_in}
use Rattle.fp_app.specs.Quotes.{IsQuoted}
use Rattle.fp_app.specs.Runs.{ShowsQuote}
use Rattle.fp_app.specs.Shown.{both_status, search_status, status_of}
use Rattle.fp_app.specs.Wanted.{every}
use Rattle.fp_app.specs.Searches.{Allowance}
use Rattle.fp_app.proofs.ReadCauses.{MatchResult_shows}
use Rattle.fp_app.proofs.SearchClaims.{searched-exists}
use Rattle.fp_app.proofs.SearchEnds.{SearchEnd, both-no_other, optimal, search-end, unfinished}

module _ (allowed : Allowance) (input : List ℕ) (s : Shown) (told : ShowsExtra allowed input s) where
  abbrev First : Answer
  First = told.before.certificate.answer

  abbrev Second : Answer
  Second = told.after.certificate.answer

  end-exact : SearchEnd (without_last told.instance) every allowed First → SearchEnd told.instance every allowed Second → both_status First Second ≡ status.Done → ShowsExactExtra allowed input s
  end-exact (optimal least first none) (optimal most second fewer) done =
      record { extra = told; least = least; most = most; without = first; with_it = second; exact = (told.quoted.exact least most first second).0 }
  end-exact (optimal least first none) (unfinished cost bound spent second bounds) done =
      let e : status.Unfinished ≡ status.Done = sym (ap search_status second) ∙ sym (ap (λ (x : Answer). both_status x Second) first) ∙ done in cc e
  end-exact (unfinished cost bound spent first bounds) other done = let e : status.Unfinished ≡ status.Done = sym (ap (λ (x : Answer). both_status x Second) first) ∙ done in cc e

  end-open : SearchEnd (without_last told.instance) every allowed First → SearchEnd told.instance every allowed Second → both_status First Second ≡ status.Unfinished → ShowsOpenExtra allowed input s
  end-open (optimal least first none) (optimal most second fewer) ends =
      let e : status.Done ≡ status.Unfinished = sym (ap search_status second) ∙ sym (ap (λ (x : Answer). both_status x Second) first) ∙ ends in cc e
  end-open (optimal least first none) (unfinished cost bound spent second bounds) ends =
      record { extra = told; one_unfinished = inr (record { cost = cost; bound = bound; spent = spent; answer = second; bounds = bounds }) }
  end-open (unfinished cost bound spent first bounds) other ends =
      record { extra = told; one_unfinished = inl (record { cost = cost; bound = bound; spent = spent; answer = first; bounds = bounds }) }

module _ (allowed : Allowance) (input : List ℕ) (p : Problem) (read : quoted_in input ≡ Ok p) where
  shows-extra : (q : Problem) (before after : Solution) → ShowsQuote allowed p (shown.Quoted q before after) → ShowsExtra allowed input (shown.Quoted q before after)
  shows-extra q before after told =
      record { instance = p; before = before; after = after; read = read; shows = ap (λ (x : Problem). shown.Quoted x before after) told.0; quoted = told.1 }

  extra-done : (s : Shown) → ShowsQuote allowed p s → status_of s ≡ status.Done → ShowsExactExtra allowed input s
  unfolding shows-extra
  extra-done (shown.Quoted q before after) told done =
      end-exact allowed input (shown.Quoted q before after) (shows-extra q before after told)
      (search-end (without_last p) every allowed before.certificate.answer told.1.without.says) (search-end p every allowed after.certificate.answer told.1.with_it.says) done
  extra-done (shown.Infeasible q shipment time) told done = let g = done in cc
  extra-done _ told done = absurd told

  extra-open : (s : Shown) → ShowsQuote allowed p s → status_of s ≡ status.Unfinished → ShowsOpenExtra allowed input s
  unfolding shows-extra
  extra-open (shown.Quoted q before after) told ends =
      end-open allowed input (shown.Quoted q before after) (shows-extra q before after told)
      (search-end (without_last p) every allowed before.certificate.answer told.1.without.says) (search-end p every allowed after.certificate.answer told.1.with_it.says) ends
  extra-open (shown.Infeasible q shipment time) told ends = let g = ends in cc
  extra-open _ told ends = absurd told

  extra-none : (budget : Budget) (spans : Bool) (seconds : Option ℕ) (notes : Bool) (s : Shown) → ShowsQuote allowed p s → status_of s ≡ status.Infeasible → ShowsNone (Quote budget spans seconds notes None) input s
  extra-none budget spans seconds notes (shown.Infeasible q shipment time) told none = record {
    instance = p;
    shipment = shipment;
    time = time;
    read = read;
    shows = ap (λ (x : Problem). shown.Infeasible x shipment time) told.0;
    blocked = told.1;
    none = told.2;
  }
  extra-none budget spans seconds notes (shown.Quoted q before after) told none =
      absurd (both-no_other before.certificate.answer after.certificate.answer status.Infeasible (λ e. cc e) (λ e. cc e) none)
  extra-none budget spans seconds notes _ told none = absurd told

pub quote-done : (allowed : Allowance) (input : List ℕ) (s : Shown) → OfQuoted input s (λ p. ShowsQuote allowed p s) → status_of s ≡ status.Done → ShowsExactExtra allowed input s
quote-done allowed input s told done =
    MatchResult_shows status.Done (quoted_in input) (quoted_in input) (λ p. ShowsQuote allowed p s) s (ShowsExactExtra allowed input s) (λ e. cc e) refl done told
    (λ p is shows. extra-done allowed input p is s shows done)

pub quote-open : (allowed : Allowance) (input : List ℕ) (s : Shown) → OfQuoted input s (λ p. ShowsQuote allowed p s) → status_of s ≡ status.Unfinished → ShowsOpenExtra allowed input s
quote-open allowed input s told ends =
    MatchResult_shows status.Unfinished (quoted_in input) (quoted_in input) (λ p. ShowsQuote allowed p s) s (ShowsOpenExtra allowed input s) (λ e. cc e) refl ends told
    (λ p is shows. extra-open allowed input p is s shows ends)

pub quote-none : (allowed : Allowance) (budget : Budget) (spans : Bool) (seconds : Option ℕ) (notes : Bool) (input : List ℕ) (s : Shown) → OfQuoted input s (λ p. ShowsQuote allowed p s) → status_of s ≡ status.Infeasible → ShowsNone (Quote budget spans seconds notes None) input s
quote-none allowed budget spans seconds notes input s told none =
    MatchResult_shows status.Infeasible (quoted_in input) (quoted_in input) (λ p. ShowsQuote allowed p s) s (ShowsNone (Quote budget spans seconds notes None) input s) (λ e. cc e) refl none told
    (λ p is shows. extra-none allowed input p is budget spans seconds notes s shows none)

-- the status of two searches
module _ (p : Problem) (allowed : Allowance) (before after : Solution) (told : IsQuoted p allowed before after) where
  abbrev Without : Answer
  Without = before.certificate.answer

  abbrev With : Answer
  With = after.certificate.answer

  both-ends : SearchEnd (without_last p) every allowed Without → SearchEnd p every allowed With → QuoteStatus p allowed (both_status Without With)
  both-ends (optimal least first none) (optimal most second fewer) =
      inl (ap (λ (x : Answer). both_status x With) first ∙ ap search_status second, searched-exists p every allowed after told.with_it)
  both-ends (optimal least first none) (unfinished cost bound spent second bounds) =
      inr (inl (ap (λ (x : Answer). both_status x With) first ∙ ap search_status second, searched-exists p every allowed after told.with_it, (spent, λ enough. bounds.scarce enough.1)))
  both-ends (unfinished cost bound spent first bounds) other =
      inr (inl (ap (λ (x : Answer). both_status x With) first, searched-exists p every allowed after told.with_it, (spent, λ enough. bounds.scarce enough.0)))

pub quote-status : (allowed : Allowance) (p : Problem) (s : Shown) → ShowsQuote allowed p s → QuoteStatus p allowed (status_of s)
quote-status allowed p (shown.Quoted q before after) told =
    both-ends p allowed before after told.1 (search-end (without_last p) every allowed before.certificate.answer told.1.without.says) (search-end p every allowed after.certificate.answer told.1.with_it.says)
quote-status allowed p (shown.Infeasible q shipment time) told = inr (inr (refl, told.2))
quote-status allowed p _ told = absurd told
