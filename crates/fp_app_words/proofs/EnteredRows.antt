-- What a parse found, by its rows: the subcommand that it entered, and where a value came from.
use Rattle.std.proofs.Common.{◌≡◌, ◌∙◌, List, refl, sym, ap}
use Rattle.std.specs.Prelude.{Box, Option, Some, None, find, option_and_then, option_map}
use Rattle.std.specs.Box.{box_value}
use Rattle.std.specs.Str.{bytes_eq}
use Rattle.clap.proofs.WalkLemmas.{find_row}
use Rattle.clap.specs.Facts.{Entry}
use Rattle.clap.specs.Matches.{matched_of, subcommand_name_of}
use Rattle.clap.specs.Simple.{subcommand_rows, subcommand_rows_of}
use Rattle.clap.specs.Walk.{Row, Text, row_of, rows_of}
use Rattle.clap.specs.declared.parser.matches.ArgMatches.{ArgMatches}
use Rattle.clap.specs.declared.parser.matches.Found.{Found}
use Rattle.clap.specs.declared.parser.matches.MatchedArg.{MatchedArg}
use Rattle.clap.specs.declared.parser.matches.ValueSource.{ValueSource}
use Rattle.clap.specs.declared.parser.matches.ArgMatches.TheViews.{out-ArgMatches, out-SubCommand}
use Rattle.clap.specs.declared.parser.matches.SubCommand.{SubCommand}

names-rows : {Z : Type 0} (o : Option (Box SubCommand Z)) → option_map (λ b. (out-SubCommand (box_value b)).name.now) o ≡ option_map (λ (x : Text × List Row). x.0) (subcommand_rows o)
names-rows None = refl
names-rows (Some b) = refl

pair-of : (o : Option (Text × List Row)) (name : Text) (rows : List Row) → option_map (λ (x : Text × List Row). x.0) o ≡ Some name → option_map (λ (x : Text × List Row). x.1) o ≡ Some rows → o ≡ Some (name, rows)
pair-of None name rows first second = cc first
pair-of (Some x) name rows first second = same x first second
  where
    inner : {A : Type 0} (a b : A) → Some a ≡ Some b → a ≡ b
    inner a b e = cc e

    same : (x : Text × List Row) → Some x.0 ≡ Some name → Some x.1 ≡ Some rows → Some x ≡ Some (name, rows)
    same x first second = ap (λ (n : Text). Some (n, x.1)) (inner x.0 name first) ∙ ap (λ (r : List Row). Some (name, r)) (inner x.1 rows second)

pub entered-rows : (m : ArgMatches) (name : Text) (rows : List Row) → subcommand_name_of m ≡ Some name → option_map (λ (x : Text × List Row). x.1) (subcommand_rows_of m) ≡ Some rows → subcommand_rows_of m ≡ Some (name, rows)
entered-rows m name rows first second = pair-of (subcommand_rows_of m) name rows (sym (names-rows (out-ArgMatches m).subcommand) ∙ first) second

pub entered-none : (m : ArgMatches) → subcommand_name_of m ≡ None → subcommand_rows_of m ≡ None
entered-none m none = empty (subcommand_rows_of m) (sym (names-rows (out-ArgMatches m).subcommand) ∙ none)
  where
    empty : (o : Option (Text × List Row)) → option_map (λ (x : Text × List Row). x.0) o ≡ None → o ≡ None
    empty None e = refl
    empty (Some x) e = cc e

-- where the value of an argument came from is in its row
pub source-rows : (f : Found) (id : Text) → option_and_then (λ (a : MatchedArg). a.source) (matched_of f id) ≡ option_and_then (λ (r : Row). r.source) (find (λ (r : Row). bytes_eq r.id id) (rows_of f))
source-rows f id = go (find (λ (e : Entry). bytes_eq e.0.now id) f.entries.items) ∙ ap (option_and_then (λ (r : Row). r.source)) (sym (find_row f.entries.items id))
  where
    go : (o : Option Entry) → ◌≡◌ {A = Option ValueSource} (option_and_then (λ (a : MatchedArg). a.source) (option_map (λ (e : Entry). e.1) o)) (option_and_then (λ (r : Row). r.source) (option_map row_of o))
    go None = refl
    go (Some e) = refl
