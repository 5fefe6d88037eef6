-- The program's words are such as the parser's definitions compute.
use Rattle.std.proofs.Common.{◌≡◌, ◌||◌, List, Option, Some, None, option_map, true, refl, sym, ap, ap₂, ◌∙◌}
use Rattle.clap.specs.Words.{AddsSubcommand, App, Row, Text, is_simple, is_simple_and_free, with_subcommand}
use Rattle.clap.specs.declared.builder.command.Command.{Command}
use Rattle.clap.proofs.OnLiterals.{clap_on_literals}
use Rattle.lsm_language.specs.declared.subcommand.Subcommand.{Subcommand}
use Rattle.lsm_language.specs.declared.subcommand.Subcommand.TheVariants.{Format, Put, PutIf, Delete, Get, Scan, Stat, Check, Compact, Dump, Load, Serve, Replay, Lives, Explore, Storm, Tally}
use Rattle.lsmctl.specs.Program.{Asks, IsCommand, has_words, program}

-- the parser's matches of the program are those of its definitions
pub is_simple-program : is_simple program ≡ true
unfolding clap_on_literals
is_simple-program = refl

-- and so are its faults
pub is_simple_and_free-program : is_simple_and_free program ≡ true
unfolding clap_on_literals
is_simple_and_free-program = refl

-- what is asked for has its words
pub has_words-asked : (name : Text) (rows : List Row) (asked : Subcommand) → Asks name rows asked → has_words name rows ≡ true
has_words-asked name rows (Format file sectors log) (n, a, b, c) = rw (n, a, b, c) refl
has_words-asked name rows (Put file key value) (n, a, b, c) = rw (n, a, b, c) refl
has_words-asked name rows (PutIf file key old new) (n, a, b, c, d) = rw (n, a, b, c, d) refl
has_words-asked name rows (Delete file key) (n, a, b) = rw (n, a, b) refl
has_words-asked name rows (Get file key) (n, a, b) = rw (n, a, b) refl
has_words-asked name rows (Scan file from limit) (n, a, b, c) = rw (n, a, b, c) refl
has_words-asked name rows (Stat file) (n, a) = rw (n, a) refl
has_words-asked name rows (Check file) (n, a) = rw (n, a) refl
has_words-asked name rows (Compact file) (n, a) = rw (n, a) refl
has_words-asked name rows (Dump file) (n, a) = rw (n, a) refl
has_words-asked name rows (Load file) (n, a) = rw (n, a) refl
has_words-asked name rows (Serve file) (n, a) = rw (n, a) refl
has_words-asked name rows (Replay file) (n, a) = rw (n, a) refl
has_words-asked name rows (Lives sectors log) (n, a, b) = rw (n, a, b) refl
has_words-asked name rows (Explore sectors log) (n, a, b) = rw (n, a, b) refl
has_words-asked name rows (Storm clients commits workers) (n, a, b, c) = rw (n, a, b, c) refl
has_words-asked name rows (Tally clients tries) (n, a, b) = rw (n, a, b) refl

-- a subcommand's name and its matches, from each of them
pub found_together : {B : Type 0} (found : Option B) (pair_of : B → Text × List Row) (name : Text) (rows : List Row)
    → Some name ≡ option_map (λ b. (pair_of b).0) found
    → Some rows ≡ option_map (λ (p : Text × List Row). p.1) (option_map pair_of found)
    → option_map pair_of found ≡ Some (name, rows)
found_together None pair_of name rows e h = cc
found_together (Some b) pair_of name rows e h = both (pair_of b) e h
  where
    both : (p : Text × List Row) → Some name ≡ Some p.0 → Some rows ≡ Some p.1 → Some p ≡ Some (name, rows)
    both (n, r) e h = let e' : name ≡ n = cc in let h' : rows ≡ r = cc in ap₂ (λ x y. Some (x, y)) (sym e') (sym h')

-- a command with one more subcommand
pub IsCommand-subcommand : {old sub new : Command} {app part : App} → AddsSubcommand old sub new → IsCommand app old → IsCommand part sub
    → IsCommand (with_subcommand app part.top) new
IsCommand-subcommand adds above below = record {
  shape = adds.shape below.local ∙ ap₂ with_subcommand above.shape (ap (λ (a : App). a.top) below.shape);
  local = adds.globals ∙ ap₂ (λ x y. x || y) above.local below.local;
}
