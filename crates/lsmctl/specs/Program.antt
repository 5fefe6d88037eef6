-- The words that the program takes, as the parser sees them, and what is asked for by them.
use Rattle.std.specs.Prelude.{◌≡◌, ◌&&◌, Bool, List, [], ◌∷◌, Some, is_some, codes, true, false, if◌then◌else◌}
use Rattle.std.specs.Str.{bytes_eq}
use Rattle.clap.specs.Words.{App, Row, Rule, Text, app_of, first_of, new_app, new_rule, with_rule, with_subcommand}
use Rattle.clap.specs.declared.builder.command.Command.{Command}
use Rattle.clap.specs.declared.builder.command.Command.TheViews.{out-Command as fields_of}
use Rattle.clap.specs.declared.builder.ArgAction.TheVariants.{Set}
use Rattle.lsm_language.specs.declared.subcommand.Subcommand.{Subcommand}
use Rattle.lsm_language.specs.declared.subcommand.Subcommand.TheVariants.{Format, Put, PutIf, Delete, Get, Scan, Stat, Check, Compact, Dump, Load, Serve, Replay, Lives, Explore, Storm, Tally}

-- a word that has to be there
abbrev pub word_rule : Text → Rule
word_rule name = record (new_rule name) { required = true; action = Some Set }

-- a command with words at fixed places
abbrev pub with_words : App → List Text → App
with_words app [] = app
with_words app (name ∷ names) = with_words (with_rule app (word_rule name)) names

abbrev pub file_and_key : List Text
file_and_key = codes "FILE" ∷ codes "KEY" ∷ []

-- the program has no options: the words after its name are a subcommand and its words
abbrev pub bare_program : App
bare_program = let named : App = new_app (codes "lsmctl") in
    record named { top = record named.top { no_binary_name = true; subcommand_required = true } }

-- a command with one subcommand more, which has words at fixed places
abbrev pub with_words_at : App → Text → List Text → App
with_words_at app name places = with_subcommand app (with_words (new_app name) places).top

-- the subcommands that make and change a store
abbrev pub with_changes : App → App
with_changes app = with_words_at (with_words_at (with_words_at (with_words_at app
    (codes "format") (codes "FILE" ∷ codes "SECTORS" ∷ codes "LOG" ∷ []))
    (codes "put") (codes "FILE" ∷ codes "KEY" ∷ codes "VALUE" ∷ []))
    (codes "putif") (codes "FILE" ∷ codes "KEY" ∷ codes "OLD" ∷ codes "NEW" ∷ []))
    (codes "del") file_and_key

-- those that do many things
abbrev pub with_scripts : App → App
with_scripts app = with_words_at (with_words_at (with_words_at (with_words_at (with_words_at app
    (codes "replay") (codes "FILE" ∷ []))
    (codes "lives") (codes "SECTORS" ∷ codes "LOG" ∷ []))
    (codes "explore") (codes "SECTORS" ∷ codes "LOG" ∷ []))
    (codes "storm") (codes "CLIENTS" ∷ codes "COMMITS" ∷ codes "WORKERS" ∷ []))
    (codes "tally") (codes "CLIENTS" ∷ codes "TRIES" ∷ [])

-- those that go over all rows, and the one that answers lines
abbrev pub with_rows : App → App
with_rows app = with_words_at (with_words_at (with_words_at (with_words_at app
    (codes "compact") (codes "FILE" ∷ []))
    (codes "dump") (codes "FILE" ∷ []))
    (codes "load") (codes "FILE" ∷ []))
    (codes "serve") (codes "FILE" ∷ [])

-- and between them those that read a store
abbrev pub program : App
program = with_scripts (with_rows (with_words_at (with_words_at (with_words_at (with_words_at (with_changes bare_program)
    (codes "get") file_and_key)
    (codes "scan") (codes "FILE" ∷ codes "FROM" ∷ codes "LIMIT" ∷ []))
    (codes "stat") (codes "FILE" ∷ []))
    (codes "check") (codes "FILE" ∷ [])))

-- the parser sees the command so, and none of its words belongs to its subcommands too
pub record IsCommand (app : App) (command : Command) : Type 0 where
  pub shape : app_of command ≡ app
  pub local : (fields_of command).has_globals ≡ false

-- the word at a place
abbrev pub HasWord : List Row → Text → Text → Type 0
HasWord rows place word = first_of place rows ≡ Some word

-- what is asked for by a subcommand's name and its words
abbrev pub Asks : Text → List Row → Subcommand → Type 0
Asks name rows (Format file sectors log) = (name ≡ codes "format") × HasWord rows (codes "FILE") file.now
    × HasWord rows (codes "SECTORS") sectors.now × HasWord rows (codes "LOG") log.now
Asks name rows (Put file key value) = (name ≡ codes "put") × HasWord rows (codes "FILE") file.now
    × HasWord rows (codes "KEY") key.now × HasWord rows (codes "VALUE") value.now
Asks name rows (PutIf file key old new) = (name ≡ codes "putif") × HasWord rows (codes "FILE") file.now
    × HasWord rows (codes "KEY") key.now × HasWord rows (codes "OLD") old.now × HasWord rows (codes "NEW") new.now
Asks name rows (Delete file key) = (name ≡ codes "del") × HasWord rows (codes "FILE") file.now
    × HasWord rows (codes "KEY") key.now
Asks name rows (Get file key) = (name ≡ codes "get") × HasWord rows (codes "FILE") file.now
    × HasWord rows (codes "KEY") key.now
Asks name rows (Scan file from limit) = (name ≡ codes "scan") × HasWord rows (codes "FILE") file.now
    × HasWord rows (codes "FROM") from.now × HasWord rows (codes "LIMIT") limit.now
Asks name rows (Stat file) = (name ≡ codes "stat") × HasWord rows (codes "FILE") file.now
Asks name rows (Check file) = (name ≡ codes "check") × HasWord rows (codes "FILE") file.now
Asks name rows (Compact file) = (name ≡ codes "compact") × HasWord rows (codes "FILE") file.now
Asks name rows (Dump file) = (name ≡ codes "dump") × HasWord rows (codes "FILE") file.now
Asks name rows (Load file) = (name ≡ codes "load") × HasWord rows (codes "FILE") file.now
Asks name rows (Serve file) = (name ≡ codes "serve") × HasWord rows (codes "FILE") file.now
Asks name rows (Replay file) = (name ≡ codes "replay") × HasWord rows (codes "FILE") file.now
Asks name rows (Lives sectors log) = (name ≡ codes "lives") × HasWord rows (codes "SECTORS") sectors.now
    × HasWord rows (codes "LOG") log.now
Asks name rows (Explore sectors log) = (name ≡ codes "explore") × HasWord rows (codes "SECTORS") sectors.now
    × HasWord rows (codes "LOG") log.now
Asks name rows (Storm clients commits workers) = (name ≡ codes "storm") × HasWord rows (codes "CLIENTS") clients.now
    × HasWord rows (codes "COMMITS") commits.now × HasWord rows (codes "WORKERS") workers.now
Asks name rows (Tally clients tries) = (name ≡ codes "tally") × HasWord rows (codes "CLIENTS") clients.now
    × HasWord rows (codes "TRIES") tries.now

-- whether the name is one of a subcommand, and there is a word at each of its places
abbrev pub has_word : List Row → Text → Bool
has_word rows place = is_some (first_of place rows)

-- of those that do many things
abbrev pub has_script_words : Text → List Row → Bool
has_script_words name rows = if bytes_eq name (codes "replay") then has_word rows (codes "FILE")
    else if bytes_eq name (codes "lives") then has_word rows (codes "SECTORS") && has_word rows (codes "LOG")
    else if bytes_eq name (codes "explore") then has_word rows (codes "SECTORS") && has_word rows (codes "LOG")
    else if bytes_eq name (codes "storm") then has_word rows (codes "CLIENTS") && (has_word rows (codes "COMMITS") && has_word rows (codes "WORKERS"))
    else if bytes_eq name (codes "tally") then has_word rows (codes "CLIENTS") && has_word rows (codes "TRIES")
    else false

-- of those and the ones that read a store
abbrev pub has_other_words : Text → List Row → Bool
has_other_words name rows = if bytes_eq name (codes "get") then has_word rows (codes "FILE") && has_word rows (codes "KEY")
    else if bytes_eq name (codes "scan") then has_word rows (codes "FILE") && (has_word rows (codes "FROM") && has_word rows (codes "LIMIT"))
    else if bytes_eq name (codes "stat") then has_word rows (codes "FILE")
    else if bytes_eq name (codes "check") then has_word rows (codes "FILE")
    else if bytes_eq name (codes "compact") then has_word rows (codes "FILE")
    else if bytes_eq name (codes "dump") then has_word rows (codes "FILE")
    else if bytes_eq name (codes "load") then has_word rows (codes "FILE")
    else if bytes_eq name (codes "serve") then has_word rows (codes "FILE")
    else has_script_words name rows

-- of all
abbrev pub has_words : Text → List Row → Bool
has_words name rows = if bytes_eq name (codes "format") then has_word rows (codes "FILE") && (has_word rows (codes "SECTORS") && has_word rows (codes "LOG"))
    else if bytes_eq name (codes "put") then has_word rows (codes "FILE") && (has_word rows (codes "KEY") && has_word rows (codes "VALUE"))
    else if bytes_eq name (codes "putif") then has_word rows (codes "FILE") && (has_word rows (codes "KEY") && (has_word rows (codes "OLD") && has_word rows (codes "NEW")))
    else if bytes_eq name (codes "del") then has_word rows (codes "FILE") && has_word rows (codes "KEY")
    else has_other_words name rows
