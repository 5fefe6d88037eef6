use Rattle.std.proofs.Common.{◌≡◌, false, map, drop}
use Rattle.clap.specs.Words.{app_of, new_app}
use Rattle.clap.specs.declared.builder.command.Command.TheViews.{out-Command as fields_of}
use Rattle.lsmctl.specs.Program.{with_words}
use Rattle.lsmctl.proofs.parser.taking.Given as goal

abbrev pub invariant-loop-place : goal.invariant-loop-place
invariant-loop-place l = (with_words (app_of l.command) (map (λ place. place.now) (drop l.place-index l.places))
    ≡ with_words (new_app l.name) (map (λ place. place.now) l.places)) × ((fields_of l.command).has_globals ≡ false)
