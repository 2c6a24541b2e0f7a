-- What a command of `clap` makes of words that it accepts.
use Rattle.std.specs.Prelude.{◌≡◌, true, List}
use Rattle.clap.specs.Words.{Text, app_of, found_of, matches_of, rows_of, IsParsedFrom}
use Rattle.clap.specs.declared.builder.command.Command.{Command}
use Rattle.clap.specs.declared.parser.matches.ArgMatches.{ArgMatches}
use Rattle.command_words.specs.Asked.{accepts}

pub record IsMatch (command : Command) (words : List Text) (m : ArgMatches) : Type 0 where
  pub accepted : accepts (app_of command) words ≡ true
  pub rows : rows_of (found_of m) ≡ matches_of (app_of command) words
  pub parsed : IsParsedFrom command m
