-- What words ask of a command, by what its definition makes of them.
use Rattle.std.proofs.Common.{◌≡◌, ◌∙◌, ap, sym, subst, true, false, List, Option, None}
use Rattle.clap.specs.Words.{App, Row, Text, app_of, found_of, matches_of, rows_of}
use Rattle.clap.specs.declared.builder.command.Command.{Command}
use Rattle.clap.specs.declared.parser.matches.ArgMatches.{ArgMatches}
use Rattle.command_words.specs.Requests.{Request}
use Rattle.command_words.specs.Asked.{accepts, distinct, taken}
use Rattle.command_words.specs.Matching.{IsMatch}

taken-accepted : (a : App) (reading : List Row → Request) (words : List Text) (rows : List Row) (q : Request) (o : Option Request)
    → accepts a words ≡ true → rows ≡ matches_of a words → q ≡ reading rows → o ≡ distinct q → o ≡ taken a reading words
unfolding taken
taken-accepted a reading words rows q o ok is read made = rw ok (made ∙ ap distinct (read ∙ ap reading is))

-- the request that is read of a match
pub takes : (command : Command) (a : App) (reading : List Row → Request) (words : List Text) (m : ArgMatches) (q : Request) (o : Option Request)
    → app_of command ≡ a → IsMatch command words m → q ≡ reading (rows_of (found_of m)) → o ≡ distinct q → o ≡ taken a reading words
takes command a reading words m q o is match read made =
    taken-accepted a reading words (rows_of (found_of m)) q o (ap (λ (b : App). accepts b words) is_back ∙ match.accepted) (match.rows ∙ ap (λ (b : App). matches_of b words) is) read made
  where
    is_back : a ≡ app_of command
    is_back = sym is

-- nothing is asked where the definition refuses the words
pub refuses : (command : Command) (a : App) (reading : List Row → Request) (words : List Text)
    → app_of command ≡ a → accepts (app_of command) words ≡ false → None ≡ taken a reading words
unfolding taken
refuses command a reading words is refused =
    let no : accepts a words ≡ false = subst (λ (b : App). accepts b words ≡ false) is refused in
    rw no
