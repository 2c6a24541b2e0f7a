-- The arguments of commands, as rules of `clap`.
use Rattle.std.specs.Prelude.{ℕ, true, Some}
use Rattle.clap.specs.Words.{Rule, Text, new_rule}
use Rattle.clap.specs.declared.builder.action.ArgAction.TheVariants.{Set, SetTrue}
use Rattle.clap.specs.declared.builder.value_parser.ValueParser.TheVariants as parser

-- one of the numbers from `least` to `most`
abbrev pub within : Rule → ℕ → ℕ → Rule
within r least most = record r { parser = Some (parser.Unsigned least most) }

-- a file's name, by its place
abbrev pub file_rule : Text → Rule
file_rule id = record (new_rule id) { required = true; action = Some Set }

-- a number from `least` to `most`, by its place
abbrev pub placed_number_rule : Text → ℕ → ℕ → Rule
placed_number_rule id least most = within (file_rule id) least most

-- a file's name, by an option of this name
abbrev pub option_rule : Text → Rule
option_rule id = record (new_rule id) { long = Some id; action = Some Set }

-- a number from `least` to `most`, by an option of this name
abbrev pub number_rule : Text → ℕ → ℕ → Rule
number_rule id least most = within (option_rule id) least most

-- a flag of this name
abbrev pub flag_rule : Text → Rule
flag_rule id = record (new_rule id) { long = Some id; action = Some SetTrue }
