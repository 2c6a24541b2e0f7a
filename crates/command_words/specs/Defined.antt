-- The arguments of commands, as the program holds them.
use Rattle.clap.specs.Words.{Rule}
use Rattle.command_words.specs.declared.argument.Argument.{Argument}
use Rattle.command_words.specs.declared.argument.Argument.TheVariants as held
use Rattle.command_words.specs.Arguments.{file_rule, placed_number_rule, option_rule, number_rule, flag_rule}

-- the rule of an argument
abbrev pub rule_by : Argument → Rule
rule_by (held.File id) = file_rule id.now
rule_by (held.Number id numbers) = placed_number_rule id.now numbers.least numbers.most
rule_by (held.FileOption id) = option_rule id.now
rule_by (held.NumberOption id numbers) = number_rule id.now numbers.least numbers.most
rule_by (held.Flag id) = flag_rule id.now
