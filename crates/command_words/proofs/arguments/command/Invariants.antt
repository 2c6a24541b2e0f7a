use Rattle.std.proofs.Common.{◌≡◌, drop, map}
use Rattle.clap.specs.Words.{app_of, new_app}
use Rattle.command_words.specs.Defined.{rule_by}
use Rattle.command_words.proofs.Defining.{with_rules}
use Rattle.command_words.proofs.arguments.command.Given as goal

abbrev pub invariant-arguments : goal.invariant-arguments
invariant-arguments l = with_rules (app_of l.command) (map rule_by (drop l.argument-index l.arguments)) ≡ with_rules (new_app l.name) (map rule_by l.arguments)
