use Rattle.std.proofs.Common.{◌∙◌, map, ap, sym}
use Rattle.std.proofs.Math.ListN.{drop_of_length-le}
use Rattle.clap.specs.Words.{app_of}
use Rattle.command_words.specs.Defined.{rule_by}
use Rattle.command_words.proofs.Defining.{defined, with_rules}
use Rattle.command_words.proofs.arguments.command.Goals as goal

pub returns : goal.returns
returns c =
    ap (λ xs. with_rules (app_of c.arguments.command) (map rule_by xs)) (sym (drop_of_length-le c.args.arguments.now c.arguments-test.false))
    ∙ c.arguments.invariant
    ∙ defined c.args.name.now (map rule_by c.args.arguments.now)
