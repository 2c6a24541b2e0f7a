use Rattle.std.proofs.Common.{ap, ◌∙◌}
use Rattle.types_tree.specs.declared.statement.Item.TheVariants as item
use Rattle.make_pieces.specs.View.{code_of, leaf_expr}
use Rattle.make_statement.specs.Planned.{item_tests}
use Rattle.make_statement.proofs.Items.{joined_none}
use Rattle.make_statement.proofs.labels.with_test.Goals as goal

pub returns-in-Declaration : goal.returns-in-Declaration
returns-in-Declaration c =
    joined_none (code_of c.args.later) (item_tests (leaf_expr c.args.choice_by.word) c.args.choice_by.noted c.args.item.now c.args.number)
    (ap (λ x. item_tests (leaf_expr c.args.choice_by.word) c.args.choice_by.noted x c.args.number) c.in-Declaration.is)

pub returns-in-Statement : goal.returns-in-Statement
returns-in-Statement c =
    joined_none (code_of c.args.later) (item_tests (leaf_expr c.args.choice_by.word) c.args.choice_by.noted c.args.item.now c.args.number)
    (ap (λ x. item_tests (leaf_expr c.args.choice_by.word) c.args.choice_by.noted x c.args.number) c.in-Statement.is)

pub returns-in-Restriction : goal.returns-in-Restriction
returns-in-Restriction c =
    joined_none (code_of c.args.later) (item_tests (leaf_expr c.args.choice_by.word) c.args.choice_by.noted c.args.item.now c.args.number)
    (ap (λ x. item_tests (leaf_expr c.args.choice_by.word) c.args.choice_by.noted x c.args.number) c.in-Restriction.is)

pub returns-in-Default : goal.returns-in-Default
returns-in-Default c =
    joined_none (code_of c.args.later) (item_tests (leaf_expr c.args.choice_by.word) c.args.choice_by.noted c.args.item.now c.args.number)
    (ap (λ x. item_tests (leaf_expr c.args.choice_by.word) c.args.choice_by.noted x c.args.number) c.in-Label.is
    ∙ ap (λ x. item_tests (leaf_expr c.args.choice_by.word) c.args.choice_by.noted (item.Label x) c.args.number) c.in-Default.is)
