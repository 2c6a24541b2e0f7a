-- The first fault in a statement, as one walk finds it: that of the statement itself, else the first of its parts'.
use Rattle.std.specs.Prelude.{ℕ, Option, None}
use Rattle.c_tree.specs.Tree.{Statement, Block, Empty, Evaluate, Marker, If, IfElse, While, Do, For, Switch, Break, Continue, Return, Items, NoItem, AndDeclaration, AndStatement, AndRestriction, AndLabel}
use Rattle.types_rules.specs.Scope.{Around, entered, or_else, with_loop}
use Rattle.types_rules.specs.Sights.{declaration_nodes, fault_at, first_fault, option_nodes, start_nodes, statement_place, value_nodes}
use Rattle.types_rules.specs.StatementRules.{Within, after, after_items, in_loop, in_switch, label_rule, statement_rule, within_for}
use Rattle.types_rules.specs.declared.fault.Fault.{Fault}
use Rattle.types_statement.specs.Labels.{label_fault}

abbrev pub own_fault : Statement ℕ → Around → Within → Option Fault
own_fault s a w = fault_at (statement_rule s a w) (statement_place s)

abbrev mutual
  pub fault_in : Statement ℕ → Around → Within → Option Fault
  fault_in (Block items at) a w = fault_among items (entered a) w
  fault_in (Empty at) a w = None
  fault_in (Evaluate value at) a w = first_fault (value_nodes value a)
  fault_in (Marker pragma) a w = None
  fault_in (If test first at) a w = or_else (own_fault (If test first at) a w) (or_else (first_fault (value_nodes test a)) (fault_in first a w))
  fault_in (IfElse test first second at) a w =
      or_else (own_fault (IfElse test first second at) a w) (or_else (first_fault (value_nodes test a)) (or_else (fault_in first a w) (fault_in second (after first a) w)))
  fault_in (While bound test body at) a w =
      or_else (own_fault (While bound test body at) a w) (or_else (first_fault (value_nodes test (with_loop a))) (fault_in body (with_loop a) (in_loop w)))
  fault_in (Do bound body test at) a w =
      or_else (own_fault (Do bound body test at) a w) (or_else (fault_in body (with_loop a) (in_loop w)) (first_fault (value_nodes test (after body (with_loop a)))))
  fault_in (For bound start test step body at) a w =
      let within = within_for start a in
      or_else (own_fault (For bound start test step body at) a w)
      (or_else (first_fault (start_nodes start (with_loop (entered a))))
      (or_else (first_fault (option_nodes test within)) (or_else (first_fault (option_nodes step within)) (fault_in body within (in_loop w)))))
  fault_in (Switch test items at) a w =
      or_else (own_fault (Switch test items at) a w) (or_else (first_fault (value_nodes test a)) (fault_among items (entered a) (in_switch w)))
  fault_in (Break at) a w = own_fault (Break at) a w
  fault_in (Continue at) a w = own_fault (Continue at) a w
  fault_in (Return value at) a w = or_else (own_fault (Return value at) a w) (first_fault (option_nodes value a))

  pub fault_among : Items ℕ → Around → Within → Option Fault
  fault_among NoItem a w = None
  fault_among (AndDeclaration front declaration) a w = or_else (fault_among front a w) (first_fault (declaration_nodes declaration (after_items front a)))
  fault_among (AndStatement front statement) a w = or_else (fault_among front a w) (fault_in statement (after_items front a) w)
  fault_among (AndRestriction front pragma) a w = fault_among front a w
  fault_among (AndLabel front label) a w = or_else (fault_among front a w) (label_fault (label_rule label front) label (after_items front a))
