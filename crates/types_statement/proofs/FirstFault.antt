-- What one walk finds is the first fault among the nodes in source order.
use Rattle.std.proofs.Common.{◌≡◌, refl, ap, ◌∙◌, ℕ, ◌++◌, Option, Some, None}
use Rattle.c_tree.specs.Tree.{Label, Case, Default, Statement, Block, Empty, Evaluate, Marker, If, IfElse, While, Do, For, Switch, Break, Continue, Return, Items, NoItem, AndDeclaration, AndStatement, AndRestriction, AndLabel}
use Rattle.types_rules.specs.Scope.{Around, entered, or_else, with_loop}
use Rattle.types_rules.specs.Sights.{declaration_nodes, first_fault, items_nodes, label_nodes, option_nodes, start_nodes, statement_nodes, value_nodes}
use Rattle.types_rules.specs.StatementRules.{Within, after, after_items, in_loop, in_switch, label_rule, within_for}
use Rattle.types_expression.proofs.FirstFault.{first_fault-append}
use Rattle.types_statement.specs.Labels.{label_fault}
use Rattle.types_statement.specs.Walk.{fault_among, fault_in, own_fault}

none-right : {A : Type 0} (o : Option A) → or_else o None ≡ o
none-right (Some x) = refl
none-right None = refl

both : {A : Type 0} {a b c d : Option A} → a ≡ c → b ≡ d → or_else a b ≡ or_else c d
both {a} {b} {c} {d} p q = ap (λ o. or_else o b) p ∙ ap (or_else c) q

first_label : (label : Label ℕ) (front : Items ℕ) (a : Around) → first_fault (label_nodes label front a) ≡ label_fault (label_rule label front) label a
first_label (Case value at) front a = refl
first_label (Default at) front a = none-right (label_fault (label_rule (Default at) front) (Default at) a)

mutual
  first_in : (s : Statement ℕ) (a : Around) (w : Within) → first_fault (statement_nodes s a w) ≡ fault_in s a w
  first_in (Block items at) a w = first_among items (entered a) w
  first_in (Empty at) a w = refl
  first_in (Evaluate value at) a w = refl
  first_in (Marker pragma) a w = refl
  first_in (If test first at) a w =
      ap (or_else (own_fault (If test first at) a w)) (first_fault-append (value_nodes test a) (statement_nodes first a w) ∙ ap (or_else (first_fault (value_nodes test a))) (first_in first a w))
  first_in (IfElse test first second at) a w =
      ap (or_else (own_fault (IfElse test first second at) a w))
      (first_fault-append (value_nodes test a) (statement_nodes first a w ++ statement_nodes second (after first a) w)
      ∙ ap (or_else (first_fault (value_nodes test a))) (first_fault-append (statement_nodes first a w) (statement_nodes second (after first a) w) ∙ both (first_in first a w) (first_in second (after first a) w)))
  first_in (While bound test body at) a w =
      ap (or_else (own_fault (While bound test body at) a w))
      (first_fault-append (value_nodes test (with_loop a)) (statement_nodes body (with_loop a) (in_loop w)) ∙ ap (or_else (first_fault (value_nodes test (with_loop a)))) (first_in body (with_loop a) (in_loop w)))
  first_in (Do bound body test at) a w =
      let behind = value_nodes test (after body (with_loop a)) in
      ap (or_else (own_fault (Do bound body test at) a w))
      (first_fault-append (statement_nodes body (with_loop a) (in_loop w)) behind ∙ ap (λ o. or_else o (first_fault behind)) (first_in body (with_loop a) (in_loop w)))
  first_in (For bound start test step body at) a w =
      let within = within_for start a in
      let head = start_nodes start (with_loop (entered a)) in
      let body_nodes = statement_nodes body within (in_loop w) in
      ap (or_else (own_fault (For bound start test step body at) a w))
      (first_fault-append head (option_nodes test within ++ (option_nodes step within ++ body_nodes))
      ∙ ap (or_else (first_fault head))
      (first_fault-append (option_nodes test within) (option_nodes step within ++ body_nodes)
      ∙ ap (or_else (first_fault (option_nodes test within)))
      (first_fault-append (option_nodes step within) body_nodes ∙ ap (or_else (first_fault (option_nodes step within))) (first_in body within (in_loop w)))))
  first_in (Switch test items at) a w =
      ap (or_else (own_fault (Switch test items at) a w))
      (first_fault-append (value_nodes test a) (items_nodes items (entered a) (in_switch w)) ∙ ap (or_else (first_fault (value_nodes test a))) (first_among items (entered a) (in_switch w)))
  first_in (Break at) a w = none-right (own_fault (Break at) a w)
  first_in (Continue at) a w = none-right (own_fault (Continue at) a w)
  first_in (Return value at) a w = refl

  pub first_among : (items : Items ℕ) (a : Around) (w : Within) → first_fault (items_nodes items a w) ≡ fault_among items a w
  first_among NoItem a w = refl
  first_among (AndDeclaration front declaration) a w =
      let nodes = declaration_nodes declaration (after_items front a) in
      first_fault-append (items_nodes front a w) nodes ∙ ap (λ o. or_else o (first_fault nodes)) (first_among front a w)
  first_among (AndStatement front statement) a w =
      first_fault-append (items_nodes front a w) (statement_nodes statement (after_items front a) w) ∙ both (first_among front a w) (first_in statement (after_items front a) w)
  first_among (AndRestriction front pragma) a w = first_among front a w
  first_among (AndLabel front label) a w =
      first_fault-append (items_nodes front a w) (label_nodes label front (after_items front a)) ∙ both (first_among front a w) (first_label label front (after_items front a))
