use Rattle.std.proofs.Common.{◌≡◌, ap, ◌∙◌, subst, List}
use Rattle.std.proofs.lemmas.Result.{MatchResult-weaker}
use Rattle.c_tree.specs.Tree.{Nothing, NoItem}
use Rattle.c_tree.specs.View.{items_of as source_items, param_of as source_param, row_of}
use Rattle.c_tree.specs.declared.declaration.Param as params
use Rattle.c_tree.specs.declared.expression.Specifier.{Specifier}
use Rattle.c_tree.specs.declared.statement.Item as items
use Rattle.types_rules.specs.DeclarationRules.{after_list, function_rule, routine, within_function}
use Rattle.types_rules.specs.Scope.{Around, entered, with_definition, with_routine}
use Rattle.types_rules.specs.Sights.{body_around}
use Rattle.types_rules.specs.Specifiers.{kind_spelled}
use Rattle.types_rules.specs.StatementRules.{Within, in_function}
use Rattle.types_rules.specs.Typing.{typed_params}
use Rattle.types_statement.specs.Checked.{AreTyped}
use Rattle.types_statement.specs.Within.{within_said}
use Rattle.c_types.specs.Unit.{definition_fault}
use Rattle.c_types.proofs.unit.check_function.Goals as goal

pub returns-in-Ok : goal.returns-in-Ok
returns-in-Ok c =
    let s = c.args.source.now in
    let a = c.args.table.now in
    let words = s.specifiers.items in
    let ps = row_of source_param Nothing s.params.items in
    let head = within_function words s.name.0 ps a in
    let behind = c.check_body.new.table in
    let known : List Specifier → List params.Param → Around = λ words given. with_definition s.name.0 (with_routine s.name.0 (routine words (row_of source_param Nothing given)) a) in
    let defined = ap (λ words. known words c.deref-2.result.now) c.deref.ensures.value ∙ ap (known words) c.deref-2.ensures.value in
    let entered_is : c.enter.new.self ≡ head = c.in_ok-enter.ensures ∙ ap entered (c.in_ok-rule.ensures.after ∙ defined) in
    let inside_is : c.check_list.new.table ≡ body_around words s.name.0 ps a = c.in_ok-list.ensures.after ∙ ap (λ xs. after_list (row_of source_param Nothing xs) c.enter.new.self) c.deref-3.ensures.value ∙ ap (after_list ps) entered_is in
    let stands : within_said c.function-within.result ≡ in_function (kind_spelled words) = c.function-within.ensures ∙ ap in_function (c.kind_spelled.ensures ∙ ap kind_spelled c.deref-4.ensures.value) in
    let P : Within → Type 0 = λ w. AreTyped c.in-Ok.body (source_items NoItem c.deref-5.result.now) w c.check_list.new.table behind in
    let Q : List items.Item → Type 0 = λ xs. AreTyped c.in-Ok.body (source_items NoItem xs) (in_function (kind_spelled words)) c.check_list.new.table behind in
    let R : Around → Type 0 = λ around. AreTyped c.in-Ok.body (source_items NoItem s.body.items) (in_function (kind_spelled words)) around behind in
    MatchResult-weaker c.make_function.result c.make_function.ensures (λ r made. made a c.leave.new.self (record {
      behind = behind;
      rule_is = c.in_ok-rule.ensures.rule ∙ ap (λ ws. function_rule ws s.name.0 (row_of source_param Nothing c.deref-2.result.now) a) c.deref.ensures.value ∙ ap (λ xs. function_rule words s.name.0 (row_of source_param Nothing xs) a) c.deref-2.ensures.value;
      first_is = c.in_ok-first.ensures ∙ c.objects.ensures;
      params = c.in_ok-list.ensures.params ∙ ap (λ xs. typed_params (row_of source_param Nothing xs) c.enter.new.self) c.deref-3.ensures.value ∙ ap (typed_params ps) entered_is;
      declared = c.in_ok-list.ensures.fault ∙ ap (λ xs. definition_fault (row_of source_param Nothing xs) c.enter.new.self) c.deref-3.ensures.value ∙ ap (definition_fault ps) entered_is;
      body_is = subst R inside_is (subst Q c.deref-5.ensures.value (subst P stands c.in-Ok.ensures));
      after = c.leave.ensures;
    })) (λ memory none. none)
