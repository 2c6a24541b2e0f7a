-- The definition of a function, by what is known of its parts.
use Rattle.std.proofs.Common.{◌≡◌, refl, ap, ◌∙◌, sym, ℕ, [], if◌then◌else◌, Option}
use Rattle.std.specs.Prelude.{Vec}
use Rattle.std.specs.Global.{Global}
use Rattle.c_tree.specs.Tree.{Nothing, NoItem}
use Rattle.c_tree.specs.View.{items_of as source_items, param_of as source_param, row_of}
use Rattle.c_tree.specs.declared.expression.Specifier.{Specifier}
use Rattle.c_tree.specs.declared.external.Function as sources
use Rattle.types_rules.specs.DeclarationRules.{function_rule, is_no_list, within_function}
use Rattle.types_rules.specs.Scope.{Around, left, or_else}
use Rattle.types_rules.specs.Sights.{body_around, fault_at, items_nodes, params_nodes}
use Rattle.types_rules.specs.Specifiers.{kind_spelled}
use Rattle.types_rules.specs.StatementRules.{in_function}
use Rattle.types_rules.specs.declared.fault.Fault.{Fault}
use Rattle.types_rules.specs.declared.fault.Rule.{Rule}
use Rattle.types_expression.proofs.FirstFault.{first_fault-append}
use Rattle.types_statement.specs.declared.checked.CheckedItems.{CheckedItems}
use Rattle.c_types.specs.Unit.{AreParts, IsFunction}
use Rattle.c_types.specs.declared.unit.CheckedList.{CheckedList}

pub function_is : (s : sources.Function) (specifiers : Vec Specifier Global) (rule : Option Rule) (first : ℕ) (list : CheckedList) (body : CheckedItems) (fault : Option Fault) (a b : Around)
    → specifiers.items ≡ s.specifiers.items → fault ≡ or_else (fault_at rule s.at) (or_else list.fault body.fault) → AreParts rule first list body s a b
    → IsFunction (record { function = record { specifiers = specifiers; name = s.name; name_at = s.name_at; params = list.params; first = record { 0 = first }; body = body.items; body_at = s.body_at; at = s.at }; fault = fault }) s a b
function_is s specifiers rule first list body fault a b words f parts =
    let ps = row_of source_param Nothing s.params.items in
    let items = source_items NoItem s.body.items in
    let head = within_function s.specifiers.items s.name.0 ps a in
    let around = body_around s.specifiers.items s.name.0 ps a in
    let nodes = if is_no_list ps then [] else params_nodes ps head in
    let inner = items_nodes items around (in_function (kind_spelled s.specifiers.items)) in
    record {
      function = rw (words, parts.params, parts.first_is, parts.body_is.items) refl;
      fault = f ∙ rw (parts.rule_is, parts.declared, parts.body_is.fault) (ap (or_else (fault_at (function_rule s.specifiers.items s.name.0 ps a) s.at)) (sym (first_fault-append nodes inner)));
      after = parts.after ∙ ap left parts.body_is.after;
    }
