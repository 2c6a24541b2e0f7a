use Rattle.std.proofs.Common.{sym, rules}
use Rattle.std.proofs.lemmas.List.{append-nil}
use Rattle.flow_facts.proofs.Rows.{function_at, no_function}
use Rattle.flow_facts.proofs.sites.push_external.Goals as goal

pub returns-then-index-functions : goal.returns-then-index-functions
returns-then-index-functions c =
    rw (c.in-Function.is, no_function c.args.program.now.functions.items c.as_slice-functions.result.now c.in-Function.number.0 c.as_slice-functions.ensures.value c.if-index-functions.true)
    (sym (append-nil c.args.sites.now.items))

pub returns-in_ok-push_definition-in-Function : goal.returns-in_ok-push_definition-in-Function
returns-in_ok-push_definition-in-Function c =
    rw (c.in-Function.is, function_at c.args.program.now.functions.items c.as_slice-functions.result.now c.in-Function.number.0 c.index-functions-index.result c.as_slice-functions.ensures.value c.if-index-functions.false c.index-functions-index.is)
    (search rules)
