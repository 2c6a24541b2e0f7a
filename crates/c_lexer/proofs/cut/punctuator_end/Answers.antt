use Rattle.std.proofs.Common.{◌≤◌, length, rules, arith, sym, ◌∙◌}
use Rattle.c_lexer.proofs.TextLemmas.{punctuator_spans, punctuator_some, punctuator_longest, punctuator_none}
use Rattle.c_lexer.proofs.cut.punctuator_end.Goals as goal

pub overflow_add-result : goal.overflow_add-result
overflow_add-result c =
    let within = (punctuator_spans c.args.source.now c.args.at c.in-Some.size (omega (arith, c.requires)) (sym c.punctuator_size.ensures ∙ c.in-Some.is)).1 in
    search (rules, within)

pub returns-in-Some-clause-found : goal.returns-in-Some-clause-found
returns-in-Some-clause-found c =
    let found = sym c.punctuator_size.ensures ∙ c.in-Some.is in
    let within : c.args.at ≤ length c.args.source.now = omega (arith, c.requires) in
    let spans = punctuator_spans c.args.source.now c.args.at c.in-Some.size within found in
    (punctuator_some c.args.source.now c.args.at c.in-Some.size within found, spans.1, spans.0)

pub returns-in-Some-clause-longest : goal.returns-in-Some-clause-longest
returns-in-Some-clause-longest c = punctuator_longest c.args.source.now c.args.at c.in-Some.size (omega (arith, c.requires)) (sym c.punctuator_size.ensures ∙ c.in-Some.is)

pub returns-in-None-clause-none : goal.returns-in-None-clause-none
returns-in-None-clause-none c = punctuator_none c.args.source.now c.args.at (sym c.punctuator_size.ensures ∙ c.in-None.is)
