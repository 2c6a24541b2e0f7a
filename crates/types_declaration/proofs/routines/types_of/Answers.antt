use Rattle.std.proofs.Common.{ap, sym, ◌∙◌, ◌++◌, map, arith}
use Rattle.std.proofs.lemmas.List.{append-nil, drop_all}
use Rattle.types_declaration.proofs.Types.{type_of, types_of-list}
use Rattle.types_declaration.proofs.routines.types_of.Goals as goal

pub returns : goal.returns
returns c =
    let given = c.args.given.now in
    let types = c.loop-param.types.items in
    let all = drop_all c.loop-param.param-index given (omega (arith, c.loop-param-test.false)) in
    c.new-2.ensures ∙ sym (types_of-list given (sym c.is_no_list.ensures ∙ c.if-is_no_list.false) ∙ c.loop-param.invariant ∙ ap (λ xs. types ++ map type_of xs) all ∙ append-nil types)
