use Rattle.std.proofs.Common.{ap, ◌∙◌}
use Rattle.code_flow_lookup.proofs.LookLemmas.{first_instruction, no_first, some_first, instruction-those}
use Rattle.code_flow_lookup.proofs.moves.instruction_at.Goals as goal

pub returns-then-is_empty : goal.returns-then-is_empty
returns-then-is_empty c = no_first _ _ c.is_empty.ensures c.if-is_empty.true ∙ ap first_instruction c.moves_at-steps.ensures ∙ instruction-those c.args.moves.now c.args.at

pub returns : goal.returns
returns c = some_first _ _ _ c.is_empty.ensures c.if-is_empty.false ∙ ap first_instruction c.moves_at-steps.ensures ∙ instruction-those c.args.moves.now c.args.at
