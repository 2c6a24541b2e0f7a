use Rattle.std.proofs.Common.{◌≡◌, List, map, subst, true, ◌∙◌}
use Rattle.std.specs.Prelude.{All}
use Rattle.std.proofs.lemmas.Result.{IfOk-weaker}
use Rattle.low_ir.specs.declared.instruction.Instr.{Instr}
use Rattle.low_ir.specs.View.{block_of, instr_of}
use Rattle.pass_strength_reduction_law.specs.Steps.{BlockNamesNoSpare, IsNamed, NamesNoSpare}
use Rattle.pass_strength_reduction.specs.Scenes.{is_spare}
use Rattle.pass_strength_reduction.proofs.registers.block_names_none.Goals as goal

pub returns : goal.returns
returns c =
    let spare = is_spare c.args.spare.now in
    let b = block_of c.args.block.now in
    let ended = subst (All (IsNamed spare)) (c.deref.ensures.value ∙ c.in_ok-read.ensures) (c.are_named.ensures c.if-not-are_named.false) in
    IfOk-weaker c.code_names_none.result (λ x. x ≡ true → All (NamesNoSpare spare) (map instr_of c.deref-2.result.now)) (λ x. x ≡ true → BlockNamesNoSpare spare b)
    (λ x h done. (subst (λ (is : List Instr). All (NamesNoSpare spare) (map instr_of is)) c.deref-2.ensures.value (h done), ended)) c.code_names_none.ensures
