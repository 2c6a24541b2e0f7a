use Rattle.std.proofs.Common.{rules, ap, ◌∙◌, FitsSigned, w32}
use Rattle.std.proofs.lemmas.Int.{to_z-of_z}
use Rattle.rv_core.specs.declared.op.Op.TheVariants.{Ecall}
use Rattle.rv_core.specs.Instructions.{in_row}
use Rattle.rv_core.proofs.Reencoding.{built-instruction, matched-in_row}
use Rattle.rv_core.proofs.reading.instruction.Goals as goal

pub new-requires : goal.new-requires
new-requires c =
    let fits : FitsSigned w32 c.immediate-imm.result = search rules in
    let imm = to_z-of_z w32 c.immediate-imm.result fits ∙ c.immediate-imm.ensures in
    ap in_row (built-instruction c.row-format.result.format c.args.op Ecall c.args.fields _ _ _ _ (ap (λ r. r.format) c.row-format.ensures.value) c.destination-rd.ensures c.first_source-rs1.ensures c.second_source-rs2.ensures imm)
    ∙ matched-in_row c.args.op c.args.fields c.requires
