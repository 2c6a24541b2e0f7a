use Rattle.std.proofs.Common.{[], List, Option, map, refl, subst}
use Rattle.std.specs.Prelude.{IfSome, Vec}
use Rattle.std.specs.Global.{Global}
use Rattle.low_ir.specs.declared.instruction.Instr.{Instr}
use Rattle.low_ir.specs.View.{block_of, instr_of}
use Rattle.pass_copy_propagation.specs.Knowing.{list_of}
use Rattle.pass_copy_propagation.specs.Making.{Begins, Goes}
use Rattle.pass_copy_propagation.proofs.Blocks.{block_made}
use Rattle.pass_copy_propagation.proofs.making.block_of.Goals as goal

pub returns : goal.returns
returns c =
    let b = block_of c.args.block.now in
    let begun = c.begin.new.known in
    let now = c.code_of.new.known in
    let made = map instr_of c.in-Some.code.items in
    let goes =
    subst (λ (o : Option (Vec Instr Global)). IfSome o (λ (v : Vec Instr Global). Goes (map instr_of c.deref.result.now) begun [] [] now (map instr_of v.items))) c.in-Some.is c.in_ok-code.ensures in
    let read = subst (λ (xs : List Instr). Goes (map instr_of xs) begun [] [] now made) c.deref.ensures.value goes in
    let begins = subst (λ l. Begins l c.args.known.now begun) c.list_at.ensures (c.begin.ensures c.if-not-begin.false) in
    block_made (map list_of c.args.lists.now) c.args.number c.args.known.now begun now b (block_of (record { mark = c.args.block.now.mark; code = c.in-Some.code; end = c.in-Some-renamed_end.end }))
    refl begins read (c.leads_on.ensures c.if-not-leads_on.false) c.in-Some-renamed_end.ensures
