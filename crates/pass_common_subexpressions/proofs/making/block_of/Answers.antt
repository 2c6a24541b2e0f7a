use Rattle.std.proofs.Common.{List, map, refl, subst}
use Rattle.low_ir.specs.declared.instruction.Instr.{Instr}
use Rattle.low_ir.specs.View.{block_of, claim_of, instr_of}
use Rattle.pass_common_subexpressions.specs.Making.{AreOf, IsCode, facts_of}
use Rattle.pass_common_subexpressions.proofs.Listing.{block_made}
use Rattle.pass_common_subexpressions.proofs.making.block_of.Goals as goal

pub returns : goal.returns
returns c =
    let claims = map claim_of c.args.claims.now in
    let lists = map facts_of c.args.lists.now in
    let begun = c.in_ok-known.known in
    let now = c.code_behind.new.known in
    let made = block_of (record { mark = c.args.block.now.mark; code = c.in_ok-code.code; end = c.args.block.now.end }) in
    block_made claims lists c.args.number begun now (block_of c.args.block.now) made refl refl
    (subst (λ list. AreOf list begun) c.list_for.ensures c.in_ok-known.ensures)
    (subst (λ (xs : List Instr). IsCode claims (map instr_of xs) begun now (map instr_of c.in_ok-code.code.items)) c.deref.ensures.value c.in_ok-code.ensures)
    (c.hands.ensures c.if-not-hands.false)
