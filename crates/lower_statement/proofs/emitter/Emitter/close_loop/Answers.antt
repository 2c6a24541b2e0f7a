use Rattle.std.proofs.Common.{◌∷◌, ap, map, refl, sym, ◌∙◌}
use Rattle.std.specs.Prelude.{reverse}
use Rattle.std.proofs.lemmas.List.{length-reverse}
use Rattle.low_ir.specs.Formed.{only_jump}
use Rattle.low_ir.specs.View.{block_of, loop_of}
use Rattle.lower_definition.specs.Statements.{Piece}
use Rattle.lower_statement.specs.View.{piece_of}
use Rattle.lower_statement.proofs.Emitting.{loop_made, middle_again, middle_reversed, pushed}
use Rattle.lower_statement.proofs.emitter.Emitter.close_loop.Goals as goal

pub returns : goal.returns
returns c = λ inside behind at number.
    let p = piece_of c.args.self.now in
    let q = piece_of c.close.new.self in
    let header = c.in_ok-header.header in
    let before = map block_of c.close.new.self.blocks.items in
    let after = map block_of c.come_back.new.blocks.items in
    let closed = c.in_ok-header.ensures.after in
    let stood = middle_reversed before (p.first ∷ inside) behind (only_jump 0) (ap (λ (x : Piece). x.new) closed ∙ ap (λ xs. p.first ∷ xs) at) in
    let turned = c.come_back.ensures (reverse (p.first ∷ inside)) (reverse behind) stood (number ∙ sym (length-reverse behind)) in
    loop_made c.args.turns.id c.args.turns.min c.args.turns.max c.args.latch header p q _ inside behind c.in_ok-header.ensures.number closed refl
    (middle_again after (p.first ∷ inside) behind (only_jump header) turned)
    (ap (λ xs. reverse (map loop_of xs)) c.in_ok-push.ensures.items ∙ pushed loop_of c.close.new.self.loops.items _)
    refl number
