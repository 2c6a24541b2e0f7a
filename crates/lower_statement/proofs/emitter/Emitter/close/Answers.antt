use Rattle.std.proofs.Common.{◌≡◌, ℕ, List, ap, length, map, sym, ◌∙◌}
use Rattle.std.specs.Prelude.{reverse}
use Rattle.low_ir.specs.Code.{Block, Instr, Note}
use Rattle.low_ir.specs.View.{block_of, end_of, instr_of, loop_of}
use Rattle.lower_statement.specs.View.{first_of}
use Rattle.lower_statement.proofs.Emitting.{closed_made, length_kept, map_reversed}
use Rattle.lower_statement.proofs.emitter.Emitter.close.Goals as goal

pub returns-clause-after : goal.returns-clause-after
returns-clause-after c =
    let e = c.args.self.now in
    let bs = e.blocks.items in
    let number : c.in_ok-number.number ≡ length (reverse (map block_of bs)) = c.in_ok-number.ensures ∙ c.len.ensures ∙ e.blocks.ok.0 ∙ sym (length_kept block_of bs) in
    let block : List (Instr ℕ Note) → Block ℕ Note = λ code. record { mark = e.mark; code = code; end = end_of e.end } in
    let code = ap (map instr_of) (c.reverse.ensures.items ∙ ap (λ v. reverse v.items) c.replace-code.ensures.value) ∙ map_reversed instr_of e.code.items in
    closed_made c.replace-code.new.dest.items bs c.push.new.self.items _ (first_of e) (reverse (map loop_of e.loops.items)) e.free c.in_ok-number.number
    (ap (λ v. v.items) c.replace-code.ensures.after ∙ c.new.ensures.items) number c.in_ok-push.ensures.items (ap block code)
