use Rattle.std.proofs.Common.{ℕ, List, None, ap, map}
use Rattle.low_ir.specs.Code.{Block, Instr, Jump, Note}
use Rattle.low_ir.specs.Formed.{only_jump}
use Rattle.low_ir.specs.View.{instr_of}
use Rattle.lower_statement.proofs.Emitting.{latch_set}
use Rattle.lower_statement.proofs.emitter.come_back.Goals as goal

abbrev jumping : ℕ → List (Instr ℕ Note) → Block ℕ Note
jumping n code = record { mark = None; code = code; end = Jump n }

pub returns-in-Some : goal.returns-in-Some
returns-in-Some c = λ inside behind at number.
    latch_set c.args.blocks.now.items _ c.args.latch inside behind (only_jump c.args.header) (only_jump 0) at number (ap (λ xs. jumping c.args.header (map instr_of xs)) c.new.ensures.items)
