-- Code as it grows, without where it lies in memory.
use Rattle.std.specs.Prelude.{ℕ, List, map, reverse, Vec}
use Rattle.std.specs.Global.{Global}
use Rattle.low_ir.specs.Code.{Block, Note}
use Rattle.low_ir.specs.View.{block_of, end_of, instr_of, loop_of}
use Rattle.lower_definition.specs.Statements.{Piece}
use Rattle.lower_statement.specs.declared.emitter.Emitter.{Emitter}

-- instructions, blocks and loops are kept last one first
abbrev pub first_of : Emitter → Block ℕ Note
first_of e = record { mark = e.mark; code = reverse (map instr_of e.code.items); end = end_of e.end }

abbrev pub piece_of : Emitter → Piece
piece_of e = record { first = first_of e; new = reverse (map block_of e.blocks.items); loops = reverse (map loop_of e.loops.items); free = e.free }

-- the exits of the blocks around, the innermost first
abbrev pub exits_of : Vec ℕ Global → List ℕ
exits_of exits = reverse exits.items
