-- Code has no more places than room.
use Rattle.std.proofs.Common.{ℕ, ◌^◌, ◌<◌, ◌≤◌, List, [], ◌∷◌, length, arith}
use Rattle.std.specs.Prelude.{sum_by}
use Rattle.std.proofs.lemmas.List.Sums.{sum_by-cons}
use Rattle.low_ir.specs.Code.{Plain, Set, Operate, Point, Load, Store, Put, Get, Instr, Do, Call, End, Jump, Branch, Return, Block, Function, Note}
use Rattle.low_ir.specs.Room.{plain_room, instr_room, end_room, block_room, function_room}
use Rattle.image_saving.specs.Walks.{spots_in, HaveSpots}

plain_some : (i : Plain ℕ) → 1 ≤ plain_room i
plain_some (Set d x) = omega arith
plain_some (Operate operator d x y) = omega arith
plain_some (Point d a) = omega arith
plain_some (Load kind d a) = omega arith
plain_some (Store kind a x) = omega arith
plain_some (Put x) = omega arith
plain_some (Get d) = omega arith

instr_some : (i : Instr ℕ Note) → 1 ≤ instr_room i
instr_some (Do i) = plain_some i
instr_some (Call d f args note) = omega arith

end_some : (e : End ℕ) → 1 ≤ end_room e
end_some (Jump b) = omega arith
end_some (Branch c x y taken other) = omega arith
end_some (Return x) = omega arith

code_some : (is : List (Instr ℕ Note)) → length is ≤ sum_by instr_room is
code_some [] = omega arith
code_some (i ∷ is) = let here = instr_some i in let rest = code_some is in let sum = sum_by-cons instr_room i is in omega (arith, here, rest, sum)

blocks_some : (bs : List (Block ℕ Note)) → spots_in bs ≤ sum_by block_room bs
blocks_some [] = omega arith
blocks_some (b ∷ bs) =
    let code = code_some b.code in
    let end = end_some b.end in
    let rest = blocks_some bs in
    let sum = sum_by-cons block_room b bs in
    omega (arith, code, end, rest, sum)

pub have_spots : (fns : List (Function ℕ Note)) → sum_by function_room fns < 2 ^ 64 → HaveSpots fns
have_spots [] h = tt
have_spots (fn ∷ fns) h =
    let here = blocks_some fn.blocks in
    let sum = sum_by-cons function_room fn fns in
    (omega (arith, here, sum, h), have_spots fns (omega (arith, sum, h)))
