-- How much a program with scalars in registers takes: at most seventeen times what it took. Each function may load eight of them, and each
-- block that returns may store eight.
use Rattle.std.proofs.Common.{◌≡◌, ◌≤◌, ℕ, suc, ◌+◌, ◌*◌, Bool, true, false, List, [], ◌∷◌, ◌++◌, length, map, Option, Some, None, refl, ap, arith}
use Rattle.std.specs.Prelude.{sum_by, if◌then◌else◌}
use Rattle.std.proofs.lemmas.List.Sums.{sum_by-append, sum_by-cons}
use Rattle.rv_core.specs.declared.row.Alu.{Alu}
use Rattle.rv_core.specs.declared.row.Alu.TheVariants.{BitAnd, ShiftLeft, ShiftRight, ShiftRightSigned}
use Rattle.low_ir.specs.declared.object.Kind.{Kind}
use Rattle.low_ir.specs.declared.object.Kind.TheVariants.{Unsigned8, Signed8, Unsigned16, Signed16, Word}
use Rattle.low_ir.specs.Kinds.{converted}
use Rattle.low_ir.specs.Code.{Address, Block, Branch, Call, Constant, Do, End, Function, Get, Instr, Jump, Load, Low, Note, Operand, Operate, Point, Put, Register, Return, Set, Store}
use Rattle.low_ir.specs.Room.{block_room, end_room, function_room, instr_room, room}
use Rattle.pass_constant_hoisting.specs.Holding.{opened}
use Rattle.pass_register_promotion_law.specs.Paying.{IsPromoted}
use Rattle.pass_register_promotion_law.specs.Promoting.{Resident, closing, keeping, kept_by, load_by, loads, promoted_block, promoted_code, promoted_function, promoted_functions, promoted_instr, resident_at, residents_at, scalar_address, shifted, store_by, stores}
use Rattle.pass_register_promotion_law.proofs.Tables.{promoted_at}

abbrev Code : Type 0
Code = List (Instr ℕ Note)

none_room : (is : Code) → is ≡ [] → sum_by instr_room is ≡ 0
none_room is e = ap (sum_by instr_room) e

one_room : (i : Instr ℕ Note) → sum_by instr_room (i ∷ []) ≡ instr_room i
one_room i =
    let a = sum_by-cons instr_room i [] in
    let z = none_room [] refl in
    omega (arith, a, z)

two_room : (i j : Instr ℕ Note) → sum_by instr_room (i ∷ j ∷ []) ≡ instr_room i + instr_room j
two_room i j =
    let a = sum_by-cons instr_room i (j ∷ []) in
    let b = one_room j in
    omega (arith, a, b)

-- the loads where a function begins, and the stores where it returns
loads_room : (r : ℕ) (hs : List Resident) → sum_by instr_room (loads r hs) ≡ 8 * length hs
loads_room r [] = refl
loads_room r (h ∷ hs) =
    let k = loads_room (suc r) hs in
    let e = sum_by-cons instr_room (Do (Load h.kind r (scalar_address h.object))) (loads (suc r) hs) in
    omega (arith, k, e)

stores_room : (r : ℕ) (hs : List Resident) → sum_by instr_room (stores r hs) ≤ 8 * length hs
stores_room r [] = omega arith
stores_room r (h ∷ hs) = by_flag h.written (stores_room (suc r) hs)
  where
    by_flag : (b : Bool) → sum_by instr_room (stores (suc r) hs) ≤ 8 * length hs
        → sum_by instr_room (if b then Do (Store h.kind (scalar_address h.object) (Register r)) ∷ stores (suc r) hs else stores (suc r) hs) ≤ 8 * length (h ∷ hs)
    by_flag true k = let e = sum_by-cons instr_room (Do (Store h.kind (scalar_address h.object) (Register r))) (stores (suc r) hs) in omega (arith, k, e)
    by_flag false k = omega (arith, k)

-- what stands for a store to a register
shifted_room : (back : Alu) (s r n : ℕ) → sum_by instr_room (shifted back s r n) ≤ 14
shifted_room back s r n =
    let e = two_room (Do (Operate ShiftLeft s (Register r) (Constant n))) (Do (Operate back s (Register s) (Constant n))) in
    omega (arith, e)

kept_room : (kind : Kind) (s r : ℕ) → sum_by instr_room (kept_by kind s r) ≤ 14
kept_room Unsigned8 s r = let e = one_room (Do (Operate BitAnd s (Register r) (Constant 255))) in omega (arith, e)
kept_room Signed8 s r = shifted_room ShiftRightSigned s r 24
kept_room Unsigned16 s r = shifted_room ShiftRight s r 16
kept_room Signed16 s r = shifted_room ShiftRightSigned s r 16
kept_room Word s r = let e = one_room (Do (Set s (Register r))) in omega (arith, e)

keeping_room : (kind : Kind) (s : ℕ) (x : Operand ℕ) → sum_by instr_room (keeping kind s x) ≤ 14
keeping_room kind s (Register r) = kept_room kind s r
keeping_room kind s (Constant w) = let e = one_room (Do (Set s (Constant (converted kind w)))) in omega (arith, e)

load_room : (kind : Kind) (d : ℕ) (a : Address ℕ) (o : Option ℕ) → sum_by instr_room (load_by o kind d a) ≤ 17 * instr_room {R = ℕ} {K = Note} (Do (Load kind d a))
load_room kind d a None = let e = one_room (Do (Load kind d a)) in omega (arith, e)
load_room kind d a (Some s) = let e = one_room (Do (Set d (Register s))) in omega (arith, e)

store_room : (kind : Kind) (a : Address ℕ) (x : Operand ℕ) (o : Option ℕ) → sum_by instr_room (store_by o kind a x) ≤ 17 * instr_room {R = ℕ} {K = Note} (Do (Store kind a x))
store_room kind a x None = let e = one_room (Do (Store kind a x)) in omega (arith, e)
store_room kind a x (Some s) = let e = keeping_room kind s x in omega (arith, e)

same_room : (i : Instr ℕ Note) → sum_by instr_room (i ∷ []) ≤ 17 * instr_room i
same_room i = let e = one_room i in omega (arith, e)

module _ (n : ℕ) (hs : List Resident) where
  each_room : (i : Instr ℕ Note) → sum_by instr_room (promoted_instr n hs i) ≤ 17 * instr_room i
  each_room (Do (Set d x)) = same_room (Do (Set d x))
  each_room (Do (Operate operator d x y)) = same_room (Do (Operate operator d x y))
  each_room (Do (Point d a)) = same_room (Do (Point d a))
  each_room (Do (Load kind d a)) = load_room kind d a (resident_at n hs a.base)
  each_room (Do (Store kind a x)) = store_room kind a x (resident_at n hs a.base)
  each_room (Do (Put x)) = same_room (Do (Put x))
  each_room (Do (Get d)) = same_room (Do (Get d))
  each_room (Call d f args note) = same_room (Call d f args note)

  code_room : (is : Code) → sum_by instr_room (promoted_code n hs is) ≤ 17 * sum_by instr_room is
  code_room [] = omega arith
  code_room (i ∷ is) =
      let h = code_room is in
      let a = sum_by-append instr_room (promoted_instr n hs i) (promoted_code n hs is) in
      let b = sum_by-cons instr_room i is in
      let c = each_room i in
      omega (arith, h, a, b, c)

  module _ (few : length hs ≤ 8) where
    closing_room : (end : End ℕ) → sum_by instr_room (closing n hs end) + end_room end ≤ 17 * end_room end
    closing_room (Jump b) = let z = none_room (closing n hs (Jump b)) refl in omega (arith, z)
    closing_room (Branch c x y taken other) = let z = none_room (closing n hs (Branch c x y taken other)) refl in omega (arith, z)
    closing_room (Return x) = let e = stores_room n hs in omega (arith, e, few)

    rest_room : (b : Block ℕ Note) → block_room (promoted_block n hs b) ≤ 17 * block_room b
    rest_room b =
        let a = sum_by-append instr_room (promoted_code n hs b.code) (closing n hs b.end) in
        let c = code_room b.code in
        let d = closing_room b.end in
        omega (arith, a, c, d)

    first_room : (b : Block ℕ Note) → block_room (promoted_at n hs 0 b) ≤ 64 + 17 * block_room b
    first_room b =
        let a = sum_by-append instr_room (loads n hs) (promoted_code n hs b.code ++ closing n hs b.end) in
        let c = loads_room n hs in
        let d = rest_room b in
        omega (arith, a, c, d, few)

    blocks_room : (bs : List (Block ℕ Note)) → sum_by block_room (map (promoted_block n hs) bs) ≤ 17 * sum_by block_room bs
    blocks_room [] = omega arith
    blocks_room (b ∷ bs) =
        let h = blocks_room bs in
        let a = sum_by-cons block_room (promoted_block n hs b) (map (promoted_block n hs) bs) in
        let c = sum_by-cons block_room b bs in
        let e = rest_room b in
        omega (arith, h, a, c, e)

    opened_room : (bs : List (Block ℕ Note)) → sum_by block_room (opened (loads n hs) (map (promoted_block n hs) bs)) ≤ 64 + 17 * sum_by block_room bs
    opened_room [] = omega arith
    opened_room (b ∷ bs) =
        let h = blocks_room bs in
        let a = sum_by-cons block_room (promoted_at n hs 0 b) (map (promoted_block n hs) bs) in
        let c = sum_by-cons block_room b bs in
        let e = first_room b in
        omega (arith, h, a, c, e)

functions_room : (hss : List (List Resident)) → ((f : ℕ) → length (residents_at hss f) ≤ 8) → (k : ℕ) (fns : List (Function ℕ Note)) → sum_by function_room (promoted_functions hss k fns) ≤ 17 * sum_by function_room fns
functions_room hss few k [] = omega arith
functions_room hss few k (fn ∷ fns) =
    let h = functions_room hss few (suc k) fns in
    let a = sum_by-cons function_room (promoted_function (residents_at hss k) fn) (promoted_functions hss (suc k) fns) in
    let b = sum_by-cons function_room fn fns in
    let c = opened_room fn.size (residents_at hss k) (few k) fn.blocks in
    omega (arith, h, a, b, c)

pub promoted_program_room : (p q : Low) → IsPromoted p q → room q ≤ 17 * room p
promoted_program_room p q h =
    let e : room q ≡ sum_by function_room (promoted_functions h.residents 0 p.functions) = ap room h.is in
    let a : sum_by function_room (promoted_functions h.residents 0 p.functions) ≤ 17 * room p = functions_room h.residents h.few 0 p.functions in
    omega (arith, e, a)
