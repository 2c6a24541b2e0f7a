-- The room of code over places.
use Rattle.std.proofs.Common.{◌≡◌, ℕ, suc, ◌+◌, ◌*◌, List, [], ◌∷◌, length, Option, Some, None, refl, sym, ap, ◌∙◌}
use Rattle.std.specs.Prelude.{option_map, sum_by}
use Rattle.std.proofs.lemmas.List.{length-map}
use Rattle.std.proofs.lemmas.List.Sums.{sum_by-cons}
use Rattle.low_ir.specs.declared.places.Place.{Place}
use Rattle.low_ir.specs.Code.{Base, Fixed, Through, Plain, Set, Operate, Point, Load, Store, Put, Get, Instr, Do, Call, End, Jump, Branch, Return, Block, Function, Low, Note}
use Rattle.low_ir.specs.Places.{Assignment, place_base, place_block, place_blocks, place_code, place_end, place_function, place_functions, place_instr, place_operand, place_plain, placed}
use Rattle.low_ir.specs.Room.{access_room, address_room, block_room, end_room, frame_room, function_room, instr_room, plain_room, room}

module _ (pl : ℕ → Place) where
  address_kept : (base : Base ℕ) (offset : Option ℕ) (n : ℕ) → address_room (place_base pl base) (option_map pl offset) n ≡ address_room base offset n
  address_kept (Fixed o) None n = refl
  address_kept (Fixed o) (Some r) n = refl
  address_kept (Through r claim) None n = refl
  address_kept (Through r claim) (Some x) n = refl

  access_kept : (base : Base ℕ) (offset : Option ℕ) (n : ℕ) → access_room (place_base pl base) (option_map pl offset) n ≡ access_room base offset n
  access_kept (Fixed o) None n = refl
  access_kept (Fixed o) (Some r) n = refl
  access_kept (Through r claim) None n = refl
  access_kept (Through r claim) (Some x) n = refl

  plain_kept : (i : Plain ℕ) → plain_room (place_plain pl i) ≡ plain_room i
  plain_kept (Set d x) = refl
  plain_kept (Operate operator d x y) = refl
  plain_kept (Point d a) = ap (λ n. n + 3) (address_kept a.base a.offset a.displacement)
  plain_kept (Load kind d a) = ap (λ n. n + 3) (access_kept a.base a.offset a.displacement)
  plain_kept (Store kind a x) = ap (λ n. n + 3) (access_kept a.base a.offset a.displacement)
  plain_kept (Put x) = refl
  plain_kept (Get d) = refl

  end_kept : (end : End ℕ) → end_room (place_end pl end) ≡ end_room end
  end_kept (Jump b) = refl
  end_kept (Branch c x y taken other) = refl
  end_kept (Return x) = refl

  module _ (kept : ℕ → List ℕ) where
    instr_kept : (p : ℕ) (i : Instr ℕ Note) → instr_room (place_instr pl kept p i) ≡ instr_room i
    instr_kept p (Do i) = plain_kept i
    instr_kept p (Call d f args note) = ap (λ n. 4 + 10 * n) (length-map args (place_operand pl))

    code_kept : (p : ℕ) (is : List (Instr ℕ Note)) → sum_by instr_room (place_code pl kept p is) ≡ sum_by instr_room is
    code_kept p [] = refl
    code_kept p (i ∷ is) =
        sum_by-cons instr_room (place_instr pl kept p i) (place_code pl kept (suc p) is)
        ∙ ap (λ n. n + sum_by instr_room (place_code pl kept (suc p) is)) (instr_kept p i)
        ∙ ap (λ n. instr_room i + n) (code_kept (suc p) is)
        ∙ sym (sum_by-cons instr_room i is)

    pub block_kept : (p : ℕ) (b : Block ℕ Note) → block_room (place_block pl kept p b) ≡ block_room b
    block_kept p b = ap (λ n. n + end_room (place_end pl b.end)) (code_kept p b.code) ∙ ap (λ n. sum_by instr_room b.code + n) (end_kept b.end)

    blocks_kept : (p : ℕ) (bs : List (Block ℕ Note)) → sum_by block_room (place_blocks pl kept p bs) ≡ sum_by block_room bs
    blocks_kept p [] = refl
    blocks_kept p (b ∷ bs) =
        let next = p + suc (length b.code) in
        sum_by-cons block_room (place_block pl kept p b) (place_blocks pl kept next bs)
        ∙ ap (λ n. n + sum_by block_room (place_blocks pl kept next bs)) (block_kept p b)
        ∙ ap (λ n. block_room b + n) (blocks_kept next bs)
        ∙ sym (sum_by-cons block_room b bs)

functions_kept : (a : Assignment) (k : ℕ) (fns : List (Function ℕ Note)) → sum_by function_room (place_functions a k fns) ≡ sum_by function_room fns
functions_kept a k [] = refl
functions_kept a k (fn ∷ fns) =
    sum_by-cons function_room (place_function a k fn) (place_functions a (suc k) fns)
    ∙ ap (λ n. frame_room + n + sum_by function_room (place_functions a (suc k) fns)) (blocks_kept (a.place k) (a.kept k) 0 fn.blocks)
    ∙ ap (λ n. function_room fn + n) (functions_kept a (suc k) fns)
    ∙ sym (sum_by-cons function_room fn fns)

pub room_kept : (a : Assignment) (low : Low) → room (placed a low) ≡ room low
room_kept a low = functions_kept a 0 low.functions
