-- A program without copies takes and executes no more instructions, and passes marks as often.
use Rattle.std.proofs.Common.{◌≡◌, ℕ, zero, suc, ◌+◌, ◌*◌, ◌≤◌, List, [], ◌∷◌, Option, Some, None, refl, sym, ap, ◌∙◌, subst, ⊎_elim, arith}
use Rattle.std.specs.Prelude.{option_map, slice_get, sum_by}
use Rattle.std.specs.List.{AllZip}
use Rattle.std.proofs.Math.Nat.{mul-le-mul_left}
use Rattle.std.proofs.lemmas.List.{length-map}
use Rattle.std.proofs.lemmas.List.Sums.{sum_by-cons}
use Rattle.low_ir.specs.Code.{Operand, Base, Fixed, Through, Plain, Set, Operate, Point, Load, Store, Put, Get, Instr, Do, Call, End, Jump, Branch, Return, Block, Loop, Function, Low, Note}
use Rattle.low_ir.specs.Room.{access_room, address_room, block_room, called, end_room, function_room, instr_room, marks_once, plain_room, reaches, repeated, repeated_in, times, weight, weights}
use Rattle.pass_copy_propagation_law.specs.Renaming.{renamed_base, renamed_end, renamed_instr, renamed_operand, renamed_plain}
use Rattle.pass_copy_propagation_law.specs.Copies.{Beginnings, Carries, Code, Follows, FunctionCopied, IsCopied, LeavesOut, Omits, Standing, WritesOnly}
use Rattle.pass_copy_propagation_law.specs.Laws.{CostsNoMore}
use Rattle.pass_copy_propagation_law.proofs.Blocks.{SomeCopied, copied_blocks}
use Rattle.low_parts.proofs.Calls.{called_cons, called_eq, called_le}

module _ (name : ℕ → ℕ) where
  address_same : (base : Base ℕ) (offset : Option ℕ) (n : ℕ) → address_room (renamed_base name base) (option_map name offset) n ≡ address_room base offset n
  address_same (Fixed o) None n = refl
  address_same (Fixed o) (Some r) n = refl
  address_same (Through r claim) None n = refl
  address_same (Through r claim) (Some x) n = refl

  access_same : (base : Base ℕ) (offset : Option ℕ) (n : ℕ) → access_room (renamed_base name base) (option_map name offset) n ≡ access_room base offset n
  access_same (Fixed o) None n = refl
  access_same (Fixed o) (Some r) n = refl
  access_same (Through r claim) None n = refl
  access_same (Through r claim) (Some x) n = refl

  plain_same : (into : ℕ) (i : Plain ℕ) → plain_room (renamed_plain name into i) ≡ plain_room i
  plain_same into (Set d x) = refl
  plain_same into (Operate operator d x y) = refl
  plain_same into (Point d a) = ap (λ n. n + 3) (address_same a.base a.offset a.displacement)
  plain_same into (Load kind d a) = ap (λ n. n + 3) (access_same a.base a.offset a.displacement)
  plain_same into (Store kind a x) = ap (λ n. n + 3) (access_same a.base a.offset a.displacement)
  plain_same into (Put x) = refl
  plain_same into (Get d) = refl

  instr_same : (into : ℕ) (i : Instr ℕ Note) → instr_room (renamed_instr name into i) ≡ instr_room i
  instr_same into (Do i) = plain_same into i
  instr_same into (Call d f args note) = ap (λ n. 4 + 10 * n) (length-map args (renamed_operand name))

  end_same : (end : End ℕ) → end_room (renamed_end name end) ≡ end_room end
  end_same (Jump b) = refl
  end_same (Branch c x y taken other) = refl
  end_same (Return x) = refl

  -- calls are of the same functions
  called_same : (f : ℕ → ℕ) (into : ℕ) (i : Instr ℕ Note) → called f (renamed_instr name into i ∷ []) ≡ called f (i ∷ [])
  called_same f into (Do i) = refl
  called_same f into (Call d g args note) = refl

set_calls : (f : ℕ → ℕ) (i : Instr ℕ Note) (is : Code) (d : ℕ) (x : Operand ℕ) → i ≡ Do (Set d x) → called f (i ∷ is) ≡ called f is
set_calls f i is d x e = ap (λ j. called f (j ∷ is)) e

omitted_calls : (f : ℕ → ℕ) (i : Instr ℕ Note) (is : Code) (d : ℕ) → WritesOnly i d → called f (i ∷ is) ≡ called f is
omitted_calls f (Do i) is d only = refl
omitted_calls f (Call into g args note) is d only = absurd only

module _ (size : ℕ) (out : Beginnings) (end end2 : End ℕ) where
  -- the room of a block's rest
  code_room : (is : Code) (at : Standing) (js : Code) → Follows size out end end2 is at js → sum_by instr_room js + end_room end2 ≤ sum_by instr_room is + end_room end
  code_room [] at js h =
      let e : sum_by instr_room js ≡ 0 = ap (sum_by instr_room) h.done in
      let f : end_room end2 ≡ end_room end = ap end_room h.is ∙ end_same h.name end in
      omega arith
  code_room (i ∷ is) at js h =
      let whole = sum_by-cons instr_room i is in
      ⊎_elim
      (λ (c : Carries size (Follows size out end end2 is) i at js).
      let k = code_room is c.now c.behind c.goes_on in
      let e : sum_by instr_room js ≡ instr_room (renamed_instr c.name c.into i) + sum_by instr_room c.behind = ap (sum_by instr_room) c.is ∙ sum_by-cons instr_room (renamed_instr c.name c.into i) c.behind in
      let f = instr_same c.name c.into i in
      omega arith)
      (⊎_elim
      (λ (c : LeavesOut (Follows size out end end2 is) i at js).
      let k = code_room is c.now js c.goes_on in
      omega arith)
      (λ (c : Omits (Follows size out end end2 is) i at js).
      let k = code_room is c.now js c.goes_on in
      omega arith))
      h

  code_called : (f g : ℕ → ℕ) → ((n : ℕ) → f n ≤ g n) → (is : Code) (at : Standing) (js : Code) → Follows size out end end2 is at js → called f js ≤ called g is
  code_called f g le [] at js h =
      let e : called f js ≡ 0 = ap (called f) h.done in
      omega arith
  code_called f g le (i ∷ is) at js h =
      ⊎_elim
      (λ (c : Carries size (Follows size out end end2 is) i at js).
      let k = code_called f g le is c.now c.behind c.goes_on in
      let e : called f js ≡ called f (i ∷ []) + called f c.behind = ap (called f) c.is ∙ called_cons f (renamed_instr c.name c.into i) c.behind ∙ ap (λ n. n + called f c.behind) (called_same c.name f c.into i) in
      let l = called_le f g le i in
      let m = called_cons g i is in
      omega arith)
      (⊎_elim
      (λ (c : LeavesOut (Follows size out end end2 is) i at js).
      let k = code_called f g le is c.now js c.goes_on in
      let e = set_calls g i is c.into c.value c.is in
      omega arith)
      (λ (c : Omits (Follows size out end end2 is) i at js).
      let k = code_called f g le is c.now js c.goes_on in
      let e = omitted_calls g i is c.into c.only in
      omega arith))
      h

  code_called_same : (f g : ℕ → ℕ) → ((n : ℕ) → f n ≡ g n) → (is : Code) (at : Standing) (js : Code) → Follows size out end end2 is at js → called f js ≡ called g is
  code_called_same f g eq [] at js h = ap (called f) h.done
  code_called_same f g eq (i ∷ is) at js h =
      ⊎_elim
      (λ (c : Carries size (Follows size out end end2 is) i at js).
      let k = code_called_same f g eq is c.now c.behind c.goes_on in
      let e : called f js ≡ called f (i ∷ []) + called f c.behind = ap (called f) c.is ∙ called_cons f (renamed_instr c.name c.into i) c.behind ∙ ap (λ n. n + called f c.behind) (called_same c.name f c.into i) in
      let l = called_eq f g eq i in
      let m = called_cons g i is in
      omega arith)
      (⊎_elim
      (λ (c : LeavesOut (Follows size out end end2 is) i at js).
      code_called_same f g eq is c.now js c.goes_on ∙ sym (set_calls g i is c.into c.value c.is))
      (λ (c : Omits (Follows size out end end2 is) i at js).
      code_called_same f g eq is c.now js c.goes_on ∙ sym (omitted_calls g i is c.into c.only)))
      h

blocks_room : (size : ℕ) (out : Beginnings) (bs cs : List (Block ℕ Note)) → AllZip (SomeCopied size out) bs cs → sum_by block_room cs ≤ sum_by block_room bs
blocks_room size out [] [] h = omega arith
blocks_room size out [] (c ∷ cs) h = absurd h
blocks_room size out (b ∷ bs) [] h = absurd h
blocks_room size out (b ∷ bs) (c ∷ cs) h =
    let k = blocks_room size out bs cs h.1 in
    let l = code_room size out b.end c.end b.code (out h.0.number) c.code h.0.copied.code in
    let e = sum_by-cons block_room b bs in
    let f = sum_by-cons block_room c cs in
    omega arith

functions_room : (fs gs : List (Function ℕ Note)) → AllZip FunctionCopied fs gs → sum_by function_room gs ≤ sum_by function_room fs
functions_room [] [] h = omega arith
functions_room [] (g ∷ gs) h = absurd h
functions_room (f ∷ fs) [] h = absurd h
functions_room (f ∷ fs) (g ∷ gs) h =
    let k = functions_room fs gs h.1 in
    let l = blocks_room g.size h.0.out f.blocks g.blocks (copied_blocks f g h.0) in
    let e = sum_by-cons function_room f fs in
    let i = sum_by-cons function_room g gs in
    omega arith

mul_le : (k a b : ℕ) → a ≤ b → k * a ≤ k * b
mul_le k a b h = mul-le-mul_left k h

-- blocks as often as they may start, where each is worth no more
module _ (f g : Block ℕ Note → ℕ) (le : (size : ℕ) (out : Beginnings) (b c : Block ℕ Note) → SomeCopied size out b c → f c ≤ g b) where
  repeated_le : (size : ℕ) (out : Beginnings) (loops : List Loop) (k : ℕ) (bs cs : List (Block ℕ Note)) → AllZip (SomeCopied size out) bs cs → repeated f loops k cs ≤ repeated g loops k bs
  repeated_le size out loops k [] [] h = omega arith
  repeated_le size out loops k [] (c ∷ cs) h = absurd h
  repeated_le size out loops k (b ∷ bs) [] h = absurd h
  repeated_le size out loops k (b ∷ bs) (c ∷ cs) h =
      let one = mul_le (times loops k) (f c) (g b) (le size out b c h.0) in
      let more = repeated_le size out loops (suc k) bs cs h.1 in
      omega arith

  function_le : (fs gs : List (Function ℕ Note)) → AllZip FunctionCopied fs gs → (n : ℕ) → repeated_in f (slice_get gs n) ≤ repeated_in g (slice_get fs n)
  function_le [] [] h n = omega arith
  function_le [] (y ∷ gs) h n = absurd h
  function_le (x ∷ fs) [] h n = absurd h
  function_le (x ∷ fs) (y ∷ gs) h zero = subst (λ ls. repeated f ls 0 y.blocks ≤ repeated g x.loops 0 x.blocks) (sym h.0.loops) (repeated_le y.size h.0.out x.loops 0 x.blocks y.blocks (copied_blocks x y h.0))
  function_le (x ∷ fs) (y ∷ gs) h (suc n) = function_le fs gs h.1 n

-- and where each is worth the same
module _ (f g : Block ℕ Note → ℕ) (eq : (size : ℕ) (out : Beginnings) (b c : Block ℕ Note) → SomeCopied size out b c → f c ≡ g b) where
  repeated_eq : (size : ℕ) (out : Beginnings) (loops : List Loop) (k : ℕ) (bs cs : List (Block ℕ Note)) → AllZip (SomeCopied size out) bs cs → repeated f loops k cs ≡ repeated g loops k bs
  repeated_eq size out loops k [] [] h = refl
  repeated_eq size out loops k [] (c ∷ cs) h = absurd h
  repeated_eq size out loops k (b ∷ bs) [] h = absurd h
  repeated_eq size out loops k (b ∷ bs) (c ∷ cs) h =
      ap (λ n. times loops k * n + repeated f loops (suc k) cs) (eq size out b c h.0)
      ∙ ap (λ n. times loops k * g b + n) (repeated_eq size out loops (suc k) bs cs h.1)

  function_eq : (fs gs : List (Function ℕ Note)) → AllZip FunctionCopied fs gs → (n : ℕ) → repeated_in f (slice_get gs n) ≡ repeated_in g (slice_get fs n)
  function_eq [] [] h n = refl
  function_eq [] (y ∷ gs) h n = absurd h
  function_eq (x ∷ fs) [] h n = absurd h
  function_eq (x ∷ fs) (y ∷ gs) h zero = ap (λ ls. repeated f ls 0 y.blocks) h.0.loops ∙ repeated_eq y.size h.0.out x.loops 0 x.blocks y.blocks (copied_blocks x y h.0)
  function_eq (x ∷ fs) (y ∷ gs) h (suc n) = function_eq fs gs h.1 n

module _ (fs gs : List (Function ℕ Note)) (h : AllZip FunctionCopied fs gs) where
  weights_le : (n f : ℕ) → weights gs n f ≤ weights fs n f
  weights_le zero f = omega arith
  weights_le (suc n) f =
      let w = weights gs n in
      let v = weights fs n in
      let k =
      function_le (λ b. block_room b + called w b.code) (λ b. block_room b + called v b.code)
      (λ size out b c r.
      let one = code_room size out b.end c.end b.code (out r.number) c.code r.copied.code in
      let more = code_called size out b.end c.end w v (weights_le n) b.code (out r.number) c.code r.copied.code in
      omega arith)
      fs gs h f in
      omega arith

  reaches_same : (mark n f : ℕ) → reaches gs mark n f ≡ reaches fs mark n f
  reaches_same mark zero f = refl
  reaches_same mark (suc n) f =
      let w = reaches gs mark n in
      let v = reaches fs mark n in
      function_eq (λ b. marks_once b.mark mark + called w b.code) (λ b. marks_once b.mark mark + called v b.code)
      (λ size out b c r.
      ap (λ m. marks_once m mark + called w c.code) r.copied.mark
      ∙ ap (λ m. marks_once b.mark mark + m) (code_called_same size out b.end c.end w v (reaches_same mark n) b.code (out r.number) c.code r.copied.code))
      fs gs h f

pub costs : (p q : Low) → IsCopied p q → CostsNoMore p q
costs p q h =
    record {
      room = functions_room p.functions q.functions h.functions;
      weight = subst (λ m. weights q.functions (suc m) m ≤ weight p) (sym h.main) (weights_le p.functions q.functions h.functions (suc p.main) p.main);
      reach = λ mark. ap (λ m. reaches q.functions mark (suc m) m) h.main ∙ reaches_same p.functions q.functions h.functions mark (suc p.main) p.main;
    }
