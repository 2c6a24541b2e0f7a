-- A program with copies in place of loads takes and executes no more instructions, and passes marks as often.
use Rattle.std.proofs.Common.{◌≡◌, ℕ, zero, suc, ◌+◌, ◌*◌, ◌≤◌, List, [], ◌∷◌, refl, sym, ap, ◌∙◌, subst, ⊎_elim, arith}
use Rattle.std.specs.Prelude.{slice_get, sum_by}
use Rattle.std.specs.List.{AllZip}
use Rattle.std.proofs.Math.Nat.{mul-le-mul_left}
use Rattle.std.proofs.lemmas.List.Sums.{sum_by-cons}
use Rattle.low_ir.specs.Code.{Register, Set, Instr, Do, End, Block, Loop, Function, Low, Note}
use Rattle.low_ir.specs.Room.{block_room, called, end_room, function_room, instr_room, marks_once, reaches, repeated, repeated_in, times, weight, weights}
use Rattle.pass_common_subexpressions_law.specs.Facts.{Known, giving}
use Rattle.pass_common_subexpressions_law.proofs.Giving.{giving_room}
use Rattle.pass_common_subexpressions_law.specs.Reloads.{Becomes, Beginnings, Code, Follows, FunctionReloaded, IsReload, IsReloaded}
use Rattle.pass_common_subexpressions_law.proofs.Blocks.{SomeReloaded, reloaded_blocks}
use Rattle.pass_common_subexpressions_law.specs.Laws.{CostsNoMore}
use Rattle.low_parts.proofs.Calls.{called_cons, called_eq, called_le}

-- a load takes at least as much as a copy
became_room : (known : Known) (i new : Instr ℕ Note) → Becomes known i new → instr_room new ≤ instr_room i
became_room known i new becomes =
    ⊎_elim
    (λ (same : new ≡ i). let e : instr_room new ≡ instr_room i = ap instr_room same in omega arith)
    (λ (c : IsReload known i new).
    let e : instr_room new ≡ instr_room {R = ℕ} {K = Note} (Do (Set c.into (Register c.fact.register))) = ap instr_room c.becomes in
    let f : instr_room i ≡ instr_room {R = ℕ} {K = Note} (Do (giving c.into c.fact.source)) = ap instr_room c.is in
    let k = giving_room c.into c.fact.register c.fact.source in
    omega arith)
    becomes

-- calls are of the same functions
became_called : (f : ℕ → ℕ) (known : Known) (i new : Instr ℕ Note) → Becomes known i new → called f (new ∷ []) ≡ called f (i ∷ [])
became_called f known i new becomes =
    ⊎_elim
    (λ (same : new ≡ i). ap (λ j. called f (j ∷ [])) same)
    (λ (c : IsReload known i new). ap (λ j. called f (j ∷ [])) c.becomes ∙ sym (ap (λ j. called f (j ∷ [])) c.is))
    becomes

module _ (claims : List (List ℕ)) where
  -- the room of a block's rest
  code_room : (out : Beginnings) (end : End ℕ) (is : Code) (known : Known) (js : Code) → Follows claims out end is known js → sum_by instr_room js ≤ sum_by instr_room is
  code_room out end [] known js h =
      let e : sum_by instr_room js ≡ 0 = ap (sum_by instr_room) h.0 in
      omega arith
  code_room out end (i ∷ is) known js h =
      let whole = sum_by-cons instr_room i is in
      let k = code_room out end is h.now h.behind h.goes_on in
      let e : sum_by instr_room js ≡ instr_room h.new + sum_by instr_room h.behind = ap (sum_by instr_room) h.is ∙ sum_by-cons instr_room h.new h.behind in
      let l = became_room known i h.new h.becomes in
      omega arith

  code_called : (f g : ℕ → ℕ) → ((n : ℕ) → f n ≤ g n) → (out : Beginnings) (end : End ℕ) (is : Code) (known : Known) (js : Code) → Follows claims out end is known js → called f js ≤ called g is
  code_called f g le out end [] known js h =
      let e : called f js ≡ 0 = ap (called f) h.0 in
      omega arith
  code_called f g le out end (i ∷ is) known js h =
      let k = code_called f g le out end is h.now h.behind h.goes_on in
      let e : called f js ≡ called f (i ∷ []) + called f h.behind = ap (called f) h.is ∙ called_cons f h.new h.behind ∙ ap (λ n. n + called f h.behind) (became_called f known i h.new h.becomes) in
      let l = called_le f g le i in
      let m = called_cons g i is in
      omega arith

  code_called_same : (f g : ℕ → ℕ) → ((n : ℕ) → f n ≡ g n) → (out : Beginnings) (end : End ℕ) (is : Code) (known : Known) (js : Code) → Follows claims out end is known js → called f js ≡ called g is
  code_called_same f g eq out end [] known js h = ap (called f) h.0
  code_called_same f g eq out end (i ∷ is) known js h =
      let k = code_called_same f g eq out end is h.now h.behind h.goes_on in
      let e : called f js ≡ called f (i ∷ []) + called f h.behind = ap (called f) h.is ∙ called_cons f h.new h.behind ∙ ap (λ n. n + called f h.behind) (became_called f known i h.new h.becomes) in
      let l = called_eq f g eq i in
      let m = called_cons g i is in
      omega arith

  block_room_le : (out : Beginnings) (b c : Block ℕ Note) → SomeReloaded claims out b c → block_room c ≤ block_room b
  block_room_le out b c h =
      let k = code_room out b.end b.code (out h.number) c.code h.reloaded.code in
      let e : end_room c.end ≡ end_room b.end = ap end_room h.reloaded.end in
      omega arith

  blocks_room : (out : Beginnings) (bs cs : List (Block ℕ Note)) → AllZip (SomeReloaded claims out) bs cs → sum_by block_room cs ≤ sum_by block_room bs
  blocks_room out [] [] h = omega arith
  blocks_room out [] (c ∷ cs) h = absurd h
  blocks_room out (b ∷ bs) [] h = absurd h
  blocks_room out (b ∷ bs) (c ∷ cs) h =
      let k = blocks_room out bs cs h.1 in
      let l = block_room_le out b c h.0 in
      let e = sum_by-cons block_room b bs in
      let f = sum_by-cons block_room c cs in
      omega arith

  functions_room : (fs gs : List (Function ℕ Note)) → AllZip (FunctionReloaded claims) fs gs → sum_by function_room gs ≤ sum_by function_room fs
  functions_room [] [] h = omega arith
  functions_room [] (g ∷ gs) h = absurd h
  functions_room (f ∷ fs) [] h = absurd h
  functions_room (f ∷ fs) (g ∷ gs) h =
      let k = functions_room fs gs h.1 in
      let l = blocks_room h.0.out f.blocks g.blocks (reloaded_blocks claims f g h.0) in
      let e = sum_by-cons function_room f fs in
      let i = sum_by-cons function_room g gs in
      omega arith

  -- blocks as often as they may start, where each is worth no more
  module _ (f g : Block ℕ Note → ℕ) (le : (out : Beginnings) (b c : Block ℕ Note) → SomeReloaded claims out b c → f c ≤ g b) where
    repeated_le : (out : Beginnings) (loops : List Loop) (k : ℕ) (bs cs : List (Block ℕ Note)) → AllZip (SomeReloaded claims out) bs cs → repeated f loops k cs ≤ repeated g loops k bs
    repeated_le out loops k [] [] h = omega arith
    repeated_le out loops k [] (c ∷ cs) h = absurd h
    repeated_le out loops k (b ∷ bs) [] h = absurd h
    repeated_le out loops k (b ∷ bs) (c ∷ cs) h =
        let one : times loops k * f c ≤ times loops k * g b = mul-le-mul_left (times loops k) (le out b c h.0) in
        let more = repeated_le out loops (suc k) bs cs h.1 in
        omega arith

    function_le : (fs gs : List (Function ℕ Note)) → AllZip (FunctionReloaded claims) fs gs → (n : ℕ) → repeated_in f (slice_get gs n) ≤ repeated_in g (slice_get fs n)
    function_le [] [] h n = omega arith
    function_le [] (y ∷ gs) h n = absurd h
    function_le (x ∷ fs) [] h n = absurd h
    function_le (x ∷ fs) (y ∷ gs) h zero = subst (λ ls. repeated f ls 0 y.blocks ≤ repeated g x.loops 0 x.blocks) (sym h.0.loops) (repeated_le h.0.out x.loops 0 x.blocks y.blocks (reloaded_blocks claims x y h.0))
    function_le (x ∷ fs) (y ∷ gs) h (suc n) = function_le fs gs h.1 n

  -- and where each is worth the same
  module _ (f g : Block ℕ Note → ℕ) (eq : (out : Beginnings) (b c : Block ℕ Note) → SomeReloaded claims out b c → f c ≡ g b) where
    repeated_eq : (out : Beginnings) (loops : List Loop) (k : ℕ) (bs cs : List (Block ℕ Note)) → AllZip (SomeReloaded claims out) bs cs → repeated f loops k cs ≡ repeated g loops k bs
    repeated_eq out loops k [] [] h = refl
    repeated_eq out loops k [] (c ∷ cs) h = absurd h
    repeated_eq out loops k (b ∷ bs) [] h = absurd h
    repeated_eq out loops k (b ∷ bs) (c ∷ cs) h =
        ap (λ n. times loops k * n + repeated f loops (suc k) cs) (eq out b c h.0)
        ∙ ap (λ n. times loops k * g b + n) (repeated_eq out loops (suc k) bs cs h.1)

    function_eq : (fs gs : List (Function ℕ Note)) → AllZip (FunctionReloaded claims) fs gs → (n : ℕ) → repeated_in f (slice_get gs n) ≡ repeated_in g (slice_get fs n)
    function_eq [] [] h n = refl
    function_eq [] (y ∷ gs) h n = absurd h
    function_eq (x ∷ fs) [] h n = absurd h
    function_eq (x ∷ fs) (y ∷ gs) h zero = ap (λ ls. repeated f ls 0 y.blocks) h.0.loops ∙ repeated_eq h.0.out x.loops 0 x.blocks y.blocks (reloaded_blocks claims x y h.0)
    function_eq (x ∷ fs) (y ∷ gs) h (suc n) = function_eq fs gs h.1 n

  module _ (fs gs : List (Function ℕ Note)) (h : AllZip (FunctionReloaded claims) fs gs) where
    weights_le : (n f : ℕ) → weights gs n f ≤ weights fs n f
    weights_le zero f = omega arith
    weights_le (suc n) f =
        let w = weights gs n in
        let v = weights fs n in
        let k =
        function_le (λ b. block_room b + called w b.code) (λ b. block_room b + called v b.code)
        (λ out b c r.
        let one = block_room_le out b c r in
        let more = code_called w v (weights_le n) out b.end b.code (out r.number) c.code r.reloaded.code in
        omega arith)
        fs gs h f in
        omega arith

    reaches_same : (mark n f : ℕ) → reaches gs mark n f ≡ reaches fs mark n f
    reaches_same mark zero f = refl
    reaches_same mark (suc n) f =
        let w = reaches gs mark n in
        let v = reaches fs mark n in
        function_eq (λ b. marks_once b.mark mark + called w b.code) (λ b. marks_once b.mark mark + called v b.code)
        (λ out b c r.
        ap (λ m. marks_once m mark + called w c.code) r.reloaded.mark
        ∙ ap (λ m. marks_once b.mark mark + m) (code_called_same w v (reaches_same mark n) out b.end b.code (out r.number) c.code r.reloaded.code))
        fs gs h f

pub costs : (p q : Low) → IsReloaded p q → CostsNoMore p q
costs p q h =
    record {
      room = functions_room p.claims p.functions q.functions h.functions;
      weight = subst (λ m. weights q.functions (suc m) m ≤ weight p) (sym h.main) (weights_le p.claims p.functions q.functions h.functions (suc p.main) p.main);
      reach = λ mark. ap (λ m. reaches q.functions mark (suc m) m) h.main ∙ reaches_same p.claims p.functions q.functions h.functions mark (suc p.main) p.main;
    }
