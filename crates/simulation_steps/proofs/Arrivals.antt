-- The beginning of a block.
use Rattle.std.proofs.Common.{◌≡◌, ℕ, suc, ◌+◌, ◌<◌, Bool, true, false, List, [], ◌∷◌, ◌++◌, length, map, Some, pos, refl, sym, ap, ◌∙◌, subst, arith}
use Rattle.std.specs.Prelude.{◌==◌, if◌then◌else◌, slice_get}
use Rattle.std.proofs.lemmas.Bool.Decides.{nat_tests}
use Rattle.std.proofs.lemmas.Option.{slice_get_within}
use Rattle.rv_core.specs.Instructions.{addi}
use Rattle.rv_core.specs.Machine.{register_of}
use Rattle.rv_steps.specs.Steps.{Later}
use Rattle.low_ir.specs.declared.run.Began.{Began}
use Rattle.low_ir.specs.Places.{Placed}
use Rattle.asm_program.specs.Frames.{Memory}
use Rattle.asm_program.specs.Functions.{PlacedBlock, function_in, block_count, opening_items, at_once}
use Rattle.simulation_relation.specs.Noted.{Noted, noted, noted_filled, noted_body, noted_block, noted_by}
use Rattle.simulation_relation.specs.Layouts.{HasCode, started_in}
use Rattle.simulation_relation.specs.Positions.{owed, Course}
use Rattle.simulation_steps.proofs.Given.{Given, state, reg, At}
use Rattle.simulation_steps.proofs.Stepping.{go_on}
use Rattle.simulation_steps.proofs.Standing.{Stood}

pub block_below : (m : Memory) (p : Placed) (f b : ℕ) → f < length p.functions → b < length (function_in p f).blocks → b < block_count m p f
block_below m p f b there less = by_number (f == length p.functions) refl
  where
    by_leaving : (once : Bool) → b < length (function_in p f).blocks + (if once then 0 else 1)
    by_leaving true = omega arith
    by_leaving false = omega arith

    by_number : (same : Bool) → (f == length p.functions) ≡ same → b < (if same then 1 else (length (function_in p f).blocks + (if at_once m p f then 0 else 1)))
    by_number true e = let is : f ≡ length p.functions = grind (arith, nat_tests) in absurd (omega arith)
    by_number false e = by_leaving (at_once m p f)

module _ (g : Given) where
  -- the machine has come to these items, with the registers and the world that it had
  pub record Entered (k : Course) (n m : ℕ) (xs : List Noted) : Type 0 where
    pub at : At g k m xs
    pub registers : (q : ℕ) → reg g m q ≡ reg g n q
    pub world : (state g m).world ≡ (state g n).world

  -- a block that would have no instruction has one that does nothing
  pub enter_filled : (k : Course) (P : ℕ → Type 0) (n : ℕ) (xs : List Noted) → At g k n (noted_filled xs) → ((m : ℕ) → Entered k n m xs → Later P m) → Later P n
  enter_filled k P n [] h go =
      let s = state g n in
      let count = h.count in
      go_on g k P n (addi 0 0 (pos 0)) [] s.registers s.world h tt refl refl count (λ m a. go m (record { at = a.at; registers = λ q. ap (λ r. register_of r q) a.registers_are; world = a.world_is }))
  enter_filled k P n (x ∷ xs) h go = go n (record { at = h; registers = λ q. refl; world = refl })

  abbrev pub block_course : ℕ → ℕ → List Began → List ℕ → Course
  block_course f b trace returns = record { function = f; stop = g.layout.stops f b; trace = trace; returns = returns }

  -- the machine that has come to a block is to run its items
  pub at_block : (n f b : ℕ) (block : PlacedBlock) (trace : List Began) (returns : List ℕ) → f < length g.layout.program.functions → slice_get (function_in g.layout.program f).blocks b ≡ Some block → Stood g n (g.layout.starts f b) trace returns
      → At g (block_course f b (trace ++ record { function = f; block = b } ∷ []) returns) n (noted_block g.layout.memory g.layout.program f b block)
  at_block n f b block trace returns there e h =
      let l = g.layout in
      let less = slice_get_within (function_in l.program f).blocks b block e in
      let below = block_below l.memory l.program f b there less in
      let laid = g.laid.blocks f b (omega arith) below in
      let items = subst (λ xs. HasCode l f (l.stops f b) (l.starts f b) xs) (ap (noted_by l.memory l.program f b) e) laid in
      let here = h.here in
      let begins : l.begins (l.starts f b) ≡ record { function = f; block = b } ∷ [] = g.laid.begins f b (omega arith) below ∙ ap (started_in f b) e in
      let known = of_filled (map noted (opening_items l.memory l.program f b) ++ noted_body l.memory l.program f b block.code block.end) in
      record {
        running = h.running;
        count = h.count;
        code = subst (λ a. HasCode l f (l.stops f b) a (noted_block l.memory l.program f b block)) (sym here) items;
        quiet = λ a past before. g.laid.quiet f b a (omega arith) below (omega arith) before;
        events = ap (λ x. x ++ owed l (state g n).pc (noted_block l.memory l.program f b block)) h.events ∙ ap (λ o. trace ++ o) (known (state g n).pc ∙ ap l.begins here ∙ begins);
        returns = h.returns_are;
        straight = h.straight;
        inside = h.inside;
        touches = h.touches;
      }
    where
      of_filled : (xs : List Noted) (a : ℕ) → owed g.layout a (noted_filled xs) ≡ g.layout.begins a
      of_filled [] a = refl
      of_filled (x ∷ xs) a = refl

  -- a block that isn't a function's first
  pub arrive : (P : ℕ → Type 0) (n f b : ℕ) (block : PlacedBlock) (trace : List Began) (returns : List ℕ) → f < length g.layout.program.functions → slice_get (function_in g.layout.program f).blocks (suc b) ≡ Some block → Stood g n (g.layout.starts f (suc b)) trace returns
      → ((m : ℕ) → Entered (block_course f (suc b) (trace ++ record { function = f; block = suc b } ∷ []) returns) n m (noted_body g.layout.memory g.layout.program f (suc b) block.code block.end) → Later P m) → Later P n
  arrive P n f b block trace returns there e h go =
      enter_filled (block_course f (suc b) (trace ++ record { function = f; block = suc b } ∷ []) returns) P n (noted_body g.layout.memory g.layout.program f (suc b) block.code block.end) (at_block n f (suc b) block trace returns there e h) go
