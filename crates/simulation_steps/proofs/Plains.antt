-- Instructions over places and the code of each: what is set and computed, and bytes that come and go.
use Rattle.std.proofs.Common.{◌≡◌, ℕ, ◌%◌, ◌^◌, ◌<◌, Bool, true, false, List, [], ◌∷◌, ◌++◌, Contains, Option, Some, None, refl, sym, ap, ◌∙◌, subst, arith}
use Rattle.std.specs.Prelude.{All, drop}
use Rattle.std.specs.Option.{option_to_list}
use Rattle.std.proofs.lemmas.List.Elements.{All-head, All-tail}
use Rattle.rv_core.specs.declared.row.Alu.{Alu}
use Rattle.rv_core.specs.Arithmetic.{alu_value}
use Rattle.rv_core.specs.Machine as machine
use Rattle.rv_core.specs.Memory.{read_from}
use Rattle.rv_steps.specs.Steps.{Later}
use Rattle.rv_steps.proofs.LaterLemmas.{now}
use Rattle.low_ir.specs.declared.places.Place.{Place}
use Rattle.low_ir.specs.declared.places.Place.TheVariants.{Register as InRegister}
use Rattle.low_ir.specs.declared.run.Value.{Value}
use Rattle.low_ir.specs.declared.run.Value.TheVariants.{Word, Pointer}
use Rattle.low_ir.specs.Code.{Operand, Register, Constant, Plain, Set, Operate, Get, Instr, Do}
use Rattle.low_ir.specs.Effects.{World, dest, there, with_next, with_one, word, gives, got, next_byte, after_byte}
use Rattle.low_ir.specs.Runs.{operand_value, values_cons, goes_on, finish}
use Rattle.low_ir.specs.Places.{File, read_place, unset_if, write_place, places}
use Rattle.asm_program.specs.Numbers.{base, machine_register, result}
use Rattle.asm_program.specs.Operands.{put_code}
use Rattle.asm_program.specs.Emission.{registers_among}
use Rattle.simulation_relation.specs.Noted.{Noted, singles, noted_body}
use Rattle.simulation_relation.specs.Positions.{Course}
use Rattle.simulation_relation.specs.Views.{view_of, IsLocated, HasRoom}
use Rattle.simulation_relation.specs.Waiting.{IsIn}
use Rattle.simulation_relation.specs.Following.{PlacedRunning, PlacedRun, Exchanges, Goes, Follows}
use Rattle.simulation_steps.proofs.Given.{Given, run_of, state, At}
use Rattle.low_parts.proofs.Words.{alu-small}
use Rattle.simulation_steps.proofs.Operands.{frame, code, Ready, IsThere, Gave}
use Rattle.simulation_steps.proofs.Operands as operands
use Rattle.simulation_steps.proofs.Plain.{set_lays, operate_lays, take_lays}
use Rattle.simulation_steps.proofs.Holding.{Keeps, forgets, forgotten, in_rest, writes_known, written_there, holds_kept}
use Rattle.simulation_steps.proofs.Unsetting.{Spared, place_spared, unset_read}

input_is : (bs : List ℕ) → machine.input_value bs ≡ next_byte bs
input_is [] = refl
input_is (b ∷ bs) = refl

left_is : (bs : List ℕ) → drop 1 bs ≡ after_byte bs
left_is [] = refl
left_is (b ∷ bs) = refl

byte-small : (bs : List ℕ) → All (λ b. b < 256) bs → next_byte bs < 2 ^ 32
byte-small [] h = omega arith
byte-small (b ∷ bs) h = let less = All-head (λ x. x < 256) b bs h in omega arith

left_bytes : (bs : List ℕ) → All (λ b. b < 256) bs → All (λ b. b < 256) (after_byte bs)
left_bytes [] h = h
left_bytes (b ∷ bs) h = All-tail (λ x. x < 256) b bs h

module _ (g : Given) where
  abbrev pub Runs : PlacedRun → ℕ → Type 0
  Runs x m = Follows g.layout (run_of g) x m

  abbrev pub Going_at : PlacedRunning → ℕ → Type 0
  Going_at r n = Goes g.layout (run_of g) r n

  pub ready_of : (r : PlacedRunning) (n : ℕ) → Going_at r n → Ready g r.top.func r.top.store n
  ready_of r n h = record { there = h.inside.there; based = h.holds.based; second = h.holds.second; room = h.holds.room; shows = h.holds.shows }

  abbrev pub body : PlacedRunning → ℕ → List (Instr Place (List ℕ)) → List Noted
  body r b is = noted_body g.layout.memory g.layout.program r.top.func b is r.top.end

  abbrev pub course_in : PlacedRunning → World → ℕ → List ℕ → Course
  course_in r u b returns = record { function = r.top.func; stop = g.layout.stops r.top.func b; trace = u.trace; returns = returns }

  -- what an instruction came to that gave a place a value
  pub record Outcome (e : Bool) (r : PlacedRunning) (n m b : ℕ) (returns : List ℕ) (is : List (Instr Place (List ℕ))) (d : Place) (w : ℕ) (u : World) : Type 0 where
    pub at : At g (course_in r u b returns) m (body r b is)
    pub keeps : Keeps g e n m r.top.func d
    pub located : IsLocated (frame g r.top.func) (view_of (state g m)) d w
    pub exchanges : Exchanges g.layout (run_of g) u m

  -- where it changed registers and frames alone
  pub outcome : (r : PlacedRunning) (n m b : ℕ) (returns : List ℕ) (is : List (Instr Place (List ℕ))) (d : Place) (w : ℕ) → Exchanges g.layout (run_of g) r.world n → Gave g (course_in r r.world b returns) n m r.top.func d w (body r b is) → Outcome false r n m b returns is d w r.world
  outcome r n m b returns is d w x a =
      record {
        at = a.at;
        keeps = record { registers = λ q s spare o. a.registers q s o; reads = a.reads };
        located = a.located;
        exchanges = record { input = a.input ∙ x.input; bytes = x.bytes; output = a.output ∙ x.output };
      }

  -- the places' run and the machine go on behind it
  pub give : (called : Bool) (r : PlacedRunning) (n : ℕ) (i : Plain Place) (is : List (Instr Place (List ℕ))) (d : Place) (x : Value) (u : World) (h : Going_at r n) → r.top.code ≡ Do i ∷ is → dest i ≡ Some d → code g x < 2 ^ 32 → u.objects ≡ r.world.objects
      → ((P : ℕ → Type 0) → IsThere g r.top.func d → ((m : ℕ) → Outcome called r n m h.block h.returns is d (code g x) u → Later P m) → Later P n)
      → ((q : ℕ) (y : Value) → read_place r.top.store (InRegister q) ≡ Some y → Spared called (machine_register q))
      → (w : Option File) → write_place r.top.store d x ≡ w → Later (Runs (goes_on r is u w)) n
  give called r n i is d x u h code_is to small objects piece spared None e = now (Runs (goes_on r is u None)) n tt
  give called r n i is d x u h code_is to small objects piece spared (Some file) e =
      let inside = subst (λ c. IsIn g.layout.program r.top.func h.block c r.top.end) code_is h.inside in
      piece (Runs (goes_on r is u (Some file))) (operands_there file e)
      (λ m o. now (Runs (goes_on r is u (Some file))) m
      (record {
        block = h.block;
        inside = in_rest g.layout.program r.top.func h.block (Do i) is r.top.end inside;
        returns = h.returns;
        holds =
            holds_kept g called r n m d x file is u h.returns h.inside.there e small o.keeps o.located objects
            (λ q same. writes_known g.layout.program r.top.func h.block (Do i) is r.top.end q inside (subst (λ t. Contains (registers_among (option_to_list t)) q) (sym (to ∙ ap Some same)) (0, omega arith, refl)))
            spared h.holds;
        exchanges = o.exchanges;
        at = o.at;
      }))
    where
      operands_there : (file : File) → write_place r.top.store d x ≡ Some file → IsThere g r.top.func d
      operands_there file e = written_there g r.top.func r.top.store file d x h.holds.room e

  pub operand-small : (f : ℕ) (file : File) (x : Operand Place) (v : Value) → HasRoom g.layout.memory (frame g f) file → operand_value places file x ≡ Some v → code g v < 2 ^ 32
  operand-small f file (Register p) v room e = room.words p v e
  operand-small f file (Constant c) v room e = subst (λ z. code g z < 2 ^ 32) (operands.some_word (c % 2 ^ 32) v e) (omega arith)

  -- where the environment was called
  abbrev pub going_on : (b : Bool) (r : PlacedRunning) (n : ℕ) → Going_at r n → Going_at (forgotten g b r) n
  going_on b r n h = record { block = h.block; inside = h.inside; returns = h.returns; holds = forgets g b r n h.returns h.holds; exchanges = h.exchanges; at = h.at }

  -- the code of the first instruction that is left
  pub code_at : (r : PlacedRunning) (n : ℕ) (i : Instr Place (List ℕ)) (is : List (Instr Place (List ℕ))) (h : Going_at r n) → r.top.code ≡ i ∷ is → At g (course_in r r.world h.block h.returns) n (body r h.block (i ∷ is))
  code_at r n i is h e = subst (λ c. At g (course_in r r.world h.block h.returns) n (body r h.block c)) e h.at

  pub set_follows : (r : PlacedRunning) (n : ℕ) (is : List (Instr Place (List ℕ))) (d : Place) (x : Operand Place) (h : Going_at r n) → r.top.code ≡ Do (Set d x) ∷ is → (o : Option Value) → operand_value places r.top.store x ≡ o
      → Later (Runs (finish places r is (Some d) (there (values_cons o (Some [])) (λ xs. with_one xs (gives r.world))))) n
  set_follows r n is d x h code_is None e = now (Runs (finish places r is (Some d) None)) n tt
  set_follows r n is d x h code_is (Some v) e =
      give false r n (Set d x) is d v r.world h code_is refl (operand-small r.top.func r.top.store x v h.holds.room e) refl
      (λ P inside go. set_lays g (course_in r r.world h.block h.returns) P n r.top.func r.top.store (body r h.block is) d x v (ready_of r n h) e inside (operand-small r.top.func r.top.store x v h.holds.room e) (code_at r n (Do (Set d x)) is h code_is)
      (λ m a. go m (outcome r n m h.block h.returns is d (code g v) h.exchanges a)))
      (λ q y z e s. cc) (write_place r.top.store d v) refl

  pub operate_follows : (r : PlacedRunning) (n : ℕ) (is : List (Instr Place (List ℕ))) (operator : Alu) (d : Place) (x y : Operand Place) (h : Going_at r n) → r.top.code ≡ Do (Operate operator d x y) ∷ is
      → (o p : Option Value) → operand_value places r.top.store x ≡ o → operand_value places r.top.store y ≡ p
      → Later (Runs (finish places r is (Some d) (there (values_cons o (values_cons p (Some []))) (λ xs. with_next xs (λ a rest. with_one rest (λ b. word a (λ m. word b (λ k. gives r.world (Word (alu_value operator m k)))))))))) n
  operate_follows r n is operator d x y h code_is None p e1 e2 = now (Runs (finish places r is (Some d) None)) n tt
  operate_follows r n is operator d x y h code_is (Some a) None e1 e2 = now (Runs (finish places r is (Some d) None)) n tt
  operate_follows r n is operator d x y h code_is (Some (Pointer o q)) (Some b) e1 e2 = now (Runs (finish places r is (Some d) None)) n tt
  operate_follows r n is operator d x y h code_is (Some (Word a)) (Some (Pointer o q)) e1 e2 = now (Runs (finish places r is (Some d) None)) n tt
  operate_follows r n is operator d x y h code_is (Some (Word a)) (Some (Word b)) e1 e2 =
      let small = alu-small operator a b (operand-small r.top.func r.top.store x (Word a) h.holds.room e1) (operand-small r.top.func r.top.store y (Word b) h.holds.room e2) in
      give false r n (Operate operator d x y) is d (Word (alu_value operator a b)) r.world h code_is refl small refl
      (λ P inside go. operate_lays g (course_in r r.world h.block h.returns) P n r.top.func r.top.store (body r h.block is) operator d x y a b (ready_of r n h) e1 e2 inside small (code_at r n (Do (Operate operator d x y)) is h code_is)
      (λ m z. go m (outcome r n m h.block h.returns is d (alu_value operator a b) h.exchanges z)))
      (λ q y z e s. cc) (write_place r.top.store d (Word (alu_value operator a b))) refl

  pub get_follows : (r : PlacedRunning) (n : ℕ) (is : List (Instr Place (List ℕ))) (d : Place) (h : Going_at r n) → r.top.code ≡ Do (Get d) ∷ is
      → Later (Runs (goes_on (forgotten g true r) is (got r.world) (write_place (unset_if true r.top.store) d (Word (next_byte r.world.input))))) n
  get_follows r n is d before code_is =
      let h = going_on true r n before in
      let f = r.top.func in
      let u = got r.world in
      let w = next_byte r.world.input in
      let small = byte-small r.world.input h.exchanges.bytes in
      give true (forgotten g true r) n (Get d) is d (Word w) u h code_is refl small refl
      (λ P inside go. take_lays g (course_in r r.world h.block h.returns) P n (singles (put_code (frame g f) result d) ++ body r h.block is) (code_at (forgotten g true r) n (Do (Get d)) is h code_is)
      (λ m t. operands.put g (course_in r r.world h.block h.returns) P m f result w (body r h.block is) d (λ z. omega (arith, z)) h.inside.there inside small (t.others base (λ z. omega (arith, z)) (λ z. omega (arith, z)) ∙ h.holds.based)
      (t.value ∙ ap machine.input_value h.exchanges.input ∙ input_is r.world.input) t.at
      (λ j a. go j
      (record {
        at = a.at;
        keeps =
            record {
              registers = λ q s spare o. a.registers q s o ∙ t.others q (spare refl) s.seventeen;
              reads = λ y b o. a.reads y b o ∙ ap (λ (z : machine.World). read_from (λ c. c.read) y z.memory b) t.world_is;
            };
        located = a.located;
        exchanges =
            record {
              input = a.input ∙ ap (λ (z : machine.World). z.input) t.world_is ∙ ap (drop 1) h.exchanges.input ∙ left_is r.world.input;
              bytes = left_bytes r.world.input h.exchanges.bytes;
              output = a.output ∙ ap (λ (z : machine.World). z.output) t.world_is ∙ h.exchanges.output;
            };
      }))))
      (λ q y z. place_spared true q (unset_read true r.top.store (InRegister q) y z).1) (write_place (unset_if true r.top.store) d (Word w)) refl
