-- A function saves registers at its entry, and loads them before it returns.
use Rattle.std.proofs.Common.{◌≡◌, ◌≢◌, ◌⊎◌, ⊎_elim, inl, inr, ℕ, zero, suc, ◌+◌, ◌-◌, ◌*◌, ◌%◌, ◌^◌, ◌<◌, ◌≤◌, Bool, true, false, List, [], ◌∷◌, ◌++◌, length, Some, pos, ◌-ℤ◌, refl, sym, ap, ◌∙◌, subst, arith}
use Rattle.std.proofs.lemmas.Bool.{cases_eq}
use Rattle.rv_core.specs.declared.op.Op.TheVariants.{Sw}
use Rattle.rv_core.specs.declared.row.Width.{Width}
use Rattle.rv_core.specs.declared.row.Width.TheVariants.{Word as Whole}
use Rattle.rv_core.specs.Arithmetic.{word, displaced, byte_count}
use Rattle.rv_core.specs.Instructions.{addi}
use Rattle.rv_core.specs.Memory.{read_from}
use Rattle.rv_core.specs.Machine.{World}
use Rattle.rv_steps.specs.Steps.{Later}
use Rattle.low_ir.specs.Effects.{is_member}
use Rattle.asm_program.specs.Numbers.{base, base_address, first_free, machine_register, lower_of}
use Rattle.asm_program.specs.Frames.{position, saved_at}
use Rattle.asm_program.specs.Functions.{frame_code, frame_register, frame_offset, saves, loads}
use Rattle.claims_definition.specs.Touches.{OfFrame}
use Rattle.simulation_relation.specs.Noted.{Noted, single, singles}
use Rattle.simulation_relation.specs.Layouts.{AreOpen}
use Rattle.simulation_relation.specs.Positions.{Course}
use Rattle.simulation_steps.proofs.Given.{Given, state, reg, read, memory, At}
use Rattle.simulation_steps.proofs.Words.{parts-joined, near-joined}
use Rattle.simulation_steps.proofs.Opened.{can_read}
use Rattle.simulation_steps.proofs.Places.{value_is, steady_is, machine_register-same, IsFrameWord, frame_word}
use Rattle.simulation_steps.proofs.Moving.{Stored, frames_are, add_immediate, upper, load_one, store_any}
use Rattle.simulation_steps.proofs.Operands.{frame}
use Rattle.simulation_steps.proofs.Apart.{position-below}
use Rattle.simulation_steps.proofs.Holding.{strict}
use Rattle.simulation_steps.proofs.Homes.{member_head, member_tail, member_cases, position-same}
use Rattle.low_ir.specs.Places.{result_register}

-- an offset from the frame's own address
offset-joined : (at a : ℕ) → at ≤ a → a < 2 ^ 32 → displaced at (pos (a - at)) ≡ a
offset-joined at a low small = omega arith

module _ (g : Given) where
  -- the words of a frame are reached by a register
  abbrev pub Reached : ℕ → ℕ → Bool → Type 0
  Reached n f near = (a : ℕ) → (frame g f).at ≤ a → a < 2 ^ 32 → displaced (reg g n (frame_register near)) (frame_offset near (frame g f) a) ≡ a

  pub record Framed (k : Course) (n m f : ℕ) (near : Bool) (xs : List Noted) : Type 0 where
    pub at : At g k m xs
    pub world : (state g m).world ≡ (state g n).world
    pub registers : (r : ℕ) → r ≢ first_free → reg g m r ≡ reg g n r
    pub reached : Reached m f near

  pub frame_runs : (k : Course) (P : ℕ → Type 0) (n f : ℕ) (near : Bool) (xs : List Noted) → (frame g f).at < 2 ^ 32 → reg g n base ≡ base_address → At g k n (singles (frame_code near (frame g f)) ++ xs) → ((m : ℕ) → Framed k n m f near xs → Later P m) → Later P n
  frame_runs k P n f true xs small based h go =
      go n (record { at = h; world = refl; registers = λ r o. refl; reached = λ a low less. ap (λ x. displaced x (pos a -ℤ pos base_address)) based ∙ near-joined a less })
  frame_runs k P n f false xs small based h go =
      let at = (frame g f).at in
      let last = single (addi first_free first_free (lower_of at)) ∷ xs in
      upper g k P n last first_free at (omega arith) (omega arith) h
      (λ m a. add_immediate g k P m xs first_free first_free (lower_of at) (omega arith) (omega arith) a.at
      (λ j b.
      let value : reg g j first_free ≡ at = b.value ∙ ap (λ x. (x + word (lower_of at)) % 2 ^ 32) a.value ∙ parts-joined at small in
      go j
      (record {
        at = b.at;
        world = b.world ∙ a.world;
        registers = λ r o. b.others r o ∙ a.others r o;
        reached = λ x low less. ap (λ y. displaced y (pos (x - at))) value ∙ offset-joined at x low less;
      })))

  pub saved_word : (f q : ℕ) → f < length g.layout.program.functions → is_member (frame g f).saved q ≡ true → IsFrameWord g.image (frame g f) (saved_at (frame g f) q)
  saved_word f q there e =
      let less = position-below (frame g f).saved q e in
      frame_word g.layout g.image g.laid f (1 + position (frame g f).saved q) there (omega arith)

  saved_apart : (f q p : ℕ) → is_member (frame g f).saved q ≡ true → is_member (frame g f).saved p ≡ true → q ≢ p → (saved_at (frame g f) q + 4 ≤ saved_at (frame g f) p) ⊎ (saved_at (frame g f) p + 4 ≤ saved_at (frame g f) q)
  saved_apart f q p a b other = apart_by (position (frame g f).saved q) (position (frame g f).saved p) (λ e. other (position-same (frame g f).saved q p a b e))
    where
      apart_by : (i j : ℕ) → i ≢ j → ((frame g f).at + 4 * (1 + i) + 4 ≤ (frame g f).at + 4 * (1 + j)) ⊎ ((frame g f).at + 4 * (1 + j) + 4 ≤ (frame g f).at + 4 * (1 + i))
      apart_by i j n = ⊎_elim (λ (h : i < j). inl (omega arith)) (λ (h : j < i). inr (omega arith)) (strict i j n)

  -- bytes that are no word of a saved register
  abbrev pub NotSaved : ℕ → ℕ → ℕ → Type 0
  NotSaved f a n = (a + n ≤ (frame g f).at + 4) ⊎ ((frame g f).at + 4 * (1 + length (frame g f).saved) ≤ a)

  -- registers were saved
  pub record Saved (k : Course) (n m f : ℕ) (qs : List ℕ) (xs : List Noted) : Type 0 where
    pub at : At g k m xs
    pub registers : (r : ℕ) → reg g m r ≡ reg g n r
    pub input : (state g m).world.input ≡ (state g n).world.input
    pub output : (state g m).world.output ≡ (state g n).world.output
    pub words : (q : ℕ) → is_member (frame g f).saved q ≡ true → (is_member qs q ≡ true) ⊎ (read g n Whole (saved_at (frame g f) q) ≡ Some (reg g n (machine_register q) % 2 ^ 32)) → read g m Whole (saved_at (frame g f) q) ≡ Some (reg g n (machine_register q) % 2 ^ 32)
    pub beside : (y : Width) (a : ℕ) → NotSaved f a (byte_count y) → read g m y a ≡ read g n y a

  pub saves_run : (k : Course) (P : ℕ → Type 0) (n f : ℕ) (near : Bool) (qs : List ℕ) (xs : List Noted) → f < length g.layout.program.functions → Reached n f near → ((q : ℕ) → is_member qs q ≡ true → is_member (frame g f).saved q ≡ true)
      → At g k n (singles (saves near (frame g f) qs) ++ xs) → ((m : ℕ) → Saved k n m f qs xs → Later P m) → Later P n
  saves_run k P n f near [] xs there reached inside h go =
      go n
      (record {
        at = h;
        registers = λ r. refl;
        input = refl;
        output = refl;
        words = λ q e z. ⊎_elim (λ (a : is_member [] q ≡ true). absurd cc) (λ (b : read g n Whole (saved_at (frame g f) q) ≡ Some (reg g n (machine_register q) % 2 ^ 32)). b) z;
        beside = λ y a o. refl;
      })
  saves_run k P n f near (q ∷ qs) xs there reached inside h go =
      let fr = frame g f in
      let member = inside q (member_head q qs) in
      let word = saved_word f q there member in
      let below = position-below fr.saved q member in
      let rest = saves near fr qs in
      store_any g k P n 0 (singles rest ++ xs) OfFrame Sw Whole (frame_register near) (machine_register q) (frame_offset near fr (saved_at fr q)) (saved_at fr q) (reg g n (machine_register q)) refl (reached (saved_at fr q) word.from word.small) word.aligned word.ram refl word.opens h
      (λ m a.
      let same : (r : ℕ) → reg g m r ≡ reg g n r = same_registers a in
      saves_run k P m f near qs xs there (λ x low less. ap (λ y. displaced y (frame_offset near fr x)) (same (frame_register near)) ∙ reached x low less) (λ p e. inside p (member_tail q p qs e)) a.at
      (λ j b. go j
      (record {
        at = b.at;
        registers = λ r. b.registers r ∙ same r;
        input = b.input ∙ a.input;
        output = b.output ∙ a.output;
        words = λ p e z.
            let value = ap (λ w. Some (w % 2 ^ 32)) (same (machine_register p)) in
            b.words p e
            (⊎_elim
            (λ (equal : q ≡ p). inr (ap (λ x. read g m Whole (saved_at fr x)) (sym equal) ∙ a.same ∙ ap (λ x. Some (reg g n (machine_register x) % 2 ^ 32)) equal ∙ sym value))
            (λ (other : q ≢ p).
            ⊎_elim
            (λ (c : is_member (q ∷ qs) p ≡ true). ⊎_elim (λ (x : q ≡ p). absurd (other x)) (λ (x : is_member qs p ≡ true). inl x) (member_cases q p qs c))
            (λ (c : read g n Whole (saved_at fr p) ≡ Some (reg g n (machine_register p) % 2 ^ 32)).
            inr (a.beside Whole (saved_at fr p) (saved_apart f p q e member (λ x. other (sym x))) ∙ c ∙ sym value))
            z)
            (cases_eq q p))
            ∙ value;
        beside = λ y c o. b.beside y c o ∙ a.beside y c (⊎_elim (λ (low : c + byte_count y ≤ fr.at + 4). inl (omega arith)) (λ (high : fr.at + 4 * (1 + length fr.saved) ≤ c). inr (omega arith)) o);
      })))
    where
      -- x0 is no register that a store could have written
      same_registers : {m : ℕ} {w : Width} {a v : ℕ} {ys : List Noted} → Stored g k n m 0 w a v ys → (r : ℕ) → reg g m r ≡ reg g n r
      same_registers s zero = refl
      same_registers s (suc r) = s.registers (suc r) (λ e. omega (arith, e))

  -- registers were loaded
  pub record Loaded (k : Course) (n m f : ℕ) (qs : List ℕ) (xs : List Noted) : Type 0 where
    pub at : At g k m xs
    pub world : (state g m).world ≡ (state g n).world
    pub loads : (q w : ℕ) → read g n Whole (saved_at (frame g f) q) ≡ Some w → (is_member qs q ≡ true) ⊎ (reg g n (machine_register q) ≡ w) → reg g m (machine_register q) ≡ w
    pub others : (r : ℕ) → ((q : ℕ) → is_member qs q ≡ true → r ≢ machine_register q) → reg g m r ≡ reg g n r

  free_frame : (near : Bool) (q : ℕ) → q ≤ result_register → frame_register near ≢ machine_register q
  free_frame true q less = λ e. (value_is q less).base_not (sym e)
  free_frame false q less = λ e. (steady_is q).five (sym e)

  pub loads_run : (k : Course) (P : ℕ → Type 0) (n f : ℕ) (near : Bool) (qs : List ℕ) (xs : List Noted) → f < length g.layout.program.functions → Reached n f near → ((q : ℕ) → is_member qs q ≡ true → (is_member (frame g f).saved q ≡ true) × (q ≤ result_register))
      → At g k n (singles (loads near (frame g f) qs) ++ xs) → ((m : ℕ) → Loaded k n m f qs xs → Later P m) → Later P n
  loads_run k P n f near [] xs there reached inside h go =
      go n (record { at = h; world = refl; loads = λ q w e z. ⊎_elim (λ (a : is_member [] q ≡ true). absurd cc) (λ (b : reg g n (machine_register q) ≡ w). b) z; others = λ r o. refl })
  loads_run k P n f near (q ∷ qs) xs there reached inside h go =
      let fr = frame g f in
      let member = inside q (member_head q qs) in
      let word = saved_word f q there member.0 in
      let value = value_is q member.1 in
      let rest = loads near fr qs in
      let found = can_read Whole (memory g n) (saved_at fr q) (subst (λ fs. AreOpen fs (saved_at fr q) 4) (sym (frames_are g n)) word.opens) in
      load_one g k P n (singles rest ++ xs) (machine_register q) (frame_register near) (frame_offset near fr (saved_at fr q)) (saved_at fr q) found.0 value.some value.less (reached (saved_at fr q) word.from word.small) word.aligned word.ram found.1 h
      (λ m a.
      let same_reads : (b : ℕ) → read g m Whole b ≡ read g n Whole b = λ b. ap (λ (x : World). read_from (λ c. c.read) Whole x.memory b) a.world in
      loads_run k P m f near qs xs there (λ x low less. ap (λ y. displaced y (frame_offset near fr x)) (a.others (frame_register near) (free_frame near q member.1)) ∙ reached x low less) (λ p e. inside p (member_tail q p qs e)) a.at
      (λ j b. go j
      (record {
        at = b.at;
        world = b.world ∙ a.world;
        loads = λ p w e z.
            b.loads p w (same_reads (saved_at fr p) ∙ e)
            (⊎_elim
            (λ (equal : q ≡ p).
            let both : Some found.0 ≡ Some w = sym found.1 ∙ ap (λ x. read g n Whole (saved_at fr x)) equal ∙ e in
            let is : found.0 ≡ w = cc in
            inr (ap (λ x. reg g m (machine_register x)) (sym equal) ∙ a.value ∙ is))
            (λ (other : q ≢ p).
            ⊎_elim
            (λ (c : is_member (q ∷ qs) p ≡ true). ⊎_elim (λ (x : q ≡ p). absurd (other x)) (λ (x : is_member qs p ≡ true). inl x) (member_cases q p qs c))
            (λ (c : reg g n (machine_register p) ≡ w). inr (a.others (machine_register p) (λ x. other (sym (machine_register-same p q x))) ∙ c))
            z)
            (cases_eq q p));
        others = λ r o. b.others r (λ p e. o p (member_tail q p qs e)) ∙ a.others r (o q (member_head q qs));
      })))
