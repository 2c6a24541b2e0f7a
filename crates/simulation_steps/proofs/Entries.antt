-- A function is entered and left.
use Rattle.std.proofs.Common.{◌≡◌, ◌≢◌, ◌⊎◌, ⊎_elim, inl, inr, ℕ, zero, suc, ◌+◌, ◌*◌, ◌%◌, ◌^◌, ◌<◌, ◌≤◌, Bool, true, false, List, [], ◌∷◌, ◌++◌, length, Some, refl, sym, ap, ◌∙◌, subst, arith}
use Rattle.std.specs.Prelude.{◌==◌, if◌then◌else◌}
use Rattle.std.proofs.lemmas.Bool.{and_parts}
use Rattle.std.proofs.lemmas.Bool.Decides.{nat_tests}
use Rattle.rv_core.specs.declared.op.Op.TheVariants.{Sw}
use Rattle.rv_core.specs.declared.row.Width.{Width}
use Rattle.rv_core.specs.declared.row.Width.TheVariants.{Word as Whole}
use Rattle.rv_core.specs.Arithmetic.{displaced, byte_count}
use Rattle.rv_core.specs.Memory.{read_from}
use Rattle.rv_core.specs.Machine.{World}
use Rattle.asm_items.specs.declared.item.Item.TheVariants as items
use Rattle.rv_steps.specs.Steps.{Later}
use Rattle.low_ir.specs.declared.run.Began.{Began}
use Rattle.low_ir.specs.Effects.{is_member}
use Rattle.asm_program.specs.Numbers.{base, base_address, link, first_free, machine_register}
use Rattle.asm_program.specs.Frames.{return_at, saved_at}
use Rattle.asm_program.specs.Functions.{is_frame_near, frame_code, frame_register, frame_offset, link_store, link_load, saves, loads, saves_nothing, entry_code, exit_code}
use Rattle.claims_definition.specs.Touches.{OfFrame}
use Rattle.simulation_relation.specs.Noted.{Noted, noted, singles}
use Rattle.simulation_relation.specs.Plans.{frame_size}
use Rattle.simulation_relation.specs.Positions.{Course}
use Rattle.simulation_relation.specs.Views.{view_of}
use Rattle.simulation_relation.specs.Waiting.{IsLinked}
use Rattle.simulation_steps.proofs.Given.{Given, state, reg, read, At}
use Rattle.simulation_steps.proofs.Places.{value_is, steady_is, IsFrameWord, frame_word, lasts}
use Rattle.simulation_steps.proofs.Moving.{load_one, store_any}
use Rattle.simulation_steps.proofs.Operands.{frame, in_parts}
use Rattle.simulation_steps.proofs.Saved.{Reached, frame_runs, Saved, saves_run, loads_run}
use Rattle.simulation_steps.proofs.Standing.{Stood}
use Rattle.simulation_steps.proofs.Calls.{return_lays}

is_zero : (n : ℕ) → (n == 0) ≡ true → n ≡ 0
is_zero n e = grind (arith, nat_tests)

no_member : (xs : List ℕ) (q : ℕ) → length xs ≡ 0 → is_member xs q ≡ true → ⊥
no_member [] q e m = cc
no_member (x ∷ xs) q e m = omega (arith, e)

module _ (g : Given) where
  -- the first word of a frame
  return_word_of : (f : ℕ) → f < length g.layout.program.functions → IsFrameWord g.image (frame g f) (return_at (frame g f))
  return_word_of f there = subst (λ a. IsFrameWord g.image (frame g f) a) (let e : (frame g f).at + 4 * 0 ≡ (frame g f).at = omega arith in e) (frame_word g.layout g.image g.laid f 0 there (omega arith))

  -- the machine has left a function
  pub record Left (n m f to : ℕ) (trace : List Began) (returns : List ℕ) : Type 0 where
    pub stood : Stood g m to trace returns
    pub world : (state g m).world ≡ (state g n).world
    pub loads : (q w : ℕ) → is_member (frame g f).saved q ≡ true → read g n Whole (saved_at (frame g f) q) ≡ Some w → reg g m (machine_register q) ≡ w
    pub others : (r : ℕ) → r ≢ link → r ≢ first_free → ((q : ℕ) → is_member (frame g f).saved q ≡ true → r ≢ machine_register q) → reg g m r ≡ reg g n r

  -- the return address is in x1
  record Linked (k : Course) (n m f : ℕ) (near : Bool) (to : ℕ) (xs : List Noted) : Type 0 where
    at : At g k m xs
    world : (state g m).world ≡ (state g n).world
    value : reg g m link ≡ to
    others : (r : ℕ) → r ≢ link → reg g m r ≡ reg g n r

  link_runs : (k : Course) (P : ℕ → Type 0) (n f to : ℕ) (near leaf : Bool) (xs : List Noted) → f < length g.layout.program.functions → Reached g n f near → IsLinked leaf (frame g f) (view_of (state g n)) to
      → At g k n (singles (link_load near (frame g f) leaf) ++ xs) → ((m : ℕ) → Linked k n m f near to xs → Later P m) → Later P n
  link_runs k P n f to near true xs there reached linked h go = go n (record { at = h; world = refl; value = linked; others = λ r o. refl })
  link_runs k P n f to near false xs there reached linked h go =
      let word = return_word_of f there in
      load_one g k P n xs link (frame_register near) (frame_offset near (frame g f) (return_at (frame g f))) (return_at (frame g f)) to (omega arith) (omega arith) (reached (return_at (frame g f)) word.from word.small) word.aligned word.ram linked h
      (λ m a. go m (record { at = a.at; world = a.world; value = a.value; others = a.others }))

  frame_apart_link : (near : Bool) → frame_register near ≢ link
  frame_apart_link true e = omega (arith, e)
  frame_apart_link false e = omega (arith, e)

  leaves_by : (k : Course) (P : ℕ → Type 0) (n f to : ℕ) (leaf nothing near : Bool) (returns : List ℕ) → f < length g.layout.program.functions → reg g n base ≡ base_address → k.returns ≡ to ∷ returns → IsLinked leaf (frame g f) (view_of (state g n)) to → to ≤ 2 ^ 30 → to % 2 ≡ 0
      → saves_nothing leaf (frame g f) ≡ nothing
      → At g k n (singles (if nothing then [] else (frame_code near (frame g f) ++ (link_load near (frame g f) leaf ++ loads near (frame g f) (frame g f).saved))) ++ noted items.Return ∷ []) → ((m : ℕ) → Left n m f to k.trace returns → Later P m) → Later P n
  leaves_by k P n f to leaf true near returns there based places linked small even none h go =
      let parts = and_parts leaf (length (frame g f).saved == 0) none in
      let empty = is_zero (length (frame g f).saved) parts.1 in
      return_lays g k P n to returns [] h places (subst (λ b. IsLinked b (frame g f) (view_of (state g n)) to) parts.0 linked) small even
      (λ m a. go m
      (record {
        stood = a.stood;
        world = a.world;
        loads = λ q w e found. absurd (no_member (frame g f).saved q empty e);
        others = λ r o p s. a.registers r;
      }))
  leaves_by k P n f to leaf false near returns there based places linked small even none h go =
      let fr = frame g f in
      let placed = g.laid.plan.frames f there in
      let top : fr.at + frame_size fr ≤ 0x2020_0000 = placed.in_ram.to in
      let last = noted items.Return ∷ [] in
      let second = link_load near fr leaf ++ loads near fr fr.saved in
      frame_runs g k P n f near (singles second ++ last) (omega arith) based (in_parts g k n (frame_code near fr) second last h)
      (λ m a.
      let still : IsLinked leaf fr (view_of (state g m)) to = kept leaf m a.world (a.registers link (λ e. omega (arith, e))) linked in
      link_runs k P m f to near leaf (singles (loads near fr fr.saved) ++ last) there a.reached still (in_parts g k m (link_load near fr leaf) (loads near fr fr.saved) last a.at)
      (λ j b.
      loads_run g k P j f near fr.saved last there (λ x low less. ap (λ y. displaced y (frame_offset near fr x)) (b.others (frame_register near) (frame_apart_link near)) ∙ a.reached x low less) (λ q e. (e, lasts q (placed.saved q e))) b.at
      (λ i c. return_lays g k P i to returns [] c.at places (c.others link (λ q e z. (value_is q (lasts q (placed.saved q e))).link_not (sym z)) ∙ b.value) small even
      (λ t z. go t
      (record {
        stood = z.stood;
        world = z.world ∙ c.world ∙ b.world ∙ a.world;
        loads = λ q w e found. z.registers (machine_register q) ∙ c.loads q w (ap (λ (x : World). read_from (λ d. d.read) Whole x.memory (saved_at fr q)) (b.world ∙ a.world) ∙ found) (inl e);
        others = λ r o p s. z.registers r ∙ c.others r s ∙ b.others r o ∙ a.registers r p;
      })))))
    where
      kept : (leaf : Bool) (m : ℕ) → (state g m).world ≡ (state g n).world → reg g m link ≡ reg g n link → IsLinked leaf (frame g f) (view_of (state g n)) to → IsLinked leaf (frame g f) (view_of (state g m)) to
      kept true m world same e = same ∙ e
      kept false m world same e = ap (λ (x : World). read_from (λ d. d.read) Whole x.memory (return_at (frame g f))) world ∙ e

  -- a function leaves to where it was called from
  pub leaves : (k : Course) (P : ℕ → Type 0) (n f to : ℕ) (leaf : Bool) (returns : List ℕ) → f < length g.layout.program.functions → reg g n base ≡ base_address → k.returns ≡ to ∷ returns → IsLinked leaf (frame g f) (view_of (state g n)) to → to ≤ 2 ^ 30 → to % 2 ≡ 0
      → At g k n (singles (exit_code leaf (frame g f)) ++ noted items.Return ∷ []) → ((m : ℕ) → Left n m f to k.trace returns → Later P m) → Later P n
  leaves k P n f to leaf returns there based places linked small even h go = leaves_by k P n f to leaf (saves_nothing leaf (frame g f)) (is_frame_near (frame g f)) returns there based places linked small even refl h go

  -- the machine has entered a function
  pub record Opened (k : Course) (n m f to : ℕ) (leaf : Bool) (xs : List Noted) : Type 0 where
    pub at : At g k m xs
    pub input : (state g m).world.input ≡ (state g n).world.input
    pub output : (state g m).world.output ≡ (state g n).world.output
    pub registers : (r : ℕ) → r ≢ first_free → reg g m r ≡ reg g n r
    pub linked : IsLinked leaf (frame g f) (view_of (state g m)) to
    pub words : (q : ℕ) → is_member (frame g f).saved q ≡ true → read g m Whole (saved_at (frame g f) q) ≡ Some (reg g n (machine_register q) % 2 ^ 32)
    pub beside : (y : Width) (a : ℕ) → (a + byte_count y ≤ (frame g f).at) ⊎ ((frame g f).at + 4 * (1 + length (frame g f).saved) ≤ a) → read g m y a ≡ read g n y a

  -- the return address is saved
  record Kept (k : Course) (n m f to : ℕ) (leaf : Bool) (xs : List Noted) : Type 0 where
    at : At g k m xs
    input : (state g m).world.input ≡ (state g n).world.input
    output : (state g m).world.output ≡ (state g n).world.output
    registers : (r : ℕ) → r ≢ 0 → reg g m r ≡ reg g n r
    linked : IsLinked leaf (frame g f) (view_of (state g m)) to
    beside : (y : Width) (a : ℕ) → (a + byte_count y ≤ (frame g f).at) ⊎ ((frame g f).at + 4 ≤ a) → read g m y a ≡ read g n y a

  keeps_link : (k : Course) (P : ℕ → Type 0) (n f to : ℕ) (near leaf : Bool) (xs : List Noted) → f < length g.layout.program.functions → Reached g n f near → reg g n link ≡ to → to < 2 ^ 32
      → At g k n (singles (link_store near (frame g f) leaf) ++ xs) → ((m : ℕ) → Kept k n m f to leaf xs → Later P m) → Later P n
  keeps_link k P n f to near true xs there reached is small h go = go n (record { at = h; input = refl; output = refl; registers = λ r o. refl; linked = is; beside = λ y a o. refl })
  keeps_link k P n f to near false xs there reached is small h go =
      let word = return_word_of f there in
      store_any g k P n 0 xs OfFrame Sw Whole (frame_register near) link (frame_offset near (frame g f) (return_at (frame g f))) (return_at (frame g f)) to refl (reached (return_at (frame g f)) word.from word.small) word.aligned word.ram is word.opens h
      (λ m a. go m
      (record {
        at = a.at;
        input = a.input;
        output = a.output;
        registers = a.registers;
        linked = let whole : to % 2 ^ 32 ≡ to = omega arith in a.same ∙ ap Some whole;
        beside = λ y b o. a.beside y b o;
      }))

  opens_by : (k : Course) (P : ℕ → Type 0) (n f to : ℕ) (leaf nothing near : Bool) (xs : List Noted) → f < length g.layout.program.functions → reg g n base ≡ base_address → reg g n link ≡ to → to < 2 ^ 32 → saves_nothing leaf (frame g f) ≡ nothing
      → At g k n (singles (if nothing then [] else (frame_code near (frame g f) ++ (link_store near (frame g f) leaf ++ saves near (frame g f) (frame g f).saved))) ++ xs) → ((m : ℕ) → Opened k n m f to leaf xs → Later P m) → Later P n
  opens_by k P n f to leaf true near xs there based is small none h go =
      let parts = and_parts leaf (length (frame g f).saved == 0) none in
      let empty = is_zero (length (frame g f).saved) parts.1 in
      go n
      (record {
        at = h;
        input = refl;
        output = refl;
        registers = λ r o. refl;
        linked = subst (λ b. IsLinked b (frame g f) (view_of (state g n)) to) (sym parts.0) is;
        words = λ q e. absurd (no_member (frame g f).saved q empty e);
        beside = λ y a o. refl;
      })
  opens_by k P n f to leaf false near xs there based is small none h go =
      let fr = frame g f in
      let placed = g.laid.plan.frames f there in
      let top : fr.at + frame_size fr ≤ 0x2020_0000 = placed.in_ram.to in
      let second = link_store near fr leaf ++ saves near fr fr.saved in
      frame_runs g k P n f near (singles second ++ xs) (omega arith) based (in_parts g k n (frame_code near fr) second xs h)
      (λ m a. keeps_link k P m f to near leaf (singles (saves near fr fr.saved) ++ xs) there a.reached (a.registers link (λ e. omega (arith, e)) ∙ is) small (in_parts g k m (link_store near fr leaf) (saves near fr fr.saved) xs a.at)
      (λ j b. saves_run g k P j f near fr.saved xs there (λ x low less. ap (λ y. displaced y (frame_offset near fr x)) (b.registers (frame_register near) (frame_some near)) ∙ a.reached x low less) (λ q e. e) b.at
      (λ i c. go i
      (record {
        at = c.at;
        input = c.input ∙ b.input ∙ ap (λ (x : World). x.input) a.world;
        output = c.output ∙ b.output ∙ ap (λ (x : World). x.output) a.world;
        registers = λ r o. c.registers r ∙ back_to_zero b r ∙ a.registers r o;
        linked = still leaf j i c b.linked;
        words = λ q e. c.words q e (inl e) ∙ ap (λ w. Some (w % 2 ^ 32)) (back_to_zero b (machine_register q) ∙ a.registers (machine_register q) (steady_is q).five);
        beside = λ y x o.
            c.beside y x (⊎_elim (λ (low : x + byte_count y ≤ fr.at). inl (omega arith)) (λ (high : fr.at + 4 * (1 + length fr.saved) ≤ x). inr high) o)
            ∙ b.beside y x (⊎_elim (λ (low : x + byte_count y ≤ fr.at). inl low) (λ (high : fr.at + 4 * (1 + length fr.saved) ≤ x). inr (omega arith)) o)
            ∙ ap (λ (z : World). read_from (λ d. d.read) y z.memory x) a.world;
      }))))
    where
      frame_some : (near : Bool) → frame_register near ≢ 0
      frame_some true e = omega (arith, e)
      frame_some false e = omega (arith, e)

      back_to_zero : {m j : ℕ} {ys : List Noted} → Kept k m j f to leaf ys → (r : ℕ) → reg g j r ≡ reg g m r
      back_to_zero s zero = refl
      back_to_zero s (suc r) = s.registers (suc r) (λ e. omega (arith, e))

      still : (leaf : Bool) (j i : ℕ) → Saved g k j i f (frame g f).saved xs → IsLinked leaf (frame g f) (view_of (state g j)) to → IsLinked leaf (frame g f) (view_of (state g i)) to
      still true j i c e = c.registers link ∙ e
      still false j i c e = c.beside Whole (return_at (frame g f)) (inl (omega arith)) ∙ e

  -- a function is entered with its return address in x1
  pub opens : (k : Course) (P : ℕ → Type 0) (n f to : ℕ) (leaf : Bool) (xs : List Noted) → f < length g.layout.program.functions → reg g n base ≡ base_address → reg g n link ≡ to → to < 2 ^ 32
      → At g k n (singles (entry_code leaf (frame g f)) ++ xs) → ((m : ℕ) → Opened k n m f to leaf xs → Later P m) → Later P n
  opens k P n f to leaf xs there based is small h go = opens_by k P n f to leaf (saves_nothing leaf (frame g f)) (is_frame_near (frame g f)) xs there based is small refl h go
