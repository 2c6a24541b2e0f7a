-- Registers go to their homes in a frame, and come back.
use Rattle.std.proofs.Common.{◌≡◌, ◌≢◌, ◌⊎◌, ⊎_elim, inl, inr, ℕ, suc, ◌+◌, ◌*◌, ◌%◌, ◌^◌, ◌<◌, ◌≤◌, Bool, true, false, List, [], ◌∷◌, ◌++◌, length, Some, refl, sym, ap, ◌∙◌, subst, arith}
use Rattle.std.specs.Prelude.{◌==◌, if◌then◌else◌}
use Rattle.std.proofs.lemmas.Bool.{cases_eq}
use Rattle.std.proofs.lemmas.Bool.Decides.{nat_tests}
use Rattle.rv_core.specs.declared.row.Width.{Width}
use Rattle.rv_core.specs.declared.row.Width.TheVariants.{Word as Whole}
use Rattle.rv_core.specs.Arithmetic.{byte_count}
use Rattle.rv_core.specs.Memory.{read_from}
use Rattle.rv_core.specs.Machine.{World}
use Rattle.rv_steps.specs.Steps.{Later}
use Rattle.low_ir.specs.Effects.{is_member}
use Rattle.asm_program.specs.Numbers.{base, base_address, first_free, machine_register}
use Rattle.asm_program.specs.Frames.{position, home_at, slot_at}
use Rattle.asm_program.specs.Operands.{load_code, store_code}
use Rattle.asm_program.specs.Emission.{home_code, return_code}
use Rattle.simulation_relation.specs.Noted.{Noted, singles}
use Rattle.simulation_relation.specs.Layouts.{AreOpen}
use Rattle.simulation_relation.specs.Positions.{Course}
use Rattle.simulation_steps.proofs.Given.{Given, state, reg, read, memory, At}
use Rattle.simulation_steps.proofs.Opened.{can_read}
use Rattle.simulation_steps.proofs.Places.{value_is, steady_is, machine_register-same, IsFrameWord, frame_word}
use Rattle.simulation_steps.proofs.Moving.{frames_are, load, store}
use Rattle.simulation_steps.proofs.Operands.{frame, in_parts}
use Rattle.simulation_steps.proofs.Apart.{position-below}
use Rattle.simulation_steps.proofs.Holding.{strict}
use Rattle.low_ir.specs.Places.{result_register}

is_same : (a b : ℕ) → (a == b) ≡ true → a ≡ b
is_same a b e = grind (arith, nat_tests)

test_same : (a : ℕ) → (a == a) ≡ true
test_same a = grind (arith, nat_tests)

-- members of a list
pub member_head : (q : ℕ) (qs : List ℕ) → is_member (q ∷ qs) q ≡ true
member_head q qs = ap (λ b. if b then true else is_member qs q) (test_same q)

pub member_tail : (x q : ℕ) (qs : List ℕ) → is_member qs q ≡ true → is_member (x ∷ qs) q ≡ true
member_tail x q qs e = by_test (x == q)
  where
    by_test : (b : Bool) → (if b then true else is_member qs q) ≡ true
    by_test true = refl
    by_test false = e

pub member_cases : (x q : ℕ) (qs : List ℕ) → is_member (x ∷ qs) q ≡ true → (x ≡ q) ⊎ (is_member qs q ≡ true)
member_cases x q qs e = by_test (x == q) refl e
  where
    by_test : (b : Bool) → (x == q) ≡ b → (if b then true else is_member qs q) ≡ true → (x ≡ q) ⊎ (is_member qs q ≡ true)
    by_test true t h = inl (is_same x q t)
    by_test false t h = inr h

-- different members have different places
pub position-same : (xs : List ℕ) (q p : ℕ) → is_member xs q ≡ true → is_member xs p ≡ true → position xs q ≡ position xs p → q ≡ p
position-same [] q p a b e = cc
position-same (x ∷ xs) q p a b e = by_tests (x == q) (x == p) refl refl a b e (λ c d h. position-same xs q p c d h)
  where
    by_tests : (s t : Bool) → (x == q) ≡ s → (x == p) ≡ t → (if s then true else is_member xs q) ≡ true → (if t then true else is_member xs p) ≡ true → (if s then 0 else suc (position xs q)) ≡ (if t then 0 else suc (position xs p))
        → (is_member xs q ≡ true → is_member xs p ≡ true → position xs q ≡ position xs p → q ≡ p) → q ≡ p
    by_tests true true s t a b e go = sym (is_same x q s) ∙ is_same x p t
    by_tests true false s t a b e go = absurd (omega (arith, e))
    by_tests false true s t a b e go = absurd (omega (arith, e))
    by_tests false false s t a b e go = go a b (omega (arith, e))

module _ (g : Given) where
  -- a home is a word of its frame
  pub home_word : (f q : ℕ) → f < length g.layout.program.functions → is_member (frame g f).homes q ≡ true → IsFrameWord g.image (frame g f) (home_at (frame g f) q)
  home_word f q there e =
      let less = position-below (frame g f).homes q e in
      frame_word g.layout g.image g.laid f (1 + length (frame g f).saved + position (frame g f).homes q) there (omega arith)

  home_apart : (f q p : ℕ) → is_member (frame g f).homes q ≡ true → is_member (frame g f).homes p ≡ true → q ≢ p → (home_at (frame g f) q + 4 ≤ home_at (frame g f) p) ⊎ (home_at (frame g f) p + 4 ≤ home_at (frame g f) q)
  home_apart f q p a b other = apart_by (position (frame g f).homes q) (position (frame g f).homes p) (λ e. other (position-same (frame g f).homes q p a b e))
    where
      apart_by : (i j : ℕ) → i ≢ j → ((frame g f).at + 4 * (1 + length (frame g f).saved + i) + 4 ≤ (frame g f).at + 4 * (1 + length (frame g f).saved + j)) ⊎ ((frame g f).at + 4 * (1 + length (frame g f).saved + j) + 4 ≤ (frame g f).at + 4 * (1 + length (frame g f).saved + i))
      apart_by i j n = ⊎_elim (λ (h : i < j). inl (omega arith)) (λ (h : j < i). inr (omega arith)) (strict i j n)

  -- bytes that are no home
  abbrev pub NoHome : ℕ → ℕ → ℕ → Type 0
  NoHome f a n = (a + n ≤ (frame g f).at + 4 * (1 + length (frame g f).saved)) ⊎ (slot_at (frame g f) 0 ≤ a)

  -- registers have gone to their homes
  pub record Homed (k : Course) (n m f : ℕ) (qs : List ℕ) (xs : List Noted) : Type 0 where
    pub at : At g k m xs
    pub registers : (r : ℕ) → r ≢ first_free → reg g m r ≡ reg g n r
    pub input : (state g m).world.input ≡ (state g n).world.input
    pub output : (state g m).world.output ≡ (state g n).world.output
    pub homes : (q : ℕ) → is_member (frame g f).homes q ≡ true → (is_member qs q ≡ true) ⊎ (read g n Whole (home_at (frame g f) q) ≡ Some (reg g n (machine_register q) % 2 ^ 32)) → read g m Whole (home_at (frame g f) q) ≡ Some (reg g n (machine_register q) % 2 ^ 32)
    pub beside : (y : Width) (a : ℕ) → NoHome f a (byte_count y) → read g m y a ≡ read g n y a

  pub homes_run : (k : Course) (P : ℕ → Type 0) (n f : ℕ) (qs : List ℕ) (xs : List Noted) → f < length g.layout.program.functions → reg g n base ≡ base_address → ((q : ℕ) → is_member qs q ≡ true → is_member (frame g f).homes q ≡ true)
      → At g k n (singles (home_code (frame g f) qs) ++ xs) → ((m : ℕ) → Homed k n m f qs xs → Later P m) → Later P n
  homes_run k P n f [] xs there based inside h go =
      go n
      (record {
        at = h;
        registers = λ r o. refl;
        input = refl;
        output = refl;
        homes = λ q e z. ⊎_elim (λ (a : is_member [] q ≡ true). absurd cc) (λ (b : read g n Whole (home_at (frame g f) q) ≡ Some (reg g n (machine_register q) % 2 ^ 32)). b) z;
        beside = λ y a o. refl;
      })
  homes_run k P n f (q ∷ qs) xs there based inside h go =
      let fr = frame g f in
      let member = inside q (member_head q qs) in
      let word = home_word f q there member in
      let below = position-below fr.homes q member in
      let rest = home_code fr qs in
      store g k P n (singles rest ++ xs) first_free (machine_register q) (home_at fr q) (reg g n (machine_register q)) (omega arith) (omega arith) (steady_is q).five based word.small word.aligned word.ram refl word.opens
      (in_parts g k n (store_code first_free (machine_register q) (home_at fr q)) rest xs h)
      (λ m a. homes_run k P m f qs xs there (a.registers base (λ e. omega (arith, e)) ∙ based) (λ p e. inside p (member_tail q p qs e)) a.at
      (λ j b. go j
      (record {
        at = b.at;
        registers = λ r o. b.registers r o ∙ a.registers r o;
        input = b.input ∙ a.input;
        output = b.output ∙ a.output;
        homes = λ p e z.
            let kept : reg g m (machine_register p) ≡ reg g n (machine_register p) = a.registers (machine_register p) (steady_is p).five in
            let value = ap (λ w. Some (w % 2 ^ 32)) kept in
            b.homes p e
            (⊎_elim
            (λ (same : q ≡ p). inr (ap (λ x. read g m Whole (home_at fr x)) (sym same) ∙ a.same ∙ ap (λ x. Some (reg g n (machine_register x) % 2 ^ 32)) same ∙ sym value))
            (λ (other : q ≢ p).
            ⊎_elim
            (λ (c : is_member (q ∷ qs) p ≡ true). ⊎_elim (λ (x : q ≡ p). absurd (other x)) (λ (x : is_member qs p ≡ true). inl x) (member_cases q p qs c))
            (λ (c : read g n Whole (home_at fr p) ≡ Some (reg g n (machine_register p) % 2 ^ 32)).
            inr (a.beside Whole (home_at fr p) (home_apart f p q e member (λ x. other (sym x))) ∙ c ∙ sym value))
            z)
            (cases_eq q p))
            ∙ value;
        beside = λ y c o. b.beside y c o ∙ a.beside y c (⊎_elim (λ (low : c + byte_count y ≤ fr.at + 4 * (1 + length fr.saved)). inl (omega arith)) (λ (high : slot_at fr 0 ≤ c). inr (omega arith)) o);
      })))

  -- registers have come back from their homes
  pub record Unhomed (k : Course) (n m f : ℕ) (qs : List ℕ) (xs : List Noted) : Type 0 where
    pub at : At g k m xs
    pub world : (state g m).world ≡ (state g n).world
    pub loads : (q w : ℕ) → read g n Whole (home_at (frame g f) q) ≡ Some w → (is_member qs q ≡ true) ⊎ (reg g n (machine_register q) ≡ w) → reg g m (machine_register q) ≡ w
    pub others : (r : ℕ) → ((q : ℕ) → is_member qs q ≡ true → r ≢ machine_register q) → reg g m r ≡ reg g n r

  pub unhomes_run : (k : Course) (P : ℕ → Type 0) (n f : ℕ) (qs : List ℕ) (xs : List Noted) → f < length g.layout.program.functions → reg g n base ≡ base_address → ((q : ℕ) → is_member qs q ≡ true → (is_member (frame g f).homes q ≡ true) × (q ≤ result_register))
      → At g k n (singles (return_code (frame g f) qs) ++ xs) → ((m : ℕ) → Unhomed k n m f qs xs → Later P m) → Later P n
  unhomes_run k P n f [] xs there based inside h go =
      go n (record { at = h; world = refl; loads = λ q w e z. ⊎_elim (λ (a : is_member [] q ≡ true). absurd cc) (λ (b : reg g n (machine_register q) ≡ w). b) z; others = λ r o. refl })
  unhomes_run k P n f (q ∷ qs) xs there based inside h go =
      let fr = frame g f in
      let member = inside q (member_head q qs) in
      let word = home_word f q there member.0 in
      let value = value_is q member.1 in
      let rest = return_code fr qs in
      let found = can_read Whole (memory g n) (home_at fr q) (subst (λ fs. AreOpen fs (home_at fr q) 4) (sym (frames_are g n)) word.opens) in
      load g k P n (singles rest ++ xs) (machine_register q) (home_at fr q) found.0 value.some value.less based word.small word.aligned word.ram found.1 (in_parts g k n (load_code (machine_register q) (home_at fr q)) rest xs h)
      (λ m a.
      let same_reads : (b : ℕ) → read g m Whole b ≡ read g n Whole b = λ b. ap (λ (x : World). read_from (λ c. c.read) Whole x.memory b) a.world in
      unhomes_run k P m f qs xs there (a.others base (λ e. value.base_not (sym e)) ∙ based) (λ p e. inside p (member_tail q p qs e)) a.at
      (λ j b. go j
      (record {
        at = b.at;
        world = b.world ∙ a.world;
        loads = λ p w e z.
            b.loads p w (same_reads (home_at fr p) ∙ e)
            (⊎_elim
            (λ (same : q ≡ p).
            let both : Some found.0 ≡ Some w = sym found.1 ∙ ap (λ x. read g n Whole (home_at fr x)) same ∙ e in
            let is : found.0 ≡ w = cc in
            inr (ap (λ x. reg g m (machine_register x)) (sym same) ∙ a.value ∙ is))
            (λ (other : q ≢ p).
            ⊎_elim
            (λ (c : is_member (q ∷ qs) p ≡ true). ⊎_elim (λ (x : q ≡ p). absurd (other x)) (λ (x : is_member qs p ≡ true). inl x) (member_cases q p qs c))
            (λ (c : reg g n (machine_register p) ≡ w). inr (a.others (machine_register p) (λ x. other (sym (machine_register-same p q x))) ∙ c))
            z)
            (cases_eq q p));
        others = λ r o. b.others r (λ p e. o p (member_tail q p qs e)) ∙ a.others r (o q (member_head q qs));
      })))
