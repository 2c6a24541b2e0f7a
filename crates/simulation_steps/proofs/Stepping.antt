-- One instruction of laid code is performed.
use Rattle.std.proofs.Common.{◌≡◌, ◌≢◌, ℕ, suc, ◌+◌, ◌^◌, ◌<◌, ◌≤◌, Bool, true, false, List, [], ◌∷◌, ◌++◌, length, Some, refl, sym, ap, ◌∙◌, subst, arith}
use Rattle.std.specs.Prelude.{All, ◌||◌}
use Rattle.std.proofs.lemmas.List.{append-nil}
use Rattle.std.proofs.lemmas.List.Elements.{All-cons}
use Rattle.rv_core.specs.Instructions.{Instruction}
use Rattle.rv_core.specs.Machine.{World, GoesTo, performed, sets, register_of, with_register, behind, access_of}
use Rattle.rv_core.specs.Code.{instruction_in}
use Rattle.rv_core.specs.Runs.{Visit, Stays, mrun, linkage, visit_of, places_after, astray_after}
use Rattle.asm_items.specs.Items.{words, size}
use Rattle.asm_items.specs.Standing.{HasWords, is_exit}
use Rattle.asm_items.proofs.MoveLemmas.{size_some}
use Rattle.rv_steps.specs.Steps.{Later}
use Rattle.rv_steps.proofs.LaterLemmas.{stepped}
use Rattle.rv_steps.proofs.StepLemmas.{steps_go, register-written, register-other, length-written}
use Rattle.claims_definition.specs.Touches.{Touch}
use Rattle.simulation_relation.specs.Noted.{Noted, touching}
use Rattle.simulation_relation.specs.Layouts.{Layout, Stands, HasCode}
use Rattle.simulation_relation.specs.Positions.{seen, owed, IsTouched, Touches, Course}
use Rattle.simulation_steps.proofs.Given.{Given, run_of, state, reg, At}

-- code ends where its block ends
pub code_from : (l : Layout) (f stop a : ℕ) (xs : List Noted) → HasCode l f stop a xs → a ≤ stop
code_from l f stop a [] h = omega (arith, h)
code_from l f stop a (x ∷ xs) (to, stands, rest) =
    let behind = code_from l f stop to xs rest in
    let ends = stands.ends in
    let some = size_some stands.form in
    omega arith

pub code_below : (l : Layout) (f stop a : ℕ) (x : Noted) (xs : List Noted) → HasCode l f stop a (x ∷ xs) → a < stop
code_below l f stop a x xs (to, stands, rest) =
    let behind = code_from l f stop to xs rest in
    let ends = stands.ends in
    let some = size_some stands.form in
    omega arith

-- where no block begins up to the end of this one, the rest of its code owes nothing
pub owed-none : (l : Layout) (f stop a : ℕ) (xs : List Noted) → HasCode l f stop a xs → (a < stop → l.begins a ≡ []) → owed l a xs ≡ []
owed-none l f stop a [] h quiet = refl
owed-none l f stop a (x ∷ xs) h quiet = quiet (code_below l f stop a x xs h)

-- a single instruction that stands at an address
pub record StandsAlone (l : Layout) (a : ℕ) (i : Instruction) (to : ℕ) : Type 0 where
  pub fetched : l.code.fetch a ≡ Some i
  pub exit : l.code.exit a ≡ false
  pub ends : to ≡ a + 4

pub stands_alone : (l : Layout) (f a to : ℕ) (t : Touch) (i : Instruction) → Stands l f a (touching t i) to → StandsAlone l a i to
stands_alone l f a to t i h =
    let words_are = subst (λ x. HasWords l.code a (words l.starts f a x)) h.like h.words in
    record {
      fetched = words_are.0;
      exit = h.exit ∙ ap is_exit h.like;
      ends = h.ends ∙ ap (λ x. a + size x) h.like;
    }

stays_straight : (b : Bool) → b ≡ false → (b || false) ≡ false
stays_straight false e = refl
stays_straight true e = e

behind_is : (a : ℕ) → a < 2 ^ 30 → behind a ≡ a + 4
behind_is a h = omega arith

module _ (g : Given) where
  -- an instruction that goes on behind itself was performed
  pub record Next (k : Course) (m : ℕ) (registers : List ℕ) (world : World) (xs : List Noted) : Type 0 where
    pub at : At g k m xs
    pub registers_are : (state g m).registers ≡ registers
    pub world_is : (state g m).world ≡ world

  pub go_on : {t : Touch} (k : Course) (P : ℕ → Type 0) (n : ℕ) (i : Instruction) (xs : List Noted) (registers : List ℕ) (world : World) → At g k n (touching t i ∷ xs)
      → IsTouched g.layout (state g n).pc (access_of i (state g n)) → linkage (state g n) i ≡ Stays → performed i (state g n) ≡ GoesTo (behind (state g n).pc) registers world → length registers ≡ 32
      → ((m : ℕ) → Next k m registers world xs → Later P m) → Later P n
  go_on {t} k P n i xs registers world h touches stays does count go =
      let l = g.layout in
      let s = state g n in
      let to = h.code.0 in
      let stands = h.code.1 in
      let alone = stands_alone l k.function s.pc to t i stands in
      let low = stands.address.low in
      let here : instruction_in g.image s.pc ≡ Some i = sym (g.laid.fetches s.pc) ∙ alone.fetched in
      let w = steps_go g.image g.loadable g.table g.input n i (behind s.pc) registers world h.running here does in
      let after = mrun (run_of g) (suc n) in
      let next : after.state.pc ≡ s.pc + 4 = w.goes ∙ behind_is s.pc low in
      let there : to ≡ after.state.pc = alone.ends ∙ sym next in
      let code : HasCode l k.function k.stop after.state.pc xs = subst (λ a. HasCode l k.function k.stop a xs) there h.code.2 in
      let none : owed l after.state.pc xs ≡ [] = owed-none l k.function k.stop after.state.pc xs code (λ less. h.quiet after.state.pc (omega arith) less) in
      let visits = (mrun (run_of g) n).visits in
      let places = (mrun (run_of g) n).places in
      stepped P n
      (go (suc n)
      (record {
        at =
            record {
              running = w.runs;
              count = ap (λ (r : List ℕ). length r) w.holds ∙ count;
              code = code;
              quiet = λ b past less. h.quiet b (omega arith) less;
              events =
                  ap (λ v. seen l v ++ owed l after.state.pc xs) w.visits
                  ∙ ap (λ o. (seen l visits ++ l.begins s.pc) ++ o) none
                  ∙ append-nil (seen l visits ++ l.begins s.pc)
                  ∙ h.events;
              returns = w.places ∙ ap (λ x. places_after x s.pc places) stays ∙ h.returns;
              straight =
                  w.astray
                  ∙ ap (λ x. (mrun (run_of g) n).astray || astray_after x (behind s.pc) places) stays
                  ∙ stays_straight (mrun (run_of g) n).astray h.straight;
              inside = subst (λ v. All (λ (x : Visit). l.code.exit x.at ≡ false) v) (sym w.visits) (All-cons (λ (x : Visit). l.code.exit x.at ≡ false) (visit_of s i) visits alone.exit h.inside);
              touches = subst (λ v. All (Touches l) v) (sym w.visits) (All-cons (Touches l) (visit_of s i) visits touches h.touches);
            };
        registers_are = w.holds;
        world_is = w.has;
      }))

  -- a register was written
  pub record Wrote (k : Course) (n m rd v : ℕ) (xs : List Noted) : Type 0 where
    pub at : At g k m xs
    pub world : (state g m).world ≡ (state g n).world
    pub value : reg g m rd ≡ v
    pub others : (q : ℕ) → q ≢ rd → reg g m q ≡ reg g n q

  pub set_one : {t : Touch} (k : Course) (P : ℕ → Type 0) (n : ℕ) (i : Instruction) (xs : List Noted) (rd v : ℕ) → 0 < rd → rd < 32 → At g k n (touching t i ∷ xs)
      → IsTouched g.layout (state g n).pc (access_of i (state g n)) → linkage (state g n) i ≡ Stays → performed i (state g n) ≡ sets rd v (state g n) → ((m : ℕ) → Wrote k n m rd v xs → Later P m) → Later P n
  set_one k P n i xs rd v some less h touches stays does go =
      let s = state g n in
      let count = h.count in
      go_on k P n i xs (with_register s.registers rd v) s.world h touches stays does (length-written s.registers rd v ∙ count)
      (λ m next. go m
      (record {
        at = next.at;
        world = next.world_is;
        value = ap (λ r. register_of r rd) next.registers_are ∙ register-written s.registers rd v some (omega arith);
        others = λ q other. ap (λ r. register_of r q) next.registers_are ∙ register-other s.registers rd v q other;
      }))
