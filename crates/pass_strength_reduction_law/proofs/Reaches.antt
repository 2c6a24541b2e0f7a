-- A program with pointers that step passes marks as often.
use Rattle.std.proofs.Common.{◌≡◌, ℕ, zero, suc, ◌+◌, ◌*◌, Bool, List, [], ◌∷◌, refl, sym, ap, ◌∙◌, ⊎_elim}
use Rattle.std.specs.Prelude.{slice_get}
use Rattle.std.specs.List.{AllZip}
use Rattle.low_ir.specs.Code.{Instr, Do, Call, End, Block, Loop, Function, Low, Note}
use Rattle.low_ir.specs.Room.{called, marks_once, reach, reaches, repeated, repeated_in, times}
use Rattle.pass_strength_reduction_law.specs.Knowing.{Knowing}
use Rattle.pass_strength_reduction_law.specs.Steps.{Beginnings, Carries, Code, Entries, Follows, Inserts, IsStepped, Replaces}
use Rattle.pass_strength_reduction_law.proofs.Blocks.{SomeFunction, SomeStepped, some_functions, stepped_blocks}

call_first : (f g : ℕ → ℕ) → ((n : ℕ) → f n ≡ g n) → (i : Instr ℕ Note) (js is : Code) → called f js ≡ called g is → called f (i ∷ js) ≡ called g (i ∷ is)
call_first f g eq (Do i) js is e = e
call_first f g eq (Call d h args note) js is e = ap (λ n. n + called f js) (eq h) ∙ ap (λ n. g h + n) e

module _ (p q : Low) (f g : ℕ → ℕ) (eq : (n : ℕ) → f n ≡ g n) (entry : Entries) (spare : ℕ → Bool) (out : Beginnings) (fn : Function ℕ Note) where
  code_called : (end end2 : End ℕ) (js : Code) (at : Knowing) (is : Code) → Follows p q entry spare out fn end end2 js at is → called f js ≡ called g is
  code_called end end2 [] at is h = sym (ap (called g) h.done)
  code_called end end2 (j ∷ js) at is h =
      let so = Follows p q entry spare out fn end end2 js in
      ⊎_elim
      (λ (c : Carries p q entry spare out fn so j at is). call_first f g eq j js c.behind (code_called end end2 js c.now c.behind c.goes_on) ∙ sym (ap (called g) c.is))
      (⊎_elim
      (λ (c : Replaces p q entry spare out fn so j at is). ap (λ i. called f (i ∷ js)) c.becomes ∙ code_called end end2 js c.now c.behind c.goes_on ∙ sym (ap (called g) c.is))
      (λ (c : Inserts p q entry spare out fn so j at is). ap (λ i. called f (i ∷ js)) c.becomes ∙ code_called end end2 js c.now is c.goes_on))
      h

  repeated_same : (mark : ℕ) (loops : List Loop) (k : ℕ) (bs cs : List (Block ℕ Note)) → AllZip (SomeStepped p q entry spare out fn) bs cs → repeated (λ b. marks_once b.mark mark + called f b.code) loops k cs ≡ repeated (λ b. marks_once b.mark mark + called g b.code) loops k bs
  repeated_same mark loops k [] [] h = refl
  repeated_same mark loops k [] (c ∷ cs) h = absurd h
  repeated_same mark loops k (b ∷ bs) [] h = absurd h
  repeated_same mark loops k (b ∷ bs) (c ∷ cs) h =
      let worth : Block ℕ Note → ℕ = λ x. marks_once x.mark mark + called f x.code in
      ap (λ n. times loops k * n + repeated worth loops (suc k) cs)
      (ap (λ m. marks_once m mark + called f c.code) h.0.stepped.mark
      ∙ ap (λ n. marks_once b.mark mark + n) (code_called b.end c.end c.code (out h.0.number) b.code h.0.stepped.code))
      ∙ ap (λ n. times loops k * (marks_once b.mark mark + called g b.code) + n) (repeated_same mark loops (suc k) bs cs h.1)

module _ (p q : Low) (entry : Entries) where
  function_same : (f g : ℕ → ℕ) → ((n : ℕ) → f n ≡ g n) → (mark : ℕ) (fs gs : List (Function ℕ Note)) → AllZip (SomeFunction p q entry) fs gs → (n : ℕ) → repeated_in (λ b. marks_once b.mark mark + called f b.code) (slice_get gs n) ≡ repeated_in (λ b. marks_once b.mark mark + called g b.code) (slice_get fs n)
  function_same f g eq mark [] [] h n = refl
  function_same f g eq mark [] (y ∷ gs) h n = absurd h
  function_same f g eq mark (x ∷ fs) [] h n = absurd h
  function_same f g eq mark (x ∷ fs) (y ∷ gs) h zero =
      ap (λ ls. repeated (λ b. marks_once b.mark mark + called f b.code) ls 0 y.blocks) h.0.stepped.loops
      ∙ repeated_same p q f g eq entry h.0.stepped.spare h.0.stepped.out x mark x.loops 0 x.blocks y.blocks (stepped_blocks p q entry h.0.number x y h.0.stepped)
  function_same f g eq mark (x ∷ fs) (y ∷ gs) h (suc n) = function_same f g eq mark fs gs h.1 n

  reaches_same : (fs gs : List (Function ℕ Note)) → AllZip (SomeFunction p q entry) fs gs → (mark n f : ℕ) → reaches gs mark n f ≡ reaches fs mark n f
  reaches_same fs gs h mark zero f = refl
  reaches_same fs gs h mark (suc n) f = function_same (reaches gs mark n) (reaches fs mark n) (reaches_same fs gs h mark n) mark fs gs h f

pub passed : (p q : Low) → IsStepped p q → (mark : ℕ) → reach q mark ≡ reach p mark
passed p q h mark =
    ap (λ m. reaches q.functions mark (suc m) m) h.main
    ∙ reaches_same p q h.entry p.functions q.functions (some_functions p q h.entry 0 p.functions q.functions h.functions) mark (suc p.main) p.main
