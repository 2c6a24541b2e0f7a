-- A program with pointers that step keeps to the low form.
use Rattle.std.proofs.Common.{◌≡◌, ◌<◌, ◌+◌, ℕ, zero, suc, Bool, true, List, [], ◌∷◌, length, Some, None, refl, sym, ap, ◌∙◌, subst, ⊎_elim, arith}
use Rattle.std.specs.Prelude.{All, AllPairs, option_to_list, slice_get}
use Rattle.std.specs.List.{AllZip}
use Rattle.std.proofs.lemmas.List.{length-append}
use Rattle.std.proofs.lemmas.List.Elements.{All-append, All-nil, All-cons, All-head, All-tail, All-weaker}
use Rattle.low_ir.specs.Code.{Address, Plain, Instr, Do, End, Jump, Block, Loop, Function, Low, Note}
use Rattle.low_ir.specs.Formed.{AreNested, CallsBelow, HasMarkBelow, IsFunction, IsLoop, IsLow, IsThere, LeadsOn, LeadsTo, LeadsTo_as, NamesThere, RegistersWithin, UsesRegisters, addresses, base_claims, base_objects, end_reads, is_back, mark_of, only_jump, opening}
use Rattle.low_ir.specs.Runs.{block_in}
use Rattle.low_ir.specs.Turns.{mark_in}
use Rattle.pass_strength_reduction_law.specs.Knowing.{Knowing}
use Rattle.pass_strength_reduction_law.specs.Steps.{Entries, Beginnings, Carries, Code, Follows, FunctionStepped, Inserts, IsIdle, IsPlaced, IsStepped, Replaces, claims_of}
use Rattle.pass_strength_reduction_law.proofs.Blocks.{SomeFunction, SomeStepped, before_function, found_block, some_functions, stepped_blocks}
use Rattle.low_parts.proofs.Lists.{all_beside, as_long}

-- what holds of each instruction of the first program, and of new ones, holds of each of the second
module _ (p q : Low) (entry : Entries) (spare : ℕ → Bool) (out : Beginnings) (fn : Function ℕ Note) (P Q : Instr ℕ Note → Type 0) (keeps : (i : Instr ℕ Note) → P i → Q i) (new : (i : Plain ℕ) → IsPlaced p q fn i → Q (Do i)) where
  pub code_keeps : (end end2 : End ℕ) (js : Code) (at : Knowing) (is : Code) → Follows p q entry spare out fn end end2 js at is → All P is → All Q js
  code_keeps end end2 [] at is h all = All-nil Q
  code_keeps end end2 (j ∷ js) at is h all =
      let so = Follows p q entry spare out fn end end2 js in
      ⊎_elim
      (λ (c : Carries p q entry spare out fn so j at is).
      let own = subst (All P) c.is all in
      All-cons Q j js (keeps j (All-head P j c.behind own)) (code_keeps end end2 js c.now c.behind c.goes_on (All-tail P j c.behind own)))
      (⊎_elim
      (λ (c : Replaces p q entry spare out fn so j at is).
      let own = subst (All P) c.is all in
      All-cons Q j js (subst Q (sym c.becomes) (new c.new c.placed)) (code_keeps end end2 js c.now c.behind c.goes_on (All-tail P (Do c.old) c.behind own)))
      (λ (c : Inserts p q entry spare out fn so j at is).
      All-cons Q j js (subst Q (sym c.becomes) (new c.new c.placed)) (code_keeps end end2 js c.now is c.goes_on all)))
      h

  pub blocks_keep : (bs cs : List (Block ℕ Note)) → AllZip (SomeStepped p q entry spare out fn) bs cs → All (λ (b : Block ℕ Note). All P b.code) bs → All (λ (c : Block ℕ Note). All Q c.code) cs
  blocks_keep = all_beside (SomeStepped p q entry spare out fn) (λ b. All P b.code) (λ c. All Q c.code) (λ b c r. code_keeps b.end c.end c.code (out r.number) b.code r.stepped.code)

-- ends stay
module _ (p q : Low) (entry : Entries) (spare : ℕ → Bool) (out : Beginnings) (fn : Function ℕ Note) where
  pub end_same : (end end2 : End ℕ) (js : Code) (at : Knowing) (is : Code) → Follows p q entry spare out fn end end2 js at is → end2 ≡ end
  end_same end end2 [] at is h = h.is
  end_same end end2 (j ∷ js) at is h =
      let so = Follows p q entry spare out fn end end2 js in
      ⊎_elim
      (λ (c : Carries p q entry spare out fn so j at is). end_same end end2 js c.now c.behind c.goes_on)
      (⊎_elim
      (λ (c : Replaces p q entry spare out fn so j at is). end_same end end2 js c.now c.behind c.goes_on)
      (λ (c : Inserts p q entry spare out fn so j at is). end_same end end2 js c.now is c.goes_on))
      h

  marks_same : (bs cs : List (Block ℕ Note)) (b : ℕ) → AllZip (SomeStepped p q entry spare out fn) bs cs → mark_in (slice_get cs b) ≡ mark_in (slice_get bs b)
  marks_same [] [] b h = refl
  marks_same [] (y ∷ cs) b h = absurd h
  marks_same (x ∷ bs) [] b h = absurd h
  marks_same (x ∷ bs) (y ∷ cs) zero h = h.0.stepped.mark
  marks_same (x ∷ bs) (y ∷ cs) (suc b) h = marks_same bs cs b h.1

  block_leads : (bs cs : List (Block ℕ Note)) (b n : ℕ) → AllZip (SomeStepped p q entry spare out fn) bs cs → LeadsTo_as (slice_get cs b) n → LeadsTo_as (slice_get bs b) n
  block_leads [] [] b n h leads = leads
  block_leads [] (y ∷ cs) b n h leads = absurd h
  block_leads (x ∷ bs) [] b n h leads = absurd h
  block_leads (x ∷ bs) (y ∷ cs) zero n h leads = subst (λ e. LeadsOn e n) (end_same x.end y.end y.code (out h.0.number) x.code h.0.stepped.code) leads
  block_leads (x ∷ bs) (y ∷ cs) (suc b) n h leads = block_leads bs cs b n h.1 leads

function_marks : (p q : Low) (entry : Entries) (fs gs : List (Function ℕ Note)) (f b : ℕ) → AllZip (SomeFunction p q entry) fs gs → mark_in (block_in (slice_get gs f) b) ≡ mark_in (block_in (slice_get fs f) b)
function_marks p q entry [] [] f b h = refl
function_marks p q entry [] (y ∷ gs) f b h = absurd h
function_marks p q entry (x ∷ fs) [] f b h = absurd h
function_marks p q entry (x ∷ fs) (y ∷ gs) zero b h = marks_same p q entry h.0.stepped.spare h.0.stepped.out x x.blocks y.blocks b (stepped_blocks p q entry h.0.number x y h.0.stepped)
function_marks p q entry (x ∷ fs) (y ∷ gs) (suc f) b h = function_marks p q entry fs gs f b h.1

-- each block has its mark
pub mark_same : (p q : Low) → IsStepped p q → (f b : ℕ) → mark_of q f b ≡ mark_of p f b
mark_same p q h f b = function_marks p q h.entry p.functions q.functions f b (some_functions p q h.entry 0 p.functions q.functions h.functions)

pub opening_same : (p q : Low) (entry : Entries) (f : ℕ) (fn gn : Function ℕ Note) → FunctionStepped p q entry f fn gn → opening gn ≡ opening fn
opening_same p q entry f fn gn h = marks_same p q entry h.spare h.out fn fn.blocks gn.blocks 0 (stepped_blocks p q entry f fn gn h)

-- a claim that lists one array that is there
alone_claims : (n : ℕ) (os : List ℕ) → All (λ o. o < n) os → All (λ claim. (0 < length claim) × All (λ o. o < n) claim) (claims_of os)
alone_claims n [] all = All-nil (λ claim. (0 < length claim) × All (λ o. o < n) claim)
alone_claims n (o ∷ os) all =
    let low : 0 < length (o ∷ []) = omega arith in
    All-cons (λ claim. (0 < length claim) × All (λ o. o < n) claim) (o ∷ []) (claims_of os) (low, All-cons (λ o. o < n) o [] (All-head (λ o. o < n) o os all) (All-nil (λ o. o < n))) (alone_claims n os (All-tail (λ o. o < n) o os all))

-- what an address names is there still
pub there_still : (p q : Low) → IsStepped p q → (a : Address ℕ) → IsThere p a → IsThere q a
there_still p q h a there =
    (subst (λ os. All (λ o. o < length os) (base_objects a.base)) (sym h.objects) there.0, All-weaker (λ c. c < length p.claims) (λ c. c < length q.claims) (λ c low. longer c low) (base_claims a.base) there.1)
  where
    longer : (c : ℕ) → c < length p.claims → c < length q.claims
    longer c low =
        let e : length q.claims ≡ length p.claims + length (claims_of h.alone) = ap length h.claims ∙ length-append p.claims (claims_of h.alone) in
        omega (arith, low, e)

module _ (p q : Low) (stepped : IsStepped p q) where
  abbrev entry : Entries
  entry = stepped.entry

  leads : (f : ℕ) (fn gn : Function ℕ Note) → FunctionStepped p q entry f fn gn → (b n : ℕ) → LeadsTo gn b n → LeadsTo fn b n
  leads f fn gn h b n to = block_leads p q entry h.spare h.out fn fn.blocks gn.blocks b n (stepped_blocks p q entry f fn gn h) to

  uses_kept : (f : ℕ) (fn gn : Function ℕ Note) (h : FunctionStepped p q entry f fn gn) (b c : Block ℕ Note) → SomeStepped p q entry h.spare h.out fn b c → UsesRegisters fn.size b → UsesRegisters fn.size c
  uses_kept f fn gn h b c r uses = (
    code_keeps p q entry h.spare h.out fn (RegistersWithin fn.size) (RegistersWithin fn.size) (λ i k. k) (λ i placed. placed.registers) b.end c.end c.code (h.out r.number) b.code r.stepped.code uses.0,
    subst (λ e. All (λ x. x < fn.size) (end_reads e)) (sym (end_same p q entry h.spare h.out fn b.end c.end c.code (h.out r.number) b.code r.stepped.code)) uses.1,
  )

  names_kept : (i : Instr ℕ Note) → NamesThere p i → NamesThere q i
  names_kept i = All-weaker (IsThere p) (IsThere q) (there_still p q stepped) (addresses i)

  -- a latch stays a latch
  jump_kept : (f : ℕ) (fn gn : Function ℕ Note) (h : FunctionStepped p q entry f fn gn) (b n : ℕ) → IsIdle (slice_get gn.blocks b) → slice_get fn.blocks b ≡ Some (only_jump n) → slice_get gn.blocks b ≡ Some (only_jump n)
  jump_kept f fn gn h b n idle e =
      let k = found_block p q entry h.spare h.out fn fn.blocks gn.blocks h.blocks b (only_jump n) e in
      let none : k.it.code ≡ [] = subst IsIdle k.there idle in
      k.there
      ∙ ap (λ m. Some (record { mark = m; code = k.it.code; end = k.it.end })) k.stepped.mark
      ∙ ap (λ is. Some (record { mark = None; code = is; end = k.it.end })) none
      ∙ ap (λ e. Some (record { mark = None; code = []; end = e })) (end_same p q entry h.spare h.out fn (Jump n) k.it.end k.it.code (h.out b) [] k.stepped.code)

  function_kept : (f : ℕ) (fn gn : Function ℕ Note) → FunctionStepped p q entry f fn gn → IsFunction p f fn → IsFunction q f gn
  function_kept f fn gn h k =
      let opens = opening_same p q entry f fn gn h in
      let beside = stepped_blocks p q entry f fn gn h in
      record {
        opens = λ none. k.opens (sym opens ∙ none);
        alone = λ m g b e e2. k.alone m g b (sym opens ∙ e) (sym (mark_same p q stepped g b) ∙ e2);
        marks = subst (λ n. All (HasMarkBelow n) gn.blocks) (sym stepped.marks)
            (all_beside (SomeStepped p q entry h.spare h.out fn) (HasMarkBelow p.marks) (HasMarkBelow p.marks) (λ b c r. subst (λ o. All (λ m. m < p.marks) (option_to_list o)) (sym r.stepped.mark)) fn.blocks gn.blocks beside k.marks);
        parameters = subst (λ n. All (λ r. r < n) gn.parameters) (sym h.size) (subst (All (λ r. r < fn.size)) (sym h.parameters) k.parameters);
        registers = subst (λ n. All (UsesRegisters n) gn.blocks) (sym h.size)
            (all_beside (SomeStepped p q entry h.spare h.out fn) (UsesRegisters fn.size) (UsesRegisters fn.size) (uses_kept f fn gn h) fn.blocks gn.blocks beside k.registers);
        names = blocks_keep p q entry h.spare h.out fn (NamesThere p) (NamesThere q) names_kept (λ i placed. placed.names) fn.blocks gn.blocks beside k.names;
        calls = blocks_keep p q entry h.spare h.out fn (CallsBelow f) (CallsBelow f) (λ i c. c) (λ i placed. All-nil (λ g. g < f)) fn.blocks gn.blocks beside k.calls;
        stays = λ b n to. subst (λ m. n < m) (sym (as_long (SomeStepped p q entry h.spare h.out fn) fn.blocks gn.blocks beside)) (k.stays b n (leads f fn gn h b n to));
        forward = λ b n to le. subst (λ ls. is_back ls b n ≡ true) (sym h.loops) (k.forward b n (leads f fn gn h b n to) le);
        loops = subst (All (IsLoop gn)) (sym h.loops) (all_loops fn.loops h.latches k.loops);
        nested = subst (AllPairs AreNested) (sym h.loops) k.nested;
      }
    where
      loop_kept : (l : Loop) → IsIdle (slice_get gn.blocks l.latch) → IsLoop fn l → IsLoop gn l
      loop_kept l idle loop =
          record {
            header = loop.header;
            latch = loop.latch;
            back = jump_kept f fn gn h l.latch l.header idle loop.back;
            entered = λ b n to into outside. loop.entered b n (leads f fn gn h b n to) into outside;
          }

      all_loops : (ls : List Loop) → All (λ (l : Loop). IsIdle (slice_get gn.blocks l.latch)) ls → All (IsLoop fn) ls → All (IsLoop gn) ls
      all_loops [] idle all = All-nil (IsLoop gn)
      all_loops (l ∷ ls) idle all =
          All-cons (IsLoop gn) l ls (loop_kept l (All-head (λ (k : Loop). IsIdle (slice_get gn.blocks k.latch)) l ls idle) (All-head (IsLoop fn) l ls all))
          (all_loops ls (All-tail (λ (k : Loop). IsIdle (slice_get gn.blocks k.latch)) l ls idle) (All-tail (IsLoop fn) l ls all))

  pub formed : IsLow p → IsLow q
  formed low =
      record {
        main = subst (λ m. m < length q.functions) (sym stepped.main) (subst (λ n. p.main < n) (sym (as_long (SomeFunction p q entry) p.functions q.functions (some_functions p q entry 0 p.functions q.functions stepped.functions))) low.main);
        functions = λ f gn e.
            let k = before_function p q entry p.functions q.functions stepped.functions f gn e in
            function_kept f k.it gn k.stepped (low.functions f k.it k.there);
        claims = subst (λ os. All (λ claim. (0 < length claim) × All (λ o. o < length os) claim) q.claims) (sym stepped.objects)
            (subst (All (λ claim. (0 < length claim) × All (λ o. o < length p.objects) claim)) (sym stepped.claims)
            (All-append (λ claim. (0 < length claim) × All (λ o. o < length p.objects) claim) p.claims (claims_of stepped.alone) low.claims (alone_claims (length p.objects) stepped.alone stepped.there)));
      }
