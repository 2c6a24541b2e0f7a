-- A program with copies in place of loads keeps to the low form.
use Rattle.std.proofs.Common.{◌≡◌, ◌<◌, ℕ, zero, suc, true, List, [], ◌∷◌, length, Some, None, refl, sym, ap, ◌∙◌, subst, ⊎_elim}
use Rattle.std.specs.Prelude.{All, AllPairs, option_to_list, slice_get}
use Rattle.std.specs.List.{AllZip}
use Rattle.std.proofs.lemmas.List.Elements.{All-nil, All-cons, All-head, All-tail}
use Rattle.low_ir.specs.Code.{Register, Constant, Plain, Set, Operate, Point, Load, Store, Put, Get, Instr, Do, Call, End, Block, Loop, Function, Low, Note}
use Rattle.low_ir.specs.Formed.{AreNested, CallsBelow, HasMarkBelow, IsFunction, IsLoop, IsLow, IsThere, LeadsOn, LeadsTo, LeadsTo_as, NamesThere, RegistersWithin, UsesRegisters, end_reads, is_back, mark_of, only_jump, opening, registers_in, written_by}
use Rattle.low_ir.specs.Effects.{address_reads}
use Rattle.low_ir.specs.Runs.{block_in}
use Rattle.low_ir.specs.Turns.{mark_in}
use Rattle.pass_common_subexpressions_law.proofs.Giving.{written_giving}
use Rattle.low_parts.proofs.Lists.{all_beside, as_long, before}
use Rattle.pass_common_subexpressions_law.specs.Facts.{Fact, Keeps, Known, Knows, Learns, Teaches}
use Rattle.pass_common_subexpressions_law.specs.Reloads.{Becomes, Beginnings, BlockReloaded, Code, Follows, FunctionReloaded, InRange, IsReload, IsReloaded}
use Rattle.pass_common_subexpressions_law.proofs.Blocks.{SomeReloaded, found_block, reloaded_blocks}

-- what each instruction keeps that stays, and each copy has, a block's code keeps
module _ (P Q : Instr ℕ Note → Type 0) (same : (i : Instr ℕ Note) → P i → Q i) (copy : (d r : ℕ) → Q (Do (Set d (Register r)))) where
  one_keeps : (known : Known) (i new : Instr ℕ Note) → Becomes known i new → P i → Q new
  one_keeps known i new becomes h =
      ⊎_elim
      (λ (stays : new ≡ i). subst Q (sym stays) (same i h))
      (λ (c : IsReload known i new). subst Q (sym c.becomes) (copy c.into c.fact.register))
      becomes

  code_keeps : (claims : List (List ℕ)) (out : Beginnings) (end : End ℕ) (is : Code) (known : Known) (js : Code) → Follows claims out end is known js → All P is → All Q js
  code_keeps claims out end [] known js h all = subst (All Q) (sym h.0) (All-nil Q)
  code_keeps claims out end (i ∷ is) known js h all =
      subst (All Q) (sym h.is)
      (All-cons Q h.new h.behind (one_keeps known i h.new h.becomes (All-head P i is all)) (code_keeps claims out end is h.now h.behind h.goes_on (All-tail P i is all)))

  pub blocks_keep : (claims : List (List ℕ)) (out : Beginnings) (bs cs : List (Block ℕ Note)) → AllZip (SomeReloaded claims out) bs cs → All (λ (b : Block ℕ Note). All P b.code) bs → All (λ (c : Block ℕ Note). All Q c.code) cs
  blocks_keep claims out bs cs h all =
      all_beside (SomeReloaded claims out) (λ b. All P b.code) (λ c. All Q c.code) (λ b c r k. code_keeps claims out b.end b.code (out r.number) c.code r.reloaded.code k) bs cs h all

module _ (claims : List (List ℕ)) where
  marks_same : (out : Beginnings) (bs cs : List (Block ℕ Note)) (b : ℕ) → AllZip (SomeReloaded claims out) bs cs → mark_in (slice_get cs b) ≡ mark_in (slice_get bs b)
  marks_same out [] [] b h = refl
  marks_same out [] (y ∷ cs) b h = absurd h
  marks_same out (x ∷ bs) [] b h = absurd h
  marks_same out (x ∷ bs) (y ∷ cs) zero h = h.0.reloaded.mark
  marks_same out (x ∷ bs) (y ∷ cs) (suc b) h = marks_same out bs cs b h.1

  function_marks : (fs gs : List (Function ℕ Note)) (f b : ℕ) → AllZip (FunctionReloaded claims) fs gs → mark_in (block_in (slice_get gs f) b) ≡ mark_in (block_in (slice_get fs f) b)
  function_marks [] [] f b h = refl
  function_marks [] (y ∷ gs) f b h = absurd h
  function_marks (x ∷ fs) [] f b h = absurd h
  function_marks (x ∷ fs) (y ∷ gs) zero b h = marks_same h.0.out x.blocks y.blocks b (reloaded_blocks claims x y h.0)
  function_marks (x ∷ fs) (y ∷ gs) (suc f) b h = function_marks fs gs f b h.1

  pub opening_same : (fn gn : Function ℕ Note) → FunctionReloaded claims fn gn → opening gn ≡ opening fn
  opening_same fn gn h = marks_same h.out fn.blocks gn.blocks 0 (reloaded_blocks claims fn gn h)

-- each block has its mark
pub mark_same : (p q : Low) → IsReloaded p q → (f b : ℕ) → mark_of q f b ≡ mark_of p f b
mark_same p q h f b = function_marks p.claims p.functions q.functions f b h.functions

-- registers are those of the function
taught_in : (size : ℕ) (i : Plain ℕ) (f : Fact) → RegistersWithin {K = Note} size (Do i) → Teaches (Do i) f → f.register < size
taught_in size (Set d x) f within h = absurd h
taught_in size (Operate operator d x y) f within h = subst (λ (g : Fact). g.register < size) (sym h.0) (All-head (λ r. r < size) d [] within.1)
taught_in size (Point d a) f within h = absurd h
taught_in size (Load kind d a) f within h = subst (λ (x : Fact). x.register < size) (sym h.0) (All-head (λ r. r < size) d [] within.1)
taught_in size (Store kind a (Register r)) f within h = subst (λ (x : Fact). x.register < size) (sym h.1) (All-head (λ r. r < size) r (registers_in (address_reads a)) within.0)
taught_in size (Store kind a (Constant w)) f within h = absurd h
taught_in size (Put x) f within h = absurd h
taught_in size (Get d) f within h = absurd h

teaches_in : (size : ℕ) (i : Instr ℕ Note) (f : Fact) → RegistersWithin size i → Teaches i f → f.register < size
teaches_in size (Do i) f within h = taught_in size i f within h
teaches_in size (Call d g args note) f within h = absurd h

range_after : (size : ℕ) (claims : List (List ℕ)) (known : Known) (i : Instr ℕ Note) (now : Known) → RegistersWithin size i → InRange size known → Learns claims known i now → InRange size now
range_after size claims known i now within range learns f knows =
    ⊎_elim (λ (h : Knows known f × Keeps claims i f). range f h.0) (λ (h : Teaches i f). teaches_in size i f within h) (learns f knows)

became_in : (size : ℕ) (known : Known) (i new : Instr ℕ Note) → InRange size known → Becomes known i new → RegistersWithin size i → RegistersWithin size new
became_in size known i new range becomes within =
    ⊎_elim
    (λ (same : new ≡ i). subst (RegistersWithin size) (sym same) within)
    (λ (c : IsReload known i new).
    let written = subst (λ o. All (λ r. r < size) (option_to_list o)) (ap written_by c.is ∙ written_giving c.into c.fact.source) within.1 in
    subst (RegistersWithin size) (sym c.becomes) (All-cons (λ r. r < size) c.fact.register [] (range c.fact c.knows) (All-nil (λ r. r < size)), written))
    becomes

code_in : (size : ℕ) (claims : List (List ℕ)) (out : Beginnings) (end : End ℕ) (is : Code) (known : Known) (js : Code) → InRange size known → Follows claims out end is known js → All (RegistersWithin size) is → All (RegistersWithin size) js
code_in size claims out end [] known js range h all = subst (All (RegistersWithin size)) (sym h.0) (All-nil (RegistersWithin size))
code_in size claims out end (i ∷ is) known js range h all =
    let one = All-head (RegistersWithin size) i is all in
    let rest = All-tail (RegistersWithin size) i is all in
    subst (All (RegistersWithin size)) (sym h.is)
    (All-cons (RegistersWithin size) h.new h.behind (became_in size known i h.new range h.becomes one) (code_in size claims out end is h.now h.behind (range_after size claims known i h.now one range h.learns) h.goes_on rest))

block_in_range : (size : ℕ) (claims : List (List ℕ)) (out : Beginnings) (b c : Block ℕ Note) → ((n : ℕ) → InRange size (out n)) → SomeReloaded claims out b c → UsesRegisters size b → UsesRegisters size c
block_in_range size claims out b c range h uses =
    (code_in size claims out b.end b.code (out h.number) c.code (range h.number) h.reloaded.code uses.0, subst (λ end. All (λ r. r < size) (end_reads end)) (sym h.reloaded.end) uses.1)

-- a block leads to where it led
block_leads : (claims : List (List ℕ)) (out : Beginnings) (bs cs : List (Block ℕ Note)) (b n : ℕ) → AllZip (SomeReloaded claims out) bs cs → LeadsTo_as (slice_get cs b) n → LeadsTo_as (slice_get bs b) n
block_leads claims out [] [] b n h leads = leads
block_leads claims out [] (y ∷ cs) b n h leads = absurd h
block_leads claims out (x ∷ bs) [] b n h leads = absurd h
block_leads claims out (x ∷ bs) (y ∷ cs) zero n h leads = subst (λ end. LeadsOn end n) h.0.reloaded.end leads
block_leads claims out (x ∷ bs) (y ∷ cs) (suc b) n h leads = block_leads claims out bs cs b n h.1 leads

module _ (p q : Low) (reloaded : IsReloaded p q) where
  leads : (fn gn : Function ℕ Note) → FunctionReloaded p.claims fn gn → (b n : ℕ) → LeadsTo gn b n → LeadsTo fn b n
  leads fn gn h b n to = block_leads p.claims h.out fn.blocks gn.blocks b n (reloaded_blocks p.claims fn gn h) to

  -- a block that only jumps does so still
  jump_kept : (out : Beginnings) (c : Block ℕ Note) (k n : ℕ) → BlockReloaded p.claims out k (only_jump n) c → c ≡ only_jump n
  jump_kept out c k n h =
      ap (λ m. record { mark = m; code = c.code; end = c.end }) h.mark
      ∙ ap (λ is. record { mark = None; code = is; end = c.end }) h.code.0
      ∙ ap (λ e. record { mark = None; code = []; end = e }) h.end

  back_kept : (fn gn : Function ℕ Note) → FunctionReloaded p.claims fn gn → (b n : ℕ) → slice_get fn.blocks b ≡ Some (only_jump n) → slice_get gn.blocks b ≡ Some (only_jump n)
  back_kept fn gn h b n e =
      let k = found_block p.claims fn gn h b (only_jump n) e in
      k.there ∙ ap Some (jump_kept h.out k.it b n k.reloaded)

  loop_kept : (fn gn : Function ℕ Note) → FunctionReloaded p.claims fn gn → (l : Loop) → IsLoop fn l → IsLoop gn l
  loop_kept fn gn h l loop =
      record {
        header = loop.header;
        latch = loop.latch;
        back = back_kept fn gn h l.latch l.header loop.back;
        entered = λ b n to into outside. loop.entered b n (leads fn gn h b n to) into outside;
      }

  -- objects and claims are there
  names_there : (i : Instr ℕ Note) → NamesThere p i → NamesThere q i
  names_there i h = subst (λ objects. NamesThere (record { functions = q.functions; claims = q.claims; objects = objects; main = q.main; marks = q.marks }) i) (sym reloaded.objects)
      (subst (λ claims. NamesThere (record { functions = q.functions; claims = claims; objects = p.objects; main = q.main; marks = q.marks }) i) (sym reloaded.claims) h)

  function_kept : (f : ℕ) (fn gn : Function ℕ Note) → FunctionReloaded p.claims fn gn → IsFunction p f fn → IsFunction q f gn
  function_kept f fn gn h k =
      let opens = opening_same p.claims fn gn h in
      record {
        opens = λ none. k.opens (sym opens ∙ none);
        alone = λ m g b e e2. k.alone m g b (sym opens ∙ e) (sym (mark_same p q reloaded g b) ∙ e2);
        marks = subst (λ n. All (HasMarkBelow n) gn.blocks) (sym reloaded.marks)
            (all_beside (SomeReloaded p.claims h.out) (HasMarkBelow p.marks) (HasMarkBelow p.marks) (λ b c r. subst (λ o. All (λ m. m < p.marks) (option_to_list o)) (sym r.reloaded.mark)) fn.blocks gn.blocks (reloaded_blocks p.claims fn gn h) k.marks);
        parameters = subst (λ n. All (λ r. r < n) gn.parameters) (sym h.size) (subst (All (λ r. r < fn.size)) (sym h.parameters) k.parameters);
        registers = subst (λ n. All (UsesRegisters n) gn.blocks) (sym h.size)
            (all_beside (SomeReloaded p.claims h.out) (UsesRegisters fn.size) (UsesRegisters fn.size) (λ b c r. block_in_range fn.size p.claims h.out b c h.range r) fn.blocks gn.blocks (reloaded_blocks p.claims fn gn h) k.registers);
        names = blocks_keep (NamesThere p) (NamesThere q) names_there (λ d r. All-nil (IsThere q)) p.claims h.out fn.blocks gn.blocks (reloaded_blocks p.claims fn gn h) k.names;
        calls = blocks_keep (CallsBelow f) (CallsBelow f) (λ i h. h) (λ d r. All-nil (λ g. g < f)) p.claims h.out fn.blocks gn.blocks (reloaded_blocks p.claims fn gn h) k.calls;
        stays = λ b n to. subst (λ m. n < m) (sym (as_long (SomeReloaded p.claims h.out) fn.blocks gn.blocks (reloaded_blocks p.claims fn gn h))) (k.stays b n (leads fn gn h b n to));
        forward = λ b n to le. subst (λ ls. is_back ls b n ≡ true) (sym h.loops) (k.forward b n (leads fn gn h b n to) le);
        loops = subst (All (IsLoop gn)) (sym h.loops) (all_loops fn.loops k.loops);
        nested = subst (AllPairs AreNested) (sym h.loops) k.nested;
      }
    where
      all_loops : (ls : List Loop) → All (IsLoop fn) ls → All (IsLoop gn) ls
      all_loops [] all = All-nil (IsLoop gn)
      all_loops (l ∷ ls) all = All-cons (IsLoop gn) l ls (loop_kept fn gn h l (All-head (IsLoop fn) l ls all)) (all_loops ls (All-tail (IsLoop fn) l ls all))

  pub formed : IsLow p → IsLow q
  formed low =
      record {
        main = subst (λ m. m < length q.functions) (sym reloaded.main) (subst (λ n. p.main < n) (sym (as_long (FunctionReloaded p.claims) p.functions q.functions reloaded.functions)) low.main);
        functions = λ f gn e.
            let k = before (FunctionReloaded p.claims) p.functions q.functions f gn reloaded.functions e in
            function_kept f k.it gn k.related (low.functions f k.it k.there);
        claims = subst (λ os. All (λ claim. (0 < length claim) × All (λ o. o < length os) claim) q.claims) (sym reloaded.objects)
            (subst (All (λ claim. (0 < length claim) × All (λ o. o < length p.objects) claim)) (sym reloaded.claims) low.claims);
      }
