-- A program without copies keeps to the low form.
use Rattle.std.proofs.Common.{◌≡◌, ◌≢◌, ◌<◌, ◌≤◌, ℕ, zero, suc, true, List, [], ◌∷◌, length, Option, Some, None, refl, sym, ap, ◌∙◌, subst, ⊎_elim, arith}
use Rattle.std.specs.Prelude.{All, AllPairs, map, option_to_list, slice_get}
use Rattle.std.specs.List.{AllZip}
use Rattle.std.proofs.lemmas.List.Elements.{All-nil, All-cons, All-head, All-tail, All-weaker}
use Rattle.low_ir.specs.Code.{Operand, Register, Constant, Base, Fixed, Through, Address, Set, Operate, Point, Load, Store, Put, Get, Instr, Do, Call, End, Jump, Branch, Return, Block, Loop, Function, Low, Note}
use Rattle.low_ir.specs.Formed.{AreNested, CallsBelow, HasMarkBelow, IsFunction, IsLoop, IsLow, IsThere, LeadsOn, LeadsTo, LeadsTo_as, NamesThere, RegistersWithin, UsesRegisters, addresses, base_claims, base_objects, end_operands, end_reads, is_back, mark_of, only_jump, opening, read_by, registers_in, written_by}
use Rattle.low_ir.specs.Runs.{block_in}
use Rattle.low_ir.specs.Turns.{mark_in}
use Rattle.pass_copy_propagation_law.specs.Renaming.{renamed_address, renamed_base, renamed_end, renamed_instr, renamed_into, renamed_operand}
use Rattle.pass_copy_propagation_law.specs.Copies.{Becomes, Beginnings, BlockCopied, Carries, Code, Copied, Finds, Follows, FunctionCopied, IsCopied, KeepsBases, LeavesOut, Omits, Stands, Standing, operands}
use Rattle.pass_copy_propagation_law.proofs.Blocks.{SomeCopied, copied_blocks, found_block}
use Rattle.low_parts.proofs.Lists.{as_long, before}
use Rattle.pass_copy_propagation_law.proofs.Renamed.{dest_renamed, reads_renamed}

-- what holds of each in one list holds of each in the other
pub all_beside : {A B : Type 0} (R : A → B → Type 0) (P : A → Type 0) (Q : B → Type 0) → ((x : A) (y : B) → R x y → P x → Q y) → (xs : List A) (ys : List B) → AllZip R xs ys → All P xs → All Q ys
all_beside R P Q f [] [] h all = All-nil Q
all_beside R P Q f [] (y ∷ ys) h all = absurd h
all_beside R P Q f (x ∷ xs) [] h all = absurd h
all_beside R P Q f (x ∷ xs) (y ∷ ys) h all = All-cons Q y ys (f x y h.0 (All-head P x xs all)) (all_beside R P Q f xs ys h.1 (All-tail P x xs all))

-- what each instruction keeps that is carried, a block's code keeps
module _ (P Q : Instr ℕ Note → Type 0) (keeps : (name : ℕ → ℕ) (into : ℕ) (i : Instr ℕ Note) → KeepsBases name (addresses i) → P i → Q (renamed_instr name into i)) where
  pub code_keeps : (size : ℕ) (out : Beginnings) (end end2 : End ℕ) (is : Code) (at : Standing) (js : Code) → Follows size out end end2 is at js → All P is → All Q js
  code_keeps size out end end2 [] at js h all = subst (All Q) (sym h.done) (All-nil Q)
  code_keeps size out end end2 (i ∷ is) at js h all =
      ⊎_elim
      (λ (c : Carries size (Follows size out end end2 is) i at js).
      subst (All Q) (sym c.is) (All-cons Q (renamed_instr c.name c.into i) c.behind (keeps c.name c.into i c.bases (All-head P i is all)) (code_keeps size out end end2 is c.now c.behind c.goes_on (All-tail P i is all))))
      (⊎_elim
      (λ (c : LeavesOut (Follows size out end end2 is) i at js). code_keeps size out end end2 is c.now js c.goes_on (All-tail P i is all))
      (λ (c : Omits (Follows size out end end2 is) i at js). code_keeps size out end end2 is c.now js c.goes_on (All-tail P i is all)))
      h

  pub blocks_keep : (size : ℕ) (out : Beginnings) (bs cs : List (Block ℕ Note)) → AllZip (SomeCopied size out) bs cs → All (λ (b : Block ℕ Note). All P b.code) bs → All (λ (c : Block ℕ Note). All Q c.code) cs
  blocks_keep size out bs cs h all =
      all_beside (SomeCopied size out) (λ b. All P b.code) (λ c. All Q c.code) (λ b c r k. code_keeps size out b.end c.end b.code (out r.number) c.code r.copied.code k) bs cs h all

marks_same : (size : ℕ) (out : Beginnings) (bs cs : List (Block ℕ Note)) (b : ℕ) → AllZip (SomeCopied size out) bs cs → mark_in (slice_get cs b) ≡ mark_in (slice_get bs b)
marks_same size out [] [] b h = refl
marks_same size out [] (y ∷ cs) b h = absurd h
marks_same size out (x ∷ bs) [] b h = absurd h
marks_same size out (x ∷ bs) (y ∷ cs) zero h = h.0.copied.mark
marks_same size out (x ∷ bs) (y ∷ cs) (suc b) h = marks_same size out bs cs b h.1

function_marks : (fs gs : List (Function ℕ Note)) (f b : ℕ) → AllZip FunctionCopied fs gs → mark_in (block_in (slice_get gs f) b) ≡ mark_in (block_in (slice_get fs f) b)
function_marks [] [] f b h = refl
function_marks [] (y ∷ gs) f b h = absurd h
function_marks (x ∷ fs) [] f b h = absurd h
function_marks (x ∷ fs) (y ∷ gs) zero b h = marks_same y.size h.0.out x.blocks y.blocks b (copied_blocks x y h.0)
function_marks (x ∷ fs) (y ∷ gs) (suc f) b h = function_marks fs gs f b h.1

-- each block has its mark
pub mark_same : (p q : Low) → IsCopied p q → (f b : ℕ) → mark_of q f b ≡ mark_of p f b
mark_same p q h f b = function_marks p.functions q.functions f b h.functions

pub opening_same : (fn gn : Function ℕ Note) → FunctionCopied fn gn → opening gn ≡ opening fn
opening_same fn gn h = marks_same gn.size h.out fn.blocks gn.blocks 0 (copied_blocks fn gn h)

-- registers are those of the function
abbrev InRange : ℕ → Standing → Type 0
InRange size at = (v w : ℕ) → at v ≡ Some w → v < size → w < size

found_in : (size : ℕ) (at : Standing) (name : ℕ → ℕ) → InRange size at → (xs : List (Operand ℕ)) → Finds at name xs → All (λ r. r < size) (registers_in xs) → All (λ r. r < size) (registers_in (map (renamed_operand name) xs))
found_in size at name range [] f all = All-nil (λ r. r < size)
found_in size at name range (Register r ∷ xs) f all =
    All-cons (λ x. x < size) (name r) (registers_in (map (renamed_operand name) xs)) (range r (name r) f.0 (All-head (λ x. x < size) r (registers_in xs) all))
    (found_in size at name range xs f.1 (All-tail (λ x. x < size) r (registers_in xs) all))
found_in size at name range (Constant w ∷ xs) f all = found_in size at name range xs f all

operands_renamed : (name : ℕ → ℕ) (into : ℕ) (i : Instr ℕ Note) → read_by (renamed_instr name into i) ≡ registers_in (map (renamed_operand name) (operands i))
operands_renamed name into (Do i) = ap registers_in (reads_renamed name into i)
operands_renamed name into (Call d f args note) = refl

operands_read : (i : Instr ℕ Note) → read_by i ≡ registers_in (operands i)
operands_read (Do i) = refl
operands_read (Call d f args note) = refl

written_renamed : (name : ℕ → ℕ) (into : ℕ) (i : Instr ℕ Note) → written_by (renamed_instr name into i) ≡ renamed_into into (written_by i)
written_renamed name into (Do i) = dest_renamed name into i
written_renamed name into (Call d f args note) = refl

one_in : (size : ℕ) (d : Option ℕ) (e : ℕ) (at now : Standing) → Becomes size d e at now → All (λ r. r < size) (option_to_list (renamed_into e d))
one_in size None e at now b = All-nil (λ r. r < size)
one_in size (Some d) e at now b = All-cons (λ r. r < size) e [] b.0 (All-nil (λ r. r < size))

range_after : (size : ℕ) (d : Option ℕ) (e : ℕ) (at now : Standing) → InRange size at → Becomes size d e at now → InRange size now
range_after size None e at now range b v w q lt = range v w (b v w q) lt
range_after size (Some d) e at now range b v w q lt =
    ⊎_elim
    (λ (new : (v ≡ d) × (w ≡ e)). subst (λ n. n < size) (sym new.1) b.0)
    (λ (old : (v ≢ d) × (w ≢ e) × (at v ≡ Some w)). range v w old.2 lt)
    (b.1 v w q)

stands_in : (size : ℕ) (at : Standing) (x : Operand ℕ) (w : ℕ) → InRange size at → Stands at x w → All (λ r. r < size) (registers_in (x ∷ [])) → w < size
stands_in size at (Register r) w range stands all = range r w stands (All-head (λ x. x < size) r [] all)
stands_in size at (Constant c) w range stands all = absurd stands

range_copied : (size : ℕ) (i : Instr ℕ Note) (d : ℕ) (x : Operand ℕ) (at now : Standing) → i ≡ Do (Set d x) → RegistersWithin size i → InRange size at → Copied d x at now → InRange size now
range_copied size i d x at now e within range copied v w q lt =
    ⊎_elim
    (λ (new : (v ≡ d) × Stands at x w). stands_in size at x w range new.1 (subst (λ j. All (λ r. r < size) (read_by j)) e within.0))
    (λ (old : (v ≢ d) × (at v ≡ Some w)). range v w old.1 lt)
    (copied v w q)

end_in : (size : ℕ) (at : Standing) (name : ℕ → ℕ) (end : End ℕ) → InRange size at → Finds at name (end_operands end) → All (λ r. r < size) (end_reads end) → All (λ r. r < size) (end_reads (renamed_end name end))
end_in size at name (Jump b) range f all = All-nil (λ r. r < size)
end_in size at name (Branch c x y taken other) range f all = found_in size at name range (x ∷ y ∷ []) f all
end_in size at name (Return x) range f all = found_in size at name range (x ∷ []) f all

code_in : (size : ℕ) (out : Beginnings) (end end2 : End ℕ) (is : Code) (at : Standing) (js : Code) → InRange size at → Follows size out end end2 is at js → All (RegistersWithin size) is → All (λ r. r < size) (end_reads end) → All (RegistersWithin size) js × All (λ r. r < size) (end_reads end2)
code_in size out end end2 [] at js range h all last =
    (subst (All (RegistersWithin size)) (sym h.done) (All-nil (RegistersWithin size)), subst (λ e. All (λ r. r < size) (end_reads e)) (sym h.is) (end_in size at h.name end range h.finds last))
code_in size out end end2 (i ∷ is) at js range h all last =
    let one = All-head (RegistersWithin size) i is all in
    let rest = All-tail (RegistersWithin size) i is all in
    ⊎_elim
    (λ (c : Carries size (Follows size out end end2 is) i at js).
    let k = code_in size out end end2 is c.now c.behind (range_after size (written_by i) c.into at c.now range c.becomes) c.goes_on rest last in
    let j = renamed_instr c.name c.into i in
    let read = subst (All (λ r. r < size)) (sym (operands_renamed c.name c.into i)) (found_in size at c.name range (operands i) c.finds (subst (All (λ r. r < size)) (operands_read i) one.0)) in
    let written = subst (λ o. All (λ r. r < size) (option_to_list o)) (sym (written_renamed c.name c.into i)) (one_in size (written_by i) c.into at c.now c.becomes) in
    (subst (All (RegistersWithin size)) (sym c.is) (All-cons (RegistersWithin size) j c.behind (read, written) k.0), k.1))
    (⊎_elim
    (λ (c : LeavesOut (Follows size out end end2 is) i at js).
    code_in size out end end2 is c.now js (range_copied size i c.into c.value at c.now c.is one range c.copied) c.goes_on rest last)
    (λ (c : Omits (Follows size out end end2 is) i at js). code_in size out end end2 is c.now js (λ v w q lt. range v w (c.forgets v w q).1 lt) c.goes_on rest last))
    h

-- registers are among more of them too
within_more : (size more : ℕ) → size ≤ more → (rs : List ℕ) → All (λ r. r < size) rs → All (λ r. r < more) rs
within_more size more le rs all = All-weaker (λ r. r < size) (λ r. r < more) (λ r lt. omega arith) rs all

instr_more : (size more : ℕ) → size ≤ more → (i : Instr ℕ Note) → RegistersWithin size i → RegistersWithin more i
instr_more size more le i h = (within_more size more le (read_by i) h.0, within_more size more le (option_to_list (written_by i)) h.1)

uses_more : (size more : ℕ) → size ≤ more → (b : Block ℕ Note) → UsesRegisters size b → UsesRegisters more b
uses_more size more le b h = (All-weaker (RegistersWithin size) (RegistersWithin more) (instr_more size more le) b.code h.0, within_more size more le (end_reads b.end) h.1)

block_in_range : (size : ℕ) (out : Beginnings) (b c : Block ℕ Note) → ((n v w : ℕ) → out n v ≡ Some w → w ≡ v) → SomeCopied size out b c → UsesRegisters size b → UsesRegisters size c
block_in_range size out b c own h uses =
    code_in size out b.end c.end b.code (out h.number) c.code (λ v w q lt. subst (λ n. n < size) (sym (own h.number v w q)) lt) h.copied.code uses.0 uses.1

-- addresses name the same objects and claims
base_there : (p q : Low) (name : ℕ → ℕ) (a : Address ℕ) → q.objects ≡ p.objects → q.claims ≡ p.claims → IsThere p a → IsThere q (renamed_address name a)
base_there p q name a objects claims h =
    (subst (λ os. All (λ o. o < length os) (base_objects (renamed_base name a.base))) (sym objects) (by_objects a.base h.0), subst (λ cs. All (λ c. c < length cs) (base_claims (renamed_base name a.base))) (sym claims) (by_claims a.base h.1))
  where
    by_objects : (base : Base ℕ) → All (λ o. o < length p.objects) (base_objects base) → All (λ o. o < length p.objects) (base_objects (renamed_base name base))
    by_objects (Fixed o) h = h
    by_objects (Through r claim) h = h

    by_claims : (base : Base ℕ) → All (λ o. o < length p.claims) (base_claims base) → All (λ o. o < length p.claims) (base_claims (renamed_base name base))
    by_claims (Fixed o) h = h
    by_claims (Through r claim) h = h

one_there : (p q : Low) (name : ℕ → ℕ) (a : Address ℕ) → q.objects ≡ p.objects → q.claims ≡ p.claims → All (IsThere p) (a ∷ []) → All (IsThere q) (renamed_address name a ∷ [])
one_there p q name a objects claims h = All-cons (IsThere q) (renamed_address name a) [] (base_there p q name a objects claims (All-head (IsThere p) a [] h)) (All-nil (IsThere q))

names_there : (p q : Low) → q.objects ≡ p.objects → q.claims ≡ p.claims → (name : ℕ → ℕ) (into : ℕ) (i : Instr ℕ Note) → KeepsBases name (addresses i) → NamesThere p i → NamesThere q (renamed_instr name into i)
names_there p q objects claims name into (Do (Set d x)) bases h = All-nil (IsThere q)
names_there p q objects claims name into (Do (Operate operator d x y)) bases h = All-nil (IsThere q)
names_there p q objects claims name into (Do (Point d a)) bases h = one_there p q name a objects claims h
names_there p q objects claims name into (Do (Load kind d a)) bases h = one_there p q name a objects claims h
names_there p q objects claims name into (Do (Store kind a x)) bases h = one_there p q name a objects claims h
names_there p q objects claims name into (Do (Put x)) bases h = All-nil (IsThere q)
names_there p q objects claims name into (Do (Get d)) bases h = All-nil (IsThere q)
names_there p q objects claims name into (Call d f args note) bases h = All-nil (IsThere q)

calls_below : (f : ℕ) (name : ℕ → ℕ) (into : ℕ) (i : Instr ℕ Note) → KeepsBases name (addresses i) → CallsBelow f i → CallsBelow f (renamed_instr name into i)
calls_below f name into (Do i) bases h = h
calls_below f name into (Call d g args note) bases h = h

-- a block leads to where it led
leads_renamed : (name : ℕ → ℕ) (end : End ℕ) (n : ℕ) → LeadsOn (renamed_end name end) n → LeadsOn end n
leads_renamed name (Jump b) n h = h
leads_renamed name (Branch c x y taken other) n h = h
leads_renamed name (Return x) n h = h

end_leads : (size : ℕ) (out : Beginnings) (end end2 : End ℕ) (is : Code) (at : Standing) (js : Code) (n : ℕ) → Follows size out end end2 is at js → LeadsOn end2 n → LeadsOn end n
end_leads size out end end2 [] at js n h leads = leads_renamed h.name end n (subst (λ e. LeadsOn e n) h.is leads)
end_leads size out end end2 (i ∷ is) at js n h leads =
    ⊎_elim
    (λ (c : Carries size (Follows size out end end2 is) i at js). end_leads size out end end2 is c.now c.behind n c.goes_on leads)
    (⊎_elim
    (λ (c : LeavesOut (Follows size out end end2 is) i at js). end_leads size out end end2 is c.now js n c.goes_on leads)
    (λ (c : Omits (Follows size out end end2 is) i at js). end_leads size out end end2 is c.now js n c.goes_on leads))
    h

block_leads : (size : ℕ) (out : Beginnings) (bs cs : List (Block ℕ Note)) (b n : ℕ) → AllZip (SomeCopied size out) bs cs → LeadsTo_as (slice_get cs b) n → LeadsTo_as (slice_get bs b) n
block_leads size out [] [] b n h leads = leads
block_leads size out [] (y ∷ cs) b n h leads = absurd h
block_leads size out (x ∷ bs) [] b n h leads = absurd h
block_leads size out (x ∷ bs) (y ∷ cs) zero n h leads = end_leads size out x.end y.end x.code (out h.0.number) y.code n h.0.copied.code leads
block_leads size out (x ∷ bs) (y ∷ cs) (suc b) n h leads = block_leads size out bs cs b n h.1 leads

leads : (fn gn : Function ℕ Note) → FunctionCopied fn gn → (b n : ℕ) → LeadsTo gn b n → LeadsTo fn b n
leads fn gn h b n to = block_leads gn.size h.out fn.blocks gn.blocks b n (copied_blocks fn gn h) to

-- a block that only jumps does so still
jump_kept : (size : ℕ) (out : Beginnings) (c : Block ℕ Note) (k n : ℕ) → BlockCopied size out k (only_jump n) c → c ≡ only_jump n
jump_kept size out c k n h =
    ap (λ m. record { mark = m; code = c.code; end = c.end }) h.mark
    ∙ ap (λ is. record { mark = None; code = is; end = c.end }) h.code.done
    ∙ ap (λ e. record { mark = None; code = []; end = e }) h.code.is

back_kept : (fn gn : Function ℕ Note) → FunctionCopied fn gn → (b n : ℕ) → slice_get fn.blocks b ≡ Some (only_jump n) → slice_get gn.blocks b ≡ Some (only_jump n)
back_kept fn gn h b n e =
    let k = found_block fn gn h b (only_jump n) e in
    k.there ∙ ap Some (jump_kept gn.size h.out k.it b n k.copied)

loop_kept : (fn gn : Function ℕ Note) → FunctionCopied fn gn → (l : Loop) → IsLoop fn l → IsLoop gn l
loop_kept fn gn h l loop =
    record {
      header = loop.header;
      latch = loop.latch;
      back = back_kept fn gn h l.latch l.header loop.back;
      entered = λ b n to into outside. loop.entered b n (leads fn gn h b n to) into outside;
    }

module _ (p q : Low) (copied : IsCopied p q) where
  function_kept : (f : ℕ) (fn gn : Function ℕ Note) → FunctionCopied fn gn → IsFunction p f fn → IsFunction q f gn
  function_kept f fn gn h k =
      let opens = opening_same fn gn h in
      record {
        opens = λ none. k.opens (sym opens ∙ none);
        alone = λ m g b e e2. k.alone m g b (sym opens ∙ e) (sym (mark_same p q copied g b) ∙ e2);
        marks = subst (λ n. All (HasMarkBelow n) gn.blocks) (sym copied.marks)
            (all_beside (SomeCopied gn.size h.out) (HasMarkBelow p.marks) (HasMarkBelow p.marks) (λ b c r. subst (λ o. All (λ m. m < p.marks) (option_to_list o)) (sym r.copied.mark)) fn.blocks gn.blocks (copied_blocks fn gn h) k.marks);
        parameters = within_more fn.size gn.size h.size.least gn.parameters (subst (All (λ r. r < fn.size)) (sym h.parameters) k.parameters);
        registers =
            all_beside (SomeCopied gn.size h.out) (UsesRegisters fn.size) (UsesRegisters gn.size)
            (λ b c r uses. block_in_range gn.size h.out b c h.own r (uses_more fn.size gn.size h.size.least b uses)) fn.blocks gn.blocks (copied_blocks fn gn h) k.registers;
        names = blocks_keep (NamesThere p) (NamesThere q) (names_there p q copied.objects copied.claims) gn.size h.out fn.blocks gn.blocks (copied_blocks fn gn h) k.names;
        calls = blocks_keep (CallsBelow f) (CallsBelow f) (calls_below f) gn.size h.out fn.blocks gn.blocks (copied_blocks fn gn h) k.calls;
        stays = λ b n to. subst (λ m. n < m) (sym (as_long (SomeCopied gn.size h.out) fn.blocks gn.blocks (copied_blocks fn gn h))) (k.stays b n (leads fn gn h b n to));
        forward = λ b n to le. subst (λ ls. is_back ls b n ≡ true) (sym h.loops) (k.forward b n (leads fn gn h b n to) le);
        loops = subst (All (IsLoop gn)) (sym h.loops) (all_loops fn.loops k.loops);
        nested = subst (AllPairs AreNested) (sym h.loops) k.nested;
      }
    where
      all_loops : (ls : List Loop) → All (IsLoop fn) ls → All (IsLoop gn) ls
      all_loops [] all = All-nil (IsLoop gn)
      all_loops (l ∷ ls) all = All-cons (IsLoop gn) l ls (loop_kept fn gn h l (All-head (IsLoop fn) l ls all)) (all_loops ls (All-tail (IsLoop fn) l ls all))

  pub formed : IsLow p → IsLow q
  formed low =
      record {
        main = subst (λ m. m < length q.functions) (sym copied.main) (subst (λ n. p.main < n) (sym (as_long FunctionCopied p.functions q.functions copied.functions)) low.main);
        functions = λ f gn e.
            let k = before FunctionCopied p.functions q.functions f gn copied.functions e in
            function_kept f k.it gn k.related (low.functions f k.it k.there);
        claims = subst (λ os. All (λ claim. (0 < length claim) × All (λ o. o < length os) claim) q.claims) (sym copied.objects)
            (subst (All (λ claim. (0 < length claim) × All (λ o. o < length p.objects) claim)) (sym copied.claims) low.claims);
      }
