-- A program with shorter ways keeps to the low form.
use Rattle.std.proofs.Common.{◌≡◌, ◌≢◌, ◌<◌, ◌≤◌, ◌==◌, ◌&&◌, ◌||◌, ◌⊎◌, ℕ, Bool, true, false, zero, suc, ◌+◌, List, [], ◌∷◌, length, Option, Some, None, refl, sym, ap, ◌∙◌, subst, ⊎_elim, inl, inr, arith}
use Rattle.std.specs.Prelude.{All, AllPairs, option_to_list, slice_get, slice_index_or}
use Rattle.std.specs.List.{AllZip}
use Rattle.std.proofs.lemmas.Bool.{eqb-true}
use Rattle.std.proofs.lemmas.List.Elements.{All-nil, All-cons, All-head, All-tail}
use Rattle.low_ir.specs.Code.{Address, End, Instr, Jump, Branch, Return, Block, Loop, Low, Note}
use Rattle.low_ir.specs.Formed.{AreNested, BlockCallsBelow, BlockNamesThere, CallsBelow, HasMarkBelow, HoldsWhole, IsFunction, IsLoop, IsLow, LeadsTo, NamesThere, RegistersWithin, UsesRegisters, addresses, base_claims, base_objects, end_reads, is_back, mark_of, only_jump, opening}
use Rattle.low_ir.specs.Runs.{block_in}
use Rattle.low_ir.specs.Turns.{mark_in}
use Rattle.pass_jump_threading_law.specs.Known.{Known}
use Rattle.pass_jump_threading_law.specs.Threads.{BlockThreaded, Blocks, Comes, EndThreaded, FunctionThreaded, IsApart, IsThreaded, LoopThreaded, Names, Plan, Settles, Stays}
use Rattle.low_parts.proofs.Lists.{as_long, before}
use Rattle.pass_jump_threading_law.proofs.Numbers.{IsLeft, LeftOut, from_at, inside_at, left_at, less, less_back, not_more_back, same_number, some_same}
use Rattle.pass_jump_threading_law.proofs.Traces.{IsWithinBlocks}
use Rattle.pass_jump_threading_law.proofs.Ways.{new_way, same_test, way_back, way_enters, way_stays}
use Rattle.low_parts.proofs.Runs.{LowFunction}

abbrev LowBlock : Type 0
LowBlock = Block ℕ Note

-- what each block keeps, those that are left keep
pub all_kept : (fn : LowFunction) (plan : Plan) (P Q : LowBlock → Type 0) → ((n : ℕ) (b c : LowBlock) → BlockThreaded fn plan n b c → P b → Q c) → (bs : List LowBlock) (n m : ℕ) (cs : List LowBlock) → Blocks fn plan n m bs cs → All P bs → All Q cs
all_kept fn plan P Q keeps [] n m cs h all = subst (All Q) (sym h) (All-nil Q)
all_kept fn plan P Q keeps (b ∷ bs) n m [] h all = All-nil Q
all_kept fn plan P Q keeps (b ∷ bs) n m (c ∷ cs) h all =
    ⊎_elim
    (λ (out : LeftOut fn plan n m bs (c ∷ cs)). all_kept fn plan P Q keeps bs (suc n) m (c ∷ cs) out.1 (All-tail P b bs all))
    (λ (kept : IsLeft fn plan n m b c bs cs). All-cons Q c cs (keeps n b c kept.1 (All-head P b bs all)) (all_kept fn plan P Q keeps bs (suc n) (suc m) cs kept.2 (All-tail P b bs all)))
    h

-- registers that an end reads were read before
end_in : (fn : LowFunction) (plan : Plan) (known : Known) (size : ℕ) (old new : End ℕ) → EndThreaded fn plan known old new → All (λ r. r < size) (end_reads old) → All (λ r. r < size) (end_reads new)
end_in fn plan known size old new h all =
    ⊎_elim
    (λ (s : Settles fn plan known old new). subst (λ e. All (λ r. r < size) (end_reads e)) (sym s.is) (All-nil (λ r. r < size)))
    (λ (s : Stays fn plan known old new). stays old s all)
    h
  where
    stays : (old : End ℕ) → Stays fn plan known old new → All (λ r. r < size) (end_reads old) → All (λ r. r < size) (end_reads new)
    stays (Jump b) s all = absurd s
    stays (Return x) s all = subst (λ e. All (λ r. r < size) (end_reads e)) (sym s) all
    stays (Branch c x y taken other) s all = subst (λ e. All (λ r. r < size) (end_reads e)) (sym s.is) all

-- a loop's blocks are blocks of its function
loop_within : (fn : LowFunction) (l : Loop) → IsLoop fn l → IsWithinBlocks fn l
loop_within fn l loop =
    let last = inside_at fn.blocks l.latch (only_jump l.header) loop.back in
    let lt = loop.latch in
    (omega (arith, last, lt), last)

pub loops_within : (fn : LowFunction) (ls : List Loop) → All (IsLoop fn) ls → All (IsWithinBlocks fn) ls
loops_within fn [] all = All-nil (IsWithinBlocks fn)
loops_within fn (l ∷ ls) all =
    All-cons (IsWithinBlocks fn) l ls (loop_within fn l (All-head (IsLoop fn) l ls all)) (loops_within fn ls (All-tail (IsLoop fn) l ls all))

or_true : (x y : Bool) → y ≡ true → (x || y) ≡ true
or_true true y e = refl
or_true false y e = e

and_true : (x y : Bool) → x ≡ true → y ≡ true → (x && y) ≡ true
and_true x y e f = ap (λ b. b && y) e ∙ f

both_true : (x y : Bool) → (x && y) ≡ true → (x ≡ true) × (y ≡ true)
both_true true y e = (refl, e)
both_true false y e = cc

-- a jump back is one still
back_kept : (name : Names) (ls ks : List Loop) → AllZip (LoopThreaded name) ls ks → (a c k n : ℕ) → name a ≡ Some k → name c ≡ Some n → is_back ls a c ≡ true → is_back ks k n ≡ true
back_kept name [] ks h a c k n an cn e = cc
back_kept name (l ∷ ls) [] h a c k n an cn e = absurd h
back_kept name (l ∷ ls) (y ∷ ks) h a c k n an cn e = by_test (λ f. back_kept name ls ks h.1 a c k n an cn f) ((l.latch == a) && (l.header == c)) refl e
  where
    by_test : (is_back ls a c ≡ true → is_back ks k n ≡ true) → (t : Bool) → ((l.latch == a) && (l.header == c)) ≡ t → (t || is_back ls a c) ≡ true → ((y.latch == k) && (y.header == n) || is_back ks k n) ≡ true
    by_test rest true test e =
        let both = both_true (l.latch == a) (l.header == c) test in
        let latch : y.latch ≡ k = some_same y.latch k (sym h.0.latch ∙ ap name (eqb-true l.latch a both.0) ∙ an) in
        let header : y.header ≡ n = some_same y.header n (sym h.0.header ∙ ap name (eqb-true l.header c both.1) ∙ cn) in
        ap (λ b. b || is_back ks k n) (and_true (y.latch == k) (y.header == n) (same_test y.latch k latch) (same_test y.header n header))
    by_test rest false test e = or_true ((y.latch == k) && (y.header == n)) (is_back ks k n) (rest e)

-- what stands at the same place of two lists
zip_at : {A B : Type 0} (R : A → B → Type 0) (xs : List A) (ys : List B) → AllZip R xs ys → (i : ℕ) (d : A) (e : B) → i < length ys → R (slice_index_or xs i d) (slice_index_or ys i e)
zip_at R [] [] h i d e lt = absurd (omega (arith, lt))
zip_at R [] (y ∷ ys) h i d e lt = absurd h
zip_at R (x ∷ xs) [] h i d e lt = absurd h
zip_at R (x ∷ xs) (y ∷ ys) h zero d e lt = h.0
zip_at R (x ∷ xs) (y ∷ ys) h (suc i) d e lt = zip_at R xs ys h.1 i d e (omega (arith, lt))

opening_by : (fn gn : LowFunction) (h : FunctionThreaded fn gn) (o : Option LowBlock) → slice_get fn.blocks 0 ≡ o → opening fn ≢ None → opening gn ≡ opening fn
opening_by fn gn h None e opens = absurd (opens (ap mark_in e))
opening_by fn gn h (Some b) e opens =
    let k = left_at fn h.plan fn.blocks 0 0 gn.blocks h.blocks 0 0 0 b (omega arith) e h.first in
    let is : 0 ≡ 0 + k.place = k.is in
    let place : k.place ≡ 0 = omega (arith, is) in
    let there : slice_get gn.blocks 0 ≡ Some k.it = subst (λ n. slice_get gn.blocks n ≡ Some k.it) place k.there in
    ap mark_in there ∙ k.same.mark ∙ sym (ap mark_in e)

pub opening_same : (fn gn : LowFunction) → FunctionThreaded fn gn → opening fn ≢ None → opening gn ≡ opening fn
opening_same fn gn h opens = opening_by fn gn h (slice_get fn.blocks 0) refl opens

-- a latch jumps back
jump_kept : (fn : LowFunction) (plan : Plan) (n b m : ℕ) (c : LowBlock) (l : Loop) → ((b : ℕ) → All (IsApart b) fn.loops → IsApart b l) → b ≡ l.header → plan.name b ≡ Some m → BlockThreaded fn plan n (only_jump b) c → c ≡ only_jump m
jump_kept fn plan n b m c l apart header named h =
    ap (λ x. record { mark = x; code = c.code; end = c.end }) h.mark
    ∙ ap (λ is. record { mark = None; code = is; end = c.end }) h.code
    ∙ ap (λ e. record { mark = None; code = []; end = e }) (⊎_elim (λ (s : Settles fn plan h.out (Jump b) c.end). settles s) (λ (s : Stays fn plan h.out (Jump b) c.end). absurd s) h.end)
  where
    lands : (next old past block : ℕ) → b ≡ next → Comes fn h.out past next old → plan.name old ≡ Some block → block ≡ m
    lands next old zero block e comes old_named = some_same block m (sym old_named ∙ ap plan.name (sym comes ∙ sym e) ∙ named)
    lands next old (suc past) block e comes old_named = absurd ((apart next comes.1.apart).0 (sym e ∙ header))

    settles : Settles fn plan h.out (Jump b) c.end → c.end ≡ Jump m
    settles s =
        let to : s.block ≡ m = lands s.next s.lands.old s.lands.past s.block (some_same b s.next s.goes) s.lands.comes s.lands.named in
        s.is ∙ ap (λ n. Jump n) to

module _ (p : Low) (f : ℕ) (fn gn : LowFunction) (h : FunctionThreaded fn gn) (k : IsFunction p f fn) where
  loop_kept : (l y : Loop) → LoopThreaded h.plan.name l y → ((b : ℕ) → All (IsApart b) fn.loops → IsApart b l) → IsLoop fn l → IsLoop gn y
  loop_kept l y name apart loop =
      let within = loop_within fn l loop in
      let b = left_at fn h.plan fn.blocks 0 0 gn.blocks h.blocks l.latch l.latch y.latch (only_jump l.header) (omega arith) loop.back name.latch in
      let is : y.latch ≡ 0 + b.place = b.is in
      let place : b.place ≡ y.latch = omega (arith, is) in
      record {
        header = less fn gn h.plan h.blocks 0 l.header 0 y.header within.0 h.first name.header loop.header;
        latch = less fn gn h.plan h.blocks l.header l.latch y.header y.latch within.1 name.header name.latch loop.latch;
        back = subst (λ n. slice_get gn.blocks n ≡ Some (only_jump y.header)) place (b.there ∙ ap Some (jump_kept fn h.plan l.latch l.header y.header b.it l apart refl name.header b.same));
        entered = λ a n to into outside.
            let w = new_way fn gn h.plan h.blocks a n to in
            let to_inside = way_stays p f fn k w.from w.to w.way in
            let low : l.header ≤ w.to = not_more_back fn gn h.plan h.blocks l.header w.to y.header n within.0 name.header w.to_named into.0 in
            let high : w.to ≤ l.latch = not_more_back fn gn h.plan h.blocks w.to l.latch n y.latch to_inside w.to_named name.latch into.1 in
            let out : (w.from < l.header) ⊎ (l.latch < w.from) =
            ⊎_elim
            (λ (lt : a < y.header). inl (less_back fn gn h.plan h.blocks w.from l.header a y.header w.from_inside w.from_named name.header lt))
            (λ (lt : y.latch < a). inr (less_back fn gn h.plan h.blocks l.latch w.from y.latch a within.1 name.latch w.from_named lt))
            outside in
            same_number fn gn h.plan h.blocks w.to l.header n y.header w.to_named name.header (way_enters fn l loop apart w.from w.to w.way out (low, high));
      }

  all_loops : (ls ys : List Loop) → AllZip (LoopThreaded h.plan.name) ls ys → ((b : ℕ) → All (IsApart b) fn.loops → All (IsApart b) ls) → All (IsLoop fn) ls → All (IsLoop gn) ys
  all_loops [] [] names apart all = All-nil (IsLoop gn)
  all_loops [] (y ∷ ys) names apart all = absurd names
  all_loops (l ∷ ls) [] names apart all = absurd names
  all_loops (l ∷ ls) (y ∷ ys) names apart all =
      All-cons (IsLoop gn) y ys (loop_kept l y names.0 (λ b a. All-head (IsApart b) l ls (apart b a)) (All-head (IsLoop fn) l ls all))
      (all_loops ls ys names.1 (λ b a. All-tail (IsApart b) l ls (apart b a)) (All-tail (IsLoop fn) l ls all))

  holds_kept : (l m y z : Loop) → LoopThreaded h.plan.name l y → LoopThreaded h.plan.name m z → IsWithinBlocks fn l → IsWithinBlocks fn m → HoldsWhole l m → HoldsWhole y z
  holds_kept l m y z ly mz lw mw holds into =
      let low = not_more_back fn gn h.plan h.blocks l.header m.header y.header z.header lw.0 ly.header mz.header into.0 in
      let high = not_more_back fn gn h.plan h.blocks m.header l.latch z.header y.latch mw.0 mz.header ly.latch into.1 in
      let in_order = holds (low, high) in
      (less fn gn h.plan h.blocks l.header m.header y.header z.header mw.0 ly.header mz.header in_order.0, less fn gn h.plan h.blocks m.latch l.latch z.latch y.latch lw.1 mz.latch ly.latch in_order.1)

  nested_kept : AllPairs AreNested gn.loops
  nested_kept i j d lt inside =
      let long = as_long (LoopThreaded h.plan.name) fn.loops gn.loops h.loops in
      let inside2 : j < length fn.loops = omega (arith, inside, long) in
      let first : i < length gn.loops = omega (arith, inside, lt) in
      let first2 : i < length fn.loops = omega (arith, inside2, lt) in
      let l = slice_index_or fn.loops i d in
      let m = slice_index_or fn.loops j d in
      let y = slice_index_or gn.loops i d in
      let z = slice_index_or gn.loops j d in
      let ly = zip_at (LoopThreaded h.plan.name) fn.loops gn.loops h.loops i d d first in
      let mz = zip_at (LoopThreaded h.plan.name) fn.loops gn.loops h.loops j d d inside in
      let within = loops_within fn fn.loops k.loops in
      let lw = within i d first2 in
      let mw = within j d inside2 in
      let nested = k.nested i j d lt inside2 in
      (holds_kept l m y z ly mz lw mw nested.0, holds_kept m l z y mz ly mw lw nested.1)

  ways_stay : (b n : ℕ) → LeadsTo gn b n → n < length gn.blocks
  ways_stay b n to =
      let w = new_way fn gn h.plan h.blocks b n to in
      let inside = way_stays p f fn k w.from w.to w.way in
      by_block w.to w.to_named inside (slice_get fn.blocks w.to) refl
    where
      by_block : (c : ℕ) → h.plan.name c ≡ Some n → c < length fn.blocks → (o : Option LowBlock) → slice_get fn.blocks c ≡ o → n < length gn.blocks
      by_block c named inside None e = absurd (none_there fn.blocks c inside e)
        where
          none_there : (bs : List LowBlock) (i : ℕ) → i < length bs → slice_get bs i ≡ None → ⊥
          none_there [] i lt e = omega (arith, lt)
          none_there (b ∷ bs) zero lt e = cc
          none_there (b ∷ bs) (suc i) lt e = none_there bs i (omega (arith, lt)) e
      by_block c named inside (Some b) e =
          let g = left_at fn h.plan fn.blocks 0 0 gn.blocks h.blocks c c n b (omega arith) e named in
          let is : n ≡ 0 + g.place = g.is in
          let last = inside_at gn.blocks g.place g.it g.there in
          omega (arith, is, last)

  ways_forward : (b n : ℕ) → LeadsTo gn b n → n ≤ b → is_back gn.loops b n ≡ true
  ways_forward b n to le =
      let w = new_way fn gn h.plan h.blocks b n to in
      let inside = way_stays p f fn k w.from w.to w.way in
      let back = not_more_back fn gn h.plan h.blocks w.to w.from n b inside w.to_named w.from_named le in
      back_kept h.plan.name fn.loops gn.loops h.loops w.from w.to b n w.from_named w.to_named (way_back p f fn k w.from w.to w.way back)

module _ (p q : Low) (threaded : IsThreaded p q) (low : IsLow p) where
  -- a block that is left has its mark
  alone_by : (f : ℕ) (fn : LowFunction) → IsFunction p f fn → (m g b : ℕ) → opening fn ≡ Some m → (o : Option LowFunction) → slice_get q.functions g ≡ o → mark_in (block_in o b) ≡ Some m → (g ≡ f) × (b ≡ 0)
  alone_by f fn k m g b opens None e marked = cc
  alone_by f fn k m g b opens (Some hn) e marked = by_block (slice_get hn.blocks b) refl marked
    where
      by_block : (o : Option LowBlock) → slice_get hn.blocks b ≡ o → mark_in o ≡ Some m → (g ≡ f) × (b ≡ 0)
      by_block None e2 marked2 = cc
      by_block (Some c) e2 marked2 =
          let old = before FunctionThreaded p.functions q.functions g hn threaded.functions e in
          let from = from_at old.it old.related.plan old.it.blocks 0 0 hn.blocks old.related.blocks b b c (omega arith) e2 in
          let at : from.number ≡ 0 + from.place = from.at in
          let place : from.place ≡ from.number = omega (arith, at) in
          let there : slice_get old.it.blocks from.number ≡ Some from.it = subst (λ i. slice_get old.it.blocks i ≡ Some from.it) place from.there in
          let mark : mark_of p g from.number ≡ Some m = ap (λ o. mark_in (block_in o from.number)) old.there ∙ ap mark_in there ∙ sym from.same.mark ∙ marked2 in
          let is = k.alone m g from.number opens mark in
          (is.0, some_same b 0 (sym from.named ∙ ap old.related.plan.name is.1 ∙ old.related.first))

  function_kept : (f : ℕ) (fn gn : LowFunction) → FunctionThreaded fn gn → IsFunction p f fn → IsFunction q f gn
  function_kept f fn gn h k =
      let opens = opening_same fn gn h k.opens in
      record {
        opens = λ none. k.opens (sym opens ∙ none);
        alone = λ m g b e e2. alone_by f fn k m g b (sym opens ∙ e) (slice_get q.functions g) refl e2;
        marks = subst (λ n. All (HasMarkBelow n) gn.blocks) (sym threaded.marks)
            (all_kept fn h.plan (HasMarkBelow p.marks) (HasMarkBelow p.marks) (λ n b c r. subst (λ o. All (λ m. m < p.marks) (option_to_list o)) (sym r.mark)) fn.blocks 0 0 gn.blocks h.blocks k.marks);
        parameters = subst (λ n. All (λ r. r < n) gn.parameters) (sym h.size) (subst (All (λ r. r < fn.size)) (sym h.parameters) k.parameters);
        registers = subst (λ n. All (UsesRegisters n) gn.blocks) (sym h.size)
            (all_kept fn h.plan (UsesRegisters fn.size) (UsesRegisters fn.size) (λ n b c r uses. (subst (All (RegistersWithin fn.size)) (sym r.code) uses.0, end_in fn h.plan r.out fn.size b.end c.end r.end uses.1)) fn.blocks 0 0 gn.blocks h.blocks k.registers);
        names = all_kept fn h.plan (BlockNamesThere p) (BlockNamesThere q)
            (λ n b c r names. subst (All (NamesThere q)) (sym r.code) (names_kept b.code names)) fn.blocks 0 0 gn.blocks h.blocks k.names;
        calls = all_kept fn h.plan (BlockCallsBelow f) (BlockCallsBelow f) (λ n b c r calls. subst (All (CallsBelow f)) (sym r.code) calls) fn.blocks 0 0 gn.blocks h.blocks k.calls;
        stays = ways_stay p f fn gn h k;
        forward = ways_forward p f fn gn h k;
        loops = all_loops p f fn gn h k fn.loops gn.loops h.loops (λ b all. all) k.loops;
        nested = nested_kept p f fn gn h k;
      }
    where
      names_kept : (is : List (Instr ℕ Note)) → All (NamesThere p) is → All (NamesThere q) is
      names_kept is all =
          subst (λ os. All (λ (i : Instr ℕ Note). All (λ (a : Address ℕ). All (λ o. o < length os) (base_objects a.base) × All (λ c. c < length q.claims) (base_claims a.base)) (addresses i)) is) (sym threaded.objects)
          (subst (λ cs. All (λ (i : Instr ℕ Note). All (λ (a : Address ℕ). All (λ o. o < length p.objects) (base_objects a.base) × All (λ c. c < length cs) (base_claims a.base)) (addresses i)) is) (sym threaded.claims) all)

  pub formed : IsLow q
  formed =
      record {
        main = subst (λ m. m < length q.functions) (sym threaded.main) (subst (λ n. p.main < n) (sym (as_long FunctionThreaded p.functions q.functions threaded.functions)) low.main);
        functions = λ f gn e.
            let k = before FunctionThreaded p.functions q.functions f gn threaded.functions e in
            function_kept f k.it gn k.related (low.functions f k.it k.there);
        claims = subst (λ os. All (λ claim. (0 < length claim) × All (λ o. o < length os) claim) q.claims) (sym threaded.objects)
            (subst (All (λ claim. (0 < length claim) × All (λ o. o < length p.objects) claim)) (sym threaded.claims) low.claims);
      }

-- the loops of a program lie within its functions
pub low_within : (p : Low) → IsLow p → (f : ℕ) (fn : LowFunction) → slice_get p.functions f ≡ Some fn → All (IsWithinBlocks fn) fn.loops
low_within p low f fn e = loops_within fn fn.loops (low.functions f fn e).loops
