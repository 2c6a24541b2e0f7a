-- Blocks and functions that were changed, or stay.
use Rattle.std.proofs.Common.{◌≡◌, ◌<◌, ◌≤◌, ℕ, suc, ◌+◌, Bool, true, false, List, [], ◌∷◌, ◌++◌, drop, length, map, refl, sym, ap, ◌∙◌, subst, inl, arith}
use Rattle.std.specs.Prelude.{All, Vec, slice_get, slice_index_or}
use Rattle.std.specs.Global.{Global}
use Rattle.std.specs.List.{AllZip}
use Rattle.std.proofs.lemmas.List.{append-nil, append_assoc, drop-map, drop_all, drop_more, map_push}
use Rattle.std.proofs.lemmas.List.Elements.{All-cons, All-nil}
use Rattle.low_ir.specs.declared.low.Block.{Block as Block'}
use Rattle.low_ir.specs.Code.{Block, Do, Call, End, Function, Instr, Loop, Low, Note}
use Rattle.low_ir.specs.Formed.{end_reads, read_by, LeadsOn}
use Rattle.low_ir.specs.Runs.{Bank}
use Rattle.low_ir.specs.View.{block_of}
use Rattle.pass_strength_reduction_law.specs.Knowing.{Knowing}
use Rattle.pass_strength_reduction_law.specs.Steps.{BlockNamesNoSpare, BlockStepped, BlocksStepped, Code, Follows, FunctionsStepped, IsIdle, IsNamed, NamesNoSpare, Passes}
use Rattle.pass_dataflow_facts.specs.declared.facts.Fact.{Fact}
use Rattle.pass_dataflow_facts.specs.declared.proposals.Change.{Change}
use Rattle.pass_dataflow_facts.specs.Facts.{all_true}
use Rattle.pass_dataflow_transfer.specs.Learning.{Sure}
use Rattle.pass_strength_reduction.specs.Changing.{BlockChanged, BlocksChanged, BlocksSoFar, IsChanged, Surrounds}
use Rattle.pass_strength_reduction.specs.Scenes.{Fits, Goes, Scene, SoFar, anything, beginnings, facts_at, is_spare}
use Rattle.pass_strength_reduction.proofs.Making.{known_more}

-- a block whose code was made, and behind which what is to be known is
pub block_changed : (sc : Scene) (before facts now : List Fact) (b c : Block ℕ Note) → Sure before (λ s. all_true facts s ≡ true) → SoFar sc (all_true facts) b.code (all_true now) [] c.code → ((n : ℕ) → LeadsOn b.end n → Sure now (λ s. all_true (facts_at sc.changes n) s ≡ true)) → c.mark ≡ b.mark → c.end ≡ b.end → BlockChanged sc before b c
block_changed sc before facts now b c first so ends mark end =
    record {
      mark = mark;
      end = end;
      code =
          known_more sc b.end c.code b.code (all_true facts) (all_true before) first
          (subst (λ js. Goes sc b.end js (all_true facts) b.code) (append-nil c.code)
          (so b.end [] (record { done = refl; is = refl; known = λ n s to keep. ends n to s keep.1 })));
    }

-- the block of a number
one_changed : (sc : Scene) (n : ℕ) (b c : Block ℕ Note) → BlockChanged sc (facts_at sc.changes n) b c → BlockStepped sc.old sc.new anything (is_spare sc.spare) (beginnings sc.changes) sc.fn n b c
one_changed sc n b c h = record { mark = h.mark; code = subst (λ end. Follows sc.old sc.new anything (is_spare sc.spare) (beginnings sc.changes) sc.fn b.end end c.code (all_true (facts_at sc.changes n)) b.code) (sym h.end) h.code }

dropped : (bs : List Block') (n : ℕ) (b : Block') → n < length bs → b ≡ slice_index_or bs n b → drop n (map block_of bs) ≡ block_of b ∷ drop (n + 1) (map block_of bs)
dropped bs n b lt is = drop-map block_of n bs ∙ ap (map block_of) (drop_more bs n b lt) ∙ ap (λ x. block_of x ∷ map block_of (drop (n + 1) bs)) (sym is) ∙ ap (λ xs. block_of b ∷ xs) (sym (drop-map block_of (n + 1) bs))

-- one more
pub blocks_more : (sc : Scene) (bs : List Block') (n : ℕ) (b new : Block') (made more : List Block') → n < length bs → b ≡ slice_index_or bs n b → BlocksSoFar sc (map block_of bs) n (map block_of made) → BlockChanged sc (facts_at sc.changes n) (block_of b) (block_of new) → more ≡ made ++ new ∷ [] → BlocksSoFar sc (map block_of bs) (n + 1) (map block_of more)
blocks_more sc bs n b new made more lt is so changed pushed cs rest =
    let next : suc n ≡ n + 1 = omega arith in
    let here : drop n (map block_of bs) ≡ block_of b ∷ drop (n + 1) (map block_of bs) = dropped bs n b lt is in
    let all : BlocksChanged sc n (block_of b ∷ drop (n + 1) (map block_of bs)) (block_of new ∷ cs) = (one_changed sc n (block_of b) (block_of new) changed, subst (λ k. BlocksChanged sc k (drop (n + 1) (map block_of bs)) cs) (sym next) rest) in
    let there : map block_of made ++ block_of new ∷ cs ≡ map block_of more ++ cs = sym (append_assoc (map block_of made) (block_of new ∷ []) cs) ∙ ap (λ ys. ys ++ cs) (sym (map_push block_of made new) ∙ ap (map block_of) (sym pushed)) in
    subst (BlocksChanged sc 0 (map block_of bs)) there (so (block_of new ∷ cs) (subst (λ xs. BlocksChanged sc n xs (block_of new ∷ cs)) (sym here) all))

pub blocks_begun : (sc : Scene) (bs : List (Block ℕ Note)) (made : List Block') → made ≡ [] → BlocksSoFar sc bs 0 (map block_of made)
blocks_begun sc bs made none cs rest = subst (λ xs. BlocksChanged sc 0 bs (map block_of xs ++ cs)) (sym none) rest

pub blocks_done : (sc : Scene) (bs : List Block') (n : ℕ) (made : List Block') → length bs ≤ n → BlocksSoFar sc (map block_of bs) n (map block_of made) → BlocksChanged sc 0 (map block_of bs) (map block_of made)
blocks_done sc bs n made all so =
    subst (BlocksChanged sc 0 (map block_of bs)) (append-nil (map block_of made))
    (so [] (subst (λ xs. BlocksChanged sc n xs []) (sym (drop-map block_of n bs ∙ ap (map block_of) (drop_all n bs all))) tt))

-- nothing is known where nothing is to be known
pub bare_begins : (changes : List Change) → facts_at changes 0 ≡ [] → (s : Bank) → beginnings changes 0 s ≡ true
bare_begins changes bare s = ap (λ fs. all_true fs s) bare

-- a function that was changed
pub function_changed : (claims : List (Vec ℕ Global)) (alone : List ℕ) (objects : ℕ) (spare : List Bool) (changes : List Change) (fn gn : Function ℕ Note)
    → facts_at changes 0 ≡ []
    → All (BlockNamesNoSpare (is_spare spare)) fn.blocks
    → ((sc : Scene) → Fits claims alone objects fn.size spare sc → sc.changes ≡ changes → BlocksChanged sc 0 fn.blocks gn.blocks)
    → All (λ (l : Loop). IsIdle (slice_get gn.blocks l.latch)) fn.loops
    → gn.parameters ≡ fn.parameters → gn.size ≡ fn.size → gn.loops ≡ fn.loops
    → IsChanged claims alone objects fn gn
function_changed claims alone objects spare changes fn gn bare unnamed blocks idle parameters size loops p q around f =
    let sc : Scene = record { old = p; new = q; fn = fn; spare = spare; changes = changes } in
    record {
      spare = is_spare spare;
      out = beginnings changes;
      unnamed = unnamed;
      first = λ xs s may written. bare_begins changes bare s;
      parameters = parameters;
      size = size;
      loops = loops;
      latches = idle;
      blocks = blocks sc (record { before = around.before; after = around.after; there = around.there; size = refl; is = refl }) refl;
    }

-- a function that stays
abbrev none_spare : ℕ → Bool
none_spare r = false

all_unnamed : (rs : List ℕ) → All (IsNamed none_spare) rs
all_unnamed [] = All-nil (IsNamed none_spare)
all_unnamed (r ∷ rs) = All-cons (IsNamed none_spare) r rs refl (all_unnamed rs)

code_unnamed : (is : Code) → All (NamesNoSpare none_spare) is
code_unnamed [] = All-nil (NamesNoSpare none_spare)
code_unnamed (i ∷ is) = All-cons (NamesNoSpare none_spare) i is (all_unnamed (read_by i), all_unnamed _) (code_unnamed is)

blocks_unnamed : (bs : List (Block ℕ Note)) → All (BlockNamesNoSpare none_spare) bs
blocks_unnamed [] = All-nil (BlockNamesNoSpare none_spare)
blocks_unnamed (b ∷ bs) = All-cons (BlockNamesNoSpare none_spare) b bs (code_unnamed b.code, all_unnamed (end_reads b.end)) (blocks_unnamed bs)

abbrev all_known : Knowing
all_known s = true

module _ (p q : Low) (fn : Function ℕ Note) where
  any_passes : (j : Instr ℕ Note) → Passes fn.size anything j all_known
  any_passes (Do i) = tt
  any_passes (Call d f args note) = λ s xs keeps e. refl

  code_stays : (end : End ℕ) (is : Code) → Follows p q anything none_spare (λ n. all_known) fn end end is all_known is
  code_stays end [] = record { done = refl; is = refl; known = λ n s to keep. refl }
  code_stays end (Do i ∷ is) = inl (record { now = all_known; behind = is; is = refl; teaches = λ s u did keep e. refl; passes = any_passes (Do i); goes_on = code_stays end is })
  code_stays end (Call d f args note ∷ is) = inl (record { now = all_known; behind = is; is = refl; teaches = λ s v keep. refl; passes = any_passes (Call d f args note); goes_on = code_stays end is })

  blocks_stay : (n : ℕ) (bs : List (Block ℕ Note)) → BlocksStepped p q anything none_spare (λ n. all_known) fn n bs bs
  blocks_stay n [] = tt
  blocks_stay n (b ∷ bs) = (record { mark = refl; code = code_stays b.end b.code }, blocks_stay (suc n) bs)

pub function_kept : (claims : List (Vec ℕ Global)) (alone : List ℕ) (objects : ℕ) (fn gn : Function ℕ Note)
    → All (λ (l : Loop). IsIdle (slice_get fn.blocks l.latch)) fn.loops
    → gn.blocks ≡ fn.blocks → gn.parameters ≡ fn.parameters → gn.size ≡ fn.size → gn.loops ≡ fn.loops
    → IsChanged claims alone objects fn gn
function_kept claims alone objects fn gn idle blocks parameters size loops p q around f =
    record {
      spare = none_spare;
      out = λ n. all_known;
      unnamed = blocks_unnamed fn.blocks;
      first = λ xs s may written. refl;
      parameters = parameters;
      size = size;
      loops = loops;
      latches = subst (λ bs. All (λ (l : Loop). IsIdle (slice_get bs l.latch)) fn.loops) (sym blocks) idle;
      blocks = subst (BlocksStepped p q anything none_spare (λ n. all_known) fn 0 fn.blocks) (sym blocks) (blocks_stay p q fn 0 fn.blocks);
    }

-- all functions of a program
pub functions_changed : (claims : List (Vec ℕ Global)) (alone : List ℕ) (objects : ℕ) (p q : Low) (n : ℕ) (fs gs : List (Function ℕ Note)) → Surrounds claims alone objects p q → AllZip (IsChanged claims alone objects) fs gs → FunctionsStepped p q anything n fs gs
functions_changed claims alone objects p q n [] [] around h = tt
functions_changed claims alone objects p q n [] (g ∷ gs) around h = absurd h
functions_changed claims alone objects p q n (f ∷ fs) [] around h = absurd h
functions_changed claims alone objects p q n (f ∷ fs) (g ∷ gs) around h = (h.0 p q around n, functions_changed claims alone objects p q (suc n) fs gs around h.1)
