-- The items of each block of a program.
use Rattle.std.proofs.Common.{◌≡◌, ◌≢◌, ◌⊎◌, ⊎_elim, inl, inr, ℕ, zero, suc, ◌+◌, ◌<◌, Bool, true, false, List, [], ◌∷◌, ◌++◌, length, Contains, Some, None, refl, sym, ap, ◌∙◌, subst, arith}
use Rattle.std.specs.Prelude.{◌==◌, if◌then◌else◌, slice_get, slice_index_or}
use Rattle.std.proofs.lemmas.Bool.{cases_eq}
use Rattle.std.proofs.lemmas.Bool.Decides.{nat_tests, leb_tells}
use Rattle.std.proofs.lemmas.List.Elements.{Contains-append_left, Contains-append_right, All-contains}
use Rattle.asm_items.specs.declared.item.Item.{Item}
use Rattle.asm_items.specs.declared.item.Item.TheVariants as items
use Rattle.asm_items.specs.Promises.{Keeps}
use Rattle.asm_graphs.specs.Graphs as graphs
use Rattle.low_ir.specs.declared.places.Place.{Place}
use Rattle.low_ir.specs.Code.{Instr, Do, Call, Loop}
use Rattle.low_ir.specs.Formed as formed
use Rattle.low_ir.specs.Places.{Placed}
use Rattle.asm_program.specs.Frames.{Memory}
use Rattle.asm_program.specs.Functions.{PlacedBlock, PlacedFunction, function_in, callees_in, all_callees, callees_of, at_once, ends_at, ends_by, block_count, block_items, blocks_from, leaving_blocks, leave_items, function_items, functions_from, start_items, program_items, items_at, filled, jump_items, loop_of, graph_of}
use Rattle.asm_program.specs.Formed.{IsProgram}
use Rattle.asm_program.proofs.GraphLemmas.{in_map, function_at, below_of, with_loops}
use Rattle.asm_program.proofs.KeepLemmas.{AllCall, block_keeps, leave_keep, start_keeps}

-- what a function calls, a block of it calls

in_callees : (is : List (Instr Place (List ℕ))) (g : ℕ) → AllCall is g → Contains (callees_in is) g
in_callees [] g h = absurd h
in_callees (Do i ∷ is) g (inl h) = absurd h
in_callees (Do i ∷ is) g (inr h) = in_callees is g h
in_callees (Call d callee args note ∷ is) g (inl h) = (0, omega arith, h)
in_callees (Call d callee args note ∷ is) g (inr h) = let r = in_callees is g h in (suc r.0, omega (arith, r.1), r.2)

in_all_callees : (bs : List PlacedBlock) (b : ℕ) (block : PlacedBlock) (g : ℕ) → slice_get bs b ≡ Some block → Contains (callees_in block.code) g → Contains (all_callees bs) g
in_all_callees [] b block g e h = cc
in_all_callees (x ∷ bs) zero block g e h =
    let same : x ≡ block = cc in
    Contains-append_left (callees_in x.code) (all_callees bs) g (subst (λ (y : PlacedBlock). Contains (callees_in y.code) g) (sym same) h)
in_all_callees (x ∷ bs) (suc b) block g e h = Contains-append_right (callees_in x.code) (all_callees bs) g (in_all_callees bs b block g e h)

-- an element of a list, or of one behind it
before_all : {A : Type 0} (xs ys : List A) (n : ℕ) (d : A) → n < length xs → slice_index_or (xs ++ ys) n d ≡ slice_index_or xs n d
before_all [] ys n d h = absurd (omega arith)
before_all (x ∷ xs) ys zero d h = refl
before_all (x ∷ xs) ys (suc n) d h = before_all xs ys n d (omega arith)

behind_all : {A : Type 0} (xs ys : List A) (d : A) → slice_index_or (xs ++ ys) (length xs) d ≡ slice_index_or ys 0 d
behind_all [] ys d = refl
behind_all (x ∷ xs) ys d = behind_all xs ys d

get_some : {A : Type 0} (xs : List A) (n : ℕ) → n < length xs → (x : A) × (slice_get xs n ≡ Some x)
get_some [] n h = absurd (omega arith)
get_some (x ∷ xs) zero h = (x, refl)
get_some (x ∷ xs) (suc n) h = get_some xs n (omega arith)

get_none : {A : Type 0} (xs : List A) → slice_get xs (length xs) ≡ None
get_none [] = refl
get_none (x ∷ xs) = get_none xs

module _ (m : Memory) (p : Placed) where
  pub functions_length : (f : ℕ) (fns : List PlacedFunction) → length (functions_from m p f fns) ≡ length fns
  functions_length f [] = refl
  functions_length f (fn ∷ fns) = ap suc (functions_length (suc f) fns)

  function_at_number : (k : ℕ) (fns : List PlacedFunction) (f : ℕ) → f < length fns → slice_index_or (functions_from m p k fns) f [] ≡ function_items m p (k + f)
  function_at_number k [] f h = absurd (omega arith)
  function_at_number k (fn ∷ fns) zero h = let e : k ≡ k + 0 = omega arith in ap (function_items m p) e
  function_at_number k (fn ∷ fns) (suc f) h = let e : suc k + f ≡ k + suc f = omega arith in function_at_number (suc k) fns f (omega arith) ∙ ap (function_items m p) e

  -- the items of a function
  pub of_function : (f : ℕ) → f < length p.functions → slice_index_or (program_items m p) f [] ≡ function_items m p f
  of_function f h =
      let n = functions_length 0 p.functions in
      let number : 0 + f ≡ f = omega arith in
      before_all (functions_from m p 0 p.functions) (start_items m.second p.main ∷ []) f [] (omega arith) ∙ function_at_number 0 p.functions f h ∙ ap (function_items m p) number

  pub of_start : slice_index_or (program_items m p) (length p.functions) [] ≡ start_items m.second p.main
  of_start =
      ap (λ n. slice_index_or (program_items m p) n []) (sym (functions_length 0 p.functions))
      ∙ behind_all (functions_from m p 0 p.functions) (start_items m.second p.main ∷ []) []

  pub blocks_length : (f b : ℕ) (bs : List PlacedBlock) → length (blocks_from m p f b bs) ≡ length bs
  blocks_length f b [] = refl
  blocks_length f b (x ∷ bs) = ap suc (blocks_length f (suc b) bs)

  block_at_number : (f k : ℕ) (bs : List PlacedBlock) (b : ℕ) (block : PlacedBlock) → slice_get bs b ≡ Some block → slice_index_or (blocks_from m p f k bs) b [] ≡ block_items m p f (k + b) block
  block_at_number f k [] b block e = cc
  block_at_number f k (x ∷ bs) zero block e =
      let same : x ≡ block = cc in
      let number : k ≡ k + 0 = omega arith in
      ap (block_items m p f k) same ∙ ap (λ n. block_items m p f n block) number
  block_at_number f k (x ∷ bs) (suc b) block e =
      let number : suc k + b ≡ k + suc b = omega arith in
      block_at_number f (suc k) bs b block e ∙ ap (λ n. block_items m p f n block) number

  -- the items of a block
  pub of_block : (f b : ℕ) (block : PlacedBlock) → f < length p.functions → slice_get (function_in p f).blocks b ≡ Some block → items_at m p f b ≡ block_items m p f b block
  of_block f b block h e =
      let n = blocks_length f 0 (function_in p f).blocks in
      let less = below_of (function_in p f).blocks b block e in
      let number : 0 + b ≡ b = omega arith in
      ap (λ bs. slice_index_or bs b []) (of_function f h)
      ∙ before_all (blocks_from m p f 0 (function_in p f).blocks) (leaving_blocks m p f (at_once m p f)) b [] (omega arith)
      ∙ block_at_number f 0 (function_in p f).blocks b block e
      ∙ ap (λ n. block_items m p f n block) number

  -- the items of the block that leaves
  of_leaving : (f : ℕ) → f < length p.functions → at_once m p f ≡ false → items_at m p f (length (function_in p f).blocks) ≡ leave_items m p f true 0
  of_leaving f h e =
      ap (λ bs. slice_index_or bs (length (function_in p f).blocks) []) (of_function f h)
      ∙ ap (λ n. slice_index_or (function_items m p f) n []) (sym (blocks_length f 0 (function_in p f).blocks))
      ∙ behind_all (blocks_from m p f 0 (function_in p f).blocks) (leaving_blocks m p f (at_once m p f)) []
      ∙ ap (λ o. slice_index_or (leaving_blocks m p f o) 0 []) e

  not_empty : (f : ℕ) (xs : List Item) → filled m p f xs ≢ []
  not_empty f [] e = cc
  not_empty f (x ∷ xs) e = cc

  leaving_some : (xs : List Item) (x : Item) → xs ++ x ∷ [] ≢ []
  leaving_some [] x e = cc
  leaving_some (y ∷ xs) x e = cc

  module _ (ok : IsProgram p) where
    abbrev HasItems : ℕ → ℕ → Type 0
    HasItems f b = Keeps ((graph_of m p).follows f b) ((graph_of m p).calls f) b (items_at m p f b) × (items_at m p f b ≢ [])

    calls_of : (f : ℕ) → f < length p.functions → (graph_of m p).calls f ≡ callees_of (function_in p f)
    calls_of f h = let e : (f == length p.functions) ≡ false = grind (arith, nat_tests) in ap (λ b. if b then p.main ∷ [] else callees_of (function_in p f)) e

    block_has : (f b : ℕ) (block : PlacedBlock) → f < length p.functions → slice_get (function_in p f).blocks b ≡ Some block → HasItems f b
    block_has f b block h e =
        let is = of_block f b block h e in
        let follows : (graph_of m p).follows f b ≡ ends_at (at_once m p f) (length (function_in p f).blocks) block.end = ap (λ o. ends_by (at_once m p f) (length (function_in p f).blocks) o) e in (
          subst (Keeps ((graph_of m p).follows f b) ((graph_of m p).calls f) b) (sym is)
              (block_keeps m p f ((graph_of m p).follows f b) ((graph_of m p).calls f) b block
              (λ g c. subst (λ xs. Contains xs g) (sym (calls_of f h)) (in_all_callees (function_in p f).blocks b block g e (in_callees block.code g c)))
              (λ n c. subst (λ xs. Contains xs n) (sym follows) c)),
          (λ none. not_empty f _ (sym is ∙ none)),
        )

    leaving_has : (f : ℕ) → f < length p.functions → at_once m p f ≡ false → HasItems f (length (function_in p f).blocks)
    leaving_has f h e =
        let is = of_leaving f h e in
        let b = length (function_in p f).blocks in (
          subst (Keeps ((graph_of m p).follows f b) ((graph_of m p).calls f) b) (sym is) (leave_keep m p f ((graph_of m p).follows f b) ((graph_of m p).calls f) b true (λ z. absurd (let q : true ≡ false = z in cc))),
          (λ none. leaving_some _ _ (sym is ∙ none)),
        )

    start_has : HasItems (length p.functions) 0
    start_has =
        let is = ap (λ bs. slice_index_or bs 0 []) of_start in
        let test : (length p.functions == length p.functions) ≡ true = grind (arith, nat_tests) in
        let calls : (graph_of m p).calls (length p.functions) ≡ p.main ∷ [] = ap (λ b. if b then p.main ∷ [] else callees_of (function_in p (length p.functions))) test in (
          subst (Keeps ((graph_of m p).follows (length p.functions) 0) ((graph_of m p).calls (length p.functions)) 0) (sym is)
              (start_keeps m p (length p.functions) ((graph_of m p).follows (length p.functions) 0) ((graph_of m p).calls (length p.functions)) 0 m.second p.main (subst (λ xs. Contains xs p.main) (sym calls) (0, omega arith, refl))),
          (λ none. let q = sym is ∙ none in cc),
        )

    in_block : (f b : ℕ) → f < length p.functions → b < block_count m p f → (b < length (function_in p f).blocks) ⊎ ((at_once m p f ≡ false) × (b ≡ length (function_in p f).blocks))
    in_block f b h less =
        let e : (f == length p.functions) ≡ false = grind (arith, nat_tests) in
        let count = ap (λ o. if o then 1 else (length (function_in p f).blocks + (if at_once m p f then 0 else 1))) e in
        by_leaves (at_once m p f) refl (omega arith)
      where
        by_leaves : (o : Bool) → at_once m p f ≡ o → b < length (function_in p f).blocks + (if o then 0 else 1) → (b < length (function_in p f).blocks) ⊎ ((at_once m p f ≡ false) × (b ≡ length (function_in p f).blocks))
        by_leaves true e less = inl (omega arith)
        by_leaves false e less =
            ⊎_elim (λ q. let same = q.1 in inr (e, omega arith)) (λ q. let more = q.1 in inl (omega arith)) (leb_tells (length (function_in p f).blocks) b)

    pub items_keep : (f b : ℕ) → f < suc (length p.functions) → b < block_count m p f → HasItems f b
    items_keep f b h less =
        ⊎_elim
        (λ (e : f ≡ length p.functions).
        let test : (f == length p.functions) ≡ true = grind (arith, nat_tests) in
        let count : block_count m p f ≡ 1 = ap (λ o. if o then 1 else (length (function_in p f).blocks + (if at_once m p f then 0 else 1))) test in
        let first : b ≡ 0 = omega arith in
        subst (λ n. HasItems n b) (sym e) (subst (HasItems (length p.functions)) (sym first) start_has))
        (λ (d : f ≢ length p.functions).
        let i : f < length p.functions = omega arith in
        ⊎_elim
        (λ (q : b < length (function_in p f).blocks). let r = get_some (function_in p f).blocks b q in block_has f b r.0 i r.1)
        (λ q. subst (HasItems f) (sym q.1) (leaving_has f i q.0))
        (in_block f b i less))
        (cases_eq f (length p.functions))

    latch_by : (f : ℕ) (l : Loop) → f < length p.functions → formed.IsLoop (function_in p f) l → items_at m p f l.latch ≡ items.Jump true l.header ∷ []
    latch_by f l i h = of_block f l.latch (formed.only_jump l.header) i h.back ∙ by_number l.latch h.latch
      where
        by_number : (b : ℕ) → l.header < b → block_items m p f b (formed.only_jump l.header) ≡ items.Jump true l.header ∷ []
        by_number zero less = absurd (omega arith)
        by_number (suc b) less =
            let e : (l.header == suc (suc b)) ≡ false = grind (arith, nat_tests) in
            ap (λ o. filled m p f (jump_items m p f o l.header)) e

    pub latches_jump : (f : ℕ) (k : graphs.Loop) → Contains ((graph_of m p).loops f) k → items_at m p f k.latch ≡ items.Jump true k.header ∷ []
    latches_jump f k has =
        let r = in_map loop_of (function_in p f).loops k has in
        let i = with_loops m p ok f r.0 r.1 in
        let h = function_at m p ok f i in
        subst (λ (x : graphs.Loop). items_at m p f x.latch ≡ items.Jump true x.header ∷ []) r.2
        (latch_by f r.0 i (All-contains (formed.IsLoop (function_in p f)) (function_in p f).loops r.0 h.loops r.1))
