-- A function of the low program.
use Rattle.std.proofs.Common.{◌≡◌, ℕ, zero, suc, ◌+◌, ◌<◌, ◌≤◌, List, [], ◌∷◌, ◌++◌, length, Option, Some, None, refl, sym, ap, ◌∙◌, subst, inl, arith}
use Rattle.std.specs.Prelude.{max, option_map, slice_get}
use Rattle.std.specs.List.{range_with_len}
use Rattle.std.proofs.lemmas.List.Elements.{All-append}
use Rattle.std.proofs.lemmas.Option.{same_Some, slice_get-map}
use Rattle.high_ir.specs.Standing.{blocks_needed, callees_of, marks_of}
use Rattle.high_ir.specs.Tree as high
use Rattle.low_ir.specs.Code.{Block, Constant, End, Jump, Branch, Return, Low, Note}
use Rattle.low_ir.specs.Formed.{IsFunction, mark_of}
use Rattle.low_ir.specs.Turns.{mark_in}
use Rattle.lower_definition.specs.Calls.{place_in}
use Rattle.lower_definition.specs.Values.{Scope, first_free}
use Rattle.lower_definition.specs.Statements.{Piece, block, marked_by, pieces}
use Rattle.lower_definition.specs.Programs.{body_piece, lowered_function, turned}
use Rattle.lower_nesting.specs.Segments.{AllInside}
use Rattle.lower_nesting.specs.Blocks.{AllMarked, AllOf, Each, EachLoop, Exits, Falls, Goes, LoopAt, Marked}
use Rattle.lower_nesting.proofs.Free.{pieces_free}
use Rattle.lower_nesting.proofs.Loops.{all_loops_inside}
use Rattle.lower_nesting.proofs.Goals.{goes_map}
use Rattle.lower_nesting.proofs.Numbered.{loops_map}
use Rattle.lower_nesting.proofs.Falling.{Below, FallsAt, all_fall, firsts_below}
use Rattle.lower_nesting.proofs.Entering.{Fine, all_fine}
use Rattle.lower_nesting.proofs.Nesting.{all_nest}
use Rattle.lower_nesting.proofs.Marks.{all_marks}
use Rattle.lower_budget.proofs.Naming.{calls_below, marks_below, names_there, range_below, uses_registers}
use Rattle.lower_budget.proofs.Shapes.{all_loops, forward, pairs_turned, stays}
use Rattle.lower_budget.proofs.FormedStatements.{PieceIs, all_ok}
use Rattle.lower_budget.proofs.FormedValues.{ScopeOk}

pub of_all : (P : ℕ → Type 0) (xs : List ℕ) → AllOf P xs → AllOf P (xs ++ [])
of_all P [] h = tt
of_all P (x ∷ xs) h = (h.0, of_all P xs h.1)

any_goes : (e : End ℕ) → Goes (λ j. Unit {0}) e
any_goes (Jump b) = tt
any_goes (Branch c x y taken other) = (tt, tt)
any_goes (Return x) = tt

marked_at : (P : ℕ → Type 0) (bs : List (Block ℕ Note)) (b : ℕ) (x : Block ℕ Note) (m : ℕ) → AllMarked P bs → slice_get bs b ≡ Some x → x.mark ≡ Some m → P m
marked_at P [] b x m h e k = cc
marked_at P (y ∷ bs) zero x m h e k = subst (Marked P) (ap (λ (z : Block ℕ Note). z.mark) (same_Some y x e) ∙ k) h.0
marked_at P (y ∷ bs) (suc b) x m h e k = marked_at P bs b x m h.1 e k

module _ (scope : Scope) (f : ℕ) (h : high.Function) where
  abbrev whole : high.Statements
  whole = high.Then (high.Mark f) (high.Then h.body high.End)

  abbrev behind : Block ℕ Note
  behind = block [] (Return (Constant 0))

  abbrev pub code : Piece
  code = body_piece scope f h.body

  abbrev rest : Piece
  rest = pieces scope (high.Then h.body high.End) [] 0 (first_free scope) behind

  pub free_enough : first_free scope ≤ code.free
  free_enough = pieces_free scope whole [] 0 (first_free scope) behind

  -- the first block has the opening mark
  pub first_mark : code.first.mark ≡ Some f
  first_mark = by_mark rest.first.mark
    where
      by_mark : (o : Option ℕ) → (marked_by o f (0 + length rest.new) rest.first rest.free).first.mark ≡ Some f
      by_mark None = refl
      by_mark (Some m) = refl

  -- all other blocks have marks of the body
  pub rest_marks : (P : ℕ → Type 0) → AllOf P (marks_of h.body) → AllMarked P code.new
  rest_marks P marks =
      let g = all_marks P scope (high.Then h.body high.End) [] 0 (first_free scope) behind (of_all P (marks_of h.body) marks) tt in
      by_mark P rest.first.mark g.0 g.1
    where
      by_mark : (P : ℕ → Type 0) (o : Option ℕ) → Marked P rest.first.mark → AllMarked P rest.new → AllMarked P ((marked_by o f (0 + length rest.new) rest.first rest.free).new ++ rest.new)
      by_mark P None a b = b
      by_mark P (Some m) a b = (a, b)

  module _ (needs : blocks_needed h.body ≡ 0) where
    no_exits : Exits (Below 0) []
    no_exits d inside = absurd (omega (arith, inside))

    none_needed : max 0 (max (blocks_needed h.body) 0) ≤ 0
    none_needed = omega (arith, needs)

    inside : AllInside 0 (length code.new) code.loops
    inside = all_loops_inside scope whole [] 0 (first_free scope) behind

    below : Goes (Below (length code.new)) code.first.end
    below = let g = firsts_below scope whole [] 0 (first_free scope) behind none_needed no_exits tt in goes_map (Below (0 + length code.new)) (Below (length code.new)) code.first.end (λ j x. omega (arith, x)) g.first

    pub falls : Each (FallsAt code.loops) 0 (code.first ∷ code.new)
    falls = (goes_map (Below (length code.new)) (Falls code.loops (0 + length code.new)) code.first.end (λ j x. inl (omega (arith, x))) below, all_fall scope whole [] 0 (first_free scope) behind none_needed no_exits tt)

    pub entering : EachLoop (λ l. Each (LoopAt l) 0 (code.first ∷ code.new)) code.loops
    entering =
        loops_map (Fine 0 code.first code.new) (λ l. Each (LoopAt l) 0 (code.first ∷ code.new)) 0 (length code.new) code.loops inside (all_fine scope whole [] 0 (first_free scope) behind none_needed no_exits tt)
        (λ l at fine.
        let order = at.order in
        let high = at.header in
        (record { latch = λ e. absurd (omega (arith, order, high, e)); well = λ o. fine.0 }, fine.1))

    -- what the program has to have for it
    pub function_is : (q : Low) (i : ℕ) → scope.objects ≤ length q.objects → ScopeOk code.free (length q.claims) scope → AllOf (λ g. place_in scope.order g < i) (callees_of h.body) → AllOf (λ m. m < q.marks) (f ∷ marks_of h.body) → h.values ≤ scope.variables → h.arrays ≡ length scope.claims → ((m g b : ℕ) → m ≡ f → mark_of q g b ≡ Some m → (g ≡ i) × (b ≡ 0)) → IsFunction q i (lowered_function scope f h)
    function_is q i objects ok callees marks values arrays alone =
        let last = length code.new in
        let bs = code.first ∷ code.new in
        let size = code.free in
        let free = free_enough in
        let blocks : PieceIs size (length q.claims) i scope ok code = all_ok size (length q.claims) i scope ok whole [] 0 (first_free scope) behind (omega arith) (of_all (λ g. place_in scope.order g < i) (callees_of h.body) callees) (tt, tt) in
        let all_marked = all_marks (λ m. m < q.marks) scope whole [] 0 (first_free scope) behind (marks.0, of_all (λ m. m < q.marks) (marks_of h.body) marks.1) tt in
        record {
          opens = λ e. let same : Some f ≡ None = sym first_mark ∙ e in cc;
          alone = λ m g b opens at. alone m g b (sym (same_Some f m (sym first_mark ∙ opens))) at;
          marks = marks_below q.marks last bs all_marked;
          parameters = All-append (λ r. r < size) (range_with_len 0 h.values) (range_with_len scope.variables h.arrays) (range_below 0 h.values size (omega (arith, values, free))) (range_below scope.variables h.arrays size (omega (arith, arrays, free)));
          registers = uses_registers q size scope.objects (length q.claims) i objects (omega arith) last bs blocks;
          names = names_there q size scope.objects (length q.claims) i objects (omega arith) last bs blocks;
          calls = calls_below q size scope.objects (length q.claims) i objects (omega arith) last bs blocks;
          stays = λ b n leads. stays (lowered_function scope f h) bs last refl refl b n (λ j x. any_goes x.end) leads;
          forward = λ b n leads low. forward (lowered_function scope f h) bs last refl refl code.loops falls b n leads low;
          loops = all_loops (lowered_function scope f h) bs last refl refl code.loops inside entering;
          nested = pairs_turned last code.loops inside (all_nest scope whole [] 0 (first_free scope) behind);
        }

  -- a mark that is none of the body's is the opening mark
  pub opening_at : (m b limit : ℕ) → m < limit → AllOf (λ x. limit ≤ x) (marks_of h.body) → mark_in (slice_get (lowered_function scope f h).blocks b) ≡ Some m → (f ≡ m) × (b ≡ 0)
  opening_at m zero limit low marks e = (same_Some f m (sym first_mark ∙ e), refl)
  opening_at m (suc b) limit low marks e = by_block (slice_get code.new b) refl (ap mark_in (sym (slice_get-map (turned (length code.new)) code.new b)) ∙ e)
    where
      by_block : (o : Option (Block ℕ Note)) → slice_get code.new b ≡ o → mark_in (option_map (turned (length code.new)) o) ≡ Some m → (f ≡ m) × (suc b ≡ 0)
      by_block None is k = cc
      by_block (Some x) is k = let high = marked_at (λ x. limit ≤ x) code.new b x m (rest_marks (λ x. limit ≤ x) marks) is k in absurd (omega (arith, high, low))
