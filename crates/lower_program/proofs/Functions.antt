-- The code of a function does what a call of the function gives.
use Rattle.std.proofs.Common.{◌≡◌, ℕ, zero, suc, ◌+◌, ◌-◌, ◌<◌, ◌≤◌, ◌^◌, Bool, true, false, List, [], ◌∷◌, ◌++◌, length, map, replicate, Option, Some, None, refl, sym, ap, ◌∙◌, subst, arith, append_assoc, get_or-set_same, get_or-set_other, length-append, length-set}
use Rattle.std.specs.Prelude.{◌==◌, slice_get, slice_index_or, slice_set, option_map}
use Rattle.std.specs.List.{range_with_len}
use Rattle.std.proofs.lemmas.Bool.{and_parts}
use Rattle.std.proofs.lemmas.Bool.Decides.{nat_tests}
use Rattle.std.proofs.lemmas.List.{append-nil, length-map, length-replicate}
use Rattle.std.proofs.lemmas.Option.{same_Some, slice_get-map, slice_get_within}
use Rattle.high_ir.specs.Meaning as high
use Rattle.high_ir.specs.Meaning.{Outcome, Goes, Leaves, Returns, Bad}
use Rattle.high_ir.specs.Runs as runs
use Rattle.high_ir.specs.Tree as tree
use Rattle.low_ir.specs.Code.{Constant, Jump, Return, Block, Low, Note}
use Rattle.low_ir.specs.declared.run.Began.{Began}
use Rattle.low_ir.specs.declared.run.Value.{Value}
use Rattle.low_ir.specs.declared.run.Value.TheVariants.{Word}
use Rattle.low_ir.specs.Effects.{World}
use Rattle.low_ir.specs.Runs.{Going, Waiting, Bank, virtual, begin, block_in, enter, went_to, write_all}
use Rattle.low_ir.specs.Turns.{marks_passed}
use Rattle.lower_definition.specs.Values.{Scope, first_free}
use Rattle.lower_definition.specs.Statements.{block}
use Rattle.lower_definition.specs.Programs.{body_piece, lowered_function, turned}
use Rattle.lower_values.proofs.Writing.{write_inside}
use Rattle.lower_nesting.specs.Segments.{AllInside, Quiet}
use Rattle.lower_nesting.proofs.Pieces.{all_behind, part_above}
use Rattle.lower_nesting.proofs.Free.{pieces_free}
use Rattle.lower_nesting.proofs.Loops.{all_loops_inside}
use Rattle.lower_values.specs.Meeting.{IsClaimed, MeetsFrame, MeetsWorld, array_value, array_values, passed_values}
use Rattle.lower_program.specs.Claims.{built, IsSound, whole}
use Rattle.lower_program.specs.Following.{Goer, Place, IsPlace, Activation, After, Answers, Extent, IsAt, Stand, Meets, Begun, Here, Reached, Returning, Enters, AreSmall}
use Rattle.lower_program.proofs.Steps.{after_map, and_then, now}
use Rattle.lower_program.proofs.Parts.{in_larger, reach_in, reach_then}
use Rattle.lower_program.proofs.Jumps.{begin_block, enters}
use Rattle.lower_program.proofs.Ends.{Ends}
use Rattle.lower_program.proofs.Following.{all_follow}

-- some values to some registers, and then others to others
write_append : (rs rs2 : List ℕ) (xs ys : List Value) (s s1 : Bank) → write_all virtual (Some s) rs xs ≡ Some s1 → write_all virtual (Some s) (rs ++ rs2) (xs ++ ys) ≡ write_all virtual (Some s1) rs2 ys
write_append [] rs2 [] ys s s1 e = ap (λ o. write_all virtual o rs2 ys) e
write_append [] rs2 (x ∷ xs) ys s s1 e = cc
write_append (r ∷ rs) rs2 [] ys s s1 e = cc
write_append (r ∷ rs) rs2 (x ∷ xs) ys s s1 e = by_write (virtual.write s r x) e (λ s2 f. write_append rs rs2 xs ys s2 s1 f)
  where
    by_write : (o : Option Bank) → write_all virtual o rs xs ≡ Some s1 → ((s2 : Bank) → write_all virtual (Some s2) rs xs ≡ Some s1 → write_all virtual (Some s2) (rs ++ rs2) (xs ++ ys) ≡ write_all virtual (Some s1) rs2 ys) → write_all virtual o (rs ++ rs2) (xs ++ ys) ≡ write_all virtual (Some s1) rs2 ys
    by_write None e go = cc
    by_write (Some s2) e go = go s2 e

-- values in registers in a row
record Ranged (a : ℕ) (xs : List Value) (s : Bank) : Type 0 where
  store : Bank
  does : write_all virtual (Some s) (range_with_len a (length xs)) xs ≡ Some store
  size : length store ≡ length s
  inside : (i : ℕ) (x : Value) → slice_get xs i ≡ Some x → slice_index_or store (a + i) None ≡ Some x
  below : (q : ℕ) → q < a → slice_index_or store q None ≡ slice_index_or s q None

ranged : (a : ℕ) (xs : List Value) (s : Bank) → a + length xs ≤ length s → Ranged a xs s
ranged a [] s room = record { store = s; does = refl; size = refl; inside = λ i x e. cc; below = λ q low. refl }
ranged a (x ∷ xs) s room =
    let s1 = slice_set s a (Some x) in
    let size1 = length-set s a (Some x) in
    let there : a < length s = omega (arith, room) in
    let r = ranged (a + 1) xs s1 (omega (arith, room, size1)) in
    record {
      store = r.store;
      does = ap (λ o. write_all virtual o (range_with_len (a + 1) (length xs)) xs) (write_inside s a x there) ∙ r.does;
      size = r.size ∙ size1;
      inside = in_order a x xs s1 r (get_or-set_same s a (Some x) None there);
      below = λ q low. r.below q (omega (arith, low)) ∙ get_or-set_other s a q (Some x) None (λ e. omega (arith, e, low));
    }
  where
    in_order : (a : ℕ) (x : Value) (xs : List Value) (s1 : Bank) (r : Ranged (a + 1) xs s1) → slice_index_or s1 a None ≡ Some x → (i : ℕ) (y : Value) → slice_get (x ∷ xs) i ≡ Some y → slice_index_or r.store (a + i) None ≡ Some y
    in_order a x xs s1 r is zero y e = let same : a + 0 ≡ a = omega arith in ap (λ i. slice_index_or r.store i None) same ∙ r.below a (omega arith) ∙ is ∙ e
    in_order a x xs s1 r is (suc i) y e = let same : a + suc i ≡ a + 1 + i = omega arith in ap (λ i. slice_index_or r.store i None) same ∙ r.inside i y e

passed-append : (objects : ℕ) (vs ns : List ℕ) → passed_values objects vs ns ≡ map Word vs ++ array_values objects ns
passed-append objects [] ns = refl
passed-append objects (v ∷ vs) ns = ap (λ xs. Word v ∷ xs) (passed-append objects vs ns)

-- the variables of a frame that have a value are those that were passed
none_read : (n x v : ℕ) → slice_index_or (replicate n None) x None ≡ Some v → ⊥
none_read zero x v e = cc
none_read (suc n) zero v e = cc
none_read (suc n) (suc x) v e = none_read n x v e

frame_read : (vs : List ℕ) (n x v : ℕ) → slice_index_or (map Some vs ++ replicate n None) x None ≡ Some v → slice_get vs x ≡ Some v
frame_read [] n x v e = absurd (none_read n x v e)
frame_read (y ∷ vs) n zero v e = e
frame_read (y ∷ vs) n (suc x) v e = frame_read vs n x v e

small_at : (vs : List ℕ) (x v : ℕ) → AreSmall vs → slice_get vs x ≡ Some v → v < 2 ^ 32
small_at [] x v h e = cc
small_at (y ∷ vs) zero v h e = subst (λ n. n < 2 ^ 32) (same_Some y v e) h.0
small_at (y ∷ vs) (suc x) v h e = small_at vs x v h.1 e

-- all blocks of a function stand in it
slice_get_seam : {A : Type 0} (pre : List A) (b : A) (bs : List A) → slice_get (pre ++ b ∷ bs) (length pre) ≡ Some b
slice_get_seam [] b bs = refl
slice_get_seam (x ∷ pre) b bs = slice_get_seam pre b bs

module _ (q : Low) (at : Place) (is_place : IsPlace q at) where
  stand_from : (pre suf : List (Block ℕ Note)) → at.blocks ≡ pre ++ suf → Stand q at 0 suf
  stand_from pre [] e = tt
  stand_from pre (b ∷ bs) e =
      let count = is_place.count in
      let total : length at.blocks ≡ length pre + suc (length bs) = ap length e ∙ length-append pre (b ∷ bs) in
      let index : at.last - (0 + length bs) ≡ length pre = omega (arith, count, total) in
      let is : IsAt q at (0 + length bs) b = record {
        below = omega (arith, count, total);
        block =
            ap (λ i. slice_get at.code.blocks i) index
            ∙ ap (λ xs. slice_get xs (length pre)) is_place.blocks
            ∙ slice_get-map (turned at.last) at.blocks (length pre)
            ∙ ap (λ xs. option_map (turned at.last) (slice_get xs (length pre))) e
            ∙ ap (option_map (turned at.last)) (slice_get_seam pre b bs);
      } in
      (is, stand_from (pre ++ b ∷ []) bs (e ∙ sym (append_assoc pre (b ∷ []) bs)))

-- the registers at a call
record Started (q : Low) (scope : Scope) (h : tree.Function) (size : ℕ) (vs ns : List ℕ) : Type 0 where
  store : Bank
  does : write_all virtual (Some (virtual.empty size)) (range_with_len 0 h.values ++ range_with_len scope.variables h.arrays) (passed_values scope.objects vs ns) ≡ Some store
  size_is : length store ≡ size
  frame : MeetsFrame scope q.claims ns (runs.frame h vs) store

started : (q : Low) (scope : Scope) (at : Place) (h : tree.Function) (size : ℕ) (vs ns : List ℕ) → at.scope ≡ scope → scope.variables ≡ h.values + h.locals → length scope.claims ≡ h.arrays → length vs ≡ h.values → length ns ≡ h.arrays → first_free scope ≤ size → AreSmall vs → Enters q at ns → Started q scope h size vs ns
started q scope at h size vs ns is_scope variables claims values arrays free small enters =
    let s0 = virtual.empty size in
    let empty : length s0 ≡ size = length-replicate {A = Option Value} size None in
    let words = map Word vs in
    let pointers = array_values scope.objects ns in
    let n_words : length words ≡ h.values = length-map vs Word ∙ values in
    let n_pointers : length pointers ≡ h.arrays = length-map ns (array_value scope.objects) ∙ arrays in
    let a = ranged 0 words s0 (omega (arith, n_words, empty, free, variables)) in
    let size_a = a.size in
    let b = ranged scope.variables pointers a.store (omega (arith, n_pointers, size_a, empty, free, claims)) in
    record {
      store = b.store;
      does =
          ap (λ n. write_all virtual (Some s0) (range_with_len 0 n ++ range_with_len scope.variables h.arrays) (passed_values scope.objects vs ns)) (sym n_words)
          ∙ ap (λ n. write_all virtual (Some s0) (range_with_len 0 (length words) ++ range_with_len scope.variables n) (passed_values scope.objects vs ns)) (sym n_pointers)
          ∙ ap (write_all virtual (Some s0) (range_with_len 0 (length words) ++ range_with_len scope.variables (length pointers))) (passed-append scope.objects vs ns)
          ∙ write_append (range_with_len 0 (length words)) (range_with_len scope.variables (length pointers)) words pointers s0 a.store a.does
          ∙ b.does;
      size_is = b.size ∙ a.size ∙ empty;
      frame = record {
        variables = λ x v e.
            let got = frame_read vs h.locals x v e in
            let low = slice_get_within vs x v got in
            let word : slice_get words x ≡ Some (Word v) = slice_get-map Word vs x ∙ ap (option_map Word) got in
            let same : 0 + x ≡ x = omega arith in
            b.below x (omega (arith, low, values, variables)) ∙ ap (λ i. slice_index_or a.store i None) (sym same) ∙ a.inside x (Word v) word;
        words = λ x v e. small_at vs x v small (frame_read vs h.locals x v e);
        count = length-append (map Some vs) (replicate h.locals None) ∙ (let m : length (map Some vs) ≡ h.values = length-map vs Some ∙ values in let l : length (replicate {A = Option ℕ} h.locals None) ≡ h.locals = length-replicate {A = Option ℕ} h.locals None in omega (arith, m, l, variables));
        arrays = arrays ∙ sym claims;
        pointers = λ j o e.
            let pointer_is : slice_get pointers j ≡ Some (array_value scope.objects o) = slice_get-map (array_value scope.objects) ns j ∙ ap (option_map (array_value scope.objects)) e in
            let within = slice_get_within ns j o e in
            let same : length at.scope.claims ≡ length scope.claims = ap (λ (sc : Scope). length sc.claims) is_scope in
            let low : j < length at.scope.claims = omega (arith, within, arrays, claims, same) in
            record { held = b.inside j (array_value scope.objects o) pointer_is; claimed = subst (λ sc. o < sc.objects → IsClaimed sc q.claims j o) is_scope (enters j o e low) };
      };
    }

module _ (q : Low) (sem : high.Calls) (number : ℕ) (scope : Scope) (f : ℕ) (h : tree.Function) (there : slice_get q.functions number ≡ Some (lowered_function scope f h)) where
  abbrev pub here : Place
  here = built number scope f h

  pub is_here : IsPlace q here
  is_here = record { function = there; blocks = refl; count = refl }

  -- the outcome of a function's body
  abbrev body_state : List ℕ → high.World → List ℕ → high.State
  body_state vs w trace = record { variables = runs.frame h vs; world = w; trace = trace ++ f ∷ [] }

  -- what a call gives is what the body returns
  record Gave (vs ns : List ℕ) (w : high.World) (trace : List ℕ) (g : high.Given) : Type 0 where
    takes : runs.takes h vs ns ≡ true
    is : high.run Some sem ns h.body (body_state vs w trace) ≡ Returns g.value g.world g.trace

  returned : (o : Outcome) (g : high.Given) → runs.given o ≡ Some g → o ≡ Returns g.value g.world g.trace
  returned (Goes st) g e = cc
  returned (Leaves d st) g e = cc
  returned (Returns v w t) g e = ap (λ (x : high.Given). Returns x.value x.world x.trace) (same_Some (record { value = v; world = w; trace = t }) g e)
  returned Bad g e = cc

  gave : (vs ns : List ℕ) (w : high.World) (trace : List ℕ) (g : high.Given) → runs.given (runs.only_good (runs.takes h vs ns) (high.then_do (high.pass (Some f) (record { variables = runs.frame h vs; world = w; trace = trace })) (high.run Some sem ns h.body))) ≡ Some g → Gave vs ns w trace g
  gave vs ns w trace g e = by_takes (runs.takes h vs ns) refl e
    where
      by_takes : (b : Bool) → runs.takes h vs ns ≡ b → runs.given (runs.only_good b (high.run Some sem ns h.body (body_state vs w trace))) ≡ Some g → Gave vs ns w trace g
      by_takes false t e = cc
      by_takes true t e = record { takes = t; is = returned (high.run Some sem ns h.body (body_state vs w trace)) g e }

  test_same : (a b : ℕ) → (a == b) ≡ true → a ≡ b
  test_same a b t = grind (arith, nat_tests, t)

  -- a call of the function
  pub function_does : scope.variables ≡ h.values + h.locals → length scope.claims ≡ h.arrays → IsSound q here sem h.body → (vs ns : List ℕ) (w : high.World) (trace : List ℕ) (g : high.Given) → runs.enter Some (Some h) sem f vs ns w trace ≡ Some g → AreSmall vs → Enters q here ns → (below : List (Waiting ℕ Note Bank)) (u : World) → MeetsWorld scope w u → marks_passed q u.trace ≡ trace → After q (begin below u number here.code (write_all virtual (Some (virtual.empty here.code.size)) here.code.parameters (passed_values scope.objects vs ns))) (Answers q here (record { passed = ns; below = below }) g u.trace)
  function_does variables claims sound vs ns w trace g e small among below u world marks =
      let k = gave vs ns w trace g e in
      let parts = and_parts (length vs == h.values) (length ns == h.arrays) k.takes in
      let p = body_piece scope f h.body in
      let last = length p.new in
      let body = tree.Then (tree.Mark f) (tree.Then h.body tree.End) in
      let behind : Block ℕ Note = block [] (Return (Constant 0)) in
      let free : first_free scope ≤ p.free = pieces_free scope body [] 0 (first_free scope) behind in
      let st = started q scope here h p.free vs ns refl variables claims (test_same (length vs) h.values parts.0) (test_same (length ns) h.arrays parts.1) free small among in
      let act : Activation = record { passed = ns; below = below } in
      let state : high.State = record { variables = runs.frame h vs; world = w; trace = trace } in
      let r0 : Goer = record { top = record { func = number; code = []; end = Jump 0; store = st.store }; below = below; world = u } in
      let zero_is : last - last ≡ 0 = omega arith in
      let first : IsAt q here last p.first = record { below = omega arith; block = ap (slice_get here.code.blocks) zero_is } in
      let meets : Meets q here act state None r0 = record { function = refl; below = refl; size = st.size_is; world = world; frame = st.frame; marks = marks ∙ sym (append-nil trace) } in
      let entered : After q (went_to q r0 (last - last)) (Begun q here act last state u.trace) = begin_block q here is_here act state last p.first r0 first meets in
      let start : begin below u number here.code (write_all virtual (Some (virtual.empty here.code.size)) here.code.parameters (passed_values scope.objects vs ns)) ≡ went_to q r0 (last - last) =
      ap (begin below u number here.code) st.does
      ∙ ap (λ i. enter r0 i (slice_get here.code.blocks i)) (sym zero_is)
      ∙ ap (λ o. enter r0 (last - last) (block_in o (last - last))) (sym there) in
      let x = whole 0 p in
      let whole_body : Extent = record { from = 0; count = suc last; loops = p.loops } in
      let inside : AllInside 0 last p.loops = all_loops_inside scope body [] 0 (first_free scope) behind in
      let to_return = Returning q here act g.value g.world g.trace in
      let follow : (so_far : List Began) (r : Goer) → Here q here act p.first state so_far r → After q (Going r) (Reached q here act x so_far to_return) =
      λ so_far r h. subst (λ o. Ends q here is_here act x so_far r behind [] (high.then_do o (high.run_all Some sem ns tree.End))) k.is
      (all_follow q here is_here act sem body (tt, (sound, tt)) [] 0 (first_free scope) behind state so_far r
      (record { free = omega arith; outs = λ d. omega arith; behind = tt })
      (record { registers = omega arith; blocks = omega arith; stand = stand_from q here is_here (p.first ∷ []) p.new refl }) h) in
      let all : After q (went_to q r0 (last - last)) (Reached q here act whole_body u.trace to_return) =
      and_then q (went_to q r0 (last - last)) (Begun q here act last state u.trace) (Reached q here act whole_body u.trace to_return) entered
      (λ r b.
      let e = enters q here is_here act whole_body last state p.first u.trace r (omega arith) (omega arith) (all_behind number last last 1 0 last p.loops (omega arith) inside) first b in
      reach_then q here act whole_body u.trace (Going r) (Here q here act p.first state) to_return (now q r (Reached q here act whole_body u.trace (Here q here act p.first state)) e)
      (λ t z h. reach_in q here act x whole_body t (Going z) to_return (in_larger q here 0 last 0 (suc last) p.loops (omega arith) (omega arith)) (follow t z h))) in
      subst (λ z. After q z (Answers q here act g u.trace)) (sym start)
      (after_map q (went_to q r0 (last - last)) (Reached q here act whole_body u.trace to_return) (Answers q here act g u.trace) all
      (λ r a.
      let at_end : a.now ≡ r.world.trace = sym a.holds.began in
      record {
        returning = subst (λ t. Returning q here act g.value g.world g.trace t r) at_end a.holds;
        quiet = subst (Quiet q (suc number) u.trace) at_end (part_above number last q 0 (suc last) p.loops u.trace a.now here.code there refl a.part);
      }))
