-- The start code alone exits, so that exits stand in the order of their addresses.
use Rattle.std.proofs.Common.{◌≡◌, ℕ, zero, suc, ◌+◌, ◌%◌, ◌<◌, Bool, true, false, List, [], ◌∷◌, ◌++◌, length, Some, None, refl, sym, ap, ◌∙◌, subst, arith}
use Rattle.std.specs.Prelude.{◌==◌, ◌&&◌, not, All, if◌then◌else◌, slice_index, slice_index_or}
use Rattle.std.proofs.lemmas.Bool.Decides.{nat_tests}
use Rattle.std.proofs.lemmas.List.{append-nil}
use Rattle.std.proofs.lemmas.List.Elements.{All-cons, All-nil}
use Rattle.rv_core.specs.declared.row.Condition.{Condition}
use Rattle.rv_core.specs.Instructions.{Instruction}
use Rattle.code_flow_system.specs.Claims.{exit_flaws, is_above, is_aligned}
use Rattle.asm_items.specs.declared.item.Item.{Item}
use Rattle.asm_items.specs.declared.item.Item.TheVariants as items
use Rattle.asm_items.specs.Items.{size, total}
use Rattle.asm_items.specs.Placings.{Blocks, blocks_size}
use Rattle.asm_items.specs.Standing.{is_exit}
use Rattle.asm_items.proofs.MoveLemmas.{size_aligned, size_some}
use Rattle.asm_writing.specs.Forms.{AreLike, IsLike}
use Rattle.asm_forms.specs.Laid.{BlocksLike}
use Rattle.asm_forms.specs.Regions.{bases_of}
use Rattle.asm_forms.proofs.LikeLemmas.{formed_like}
use Rattle.asm_placed.specs.Exits.{blocks_exits, exits_of, functions_exits, items_exits}
use Rattle.asm_graphs.specs.Promised.{blocks_in}
use Rattle.asm_placed.proofs.Alike.{blocks_alike}
use Rattle.asm_placed.proofs.Spread.{bases_fours}
use Rattle.low_ir.specs.declared.places.Place.{Place}
use Rattle.low_ir.specs.Code.{Instr, Do, Call, End, Jump, Branch, Return}
use Rattle.asm_program.specs.Frames.{Memory, frame_of}
use Rattle.asm_program.specs.Emission.{before_call, behind_call, plain_code}
use Rattle.asm_program.specs.Operands.{into_code, operand_code, operand_register}
use Rattle.asm_program.specs.Numbers.{first_free, result, second_free}
use Rattle.asm_program.specs.Functions.{PlacedBlock, at_once, blocks_from, body_items, end_items, entry_code, exit_code, filled, function_items, instr_items, is_leaf, jump_items, leave_items, leaving_blocks, opening_items, own_frame, own_function, passed_in, program_items, singles, two_way_items}
use Rattle.asm_program.proofs.ItemLemmas.{of_function}
use Rattle.low_ir.specs.Places.{Placed}
use Rattle.claims_definition.specs.ClaimLaws.{IsSettled}
use Rattle.claims_definition.specs.Listed.{Laid, functions_of}
use Rattle.claims_definition.proofs.Spaces.{items_fours}
use Rattle.claims_definition.proofs.Blocks.{count}
use Rattle.claims_definition.proofs.Spaces.{Between, append, wider}

-- items and blocks without an exit
abbrev Quiet : List Item → Type 0
Quiet [] = Unit {0}
Quiet (x ∷ xs) = (is_exit x ≡ false) × Quiet xs

abbrev AllQuiet : Blocks → Type 0
AllQuiet [] = Unit {0}
AllQuiet (xs ∷ bs) = Quiet xs × AllQuiet bs

quiet_append : (xs ys : List Item) → Quiet xs → Quiet ys → Quiet (xs ++ ys)
quiet_append [] ys h k = k
quiet_append (x ∷ xs) ys h k = (h.0, quiet_append xs ys h.1 k)

all_append : (xs ys : Blocks) → AllQuiet xs → AllQuiet ys → AllQuiet (xs ++ ys)
all_append [] ys h k = k
all_append (x ∷ xs) ys h k = (h.0, all_append xs ys h.1 k)

singles_quiet : (is : List Instruction) → Quiet (singles is)
singles_quiet [] = tt
singles_quiet (i ∷ is) = (refl, singles_quiet is)

-- whichever forms they have
like_exit : (x y : Item) → IsLike x y → is_exit y ≡ is_exit x
like_exit (items.Single i) y h = ap is_exit h
like_exit (items.Jump far n) y h = ap is_exit h.1
like_exit (items.Call far f) y h = ap is_exit h.1
like_exit (items.Branch form c u v n) y h = ap is_exit h.1
like_exit items.Return y h = ap is_exit h
like_exit items.Exit y h = ap is_exit h

quiet_like : (xs ys : List Item) → AreLike xs ys → Quiet xs → Quiet ys
quiet_like [] ys h q = subst Quiet (sym h) tt
quiet_like (x ∷ xs) [] h q = tt
quiet_like (x ∷ xs) (y ∷ ys) h q = (like_exit x y h.0 ∙ q.0, quiet_like xs ys h.1 q.1)

all_like : (bs cs : Blocks) → BlocksLike bs cs → AllQuiet bs → AllQuiet cs
all_like [] cs h q = subst AllQuiet (sym h) tt
all_like (b ∷ bs) [] h q = tt
all_like (b ∷ bs) (c ∷ cs) h q = (quiet_like b c h.0 q.0, all_like bs cs h.1 q.1)

items_none : (a : ℕ) (xs : List Item) → Quiet xs → items_exits a xs ≡ []
items_none a [] h = refl
items_none a (x ∷ xs) h = ap (λ b. if b then a ∷ items_exits (a + size x) xs else items_exits (a + size x) xs) h.0 ∙ items_none (a + size x) xs h.1

blocks_none : (a : ℕ) (bs : Blocks) → AllQuiet bs → blocks_exits a bs ≡ []
blocks_none a [] h = refl
blocks_none a (xs ∷ bs) h = ap (λ es. es ++ blocks_exits (a + total xs) bs) (items_none a xs h.0) ∙ blocks_none (a + total xs) bs h.1

-- functions have none
module _ (m : Memory) (p : Placed) (f : ℕ) where
  jump_quiet : (b : Bool) (n : ℕ) → Quiet (jump_items m p f b n)
  jump_quiet true n = tt
  jump_quiet false n = (refl, tt)

  two_way_quiet : (next : Bool) (b : ℕ) (condition : Condition) (x y taken other : ℕ) → Quiet (two_way_items m p f next b condition x y taken other)
  two_way_quiet true b condition x y taken other = (refl, tt)
  two_way_quiet false b condition x y taken other = (refl, jump_quiet (other == suc b) other)

  leave_quiet : (leaves : Bool) (b : ℕ) → Quiet (leave_items m p f leaves b)
  leave_quiet true b = quiet_append (singles (exit_code (is_leaf (own_function m p f)) (own_frame m p f))) (items.Return ∷ []) (singles_quiet (exit_code (is_leaf (own_function m p f)) (own_frame m p f))) (refl, tt)
  leave_quiet false b = let last = length (own_function m p f).blocks in jump_quiet (last == suc b) last

  end_quiet : (b : ℕ) (end : End Place) → Quiet (end_items m p f b end)
  end_quiet b (Jump n) = jump_quiet (n == suc b) n
  end_quiet b (Branch condition x y taken other) =
      let code = operand_code (own_frame m p f) first_free x ++ operand_code (own_frame m p f) second_free y in
      let left = operand_register (own_frame m p f) first_free x in
      let right = operand_register (own_frame m p f) second_free y in
      quiet_append (singles code) _ (singles_quiet code) (two_way_quiet (taken == suc b) b condition left right taken other)
  end_quiet b (Return x) = quiet_append (singles (into_code (own_frame m p f) result x)) _ (singles_quiet (into_code (own_frame m p f) result x)) (leave_quiet (at_once m p f) b)

  instr_quiet : (i : Instr Place (List ℕ)) (rest : List Item) → Quiet rest → Quiet (instr_items m p f i rest)
  instr_quiet (Do i) rest h = quiet_append (singles (plain_code (own_frame m p f) m i)) rest (singles_quiet (plain_code (own_frame m p f) m i)) h
  instr_quiet (Call d callee args note) rest h =
      let before = before_call (own_frame m p f) (frame_of m callee) (passed_in m p f callee args) note args in
      let behind = behind_call (own_frame m p f) d (passed_in m p f callee args) note in
      quiet_append (singles before) (items.Call true callee ∷ (singles behind ++ rest)) (singles_quiet before) (refl, quiet_append (singles behind) rest (singles_quiet behind) h)

  body_quiet : (b : ℕ) (is : List (Instr Place (List ℕ))) (end : End Place) → Quiet (body_items m p f b is end)
  body_quiet b [] end = end_quiet b end
  body_quiet b (i ∷ is) end = instr_quiet i (body_items m p f b is end) (body_quiet b is end)

  filled_quiet : (xs : List Item) → Quiet xs → Quiet (filled m p f xs)
  filled_quiet [] h = (refl, tt)
  filled_quiet (x ∷ xs) h = h

  opening_quiet : (b : ℕ) → Quiet (opening_items m p f b)
  opening_quiet zero = singles_quiet (entry_code (is_leaf (own_function m p f)) (own_frame m p f))
  opening_quiet (suc b) = tt

  blocks_quiet : (b : ℕ) (bs : List PlacedBlock) → AllQuiet (blocks_from m p f b bs)
  blocks_quiet b [] = tt
  blocks_quiet b (x ∷ xs) =
      (filled_quiet (opening_items m p f b ++ body_items m p f b x.code x.end) (quiet_append (opening_items m p f b) (body_items m p f b x.code x.end) (opening_quiet b) (body_quiet b x.code x.end)), blocks_quiet (suc b) xs)

  leaving_quiet : (b : Bool) → AllQuiet (leaving_blocks m p f b)
  leaving_quiet true = tt
  leaving_quiet false = (leave_quiet true 0, tt)

  function_quiet : AllQuiet (function_items m p f)
  function_quiet = all_append (blocks_from m p f 0 (own_function m p f).blocks) (leaving_blocks m p f (at_once m p f)) (blocks_quiet 0 (own_function m p f).blocks) (leaving_quiet (at_once m p f))

abbrev at_of : ℕ → ℕ
at_of x = x

abbrev IsGood : ℕ → Type 0
IsGood x = x % 4 ≡ 0

abbrev ExitsBetween : ℕ → List ℕ → ℕ → Type 0
ExitsBetween a xs end = Between ℕ at_of IsGood a xs end

items_between : (a : ℕ) (xs : List Item) → a % 4 ≡ 0 → ExitsBetween a (items_exits a xs) (a + total xs)
items_between a [] e = omega arith
items_between a (x ∷ xs) e =
    let fours = size_aligned x in
    let some = size_some x in
    by_exit (is_exit x) (wider ℕ at_of IsGood (a + size x) (a + 4) (items_exits (a + size x) xs) (a + size x + total xs) (a + total (x ∷ xs)) (omega (arith, some)) (omega arith) (items_between (a + size x) xs (omega (arith, e, fours))))
  where
    by_exit : (b : Bool) → ExitsBetween (a + 4) (items_exits (a + size x) xs) (a + total (x ∷ xs)) → ExitsBetween a (if b then a ∷ items_exits (a + size x) xs else items_exits (a + size x) xs) (a + total (x ∷ xs))
    by_exit true h = (omega arith, (e, h))
    by_exit false h = wider ℕ at_of IsGood (a + 4) a (items_exits (a + size x) xs) (a + total (x ∷ xs)) (a + total (x ∷ xs)) (omega arith) (omega arith) h

blocks_between : (a : ℕ) (bs : Blocks) → a % 4 ≡ 0 → ExitsBetween a (blocks_exits a bs) (a + blocks_size bs)
blocks_between a [] e = omega arith
blocks_between a (xs ∷ bs) e =
    let fours = items_fours xs in
    append ℕ at_of IsGood a (items_exits a xs) (blocks_exits (a + total xs) bs) (a + total xs) (a + blocks_size (xs ∷ bs)) (items_between a xs e)
    (wider ℕ at_of IsGood (a + total xs) (a + total xs) (blocks_exits (a + total xs) bs) (a + total xs + blocks_size bs) (a + blocks_size (xs ∷ bs)) (omega arith) (omega arith) (blocks_between (a + total xs) bs (omega (arith, e, fours))))

-- none of them is bad
abbrev Holds : Bool → Type 0
Holds flaw = flaw ≡ false

aligned : (a : ℕ) → a % 4 ≡ 0 → is_aligned a ≡ true
aligned a e = grind (arith, nat_tests, e)

no_flaw : (a b : Bool) → a ≡ true → b ≡ true → not (a && b) ≡ false
no_flaw true true h k = refl
no_flaw true false h k = cc
no_flaw false b h k = cc

rest_sound : (b a : ℕ) (xs : List ℕ) (end : ℕ) → b < a → ExitsBetween a xs end → All Holds (exit_flaws (Some b) xs)
rest_sound b a [] end low h = All-nil Holds
rest_sound b a (x ∷ xs) end low h =
    let from = h.0 in
    let above : is_above (Some b) x ≡ true = grind (arith, nat_tests, from, low) in
    All-cons Holds (not (is_aligned x && is_above (Some b) x)) (exit_flaws (Some x) xs) (no_flaw (is_aligned x) (is_above (Some b) x) (aligned x h.1.0) above) (rest_sound x (x + 4) xs end (omega arith) h.1.1)

sound : (a : ℕ) (xs : List ℕ) (end : ℕ) → ExitsBetween a xs end → All Holds (exit_flaws None xs)
sound a [] end h = All-nil Holds
sound a (x ∷ xs) end h = All-cons Holds (not (is_aligned x && is_above None x)) (exit_flaws (Some x) xs) (no_flaw (is_aligned x) true (aligned x h.1.0) refl) (rest_sound x (x + 4) xs end (omega arith) h.1.1)

-- where all functions but the last one have no exit
last_exits : (bases : List ℕ) (k : ℕ) (fs : List Blocks) (n : ℕ) → length fs ≡ suc n → ((j : ℕ) → j < n → AllQuiet (slice_index_or fs j [])) → functions_exits bases k fs ≡ blocks_exits (slice_index bases (k + n)) (slice_index_or fs n [])
last_exits bases k [] n e quiet = absurd (omega (arith, e))
last_exits bases k (bs ∷ []) zero e quiet = let z : k ≡ k + 0 = omega arith in append-nil (blocks_exits (slice_index bases k) bs) ∙ ap (λ i. blocks_exits (slice_index bases i) bs) z
last_exits bases k (bs ∷ []) (suc n) e quiet = absurd (omega (arith, e))
last_exits bases k (bs ∷ cs ∷ fs) zero e quiet = absurd (omega (arith, e))
last_exits bases k (bs ∷ cs ∷ fs) (suc n) e quiet =
    let z : suc k + n ≡ k + suc n = omega arith in
    ap (λ es. es ++ functions_exits bases (suc k) (cs ∷ fs)) (blocks_none (slice_index bases k) bs (quiet 0 (omega arith)))
    ∙ last_exits bases (suc k) (cs ∷ fs) n (omega (arith, e)) (λ j low. quiet (suc j) (omega (arith, low)))
    ∙ ap (λ i. blocks_exits (slice_index bases i) (slice_index_or (cs ∷ fs) n [])) z

module _ (l : Laid) (is : IsSettled l) where
  functions_quiet : (f : ℕ) → f < length l.program.functions → AllQuiet (slice_index_or (functions_of l) f [])
  functions_quiet f low =
      let fs = program_items l.memory l.program in
      all_like (blocks_in fs f) (blocks_in (functions_of l) f) (blocks_alike fs (functions_of l) f (formed_like l.rows fs)) (subst AllQuiet (sym (of_function l.memory l.program f low)) (function_quiet l.memory l.program f))

  pub exits_sound : All (λ (flaw : Bool). flaw ≡ false) (exit_flaws None (exits_of l.rows (functions_of l)))
  exits_sound =
      let gs = functions_of l in
      let n = length l.program.functions in
      let bases = bases_of l.rows gs in
      let at = slice_index bases n in
      let bs = slice_index_or gs n [] in
      let z : 0 + n ≡ n = omega arith in
      let same : exits_of l.rows gs ≡ blocks_exits at bs = last_exits bases 0 gs n (count l is) functions_quiet ∙ ap (λ i. blocks_exits (slice_index bases i) bs) z in
      let fours = bases_fours l.rows.placed 0 l.rows.flash l.rows.scratchpad gs n is.rows.flash is.rows.scratchpad in
      subst (λ es. All Holds (exit_flaws None es)) (sym same) (sound at (blocks_exits at bs) (at + blocks_size bs) (blocks_between at bs fours))
