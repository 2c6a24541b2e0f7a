-- Accesses stand in the order of their addresses, and each may touch some region.
use Rattle.std.proofs.Common.{◌≡◌, ℕ, zero, suc, ◌+◌, ◌%◌, ◌<◌, ◌≤◌, Bool, true, false, List, [], ◌∷◌, ◌++◌, length, map, refl, sym, ap, ◌∙◌, arith}
use Rattle.std.specs.Prelude.{◌||◌, All, slice_index_or}
use Rattle.std.proofs.lemmas.List.Elements.{All-head, All-nil, All-tail}
use Rattle.rv_core.specs.declared.regions.Region.{Region}
use Rattle.rv_core.specs.declared.regions.Region.TheVariants.{Flash, Spm, Ram}
use Rattle.rv_core.specs.Rows.{row_of}
use Rattle.rv_core.specs.Table.{accesses}
use Rattle.asm_items.specs.declared.item.Item.{Item}
use Rattle.asm_items.specs.declared.item.Item.TheVariants as items
use Rattle.asm_items.specs.Items.{size, total}
use Rattle.asm_items.specs.Placings.{Blocks, blocks_size}
use Rattle.asm_items.proofs.MoveLemmas.{size_aligned, size_some}
use Rattle.low_ir.specs.declared.places.Place.{Place}
use Rattle.low_ir.specs.Code.{Address, Base, Fixed, Through, Set, Operate, Point, Load, Store, Put, Get, Instr, Do, Call, End}
use Rattle.low_ir.specs.Formed.{BlockNamesThere, IsClaim, IsThere, NamesThere, base_claims, base_objects}
use Rattle.low_ir.specs.Places.{Placed}
use Rattle.asm_program.specs.Numbers.{first_free, second_free}
use Rattle.asm_program.specs.Frames.{Memory}
use Rattle.asm_program.specs.Operands.{address_code, operand_code, result_code}
use Rattle.asm_program.specs.Functions.{PlacedBlock, PlacedFunction, at_once, end_items, instr_items, leave_items, no_function, opening_items, own_frame, own_function, singles, start_items}
use Rattle.claims_definition.specs.AccessLaws.{Ascend, IsNamed}
use Rattle.claims_definition.specs.Lines.{Access, Letters, access_at, blocks_accesses, items_accesses, letters_of, same_region, touches_region}
use Rattle.claims_definition.proofs.Spaces.{items_fours}
use Rattle.claims_definition.proofs.Spaces.{Between, append, wider}
use Rattle.claims_definition.specs.Touches.{Touch, Nothing, OfFrame, OfArrays, block_touches, blocks_touches, body_touches, filled_touches, frame_touch, function_touches, functions_touches, instr_touches, item_touch, leaving_touches, named, program_touches, touches}

abbrev pub some : Letters → Bool
some l = l.flash || (l.spm || l.ram)

abbrev pub at_of : Access → ℕ
at_of x = x.at

-- at a multiple of 4, and in some region
abbrev pub IsGood : Access → Type 0
IsGood x = (x.at % 4 ≡ 0) × ((x.letters.flash || (x.letters.spm || x.letters.ram)) ≡ true)

abbrev pub AccessesBetween : ℕ → List Access → ℕ → Type 0
AccessesBetween a xs end = Between Access at_of IsGood a xs end

pub ascends : (a : ℕ) (xs : List Access) (end : ℕ) → AccessesBetween a xs end → Ascend a xs
ascends a [] end h = tt
ascends a (x ∷ xs) end h = (h.0, (h.1.0.0, (h.1.0.1, ascends (x.at + 4) xs end h.1.1)))

module _ (regions : ℕ → Region) where
  -- what is touched lies in some region
  abbrev pub Lies : Touch → Type 0
  Lies Nothing = Unit {0}
  Lies OfFrame = Unit {0}
  Lies (OfArrays os) = some (letters_of regions os) ≡ true

  abbrev pub AllLie : List Touch → Type 0
  AllLie [] = Unit {0}
  AllLie (t ∷ ts) = Lies t × AllLie ts

  abbrev pub BlocksLie : List (List Touch) → Type 0
  BlocksLie [] = Unit {0}
  BlocksLie (ts ∷ tss) = AllLie ts × BlocksLie tss

  abbrev pub FunctionsLie : List (List (List Touch)) → Type 0
  FunctionsLie [] = Unit {0}
  FunctionsLie (f ∷ fs) = BlocksLie f × FunctionsLie fs

  access_between : (a n : ℕ) (t : Touch) → a % 4 ≡ 0 → 4 ≤ n → Lies t → AccessesBetween a (access_at regions a t) (a + n)
  access_between a n Nothing e room h = omega arith
  access_between a n OfFrame e room h = (omega arith, ((e, refl), omega (arith, room)))
  access_between a n (OfArrays os) e room h = (omega arith, ((e, h), omega (arith, room)))

  items_between : (a : ℕ) (ts : List Touch) (xs : List Item) → a % 4 ≡ 0 → AllLie ts → AccessesBetween a (items_accesses regions a ts xs) (a + total xs)
  items_between a [] xs e h = omega arith
  items_between a (t ∷ ts) [] e h = omega arith
  items_between a (t ∷ ts) (x ∷ xs) e h =
      let fours = size_aligned x in
      let rest = items_between (a + size x) ts xs (omega (arith, e, fours)) h.1 in
      append Access at_of IsGood a (access_at regions a t) (items_accesses regions (a + size x) ts xs) (a + size x) (a + total (x ∷ xs)) (access_between a (size x) t e (size_some x) h.0)
      (wider Access at_of IsGood (a + size x) (a + size x) (items_accesses regions (a + size x) ts xs) (a + size x + total xs) (a + total (x ∷ xs)) (omega arith) (omega arith) rest)

  pub blocks_between : (a : ℕ) (tss : List (List Touch)) (bs : Blocks) → a % 4 ≡ 0 → BlocksLie tss → AccessesBetween a (blocks_accesses regions a tss bs) (a + blocks_size bs)
  blocks_between a [] bs e h = omega arith
  blocks_between a (ts ∷ tss) [] e h = omega arith
  blocks_between a (ts ∷ tss) (xs ∷ bs) e h =
      let fours = items_fours xs in
      let rest = blocks_between (a + total xs) tss bs (omega (arith, e, fours)) h.1 in
      append Access at_of IsGood a (items_accesses regions a ts xs) (blocks_accesses regions (a + total xs) tss bs) (a + total xs) (a + blocks_size (xs ∷ bs)) (items_between a ts xs e h.0)
      (wider Access at_of IsGood (a + total xs) (a + total xs) (blocks_accesses regions (a + total xs) tss bs) (a + total xs + blocks_size bs) (a + blocks_size (xs ∷ bs)) (omega arith) (omega arith) rest)

  pub function_lies : (fs : List (List (List Touch))) (f : ℕ) → FunctionsLie fs → BlocksLie (slice_index_or fs f [])
  function_lies [] f h = tt
  function_lies (x ∷ fs) zero h = h.0
  function_lies (x ∷ fs) (suc f) h = function_lies fs f h.1

  lie_append : (xs ys : List Touch) → AllLie xs → AllLie ys → AllLie (xs ++ ys)
  lie_append [] ys h k = k
  lie_append (x ∷ xs) ys h k = (h.0, lie_append xs ys h.1 k)

  blocks_append : (xs ys : List (List Touch)) → BlocksLie xs → BlocksLie ys → BlocksLie (xs ++ ys)
  blocks_append [] ys h k = k
  blocks_append (x ∷ xs) ys h k = (h.0, blocks_append xs ys h.1 k)

  functions_append : (xs ys : List (List (List Touch))) → FunctionsLie xs → FunctionsLie ys → FunctionsLie (xs ++ ys)
  functions_append [] ys h k = k
  functions_append (x ∷ xs) ys h k = (h.0, functions_append xs ys h.1 k)

  -- frames lie in RAM
  frame_lies : (b : Bool) → Lies (frame_touch b)
  frame_lies false = tt
  frame_lies true = tt

  item_lies : (x : Item) → Lies (item_touch x)
  item_lies (items.Single i) = frame_lies (accesses (row_of i.op).class)
  item_lies (items.Jump far block) = tt
  item_lies (items.Call far function) = tt
  item_lies (items.Branch form c x y block) = tt
  item_lies items.Return = tt
  item_lies items.Exit = tt

  items_lie : (xs : List Item) → AllLie (touches xs)
  items_lie [] = tt
  items_lie (x ∷ xs) = (item_lies x, items_lie xs)

  blocks_lie : (bs : Blocks) → BlocksLie (map touches bs)
  blocks_lie [] = tt
  blocks_lie (xs ∷ bs) = (items_lie xs, blocks_lie bs)

  -- an array that lies in a region
  region_same : (r : Region) → same_region r r ≡ true
  region_same Flash = refl
  region_same Spm = refl
  region_same Ram = refl

  first_touches : (r : Region) (o : ℕ) (os : List ℕ) → regions o ≡ r → touches_region regions r (o ∷ os) ≡ true
  first_touches r o os e = ap (λ b. b || touches_region regions r os) (ap (same_region r) e ∙ region_same r)

  any_some : (r : Region) (a b c : Bool) → ((r ≡ Flash) → a ≡ true) → ((r ≡ Spm) → b ≡ true) → ((r ≡ Ram) → c ≡ true) → (a || (b || c)) ≡ true
  any_some Flash a b c f g h = ap (λ x. x || (b || c)) (f refl)
  any_some Spm a b c f g h = ap (λ x. a || (x || c)) (g refl) ∙ last a
    where
      last : (x : Bool) → (x || true) ≡ true
      last true = refl
      last false = refl
  any_some Ram a b c f g h = ap (λ x. a || (b || x)) (h refl) ∙ both a b
    where
      both : (x y : Bool) → (x || (y || true)) ≡ true
      both true y = refl
      both false true = refl
      both false false = refl

  lies_somewhere : (r : Region) (o : ℕ) (os : List ℕ) → regions o ≡ r → some (letters_of regions (o ∷ os)) ≡ true
  lies_somewhere r o os e =
      any_some r (touches_region regions Flash (o ∷ os)) (touches_region regions Spm (o ∷ os)) (touches_region regions Ram (o ∷ os))
      (λ is. ap (λ s. touches_region regions s (o ∷ os)) (sym is) ∙ first_touches r o os e)
      (λ is. ap (λ s. touches_region regions s (o ∷ os)) (sym is) ∙ first_touches r o os e)
      (λ is. ap (λ s. touches_region regions s (o ∷ os)) (sym is) ∙ first_touches r o os e)

  module _ (m : Memory) (p : Placed) (is_named : IsNamed p) where
    -- arrays that are there, at least one
    arrays_lie : (os : List ℕ) → 0 < length os → All (λ o. o < length p.objects) os → some (letters_of regions os) ≡ true
    arrays_lie [] h all = absurd (omega (arith, h))
    arrays_lie (o ∷ os) h all = lies_somewhere (regions o) o os refl

    claim_lies : (cs : List (List ℕ)) (c : ℕ) → c < length cs → All (IsClaim p) cs → some (letters_of regions (slice_index_or cs c [])) ≡ true
    claim_lies [] c h all = absurd (omega (arith, h))
    claim_lies (x ∷ cs) zero h all = let k = All-head (IsClaim p) x cs all in arrays_lie x k.0 k.1
    claim_lies (x ∷ cs) (suc c) h all = claim_lies cs c (omega (arith, h)) (All-tail (IsClaim p) x cs all)

    base_lies : (b : Base Place) → All (λ o. o < length p.objects) (base_objects b) → All (λ c. c < length p.claims) (base_claims b) → some (letters_of regions (named p b)) ≡ true
    base_lies (Fixed o) h k = lies_somewhere (regions o) o [] refl
    base_lies (Through r claim) h k = claim_lies p.claims claim (All-head (λ c. c < length p.claims) claim [] k) is_named.claims

    address_lies : (a : Address Place) → All (IsThere p) (a ∷ []) → some (letters_of regions (named p a.base)) ≡ true
    address_lies a h = let k = All-head (IsThere p) a [] h in base_lies a.base k.0 k.1

    instr_lies : (f : ℕ) (i : Instr Place (List ℕ)) → NamesThere p i → AllLie (instr_touches m p f i)
    instr_lies f (Do (Load kind d a)) h =
        lie_append (touches (singles (address_code (own_frame m p f) m a))) (OfArrays (named p a.base) ∷ touches (singles (result_code (own_frame m p f) first_free second_free d))) (items_lie (singles (address_code (own_frame m p f) m a)))
        (address_lies a h, items_lie (singles (result_code (own_frame m p f) first_free second_free d)))
    instr_lies f (Do (Store kind a x)) h =
        lie_append (touches (singles (address_code (own_frame m p f) m a))) (touches (singles (operand_code (own_frame m p f) second_free x)) ++ (OfArrays (named p a.base) ∷ [])) (items_lie (singles (address_code (own_frame m p f) m a)))
        (lie_append (touches (singles (operand_code (own_frame m p f) second_free x))) (OfArrays (named p a.base) ∷ []) (items_lie (singles (operand_code (own_frame m p f) second_free x))) (address_lies a h, tt))
    instr_lies f (Do (Set d x)) h = items_lie (instr_items m p f (Do (Set d x)) [])
    instr_lies f (Do (Operate operator d x y)) h = items_lie (instr_items m p f (Do (Operate operator d x y)) [])
    instr_lies f (Do (Point d a)) h = items_lie (instr_items m p f (Do (Point d a)) [])
    instr_lies f (Do (Put x)) h = items_lie (instr_items m p f (Do (Put x)) [])
    instr_lies f (Do (Get d)) h = items_lie (instr_items m p f (Do (Get d)) [])
    instr_lies f (Call d callee args note) h = items_lie (instr_items m p f (Call d callee args note) [])

    body_lies : (f b : ℕ) (is : List (Instr Place (List ℕ))) (end : End Place) → All (NamesThere p) is → AllLie (body_touches m p f b is end)
    body_lies f b [] end h = items_lie (end_items m p f b end)
    body_lies f b (i ∷ is) end h = lie_append (instr_touches m p f i) (body_touches m p f b is end) (instr_lies f i (All-head (NamesThere p) i is h)) (body_lies f b is end (All-tail (NamesThere p) i is h))

    filled_lies : (f : ℕ) (ts : List Touch) → AllLie ts → AllLie (filled_touches m p f ts)
    filled_lies f [] h = (tt, tt)
    filled_lies f (t ∷ ts) h = h

    block_lies : (f b : ℕ) (block : PlacedBlock) → BlockNamesThere p block → AllLie (block_touches m p f b block)
    block_lies f b block h =
        filled_lies f (touches (opening_items m p f b) ++ body_touches m p f b block.code block.end)
        (lie_append (touches (opening_items m p f b)) (body_touches m p f b block.code block.end) (items_lie (opening_items m p f b)) (body_lies f b block.code block.end h))

    all_lie : (f b : ℕ) (blocks : List PlacedBlock) → All (BlockNamesThere p) blocks → BlocksLie (blocks_touches m p f b blocks)
    all_lie f b [] h = tt
    all_lie f b (x ∷ xs) h = (block_lies f b x (All-head (BlockNamesThere p) x xs h), all_lie f (suc b) xs (All-tail (BlockNamesThere p) x xs h))

    abbrev Names : PlacedFunction → Type 0
    Names fn = All (BlockNamesThere p) fn.blocks

    names_at : (fns : List PlacedFunction) (f : ℕ) → All Names fns → Names (slice_index_or fns f no_function)
    names_at [] f h = All-nil (BlockNamesThere p)
    names_at (x ∷ fns) zero h = All-head Names x fns h
    names_at (x ∷ fns) (suc f) h = names_at fns f (All-tail Names x fns h)

    leaving_lies : (f : ℕ) (b : Bool) → BlocksLie (leaving_touches m p f b)
    leaving_lies f true = tt
    leaving_lies f false = (items_lie (leave_items m p f true 0), tt)

    one_lies : (f : ℕ) → BlocksLie (function_touches m p f)
    one_lies f = blocks_append (blocks_touches m p f 0 (own_function m p f).blocks) (leaving_touches m p f (at_once m p f)) (all_lie f 0 (own_function m p f).blocks (names_at p.functions f is_named.functions)) (leaving_lies f (at_once m p f))

    functions_lie : (f : ℕ) (fns : List PlacedFunction) → FunctionsLie (functions_touches m p f fns)
    functions_lie f [] = tt
    functions_lie f (fn ∷ fns) = (one_lies f, functions_lie (suc f) fns)

    pub program_lies : FunctionsLie (program_touches m p)
    program_lies = functions_append (functions_touches m p 0 p.functions) (map touches (start_items m.second p.main) ∷ []) (functions_lie 0 p.functions) (blocks_lie (start_items m.second p.main), tt)
