-- What may be moved has sizes that are enough, and lists that ascend.
use Rattle.std.proofs.Common.{◌≡◌, ℕ, zero, suc, ◌+◌, ◌/◌, ◌%◌, ◌<◌, ◌≤◌, Bool, true, false, List, [], ◌∷◌, length, refl, sym, ap, subst, arith}
use Rattle.std.specs.Prelude.{if◌then◌else◌, slice_index_or}
use Rattle.std.specs.List.{flat_map}
use Rattle.asm_items.specs.declared.item.Form.{Form}
use Rattle.asm_items.specs.declared.item.Form.TheVariants.{Short, Inverted, Far}
use Rattle.asm_items.specs.declared.item.Item.{Item}
use Rattle.asm_items.specs.declared.item.Item.TheVariants as items
use Rattle.asm_items.specs.Items.{form_size, jump_size, size, total}
use Rattle.asm_items.specs.Placings.{Blocks, base_of, blocks_of, blocks_size}
use Rattle.asm_items.proofs.MoveLemmas.{size_aligned, size_some}
use Rattle.asm_writing.specs.Forms.{AreLike, IsLike}
use Rattle.asm_forms.specs.Laid.{BlocksLike}
use Rattle.asm_forms.specs.Shorter.{blocks_longest, items_longest, longest}
use Rattle.asm_forms.proofs.LikeLemmas.{formed_like}
use Rattle.asm_graphs.specs.Promised.{blocks_in}
use Rattle.asm_placed.proofs.Alike.{blocks_alike}
use Rattle.asm_placed.proofs.Spread.{bases_fours}
use Rattle.low_ir.specs.Code.{Object}
use Rattle.asm_program.specs.Functions.{function_items, program_items}
use Rattle.asm_program.proofs.ItemLemmas.{of_function}
use Rattle.claims_definition.specs.Touches.{Touch, Nothing, OfFrame, OfArrays, program_touches}
use Rattle.claims_definition.proofs.Spaces.{Between, append, items_fours, wider}
use Rattle.claims_definition.specs.ClaimLaws.{IsSettled, Rise}
use Rattle.claims_definition.specs.Listed.{Laid, by_address, functions_of, placing}
use Rattle.claims_definition.proofs.Along.{along, last_end}
use Rattle.claims_definition.specs.MovableLaws.{IsMovable}
use Rattle.claims_definition.specs.Movables.{array_item, blocks_only, is_only, items_only, only_at, only_in, words_at}

-- no form takes more than the longest
jump_most : (far : Bool) → jump_size far ≤ 8
jump_most true = omega arith
jump_most false = omega arith

form_most : (form : Form) → form_size form ≤ 12
form_most Short = omega arith
form_most Inverted = omega arith
form_most Far = omega arith

like_most : (x y : Item) → IsLike x y → size y ≤ size (longest x)
like_most (items.Single i) y h = subst (λ z. size z ≤ 4) (sym h) (omega arith)
like_most (items.Jump far n) y h = subst (λ z. size z ≤ 8) (sym h.1) (jump_most h.0)
like_most (items.Call far f) y h = subst (λ z. size z ≤ 8) (sym h.1) (jump_most h.0)
like_most (items.Branch form c u v n) y h = subst (λ z. size z ≤ 12) (sym h.1) (form_most h.0)
like_most items.Return y h = subst (λ z. size z ≤ 4) (sym h) (omega arith)
like_most items.Exit y h = subst (λ z. size z ≤ 4) (sym h) (omega arith)

items_most : (xs ys : List Item) → AreLike xs ys → total ys ≤ total (items_longest xs)
items_most [] ys h = subst (λ zs. total zs ≤ 0) (sym h) (omega arith)
items_most (x ∷ xs) [] h = omega arith
items_most (x ∷ xs) (y ∷ ys) h = let a = like_most x y h.0 in let b = items_most xs ys h.1 in omega (arith, a, b)

blocks_most : (bs cs : Blocks) → BlocksLike bs cs → blocks_size cs ≤ blocks_size (blocks_longest bs)
blocks_most [] cs h = subst (λ zs. blocks_size zs ≤ 0) (sym h) (omega arith)
blocks_most (b ∷ bs) [] h = omega arith
blocks_most (b ∷ bs) (c ∷ cs) h = let a = items_most b c h.0 in let k = blocks_most bs cs h.1 in omega (arith, a, k)

blocks_fours : (bs : Blocks) → blocks_size bs % 4 ≡ 0
blocks_fours [] = refl
blocks_fours (xs ∷ bs) = let h = items_fours xs in let k = blocks_fours bs in omega (arith, h, k)

-- addresses of instructions in a row
words_rise : (lo a n : ℕ) → lo ≤ a → a % 4 ≡ 0 → Rise lo (words_at a n)
words_rise lo a zero low e = tt
words_rise lo a (suc n) low e = (low, (e, words_rise (a + 4) (a + 4) n (omega arith) (omega (arith, e))))

abbrev at_of : ℕ → ℕ
at_of x = x

abbrev IsGood : ℕ → Type 0
IsGood x = x % 4 ≡ 0

rises : (a : ℕ) (xs : List ℕ) (end : ℕ) → Between ℕ at_of IsGood a xs end → Rise a xs
rises a [] end h = tt
rises a (x ∷ xs) end h = (h.0, (h.1.0, rises (x + 4) xs end h.1.1))

module _ (o : ℕ) where
  one_between : (a n : ℕ) (t : Touch) → a % 4 ≡ 0 → 4 ≤ n → Between ℕ at_of IsGood a (only_at o a t) (a + n)
  one_between a n Nothing e room = omega arith
  one_between a n OfFrame e room = omega arith
  one_between a n (OfArrays os) e room = by_test (is_only o os)
    where
      by_test : (b : Bool) → Between ℕ at_of IsGood a (if b then a ∷ [] else []) (a + n)
      by_test true = (omega arith, (e, omega (arith, room)))
      by_test false = omega arith

  items_between : (a : ℕ) (ts : List Touch) (xs : List Item) → a % 4 ≡ 0 → Between ℕ at_of IsGood a (items_only o a ts xs) (a + total xs)
  items_between a [] xs e = omega arith
  items_between a (t ∷ ts) [] e = omega arith
  items_between a (t ∷ ts) (x ∷ xs) e =
      let fours = size_aligned x in
      let rest = items_between (a + size x) ts xs (omega (arith, e, fours)) in
      append ℕ at_of IsGood a (only_at o a t) (items_only o (a + size x) ts xs) (a + size x) (a + total (x ∷ xs)) (one_between a (size x) t e (size_some x))
      (wider ℕ at_of IsGood (a + size x) (a + size x) (items_only o (a + size x) ts xs) (a + size x + total xs) (a + total (x ∷ xs)) (omega arith) (omega arith) rest)

  blocks_between : (a : ℕ) (tss : List (List Touch)) (bs : Blocks) → a % 4 ≡ 0 → Between ℕ at_of IsGood a (blocks_only o a tss bs) (a + blocks_size bs)
  blocks_between a [] bs e = omega arith
  blocks_between a (ts ∷ tss) [] e = omega arith
  blocks_between a (ts ∷ tss) (xs ∷ bs) e =
      let fours = items_fours xs in
      let rest = blocks_between (a + total xs) tss bs (omega (arith, e, fours)) in
      append ℕ at_of IsGood a (items_only o a ts xs) (blocks_only o (a + total xs) tss bs) (a + total xs) (a + blocks_size (xs ∷ bs)) (items_between a ts xs e)
      (wider ℕ at_of IsGood (a + total xs) (a + total xs) (blocks_only o (a + total xs) tss bs) (a + total xs + blocks_size bs) (a + blocks_size (xs ∷ bs)) (omega arith) (omega arith) rest)

module _ (l : Laid) (is : IsSettled l) where
  pub function_movable : (f : ℕ) → f < length l.program.functions → IsMovable l f
  function_movable f low =
      let fs = program_items l.memory l.program in
      let longest_fours = blocks_fours (blocks_longest (function_items l.memory l.program f)) in
      let most = blocks_most (blocks_in fs f) (blocks_in (functions_of l) f) (blocks_alike fs (functions_of l) f (formed_like l.rows fs)) in
      let own : blocks_size (blocks_longest (blocks_in fs f)) ≡ blocks_size (blocks_longest (function_items l.memory l.program f)) = ap (λ bs. blocks_size (blocks_longest bs)) (of_function l.memory l.program f low) in
      let base = bases_fours l.rows.placed 0 l.rows.flash l.rows.scratchpad (functions_of l) f is.rows.flash is.rows.scratchpad in
      record {
        fours = omega (arith, longest_fours);
        enough = omega (arith, most, own);
        rise = words_rise 0 (base_of (placing l) f) (blocks_size (blocks_of (placing l) f) / 4) (omega arith) base;
      }

  pub array_movable : (o : ℕ) (x : Object) → ((array_item l o x).size % 4 ≡ 0) × Rise 0 (array_item l o x).at
  array_movable o x =
      let all = along l is ℕ at_of IsGood (only_in l o) (λ f there e. blocks_between o (base_of (placing l) f) (slice_index_or (program_touches l.memory l.program) f []) (blocks_of (placing l) f) e) in
      let at = flat_map (only_in l o) (by_address l) in
      (omega arith, rises 0 at (last_end l) (wider ℕ at_of IsGood l.rows.flash 0 at (last_end l) (last_end l) (omega arith) (omega arith) all))
