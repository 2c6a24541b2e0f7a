-- Exits are listed where items exit, and such an item stands as an ECALL.
use Rattle.std.proofs.Common.{◌≡◌, ℕ, suc, ◌+◌, ◌<◌, true, List, [], ◌∷◌, length, sym, ap, ◌∙◌, subst, arith}
use Rattle.std.specs.Prelude.{All, if◌then◌else◌, slice_index, slice_index_or}
use Rattle.std.proofs.lemmas.Bool.{false≢true}
use Rattle.std.proofs.lemmas.List.Elements.{All-append, All-cons, All-get_or, All-nil}
use Rattle.rv_core.specs.Images.{Image}
use Rattle.code_flow_system.specs.Moves.{Code, code_of}
use Rattle.code_flow_system.specs.Systems.{IsFalseExit, is_ecall}
use Rattle.asm_items.specs.declared.item.Item.{Item}
use Rattle.asm_items.specs.declared.item.Item.TheVariants as items
use Rattle.asm_items.specs.Items.{Starts, size, total, words}
use Rattle.asm_items.specs.Placings.{Blocks, base_of, blocks_of, start_of, starts_from}
use Rattle.asm_items.specs.Standing.{HasItems, HasWords, is_exit}
use Rattle.asm_forms.specs.Regions.{bases_of}
use Rattle.asm_graphs.specs.Laid.{IsImageOf}
use Rattle.asm_placed.specs.Exits.{blocks_exits, functions_exits, items_exits}
use Rattle.asm_program.specs.Functions.{graph_of}
use Rattle.claims_definition.specs.Listed.{Laid, claims_of, functions_of, placing}

module _ (c : Code) where
  abbrev IsCall : ℕ → Type 0
  IsCall a = is_ecall (c.fetch a) ≡ true

  module _ (p : Starts) (f : ℕ) where
    item_call : (a : ℕ) (x : Item) (rest : List ℕ) → HasWords c a (words p f a x) → All IsCall rest → All IsCall (if is_exit x then a ∷ rest else rest)
    item_call a (items.Single i) rest h k = k
    item_call a (items.Jump far n) rest h k = k
    item_call a (items.Call far g) rest h k = k
    item_call a (items.Branch form x u v n) rest h k = k
    item_call a items.Return rest h k = k
    item_call a items.Exit rest h k = All-cons IsCall a rest (ap is_ecall h.0) k

    items_call : (a : ℕ) (xs : List Item) → HasItems p c f a xs → All IsCall (items_exits a xs)
    items_call a [] h = All-nil IsCall
    items_call a (x ∷ xs) h = item_call a x (items_exits (a + size x) xs) h.0 (items_call (a + size x) xs h.2)

    blocks_call : (a : ℕ) (bs : Blocks) → ((b : ℕ) → b < length bs → HasItems p c f (slice_index (starts_from a bs) b) (slice_index_or bs b [])) → All IsCall (blocks_exits a bs)
    blocks_call a [] h = All-nil IsCall
    blocks_call a (xs ∷ bs) h =
        All-append IsCall (items_exits a xs) (blocks_exits (a + total xs) bs) (items_call a xs (h 0 (omega arith)))
        (blocks_call (a + total xs) bs (λ b less. h (suc b) (omega (arith, less))))

  functions_call : (bases : List ℕ) (k : ℕ) (fs : List Blocks) → ((j : ℕ) → j < length fs → All IsCall (blocks_exits (slice_index bases (k + j)) (slice_index_or fs j []))) → All IsCall (functions_exits bases k fs)
  functions_call bases k [] h = All-nil IsCall
  functions_call bases k (bs ∷ fs) h =
      let z : k + 0 ≡ k = omega arith in
      All-append IsCall (blocks_exits (slice_index bases k) bs) (functions_exits bases (suc k) fs) (subst (λ i. All IsCall (blocks_exits (slice_index bases i) bs)) z (h 0 (omega arith)))
      (functions_call bases (suc k) fs (λ j less. let n : k + suc j ≡ suc k + j = omega arith in subst (λ i. All IsCall (blocks_exits (slice_index bases i) (slice_index_or fs j []))) n (h (suc j) (omega (arith, less)))))

module _ (l : Laid) (image : Image) (here : IsImageOf (graph_of l.memory l.program) (placing l) (length l.program.functions) image (claims_of l)) where
  abbrev code : Code
  code = code_of image (claims_of l)

  function_call : (f : ℕ) → f < length (functions_of l) → All (IsCall code) (blocks_exits (base_of (placing l) f) (blocks_of (placing l) f))
  function_call f there =
      let many = here.laid.functions in
      blocks_call code (start_of (placing l)) f (base_of (placing l) f) (blocks_of (placing l) f)
      (λ b less. let count = here.laid.blocks f in here.laid.stands f b (omega (arith, many, there)) (omega (arith, count, less)))

  exits_call : All (IsCall code) (claims_of l).exits
  exits_call =
      functions_call code (bases_of l.rows (functions_of l)) 0 (functions_of l)
      (λ f there. let n : f ≡ 0 + f = omega arith in subst (λ i. All (IsCall code) (blocks_exits (slice_index (bases_of l.rows (functions_of l)) i) (blocks_of (placing l) f))) n (function_call f there))

  pub no_false : (n : ℕ) → IsFalseExit image (claims_of l) n → ⊥
  no_false n h = false≢true (sym h.other ∙ All-get_or (IsCall code) (claims_of l).exits n 0 h.listed exits_call)
