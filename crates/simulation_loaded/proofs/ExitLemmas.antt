-- What is listed as an exit is an environment call.
use Rattle.std.proofs.Common.{◌≡◌, ◌⊎◌, inl, inr, ℕ, suc, ◌+◌, ◌<◌, Bool, true, false, ◌||◌, List, [], ◌∷◌, ◌++◌, length, Some, refl, subst, ⊎_elim, arith}
use Rattle.std.specs.Prelude.{◌==◌, slice_index, slice_index_or}
use Rattle.std.proofs.lemmas.Bool.{false≢true}
use Rattle.std.proofs.lemmas.Bool.Decides.{nat_tests}
use Rattle.rv_core.specs.Instructions.{ecall}
use Rattle.code_flow_system.specs.Claims.{is_listed}
use Rattle.code_flow_system.specs.Moves.{Code}
use Rattle.asm_items.specs.declared.item.Item.{Item}
use Rattle.asm_items.specs.declared.item.Item.TheVariants.{Single, Jump, Call, Branch, Return, Exit}
use Rattle.asm_items.specs.Items.{Starts, jump_size, form_size, total}
use Rattle.asm_items.specs.Placings.{Blocks, Placing, starts_from, start_of}
use Rattle.asm_items.specs.Standing.{HasItems}
use Rattle.asm_placed.specs.Exits.{items_exits, blocks_exits, functions_exits}
use Rattle.asm_graphs.specs.Graphs.{Graph}
use Rattle.asm_graphs.specs.Laid.{IsLaid}

one_of : (xs ys : List ℕ) (a : ℕ) → is_listed (xs ++ ys) a ≡ true → (is_listed xs a ≡ true) ⊎ (is_listed ys a ≡ true)
one_of [] ys a h = inr h
one_of (x ∷ xs) ys a h = by (x == a) h (one_of xs ys a)
  where
    by : (t : Bool) → (t || is_listed (xs ++ ys) a) ≡ true → (is_listed (xs ++ ys) a ≡ true → (is_listed xs a ≡ true) ⊎ (is_listed ys a ≡ true)) → ((t || is_listed xs a) ≡ true) ⊎ (is_listed ys a ≡ true)
    by true z go = inl refl
    by false z go = go z

module _ (c : Code) (p : Starts) (a : ℕ) where
  abbrev Calls : Type 0
  Calls = c.fetch a ≡ Some ecall

  here_or : (at : ℕ) (t : Bool) (rest : List ℕ) → (at == a) ≡ t → c.fetch at ≡ Some ecall → (is_listed rest a ≡ true → Calls) → (t || is_listed rest a) ≡ true → Calls
  here_or at true rest e is go h = let same : at ≡ a = grind (arith, nat_tests, e) in subst (λ n. c.fetch n ≡ Some ecall) same is
  here_or at false rest e is go h = go h

  items_call : (f at : ℕ) (xs : List Item) → HasItems p c f at xs → is_listed (items_exits at xs) a ≡ true → Calls
  items_call f at [] h l = absurd (false≢true l)
  items_call f at (Single i ∷ xs) h l = items_call f (at + 4) xs h.2 l
  items_call f at (Jump far n ∷ xs) h l = items_call f (at + jump_size far) xs h.2 l
  items_call f at (Call far g ∷ xs) h l = items_call f (at + jump_size far) xs h.2 l
  items_call f at (Branch form k x y n ∷ xs) h l = items_call f (at + form_size form) xs h.2 l
  items_call f at (Return ∷ xs) h l = items_call f (at + 4) xs h.2 l
  items_call f at (Exit ∷ xs) h l = here_or at (at == a) (items_exits (at + 4) xs) refl h.0.0 (λ k. items_call f (at + 4) xs h.2 k) l

  blocks_call : (f at : ℕ) (bs : Blocks) → ((b : ℕ) → b < length bs → HasItems p c f (slice_index (starts_from at bs) b) (slice_index_or bs b [])) → is_listed (blocks_exits at bs) a ≡ true → Calls
  blocks_call f at [] h l = absurd (false≢true l)
  blocks_call f at (xs ∷ bs) h l =
      ⊎_elim (λ k. items_call f at xs (h 0 (omega arith)) k) (λ k. blocks_call f (at + total xs) bs (λ b less. h (suc b) (omega (arith, less))) k) (one_of (items_exits at xs) (blocks_exits (at + total xs) bs) a l)

  -- the items of function f's block b stand there
  abbrev Stand : List ℕ → ℕ → Blocks → ℕ → Type 0
  Stand bases f bs b = HasItems p c f (slice_index (starts_from (slice_index bases f) bs) b) (slice_index_or bs b [])

  functions_call : (bases : List ℕ) (k : ℕ) (fs : List Blocks) → ((j b : ℕ) → j < length fs → b < length (slice_index_or fs j []) → Stand bases (k + j) (slice_index_or fs j []) b) → is_listed (functions_exits bases k fs) a ≡ true → Calls
  functions_call bases k [] h l = absurd (false≢true l)
  functions_call bases k (bs ∷ fs) h l =
      let none : k + 0 ≡ k = omega arith in
      ⊎_elim
      (λ z. blocks_call k (slice_index bases k) bs (λ b less. subst (λ n. Stand bases n bs b) none (h 0 b (omega arith) less)) z)
      (λ z.
      functions_call bases (suc k) fs
      (λ j b less there. let next : k + suc j ≡ suc k + j = omega arith in subst (λ n. Stand bases n (slice_index_or fs j []) b) next (h (suc j) b (omega (arith, less)) there)) z)
      (one_of (blocks_exits (slice_index bases k) bs) (functions_exits bases (suc k) fs) a l)

-- of laid code
pub exits_call : (g : Graph) (l : Placing) (c : Code) → IsLaid g l c → (a : ℕ) → is_listed (functions_exits l.bases 0 l.functions) a ≡ true → c.fetch a ≡ Some ecall
exits_call g l c laid a listed =
    let many = laid.functions in
    functions_call c (start_of l) a l.bases 0 l.functions
    (λ j b less there.
    let own : j ≡ 0 + j = omega arith in
    let blocks = laid.blocks j in
    subst (λ n. Stand c (start_of l) a l.bases n (slice_index_or l.functions j []) b) own (laid.stands j b (omega (arith, less, many)) (omega (arith, there, blocks)))) listed
