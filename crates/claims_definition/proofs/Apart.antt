-- Two blocks begin at different addresses.
use Rattle.std.proofs.Common.{◌≡◌, ◌≢◌, ◌⊎◌, ⊎_elim, ℕ, zero, suc, ◌+◌, ◌<◌, ◌≤◌, [], ◌∷◌, length, refl, sym, ap, ◌∙◌, subst, arith}
use Rattle.std.specs.Prelude.{slice_index, slice_index_or}
use Rattle.std.proofs.lemmas.Bool.{cases_eq, cases_lt}
use Rattle.asm_items.specs.Items.{total}
use Rattle.asm_items.specs.Placings.{Blocks, base_of, block_of, blocks_of, end_of, start_of, starts_from}
use Rattle.asm_forms.specs.Regions.{bases_of, functions_size}
use Rattle.asm_forms.specs.Shorter.{functions_longest}
use Rattle.asm_forms.proofs.Formed.{formed_longest}
use Rattle.asm_forms.proofs.SizeLemmas.{functions_most}
use Rattle.asm_graphs.proofs.PlaceLemmas.{start_within}
use Rattle.asm_placed.proofs.Spread.{all_apart, two_apart}
use Rattle.asm_program.specs.Functions.{program_items}
use Rattle.claims_definition.specs.ClaimLaws.{IsSettled}
use Rattle.claims_definition.specs.Listed.{Laid, functions_of, placing}
use Rattle.claims_definition.proofs.Blocks.{block_some, blocks_count, count}

-- a block ends before a later one begins
starts_rise : (bs : Blocks) (a b c : ℕ) → b < c → c < length bs → slice_index (starts_from a bs) b + total (slice_index_or bs b []) ≤ slice_index (starts_from a bs) c
starts_rise [] a b c less there = absurd (omega (arith, there))
starts_rise (xs ∷ bs) a b zero less there = absurd (omega (arith, less))
starts_rise (xs ∷ bs) a zero (suc c) less there = let w = start_within bs (a + total xs) c (omega (arith, there)) in w.0
starts_rise (xs ∷ bs) a (suc b) (suc c) less there = starts_rise bs (a + total xs) b c (omega (arith, less)) (omega (arith, there))

module _ (l : Laid) (is : IsSettled l) where
  -- block b of function f of the program
  record IsBlock (f b : ℕ) : Type 0 where
    function : f < length l.program.functions
    block : b < length (blocks_of (placing l) f)

  some : (f b : ℕ) → IsBlock f b → 4 ≤ total (block_of (placing l) f b)
  some f b h = let low = h.function in block_some l is f b (omega (arith, low)) (subst (λ n. b < n) (blocks_count l is f) h.block)

  in_one : (f b c : ℕ) → IsBlock f b → IsBlock f c → start_of (placing l) f b ≡ start_of (placing l) f c → b ≡ c
  in_one f b c h k e =
      let bs = blocks_of (placing l) f in
      let base = base_of (placing l) f in
      let x = some f b h in
      let y = some f c k in
      ⊎_elim
      (λ (low : b < c). let r = starts_rise bs base b c low k.block in absurd (omega (arith, r, x, e)))
      (λ (high : c ≤ b). ⊎_elim (λ (same : c ≡ b). sym same) (λ (other : c ≢ b). let r = starts_rise bs base c b (omega (arith, high, other)) h.block in absurd (omega (arith, r, y, e))) (cases_eq c b))
      (cases_lt b c)

  -- one of two functions ends before the other begins
  functions_apart : (f g : ℕ) → f < g → g < length l.program.functions → (end_of (placing l) f ≤ base_of (placing l) g) ⊎ (end_of (placing l) g ≤ base_of (placing l) f)
  functions_apart f g less there =
      let gs = functions_of l in
      let fs = program_items l.memory l.program in
      let bases = bases_of l.rows gs in
      let most : functions_size gs ≤ functions_size (functions_longest fs) = subst (λ x. functions_size gs ≤ functions_size x) (formed_longest l.rows fs) (functions_most gs) in
      let between = is.rows.apart in
      let many = count l is in
      let all = all_apart l.rows.placed bases [] 0 l.rows.flash l.rows.scratchpad gs refl refl (omega (arith, most, between)) in
      two_apart l.rows.placed bases gs f g less (omega (arith, there, many)) all

  two_differ : (f b g c : ℕ) → f < g → IsBlock f b → IsBlock g c → start_of (placing l) f b ≢ start_of (placing l) g c
  two_differ f b g c less h k e =
      let v = start_within (blocks_of (placing l) f) (base_of (placing l) f) b h.block in
      let w = start_within (blocks_of (placing l) g) (base_of (placing l) g) c k.block in
      let v0 = v.0 in
      let v1 = v.1 in
      let w0 = w.0 in
      let w1 = w.1 in
      let x = some f b h in
      let y = some g c k in
      ⊎_elim
      (λ (p : end_of (placing l) f ≤ base_of (placing l) g). absurd (omega (arith, p, v0, v1, w0, w1, x, y, e)))
      (λ (p : end_of (placing l) g ≤ base_of (placing l) f). absurd (omega (arith, p, v0, v1, w0, w1, x, y, e)))
      (functions_apart f g less k.function)

  pub starts_apart : (f b g c : ℕ) → (f < length l.program.functions) × (b < length (blocks_of (placing l) f)) → (g < length l.program.functions) × (c < length (blocks_of (placing l) g)) → start_of (placing l) f b ≡ start_of (placing l) g c → (f ≡ g) × (b ≡ c)
  starts_apart f b g c h k e =
      ⊎_elim
      (λ (same : f ≡ g).
      let there : c < length (blocks_of (placing l) f) = subst (λ n. c < length (blocks_of (placing l) n)) (sym same) k.1 in
      (same, in_one f b c (record { function = h.0; block = h.1 }) (record { function = h.0; block = there }) (e ∙ ap (λ n. start_of (placing l) n c) (sym same))))
      (λ (other : f ≢ g).
      ⊎_elim
      (λ (less : f < g). absurd (two_differ f b g c less (record { function = h.0; block = h.1 }) (record { function = k.0; block = k.1 }) e))
      (λ (more : g ≤ f). absurd (two_differ g c f b (omega (arith, more, other)) (record { function = k.0; block = k.1 }) (record { function = h.0; block = h.1 }) (sym e)))
      (cases_lt f g))
      (cases_eq f g)
