-- At the start of a block that block alone begins, and none behind it up to its end.
use Rattle.std.proofs.Common.{◌≡◌, ◌≢◌, ℕ, zero, suc, ◌+◌, ◌<◌, ◌≤◌, Bool, true, false, List, [], ◌∷◌, ◌++◌, length, refl, sym, ap, ◌∙◌, subst, ⊎_elim, arith, if◌then◌else◌}
use Rattle.std.specs.Prelude.{◌==◌, slice_get, slice_index_or}
use Rattle.std.proofs.lemmas.Bool.{cases_eq, cases_lt, false≢true}
use Rattle.std.proofs.lemmas.Bool.Decides.{nat_tests}
use Rattle.std.proofs.lemmas.List.{append-nil}
use Rattle.std.proofs.lemmas.Option.{slice_get_cases}
use Rattle.code_flow_system.specs.Moves.{Code}
use Rattle.asm_items.specs.Items.{Starts, total}
use Rattle.asm_items.specs.Placings.{Placing, block_of, start_of}
use Rattle.asm_graphs.specs.Graphs.{Graph, IsShaped}
use Rattle.asm_graphs.specs.Laid.{IsLaid}
use Rattle.asm_graphs.proofs.ReachedLemmas.{ends_within}
use Rattle.asm_graphs.proofs.RangeLemmas.{known_start, behind, upward, in_function, one_function, starts_apart}
use Rattle.low_ir.specs.declared.run.Began.{Began}
use Rattle.low_ir.specs.Places.{Placed}
use Rattle.asm_program.specs.Functions.{PlacedFunction, no_function, function_in}
use Rattle.simulation_relation.specs.Layouts.{started_in, started}
use Rattle.simulation_loaded.specs.Layouts.{blocks_begun, functions_begun}

module _ (s : Starts) (a : ℕ) where
  abbrev here : ℕ → ℕ → Bool → List Began
  here f n b = if b then record { function = f; block = n } ∷ [] else []

  abbrev own : Placed → ℕ → List Began
  own p f = blocks_begun s a f (length (function_in p f).blocks)

  not_here : (f n : ℕ) (t : Bool) → (s f n == a) ≡ t → s f n ≢ a → here f n t ≡ []
  not_here f n true e other = let same : s f n ≡ a = grind (arith, nat_tests, e) in absurd (other same)
  not_here f n false e other = refl

  is_here : (f n : ℕ) (t : Bool) → (s f n == a) ≡ t → s f n ≡ a → here f n t ≡ record { function = f; block = n } ∷ []
  is_here f n true e same = refl
  is_here f n false e same = let yes : (s f n == a) ≡ true = grind (arith, nat_tests, same) in absurd (false≢true (sym e ∙ yes))

  no_block : (f n : ℕ) → ((b : ℕ) → b < n → s f b ≢ a) → blocks_begun s a f n ≡ []
  no_block f zero h = refl
  no_block f (suc n) h = ap (λ xs. xs ++ here f n (s f n == a)) (no_block f n (λ b less. h b (omega (arith, less)))) ∙ not_here f n (s f n == a) refl (h n (omega arith))

  one_block : (f n b : ℕ) → b < n → s f b ≡ a → ((c : ℕ) → c < n → s f c ≡ a → c ≡ b) → blocks_begun s a f n ≡ record { function = f; block = b } ∷ []
  one_block f zero b less e h = absurd (omega (arith, less))
  one_block f (suc n) b less e h =
      ⊎_elim
      (λ (same : n ≡ b).
      ap (λ xs. xs ++ here f n (s f n == a)) (no_block f n (λ c low there. let z = h c (omega (arith, low)) there in omega (arith, low, z, same)))
      ∙ is_here f n (s f n == a) refl (ap (s f) same ∙ e)
      ∙ ap (λ m. record { function = f; block = m } ∷ []) same)
      (λ (other : n ≢ b).
      ap (λ xs. blocks_begun s a f n ++ xs) (not_here f n (s f n == a) refl (λ there. other (h n (omega arith) there)))
      ∙ append-nil (blocks_begun s a f n)
      ∙ one_block f n b (omega (arith, less, other)) e (λ c low. h c (omega (arith, low))))
      (cases_eq n b)

  none_begun : (p : Placed) (n : ℕ) → ((f : ℕ) → f < n → own p f ≡ []) → functions_begun s a p n ≡ []
  none_begun p zero h = refl
  none_begun p (suc n) h = ap (λ xs. xs ++ own p n) (none_begun p n (λ f less. h f (omega (arith, less)))) ∙ h n (omega arith)

  one_begun : (p : Placed) (n f : ℕ) → f < n → ((k : ℕ) → k < n → k ≢ f → own p k ≡ []) → functions_begun s a p n ≡ own p f
  one_begun p zero f less h = absurd (omega (arith, less))
  one_begun p (suc n) f less h =
      ⊎_elim
      (λ (same : n ≡ f). ap (λ xs. xs ++ own p n) (none_begun p n (λ k low. h k (omega (arith, low)) (λ e. omega (arith, low, e, same)))) ∙ ap (own p) same)
      (λ (other : n ≢ f).
      ap (λ xs. functions_begun s a p n ++ xs) (h n (omega arith) other) ∙ append-nil (functions_begun s a p n)
      ∙ one_begun p n f (omega (arith, less, other)) (λ k low. h k (omega (arith, low))))
      (cases_eq n f)

-- behind the functions there are none
beyond : (fns : List PlacedFunction) (f : ℕ) → length fns ≤ f → slice_index_or fns f no_function ≡ no_function
beyond [] f h = refl
beyond (fn ∷ fns) zero h = absurd (omega (arith, h))
beyond (fn ∷ fns) (suc f) h = beyond fns f (omega (arith, h))

module _ (p : Placed) (g : Graph) (l : Placing) (c : Code) (sh : IsShaped g) (laid : IsLaid g l c) (many : g.functions ≡ suc (length p.functions)) (few : (f : ℕ) → f < length p.functions → length (function_in p f).blocks ≤ g.blocks f) where
  abbrev at : Starts
  at = start_of l

  abbrev begun : ℕ → List Began
  begun a = functions_begun at a p (length p.functions)

  apart : (f b h d : ℕ) → f < g.functions → b < g.blocks f → h < g.functions → d < g.blocks h → at f b ≡ at h d → (f ≡ h) × (b ≡ d)
  apart = starts_apart g l c sh laid

  others : (f b h : ℕ) → f < g.functions → b < g.blocks f → h < length p.functions → h ≢ f → own at (at f b) p h ≡ []
  others f b h i j less other =
      let most = few h less in
      no_block at (at f b) h (length (function_in p h).blocks) (λ d k same. other (apart h d f b (omega (arith, less, many)) (omega (arith, k, most)) i j same).0)

  of_own : (f b : ℕ) → f < g.functions → b < g.blocks f → f < length p.functions → own at (at f b) p f ≡ started p f b
  of_own f b i j less =
      let most = few f less in
      let blocks = (function_in p f).blocks in
      ⊎_elim
      (λ h.
      one_block at (at f b) f (length blocks) b h.1 refl (λ d k same. (apart f d f b i (omega (arith, k, most)) i j same).1)
      ∙ sym (ap (started_in f b) h.2))
      (λ h.
      let past = h.0 in
      no_block at (at f b) f (length blocks) (λ d k same. let z = (apart f d f b i (omega (arith, k, most)) i j same).1 in omega (arith, z, k, past))
      ∙ sym (ap (started_in f b) h.1))
      (slice_get_cases blocks b).1

  -- at its start
  pub begins_alone : (f b : ℕ) → f < g.functions → b < g.blocks f → begun (at f b) ≡ started p f b
  begins_alone f b i j =
      ⊎_elim
      (λ (less : f < length p.functions). one_begun at (at f b) p (length p.functions) f less (λ h k other. others f b h i j k other) ∙ of_own f b i j less)
      (λ (last : length p.functions ≤ f).
      none_begun at (at f b) p (length p.functions) (λ h k. others f b h i j k (λ e. omega (arith, k, e, last)))
      ∙ sym (ap (λ (fn : PlacedFunction). started_in f b (slice_get fn.blocks b)) (beyond p.functions f last)))
      (cases_lt f (length p.functions))

  inside : (f b a h d : ℕ) → f < g.functions → b < g.blocks f → at f b < a → a < at f b + total (block_of l f b) → h < g.functions → d < g.blocks h → at h d ≡ a → ⊥
  inside f b a h d i j low high k m e =
      let mine = in_function g l c sh laid (at h d) false h d (known_start g l c sh laid h d k m) in
      let first = mine.0 in
      let last = mine.1 in
      let up = upward g l c sh laid f 0 b i (omega arith) j in
      let end = ends_within g l c sh laid f b j in
      let same : f ≡ h = one_function g l c sh laid a f h i k (omega (arith, low, up)) (omega (arith, high, end)) (omega (arith, first, e)) (omega (arith, last, e)) in
      let there : at f d ≡ a = ap (λ x. at x d) same ∙ e in
      ⊎_elim
      (λ (before : b < d). let z = behind g l c sh laid f b d i before (subst (λ x. d < g.blocks x) (sym same) m) in omega (arith, z, there, high))
      (λ (after : d ≤ b). let z = upward g l c sh laid f d b i after j in omega (arith, z, there, low))
      (cases_lt b d)

  -- and behind it
  pub begins_none : (f b a : ℕ) → f < g.functions → b < g.blocks f → at f b < a → a < at f b + total (block_of l f b) → begun a ≡ []
  begins_none f b a i j low high =
      none_begun at a p (length p.functions) (λ h k.
      let most = few h k in
      no_block at a h (length (function_in p h).blocks) (λ d less e. inside f b a h d i j low high (omega (arith, k, many)) (omega (arith, less, most)) e))
