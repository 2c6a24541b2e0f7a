-- What stands in each function in the order of its addresses stands so in all functions.
use Rattle.std.proofs.Common.{◌≡◌, ℕ, suc, ◌+◌, ◌%◌, ◌<◌, List, [], ◌∷◌, length, sym, subst, arith}
use Rattle.std.specs.List.{flat_map}
use Rattle.std.proofs.lemmas.List.Concat.{flat_map-cons}
use Rattle.asm_items.specs.Placings.{base_of, end_of}
use Rattle.asm_forms.specs.Regions.{functions_size}
use Rattle.asm_program.specs.Functions.{program_items}
use Rattle.claims_definition.specs.ClaimLaws.{IsSettled}
use Rattle.claims_definition.specs.Listed.{Laid, by_address, functions_of, placing}
use Rattle.claims_definition.proofs.Blocks.{AllBelow, order_below}
use Rattle.claims_definition.proofs.Ordered.{Spaced, formed_spaced}
use Rattle.claims_definition.proofs.Spaces.{Between, append, wider}

-- where all functions end
abbrev pub last_end : Laid → ℕ
last_end l = l.rows.scratchpad + functions_size (functions_of l)

module _ (l : Laid) (is : IsSettled l) (A : Type 0) (at : A → ℕ) (Good : A → Type 0) (of : ℕ → List A) (each : (f : ℕ) → f < suc (length l.program.functions) → base_of (placing l) f % 4 ≡ 0 → Between A at Good (base_of (placing l) f) (of f) (end_of (placing l) f)) where
  some_along : (a : ℕ) (fs : List ℕ) (end : ℕ) → AllBelow (suc (length l.program.functions)) fs → Spaced l.rows (functions_of l) a fs end → Between A at Good a (flat_map of fs) end
  some_along a [] end there h = h
  some_along a (f ∷ fs) end there h =
      let base = base_of (placing l) f in
      let behind = end_of (placing l) f in
      subst (λ xs. Between A at Good a xs end) (sym (flat_map-cons of f fs))
      (append A at Good a (of f) (flat_map of fs) behind end (wider A at Good base a (of f) behind behind h.0 (omega arith) (each f there.0 h.1.0)) (some_along behind fs end there.1 h.1.1))

  pub along : Between A at Good l.rows.flash (flat_map of (by_address l)) (last_end l)
  along = some_along l.rows.flash (by_address l) (last_end l) (order_below l is) (formed_spaced l.rows (program_items l.memory l.program) is.rows)
