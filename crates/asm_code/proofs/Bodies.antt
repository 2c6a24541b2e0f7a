-- Items one after another.
use Rattle.std.proofs.Common.{◌≡◌, ℕ, zero, suc, ◌+◌, ◌==◌, ◌&&◌, true, false, List, [], ◌∷◌, ◌++◌, length, refl, sym, ap, ◌∙◌, arith, append_assoc, append-nil, length-append}
use Rattle.std.proofs.lemmas.Bool.Decides.{nat_tests}
use Rattle.asm_items.specs.declared.item.Item.{Item}
use Rattle.asm_items.specs.declared.item.Item.TheVariants as items
use Rattle.low_ir.specs.declared.places.Place.{Place}
use Rattle.low_ir.specs.Code.{Instr, Do, Call, End, Block, Note}
use Rattle.low_ir.specs.Places.{Placed, place_code, place_blocks}
use Rattle.asm_program.specs.Frames.{Memory, frame_of}
use Rattle.asm_program.specs.Emission.{plain_code, before_call, behind_call}
use Rattle.asm_program.specs.Functions.{singles, callees_in, all_callees, own_frame, passed_in, instr_items, end_items, body_items, filled}
use Rattle.asm_code.specs.Leaves.{calls_none, all_call_none}
use Rattle.asm_code.specs.Bodies.{instrs_items, filled_items}

module _ (m : Memory) (p : Placed) (f : ℕ) where
  pub instr-rest : (i : Instr Place (List ℕ)) (rest : List Item) → instr_items m p f i rest ≡ instr_items m p f i [] ++ rest
  instr-rest (Do i) rest = ap (λ l. l ++ rest) (sym (append-nil (singles (plain_code (own_frame m p f) m i))))
  instr-rest (Call d callee args note) rest =
      let before = singles (before_call (own_frame m p f) (frame_of m callee) (passed_in m p f callee args) note args) in
      let behind = singles (behind_call (own_frame m p f) d (passed_in m p f callee args) note) in
      ap (λ l. before ++ (items.Call true callee ∷ (l ++ rest))) (sym (append-nil behind))
      ∙ sym (append_assoc before (items.Call true callee ∷ (behind ++ [])) rest)

  pub body-parts : (b : ℕ) (is : List (Instr Place (List ℕ))) (end : End Place) → body_items m p f b is end ≡ instrs_items m p f is ++ end_items m p f b end
  body-parts b [] end = refl
  body-parts b (i ∷ is) end =
      ap (instr_items m p f i) (body-parts b is end)
      ∙ instr-rest i (instrs_items m p f is ++ end_items m p f b end)
      ∙ sym (append_assoc (instr_items m p f i []) (instrs_items m p f is) (end_items m p f b end))
      ∙ ap (λ l. l ++ end_items m p f b end) (sym (instr-rest i (instrs_items m p f is)))

  pub filled-items : (xs : List Item) → filled_items xs ≡ filled m p f xs
  filled-items [] = refl
  filled-items (x ∷ xs) = refl

-- a sum is 0 where both parts are
zero-sum : (a b : ℕ) → (a + b == 0) ≡ ((a == 0) && (b == 0))
zero-sum zero b = let e : zero + b ≡ b = omega arith in ap (λ n. n == 0) e
zero-sum (suc a) b =
    let none : (suc a + b == 0) ≡ false = grind (arith, nat_tests) in
    let first : (suc a == 0) ≡ false = grind (arith, nat_tests) in
    none ∙ ap (λ t. t && (b == 0)) (sym first)

not_empty : (n : ℕ) → (suc n == 0) ≡ false
not_empty n = grind (arith, nat_tests)

module _ (pl : ℕ → Place) (kept : ℕ → List ℕ) where
  callees-none : (p : ℕ) (is : List (Instr ℕ Note)) → (length (callees_in (place_code pl kept p is)) == 0) ≡ calls_none is
  callees-none p [] = refl
  callees-none p (Do i ∷ is) = callees-none (suc p) is
  callees-none p (Call d callee args note ∷ is) = not_empty (length (callees_in (place_code pl kept (suc p) is)))

  pub all-callees-none : (p : ℕ) (bs : List (Block ℕ Note)) → (length (all_callees (place_blocks pl kept p bs)) == 0) ≡ all_call_none bs
  all-callees-none p [] = refl
  all-callees-none p (b ∷ bs) =
      let rest = place_blocks pl kept (p + suc (length b.code)) bs in
      ap (λ n. n == 0) (length-append (callees_in (place_code pl kept p b.code)) (all_callees rest))
      ∙ zero-sum (length (callees_in (place_code pl kept p b.code))) (length (all_callees rest))
      ∙ ap (λ t. t && (length (all_callees rest) == 0)) (callees-none p b.code)
      ∙ ap (λ t. calls_none b.code && t) (all-callees-none (p + suc (length b.code)) bs)
