-- What follows from less that is known follows from more.
use Rattle.std.proofs.Common.{◌≡◌, ◌≢◌, ◌⊎◌, ℕ, List, [], ◌∷◌, Option, Some, None, ⊎_elim, inl, inr}
use Rattle.low_ir.specs.Code.{Operand, Register, Constant, End}
use Rattle.low_ir.specs.Formed.{end_operands, written_by}
use Rattle.pass_copy_propagation_law.specs.Copies.{Becomes, Beginnings, Carries, Code, Copied, Fewer, Finds, Follows, LeavesOut, Omits, Standing, Stands, operands}

finds_more : (at more : Standing) (name : ℕ → ℕ) → Fewer more at → (xs : List (Operand ℕ)) → Finds at name xs → Finds more name xs
finds_more at more name fewer [] f = f
finds_more at more name fewer (Register r ∷ xs) f = (fewer r (name r) f.0, finds_more at more name fewer xs f.1)
finds_more at more name fewer (Constant w ∷ xs) f = finds_more at more name fewer xs f

becomes_more : (size : ℕ) (d : Option ℕ) (e : ℕ) (at more now : Standing) → Fewer more at → Becomes size d e at now → Becomes size d e more now
becomes_more size None e at more now fewer b = λ v w q. fewer v w (b v w q)
becomes_more size (Some d) e at more now fewer b = (b.0, λ v w q. moved v w (b.1 v w q))
  where
    moved : (v w : ℕ) → ((v ≡ d) × (w ≡ e)) ⊎ ((v ≢ d) × (w ≢ e) × (at v ≡ Some w)) → ((v ≡ d) × (w ≡ e)) ⊎ ((v ≢ d) × (w ≢ e) × (more v ≡ Some w))
    moved v w (inl new) = inl new
    moved v w (inr old) = inr (old.0, old.1, fewer v w old.2)

stands_more : (at more : Standing) (x : Operand ℕ) (w : ℕ) → Fewer more at → Stands at x w → Stands more x w
stands_more at more (Register r) w fewer s = fewer r w s
stands_more at more (Constant c) w fewer s = s

copied_more : (d : ℕ) (x : Operand ℕ) (at more now : Standing) → Fewer more at → Copied d x at now → Copied d x more now
copied_more d x at more now fewer c v w q = moved (c v w q)
  where
    moved : ((v ≡ d) × Stands at x w) ⊎ ((v ≢ d) × (at v ≡ Some w)) → ((v ≡ d) × Stands more x w) ⊎ ((v ≢ d) × (more v ≡ Some w))
    moved (inl new) = inl (new.0, stands_more at more x w fewer new.1)
    moved (inr old) = inr (old.0, fewer v w old.1)

pub follows_more : (size : ℕ) (out : Beginnings) (end new : End ℕ) (is : Code) (at more : Standing) (js : Code) → Fewer more at → Follows size out end new is at js → Follows size out end new is more js
follows_more size out end new [] at more js fewer h =
    record { done = h.done; name = h.name; is = h.is; finds = finds_more at more h.name fewer (end_operands end) h.finds; stands = λ n leads v w q. fewer v w (h.stands n leads v w q) }
follows_more size out end new (i ∷ is) at more js fewer h =
    ⊎_elim
    (λ (c : Carries size (Follows size out end new is) i at js).
    inl (record {
      name = c.name;
      into = c.into;
      now = c.now;
      behind = c.behind;
      is = c.is;
      finds = finds_more at more c.name fewer (operands i) c.finds;
      bases = c.bases;
      becomes = becomes_more size (written_by i) c.into at more c.now fewer c.becomes;
      goes_on = c.goes_on;
    }))
    (⊎_elim
    (λ (c : LeavesOut (Follows size out end new is) i at js).
    inr (inl (record { into = c.into; value = c.value; is = c.is; now = c.now; copied = copied_more c.into c.value at more c.now fewer c.copied; goes_on = c.goes_on })))
    (λ (c : Omits (Follows size out end new is) i at js).
    inr (inr (record { into = c.into; only = c.only; now = c.now; forgets = λ v w q. let f = c.forgets v w q in (f.0, fewer v w f.1); goes_on = c.goes_on }))))
    h
