-- Ways past blocks, a block at a time.
use Rattle.std.proofs.Common.{◌≡◌, ℕ, Bool, true, false, zero, suc, List, Some, refl, sym, ap, ◌∙◌, subst}
use Rattle.std.specs.Prelude.{All, slice_get, slice_index_or}
use Rattle.std.proofs.lemmas.Bool.{false≢true}
use Rattle.low_ir.specs.Code.{Block, Function, Loop, Note}
use Rattle.pass_jump_threading_law.specs.Known.{Known}
use Rattle.pass_jump_threading_law.specs.Threads.{Comes, IsApart, Passes}
use Rattle.pass_jump_threading.specs.Facts.{OnlyGoes}
use Rattle.pass_jump_threading.specs.Planning.{IsSeen, Leads}

-- a block that isn't seen is apart from all loops
pub not_seen : (seen : List Bool) (loops : List Loop) (b : ℕ) → All (IsSeen seen) loops → slice_index_or seen b true ≡ false → All (IsApart b) loops
not_seen seen loops b all unseen i d lt =
    let l = slice_index_or loops i d in
    let is = all i d lt in
    (λ e. no l.header (ap (λ n. slice_index_or seen n true) e) is.0, λ e. no l.latch (ap (λ n. slice_index_or seen n true) e) is.1)
  where
    no : (n : ℕ) → slice_index_or seen b true ≡ slice_index_or seen n true → slice_index_or seen n true ≡ true → ⊥
    no n same is = false≢true (sym unseen ∙ same ∙ is)

pub passes_by : (fn : Function ℕ Note) (known : Known) (seen : List Bool) (b c : ℕ) (block : Block ℕ Note) → slice_get fn.blocks b ≡ Some block → OnlyGoes known block c → slice_index_or seen b true ≡ false → All (IsSeen seen) fn.loops → Passes fn known b c
passes_by fn known seen b c block there only unseen all =
    record { block = block; there = there; mark = only.mark; code = only.code; apart = not_seen seen fn.loops b all unseen; goes = only.goes }

comes_more : (fn : Function ℕ Note) (known : Known) (n a b c : ℕ) → Comes fn known n a b → Passes fn known b c → Comes fn known (suc n) a c
comes_more fn known zero a b c h passes = (c, subst (λ x. Passes fn known x c) (sym h) passes, refl)
comes_more fn known (suc n) a b c h passes = (h.0, h.1, comes_more fn known n h.0 b c h.2 passes)

pub leads_more : (fn : Function ℕ Note) (known : Known) (a b c : ℕ) → Leads fn known a b → Passes fn known b c → Leads fn known a c
leads_more fn known a b c h passes = record { past = suc h.past; comes = comes_more fn known h.past a b c h.comes passes }

pub leads_here : (fn : Function ℕ Note) (known : Known) (a : ℕ) → Leads fn known a a
leads_here fn known a = record { past = 0; comes = refl }
