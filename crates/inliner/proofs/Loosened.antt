-- The program of functions that were gone through, as the code has it.
use Rattle.std.proofs.Common.{◌≡◌, ℕ, ◌<◌, List, map, ap, ◌∙◌, arith}
use Rattle.std.specs.Prelude.{if◌then◌else◌}
use Rattle.std.proofs.lemmas.Bool.{eq-eqb, ne_eqb}
use Rattle.high_ir.specs.declared.high.Function as functions
use Rattle.high_ir.specs.declared.high.High.{High}
use Rattle.high_ir.specs.declared.object.Object as objects
use Rattle.high_ir.specs.Formed.{IsHigh}
use Rattle.high_ir.specs.Programs.{program_of}
use Rattle.high_ir.specs.Tree.{Program}
use Rattle.high_ir.specs.View.{function_of, object_of, program}
use Rattle.high_again.specs.Same.{same_listing}
use Rattle.high_renumber.specs.Keeping.{IsLoose}
use Rattle.high_renumber.specs.Numbered.{copies_in, renumbered}
use Rattle.inliner.specs.Inlining.{Making, copies_of_inlined, inlined, opened_program, swept}
use Rattle.inliner.proofs.Lawful.{loose}

pub loose_made : (limit : ℕ) (p : Program) → IsHigh p → (n : ℕ) → IsLoose (opened_program limit p n)
loose_made limit p high n = loose limit p high n

-- the parts of the code are those of the definition
pub loose_same : (limit n : ℕ) (old : High) (made : Making) (fs : List functions.Function) (os : List objects.Object) → made ≡ swept limit (program_of old) n → map function_of fs ≡ made.functions → map object_of os ≡ map object_of old.objects.items →
    program fs os old.main old.marks old.loops ≡ opened_program limit (program_of old) n
loose_same limit n old made fs os is functions objects =
    ap (λ x. record { functions = x; objects = map object_of os; main = old.main; marks = old.marks; loops = old.loops }) (functions ∙ ap (λ m. m.functions) is)
    ∙ ap (λ x. record { functions = (swept limit (program_of old) n).functions; objects = x; main = old.main; marks = old.marks; loops = old.loops }) objects

pub inlined_none : (limit : ℕ) (p : Program) (n : ℕ) → n ≡ 0 → inlined limit p n ≡ p
inlined_none limit p n none = ap (λ b. if b then p else renumbered (opened_program limit p n)) (eq-eqb n 0 none)

pub listed_none : (limit : ℕ) (p : Program) (n : ℕ) → n ≡ 0 → copies_of_inlined limit p n ≡ same_listing p
listed_none limit p n none = ap (λ b. if b then same_listing p else copies_in (opened_program limit p n)) (eq-eqb n 0 none)

pub inlined_some : (limit : ℕ) (p : Program) (n : ℕ) → 0 < n → inlined limit p n ≡ renumbered (opened_program limit p n)
inlined_some limit p n some = ap (λ b. if b then p else renumbered (opened_program limit p n)) (ne_eqb n 0 (λ e. absurd (omega (arith, e, some))))

pub listed_some : (limit : ℕ) (p : Program) (n : ℕ) → 0 < n → copies_of_inlined limit p n ≡ copies_in (opened_program limit p n)
listed_some limit p n some = ap (λ b. if b then same_listing p else copies_in (opened_program limit p n)) (ne_eqb n 0 (λ e. absurd (omega (arith, e, some))))
