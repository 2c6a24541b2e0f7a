use Rattle.std.proofs.Common.{◌≡◌, ℕ, List, ap, length, map, subst, sym, ◌∙◌}
use Rattle.high_ir.specs.Formed.{IsHigh}
use Rattle.high_ir.specs.Programs.{program_of}
use Rattle.high_ir.specs.Tree.{Function, Object, Program}
use Rattle.high_ir.specs.View.{function_of, object_of}
use Rattle.high_folded.specs.Folded.{folded_functions, folded_program, kept_in}
use Rattle.high_folded.proofs.Formed.{folded_is_high}
use Rattle.high_fold.proofs.program.folded_program.Goals as goal

-- a program of these parts
abbrev of_parts : List Function → List Object → (main marks loops : ℕ) → Program
of_parts functions objects main marks loops = record { functions = functions; objects = objects; main = main; marks = marks; loops = loops }

from_parts : (p : Program) (functions : List Function) (objects : List Object) (loops : ℕ) → functions ≡ folded_functions 0 p.functions → objects ≡ p.objects → loops ≡ length (kept_in p.functions) → of_parts functions objects p.main p.marks loops ≡ folded_program p
from_parts p functions objects loops f o l =
    ap (λ fs. of_parts fs objects p.main p.marks loops) f
    ∙ ap (λ os. of_parts (folded_functions 0 p.functions) os p.main p.marks loops) o
    ∙ ap (of_parts (folded_functions 0 p.functions) p.objects p.main p.marks) l

pub invariant_of-program : goal.invariant_of-program
invariant_of-program c =
    let old = c.args.old.now in
    let p = program_of old in
    let made = c.in-Ok.ensures in
    let same = from_parts p (map function_of c.in-Ok.made.functions.items) (map object_of c.in_ok-objects.objects.items) c.in-Ok.made.loops
    (made.functions ∙ ap (λ fs. folded_functions 0 (map function_of fs)) c.deref-2.ensures.value)
    (c.in_ok-objects.ensures ∙ ap (map object_of) c.deref.ensures.value)
    (made.loops ∙ ap (λ fs. length (kept_in (map function_of fs))) c.deref-2.ensures.value) in
    record { is_high = subst IsHigh (sym same) (folded_is_high p old.is_high) }

pub returns-in-Ok-clause-program : goal.returns-in-Ok-clause-program
returns-in-Ok-clause-program c =
    let old = c.args.old.now in
    let made = c.in-Ok.ensures in
    from_parts (program_of old) (map function_of c.in-Ok.made.functions.items) (map object_of c.in_ok-objects.objects.items) c.in-Ok.made.loops
    (made.functions ∙ ap (λ fs. folded_functions 0 (map function_of fs)) c.deref-2.ensures.value)
    (c.in_ok-objects.ensures ∙ ap (map object_of) c.deref.ensures.value)
    (made.loops ∙ ap (λ fs. length (kept_in (map function_of fs))) c.deref-2.ensures.value)

pub returns-in-Ok-clause-kept : goal.returns-in-Ok-clause-kept
returns-in-Ok-clause-kept c = c.in-Ok.ensures.kept ∙ ap (λ fs. kept_in (map function_of fs)) c.deref-2.ensures.value
