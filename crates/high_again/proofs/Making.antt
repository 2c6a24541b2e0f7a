-- What the code makes, in the words of the views.
use Rattle.std.proofs.Common.{◌≡◌, ℕ, List, [], ◌∷◌, map, refl, sym, ap, ◌∙◌}
use Rattle.std.specs.Prelude.{Vec}
use Rattle.std.specs.Global.{Global}
use Rattle.std.specs.List.{range_with_len}
use Rattle.high_ir.specs.declared.copies.NeverMark.{NeverMark}
use Rattle.high_ir.specs.declared.statement.Statement as statements
use Rattle.high_ir.specs.Tree.{End, Function, Object, Program, Seq, Statement, Statements, Then}
use Rattle.high_ir.specs.View.{statement_of, statements_of}
use Rattle.high_ir.proofs.Rows.{statement_of-Seq}
use Rattle.high_pass.specs.Listing.{Listing, LoopEntry, MarkEntry}
use Rattle.high_again.specs.Same.{same_listing, same_loop}
use Rattle.high_parts.specs.Same.{same_marks}

-- a sequence is that of its parts
abbrev in_row : List Statement → Statements
in_row [] = End
in_row (s ∷ ss) = Then s (in_row ss)

by_parts : (xs : List statements.Statement) → statements_of xs ≡ in_row (map statement_of xs)
by_parts [] = refl
by_parts (x ∷ xs) = ap (Then (statement_of x)) (by_parts xs)

pub seq_same : (s : statements.Statement) (v : Vec statements.Statement Global) (xs : List statements.Statement) (w : Vec statements.Statement Global) → s ≡ statements.Seq v → xs ≡ v.items → map statement_of w.items ≡ map statement_of xs → statement_of (statements.Seq w) ≡ statement_of s
seq_same s v xs w is read made =
    statement_of-Seq w ∙ ap Seq (by_parts w.items ∙ ap in_row made ∙ sym (by_parts xs) ∙ ap statements_of read) ∙ sym (statement_of-Seq v) ∙ ap statement_of (sym is)

-- a listing and a program from their parts
pub listed : (p : Program) (marks : List MarkEntry) (loops : List LoopEntry) (nevers : List NeverMark) →
    marks ≡ same_marks p.marks → loops ≡ map same_loop (range_with_len 0 p.loops) → nevers ≡ [] → record { marks = marks; loops = loops; nevers = nevers } ≡ same_listing p
listed p marks loops nevers m l n =
    let same = same_listing p in
    let whole : List MarkEntry → List LoopEntry → List NeverMark → Listing = λ ms ls ns. record { marks = ms; loops = ls; nevers = ns } in
    ap (λ x. whole x loops nevers) m ∙ ap (λ x. whole same.marks x nevers) l ∙ ap (λ x. whole same.marks same.loops x) n

abbrev of_parts : List Function → List Object → (main marks loops : ℕ) → Program
of_parts functions objects main marks loops = record { functions = functions; objects = objects; main = main; marks = marks; loops = loops }

pub from_parts : (p : Program) (functions : List Function) (objects : List Object) → functions ≡ p.functions → objects ≡ p.objects → of_parts functions objects p.main p.marks p.loops ≡ p
from_parts p functions objects f o = ap (λ fs. of_parts fs objects p.main p.marks p.loops) f ∙ ap (λ os. of_parts p.functions os p.main p.marks p.loops) o
