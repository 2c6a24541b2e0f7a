-- The renumbered program, from what the code makes.
use Rattle.std.proofs.Common.{◌≡◌, ℕ, ◌<◌, List, [], ◌++◌, length, sym, ap, ◌∙◌, subst, All}
use Rattle.std.specs.List.{range_with_len}
use Rattle.std.proofs.lemmas.List.FromFn.{length-range_with_len}
use Rattle.high_ir.specs.declared.copies.NeverMark.{NeverMark}
use Rattle.high_ir.specs.Standing.{loops_in, marks_in}
use Rattle.high_ir.specs.Tree.{Function, Object, Program}
use Rattle.high_pass.specs.Listing.{Listing, LoopEntry, MarkEntry}
use Rattle.high_renumber.specs.Keeping.{IsLoose}
use Rattle.high_renumber.specs.Numbered.{copies_by, functions_numbered, ids, loop_origins, mark_origins, renumbered}
use Rattle.high_renumber.proofs.Lawful.{origins_below}

-- the origins behind the opening marks
pub marks_made : (fs : List Function) (n : ℕ) (old now : List ℕ) → n ≡ length fs → old ≡ range_with_len 0 n → now ≡ old ++ marks_in fs → now ≡ mark_origins fs
marks_made fs n old now count is made = made ∙ ap (λ l. l ++ marks_in fs) (is ∙ ap (range_with_len 0) count)

pub loops_made : (fs : List Function) (old now : List ℕ) → old ≡ [] → now ≡ old ++ ids (loops_in fs) → now ≡ loop_origins fs
loops_made fs old now is made = made ∙ ap (λ l. l ++ ids (loops_in fs)) is

pub functions_made : (fs : List Function) (n : ℕ) (marks loops : List ℕ) (gs : List Function) → n ≡ length fs → marks ≡ range_with_len 0 n → loops ≡ [] → gs ≡ functions_numbered (length marks) (length loops) fs → gs ≡ functions_numbered (length fs) 0 fs
functions_made fs n marks loops gs count first none made =
    made
    ∙ ap (λ m. functions_numbered m (length loops) fs) (ap length first ∙ length-range_with_len 0 n ∙ count)
    ∙ ap (λ l. functions_numbered (length fs) (length l) fs) none

pub program_made : (p : Program) (gs : List Function) (os : List Object) (main marks loops : ℕ) → gs ≡ functions_numbered (length p.functions) 0 p.functions → os ≡ p.objects → main ≡ p.main → marks ≡ length (mark_origins p.functions) → loops ≡ length (loop_origins p.functions) →
    record { functions = gs; objects = os; main = main; marks = marks; loops = loops } ≡ renumbered p
program_made p gs os main marks loops a b c d e =
    let made : List Function → List Object → ℕ → ℕ → ℕ → Program = λ f o m k l. record { functions = f; objects = o; main = m; marks = k; loops = l } in
    let whole = renumbered p in
    ap (λ x. made x os main marks loops) a
    ∙ ap (λ x. made whole.functions x main marks loops) b
    ∙ ap (λ x. made whole.functions p.objects x marks loops) c
    ∙ ap (λ x. made whole.functions p.objects p.main x loops) d
    ∙ ap (λ x. made whole.functions p.objects p.main whole.marks x) e

-- a listing from its parts
pub listed : (n k : ℕ) (os los : List ℕ) (marks : List MarkEntry) (loops : List LoopEntry) (nevers : List NeverMark) → marks ≡ (copies_by n k os los).marks → loops ≡ (copies_by n k os los).loops → nevers ≡ [] → record { marks = marks; loops = loops; nevers = nevers } ≡ copies_by n k os los
listed n k os los marks loops nevers m l v =
    let made = copies_by n k os los in
    let whole : List MarkEntry → List LoopEntry → List NeverMark → Listing = λ ms ls ns. record { marks = ms; loops = ls; nevers = ns } in
    ap (λ x. whole x loops nevers) m ∙ ap (λ x. whole made.marks x nevers) l ∙ ap (λ x. whole made.marks made.loops x) v

pub below_made : (p : Program) → IsLoose p → (now : List ℕ) → now ≡ mark_origins p.functions → All (λ o. o < p.marks) now
below_made p loose now is = subst (All (λ o. o < p.marks)) (sym is) (origins_below p loose)

pub loops_below_made : (p : Program) → IsLoose p → (now : List ℕ) → now ≡ loop_origins p.functions → All (λ o. o < p.loops) now
loops_below_made p loose now is = subst (All (λ o. o < p.loops)) (sym is) loose.loops
