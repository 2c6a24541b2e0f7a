-- How a walk goes on.
use Rattle.std.proofs.Common.{◌≡◌, ℕ, zero, suc, ◌+◌, ◌-◌, ◌*◌, ◌/◌, ◌<◌, ◌≤◌, Bool, true, false, List, [], ◌∷◌, ◌++◌, length, map, get_or, drop, refl, sym, ap, ◌∙◌, arith, append_assoc, append-nil, length-append}
use Rattle.std.specs.Prelude.{Vec}
use Rattle.std.specs.Global.{Global}
use Rattle.std.proofs.lemmas.List.{drop_all, length-map, map-append, map_push}
use Rattle.high_code.specs.Code.{alone, joined}
use Rattle.high_ir.proofs.Rows.{statement_of-Seq}
use Rattle.high_ir.specs.Splitting.{split}
use Rattle.high_ir.specs.Standing.{marks_of, marks_of_all}
use Rattle.high_ir.specs.Tree.{Expr, Function, Statement, If, Loop, Mark, Seq, Statements, End, Then}
use Rattle.high_ir.specs.View.{function_of, statement_of, statements_of}
use Rattle.high_ir.specs.declared.copies.LoopCopies.{LoopCopies}
use Rattle.high_ir.specs.declared.high.Function as functions
use Rattle.high_ir.specs.declared.statement.Statement as statements
use Rattle.high_parts.proofs.Making.{joined_end, joined_then, statements_push}
use Rattle.high_pass.specs.Listing.{LoopEntry, loop_entry}
use Rattle.high_unrolled.proofs.Numbered.{length-repeated}
use Rattle.high_unrolled.specs.declared.made.Made.{Made}
use Rattle.high_unrolled.specs.declared.made.Made.TheVariants.{CopyOf, Behind}
use Rattle.high_unrolled.specs.Factor.{Rolled, as_loop, ended, first_starts, grouped, growth, is_short, is_taken, turned}
use Rattle.high_unrolled.specs.Programs.{function_spread, functions_spread}
use Rattle.high_unrolled.specs.Starts.{mark_count, remarked, remarked_all, repeated, starts}
use Rattle.high_unrolled.specs.Unrolling.{Place, Became, at_loop, both, inside, kept, loop_copied, loop_gone, same, spread, spread_all, taken}
use Rattle.unroller.specs.View.{Progress, continued, copied, going, less_room, met, noted, past}
use Rattle.unroller.proofs.Rows.{from_place, seq_seen}

alike : (room m1 m2 l1 l2 : ℕ) (a b : List Made) (c d : List LoopEntry) → m1 ≡ m2 → l1 ≡ l2 → a ≡ b → c ≡ d → going room m1 l1 a c ≡ going room m2 l2 b d
alike room m1 m2 l1 l2 a b c d marks loops made entries =
    ap (λ m. going room m l1 a c) marks ∙ ap (λ l. going room m2 l a c) loops ∙ ap (λ x. going room m2 l2 x c) made ∙ ap (λ e. going room m2 l2 b e) entries

plus_none : (n : ℕ) → n + 0 ≡ n
plus_none n = omega arith

plus_plus : (a b c : ℕ) → a + b + c ≡ a + (b + c)
plus_plus a b c = omega arith

-- one mark, one loop, and one that is gone, as the code notes them
pub one_marked : (room marks next loops : ℕ) (made more : List Made) (entries : List LoopEntry) (x : Made) → next ≡ marks + 1 → more ≡ made ++ x ∷ [] → going room next loops more entries ≡ noted (going room marks loops made entries) (x ∷ [])
one_marked room marks next loops made more entries x one pushed = alike room next (marks + 1) loops loops more (made ++ x ∷ []) entries entries one refl pushed refl

pub one_met : (room marks loops next : ℕ) (made : List Made) (entries more : List LoopCopies) (e : LoopCopies) (id factor : ℕ) → next ≡ loops + 1 → more ≡ entries ++ e ∷ [] → loop_entry e ≡ loop_copied id loops factor →
    going room marks next made (map loop_entry more) ≡ met (going room marks loops made (map loop_entry entries)) id factor
one_met room marks loops next made entries more e id factor one pushed is =
    alike room marks marks next (loops + 1) made made (map loop_entry more) (map loop_entry entries ++ loop_copied id loops factor ∷ [])
    refl one refl
    (ap (map loop_entry) pushed ∙ map_push loop_entry entries e ∙ ap (λ y. map loop_entry entries ++ y ∷ []) is)

pub one_past : (room marks loops : ℕ) (made : List Made) (entries more : List LoopCopies) (e : LoopCopies) (id : ℕ) → more ≡ entries ++ e ∷ [] → loop_entry e ≡ loop_gone id →
    going room marks loops made (map loop_entry more) ≡ past (going room marks loops made (map loop_entry entries)) id
one_past room marks loops made entries more e id pushed is =
    ap (going room marks loops made) (ap (map loop_entry) pushed ∙ map_push loop_entry entries e ∙ ap (λ y. map loop_entry entries ++ y ∷ []) is)

pub noted_noted : (p : Progress) (xs ys : List Made) → noted (noted p xs) ys ≡ noted p (xs ++ ys)
noted_noted p xs ys =
    alike p.place.room (p.place.marks + length xs + length ys) (p.place.marks + length (xs ++ ys)) p.place.loops p.place.loops ((p.made ++ xs) ++ ys) (p.made ++ (xs ++ ys)) p.entries p.entries
    (plus_plus p.place.marks (length xs) (length ys) ∙ ap (λ l. p.place.marks + l) (sym (length-append xs ys)))
    refl (append_assoc p.made xs ys) refl

-- no copies
copied_none : (p : Progress) → copied p [] ≡ p
copied_none p = alike p.place.room (p.place.marks + 0) p.place.marks p.place.loops p.place.loops (p.made ++ []) p.made p.entries p.entries (plus_none p.place.marks) refl (append-nil p.made) refl

pub none_copied : (p : Progress) → p ≡ copied p []
none_copied p = sym (copied_none p)

copied_copied : (p : Progress) (xs ys : List ℕ) → copied (copied p xs) ys ≡ copied p (xs ++ ys)
copied_copied p xs ys = noted_noted p (map CopyOf xs) (map CopyOf ys) ∙ ap (noted p) (sym (map-append CopyOf xs ys))

pub copied_twice : (p q r : Progress) (xs ys : List ℕ) → q ≡ copied p xs → r ≡ copied q ys → r ≡ copied p (xs ++ ys)
copied_twice p q r xs ys first then = then ∙ ap (λ x. copied x ys) first ∙ copied_copied p xs ys

pub next_mark : (p q : Progress) (xs : List ℕ) → q ≡ copied p xs → q.place.marks ≡ p.place.marks + length xs
next_mark p q xs made = ap (λ x. x.place.marks) made ∙ ap (λ l. p.place.marks + l) (length-map xs CopyOf)

-- a copy of a sequence, and of a choice
pub seq_remarked : (m : ℕ) (s : statements.Statement) (v : Vec statements.Statement Global) (xs : List statements.Statement) (w : Vec statements.Statement Global) → s ≡ statements.Seq v → xs ≡ v.items → statements_of w.items ≡ remarked_all m (statements_of xs) → statement_of (statements.Seq w) ≡ remarked m (statement_of s)
seq_remarked m s v xs w is read made = statement_of-Seq w ∙ ap Seq made ∙ ap (remarked m) (sym (seq_seen s v xs is read))

pub seq_copied : (p q : Progress) (s : statements.Statement) (v : Vec statements.Statement Global) (xs : List statements.Statement) → s ≡ statements.Seq v → xs ≡ v.items → q ≡ copied p (marks_of_all (statements_of xs)) → q ≡ copied p (marks_of (statement_of s))
seq_copied p q s v xs is read made = made ∙ ap (λ t. copied p (marks_of t)) (sym (seq_seen s v xs is read))

pub both_remarked : (p q : Progress) (test : Expr) (first other f o r : Statement) → f ≡ remarked p.place.marks first → q ≡ copied p (marks_of first) → o ≡ remarked q.place.marks other → r ≡ If test f o → r ≡ remarked p.place.marks (If test first other)
both_remarked p q test first other f o r one noted two made =
    made ∙ ap (λ s. If test s o) one ∙ ap (If test (remarked p.place.marks first)) (two ∙ ap (λ k. remarked k other) (next_mark p q (marks_of first) noted))

-- one copy more of several statements
pub part_remarked : (xs made made' : List statements.Statement) (i : ℕ) (x y : statements.Statement) (p q : Progress) → i < length xs → x ≡ get_or xs i x → statement_of y ≡ remarked p.place.marks (statement_of x) → q ≡ copied p (marks_of (statement_of x)) → made' ≡ made ++ y ∷ [] →
    joined (statements_of made') (remarked_all q.place.marks (statements_of (drop (i + 1) xs))) ≡ joined (statements_of made) (remarked_all p.place.marks (statements_of (drop i xs)))
part_remarked xs made made' i x y p q lt is code noted pushed =
    let rest : Statements = statements_of (drop (i + 1) xs) in
    let behind : Statements = remarked_all (p.place.marks + mark_count (statement_of x)) rest in
    ap (λ k. joined (statements_of made') (remarked_all k rest)) (next_mark p q (marks_of (statement_of x)) noted)
    ∙ ap (λ l. joined l behind) (ap statements_of pushed ∙ statements_push made y ∙ ap (λ s. joined (statements_of made) (alone s)) code)
    ∙ joined_then (statements_of made) (remarked p.place.marks (statement_of x)) behind
    ∙ sym (ap (λ l. joined (statements_of made) (remarked_all p.place.marks (statements_of l))) (from_place xs i x lt is))

pub part_copied : (xs : List statements.Statement) (i : ℕ) (x : statements.Statement) (p q : Progress) → i < length xs → x ≡ get_or xs i x → q ≡ copied p (marks_of (statement_of x)) →
    copied q (marks_of_all (statements_of (drop (i + 1) xs))) ≡ copied p (marks_of_all (statements_of (drop i xs)))
part_copied xs i x p q lt is noted =
    ap (λ r. copied r (marks_of_all (statements_of (drop (i + 1) xs)))) noted
    ∙ copied_copied p (marks_of (statement_of x)) (marks_of_all (statements_of (drop (i + 1) xs)))
    ∙ sym (ap (λ l. copied p (marks_of_all (statements_of l))) (from_place xs i x lt is))

-- and no part is left
pub all_remarked : (xs made : List statements.Statement) (i m : ℕ) → length xs ≤ i → statements_of made ≡ joined (statements_of made) (remarked_all m (statements_of (drop i xs)))
all_remarked xs made i m le = sym (joined_end (statements_of made)) ∙ ap (λ l. joined (statements_of made) (remarked_all m (statements_of l))) (sym (drop_all i xs le))

pub all_copied : (xs : List statements.Statement) (i : ℕ) (p : Progress) → length xs ≤ i → p ≡ copied p (marks_of_all (statements_of (drop i xs)))
all_copied xs i p le = none_copied p ∙ ap (λ l. copied p (marks_of_all (statements_of l))) (sym (drop_all i xs le))

-- one start more
pub starts_more : (left less : ℕ) (body : Statement) (made made' : List statements.Statement) (y : statements.Statement) (p q : Progress) → left ≡ suc less → statement_of y ≡ remarked p.place.marks body → q ≡ copied p (marks_of body) → made' ≡ made ++ y ∷ [] →
    joined (statements_of made') (starts less q.place.marks body End) ≡ joined (statements_of made) (starts left p.place.marks body End)
starts_more left less body made made' y p q one code noted pushed =
    let behind : Statements = starts less (p.place.marks + mark_count body) body End in
    ap (λ k. joined (statements_of made') (starts less k body End)) (next_mark p q (marks_of body) noted)
    ∙ ap (λ l. joined l behind) (ap statements_of pushed ∙ statements_push made y ∙ ap (λ s. joined (statements_of made) (alone s)) code)
    ∙ joined_then (statements_of made) (remarked p.place.marks body) behind
    ∙ ap (λ n. joined (statements_of made) (starts n p.place.marks body End)) (sym one)

pub repeated_more : (left less : ℕ) (ms : List ℕ) (p q : Progress) → left ≡ suc less → q ≡ copied p ms → copied q (repeated less ms) ≡ copied p (repeated left ms)
repeated_more left less ms p q one noted = ap (λ r. copied r (repeated less ms)) noted ∙ copied_copied p ms (repeated less ms) ∙ ap (λ n. copied p (repeated n ms)) (sym one)

pub starts_all : (left m : ℕ) (body : Statement) (made : List statements.Statement) → left ≡ 0 → statements_of made ≡ joined (statements_of made) (starts left m body End)
starts_all left m body made none = sym (joined_end (statements_of made)) ∙ ap (λ n. joined (statements_of made) (starts n m body End)) (sym none)

pub repeated_all : (left : ℕ) (ms : List ℕ) (p : Progress) → left ≡ 0 → p ≡ copied p (repeated left ms)
repeated_all left ms p none = none_copied p ∙ ap (λ n. copied p (repeated n ms)) (sym none)

-- starts, and then other statements
joined_starts : (n m : ℕ) (body : Statement) (after : Statements) → joined (starts n m body End) after ≡ starts n m body after
joined_starts zero m body after = refl
joined_starts (suc n) m body after = ap (Then (remarked m body)) (joined_starts n (m + mark_count body) body after)

next_start : (n : ℕ) (body : Statement) (p q : Progress) → q ≡ copied p (repeated n (marks_of body)) → q.place.marks ≡ p.place.marks + n * mark_count body
next_start n body p q noted = next_mark p q (repeated n (marks_of body)) noted ∙ ap (λ l. p.place.marks + l) (length-repeated n (marks_of body))

pub ended_made : (id least most never : ℕ) (body r : Statement) (parts : Statements) (p q : Progress) → parts ≡ starts most p.place.marks body End → q ≡ copied p (repeated most (marks_of body)) → never ≡ q.place.marks → r ≡ Seq (joined parts (alone (Mark never))) →
    r ≡ ended p.place.marks (as_loop id least most body)
ended_made id least most never body r parts p q code noted number made =
    made
    ∙ ap (λ l. Seq (joined l (alone (Mark never)))) code
    ∙ ap (λ k. Seq (joined (starts most p.place.marks body End) (alone (Mark k)))) (number ∙ next_start most body p q noted)
    ∙ ap Seq (joined_starts most p.place.marks body (alone (Mark (p.place.marks + most * mark_count body))))

-- a loop of so many starts at a time
abbrev pub several : (k number m : ℕ) → Rolled → Statement
several k number m x = Loop number (split x.bounds k).least (split x.bounds k).most (grouped k m x)

pub grouped_made : (k number m : ℕ) (x : Rolled) (least most : ℕ) (t r : Statement) (parts : Statements) → least ≡ (split x.bounds k).least → most ≡ x.bounds.most / k → parts ≡ starts k m x.body End → t ≡ Seq parts → r ≡ Loop number least most t → r ≡ several k number m x
grouped_made k number m x least most t r parts fewest greatest code seq made =
    made
    ∙ ap (λ n. Loop number n most t) fewest
    ∙ ap (λ n. Loop number (split x.bounds k).least n t) greatest
    ∙ ap (Loop number (split x.bounds k).least (split x.bounds k).most) (seq ∙ ap Seq code)

pub turned_made : (k number : ℕ) (x : Rolled) (last r : Statement) (parts : Statements) (p q : Progress) → parts ≡ starts (first_starts k x) p.place.marks x.body End → q ≡ copied p (repeated (first_starts k x) (marks_of x.body)) →
    last ≡ several k number q.place.marks x → r ≡ Seq (joined parts (alone last)) → r ≡ turned k p.place.marks number x
turned_made k number x last r parts p q code noted looped made =
    made
    ∙ ap (λ l. Seq (joined l (alone last))) code
    ∙ ap (λ s. Seq (joined (starts (first_starts k x) p.place.marks x.body End) (alone s))) (looped ∙ ap (λ m. several k number m x) (next_start (first_starts k x) x.body p q noted))
    ∙ ap Seq (joined_starts (first_starts k x) p.place.marks x.body (alone (several k number (p.place.marks + first_starts k x * mark_count x.body) x)))

-- code that stays as it is
continued_same : {A : Type 0} (p : Progress) (code : A) → continued p (same p.place code) ≡ p
continued_same p code =
    alike p.place.room (p.place.marks + 0) p.place.marks (p.place.loops + 0) p.place.loops (p.made ++ []) p.made (p.entries ++ []) p.entries
    (plus_none p.place.marks) (plus_none p.place.loops) (append-nil p.made) (append-nil p.entries)

pub stays : {A : Type 0} (p : Progress) (code : A) → p ≡ continued p (same p.place code)
stays p code = sym (continued_same p code)

-- one piece of code and then another
continued_both : {A B C : Type 0} (f : A → B → C) (p : Progress) (x : Became A) (y : Became B) → continued (continued p x) y ≡ continued p (both f x y)
continued_both f p x y =
    alike y.room (p.place.marks + length x.made + length y.made) (p.place.marks + length (x.made ++ y.made)) (p.place.loops + x.loops + y.loops) (p.place.loops + (x.loops + y.loops))
    ((p.made ++ x.made) ++ y.made) (p.made ++ (x.made ++ y.made)) ((p.entries ++ x.entries) ++ y.entries) (p.entries ++ (x.entries ++ y.entries))
    (plus_plus p.place.marks (length x.made) (length y.made) ∙ ap (λ l. p.place.marks + l) (sym (length-append x.made y.made)))
    (plus_plus p.place.loops x.loops y.loops)
    (append_assoc p.made x.made y.made)
    (append_assoc p.entries x.entries y.entries)

module _ (k level : ℕ) where
  -- a sequence, and a choice
  pub seq_spread : (p : Progress) (s : statements.Statement) (v : Vec statements.Statement Global) (xs : List statements.Statement) (w : Vec statements.Statement Global) → s ≡ statements.Seq v → xs ≡ v.items → statements_of w.items ≡ (spread_all k (level + 1) p.place (statements_of xs)).code → statement_of (statements.Seq w) ≡ (spread k level p.place (statement_of s)).code
  seq_spread p s v xs w is read made = statement_of-Seq w ∙ ap Seq made ∙ ap (λ t. (spread k level p.place t).code) (sym (seq_seen s v xs is read))

  pub seq_goes : (p q : Progress) (s : statements.Statement) (v : Vec statements.Statement Global) (xs : List statements.Statement) → s ≡ statements.Seq v → xs ≡ v.items → q ≡ continued p (spread_all k (level + 1) p.place (statements_of xs)) → q ≡ continued p (spread k level p.place (statement_of s))
  seq_goes p q s v xs is read made = made ∙ ap (λ t. continued p (spread k level p.place t)) (sym (seq_seen s v xs is read))

  pub both_spread : (p q : Progress) (test : Expr) (first other f o r : Statement) → f ≡ (spread k (level + 1) p.place first).code → q ≡ continued p (spread k (level + 1) p.place first) → o ≡ (spread k (level + 1) q.place other).code → r ≡ If test f o → r ≡ (spread k level p.place (If test first other)).code
  both_spread p q test first other f o r one goes two made =
      made ∙ ap (λ s. If test s o) one ∙ ap (If test (spread k (level + 1) p.place first).code) (two ∙ ap (λ x. (spread k (level + 1) x.place other).code) goes)

  pub both_go : (p q r : Progress) (test : Expr) (first other : Statement) → q ≡ continued p (spread k (level + 1) p.place first) → r ≡ continued q (spread k (level + 1) q.place other) → r ≡ continued p (spread k level p.place (If test first other))
  both_go p q r test first other goes then =
      let x : Became Statement = spread k (level + 1) p.place first in
      then ∙ ap (λ y. continued y (spread k (level + 1) y.place other)) goes ∙ continued_both (If test) p x (spread k (level + 1) (continued p x).place other)

  -- a loop: by the factor, or with what its body becomes
  module _ (p : Progress) (id least most : ℕ) (body : Statement) where
    abbrev x : Rolled
    x = as_loop id least most body

    abbrev choice_of : Bool → Became Statement
    choice_of b = at_loop k b level p.place x (spread k (level + 1) (inside p.place) body)

    pub taken_code : (b : Bool) (r : Statement) → b ≡ is_taken k p.place.room level x → b ≡ true → r ≡ (taken k (is_short k x) p.place x).code → r ≡ (spread k level p.place (Loop id least most body)).code
    taken_code b r is yes_taken made = made ∙ ap (λ c. (choice_of c).code) (sym yes_taken ∙ is)

    pub taken_goes : (b : Bool) (q : Progress) → b ≡ is_taken k p.place.room level x → b ≡ true → q ≡ continued p (taken k (is_short k x) p.place x) → q ≡ continued p (spread k level p.place (Loop id least most body))
    taken_goes b q is yes_taken made = made ∙ ap (λ c. continued p (choice_of c)) (sym yes_taken ∙ is)

    pub kept_code : (b : Bool) (q : Progress) (number : ℕ) (t r : Statement) → b ≡ is_taken k p.place.room level x → b ≡ false → number ≡ p.place.loops → q ≡ met p id 1 → t ≡ (spread k (level + 1) q.place body).code → r ≡ Loop number least most t → r ≡ (spread k level p.place (Loop id least most body)).code
    kept_code b q number t r is not_taken count goes within made =
        made
        ∙ ap (λ n. Loop n least most t) count
        ∙ ap (Loop p.place.loops least most) (within ∙ ap (λ y. (spread k (level + 1) y.place body).code) goes)
        ∙ ap (λ c. (choice_of c).code) (sym not_taken ∙ is)

    kept_on : (inner : Became Statement) → continued (met p id 1) inner ≡ continued p (kept level p.place x inner)
    kept_on inner =
        let e : p.place.loops + 1 + inner.loops ≡ p.place.loops + suc inner.loops = omega arith in
        alike inner.room (p.place.marks + length inner.made) (p.place.marks + length inner.made) (p.place.loops + 1 + inner.loops) (p.place.loops + suc inner.loops) (p.made ++ inner.made) (p.made ++ inner.made)
        ((p.entries ++ (loop_copied id p.place.loops 1 ∷ [])) ++ inner.entries) (p.entries ++ (loop_copied id p.place.loops 1 ∷ inner.entries))
        refl e refl (append_assoc p.entries (loop_copied id p.place.loops 1 ∷ []) inner.entries)

    pub kept_goes : (b : Bool) (q r : Progress) → b ≡ is_taken k p.place.room level x → b ≡ false → q ≡ met p id 1 → r ≡ continued q (spread k (level + 1) q.place body) → r ≡ continued p (spread k level p.place (Loop id least most body))
    kept_goes b q r is not_taken goes then =
        then
        ∙ ap (λ y. continued y (spread k (level + 1) y.place body)) goes
        ∙ kept_on (spread k (level + 1) (inside p.place) body)
        ∙ ap (λ c. continued p (choice_of c)) (sym not_taken ∙ is)

  -- one statement more of several
  pub part_spread : (xs made made' : List statements.Statement) (i : ℕ) (x y : statements.Statement) (p q : Progress) → i < length xs → x ≡ get_or xs i x → statement_of y ≡ (spread k level p.place (statement_of x)).code → q ≡ continued p (spread k level p.place (statement_of x)) → made' ≡ made ++ y ∷ [] →
      joined (statements_of made') (spread_all k level q.place (statements_of (drop (i + 1) xs))).code ≡ joined (statements_of made) (spread_all k level p.place (statements_of (drop i xs))).code
  part_spread xs made made' i x y p q lt is code goes pushed =
      let rest : Statements = statements_of (drop (i + 1) xs) in
      let first : Became Statement = spread k level p.place (statement_of x) in
      let behind : Statements = (spread_all k level (continued p first).place rest).code in
      ap (λ z. joined (statements_of made') (spread_all k level z.place rest).code) goes
      ∙ ap (λ l. joined l behind) (ap statements_of pushed ∙ statements_push made y ∙ ap (λ s. joined (statements_of made) (alone s)) code)
      ∙ joined_then (statements_of made) first.code behind
      ∙ sym (ap (λ l. joined (statements_of made) (spread_all k level p.place (statements_of l)).code) (from_place xs i x lt is))

  pub part_goes : (xs : List statements.Statement) (i : ℕ) (x : statements.Statement) (p q : Progress) → i < length xs → x ≡ get_or xs i x → q ≡ continued p (spread k level p.place (statement_of x)) →
      continued q (spread_all k level q.place (statements_of (drop (i + 1) xs))) ≡ continued p (spread_all k level p.place (statements_of (drop i xs)))
  part_goes xs i x p q lt is goes =
      let rest : Statements = statements_of (drop (i + 1) xs) in
      let first : Became Statement = spread k level p.place (statement_of x) in
      ap (λ z. continued z (spread_all k level z.place rest)) goes
      ∙ continued_both Then p first (spread_all k level (continued p first).place rest)
      ∙ sym (ap (λ l. continued p (spread_all k level p.place (statements_of l))) (from_place xs i x lt is))

  pub all_spread : (xs made : List statements.Statement) (i : ℕ) (z : Place) → length xs ≤ i → statements_of made ≡ joined (statements_of made) (spread_all k level z (statements_of (drop i xs))).code
  all_spread xs made i z le = sym (joined_end (statements_of made)) ∙ ap (λ l. joined (statements_of made) (spread_all k level z (statements_of l)).code) (sym (drop_all i xs le))

  pub all_gone : (xs : List statements.Statement) (i : ℕ) (p : Progress) → length xs ≤ i → p ≡ continued p (spread_all k level p.place (statements_of (drop i xs)))
  all_gone xs i p le = stays p End ∙ ap (λ l. continued p (spread_all k level p.place (statements_of l))) (sym (drop_all i xs le))

-- a loop by the factor, as the code notes it
pub short_goes : (k grown : ℕ) (p q : Progress) (x : Rolled) → grown ≡ growth k x → q ≡ noted (copied (past (less_room p grown) x.id) (repeated x.bounds.most (marks_of x.body))) (Behind x.id ∷ []) → is_short k x ≡ true → q ≡ continued p (taken k (is_short k x) p.place x)
short_goes k grown p q x grows made short =
    let copies : List Made = map CopyOf (repeated x.bounds.most (marks_of x.body)) in
    made
    ∙ ap (λ g. noted (noted (past (less_room p g) x.id) copies) (Behind x.id ∷ [])) grows
    ∙ noted_noted (past (less_room p (growth k x)) x.id) copies (Behind x.id ∷ [])
    ∙ ap (λ l. going (p.place.room - growth k x) (p.place.marks + length (copies ++ Behind x.id ∷ [])) l (p.made ++ (copies ++ Behind x.id ∷ [])) (p.entries ++ loop_gone x.id ∷ [])) (sym (plus_none p.place.loops))
    ∙ ap (λ b. continued p (taken k b p.place x)) (sym short)

pub long_goes : (k grown : ℕ) (p q : Progress) (x : Rolled) → grown ≡ growth k x → q ≡ copied (copied (met (less_room p grown) x.id k) (repeated (first_starts k x) (marks_of x.body))) (repeated k (marks_of x.body)) → is_short k x ≡ false → q ≡ continued p (taken k (is_short k x) p.place x)
long_goes k grown p q x grows made long =
    made
    ∙ ap (λ g. copied (copied (met (less_room p g) x.id k) (repeated (first_starts k x) (marks_of x.body))) (repeated k (marks_of x.body))) grows
    ∙ noted_noted (met (less_room p (growth k x)) x.id k) (map CopyOf (repeated (first_starts k x) (marks_of x.body))) (map CopyOf (repeated k (marks_of x.body)))
    ∙ ap (λ b. continued p (taken k b p.place x)) (sym long)

pub short_code : (k : ℕ) (z : Place) (r : Statement) (x : Rolled) → r ≡ ended z.marks x → is_short k x ≡ true → r ≡ (taken k (is_short k x) z x).code
short_code k z r x made short = made ∙ ap (λ b. (taken k b z x).code) (sym short)

pub long_code : (k : ℕ) (z : Place) (r : Statement) (x : Rolled) → r ≡ turned k z.marks z.loops x → is_short k x ≡ false → r ≡ (taken k (is_short k x) z x).code
long_code k z r x made long = made ∙ ap (λ b. (taken k b z x).code) (sym long)

module _ (k : ℕ) where
  -- one function more
  pub function_more : (fs made made' : List functions.Function) (i : ℕ) (f g : functions.Function) (p q : Progress) → i < length fs → f ≡ get_or fs i f → function_of g ≡ (function_spread k p.place (function_of f)).code → q ≡ continued p (function_spread k p.place (function_of f)) → made' ≡ made ++ g ∷ [] →
      map function_of made' ++ (functions_spread k q.place (map function_of (drop (i + 1) fs))).code ≡ map function_of made ++ (functions_spread k p.place (map function_of (drop i fs))).code
  function_more fs made made' i f g p q lt is code goes pushed =
      let rest : List Function = map function_of (drop (i + 1) fs) in
      let first : Became Function = function_spread k p.place (function_of f) in
      let behind : List Function = (functions_spread k (continued p first).place rest).code in
      ap (λ z. map function_of made' ++ (functions_spread k z.place rest).code) goes
      ∙ ap (λ l. l ++ behind) (ap (map function_of) pushed ∙ map_push function_of made g ∙ ap (λ h. map function_of made ++ h ∷ []) code)
      ∙ append_assoc (map function_of made) (first.code ∷ []) behind
      ∙ sym (ap (λ l. map function_of made ++ (functions_spread k p.place (map function_of l)).code) (from_place fs i f lt is))

  pub function_goes : (fs : List functions.Function) (i : ℕ) (f : functions.Function) (p q : Progress) → i < length fs → f ≡ get_or fs i f → q ≡ continued p (function_spread k p.place (function_of f)) →
      continued q (functions_spread k q.place (map function_of (drop (i + 1) fs))) ≡ continued p (functions_spread k p.place (map function_of (drop i fs)))
  function_goes fs i f p q lt is goes =
      let rest : List Function = map function_of (drop (i + 1) fs) in
      let first : Became Function = function_spread k p.place (function_of f) in
      ap (λ z. continued z (functions_spread k z.place rest)) goes
      ∙ continued_both (λ g gs. g ∷ gs) p first (functions_spread k (continued p first).place rest)
      ∙ sym (ap (λ l. continued p (functions_spread k p.place (map function_of l))) (from_place fs i f lt is))

  pub functions_all : (fs made : List functions.Function) (i : ℕ) (z : Place) → length fs ≤ i → map function_of made ≡ map function_of made ++ (functions_spread k z (map function_of (drop i fs))).code
  functions_all fs made i z le = sym (append-nil (map function_of made)) ∙ ap (λ l. map function_of made ++ (functions_spread k z (map function_of l)).code) (sym (drop_all i fs le))

  pub functions_gone : (fs : List functions.Function) (i : ℕ) (p : Progress) → length fs ≤ i → p ≡ continued p (functions_spread k p.place (map function_of (drop i fs)))
  functions_gone fs i p le = stays {A = List Function} p [] ∙ ap (λ l. continued p (functions_spread k p.place (map function_of l))) (sym (drop_all i fs le))
