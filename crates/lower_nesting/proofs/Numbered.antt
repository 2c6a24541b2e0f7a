-- Blocks with their numbers, and loops, in rows.
use Rattle.std.proofs.Common.{◌≡◌, ℕ, ◌+◌, ◌<◌, ◌≤◌, List, [], ◌∷◌, ◌++◌, length, Option, Some, None, subst, arith, length-append}
use Rattle.low_ir.specs.Code.{Block, End, Jump, Branch, Return, Loop, Note}
use Rattle.lower_definition.specs.Operators.{Code}
use Rattle.lower_definition.specs.Statements.{Piece, landed, landed_by}
use Rattle.lower_nesting.specs.Segments.{AllInside, Inside}
use Rattle.lower_nesting.specs.Blocks.{AllGo, Each, EachLoop, Goes}

module _ (Q : ℕ → Block ℕ Note → Type 0) where
  pub each_append : (n : ℕ) (xs ys : List (Block ℕ Note)) → Each Q (n + length ys) xs → Each Q n ys → Each Q n (xs ++ ys)
  each_append n [] ys h k = k
  each_append n (x ∷ xs) ys h k =
      let total = length-append xs ys in
      let same : n + length ys + length xs ≡ n + length (xs ++ ys) = omega (arith, total) in
      (subst (λ i. Q i x) same h.0, each_append n xs ys h.1 k)

  pub each_at : (n m : ℕ) (bs : List (Block ℕ Note)) → n ≡ m → Each Q n bs → Each Q m bs
  each_at n m bs e h = subst (λ i. Each Q i bs) e h

  pub each_from : (P : ℕ → Type 0) (n : ℕ) (bs : List (Block ℕ Note)) → ((i : ℕ) (b : Block ℕ Note) → n ≤ i → i < n + length bs → Goes P b.end → Q i b) → AllGo P bs → Each Q n bs
  each_from P n [] go h = tt
  each_from P n (b ∷ bs) go h = (go (n + length bs) b (omega arith) (omega arith) h.0, each_from P n bs (λ i x low high g. go i x low (omega (arith, high)) g) h.1)

  pub each_any : (n : ℕ) (bs : List (Block ℕ Note)) → ((i : ℕ) (b : Block ℕ Note) → n ≤ i → i < n + length bs → Q i b) → Each Q n bs
  each_any n [] go = tt
  each_any n (b ∷ bs) go = (go (n + length bs) b (omega arith) (omega arith), each_any n bs (λ i x low high. go i x low (omega (arith, high))))

  pub landed_each : (n : ℕ) (p : Piece) → Each Q n p.new → Q (n + length p.new) p.first → Each Q n (landed n p).new
  landed_each n p h k = by_first p.first.mark p.first.code p.first.end
    where
      by_first : (m : Option ℕ) (c : Code) (e : End ℕ) → Each Q n (landed_by m c e n p).new
      by_first (Some m) c e = (k, h)
      by_first None (i ∷ is) e = (k, h)
      by_first None [] (Branch c x y taken other) = (k, h)
      by_first None [] (Return x) = (k, h)
      by_first None [] (Jump b) = h

pub each_map : (Q R : ℕ → Block ℕ Note → Type 0) (n : ℕ) (bs : List (Block ℕ Note)) → ((i : ℕ) (b : Block ℕ Note) → Q i b → R i b) → Each Q n bs → Each R n bs
each_map Q R n [] go h = tt
each_map Q R n (b ∷ bs) go h = (go (n + length bs) b h.0, each_map Q R n bs go h.1)

pub loops_append : (P : Loop → Type 0) (xs ys : List Loop) → EachLoop P xs → EachLoop P ys → EachLoop P (xs ++ ys)
loops_append P [] ys h k = k
loops_append P (x ∷ xs) ys h k = (h.0, loops_append P xs ys h.1 k)

pub loops_map : (P Q : Loop → Type 0) (n m : ℕ) (ls : List Loop) → AllInside n m ls → EachLoop P ls → ((l : Loop) → Inside n m l → P l → Q l) → EachLoop Q ls
loops_map P Q n m [] inside h go = tt
loops_map P Q n m (l ∷ ls) inside h go = (go l inside.0 h.0, loops_map P Q n m ls inside.1 h.1 go)

pub loops_all : (Q : Loop → Type 0) (n m : ℕ) (ls : List Loop) → AllInside n m ls → ((l : Loop) → Inside n m l → Q l) → EachLoop Q ls
loops_all Q n m [] inside go = tt
loops_all Q n m (l ∷ ls) inside go = (go l inside.0, loops_all Q n m ls inside.1 go)
