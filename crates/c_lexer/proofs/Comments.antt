-- Comments end at one place.
use Rattle.std.proofs.Common.{◌≡◌, ℕ, ◌+◌, ◌<◌, ◌≤◌, ◌⊎◌, inl, inr, List, length, ap, arith}
use Rattle.std.specs.Prelude.{slice_index}
use Rattle.c_tree.specs.Bytes.{Each}
use Rattle.c_lexer.specs.Bytes.{IsOnLine, EndsBefore}
use Rattle.c_lexer.specs.Comments.{IsBlockComment, IsLineComment, IsComment}

pub three : (m n : ℕ) → (m ≡ n) ⊎ ((m < n) ⊎ (n < m))
three m n = grind arith

block_same : (source : List ℕ) (at end further : ℕ) → IsBlockComment source at end → IsBlockComment source at further → end ≡ further
block_same source at end further a b = elim (three a.last b.last) [
  | inl e ↦ omega (arith, a.ends, b.ends, e)
  | inr h ↦ elim h [ inl lt ↦ absurd (b.first a.last a.after lt a.closed) | inr lt ↦ absurd (a.first b.last b.after lt b.closed) ]
]

line_same : (source : List ℕ) (at end further : ℕ) → end ≤ length source → further ≤ length source → IsLineComment source at end → IsLineComment source at further → end ≡ further
line_same source at end further within further_within a b = elim (three end further) [
  | inl e ↦ e
  | inr h ↦ elim h [ inl lt ↦ absurd (a.whole (omega arith) (b.line end (omega (arith, a.after)) lt)) | inr lt ↦ absurd (b.whole (omega arith) (a.line further (omega (arith, b.after)) lt)) ]
]

pub comment_same : (source : List ℕ) (at end further : ℕ) → IsComment source at end → IsComment source at further → end ≡ further
comment_same source at end further a b = elim a.1 [
  | inl p ↦ elim b.1 [ inl q ↦ block_same source at end further p q | inr q ↦ absurd (omega (arith, p.begins.1.0, q.begins.1.0)) ]
  | inr p ↦ elim b.1 [ inl q ↦ absurd (omega (arith, p.begins.1.0, q.begins.1.0)) | inr q ↦ line_same source at end further a.0 b.0 p q ]
]

pub comment_first : (source : List ℕ) (at end : ℕ) → IsComment source at end → slice_index source at ≡ 47
comment_first source at end a = elim a.1 [ inl p ↦ p.begins.0 | inr p ↦ p.begins.0 ]

pub comment_after : (source : List ℕ) (at end : ℕ) → IsComment source at end → at + 2 ≤ end
comment_after source at end a = elim a.1 [ inl p ↦ omega (arith, p.after, p.ends) | inr p ↦ p.after ]

-- what a slash and another begin
pub line_comment : (source : List ℕ) (at end : ℕ) → at ≤ end → end ≤ length source → at + 1 < length source → slice_index source at ≡ 47 → slice_index source (at + 1) ≡ 47 → Each IsOnLine source at end → EndsBefore IsOnLine source end → IsComment source at end
line_comment source at end after within second first next line whole = (within, inr (record { begins = (first, (next, tt)); after = past; line = line; whole = whole }))
  where
    cases : (end ≡ at) ⊎ ((end ≡ at + 1) ⊎ (at + 2 ≤ end))
    cases = grind arith

    past : at + 2 ≤ end
    past = elim cases [
      | inl e ↦ absurd (whole (omega (arith, e)) (λ h. omega (arith, ap (slice_index source) e, h, first)))
      | inr h ↦ elim h [ inl e ↦ absurd (whole (omega (arith, e)) (λ k. omega (arith, ap (slice_index source) e, k, next))) | inr le ↦ le ]
    ]
