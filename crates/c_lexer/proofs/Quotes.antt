-- Quoted texts end at one place.
use Rattle.std.proofs.Common.{◌≡◌, ℕ, ◌+◌, ◌<◌, ◌≤◌, inl, inr, true, List, sym, ◌∙◌, arith}
use Rattle.std.proofs.lemmas.Bool.{true≢false}
use Rattle.std.specs.Prelude.{slice_index}
use Rattle.c_lexer.specs.Forms.{is_taken, IsQuoted}
use Rattle.c_lexer.proofs.Comments.{three}

-- where no quote so far closes it, a quoted text is no shorter
pub quoted_beyond : (quote : ℕ) (source : List ℕ) (at end n : ℕ) → (q : IsQuoted quote source at end) → ((m : ℕ) → m < n → slice_index source (at + 1 + m) ≡ quote → is_taken source (at + 1) m ≡ true) → n ≤ q.size
quoted_beyond quote source at end n q first = elim (three n q.size) [
  | inl e ↦ omega (arith, e)
  | inr h ↦ elim h [ inl lt ↦ omega arith | inr lt ↦ absurd (true≢false (sym (first q.size lt q.closes) ∙ q.free)) ]
]

pub quoted_same : (quote : ℕ) (source : List ℕ) (at end further : ℕ) → IsQuoted quote source at end → IsQuoted quote source at further → end ≡ further
quoted_same quote source at end further p q =
    omega (arith, p.ends, q.ends, quoted_beyond quote source at end q.size p q.first, quoted_beyond quote source at further p.size q p.first)
