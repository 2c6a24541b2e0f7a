use Rattle.std.proofs.Common.{◌≡◌, ◌≢◌, ℕ, ◌+◌, ◌<◌, true}
use Rattle.std.specs.Prelude.{slice_index}
use Rattle.c_lexer.specs.Forms.{is_taken}
use Rattle.c_lexer.proofs.scan.quoted_end.Given as goal

abbrev pub invariant-loop-n : goal.invariant-loop-n
invariant-loop-n l = record {
  taken : l.taken ≡ is_taken l.source (l.at + 1) l.n;
  first : (m : ℕ) → m < l.n → slice_index l.source (l.at + 1 + m) ≡ l.quote → is_taken l.source (l.at + 1) m ≡ true;
  line : (m : ℕ) → m < l.n → slice_index l.source (l.at + 1 + m) ≢ 10;
}
