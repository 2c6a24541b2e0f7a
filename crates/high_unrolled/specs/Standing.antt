-- What a program keeps of another whose marks it may have several times, each under a label.
use Rattle.std.specs.Prelude.{◌≡◌, ℕ, ◌==◌, Option, Some, None, All, slice_get, if◌then◌else◌}
use Rattle.high_ir.specs.Meaning.{Labels}
use Rattle.high_ir.specs.Runs.{count_of, rank_or}
use Rattle.high_ir.specs.Tree.{Program}
use Rattle.high_pass.specs.Listing.{Listing, MarkEntry}
use Rattle.high_unrolled.specs.Serving.{FunctionStands}

-- each function stands for the one with its number
pub record ProgramStands (m : Labels) (old new : Program) : Type 0 where
  pub functions : (f : ℕ) → FunctionStands m f (slice_get old.functions f) (slice_get new.functions f)
  pub main : new.main ≡ old.main
  pub rank : rank_or new.functions old.main 0 ≡ rank_or old.functions old.main 0
  pub objects : new.objects ≡ old.objects

-- 1 where a label is a mark
abbrev pub hits : Option ℕ → ℕ → ℕ
hits None x = 0
hits (Some y) x = if y == x then 1 else 0

-- the copies of a mark are the marks with its label, each once
abbrev pub IsGroup : Labels → MarkEntry → Type 0
IsGroup m e = (k : ℕ) → count_of k e.new ≡ hits (m k) e.old

pub record Grouped (m : Labels) (c : Listing) : Type 0 where
  pub marks : All (IsGroup m) c.marks
  -- a never mark has no label
  pub nevers : All (λ v. m v.mark ≡ None) c.nevers
