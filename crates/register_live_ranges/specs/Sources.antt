-- From where each block is come to.
use Rattle.std.specs.Prelude.{ℕ, suc, ◌+◌, List, [], ◌∷◌, length}
use Rattle.low_ir.specs.Code.{End, Jump, Branch, Return, Block, Note}
use Rattle.register_live_ranges.specs.declared.sources.Source.{Source}
use Rattle.register_live_ranges.specs.Rows.{with_item}

-- by block: a block that ends so leads to these
abbrev pub end_led : List (List Source) → Source → End ℕ → List (List Source)
end_led rows x (Jump n) = with_item rows n x
end_led rows x (Branch c l r taken other) = with_item (with_item rows taken x) other x
end_led rows x (Return y) = rows

abbrev pub source_at : ℕ → ℕ → Block ℕ Note → Source
source_at b s x = record { block = b; first = s; last = s + length x.code }

-- the blocks from number b on, which begin at place s
abbrev pub blocks_led : List (List Source) → ℕ → ℕ → List (Block ℕ Note) → List (List Source)
blocks_led rows b s [] = rows
blocks_led rows b s (x ∷ xs) = blocks_led (end_led rows (source_at b s x) x.end) (suc b) (s + suc (length x.code)) xs
