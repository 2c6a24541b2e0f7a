-- The destination of a decoded instruction is one of 32 registers.
use Rattle.std.proofs.Common.{◌≡◌, ℕ, ◌<◌, arith, subst, List, [], ◌∷◌, Bool, true, false, Option, Some, None}
use Rattle.std.specs.Prelude.{if◌then◌else◌}
use Rattle.rv_core.specs.declared.op.Op.{Op}
use Rattle.rv_core.specs.declared.row.Format.{Format}
use Rattle.rv_core.specs.declared.row.Format.TheVariants.{R, I, Shift, S, B, U, J, Fixed}
use Rattle.rv_core.specs.declared.fields.Fields.{Fields}
use Rattle.rv_core.specs.Rows.{row_of, all_ops}
use Rattle.rv_core.specs.Instructions.{Instruction}
use Rattle.rv_core.specs.Words.{unpack, matches, instruction_by, first_match, decode_of}
use Rattle.rv_core.specs.Code.{decoded}

by_format : (f : Format) (op : Op) (w : Fields) → w.rd < 32 → (instruction_by f op w).rd < 32
by_format R op w h = h
by_format I op w h = h
by_format Shift op w h = h
by_format S op w h = omega arith
by_format B op w h = omega arith
by_format U op w h = h
by_format J op w h = h
by_format Fixed op w h = omega arith

first_match-rd : (ops : List Op) (w : Fields) (i : Instruction) → w.rd < 32 → first_match ops w ≡ Some i → i.rd < 32
first_match-rd [] w i h e = cc
first_match-rd (op ∷ ops) w i h e = by_match (matches (row_of op) w) (first_match-rd ops w i h) e
  where
    by_match : (b : Bool) → (first_match ops w ≡ Some i → i.rd < 32) → (if b then Some (instruction_by (row_of op).format op w) else first_match ops w) ≡ Some i → i.rd < 32
    by_match true later is = let same : instruction_by (row_of op).format op w ≡ i = cc in subst (λ (j : Instruction). j.rd < 32) same (by_format (row_of op).format op w h)
    by_match false later is = later is

decode_of-rd : (n : ℕ) (i : Instruction) → decode_of n ≡ Some i → i.rd < 32
unfolding decode_of unpack
decode_of-rd n i e = first_match-rd all_ops (unpack n) i (omega arith) e

pub decoded-rd : (o : Option ℕ) (i : Instruction) → decoded o ≡ Some i → i.rd < 32
decoded-rd None i e = cc
decoded-rd (Some n) i e = decode_of-rd n i e
