-- The example of the low form keeps to it with any arrays beside it.
use Rattle.std.proofs.Common.{ℕ, ◌<◌, List, [], ◌∷◌, length, arith}
use Rattle.std.proofs.lemmas.List.Elements.{All-nil, All-weaker}
use Rattle.low_ir.specs.Code.{Address, Block, Function, Instr, Low, Note, Object}
use Rattle.low_ir.specs.Example.{example, square, squares}
use Rattle.low_ir.specs.Formed.{IsThere, NamesThere, BlockNamesThere, IsFunction, IsClaim, IsLow, addresses, base_objects}
use Rattle.low_ir.proofs.Examples.{example_is_low}

-- a program of two functions, whose second one is run
abbrev pub both : Function ℕ Note → Function ℕ Note → List Object → Low
both f g xs = record { functions = f ∷ g ∷ []; claims = []; objects = xs; main = 1; marks = 3 }

module _ (xs : List Object) where
  abbrev p : Low
  p = both square squares xs

  there : (a : Address ℕ) → IsThere example a → IsThere p a
  there a h = (All-weaker (λ o. o < 0) (λ o. o < length xs) (λ o l. absurd (omega (arith, l))) (base_objects a.base) h.0, h.1)

  names : (i : Instr ℕ Note) → NamesThere example i → NamesThere p i
  names i h = All-weaker (IsThere example) (IsThere p) there (addresses i) h

  block_names : (b : Block ℕ Note) → BlockNamesThere example b → BlockNamesThere p b
  block_names b h = All-weaker (NamesThere example) (NamesThere p) names b.code h

  function : (f : ℕ) (fn : Function ℕ Note) → IsFunction example f fn → IsFunction p f fn
  function f fn h = record {
    opens = h.opens;
    alone = h.alone;
    marks = h.marks;
    parameters = h.parameters;
    registers = h.registers;
    names = All-weaker (BlockNamesThere example) (BlockNamesThere p) block_names fn.blocks h.names;
    calls = h.calls;
    stays = h.stays;
    forward = h.forward;
    loops = h.loops;
    nested = h.nested;
  }

  pub example_with_arrays : IsLow p
  example_with_arrays = record {
    main = example_is_low.main;
    functions = λ f fn e. function f fn (example_is_low.functions f fn e);
    claims = All-nil (IsClaim p);
  }
