-- The tokens of a numbered source, and its tree.
use Rattle.std.proofs.Common.{ℕ, ◌+◌, ◌≤◌, true, [], length, append-nil, refl, sym, ap, subst, ◌∙◌, arith}
use Rattle.c_tree.specs.Said.{TokenList}
use Rattle.c_tree.specs.Spelling.{Agree, spell_unit, spoken}
use Rattle.c_lexer.specs.Cut.{HasTokens, tokens_of}
use Rattle.command_numbered.specs.Text.{numbered_text}
use Rattle.command_numbered.proofs.Names.{name}
use Rattle.command_numbered.proofs.Trees.{unit}
use Rattle.command_numbered.proofs.Named.{words}
use Rattle.command_numbered.proofs.Bits.{pieces_of, written}
use Rattle.command_numbered.proofs.Cuts.{Cut, cut_from}
use Rattle.command_numbered.proofs.Places.{numbered_agrees, places}
use Rattle.command_numbered.proofs.Texts.{numbered_bits, numbered_fine, numbered_low, numbered_written}

module _ (n : ℕ) (few : n ≤ 100) where
  whole : Cut (numbered_bits n) true (numbered_text n) 0 (length (numbered_text n))
  whole =
      cut_from (numbered_text n) (numbered_bits n) 5 [] true 0 (length (numbered_text n)) (omega arith)
      (sym (numbered_written n) ∙ sym (append-nil (written (numbered_bits n)))) refl (numbered_fine n) (numbered_low n few)
      (ap (λ bytes. 0 + length bytes) (numbered_written n) ∙ omega arith)

  abbrev pub tokens : TokenList
  tokens = record { source = numbered_text n; list = tokens_of (pieces_of (numbered_bits n) true 0) 0 }

  pub has_tokens : HasTokens (numbered_text n) tokens.list
  has_tokens = (pieces_of (numbered_bits n) true 0, whole.cut, refl)

  pub spells : Agree (spell_unit (unit words name (places n) n)) (spoken tokens)
  spells = subst (Agree (spell_unit (unit words name (places n) n))) (sym whole.said) (numbered_agrees n)
