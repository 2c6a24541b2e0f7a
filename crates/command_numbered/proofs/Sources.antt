-- The text of each number from 1 to 100 is a source, without restrictions, and its run on the empty input is done.
use Rattle.std.proofs.Common.{◌≡◌, ℕ, suc, ◌+◌, ◌≤◌, false, List, [], length, ℤ, refl, sym, ap, subst, ◌∙◌, arith}
use Rattle.c_tree.specs.Names.{name_of, names_of_unit}
use Rattle.c_tree.specs.Named.{named_unit}
use Rattle.c_tree.specs.Size.{size_unit}
use Rattle.c_tree.specs.Spelling.{spoken}
use Rattle.c_tree.specs.Tree.{TranslationUnit}
use Rattle.c_tree.specs.Formed.{IsTreeOf}
use Rattle.types_tree.specs.Tree.{Program}
use Rattle.types_rules.specs.Typing.{typed_unit}
use Rattle.facts_definitions.specs.declared.facts.Facts.{Facts}
use Rattle.facts_sources.specs.Sources.{HasFacts, HasProgram, HasUnit, IsSourceBy}
use Rattle.meaning_semantics.specs.Runs.{meaning}
use Rattle.meaning_semantics.specs.declared.source_run.SourceRun.TheVariants.{Done}
use Rattle.command_numbered.specs.Text.{numbered_text}
use Rattle.command_numbered.proofs.Names.{name, names}
use Rattle.command_numbered.proofs.Trees.{Places, unit}
use Rattle.command_numbered.proofs.Formed.{unit_formed}
use Rattle.command_numbered.proofs.TypedFunctions.{numbers}
use Rattle.command_numbered.proofs.Named.{unit_named, words}
use Rattle.command_numbered.proofs.Numbers.{number}
use Rattle.command_numbered.proofs.Order.{in_order}
use Rattle.command_numbered.proofs.Outlines.{no_fault, outline_is}
use Rattle.command_numbered.proofs.Sizes.{unit_deep}
use Rattle.command_numbered.proofs.Typed.{program, unit_typed}
use Rattle.command_numbered.proofs.Flows.{facts_are, ranks, ranks_are}
use Rattle.command_numbered.proofs.Runs.{IsDone, facts, is_done}
use Rattle.command_numbered.proofs.Places.{places}
use Rattle.command_numbered.proofs.Tokens.{has_tokens, spells, tokens}

-- a source whose run on the empty input is done, with one byte at most
pub record IsDoneSource (source : List ℕ) : Type 0 where
  pub names : List (List ℕ)
  pub program : Program
  pub facts : Facts
  pub is_source : IsSourceBy false source names program facts
  pub output : List ℕ
  pub value : ℤ
  pub counts : List ℕ
  pub done : meaning program names facts [] ≡ Done output value counts
  pub short : length output ≤ 1

module _ (m : ℕ) (few : suc m ≤ 100) where
  abbrev n : ℕ
  n = suc m

  abbrev p : Places
  p = places n

  abbrev tree : TranslationUnit ℕ
  tree = unit (numbers (n + 3) (n + 4)) number p n

  named : named_unit (name_of (names n)) tree ≡ unit words name p n
  named = unit_named m p

  has_unit : HasUnit (numbered_text n) (names n) tree
  has_unit = record {
    tokens = tokens n few;
    of_source = refl;
    has = has_tokens n few;
    tree = subst (λ u. IsTreeOf u (spoken (tokens n few))) (sym named) (unit_formed words name p m, spells n few);
    shallow = subst (λ u. (size_unit u).depth ≤ 256) (sym named) (unit_deep words name p n);
    in_order = in_order m p (omega (arith, few)) ∙ ap names_of_unit (sym named);
  }

  has_program : HasProgram (numbered_text n) (names n) (program n p)
  has_program = record {
    unit = tree;
    has = has_unit;
    passes = no_fault m p few;
    program_is = sym (ap (λ o. typed_unit o tree) (outline_is m p) ∙ unit_typed n p);
  }

  has_facts : HasFacts false (program n p) (names n) (facts m few p)
  has_facts = record { ranks = ranks m p; are_ranks = ranks_are m p; facts_are = facts_are m p few }

  done : IsDone m few p
  done = is_done m few p

  pub numbered_done : IsDoneSource (numbered_text n)
  numbered_done = record {
    names = names n;
    program = program n p;
    facts = facts m few p;
    is_source = record { has_program = has_program; has_facts = has_facts };
    output = done.output;
    value = done.value;
    counts = done.counts;
    done = done.done;
    short = done.short;
  }
