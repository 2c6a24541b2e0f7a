-- The constants of a source that was read are words, so its plan is whole.
use Rattle.std.proofs.Common.{ℕ, List, sym, subst}
use Rattle.high_ir.specs.Whole.{IsWhole}
use Rattle.facts_definitions.specs.FlowFacts.{main_of}
use Rattle.facts_definitions.specs.declared.facts.Facts.{Facts}
use Rattle.facts_sources.specs.Sources.{IsSource}
use Rattle.c_tree.specs.Named.{named_unit}
use Rattle.c_tree.specs.Names.{name_of}
use Rattle.c_tree.specs.Said.{AreTokens}
use Rattle.c_tree.specs.Spelling.{spell_unit}
use Rattle.types_tree.specs.Tree.{Program}
use Rattle.plan_law.proofs.Sources.{checked}
use Rattle.plan_definition.specs.Programs.{program_planned}
use Rattle.plan_law.specs.Words.{ProgramWords}
use Rattle.plan_law.proofs.Whole.{planned_is_whole}
use Rattle.compile_high_law.proofs.Spelling.{unit_tree}
use Rattle.compile_high_law.proofs.Tokens.{are_tokens, spelling_words}
use Rattle.compile_high_law.proofs.Units.{unit_words}

pub source_words : (source : List ℕ) (names : List (List ℕ)) (program : Program) (facts : Facts) → IsSource source names program facts → ProgramWords program
source_words source names program facts h =
    let p = h.has_program in
    let u = p.has in
    let are = subst (λ s. AreTokens s u.tokens.list) (sym u.of_source) (are_tokens source u.tokens.list u.has) in
    let marks = spelling_words (spell_unit (named_unit (name_of names) p.unit)) u.tokens are u.tree.1 in
    subst ProgramWords (sym p.program_is) (unit_words names p.unit (unit_tree (name_of names) p.unit marks))

-- the program that it becomes is whole
pub source_is_whole : (source : List ℕ) (names : List (List ℕ)) (program : Program) (facts : Facts) → IsSource source names program facts → IsWhole (program_planned program facts (main_of program names))
source_is_whole source names program facts h = planned_is_whole names program facts (checked source names program facts h) (source_words source names program facts h)
