-- The run of a numbered source on the empty input is done.
use Rattle.std.proofs.Common.{◌≡◌, ℕ, zero, suc, ◌+◌, ◌<◌, ◌≤◌, List, [], ◌∷◌, ◌++◌, length, map, Some, None, ℤ, append_assoc, length-append, refl, ap, ◌∙◌, arith}
use Rattle.std.specs.Prelude.{slice_get, slice_index_or}
use Rattle.wcc_base.specs.Words.{signed_word}
use Rattle.c_tree.specs.declared.expression.NameId.{NameId}
use Rattle.types_tree.specs.Tree.{External, Defining}
use Rattle.types_tree.specs.declared.variable.Variable.{Variable}
use Rattle.facts_definitions.specs.FlowFacts.{facts_of, restrictions_of}
use Rattle.facts_definitions.specs.declared.facts.Facts.{Facts}
use Rattle.meaning_semantics.specs.Runs.{calls, elements_of, ended, finished, first_violated, initialised_all, main_called, meaning, ran, start}
use Rattle.meaning_semantics.specs.State.{State, then_do}
use Rattle.meaning_semantics.specs.Statements.{Source}
use Rattle.meaning_semantics.specs.Values.{Calls}
use Rattle.meaning_semantics.specs.declared.source_run.SourceRun.TheVariants.{Done}
use Rattle.command_numbered.proofs.Names.{names}
use Rattle.command_numbered.proofs.Trees.{Places}
use Rattle.command_numbered.proofs.Numbers.{variable, variables_at}
use Rattle.command_numbered.proofs.Programs.{variables_long}
use Rattle.command_numbered.proofs.Typed.{defining, program}
use Rattle.command_numbered.proofs.Flows.{main_is, ranks, tens_are}
use Rattle.command_numbered.proofs.Ranks.{main_rank}
use Rattle.command_numbered.proofs.Sites.{all_plain}
use Rattle.command_numbered.proofs.Whole.{sites_are}
use Rattle.command_numbered.proofs.RunMains as mains
use Rattle.command_numbered.proofs.RunMains.{Finished, Ready}

-- variables of one element
abbrev AreSingle : List Variable → Type 0
AreSingle [] = Unit {0}
AreSingle (v ∷ vs) = (elements_of v ≡ None ∷ []) × AreSingle vs

single_append : (xs ys : List Variable) → AreSingle xs → AreSingle ys → AreSingle (xs ++ ys)
single_append [] ys h k = k
single_append (x ∷ xs) ys h k = (h.0, single_append xs ys h.1 k)

single_at : (m : ℕ) → AreSingle (variables_at m)
single_at zero = tt
single_at (suc m) = single_append ((variables_at m ++ variable 1 ∷ []) ++ variable 2 ∷ []) (variable 3 ∷ []) (single_append (variables_at m ++ variable 1 ∷ []) (variable 2 ∷ []) (single_append (variables_at m) (variable 1 ∷ []) (single_at m) (refl, tt)) (refl, tt)) (refl, tt)

single_there : (vs : List Variable) → AreSingle vs → (object : ℕ) → object < length vs → slice_get (map elements_of vs) object ≡ Some (None ∷ [])
single_there [] h object lt = absurd (omega (arith, lt))
single_there (v ∷ vs) h zero lt = ap Some h.0
single_there (v ∷ vs) h (suc object) lt = single_there vs h.1 object (omega (arith, lt))

-- definitions have no initial values
defining_starts : (source : Source) (call : Calls) (m : ℕ) (rest : List External) (st : State) → initialised_all source call (defining 0 m ++ rest) st ≡ initialised_all source call rest st
defining_starts source call zero rest st = refl
defining_starts source call (suc m) rest st = ap (λ xs. initialised_all source call xs st) (append_assoc (defining 0 m) (Defining (0 + m) ∷ []) rest) ∙ defining_starts source call m (Defining (0 + m) ∷ rest) st

module _ (m : ℕ) (few : suc m ≤ 100) (p : Places) where
  abbrev n : ℕ
  n = suc m

  abbrev pub facts : Facts
  facts = facts_of (program n p) (names n) (ranks m p) []

  start_ready : (markers : ℕ) → Ready n few p (start (program n p) markers [])
  start_ready markers = record {
    ones = λ object le. (None, single_there (program n p).variables (single_append (variables_at n) (variable 3 ∷ []) (single_at n) (refl, tt)) object (let long = length-append (variables_at n) (variable 3 ∷ []) in let own = variables_long n in omega (arith, le, long, own)));
    silent = refl;
  }

  unrestricted : facts.restrictions ≡ []
  unrestricted = ap (restrictions_of (names n)) (sites_are n p) ∙ all_plain (names n) n p

  -- the run is done, and puts at most one byte
  pub record IsDone : Type 0 where
    pub output : List ℕ
    pub value : ℤ
    pub counts : List ℕ
    pub done : meaning (program n p) (names n) facts [] ≡ Done output value counts
    pub short : length output ≤ 1

  pub is_done : IsDone
  is_done = record {
    output = f.after.output;
    value = signed_word f.word;
    counts = f.after.counts;
    done =
        (λ i. ended counted facts.restrictions (ran (record { program = program n p; bounds = tens_are m p i }) (main_is m p i) (slice_index_or facts.ranks.of_functions (main_is m p i) 0) first))
        ∙ ap (λ rank. ended counted facts.restrictions (ran source n rank first)) (main_rank m)
        ∙ ap (λ o. ended counted facts.restrictions (then_do o (λ flow st1. main_called source n 1 st1))) (defining_starts source (calls source 0) n (Defining n ∷ []) first)
        ∙ ap (ended counted facts.restrictions) f.is
        ∙ ap (λ restrictions. finished (first_violated counted f.after.counts restrictions) (Some f.word) f.after) unrestricted;
    short = f.short;
  }
    where
      source : Source
      source = mains.source n few p

      counted : List NameId
      counted = facts.functions ++ facts.markers

      first : State
      first = start (program n p) (length facts.markers) []

      f : Finished n few p (calls source 2 n [] 0 first)
      f = mains.main_is n few p first (start_ready (length facts.markers))
