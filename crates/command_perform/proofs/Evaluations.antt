-- What a source does on an input is one thing, or it is refused in one way.
use Rattle.std.proofs.Common.{◌≡◌, ◌≤◌, ℕ, List, [], ◌∷◌, length, Option, Some, None, sym, subst, ap, ◌∙◌}
use Rattle.std.specs.Prelude.{◌^◌, Bool, true, false, if◌then◌else◌, nat_lt, IsSomeAnd, Result, Ok, Err}
use Rattle.wcc_base.specs.Outside.{Files, StoreState, bytes_of}
use Rattle.wcc_base.specs.declared.status.Status.{Status}
use Rattle.meaning_semantics.specs.declared.source_run.SourceRun.{SourceRun}
use Rattle.meaning_semantics.specs.Runs.{meaning}
use Rattle.facts_sources.specs.Sources.{derived_for}
use Rattle.facts_laws.proofs.Sources as laws
use Rattle.facts_definitions.specs.FlowFacts.{bounds_in, facts_of, first_fault, flow_facts, known_of, most_main, unless_faulty, unless_too_often}
use Rattle.facts_definitions.specs.Most.{cut}
use Rattle.facts_definitions.specs.Sites.{sites_of}
use Rattle.facts_definitions.specs.declared.facts.Derived.{Derived}
use Rattle.facts_definitions.specs.declared.facts.Facts.{Facts}
use Rattle.facts_definitions.specs.declared.facts.FlowFault.{FlowFault}
use Rattle.facts_definitions.specs.declared.facts.FlowFault.TheVariants.{TooOften}
use Rattle.types_calls.specs.Calls.{graph_of}
use Rattle.types_calls.specs.Chains.{AreRanks}
use Rattle.types_calls.specs.declared.ranks.Ranks.{Ranks}
use Rattle.types_tree.specs.Tree.{Program}
use Rattle.meaning_laws.specs.Told.{IsTold}
use Rattle.meaning_laws.proofs.Sources.{runs_are_told}
use Rattle.counting_laws.proofs.Having.{facts_have}
use Rattle.counting_laws.proofs.Whole.{never_broken}
use Rattle.command_words.specs.Requests.{EvalRequest}
use Rattle.command_perform.specs.Words.{Named, Eval}
use Rattle.command_perform.specs.Outputs.{Outputs}
use Rattle.command_perform.specs.Sources.{refusal_status, RefusesProgram}
use Rattle.command_perform.specs.Evaluating.{run_outputs, IsRun, KeepsDerived, MakesRun, Evaluates, IsRejected}
use Rattle.command_perform.specs.Promises.{CanOnly, CanEnd}

abbrev Outcome : Type 0
Outcome = Result Facts FlowFault

abbrev ok : Facts → Outcome
ok x = Ok x

abbrev err : FlowFault → Outcome
err f = Err f

ok_is : (x y : Facts) → ok x ≡ ok y → y ≡ x
ok_is x y e = cc e

ok_err : (f : FlowFault) (x : Facts) → err f ≡ ok x → ⊥
ok_err f x e = cc e

-- the facts of a program are those that are made of it
facts_made : (program : Program) (names : List (List ℕ)) (ranks : Ranks) (derived : List Derived) (facts : Facts) → flow_facts program names ranks derived ≡ Ok facts → facts ≡ facts_of program names ranks derived
facts_made program names ranks derived facts h = of (first_fault (known_of program names derived) (sites_of program)) h
  where
    most : ℕ
    most = most_main program names (bounds_in program derived) ranks

    within : (b : Bool) → (if b then ok (facts_of program names ranks derived) else err (TooOften (cut most))) ≡ ok facts → facts ≡ facts_of program names ranks derived
    within true e = ok_is (facts_of program names ranks derived) facts e
    within false e = absurd (ok_err (TooOften (cut most)) facts e)

    of : (o : Option FlowFault) → unless_faulty o (unless_too_often most (facts_of program names ranks derived)) ≡ ok facts → facts ≡ facts_of program names ranks derived
    of None e = within (nat_lt most (2 ^ 40)) e
    of (Some fault) e = absurd (ok_err fault facts e)

run_told : (derive : Bool) (source input : List ℕ) (run : SourceRun) → IsRun derive source input run → IsTold run
run_told derive source input run h =
    let p = h.is_source.has_program in
    let f = h.is_source.has_facts in
    subst IsTold (sym h.run_is)
    (runs_are_told h.spelled h.program h.facts input (record { unit = p.unit; passes = p.passes; program_is = p.program_is })
    (subst (λ r. AreRanks (graph_of h.program) r.of_functions) (sym (ap (λ x. x.ranks) (facts_made h.program h.spelled f.ranks (derived_for derive h.program) h.facts f.facts_are))) f.are_ranks))

-- derived bounds are kept
run_kept : (derive : Bool) (source input : List ℕ) (run : SourceRun) → (h : IsRun derive source input run) → KeepsDerived derive h.program run
run_kept true source input run h =
    let p = h.is_source.has_program in
    let f = h.is_source.has_facts in
    let has = facts_have h.spelled h.program f.ranks h.facts (record { unit = p.unit; passes = p.passes; program_is = p.program_is }) f.are_ranks f.facts_are in
    λ at only e. never_broken h.spelled h.program h.facts has input at only (sym h.run_is ∙ e)
run_kept false source input run h = tt

-- what is made of a run
pub makes_run : (asked : EvalRequest) (source input : List ℕ) (run : SourceRun) (made : Outputs) → IsRun asked.derive source input run → made ≡ run_outputs asked run → MakesRun asked source input made
makes_run asked source input run made h e = record {
  run = run;
  is_run = h;
  told = run_told asked.derive source input run h;
  kept = run_kept asked.derive source input run h;
  made_is = e;
}

one_run : (derive : Bool) (source input : List ℕ) (run other : SourceRun) → IsRun derive source input run → IsRun derive source input other → run ≡ other
one_run derive source input run other h k =
    let same = laws.one_source derive source h.spelled k.spelled h.program k.program h.facts k.facts h.is_source k.is_source in
    h.run_is
    ∙ ap (λ p. meaning p h.spelled h.facts input) same.1
    ∙ ap (λ ns. meaning k.program ns h.facts input) same.0
    ∙ ap (λ fs. meaning k.program k.spelled fs input) same.2
    ∙ sym k.run_is

pub one_made : (asked : EvalRequest) (source input : List ℕ) (run : SourceRun) (made : Outputs) → IsRun asked.derive source input run → MakesRun asked source input made → made ≡ run_outputs asked run
one_made asked source input run made h m = m.made_is ∙ ap (run_outputs asked) (one_run asked.derive source input m.run run m.is_run h)

not_refused : (derive : Bool) (source input : List ℕ) (run : SourceRun) (s : Status) → length source ≤ 1048576 → IsRun derive source input run → RefusesProgram derive source s → ⊥
not_refused derive source input run s short h r = laws.not_both derive source h.spelled h.program h.facts r.refusal short h.is_source r.refused

pub one_status : (derive : Bool) (source : List ℕ) (s t : Status) → length source ≤ 1048576 → RefusesProgram derive source s → RefusesProgram derive source t → s ≡ t
one_status derive source s t short r q = r.status_is ∙ ap refusal_status (laws.one_refusal derive source r.refusal q.refusal short r.refused q.refused) ∙ sym q.status_is

run_only : (asked : EvalRequest) (source input : List ℕ) (run : SourceRun) → Evaluates asked.derive source input run → CanOnly (Eval asked) (source ∷ input ∷ []) (run_outputs asked run).status
run_only asked source input run e = record {
  refuses = λ s r. absurd (not_refused asked.derive source input run s e.source_short e.is_run r);
  makes = λ made m. ap (λ (o : Outputs). o.status) (one_made asked source input run made e.is_run m);
}

refusal_only : (asked : EvalRequest) (source input : List ℕ) (s : Status) → IsRejected asked.derive source input s → CanOnly (Eval asked) (source ∷ input ∷ []) s
refusal_only asked source input s e = record {
  refuses = λ t r. one_status asked.derive source t s e.source_short r e.refuses;
  makes = λ made m. absurd (not_refused asked.derive source input m.run s e.source_short m.is_run e.refuses);
}

pub run_ends : (asked : EvalRequest) (run : SourceRun) (files : Option Files) (old : StoreState) → old.files ≡ files → IsSomeAnd files (λ fs. Evaluates asked.derive (bytes_of fs asked.source) (bytes_of fs asked.input) run) → CanEnd (Some (Named (Eval asked))) old (run_outputs asked run).status
run_ends asked run None old e c = absurd c
run_ends asked run (Some fs) old e c = rw e ((c.source_short, (c.input_short, tt)), run_only asked (bytes_of fs asked.source) (bytes_of fs asked.input) run c)

pub refusal_ends : (asked : EvalRequest) (s : Status) (files : Option Files) (old : StoreState) → old.files ≡ files → IsSomeAnd files (λ fs. IsRejected asked.derive (bytes_of fs asked.source) (bytes_of fs asked.input) s) → CanEnd (Some (Named (Eval asked))) old s
refusal_ends asked s None old e c = absurd c
refusal_ends asked s (Some fs) old e c = rw e ((c.source_short, (c.input_short, tt)), refusal_only asked (bytes_of fs asked.source) (bytes_of fs asked.input) s c)
