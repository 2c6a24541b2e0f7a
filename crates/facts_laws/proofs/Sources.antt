-- A source has one program with facts, or one refusal.
use Rattle.std.proofs.Common.{◌≡◌, ◌≢◌, ◌≤◌, ℕ, Bool, List, length, Result, Ok, Err, Option, Some, None, refl, sym, ap, subst, ◌∙◌, arith}
use Rattle.c_tree.specs.declared.token.Token.{Token}
use Rattle.c_tree.specs.Named.{named_unit}
use Rattle.c_tree.specs.Names.{name_of}
use Rattle.c_tree.specs.Spelling.{spoken}
use Rattle.c_tree.specs.Tree.{TranslationUnit}
use Rattle.types_tree.specs.Tree.{Program}
use Rattle.types_rules.specs.Typed.{fault_of, typed_of, Refuses}
use Rattle.c_lexer.specs.Cut.{HasTokens}
use Rattle.c_lexer.specs.declared.LexFault.{LexFault}
use Rattle.c_lexer.proofs.Unique.{one_fault, tokens_or_fault}
use Rattle.c_parser.specs.Refused.{Stops}
use Rattle.c_tree.specs.Formed.{IsTreeOf}
use Rattle.c_parser.specs.declared.fault.ParseFault.{ParseFault}
use Rattle.c_parser.proofs.Refusals.{only_memory}
use Rattle.types_rules.specs.declared.fault.TypeFault.{TypeFault}
use Rattle.types_rules.specs.declared.fault.TypeFault.TheVariants as typing
use Rattle.types_calls.specs.Calls.{Graph, graph_of}
use Rattle.types_calls.specs.Chains.{AreRanks, IsCallFault}
use Rattle.facts_definitions.specs.FlowFacts.{flow_facts, IsFlowFault}
use Rattle.facts_definitions.specs.declared.facts.Facts.{Facts}
use Rattle.facts_definitions.specs.declared.facts.FlowFault.{FlowFault}
use Rattle.facts_definitions.specs.declared.facts.FlowFault.TheVariants as flowing
use Rattle.types_calls.specs.declared.ranks.CallFault.{CallFault}
use Rattle.types_calls.specs.declared.ranks.CallFault.TheVariants as calling
use Rattle.types_calls.specs.declared.ranks.Ranks.{Ranks}
use Rattle.facts_front.specs.declared.refusal.Refusal.{Refusal}
use Rattle.facts_front.specs.declared.refusal.Refusal.TheVariants.{TooLong, Lex, Parse, Types, Calls, Flow, Memory}
use Rattle.facts_front.specs.Fronts.{RefusesSource, fault_place, cycle_place}
use Rattle.facts_sources.specs.Sources.{HasUnit, HasProgram, HasFacts, IsSourceBy, derived_for}
use Rattle.facts_laws.proofs.Ranking.{one_cycle, one_ranks, ranks_free}
use Rattle.facts_laws.proofs.Stopping.{one_stop}
use Rattle.facts_laws.proofs.Units.{one_tokens, one_unit}

-- one program

pub one_program : (source : List ℕ) (names others : List (List ℕ)) (program other : Program) → HasProgram source names program → HasProgram source others other → (names ≡ others) × (program ≡ other)
one_program source names others program other h k =
    let same = one_unit source names others h.unit k.unit h.has k.has in
    (same.0, h.program_is ∙ ap (λ ns. typed_of ns h.unit) same.0 ∙ ap (typed_of others) same.1 ∙ sym k.program_is)

ranks_same : (graph : Graph) (ranks others : Ranks) → AreRanks graph ranks.of_functions → AreRanks graph others.of_functions → ranks ≡ others
ranks_same graph ranks others r s = parts ranks.of_functions others.of_functions (one_ranks graph ranks.of_functions others.of_functions r s)
  where
    parts : (xs ys : List ℕ) → xs ≡ ys → ◌≡◌ {A = Ranks} (record { of_functions = xs }) (record { of_functions = ys })
    parts xs ys e = cc

ok_same : {A B : Type 0} (a b : A) → ◌≡◌ {A = Result A B} (Ok a) (Ok b) → a ≡ b
ok_same a b e = cc

err_same : {A B : Type 0} (a b : B) → ◌≡◌ {A = Result A B} (Err a) (Err b) → a ≡ b
err_same a b e = cc

ok_err : {A B : Type 0} (a : A) (b : B) → ◌≡◌ {A = Result A B} (Ok a) (Err b) → ⊥
ok_err a b e = cc

some_same : {A : Type 0} (a b : A) → ◌≡◌ {A = Option A} (Some a) (Some b) → a ≡ b
some_same a b e = cc

none_some : {A : Type 0} (a : A) → ◌≡◌ {A = Option A} None (Some a) → ⊥
none_some a e = cc

pub one_facts : (derive : Bool) (program : Program) (names : List (List ℕ)) (facts others : Facts) → HasFacts derive program names facts → HasFacts derive program names others → facts ≡ others
one_facts derive program names facts others h k =
    let same = ranks_same (graph_of program) h.ranks k.ranks h.are_ranks k.are_ranks in
    ok_same facts others (sym h.facts_are ∙ ap (λ ranks. flow_facts program names ranks (derived_for derive program)) same ∙ k.facts_are)

pub one_source : (derive : Bool) (source : List ℕ) (names others : List (List ℕ)) (program other : Program) (facts more : Facts) → IsSourceBy derive source names program facts → IsSourceBy derive source others other more → (names ≡ others) × (program ≡ other) × (facts ≡ more)
one_source derive source names others program other facts more h k =
    let same = one_program source names others program other h.has_program k.has_program in
    (same.0, same.1, one_facts derive other others facts more (subst (λ p. HasFacts derive p others facts) same.1 (subst (λ ns. HasFacts derive program ns facts) same.0 h.has_facts)) k.has_facts)

-- what passes a step is not refused by it

tokens_pass : (derive : Bool) (source : List ℕ) (tokens : List Token) (fault : LexFault) → HasTokens source tokens → RefusesSource derive source (Lex fault) → ⊥
tokens_pass derive source tokens fault h r = r.0 (tokens_or_fault source tokens fault h r.1)

unit_passes : (derive : Bool) (source : List ℕ) (names : List (List ℕ)) (unit : TranslationUnit ℕ) (fault : ParseFault) (at : ℕ) → HasUnit source names unit → RefusesSource derive source (Parse fault at) → ⊥
unit_passes derive source names unit fault at h r =
    let tokens = one_tokens source h.tokens r.1.tokens h.of_source r.1.of_source h.has r.1.has in
    r.0 (only_memory fault (spoken r.1.tokens) (named_unit (name_of names) unit) r.1.refused (subst (λ t. IsTreeOf (named_unit (name_of names) unit) (spoken t)) tokens h.tree) h.shallow)

refused_for : (fault : TypeFault) (names : List (List ℕ)) (unit : TranslationUnit ℕ) → fault ≢ typing.Memory → Refuses fault names unit → fault_of names unit ≡ Some fault
refused_for (typing.Limit which found) names unit m r = r
refused_for (typing.Rule rule at) names unit m r = r
refused_for typing.Memory names unit m r = absurd (m refl)

program_passes : (derive : Bool) (source : List ℕ) (names : List (List ℕ)) (program : Program) (fault : TypeFault) → HasProgram source names program → RefusesSource derive source (Types fault) → ⊥
program_passes derive source names program fault h r =
    let same = one_unit source names r.1.names h.unit r.1.unit h.has r.1.has in
    none_some fault (sym h.passes ∙ ap (λ ns. fault_of ns h.unit) same.0 ∙ ap (fault_of r.1.names) same.1 ∙ refused_for fault r.1.names r.1.unit r.0 r.1.refused)

no_cycle : (graph : Graph) (ranks : List ℕ) (fault : CallFault) → fault ≢ calling.Memory → AreRanks graph ranks → IsCallFault fault graph → ⊥
no_cycle graph ranks (calling.Recursion function) m r c = ranks_free graph ranks function.0 r c.reaches
no_cycle graph ranks calling.Memory m r c = absurd (m refl)

ranks_pass : (derive : Bool) (source : List ℕ) (names : List (List ℕ)) (program : Program) (ranks : Ranks) (fault : CallFault) (at : ℕ) → HasProgram source names program → AreRanks (graph_of program) ranks.of_functions → RefusesSource derive source (Calls fault at) → ⊥
ranks_pass derive source names program ranks fault at h a r =
    let same = one_program source names r.1.names program r.1.program h r.1.has in
    no_cycle (graph_of r.1.program) ranks.of_functions fault r.0 (subst (λ p. AreRanks (graph_of p) ranks.of_functions) same.1 a) r.1.refused

flow_for : (fault : FlowFault) (outcome : Result Facts FlowFault) → fault ≢ flowing.Memory → IsFlowFault fault outcome → outcome ≡ Err fault
flow_for (flowing.BadPragma at) outcome m r = r
flow_for (flowing.UnknownName at) outcome m r = r
flow_for (flowing.NoBound at) outcome m r = r
flow_for (flowing.TooOften most) outcome m r = r
flow_for flowing.Memory outcome m r = absurd (m refl)

-- what the facts of the program come to, whatever evidence is taken
outcome_same : (derive : Bool) (source : List ℕ) (names others : List (List ℕ)) (program other : Program) (ranks more : Ranks) → HasProgram source names program → HasProgram source others other → AreRanks (graph_of program) ranks.of_functions → AreRanks (graph_of other) more.of_functions → flow_facts program names ranks (derived_for derive program) ≡ flow_facts other others more (derived_for derive other)
outcome_same derive source names others program other ranks more h k a b =
    let same = one_program source names others program other h k in
    let one = ranks_same (graph_of other) ranks more (subst (λ p. AreRanks (graph_of p) ranks.of_functions) same.1 a) b in
    ap (λ p. flow_facts p names ranks (derived_for derive p)) same.1 ∙ ap (λ ns. flow_facts other ns ranks (derived_for derive other)) same.0 ∙ ap (λ rs. flow_facts other others rs (derived_for derive other)) one

facts_pass : (derive : Bool) (source : List ℕ) (names : List (List ℕ)) (program : Program) (facts : Facts) (fault : FlowFault) → IsSourceBy derive source names program facts → RefusesSource derive source (Flow fault) → ⊥
facts_pass derive source names program facts fault h r =
    let same = outcome_same derive source names r.1.names program r.1.program h.has_facts.ranks r.1.ranks h.has_program r.1.has h.has_facts.are_ranks r.1.are_ranks in
    ok_err facts fault (sym h.has_facts.facts_are ∙ same ∙ flow_for fault (flow_facts r.1.program r.1.names r.1.ranks (derived_for derive r.1.program)) r.0 r.1.refused)

-- a source that has a program with facts is not refused
pub not_both : (derive : Bool) (source : List ℕ) (names : List (List ℕ)) (program : Program) (facts : Facts) (refusal : Refusal) → length source ≤ 1048576 → IsSourceBy derive source names program facts → RefusesSource derive source refusal → ⊥
not_both derive source names program facts TooLong short h r = absurd (omega (arith, short, r))
not_both derive source names program facts (Lex fault) short h r = tokens_pass derive source h.has_program.has.tokens.list fault h.has_program.has.has r
not_both derive source names program facts (Parse fault at) short h r = unit_passes derive source names h.has_program.unit fault at h.has_program.has r
not_both derive source names program facts (Types fault) short h r = program_passes derive source names program fault h.has_program r
not_both derive source names program facts (Calls fault at) short h r = ranks_pass derive source names program h.has_facts.ranks fault at h.has_program h.has_facts.are_ranks r
not_both derive source names program facts (Flow fault) short h r = facts_pass derive source names program facts fault h r
not_both derive source names program facts Memory short h r = r

-- one refusal by each step

one_parse : (derive : Bool) (source : List ℕ) (fault other : ParseFault) (at place : ℕ) → RefusesSource derive source (Parse fault at) → RefusesSource derive source (Parse other place) → Parse fault at ≡ Parse other place
one_parse derive source fault other at place h k = parts fault other at place is (h.1.at_is ∙ ap (λ f. fault_place f h.1.tokens.list (length source)) is ∙ ap (λ t. fault_place other t.list (length source)) tokens ∙ sym k.1.at_is)
  where
    tokens : h.1.tokens ≡ k.1.tokens
    tokens = one_tokens source h.1.tokens k.1.tokens h.1.of_source k.1.of_source h.1.has k.1.has

    is : fault ≡ other
    is = one_stop fault other (spoken k.1.tokens) (subst (λ t. Stops fault (spoken t)) tokens h.1.stops) k.1.stops h.0 k.0

    parts : (f g : ParseFault) (m n : ℕ) → f ≡ g → m ≡ n → ◌≡◌ {A = Refusal} (Parse f m) (Parse g n)
    parts f g m n d e = cc

one_types : (derive : Bool) (source : List ℕ) (fault other : TypeFault) → RefusesSource derive source (Types fault) → RefusesSource derive source (Types other) → Types fault ≡ Types other
one_types derive source fault other h k =
    let same = one_unit source h.1.names k.1.names h.1.unit k.1.unit h.1.has k.1.has in
    let first = refused_for fault h.1.names h.1.unit h.0 h.1.refused in
    let second = refused_for other k.1.names k.1.unit k.0 k.1.refused in
    ap Types (some_same fault other (sym first ∙ ap (λ ns. fault_of ns h.1.unit) same.0 ∙ ap (fault_of k.1.names) same.1 ∙ second))

one_call : (graph : Graph) (fault other : CallFault) → fault ≢ calling.Memory → other ≢ calling.Memory → IsCallFault fault graph → IsCallFault other graph → fault ≡ other
one_call graph (calling.Recursion f) (calling.Recursion g) m n h k = parts f.0 g.0 (one_cycle graph f.0 g.0 h k)
  where
    parts : (f g : ℕ) → f ≡ g → ◌≡◌ {A = CallFault} (calling.Recursion (record { 0 = f })) (calling.Recursion (record { 0 = g }))
    parts f g e = cc
one_call graph calling.Memory other m n h k = absurd (m refl)
one_call graph fault calling.Memory m n h k = absurd (n refl)

one_calls : (derive : Bool) (source : List ℕ) (fault other : CallFault) (at place : ℕ) → RefusesSource derive source (Calls fault at) → RefusesSource derive source (Calls other place) → Calls fault at ≡ Calls other place
one_calls derive source fault other at place h k = parts fault other at place is (h.1.at_is ∙ ap (λ f. cycle_place f h.1.program) is ∙ ap (cycle_place other) same.1 ∙ sym k.1.at_is)
  where
    same : (h.1.names ≡ k.1.names) × (h.1.program ≡ k.1.program)
    same = one_program source h.1.names k.1.names h.1.program k.1.program h.1.has k.1.has

    is : fault ≡ other
    is = one_call (graph_of k.1.program) fault other h.0 k.0 (subst (λ p. IsCallFault fault (graph_of p)) same.1 h.1.refused) k.1.refused

    parts : (f g : CallFault) (m n : ℕ) → f ≡ g → m ≡ n → ◌≡◌ {A = Refusal} (Calls f m) (Calls g n)
    parts f g m n d e = cc

one_flow : (derive : Bool) (source : List ℕ) (fault other : FlowFault) → RefusesSource derive source (Flow fault) → RefusesSource derive source (Flow other) → Flow fault ≡ Flow other
one_flow derive source fault other h k =
    let same = outcome_same derive source h.1.names k.1.names h.1.program k.1.program h.1.ranks k.1.ranks h.1.has k.1.has h.1.are_ranks k.1.are_ranks in
    let first = flow_for fault (flow_facts h.1.program h.1.names h.1.ranks (derived_for derive h.1.program)) h.0 h.1.refused in
    let second = flow_for other (flow_facts k.1.program k.1.names k.1.ranks (derived_for derive k.1.program)) k.0 k.1.refused in
    ap Flow (err_same {A = Facts} fault other (sym first ∙ same ∙ second))

-- of two refusals by different steps, the later one's evidence passes the earlier step
pub one_refusal : (derive : Bool) (source : List ℕ) (refusal other : Refusal) → length source ≤ 1048576 → RefusesSource derive source refusal → RefusesSource derive source other → refusal ≡ other
one_refusal derive source TooLong other short h k = absurd (omega (arith, short, h))
one_refusal derive source refusal TooLong short h k = absurd (omega (arith, short, k))
one_refusal derive source Memory other short h k = absurd h
one_refusal derive source refusal Memory short h k = absurd k
one_refusal derive source (Lex fault) (Lex other) short h k = ap Lex (one_fault source fault other h.1 k.1 h.0 k.0)
one_refusal derive source (Lex fault) (Parse other at) short h k = absurd (tokens_pass derive source k.1.tokens.list fault k.1.has h)
one_refusal derive source (Lex fault) (Types other) short h k = absurd (tokens_pass derive source k.1.has.tokens.list fault k.1.has.has h)
one_refusal derive source (Lex fault) (Calls other at) short h k = absurd (tokens_pass derive source k.1.has.has.tokens.list fault k.1.has.has.has h)
one_refusal derive source (Lex fault) (Flow other) short h k = absurd (tokens_pass derive source k.1.has.has.tokens.list fault k.1.has.has.has h)
one_refusal derive source (Parse fault at) (Lex other) short h k = absurd (tokens_pass derive source h.1.tokens.list other h.1.has k)
one_refusal derive source (Parse fault at) (Parse other place) short h k = one_parse derive source fault other at place h k
one_refusal derive source (Parse fault at) (Types other) short h k = absurd (unit_passes derive source k.1.names k.1.unit fault at k.1.has h)
one_refusal derive source (Parse fault at) (Calls other place) short h k = absurd (unit_passes derive source k.1.names k.1.has.unit fault at k.1.has.has h)
one_refusal derive source (Parse fault at) (Flow other) short h k = absurd (unit_passes derive source k.1.names k.1.has.unit fault at k.1.has.has h)
one_refusal derive source (Types fault) (Lex other) short h k = absurd (tokens_pass derive source h.1.has.tokens.list other h.1.has.has k)
one_refusal derive source (Types fault) (Parse other at) short h k = absurd (unit_passes derive source h.1.names h.1.unit other at h.1.has k)
one_refusal derive source (Types fault) (Types other) short h k = one_types derive source fault other h k
one_refusal derive source (Types fault) (Calls other at) short h k = absurd (program_passes derive source k.1.names k.1.program fault k.1.has h)
one_refusal derive source (Types fault) (Flow other) short h k = absurd (program_passes derive source k.1.names k.1.program fault k.1.has h)
one_refusal derive source (Calls fault at) (Lex other) short h k = absurd (tokens_pass derive source h.1.has.has.tokens.list other h.1.has.has.has k)
one_refusal derive source (Calls fault at) (Parse other place) short h k = absurd (unit_passes derive source h.1.names h.1.has.unit other place h.1.has.has k)
one_refusal derive source (Calls fault at) (Types other) short h k = absurd (program_passes derive source h.1.names h.1.program other h.1.has k)
one_refusal derive source (Calls fault at) (Calls other place) short h k = one_calls derive source fault other at place h k
one_refusal derive source (Calls fault at) (Flow other) short h k = absurd (ranks_pass derive source k.1.names k.1.program k.1.ranks fault at k.1.has k.1.are_ranks h)
one_refusal derive source (Flow fault) (Lex other) short h k = absurd (tokens_pass derive source h.1.has.has.tokens.list other h.1.has.has.has k)
one_refusal derive source (Flow fault) (Parse other place) short h k = absurd (unit_passes derive source h.1.names h.1.has.unit other place h.1.has.has k)
one_refusal derive source (Flow fault) (Types other) short h k = absurd (program_passes derive source h.1.names h.1.program other h.1.has k)
one_refusal derive source (Flow fault) (Calls other place) short h k = absurd (ranks_pass derive source h.1.names h.1.program h.1.ranks other place h.1.has h.1.are_ranks k)
one_refusal derive source (Flow fault) (Flow other) short h k = one_flow derive source fault other h k
