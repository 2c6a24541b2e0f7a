-- What the steps of compiling say together, and in which way alone a source can be compiled or refused.
use Rattle.std.proofs.Common.{◌≡◌, ◌⊎◌, ◌≤◌, ℕ, List, ◌∷◌, length, Option, Some, None, refl, sym, ap, subst, inl, inr, ⊎_elim, Bool}
use Rattle.std.specs.Prelude.{◌^◌, IsSomeAnd}
use Rattle.wcc_base.specs.Outside.{Files, StoreState, bytes_of}
use Rattle.wcc_base.specs.declared.status.Status.{Status}
use Rattle.wcc_base.specs.declared.status.Status.TheVariants as status
use Rattle.rv_core.specs.Table.{Table}
use Rattle.c_lexer.specs.declared.LexFault.TheVariants as lexing
use Rattle.c_parser.specs.declared.fault.ParseFault.TheVariants as parsing
use Rattle.types_rules.specs.declared.fault.TypeFault.TheVariants as typing
use Rattle.facts_definitions.specs.declared.facts.FlowFault.TheVariants as flows
use Rattle.types_calls.specs.declared.ranks.CallFault.TheVariants as calling
use Rattle.facts_front.specs.declared.refusal.Refusal.{Refusal as FrontRefusal}
use Rattle.facts_front.specs.declared.refusal.Refusal.TheVariants as front
use Rattle.facts_front.specs.Fronts.{RefusesSource}
use Rattle.elf_image.specs.Text.{text_of}
use Rattle.report_check.specs.Checks.{IsAccepted}
use Rattle.report_text.specs.Lines.{report_text}
use Rattle.report_text.specs.Reports.{Report}
use Rattle.rv_core.specs.Images.{Image}
use Rattle.promise_compiler.specs.declared.refusal.Refusal.{Refusal}
use Rattle.promise_compiler.specs.declared.refusal.Refusal.TheVariants.{Front, Memory}
use Rattle.promise_compiler.specs.Refusals.{Fails}
use Rattle.promise_compiler.specs.Lengths.{AreShort}
use Rattle.facts_laws.proofs.Sources as laws
use Rattle.promise_report.specs.Compiled.{IsCompiled}
use Rattle.command_words.specs.Requests.{CompileRequest, scratchpad_of}
use Rattle.command_perform.specs.declared.compile.Texts.{Texts}
use Rattle.command_perform.specs.Words.{Named, Compile}
use Rattle.command_perform.specs.Lines.{cycles_line}
use Rattle.command_perform.specs.Outputs.{Outputs}
use Rattle.command_perform.specs.Sources.{refusal_status, RefusesProgram}
use Rattle.command_perform.specs.Compiling.{compile_status, compiled_outputs, Compiles, IsCompilable, MakesImage}
use Rattle.command_perform.specs.Ends.{IsEnd, IsRefusal}
use Rattle.command_perform.specs.Gathering.{Fit, contents_of}
use Rattle.command_perform.specs.Tables.{wanted_table}
use Rattle.command_perform.specs.Commands.{wanted_of, IsOfSource}
use Rattle.command_perform.specs.Promises.{CanOnly, CanEnd}
use Rattle.command_perform.proofs.Charges.{no_table_fault}
use Rattle.command_perform.proofs.Evaluations.{one_status}

-- the statuses of a source that has no program with facts
abbrev IsFront : Status → Type 0
IsFront (status.Refused code detail at) = Unit {0}
IsFront (status.Limit which found) = Unit {0}
IsFront s = ⊥

front_status : (derive : Bool) (source : List ℕ) (f : FrontRefusal) → RefusesSource derive source f → IsFront (refusal_status f)
front_status derive source front.TooLong r = tt
front_status derive source (front.Lex (lexing.Bad at)) r = tt
front_status derive source (front.Lex (lexing.Outside at)) r = tt
front_status derive source (front.Lex lexing.Memory) r = absurd (r.0 refl)
front_status derive source (front.Parse (parsing.Syntax token) at) r = tt
front_status derive source (front.Parse (parsing.Deep token) at) r = tt
front_status derive source (front.Parse parsing.Memory at) r = absurd (r.0 refl)
front_status derive source (front.Types (typing.Limit which found)) r = tt
front_status derive source (front.Types (typing.Rule rule at)) r = tt
front_status derive source (front.Types typing.Memory) r = absurd (r.0 refl)
front_status derive source (front.Calls (calling.Recursion function) at) r = tt
front_status derive source (front.Calls calling.Memory at) r = absurd (r.0 refl)
front_status derive source (front.Flow (flows.BadPragma at)) r = tt
front_status derive source (front.Flow (flows.UnknownName at)) r = tt
front_status derive source (front.Flow (flows.NoBound at)) r = tt
front_status derive source (front.Flow (flows.TooOften most)) r = tt
front_status derive source (front.Flow flows.Memory) r = absurd (r.0 refl)
front_status derive source front.Memory r = absurd r

front_refuses : (derive : Bool) (source : List ℕ) (s : Status) → IsFront s → RefusesProgram derive source s → IsRefusal s × RefusesProgram derive source s
front_refuses derive source (status.Refused code detail at) i r = (tt, r)
front_refuses derive source (status.Limit which found) i r = (tt, r)
front_refuses derive source s i r = absurd i

-- why a source isn't compiled, as a status
pub refuses_compile : (derive : Bool) (source : List ℕ) (refusal : Refusal) (s : Status) → s ≡ compile_status refusal → Fails derive source refusal → (s ≡ status.Memory) ⊎ (IsRefusal s × RefusesProgram derive source s)
refuses_compile derive source (Front f) s e r =
    let program : RefusesProgram derive source (refusal_status f) = record { refusal = f; refused = r; status_is = refl } in
    inr (subst (λ (k : Status). IsRefusal k × RefusesProgram derive source k) (sym e) (front_refuses derive source (refusal_status f) (front_status derive source f r) program))
refuses_compile derive source Memory s e r = inl e

-- what is built, as bytes
pub compiles : (derive : Bool) (spm : ℕ) (costs : Table) (source : List ℕ) (image : Image) (report : Report) (t : Texts) → t.image ≡ text_of image → t.report ≡ report_text report → t.line ≡ cycles_line report.cert.cycles report.kind
    → IsCompiled derive spm costs source (text_of image) (report_text report) report → report.cert.cycles ≤ 2 ^ 62 → (length source ≤ 1048576 → AreShort (text_of image) (report_text report)) → Compiles derive spm costs source t
compiles derive spm costs source image report t i r l c b s = record {
  report = report;
  compiled = subst (λ (k : List ℕ). IsCompiled derive spm costs source t.image k report) (sym r) (subst (λ (k : List ℕ). IsCompiled derive spm costs source k (report_text report) report) (sym i) c);
  small = b;
  short = λ k. subst (λ (x : List ℕ). AreShort t.image x) (sym r) (subst (λ (x : List ℕ). AreShort x (report_text report)) (sym i) (s k));
  line_is = l;
}

-- with what the words say
pub makes_image : (asked : CompileRequest) (costs : Table) (source taken : List ℕ) (spm : ℕ) (t : Texts) (made : Outputs) → Compiles asked.derive spm costs taken t → taken ≡ source → spm ≡ scratchpad_of asked → made ≡ compiled_outputs asked t
    → IsEnd made.status × MakesImage asked costs source made
makes_image asked costs source taken spm t made c same is e = (
  subst IsEnd (sym (ap (λ (o : Outputs). o.status) e)) tt,
  record { texts = t; compiles = subst (λ (k : List ℕ). Compiles asked.derive (scratchpad_of asked) costs k t) same (subst (λ (n : ℕ). Compiles asked.derive n costs taken t) is c); made_is = e },
)

-- what is written is found to hold
pub compiled_holds : (derive : Bool) (spm : ℕ) (costs : Table) (source : List ℕ) (t : Texts) → Compiles derive spm costs source t → IsAccepted costs t.image t.report
compiled_holds derive spm costs source t c = record { report = c.report; system = c.compiled.system; holds = c.compiled.holds }

-- a source that has a program isn't refused

pub compilable_passes : (derive : Bool) (source : List ℕ) (s : Status) → length source ≤ 1048576 → IsCompilable derive source → RefusesProgram derive source s → ⊥
compilable_passes derive source s short w r = laws.not_both derive source w.names w.program w.facts r.refusal short w.is_source r.refused

compiled_passes : (derive : Bool) (spm : ℕ) (costs : Table) (source : List ℕ) (t : Texts) (s : Status) → length source ≤ 1048576 → Compiles derive spm costs source t → RefusesProgram derive source s → ⊥
compiled_passes derive spm costs source t s short c r = laws.not_both derive source c.compiled.names c.compiled.program c.compiled.facts r.refusal short c.compiled.is_source r.refused

status_of : (made other : Outputs) → made ≡ other → made.status ≡ other.status
status_of made other e = ap (λ (o : Outputs). o.status) e

-- each kind of source leaves one way to end

compilable_only : (asked : CompileRequest) (source : List ℕ) (tables : List (List ℕ)) → length source ≤ 1048576 → IsOfSource (IsCompilable asked.derive) (source ∷ tables) → CanOnly (Compile asked) (source ∷ tables) status.Done
compilable_only asked source tables short c = record {
  refuses = λ t r. absurd (⊎_elim (λ x. no_table_fault tables c.0 t c.1 x) (λ x. compilable_passes asked.derive source t short c.2 x.2) r);
  makes = λ made m. status_of made _ m.2.made_is;
}

refused_only : (asked : CompileRequest) (source : List ℕ) (tables : List (List ℕ)) (s : Status) → length source ≤ 1048576 → IsOfSource (λ k. RefusesProgram asked.derive k s) (source ∷ tables) → CanOnly (Compile asked) (source ∷ tables) s
refused_only asked source tables s short c = record {
  refuses = λ t r. ⊎_elim (λ x. absurd (no_table_fault tables c.0 t c.1 x)) (λ x. one_status asked.derive source t s short x.2 c.2) r;
  makes = λ made m. absurd (compiled_passes asked.derive (scratchpad_of asked) m.0 source m.2.texts s short m.2.compiles c.2);
}

pub compilable_ends : (asked : CompileRequest) (files : Option Files) (old : StoreState) → old.files ≡ files → IsSomeAnd files (λ fs. Fit (wanted_of (Compile asked)) fs × IsOfSource (IsCompilable asked.derive) (contents_of (wanted_of (Compile asked)) fs)) → CanEnd (Some (Named (Compile asked))) old status.Done
compilable_ends asked None old e c = absurd c
compilable_ends asked (Some fs) old e c = rw e (c.0, compilable_only asked (bytes_of fs asked.source) (contents_of (wanted_table asked.table) fs) c.0.0 c.1)

pub refused_ends : (asked : CompileRequest) (s : Status) (files : Option Files) (old : StoreState) → old.files ≡ files → IsSomeAnd files (λ fs. Fit (wanted_of (Compile asked)) fs × IsOfSource (λ k. RefusesProgram asked.derive k s) (contents_of (wanted_of (Compile asked)) fs)) → CanEnd (Some (Named (Compile asked))) old s
refused_ends asked s None old e c = absurd c
refused_ends asked s (Some fs) old e c = rw e (c.0, refused_only asked (bytes_of fs asked.source) (contents_of (wanted_table asked.table) fs) s c.0.0 c.1)
