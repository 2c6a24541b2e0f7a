use Rattle.std.proofs.Common.{refl, sym, subst, arith}
use Rattle.code_flow_system.specs.Systems.{IsSystemOf}
use Rattle.elf_image.specs.Text.{text_of}
use Rattle.facts_front.proofs.Ways.{one_way}
use Rattle.report_check.proofs.ExclusionLemmas.{holds_by}
use Rattle.report_text.specs.Lines.{report_text}
use Rattle.wcc_compile.proofs.Shared.{cycles_greatest}
use Rattle.wcc_compile.proofs.laws.reported_are_compiled.Goals as goal

pub returns : goal.returns
returns c = λ derive spm source names program facts m t r by made few reported loads typed.
    let is = one_way derive source names program facts by in
    let taken = c.made_take_what_is_placed.ensures source names program facts m is made in
    let found = c.reported_hold.ensures source names program facts m t r is made reported typed loads.loadable loads.same in
    let system = reported.system in
    let own = subst (λ i. IsSystemOf i r.claims system) (sym loads.same) reported.is_system in
    let holds = holds_by t (text_of m.laid.image) (report_text r) r found.0 system (record { read = found.1.found.read; system = own }) found.1 in
    record {
      names = names;
      program = program;
      facts = facts;
      is_source = by;
      image = m.laid.image;
      written = record {
        text_is = refl;
        loads = loads.same;
        scratchpad = omega (arith, taken, few);
        report_is = holds.found.read.is_text;
        version = reported.version;
      };
      runs = c.reported_run_as_sources.ensures source names program facts m t r is made reported;
      system = system;
      claims = record {
        told = c.reported_tell_facts.ensures source names program facts m t r is made reported;
        lined = c.reported_are_lined.ensures source names program facts m t r system is made reported reported.is_system;
      };
      holds = holds;
      greatest = cycles_greatest t _ _ r system reported.kind holds;
    }
