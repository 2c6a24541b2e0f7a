-- What is reported of a source holds of its image.
use Rattle.std.proofs.Common.{◌≡◌, ℕ, ◌<◌, List, length, refl, sym, subst, arith}
use Rattle.rv_core.specs.Table.{Table}
use Rattle.elf_image.specs.Loading.{IsLoadable, image_of}
use Rattle.elf_image.specs.Text.{text_of}
use Rattle.code_flow_system.specs.Certificates.{IsGreatest, KeepsMark}
use Rattle.code_flow_system.specs.Systems.{IsSystemOf, System}
use Rattle.code_flow_system.specs.declared.cert.Mark.{Mark}
use Rattle.code_flow_system.specs.declared.cert.Mark.TheVariants as marks
use Rattle.code_flow_answer.specs.declared.bounded.Kind.{Kind}
use Rattle.code_flow_answer.specs.declared.bounded.Kind.TheVariants.{Greatest, Empty, Wide, Spent}
use Rattle.report_check.specs.Checks.{Holds, TellsShares}
use Rattle.report_laws.specs.Typed.{IsTyped}
use Rattle.report_shares.specs.Shares.{SharesFit}
use Rattle.report_text.specs.Forms.{mark_of}
use Rattle.report_text.specs.Lines.{report_text}
use Rattle.report_text.specs.Reports.{Report}
use Rattle.report_text.specs.declared.entries.Share.{Share}
use Rattle.facts_definitions.specs.declared.facts.Facts.{Facts}
use Rattle.facts_sources.specs.Sources.{IsSource}
use Rattle.types_tree.specs.Tree.{Program}
use Rattle.low_ir.specs.Placings.{assignment_of}
use Rattle.low_ir.specs.Programs.{low_of}
use Rattle.asm_program.specs.Functions.{function_in}
use Rattle.compile_stages.specs.Made.{IsMade, high_of}
use Rattle.compile_stages.specs.declared.made.Made.{Made}
use Rattle.compile_report_law.proofs.Openings.{Opens, made_opens}
use Rattle.compile_report_law.specs.Reported.{AreShared, IsReported}
use Rattle.compile_report_law.proofs.Fitting.{shares_fit}
use Rattle.compile_report_law.proofs.Laid.{laid, over, spans_fit}
use Rattle.compile_report_law.proofs.Ranges.{shares}
use Rattle.compile_report_law.proofs.Reports.{is_report, same_kind}

-- shares are told of a greatest bound alone
greatest_shares : (kind : Kind) (mark : Mark) (with_parts own : List Share) → AreShared kind with_parts own → mark ≡ mark_of kind → mark ≡ marks.Greatest → own ≡ with_parts
greatest_shares Greatest mark with_parts own h marked greatest = h
greatest_shares Empty mark with_parts own h marked greatest = absurd (cc)
greatest_shares (Wide pivot) mark with_parts own h marked greatest = absurd (cc)
greatest_shares (Spent columns pivots) mark with_parts own h marked greatest = absurd (cc)

module _ (source : List ℕ) (names : List (List ℕ)) (program : Program) (facts : Facts) (m : Made) (t : Table) (r : Report) (is : IsSource source names program facts) (made : IsMade names program facts m) (reported : IsReported t names facts m r) where
  opens : (f : ℕ) → f < length (over names program facts m t r made reported).functions → Opens (function_in (over names program facts m t r made reported) f) (length facts.functions)
  opens f lt =
      let low = low_of m.code.low in
      let same = made.in_memory.keeps_low.rooms.functions in
      made_opens source names program facts (high_of m) low (assignment_of m.code) is made.carried.carries.functions made.lowered.keeps_program f (omega (arith, same, lt))

  fit : TellsShares r → SharesFit t reported.system r.cert.flow.parts r.shares
  fit tells =
      let fits = spans_fit names program facts m t r made reported in
      let greatest : IsGreatest t reported.system r.cert = subst (λ mark. KeepsMark mark t reported.system r.cert) tells.mark reported.accepted.mark in
      let rs = m.laid.lists.ranges.items in
      let with_parts = shares names facts.functions t reported.system r.cert.flow.parts rs in
      subst (SharesFit t reported.system r.cert.flow.parts) (sym (greatest_shares r.kind r.cert.mark with_parts r.shares reported.shared (same_kind t reported.system r.columns r.cert r.kind reported.kind) tells.mark))
      (shares_fit names facts.functions t reported.system r.cert.flow.parts (laid names program facts m t r made reported) rs made.in_memory.laid.lists.ranges made.in_memory.keeps_low.ranges opens fits.covered fits.calls greatest.in_system)

  pub report_holds : IsTyped r → IsLoadable (text_of m.laid.image) → image_of (text_of m.laid.image) ≡ m.laid.image → (s : System) × Holds t (text_of m.laid.image) (report_text r) r s
  report_holds typed loads same = (
    reported.system,
    record {
      found = record {
        read = record {
          loadable = loads;
          is_text = record {
            is_report = is_report source names program facts m t r is made reported;
            typed = typed;
            sums = reported.restricted.sums;
            text_is = refl;
          };
        };
        system = subst (λ image. IsSystemOf image r.claims reported.system) (sym same) reported.is_system;
      };
      accepted = reported.accepted;
      shares = fit;
    },
  )
