use Rattle.std.proofs.Common.{◌≡◌}
use Rattle.code_flow_system.specs.Claims.{claims_of}
use Rattle.report_reading.specs.Reading.{at_of}
use Rattle.report_reading.proofs.ClaimParts.{claims_pass, few_claims}
use Rattle.report_reading.proofs.middle.claims_at.Goals as goal

pub new-claims-requires : goal.new-claims-requires
new-claims-requires c =
    few_claims (at_of c.args.from.number c.args.from.rest.now) (at_of c.in-Ok.found.1.number c.in-Ok.found.1.rest.now) (at_of c.in-Ok-nevers.found.2.number c.in-Ok-nevers.found.2.rest.now) (at_of c.in-Ok-regions.found.1.number c.in-Ok-regions.found.1.rest.now) (at_of c.in-Ok-loops.found.2.number c.in-Ok-loops.found.2.rest.now) (at_of c.in-Ok-facts.found.2.number c.in-Ok-facts.found.2.rest.now) (claims_of c.in-Ok.found.0.items c.in-Ok-nevers.found.0.items c.in-Ok-regions.found.0.items c.in-Ok-loops.found.0.items c.in-Ok-facts.found.0.items) c.in-Ok-nevers.found.1.items c.in-Ok-loops.found.1.items c.in-Ok-facts.found.1.items
    (record { exits = c.in-Ok.ensures.ok; nevers_by = c.in-Ok-nevers.ensures.ok; regions = c.in-Ok-regions.ensures.ok; loops_by = c.in-Ok-loops.ensures.ok; facts_by = c.in-Ok-facts.ensures.ok }) c.in-Ok-nevers.ensures.form.as_many c.in-Ok-loops.ensures.form.as_many c.in-Ok-facts.ensures.form.as_many

pub returns-clause-ok : goal.returns-clause-ok
returns-clause-ok c =
    let made : c.new-claims.result ≡ (claims_of c.in-Ok.found.0.items c.in-Ok-nevers.found.0.items c.in-Ok-regions.found.0.items c.in-Ok-loops.found.0.items c.in-Ok-facts.found.0.items) = c.new-claims.ensures in
    rw made (claims_pass (at_of c.args.from.number c.args.from.rest.now) (at_of c.in-Ok.found.1.number c.in-Ok.found.1.rest.now) (at_of c.in-Ok-nevers.found.2.number c.in-Ok-nevers.found.2.rest.now) (at_of c.in-Ok-regions.found.1.number c.in-Ok-regions.found.1.rest.now) (at_of c.in-Ok-loops.found.2.number c.in-Ok-loops.found.2.rest.now) (at_of c.in-Ok-facts.found.2.number c.in-Ok-facts.found.2.rest.now) (claims_of c.in-Ok.found.0.items c.in-Ok-nevers.found.0.items c.in-Ok-regions.found.0.items c.in-Ok-loops.found.0.items c.in-Ok-facts.found.0.items) c.in-Ok-nevers.found.1.items c.in-Ok-loops.found.1.items c.in-Ok-facts.found.1.items (record { exits = c.in-Ok.ensures.ok; nevers_by = c.in-Ok-nevers.ensures.ok; regions = c.in-Ok-regions.ensures.ok; loops_by = c.in-Ok-loops.ensures.ok; facts_by = c.in-Ok-facts.ensures.ok }))

pub returns-clause-form : goal.returns-clause-form
returns-clause-form c =
    let made : c.new-claims.result ≡ (claims_of c.in-Ok.found.0.items c.in-Ok-nevers.found.0.items c.in-Ok-regions.found.0.items c.in-Ok-loops.found.0.items c.in-Ok-facts.found.0.items) = c.new-claims.ensures in
    rw made (record {
      each_never = c.in-Ok-nevers.ensures.form;
      each_loop = c.in-Ok-loops.ensures.form;
      each_fact = c.in-Ok-facts.ensures.form;
      order = record {
        exits = c.in-Ok.ensures.ascend;
        nevers = c.in-Ok-nevers.ensures.form.ascend;
        regions = c.in-Ok-regions.ensures.form.ascend;
        named = c.in-Ok-regions.ensures.form.named;
        apart = c.in-Ok-regions.ensures.form.apart;
        loops = c.in-Ok-loops.ensures.form.ascend;
        facts = c.in-Ok-facts.ensures.form.form;
      };
    })
