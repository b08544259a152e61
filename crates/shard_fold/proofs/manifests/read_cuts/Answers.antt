use Rattle.std.proofs.Common.{eq-eqb, subst, sym}
use Rattle.std.proofs.lemmas.Bool.{ne_eqb}
use Rattle.record_codec.specs.declared.formats.TheConstants.{MANIFEST_FORMAT}
use Rattle.shard_fold.specs.ManifestLaws.{cuts_of_known, cuts_of_none, cuts_of_unknown}
use Rattle.shard_fold.specs.Giving.{Gives}
use Rattle.shard_fold.proofs.manifests.read_cuts.Goals as goal

pub returns-in-None-clause-exact : goal.returns-in-None-clause-exact
returns-in-None-clause-exact c = cuts_of_none c.args.asked c.args.bytes.now (sym c.in-None.ensures)

pub returns-then-format-ne-MANIFEST_FORMAT-clause-exact : goal.returns-then-format-ne-MANIFEST_FORMAT-clause-exact
returns-then-format-ne-MANIFEST_FORMAT-clause-exact c =
    cuts_of_unknown c.args.asked c.args.bytes.now c.in-Some.format (sym c.in-Some.ensures)
    (ne_eqb c.in-Some.format MANIFEST_FORMAT c.if-format-ne-MANIFEST_FORMAT.true)

pub returns-else-format-ne-MANIFEST_FORMAT-clause-exact : goal.returns-else-format-ne-MANIFEST_FORMAT-clause-exact
returns-else-format-ne-MANIFEST_FORMAT-clause-exact c =
    subst (Gives (λ cuts. cuts.items) c.read_as.result) (sym (cuts_of_known c.args.asked c.args.bytes.now c.in-Some.format (sym c.in-Some.ensures)
    (eq-eqb c.in-Some.format MANIFEST_FORMAT c.if-format-ne-MANIFEST_FORMAT.false))) c.read_as.ensures.exact
