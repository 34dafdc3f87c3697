-- The text is the manifest, and the outcome has the lines of what is said beside it.
use Rattle.std.proofs.Common.{◌∙◌, ap, subst, List, ℕ, Vec, Global}
use Rattle.std.proofs.lemmas.Option.{IfSome_then}
use Rattle.scrub_cli.specs.Outcome.{IsWarnedOutcome}
use Rattle.scrub_cli.specs.Remarks.{superblock_remark_lines}
use Rattle.scrub_cli.proofs.commands.answer.manifest_listing.Goals as goal

pub list_manifest-requires-clause-few : goal.list_manifest-requires-clause-few
list_manifest-requires-clause-few g c κs within = IfSome_then c.args.given c.requires.located (λ runs are. are.count)

pub list_manifest-requires-clause-located : goal.list_manifest-requires-clause-located
list_manifest-requires-clause-located g c κs within = IfSome_then c.args.given c.requires.located (λ runs are. are.each)

pub returns-clause-answer : goal.returns-clause-answer
returns-clause-answer g c = record {
  remarks = c.in_ok-manifest.manifest.remarks.items;
  clean = c.in_ok-manifest.manifest.is_clean;
  manifest = c.in_ok-manifest.ensures.manifest;
  ended =
      subst (λ (ls : List ℕ). IsWarnedOutcome c.in_ok-manifest.manifest.is_clean ls c.warned.result)
      (ap (λ (v : Vec ℕ Global). v.items) c.into_bytes.ensures.value
      ∙ c.in_ok-lines.ensures
      ∙ ap superblock_remark_lines c.deref.ensures.value)
      c.warned.ensures;
}
