-- The text is the archive, and the outcome has the lines of what is said beside it.
use Rattle.std.proofs.Common.{◌++◌, ◌∙◌, ap, subst, List, ℕ, Vec, Global}
use Rattle.std.proofs.lemmas.Option.{IfSome_then}
use Rattle.scrub_cli.specs.Outcome.{IsOutcomeWith}
use Rattle.scrub_cli.specs.Remarks.{remark_lines}
use Rattle.scrub_cli.proofs.commands.shards.archived.Goals as goal

pub read_shards-requires-clause-few : goal.read_shards-requires-clause-few
read_shards-requires-clause-few g c κs within = IfSome_then c.args.given c.requires.located (λ runs are. are.count)

pub read_shards-requires-clause-located : goal.read_shards-requires-clause-located
read_shards-requires-clause-located g c κs within = IfSome_then c.args.given c.requires.located (λ runs are. are.each)

pub returns-clause-answer : goal.returns-clause-answer
returns-clause-answer g c = record {
  remarks = c.in_ok-archive.archive.remarks.items;
  archive = c.in_ok-archive.ensures.archive;
  ended =
      subst (λ (ls : List ℕ). IsOutcomeWith ls c.with_lines.result)
      (ap (λ (v : Vec ℕ Global). v.items) c.into_bytes.ensures.value
      ∙ c.in_ok-append_lines.ensures
      ∙ ap (λ (b : List ℕ). b ++ remark_lines c.deref.result.now) c.new-lines.ensures.bytes
      ∙ ap remark_lines c.deref.ensures.value)
      c.with_lines.ensures;
}
