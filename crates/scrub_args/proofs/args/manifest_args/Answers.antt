-- The arguments of `manifest` are those that were found.
use Rattle.std.proofs.Common.{◌∙◌, sym}
use Rattle.scrub_args.proofs.args.manifest_args.Goals as goal

pub returns : goal.returns
returns c = record {
  disk = record { scan = c.in_ok-scan_args.ensures; resets = c.in_ok-resets.ensures };
  runs = c.in_ok-given_texts.ensures;
  one = sym c.has_runs_and_resets.ensures ∙ c.if-has_runs_and_resets.false;
}
