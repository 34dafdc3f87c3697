-- A listing without lines has its line.
use Rattle.std.proofs.Common.{◌∙◌, ap, subst, List, ℕ}
use Rattle.scrub_cli.specs.Outcome.{IsWarnedOutcome}
use Rattle.scrub_cli.specs.SizesListed.{no_record_line}
use Rattle.scrub_cli.proofs.commands.answer.sizes_listing.Goals as goal

pub returns : goal.returns
returns c = λ known blocks f.
    let listing = c.in_ok-listing.listing in
    record {
      failures = f.failures;
      few = f.few;
      lacking = f.lacking;
      lacks = f.lacks;
      is_clean = listing.is_clean;
      listed = c.in_ok-listing.ensures known.bytes f.lacking known.fails f.failures f.is_front;
      ended =
          subst (λ (ls : List ℕ). IsWarnedOutcome listing.is_clean ls c.warned.result)
          (c.in_ok-lines.ensures ∙ ap no_record_line c.deref.ensures.value) c.warned.ensures;
    }
